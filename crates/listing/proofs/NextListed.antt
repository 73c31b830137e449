-- What the walk to the next listed segment keeps: those that are passed over are not listed.
use mathlib.Core.Path.{◌≡◌, refl, sym, ap, ◌∙◌}
use Prim.Native.Nat.{ℕ, ◌+◌, ◌-◌, ◌≤◌, ◌<◌}
use native.Mathlib.Nat.{zero-add}
use native.Mathlib.Omega.{arith}
use mathlib.Core.Bool.{true, not}
use mathlib.Core.List.{List, [], ◌∷◌}
use lib.ListN.{length, get_or, drop, length-take}
use lib.Seq.{get_or-take, get_or-drop}
use lib.Dec.{eqb}
use borrow.Author.Tests.{ne_eqb}
use Rattle.text.specs.Bytes.{Text, cr, keep, within}
use Rattle.parts.specs.Start.{reach}
use Rattle.parts.proofs.Descent.{within-length}
use Rattle.parts.proofs.Reach.{ended-end}
use Rattle.frame.specs.Segments.{segments, name}
use Rattle.frame.proofs.Names.{three}
use Rattle.profile.specs.Table.{is_listed}
use Rattle.profile.specs.Numbers.{segment_number, table_of}
use Rattle.profile.specs.Order.{Sound}
use Rattle.codes.proofs.Numbered.{no_number}
use Rattle.checks.specs.View.{listed_segments}
use Rattle.listing.specs.Listing.{count_from, Opens, Next}
use Rattle.codes.proofs.Rules.{listed-number}
use Rattle.listing.proofs.Counted.{segment-next, opens-behind, count-on, other_name}

pub record Passed (m : Text) (at start end : ℕ) : Type 0 where
  pub low : at ≤ start
  pub inside : start ≤ length m
  pub ends : end ≡ start + reach cr (drop start m)
  pub opens : Opens m start
  pub unlisted : (t : List ℕ) → Sound t → listed_segments (table_of t) (drop at m) ≡ listed_segments (table_of t) (drop start m)
  pub counts : (n : Text) → 1 ≤ segment_number n → count_from m at n ≡ count_from m start n

pub passed_first : (m : Text) (at end : ℕ) → at ≤ length m → Opens m at → end ≡ at + reach cr (drop at m) → Passed m at at end
passed_first m at end l o e =
    record { low = omega arith; inside = l; ends = e; opens = o; unlisted = λ t h. refl; counts = λ n h. refl }

name-three : (s : Text) → 3 ≤ length s → name s ≡ three s
name-three [] h = absurd (omega arith)
name-three (x ∷ []) h = absurd (omega arith)
name-three (x ∷ y ∷ []) h = absurd (omega arith)
name-three (x ∷ y ∷ z ∷ s) h = refl

module _ {m : Text} {at start end : ℕ} (w : Passed m at start end) where
  module _ (more : end < length m) where
    abbrev s : Text
    s = within start end m

    next : segments (drop start m) ≡ s ∷ segments (drop (end + 1) m)
    next = segment-next m start end w.ends more

    long : length s ≡ end - start
    long = within-length m start end (omega (arith, w.ends)) (omega arith)

    -- its name, byte by byte
    at-start : (i : ℕ) → i < end - start → get_or s i 0 ≡ get_or m (start + i) 0
    at-start i h = rw (get_or-take, get_or-drop)

    named : (k : ℕ) → 3 ≤ end - start → k ≡ segment_number (get_or m start 0 ∷ get_or m (start + 1) 0 ∷ get_or m (start + 2) 0 ∷ []) → segment_number (name s) ≡ k
    named k l e =
        let z : start + 0 ≡ start = omega arith in
        rw (name-three s (omega (arith, long)), at-start 0 (omega arith), at-start 1 (omega arith), at-start 2 (omega arith), z) (sym e)

    listed : (t : List ℕ) → Sound t → (k : ℕ) → segment_number (name s) ≡ k → is_listed (table_of t) (name s) ≡ not (eqb k 0)
    listed t sound k e = listed-number t sound (name s) ∙ ap (λ (n : ℕ). not (eqb n 0)) e

    pub passed-listed : {k : ℕ} → 3 ≤ end - start → k ≡ segment_number (get_or m start 0 ∷ get_or m (start + 1) 0 ∷ get_or m (start + 2) 0 ∷ [])
        → (k ≡ 0 → ⊥) → (t : List ℕ) → Sound t → Next (table_of t) m at start end k
    unfolding keep
    passed-listed {k} l e n t sound =
        let number = named k l e in
        let is : is_listed (table_of t) (name s) ≡ true = listed t sound k number ∙ ap not (ne_eqb k 0 n) in
        record {
          low = w.low;
          here = record { opens = w.opens; ends = w.ends; high = more; number = (number, omega (arith, n)) };
          first = w.unlisted t sound ∙ rw (next, is);
          counts = w.counts;
        }

    on : (end' : ℕ) → segment_number (name s) ≡ 0 → end' ≡ end + 1 + reach cr (drop (end + 1) m) → Passed m at (end + 1) end'
    unfolding keep
    on end' e e' =
        record {
          low = omega (arith, w.low, w.ends);
          inside = omega arith;
          ends = e';
          opens = opens-behind m start end w.ends more;
          unlisted = λ t sound. w.unlisted t sound ∙ rw (next, listed t sound 0 e);
          counts = λ n h. w.counts n h ∙ count-on m start end w.ends more n ∙ rw (other_name n (name s) h e, zero-add);
        }

    pub passed-other : {k end' : ℕ} → 3 ≤ end - start → k ≡ segment_number (get_or m start 0 ∷ get_or m (start + 1) 0 ∷ get_or m (start + 2) 0 ∷ [])
        → k ≡ 0 → end' ≡ end + 1 + reach cr (drop (end + 1) m) → Passed m at (end + 1) end'
    passed-other {k} {end'} l e z e' = on end' (named k l e ∙ z) e'

    -- fewer than three bytes are no name
    pub passed-short : {end' : ℕ} → end - start < 3 → end' ≡ end + 1 + reach cr (drop (end + 1) m) → Passed m at (end + 1) end'
    passed-short {end'} l e' = on end' (no_number (name s) (λ e. omega (arith, e, long, length-take 3 s))) e'

  pub passed-all : length m ≤ end → (t : List ℕ) → Sound t → listed_segments (table_of t) (drop at m) ≡ []
  unfolding keep
  passed-all none t sound = w.unlisted t sound ∙ rw (ended-end cr m start end w.inside w.ends none)
