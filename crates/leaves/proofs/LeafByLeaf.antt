-- What the reading of a repetition keeps: whether it is filled and its first broken check, told from where the reading stands.
use mathlib.Core.Path.{◌≡◌, refl, sym, ap, ◌∙◌}
use Prim.Native.Nat.{ℕ, ◌+◌, ◌-◌, ◌≤◌, ◌<◌}
use native.Mathlib.Omega.{arith}
use mathlib.Core.Bool.{Bool, true, false, not, ◌&&◌, ◌||◌}
use mathlib.Core.List.{List, [], ◌∷◌, flat_map}
use lib.ListN.{length, get_or, drop}
use lib.Seq.{get_or-drop}
use lib.Dec.{ltb, leb}
use borrow.Author.Tests.{lt-ltb, le-ltb, ltb-true, leb-true}
use Rattle.profile.specs.Numbers.{component_column, row_size, star_column, subcomponent_column}
use Rattle.text.specs.Bytes.{Text, empty, some, within}
use Rattle.text.specs.declared.marks.Marks.{Marks}
use Rattle.text.proofs.Tests.{both}
use Rattle.text.proofs.Lists.{or_assoc, or-false}
use Rattle.cursor.specs.declared.Cursor.{Cursor}
use Rattle.text.specs.declared.span.Span.{Span}
use Rattle.parts.specs.Split.{split, piece}
use Rattle.parts.specs.Start.{start}
use Rattle.parts.specs.Descent.{step}
use Rattle.parts.specs.Span.{part_text}
use Rattle.parts.specs.Span.{span}
use Rattle.cursor.specs.Cursor.{IsPiece}
use Rattle.parts.proofs.Split.{piece_le}
use Rattle.parts.proofs.Descent.{within-piece}
use Rattle.cursor.proofs.Moving.{cursor-text, cursor_past}
use Rattle.profile.specs.Table.{Leaf}
use Rattle.profile.specs.Numbers as row
use Rattle.profile.specs.Order.{reason_fits}
use Rattle.codes.specs.Inner.{Ascends, next, Lists, leaves_at}
use Rattle.std.specs.Prelude.{None, Result, Ok, Err}
use Rattle.checks.specs.declared.reasons.Reason.{Reason}
use Rattle.checks.specs.declared.reasons.Reason.TheVariants.{Missing}
use Rattle.leaves.specs.declared.repetition.ReadRepetition.{ReadRepetition}
use Rattle.checks.specs.Place.{Place, place}
use Rattle.checks.specs.Repetition.{leaf_in}
use Rattle.checks.proofs.Filled.{none_filled, no_leaf}
use Rattle.checks.specs.View.{is_filled}
use Rattle.checks.specs.Repetition.{entries_of}
use Rattle.checks.specs.Fault.{Verdict, accepted, fault, leaf_checks, repetition_checks, first_broken}
use Rattle.leaves.specs.Judged.{told, told_in, ReadsMissing, ReadsRepetition}
use Rattle.codes.proofs.RowSteps.{rows_next, rows_none}
use Rattle.parts.proofs.Descent.{part-nil}
use Rattle.leaves.proofs.LeafRule.{rule-missing, rule-empty}
use Rattle.leaves.proofs.Breaks.{or_else, or_else_none, broken-flat, broken_at, told_at, told_none, told_kept}

-- the first broken check of these leaves
abbrev pub broken : Marks → List Leaf → Text → Text → ℕ → ℕ → ℕ → Verdict
broken q ls s n o f k = first_broken (repetition_checks q n o f (record { number = k; entries = entries_of q ls s }))

length_none : (t : Text) (n : ℕ) → n ≡ n + length t → t ≡ []
length_none [] n e = refl
length_none (b ∷ t) n e = absurd (omega arith)

module _ (q : Marks) (s : Text) (c : Cursor) (h : IsPiece q.component s c) (last : length s ≤ c.end) where
  piece-missing : (k : ℕ) → c.number < k → piece k (split q.component s) ≡ []
  piece-missing k l =
      length_none (piece k (split q.component s)) c.end (cursor_past q.component s c.number c.start c.end k h l last).ends

  leaf-missing : (k b : ℕ) → c.number < k → leaf_in q s k b ≡ leaf_in q [] k b
  unfolding part_text
  leaf-missing k b l = rw (piece-missing k l) (part-nil (step q.subcomponent b ∷ []) ∙ sym (no_leaf q k b))

  pub entries-missing : (k : ℕ) (ls : List Leaf) → Ascends k ls → c.number < k → entries_of q ls s ≡ entries_of q ls []
  entries-missing k [] a l = refl
  entries-missing k (x ∷ ls) (next i _ r) l =
      rw (leaf-missing x.component x.subcomponent (omega arith), entries-missing x.component ls r (omega arith))

-- of all leaves these are left to be read; that was found before them
pub record Left (q : Marks) (s : Text) (all ls : List Leaf) (found : ReadRepetition) : Type 0 where
  pub fills : is_filled (entries_of q all s) ≡ found.filled || is_filled (entries_of q ls s)
  pub breaks : (n : Text) (o f k : ℕ) → broken q all s n o f k ≡ or_else (told_in (place n o f k) found.broken) (broken q ls s n o f k)

abbrev pub nothing : ReadRepetition
nothing = record { filled = false; broken = None }

module _ (q : Marks) (s : Text) where
  pub left-all : (all : List Leaf) → Left q s all all nothing
  left-all all = record { fills = refl; breaks = λ n o f k. refl }

  broken-next : (l : Leaf) (ls : List Leaf) (n : Text) (o f k : ℕ) (r : Result Unit Reason)
      → ((p : Place) → told p r ≡ first_broken (leaf_checks q p l (leaf_in q s l.component l.subcomponent)))
      → broken q (l ∷ ls) s n o f k ≡ or_else (told_in (place n o f k) (broken_at r l.component l.subcomponent)) (broken q ls s n o f k)
  broken-next l ls n o f k r h =
      rw (told_at (place n o f k) r l.component l.subcomponent, h (place n o f k l.component l.subcomponent)) (broken-flat _ _ (entries_of q ls s))

  module _ (all ls : List Leaf) (l : Leaf) (found : ReadRepetition) (h : Left q s all (l ∷ ls) found) (here : Bool) (fills : here ≡ not (empty (leaf_in q s l.component l.subcomponent))) where
    fills-on : is_filled (entries_of q all s) ≡ found.filled || here || is_filled (entries_of q ls s)
    unfolding some
    fills-on = h.fills ∙ rw fills (sym (or_assoc found.filled (not (empty (leaf_in q s l.component l.subcomponent))) (is_filled (entries_of q ls s))))

    -- nothing was broken before this leaf
    pub left-judged : found.broken ≡ None → (r : Result Unit Reason) → ((p : Place) → told p r ≡ first_broken (leaf_checks q p l (leaf_in q s l.component l.subcomponent)))
        → Left q s all ls (record { filled = found.filled || here; broken = broken_at r l.component l.subcomponent })
    left-judged e r g =
        record {
          fills = fills-on;
          breaks = λ n o f k. h.breaks n o f k ∙ rw (told_none (place n o f k) found.broken e) (broken-next l ls n o f k r g);
        }

    -- something was
    pub left_passed : (found.broken ≡ None → ⊥)
        → Left q s all ls (record { filled = found.filled || here; broken = found.broken })
    left_passed e =
        record {
          fills = fills-on;
          breaks = λ n o f k. h.breaks n o f k ∙ told_kept (place n o f k) found.broken e _ ∙ sym (told_kept (place n o f k) found.broken e _);
        }

  -- no leaf is left
  pub left-none : (all : List Leaf) (found : ReadRepetition) → Left q s all [] found → ReadsRepetition q all s found
  unfolding some flat_map first_broken
  left-none all found h =
      record {
        filled = sym (h.fills ∙ or-false found.filled);
        first = λ n o f k. sym (h.breaks n o f k ∙ or_else_none (told_in (place n o f k) found.broken));
      }

  -- those left are all missing
  module _ (all ls : List Leaf) (found : ReadRepetition) (h : Left q s all ls found) (none : entries_of q ls s ≡ entries_of q ls []) where
    filled-before : found.filled ≡ is_filled (entries_of q all s)
    filled-before = sym (h.fills ∙ rw (none, none_filled q ls) (or-false found.filled))

    pub left-broken : (found.broken ≡ None → ⊥) → ReadsRepetition q all s found
    left-broken e =
        record {
          filled = filled-before;
          first = λ n o f k. sym (h.breaks n o f k ∙ told_kept (place n o f k) found.broken e _);
        }

    pub left-missing : found.broken ≡ None → (r : ReadRepetition) → r.filled ≡ found.filled
        → ((n : Text) (o f k : ℕ) → told_in (place n o f k) r.broken ≡ broken q ls [] n o f k) → ReadsRepetition q all s r
    left-missing e r i g =
        record {
          filled = i ∙ filled-before;
          first = λ n o f k. g n o f k ∙ sym (h.breaks n o f k ∙ rw (told_none (place n o f k) found.broken e, none));
        }

-- a text that stands between two places is empty where they are one
ltb-some : (t : Text) (a e : ℕ) → e ≡ a + length t → ltb a e ≡ not (empty t)
ltb-some [] a e h = le-ltb a e (omega (arith, h))
ltb-some (b ∷ t) a e h = lt-ltb a e (omega (arith, h))

-- a piece lies in its text, whatever the separator
pub piece_inside : (n : ℕ) (t : Text) (sep : ℕ) {p : Span} → p ≡ span (start sep n t) (piece n (split sep t)) → (p.start ≤ p.end) × (p.end ≤ length t)
piece_inside n t sep found = rw found (omega arith, piece_le sep n t)

-- a subcomponent of the component that a cursor stands at
module _ (q : Marks) (s : Text) (c : Cursor) (h : IsPiece q.component s c) (b : ℕ) (p : Span) (found : p ≡ span (start q.subcomponent b (within c.start c.end s)) (piece b (split q.subcomponent (within c.start c.end s)))) where
  abbrev component : Text
  component = within c.start c.end s

  ends : p.end ≡ p.start + length (piece b (split q.subcomponent component))
  ends = rw found

  leaf-is : piece b (split q.subcomponent component) ≡ leaf_in q s c.number b
  unfolding part_text
  leaf-is = rw (cursor-text q.component s c h)

  leaf-text : within p.start p.end component ≡ leaf_in q s c.number b
  leaf-text = within-piece component q.subcomponent b p.start p.end (ap (λ (r : Span). r.start) found) ends ∙ leaf-is

  leaf-some : ltb p.start p.end ≡ not (empty (leaf_in q s c.number b))
  leaf-some = rw (← leaf-is) (ltb-some (piece b (split q.subcomponent component)) p.start p.end ends)

-- the leaves of the rows from one place up to another
abbrev pub leaves : List ℕ → ℕ → ℕ → List Leaf
leaves table at end = leaves_at table (record { start = at; end = end })

-- where the reading stands
pub record Reading (s : Text) (q : Marks) (table : List ℕ) (first end : ℕ) (found : ReadRepetition) (cursor : Cursor) (at : ℕ) : Type 0 where
  pub order : at ≤ end
  pub inside : end ≤ length table
  pub piece : IsPiece q.component s cursor
  pub ascends : Ascends cursor.number (leaves table at end)
  pub left : Left q s (leaves table first end) (leaves table at end) found

pub rises : (k : ℕ) (l : Leaf) (ls : List Leaf) → Ascends k (l ∷ ls) → (k ≤ l.component) × (reason_fits l.list ≡ true) × Ascends l.component ls
rises k l ls (next a b r) = (a, b, r)

module _ {s : Text} {q : Marks} {table : List ℕ} where
  pub reading-first : {r : Span} {c : Cursor} → Lists table r (leaves_at table r) → IsPiece q.component s c × (c.number ≡ 1)
      → Reading s q table r.start r.end nothing c r.start
  reading-first {r} h p =
      record {
        order = omega (arith, h.some);
        inside = h.inside;
        piece = p.0;
        ascends = rw p.1 h.ascends;
        left = left-all q s (leaves_at table r);
      }

  module _ {first end : ℕ} {found : ReadRepetition} {c : Cursor} {at : ℕ} (w : Reading s q table first end found c at) where
    pub reading-none : end - at < row_size → ReadsRepetition q (leaves table first end) s found
    reading-none none = left-none q s (leaves table first end) found (rw (rows_none table at end none) at w.left)

    -- a leaf's row is ahead
    module _ (more : row_size ≤ end - at) where
      abbrev l : Leaf
      l = row.leaf_of (drop at table)

      abbrev rest : List Leaf
      rest = leaves table (at + row_size) end

      rise : (c.number ≤ l.component) × (reason_fits l.list ≡ true) × Ascends l.component rest
      rise = rises c.number l rest (rw (rows_next table at end more) at w.ascends)

      left : Left q s (leaves table first end) (l ∷ rest) found
      left = rw (rows_next table at end more) at w.left

      pub reading-number : c.number ≤ get_or table (at + component_column) 0
      reading-number = rw (← get_or-drop at table component_column 0) rise.0

      pub reading-reason : reason_fits l.list ≡ true
      reading-reason = rise.1

      -- its component is after the last
      module _ (missing : ltb c.number (get_or table (at + component_column) 0) && leb (length s) c.end ≡ true) where
        none_left : entries_of q (leaves table at end) s ≡ entries_of q (leaves table at end) []
        none_left =
            let b = both (ltb c.number (get_or table (at + component_column) 0)) (leb (length s) c.end) missing in
            let last = leb-true (length s) c.end b.1 in
            let less : c.number < l.component = rw (get_or-drop at table component_column 0) (ltb-true c.number (get_or table (at + component_column) 0) b.0) in
            rw (rows_next table at end more, leaf-missing q s c w.piece last l.component l.subcomponent less, entries-missing q s c w.piece last l.component rest rise.2 less)

        pub reading-broken : (found.broken ≡ None → ⊥) → ReadsRepetition q (leaves table first end) s found
        reading-broken e = left-broken q s (leaves table first end) (leaves table at end) found w.left none_left e

        pub reading-missing : found.broken ≡ None → (r : ReadRepetition) → ReadsMissing (leaves table at end) found.filled r → ReadsRepetition q (leaves table first end) s r
        reading-missing e r g = left-missing q s (leaves table first end) (leaves table at end) found w.left none_left e r g.handed-on (g.first q)

      -- its component and its text are found
      module _ {d : Cursor} (moved : IsPiece q.component s d × (d.number ≡ get_or table (at + component_column) 0)) {p : Span} (found_at : p ≡ span (start q.subcomponent (get_or table (at + subcomponent_column) 0) (within d.start d.end s)) (piece (get_or table (at + subcomponent_column) 0) (split q.subcomponent (within d.start d.end s)))) where
        abbrev text : Text
        text = leaf_in q s l.component l.subcomponent

        same-leaf : leaf_in q s d.number (get_or table (at + subcomponent_column) 0) ≡ text
        same-leaf = rw (moved.1, get_or-drop at table component_column 0, get_or-drop at table subcomponent_column 0)

        same_text : within p.start p.end (within d.start d.end s) ≡ text
        same_text = leaf-text q s d moved.0 (get_or table (at + subcomponent_column) 0) p found_at ∙ same-leaf

        fills : ltb p.start p.end ≡ not (empty text)
        fills = rw (← same-leaf) (leaf-some q s d moved.0 (get_or table (at + subcomponent_column) 0) p found_at)

        ascends-on : Ascends d.number rest
        ascends-on = rw (moved.1, ← get_or-drop at table component_column 0) rise.2

        pub reading-judged : found.broken ≡ None → (r : Result Unit Reason)
            → ((x : Place) → told x r ≡ first_broken (leaf_checks q x l (within p.start p.end (within d.start d.end s))))
            → Reading s q table first end (record { filled = found.filled || ltb p.start p.end; broken = broken_at r (get_or table (at + component_column) 0) (get_or table (at + subcomponent_column) 0) }) d (at + row_size)
        reading-judged e r g =
            record {
              order = omega arith;
              inside = w.inside;
              piece = moved.0;
              ascends = ascends-on;
              left = rw (← get_or-drop at table component_column 0, ← get_or-drop at table subcomponent_column 0) (left-judged q s (leaves table first end) rest l found left (ltb p.start p.end) fills e r (λ x. g x ∙ ap (λ (y : Text). first_broken (leaf_checks q x l y)) same_text));
            }

        pub reading-passed : (found.broken ≡ None → ⊥)
            → Reading s q table first end (record { filled = found.filled || ltb p.start p.end; broken = found.broken }) d (at + row_size)
        reading-passed e =
            record {
              order = omega arith;
              inside = w.inside;
              piece = moved.0;
              ascends = ascends-on;
              left = left_passed q s (leaves table first end) rest l found left (ltb p.start p.end) fills e;
            }

-- leaves that are all missing: where the search for a required one stands
pub record Search (table : List ℕ) (first end at : ℕ) : Type 0 where
  pub order : at ≤ end
  pub inside : end ≤ length table
  pub left : (q : Marks) → Left q [] (leaves table first end) (leaves table at end) nothing

module _ {table : List ℕ} {first end : ℕ} where
  pub search_first : (first ≤ end) × (end ≤ length table) → Search table first end first
  search_first h = record { order = h.0; inside = h.1; left = λ q. left-all q [] (leaves table first end) }

  module _ {at : ℕ} (w : Search table first end at) where
    pub search_none : end - at < row_size → (q : Marks) (n : Text) (o f k : ℕ) → accepted ≡ broken q (leaves table first end) [] n o f k
    search_none none q = (left-none q [] (leaves table first end) nothing (rw (rows_none table at end none) at (w.left q))).first

    module _ (more : row_size ≤ end - at) where
      judged : (q : Marks) (r : Result Unit Reason) → ((p : Place) → told p r ≡ first_broken (leaf_checks q p (row.leaf_of (drop at table)) []))
          → Left q [] (leaves table first end) (leaves table (at + row_size) end) (record { filled = false; broken = broken_at r (get_or (drop at table) component_column 0) (get_or (drop at table) subcomponent_column 0) })
      judged q r g =
          let l = row.leaf_of (drop at table) in
          let e = no_leaf q l.component l.subcomponent in
          left-judged q [] (leaves table first end) (leaves table (at + row_size) end) l nothing (rw (rows_next table at end more) at (w.left q)) false (rw e) refl r (rw e g)

      pub search_found : get_or table (at + star_column) 0 ≡ 1 → (q : Marks) (n : Text) (o f k : ℕ)
          → fault (place n o f k (get_or table (at + component_column) 0) (get_or table (at + subcomponent_column) 0)) 3 ≡ broken q (leaves table first end) [] n o f k
      search_found e q =
          rw (← get_or-drop at table component_column 0, ← get_or-drop at table subcomponent_column 0)
          (left-broken q [] (leaves table first end) (leaves table (at + row_size) end) _ (judged q (Err Missing) (rule-missing q table at [] refl e)) refl (λ z. cc z)).first

      pub search_on : (get_or table (at + star_column) 0 ≡ 1 → ⊥) → Search table first end (at + row_size)
      search_on e =
          record {
            order = omega arith;
            inside = w.inside;
            left =
                λ q.
                let h = judged q (Ok tt) (rule-empty q table at [] refl e) in
                record { fills = h.fills; breaks = h.breaks };
          }
