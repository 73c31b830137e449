-- A struck segment is seen as the segment was.
use mathlib.Core.Path.{◌≡◌, refl, sym, ap, ◌∙◌}
use Prim.Native.Nat.{ℕ, zero, suc}
use native.Mathlib.Omega.{arith}
use mathlib.Core.Logic.{◌⊎◌, inl, inr}
use mathlib.Core.Bool.{Bool, true, false, ◌&&◌}
use mathlib.Core.List.{List, [], ◌∷◌, flat_map}
use lib.ListN.{length}
use lib.Dec.{eqb, leb, ltb}
use borrow.Author.Tests.{eq-eqb, leb-true, le-ltb}
use Rattle.text.specs.Bytes.{Text, pick, empty, some, keep, same}
use Rattle.text.specs.declared.marks.Marks.{Marks}
use Rattle.text.proofs.Tests.{not-true, both, same_true}
use Rattle.text.proofs.Lists.{All, and_both, or_left, all_map, all_both, all_keep, all-kept, every-all, some_mono, some-flat_map, map_same, flat_map-same, all-flat_map, Member, all_members, some-kept}
use Rattle.parts.specs.Split.{split}
use Rattle.frame.specs.Segments.{name, field, unsplit}
use Rattle.profile.specs.Table.{Table, Leaf, Listed, leaf, named_by_field, Usage, Row, Rule, rules_of, leaves_in}
use Rattle.profile.proofs.Gathered.{RowOk, RuleOk, gathered-all}
use Rattle.reader.proofs.Leaf.{count-is, leaf-beyond}
use Rattle.reader.specs.Place.{leaf_at, repetitions}
use Rattle.reader.specs.View.{Entry, Field, entries_at, is_filled, filled_up_to, named_in, field_seen, segment_seen}
use Rattle.striking.specs.Strike.{has_leaf, rows_at, has_field, field_leaves, strike_field, strike_segment}
use Rattle.profile.specs.Fit.{lists_component, has_row, namer_listed, allows_one, row_fit, fit}
use Rattle.striking.proofs.Shrink.{count-rewritten, rewritten-empty}
use Rattle.striking.proofs.Kept.{unless, strike_in, in_shrinks, name-struck, field-struck, unsplit-struck, leaf-struck}

-- 1. A leaf with a row is listed
lists-leaf : (T : Table) (names : ℕ → Text) (c : ℕ) (x : Listed) → lists_component c x ≡ true
    → some (λ (l : Leaf). eqb l.component c && eqb l.subcomponent 1) (leaves_in T names x) ≡ true
unfolding some
lists-leaf T names c (leaf l) e = or_left (eqb l.component c && eqb l.subcomponent 1) false e
lists-leaf T names c (named_by_field g) e = not-true e

row_listed : (T : Table) (names : ℕ → Text) (n : Text) (f c : ℕ) → has_row T n f c ≡ true
    → has_leaf (flat_map (λ (r : Row). leaves_in T names r.lists) (rows_at T n f)) c 1 ≡ true
unfolding rows_at
row_listed T names n f c h =
    let k : Row → Bool = λ r. same r.segment n && eqb r.field f in
    let g : Leaf → Bool = λ l. eqb l.component c && eqb l.subcomponent 1 in
    some-flat_map k g (λ (r : Row). leaves_in T names r.lists) T.rows
    (some_mono (λ (r : Row). k r && lists_component c r.lists) (λ (r : Row). k r && some g (leaves_in T names r.lists))
    (λ r e.
    let w = both (k r) (lists_component c r.lists) e in
    and_both (k r) (some g (leaves_in T names r.lists)) w.0 (lists-leaf T names c r.lists w.1))
    T.rows h)

pub has_row_lem : (T : Table) (q : Marks) (s : Text) (f c : ℕ) → has_row T (name s) f c ≡ true → has_leaf (field_leaves T q s f) c 1 ≡ true
unfolding field_leaves
has_row_lem T q s f c h = row_listed T _ (name s) f c h

-- 2. The rows of a segment, before and after
module _ (T : Table) (q : Marks) (s : Text) where
  abbrev before : ℕ → Text
  before f = named_in q s f

  abbrev after : ℕ → Text
  after f = named_in q (strike_segment T q s) f

  -- what a row lists is the same, and its leaves are listed ones of its field
  abbrev Lists : ℕ → Listed → Type 0
  Lists f x =
      (leaves_in T after x ≡ leaves_in T before x)
      × All (λ (l : Leaf). has_leaf (field_leaves T q s f) l.component l.subcomponent ≡ true) (leaves_in T before x)

  abbrev Has : ℕ → Type 0
  Has f = has_field T (name s) f ≡ true

  -- its field is listed, and may stand once at least
  abbrev Says : ℕ → Usage → ℕ → Type 0
  Says f u k = Has f × (leb 1 k ≡ true)

  same-leaves : (x : Listed) → namer_listed T (name s) x ≡ true → leaves_in T after x ≡ leaves_in T before x
  same-leaves (leaf l) e = refl
  same-leaves (named_by_field f) e = rw (leaf-struck T q s f 1 1 1 (has_row_lem T q s f 1 e))

  -- the row's own test: its segment and field, and a leaf that it lists
  own_row : (r : Row) → same r.segment (name s) ≡ true → same r.segment (name s) && eqb r.field r.field ≡ true
  own_row r e = and_both (same r.segment (name s)) (eqb r.field r.field) e (eq-eqb r.field r.field refl)

  row_leaf : (r : Row) → same r.segment (name s) ≡ true → Member T.rows r → (l : Leaf) → Member (leaves_in T before r.lists) l
      → has_leaf (field_leaves T q s r.field) l.component l.subcomponent ≡ true
  unfolding field_leaves rows_at
  row_leaf r e t l u =
      let k : Row → Bool = λ x. same x.segment (name s) && eqb x.field r.field in
      let g : Leaf → Bool = λ x. eqb x.component l.component && eqb x.subcomponent l.subcomponent in
      some-flat_map k g (λ (x : Row). leaves_in T before x.lists) T.rows
      (t (λ x. k x && some g (leaves_in T before x.lists))
      (and_both (k r) (some g (leaves_in T before r.lists)) (own_row r e)
      (u g
      (and_both (eqb l.component l.component) (eqb l.subcomponent l.subcomponent)
      (eq-eqb l.component l.component refl) (eq-eqb l.subcomponent l.subcomponent refl)))))

  row_field : (r : Row) → same r.segment (name s) ≡ true → Member T.rows r → Has r.field
  unfolding rows_at
  row_field r e t =
      some-kept (λ (x : Row). same x.segment (name s) && eqb x.field r.field) T.rows
      (t (λ x. same x.segment (name s) && eqb x.field r.field) (own_row r e))

  abbrev Fit : Row → Type 0
  Fit r = row_fit T r ≡ true

  row_ok : (r : Row) → (Fit r × Member T.rows r) × (same r.segment (name s) ≡ true) → RowOk Lists Says r
  row_ok r h =
      let w = both (allows_one r) (namer_listed T r.segment r.lists) h.0.0 in
      let e = h.1 in (
        (
          same-leaves r.lists (rw (same_true r.segment (name s) e) at w.1),
          all_map (Member (leaves_in T before r.lists))
              (λ (l : Leaf). has_leaf (field_leaves T q s r.field) l.component l.subcomponent ≡ true)
              (row_leaf r e h.0.1) (leaves_in T before r.lists) (all_members (leaves_in T before r.lists)),
        ),
        (row_field r e h.0.1, w.0),
      )

  rules_ok : fit T ≡ true → All (RuleOk Lists Says) (rules_of T (name s))
  unfolding fit rules_of
  rules_ok ok =
      let named : Row → Bool = λ r. same r.segment (name s) in
      gathered-all Lists Says (keep named T.rows)
      (all_map (λ r. (Fit r × Member T.rows r) × (named r ≡ true)) (RowOk Lists Says) row_ok (keep named T.rows)
      (all_both (λ r. Fit r × Member T.rows r) (λ r. named r ≡ true) (keep named T.rows)
      (all_keep (λ r. Fit r × Member T.rows r) named T.rows
      (all_both Fit (Member T.rows) T.rows
      (every-all (row_fit T) T.rows ok)
      (all_members T.rows)))
      (all-kept named T.rows)))

-- 3. The repetitions of a field, before and after
-- as many as before; or one that has no byte left
abbrev SameCount : ℕ → ℕ → Type 0
SameCount after before = (after ≡ before) ⊎ ((after ≡ 0) × (before ≡ 1))

module _ (sep : ℕ) (struck : Text → Text) (none : struck [] ≡ []) (same-split : (t : Text) → length (split sep (struck t)) ≡ length (split sep t)) where
  abbrev count : Bool → Text → ℕ
  count w t = pick (empty t) 0 (pick w 1 (length (split sep t)))

  count_by : (b : ℕ) (t u : Text) → length (split sep u) ≡ length (split sep (b ∷ t)) → SameCount (count false u) (count false (b ∷ t))
  count_by b t [] e = inr (refl, unfold split in sym e)
  count_by b t (c ∷ u) e = inl e

  count-struck : (w : Bool) (t : Text) → SameCount (count w (unless w struck t)) (count w t)
  count-struck true t = inl refl
  count-struck false [] = inl (rw none)
  count-struck false (b ∷ t) = count_by b t (struck (b ∷ t)) (same-split (b ∷ t))

module _ (T : Table) (q : Marks) (s : Text) (f : ℕ) (has : has_field T (name s) f ≡ true) where
  abbrev struck : Text → Text
  struck t = strike_field T q s f t

  struck-count : (t : Text) → length (split q.repetition (struck t)) ≡ length (split q.repetition t)
  struck-count t = rw has (count-rewritten q.repetition (strike_in T q s f) (in_shrinks T q s f) t)

  struck-none : struck [] ≡ []
  struck-none = rw has (rewritten-empty q.repetition (strike_in T q s f) (in_shrinks T q s f))

  repetitions-struck : SameCount (repetitions q (strike_segment T q s) f) (repetitions q s f)
  repetitions-struck =
      rw (count-is q (strike_segment T q s) f, count-is q s f, field-struck T q s f, unsplit-struck T q s f)
      (count-struck q.repetition struck struck-none struck-count (unsplit s f) (field q s f))

-- one repetition or none: neither is too many
surplus-same : (n a b : ℕ) → leb 1 n ≡ true → SameCount a b → ltb n a ≡ ltb n b
surplus-same n a b l (inl e) = ap (ltb n) e
surplus-same n a b l (inr e) = rw (e.0, e.1) (le-ltb n 0 (omega arith) ∙ sym (le-ltb n 1 (leb-true 1 n l)))

-- the same leaves, the same filled repetitions
filled-read : (a b : ℕ → List Entry) → ((r : ℕ) → a r ≡ b r) → (k n : ℕ) → filled_up_to a k n ≡ filled_up_to b k n
unfolding filled_up_to
filled-read a b h k zero = refl
filled-read a b h k (suc n) = rw (h k, filled-read a b h (suc k) n)

one_none : (a b : ℕ → List Entry) → is_filled (b 1) ≡ false → filled_up_to a 1 0 ≡ filled_up_to b 1 1
unfolding filled_up_to
one_none a b e = rw e

module _ (T : Table) (q : Marks) (s : Text) (f : ℕ) (has : has_field T (name s) f ≡ true)
    (ls : List Leaf) (all : All (λ (l : Leaf). has_leaf (field_leaves T q s f) l.component l.subcomponent ≡ true) ls) where
  abbrev left : Text
  left = strike_segment T q s

  entries-same : (r : ℕ) → entries_at q left f ls r ≡ entries_at q s f ls r
  entries-same r =
      map_same
      (λ (l : Leaf). record { leaf = l; text = leaf_at q left f r l.component l.subcomponent })
      (λ (l : Leaf). record { leaf = l; text = leaf_at q s f r l.component l.subcomponent })
      ls
      (all_map (λ (l : Leaf). has_leaf (field_leaves T q s f) l.component l.subcomponent ≡ true) _
      (λ l e. rw (leaf-struck T q s f r l.component l.subcomponent e)) ls all)

  -- where no repetition is left, the one that was there has no listed leaf
  none_filled : (ms : List Leaf) → repetitions q left f ≡ 0 → is_filled (entries_at q left f ms 1) ≡ false
  unfolding some
  none_filled [] e = refl
  none_filled (l ∷ ms) e = rw (leaf-beyond q left f 0 l.component l.subcomponent (omega (arith, e))) (none_filled ms e)

  filled_by : (a b : ℕ) → repetitions q left f ≡ a → SameCount a b → filled_up_to (entries_at q left f ls) 1 a ≡ filled_up_to (entries_at q s f ls) 1 b
  filled_by a b z (inl e) = rw e (filled-read (entries_at q left f ls) (entries_at q s f ls) entries-same 1 b)
  filled_by a b z (inr e) =
      let no : is_filled (entries_at q s f ls 1) ≡ false = rw (← entries-same 1) (none_filled ls (z ∙ e.0)) in
      rw (e.0, e.1) (one_none (entries_at q left f ls) (entries_at q s f ls) no)

-- 4. A field, a segment
module _ (T : Table) (q : Marks) (s : Text) where
  lists-same : (f : ℕ) (xs : List Listed) → All (Lists T q s f) xs → flat_map (leaves_in T (after T q s)) xs ≡ flat_map (leaves_in T (before T q s)) xs
  lists-same f xs a =
      flat_map-same (leaves_in T (after T q s)) (leaves_in T (before T q s)) xs
      (all_map (Lists T q s f) (λ x. leaves_in T (after T q s) x ≡ leaves_in T (before T q s) x) (λ x h. h.0) xs a)

  lists-listed : (f : ℕ) (xs : List Listed) → All (Lists T q s f) xs
      → All (λ (l : Leaf). has_leaf (field_leaves T q s f) l.component l.subcomponent ≡ true) (flat_map (leaves_in T (before T q s)) xs)
  lists-listed f xs a =
      all-flat_map (λ (l : Leaf). has_leaf (field_leaves T q s f) l.component l.subcomponent ≡ true) (leaves_in T (before T q s)) xs
      (all_map (Lists T q s f) (λ x. All (λ (l : Leaf). has_leaf (field_leaves T q s f) l.component l.subcomponent ≡ true) (leaves_in T (before T q s) x)) (λ x h. h.1) xs a)

  field-same : (u : Rule) → RuleOk (Lists T q s) (Says T q s) u → field_seen T q (strike_segment T q s) u ≡ field_seen T q s u
  unfolding field_seen
  field-same u h =
      let f = u.field in
      let ls = flat_map (leaves_in T (before T q s)) u.lists in
      let counted = repetitions-struck T q s f h.1.0 in
      let filled = filled_by T q s f h.1.0 ls (lists-listed f u.lists h.0) (repetitions q (strike_segment T q s) f) (repetitions q s f) refl counted in
      let surplus = surplus-same u.repetitions (repetitions q (strike_segment T q s) f) (repetitions q s f) h.1.1 counted in
      rw (lists-same f u.lists h.0) (λ i. record { rule = u; surplus = surplus i; filled = filled i })

  -- THE SEGMENT IS SEEN AS IT WAS
  pub segment-same : fit T ≡ true → segment_seen T q (strike_segment T q s) ≡ segment_seen T q s
  unfolding segment_seen
  segment-same ok =
      rw (name-struck T q s)
      (ap (λ (vs : List Field). record { name = name s; fields = vs })
      (map_same (field_seen T q (strike_segment T q s)) (field_seen T q s) (rules_of T (name s))
      (all_map (RuleOk (Lists T q s) (Says T q s)) (λ u. field_seen T q (strike_segment T q s) u ≡ field_seen T q s u) field-same
      (rules_of T (name s)) (rules_ok T q s ok))))
