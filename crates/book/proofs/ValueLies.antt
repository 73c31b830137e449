-- A value that is read lies in its slot, and so in the book.
use mathlib.Core.Path.{◌≡◌, refl, sym, ap}
use Prim.Native.Nat.{ℕ, ◌+◌, ◌/◌, ◌≤◌}
use native.Mathlib.Omega.{arith}
use mathlib.Core.Bool.{Bool, true, false, not, ◌&&◌}
use mathlib.Core.List.{List, [], ◌∷◌}
use mathlib.Core.Option.{Option, none, some}
use lib.ListN.{length, drop}
use lib.Dec.{eqb, leb}
use borrow.Author.Tests.{eqb-true, leb-true, leb-false, not-false}
use Rattle.text.specs.Bytes.{Text, pick, printable, every}
use Rattle.text.specs.Ranges.{◌to◌, is_within}
use Rattle.text.specs.Answer.{given, passes}
use Rattle.text.proofs.Tests.{both, not-true as false-true}
use Rattle.text.proofs.Answer.{passes-rest, given-passes, first-asked}
use Rattle.std.proofs.Common.{Result, Ok, Err}
use Rattle.text.specs.declared.refusal.Refusal.{Refusal}
use Rattle.text.specs.declared.span.Span.{Span}
use Rattle.slip.specs.Slot.{slot_size, slot_start, no_slot}
use Rattle.tags.specs.Fields.{count_tag, head_size, count_size, size, value, has_tag, Expected, is_there, taken, is_slip_from}
use Rattle.book.specs.Read.{expected, is_slip, Part, span, value_from, is_none, or_nothing, slot, read_tests, read_slip}
use Rattle.book.specs.Told.{value_of, start_of, end_of}
use Rattle.book.proofs.ReadSlip.{part}

-- a value lies in its slip: no field is longer than its limit
abbrev pub Lies : ℕ → ℕ → Part → Type 0
Lies from limit p = (from ≤ p.start) × ((p.start ≤ p.end) × (p.end ≤ limit))

unfoldable room : List Expected → ℕ
room [] = count_size
room (x ∷ xs) = head_size + x.most + room xs

size-limit : (x : Expected) (t : Text) → has_tag x.tag t ≡ true → is_there x t ≡ true → size t ≤ x.most
size-limit x t h e =
    let w = both (is_within (1 to x.most) (size t)) (every printable (value t)) (rw h at e) in
    leb-true (size t) x.most (both (leb 1 (size t)) (leb (size t) x.most) w.0).1

taken-limit : (x : Expected) (t : Text) (b : Bool) → has_tag x.tag t ≡ b → is_there x t ≡ true → taken x t ≤ head_size + x.most
taken-limit x t true h e = rw h (omega (arith, size-limit x t h e))
taken-limit x t false h e = rw h (omega arith)

lies-step : (from k n limit : ℕ) (b : Bool) (o : Option Part) (p : Part) → from ≤ k → (b ≡ true → k + n ≤ limit)
    → (o ≡ some p → Lies from limit p) → pick b (span k n) o ≡ some p → Lies from limit p
lies-step from k n limit true o p a f g e =
    let start : k ≡ p.start = ap (λ (q : Option Part). (or_nothing q).start) e in
    let end : k + n ≡ p.end = ap (λ (q : Option Part). (or_nothing q).end) e in
    (omega arith, (omega arith, omega (arith, f refl)))
lies-step from k n limit false o p a f g e = g e

value-lies : (xs : List Expected) (tag k : ℕ) (t : Text) (p : Part) → is_slip_from xs t ≡ true → value_from xs tag k t ≡ some p → Lies k (k + room xs) p
unfolding is_slip_from value_from room
value-lies [] tag k t p g e =
    lies-step k (k + head_size) 2 (k + count_size) (eqb tag count_tag) none p (omega arith) (λ b. omega arith) (λ h. absurd (let z : ◌≡◌ {A = ℕ} 0 1 = cc in omega arith)) e
value-lies (x ∷ xs) tag k t p g e =
    let w = both (is_there x t) (is_slip_from xs (drop (taken x t) t)) g in
    lies-step k (k + head_size) (size t) (k + room (x ∷ xs)) (eqb tag x.tag && has_tag tag t) _ p (omega arith)
    (λ b.
    let h = both (eqb tag x.tag) (has_tag tag t) b in
    omega (arith, size-limit x t (rw (eqb-true tag x.tag h.0) at h.1) w.0))
    (λ h.
    let l = value-lies xs tag (k + taken x t) (drop (taken x t) t) p w.1 h in
    (omega (arith, l.0), (l.1.0, omega (arith, l.1.1, taken-limit x t (has_tag x.tag t) refl w.0))))
    e

value-some : (o : Option Part) (p : Part) → is_none o ≡ false → p ≡ or_nothing o → o ≡ some p
value-some none p n e = false-true (sym n)
value-some (some q) p n e = ap some (sym e)

-- and so in its slot, which is there
pub slot-lies : (book : Text) (k tag : ℕ) (p : Part) → given p ≡ read_slip book k tag
    → Lies (slot_start k) (slot_start k + slot_size) p × (slot_start k + slot_size ≤ length book)
unfolding read_slip passes room
slot-lies book k tag p h =
    let s = slot book k in
    let all = value_from expected tag (slot_start k) s in
    let t1 = passes-rest (no_slot book k) _ (given-passes (read_tests book k tag) (or_nothing all) p (sym h)) in
    let t2 = passes-rest (not (is_slip s)) _ t1.1 in
    let t3 = passes-rest (is_none all) _ t2.1 in
    let there = value-some all p t3.0 (first-asked (read_tests book k tag) (or_nothing all) p h) in
    let l = value-lies expected tag (slot_start k) s p (not-false (is_slip s) t2.0) there in
    ((l.0, (l.1.0, omega (arith, l.1.1))), omega (arith, leb-false (length book / slot_size) k t1.0))

pub value-inside : (book : Text) (k tag : ℕ) (v : Result Span Refusal) → value_of v ≡ read_slip book k tag
    → (start_of v ≤ end_of v) × (end_of v ≤ length book)
value-inside book k tag (Err r) h = (omega arith, omega arith)
value-inside book k tag (Ok s) h =
    let l = slot-lies book k tag (part s.start s.end) h in
    (l.0.1.0, omega (arith, l.0.1.1, l.1))
