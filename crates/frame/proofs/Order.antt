-- The eight tests in their order: what each way out of the checks may answer.
use mathlib.Core.Path.{◌≡◌, refl, sym, ◌∙◌}
use Prim.Native.Nat.{suc, ◌-◌, ◌≤◌, ◌<◌}
use native.Mathlib.Omega.{arith}
use mathlib.Core.Bool.{Bool, true, false, not}
use mathlib.Core.List.{[], ◌∷◌}
use lib.ListN.{length, take, drop}
use lib.Dec.{eqb}
use borrow.Author.Tests.{lt-ltb, le-ltb, not-true, not-false}
use Rattle.text.specs.Bytes.{Text, cr, every, same}
use Rattle.text.specs.Answer.{Answer, refused, first}
use Rattle.text.specs.Marks.{marks_of}
use Rattle.text.proofs.Tests.{empty-none, empty-some}
use Rattle.text.proofs.Lists.{and-true}
use Rattle.text.specs.declared.refusal.Refusal.TheVariants.{Empty, TooLong, BadByte, NoHeader, NoEnd}
use Rattle.frame.specs.Frame.{allowed, header, ends_with_cr, segment_tests, frame_tests}
use Rattle.frame.proofs.Names.{same_swap}

abbrev Said : Type 0
Said = Answer (Unit {0})

-- the last byte tells whether a CR ends the message
pub last_byte : (m : Text) → ends_with_cr m ≡ same (cr ∷ []) (drop (length m - 1) m)
unfolding ends_with_cr same
last_byte [] = refl
last_byte (b ∷ []) = sym (and-true (eqb b cr)) ∙ same_swap (b ∷ []) (cr ∷ [])
last_byte (b ∷ c ∷ m) =
    let e : suc (suc (length m)) - 1 ≡ suc (suc (length m) - 1) = omega arith in
    last_byte (c ∷ m) ∙ rw e

module _ (m : Text) where
  pub says-empty : length m ≡ 0 → ◌≡◌ {A = Said} (refused Empty) (first (frame_tests m) tt)
  unfolding first frame_tests
  says-empty e = rw (empty-none m e)

  module _ (n : length m ≡ 0 → ⊥) where
    pub says-long : 65535 < length m → ◌≡◌ {A = Said} (refused TooLong) (first (frame_tests m) tt)
    unfolding first frame_tests
    says-long h = rw (empty-some m n, lt-ltb 65535 (length m) h)

    module _ (short : length m ≤ 65535) (r : Bool) (read : r ≡ every allowed m) where
      pub says-byte : not r ≡ true → ◌≡◌ {A = Said} (refused BadByte) (first (frame_tests m) tt)
      unfolding first frame_tests
      says-byte e = rw (empty-some m n, le-ltb 65535 (length m) short, ← read, not-true r e)

      module _ (good : not r ≡ false) (h : Bool) (headed : h ≡ same (take 9 m) (header (marks_of m))) where
        pub says-header : not h ≡ true → ◌≡◌ {A = Said} (refused NoHeader) (first (frame_tests m) tt)
        unfolding first frame_tests
        says-header e = rw (empty-some m n, le-ltb 65535 (length m) short, ← read, not-false r good, ← headed, not-true h e)

        module _ (fine : not h ≡ false) where
          module _ (z : Bool) (closed : z ≡ same (cr ∷ []) (drop (length m - 1) m)) where
            pub says-end : not z ≡ true → ◌≡◌ {A = Said} (refused NoEnd) (first (frame_tests m) tt)
            unfolding first frame_tests
            says-end e =
                rw (empty-some m n, le-ltb 65535 (length m) short, ← read, not-false r good, ← headed, not-false h fine, last_byte m, ← closed, not-true z e)

            pub says-segments : (a : Said) → not z ≡ false → a ≡ first (segment_tests m) tt → a ≡ first (frame_tests m) tt
            unfolding first frame_tests
            says-segments a e s =
                rw (empty-some m n, le-ltb 65535 (length m) short, ← read, not-false r good, ← headed, not-false h fine, last_byte m, ← closed, not-false z e) s
