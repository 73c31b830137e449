-- What the promise of a look-up says of the part that is handed back.
use mathlib.Core.Path.{◌≡◌, sym, ap, ◌∙◌}
use Prim.Native.Nat.{ℕ, ◌-◌}
use native.Mathlib.Omega.{arith}
use mathlib.Core.List.{[]}
use lib.ListN.{length}
use denote.Ref.{Bor}
use Rattle.text.specs.Bytes.{Text, within}
use Rattle.text.specs.Answer.{given}
use Rattle.text.proofs.Answer.{first-asked}
use Rattle.reader.specs.declared.Place as code
use Rattle.seek.specs.declared.Found as code-found
use Rattle.std.proofs.Common.{Result, Ok}
use Rattle.text.specs.declared.refusal.Refusal.{Refusal}
use Rattle.text.specs.declared.span.Span.{Span}
use Rattle.reader.specs.declared.search.LookedUp.{LookedUp}
use Rattle.checks.specs.Place.{Place, text_at}
use Rattle.checks.specs.Starts.{start_at}
use Rattle.checks.specs.LookUp.{text_from_to, found, look_up_tests, look_up}
use Rattle.reader.specs.Told.{place_of, found_of}
use Rattle.reader.specs.Part.{start_of, end_of}
use Rattle.reader.specs.Promise.{LooksUp}
use Rattle.checks.proofs.Stands.{text-stands, found-is}
use Rattle.reader.proofs.LookUp.{shown-step}

-- the bytes from the start up to the end of a text that is found are the text at that place
found-text : (m : Text) (p : Place) (a e : ℕ) → given (text_from_to a e) ≡ look_up m p → within a e m ≡ text_at m p
unfolding look_up
found-text m p a e h =
    let w = shown-step (start_at m p) a e (text_at m p) (first-asked (look_up_tests m p) (found m p) (text_from_to a e) h ∙ found-is m p) in
    let l : e - a ≡ length (text_at m p) = omega (arith, w) in
    rw (l, w.0) (text-stands m p)

-- of a text, the part's bytes are THE TEXT AT THE PLACE; of anything else there are none
part_bytes : (m : Bor Text) (p : code.Place) (r : LookedUp) (f : Result code-found.Found Refusal) → LooksUp m p r → r.sort ≡ f → r.text.now ≡ within (start_of f) (end_of f) m.now
part_bytes m p r f l e = l.text.bytes ∙ ap (λ (x : Result code-found.Found Refusal). within (start_of x) (end_of x) m.now) e

pub looked_up_text : (m : Bor Text) (p : code.Place) (r : LookedUp) (s : Span) → LooksUp m p r → r.sort ≡ Ok (code-found.TheVariants.Text s)
    → r.text.now ≡ text_at m.now (place_of p)
looked_up_text m p r t l s =
    part_bytes m p r (Ok (code-found.TheVariants.Text t)) l s
    ∙ found-text m.now (place_of p) t.start t.end (ap found_of (sym s) ∙ l.sort)

pub looked_up_empty : (m : Bor Text) (p : code.Place) (r : LookedUp) → LooksUp m p r → r.sort ≡ Ok code-found.TheVariants.Empty → r.text.now ≡ []
looked_up_empty m p r l s = part_bytes m p r (Ok code-found.TheVariants.Empty) l s
