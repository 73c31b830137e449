-- What a call promises leaves one answer.
use mathlib.Core.Path.{◌≡◌, refl, sym, ◌∙◌}
use lib.ListN.{get_or}
use denote.Ref.{Bor}
use Rattle.text.specs.Bytes.{Text}
use Rattle.text.proofs.SamePart.{part_same}
use Rattle.profile.specs.Table.{Table}
use Rattle.reader.specs.declared.Place.{Place}
use Rattle.std.proofs.Common.{Option, None, Some, Result, Ok, Err}
use Rattle.text.specs.declared.refusal.Refusal.{Refusal}
use Rattle.seek.specs.declared.Found.{Found}
use Rattle.seek.specs.declared.Found.TheVariants as found
use Rattle.reader.specs.declared.Fault.{Fault}
use Rattle.reader.specs.declared.search.LookedUp.{LookedUp}
use Rattle.checks.specs.LookUp.{look_up}
use Rattle.reader.specs.Told.{place_of, found_of, verdict_of}
use Rattle.reader.specs.Part.{SamePart, start_of, end_of}
use Rattle.reader.specs.Promise.{LooksUp, Judges}

-- an answer is what is told of it
pub found-same : (f g : Result Found Refusal) → found_of f ≡ found_of g → f ≡ g
found-same (Err a) (Err b) e = cc
found-same (Err a) (Ok found.Empty) e = cc
found-same (Err a) (Ok (found.Text k)) e = cc
found-same (Ok found.Empty) (Err b) e = cc
found-same (Ok found.Empty) (Ok found.Empty) e = refl
found-same (Ok found.Empty) (Ok (found.Text k)) e = cc
found-same (Ok (found.Text j)) (Err b) e = cc
found-same (Ok (found.Text j)) (Ok found.Empty) e = cc
found-same (Ok (found.Text j)) (Ok (found.Text k)) e =
    let s : j.start ≡ k.start = cc in
    let t : j.end ≡ k.end = cc in
    λ i. Ok (found.Text (record { start = s i; end = t i }))

pub find_unique : (m : Text) (p : Place) (f g : Result Found Refusal) → found_of f ≡ look_up m (place_of p) → found_of g ≡ look_up m (place_of p) → f ≡ g
find_unique m p f g a b = found-same f g (a ∙ sym b)

pub look_up_unique : (m : Bor Text) (p : Place) (r s : LookedUp) → LooksUp m p r → LooksUp m p s
    → (r.sort ≡ s.sort) × SamePart r.text s.text
look_up_unique m p r s a b =
    let e = found-same r.sort s.sort (a.sort ∙ sym b.sort) in
    (e, part_same r.text s.text m (start_of r.sort) (end_of r.sort) a.text (rw (← e) at b.text))

-- so with a verdict, its place field by field
place_same : (p r : Place) → place_of p ≡ place_of r → p ≡ r
place_same p r e =
    λ i. record {
      first = get_or (e i).name 0 0;
      second = get_or (e i).name 1 0;
      third = get_or (e i).name 2 0;
      occurrence = (e i).occurrence;
      field = (e i).field;
      repetition = (e i).repetition;
      component = (e i).component;
      subcomponent = (e i).subcomponent;
    }

pub verdict-same : (v w : Result (Option Fault) Refusal) → verdict_of v ≡ verdict_of w → v ≡ w
verdict-same (Err a) (Err b) e = cc
verdict-same (Err a) (Ok None) e = cc
verdict-same (Err a) (Ok (Some g)) e = cc
verdict-same (Ok None) (Err b) e = cc
verdict-same (Ok None) (Ok None) e = refl
verdict-same (Ok None) (Ok (Some g)) e = cc
verdict-same (Ok (Some f)) (Err b) e = cc
verdict-same (Ok (Some f)) (Ok None) e = cc
verdict-same (Ok (Some f)) (Ok (Some g)) e =
    let p : place_of f.place ≡ place_of g.place = cc in
    let n : f.reason ≡ g.reason = cc in
    λ i. Ok (Some (record { place = place_same f.place g.place p i; reason = n i }))

pub judge_unique : (T : Table) (m : Text) (v w : Result (Option Fault) Refusal) → Judges T m v → Judges T m w → v ≡ w
judge_unique T m v w a b = verdict-same v w (a ∙ sym b)
