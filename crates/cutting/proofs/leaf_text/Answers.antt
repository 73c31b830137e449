-- `leaf_text`: MSH-1 and MSH-2 as they are, any other field taken apart.
use mathlib.Core.Path.{◌≡◌, ◌∙◌}
use mathlib.Core.Bool.{Bool, true, false, ◌&&◌}
use lib.Dec.{leb}
use borrow.Author.Tests.{leb-true}
use Rattle.text.proofs.Tests.{both}
use Rattle.frame.specs.Segments.{is_header, unsplit}
use Rattle.cutting.proofs.Cutting.{leaf_nought, numbered-leaf}
use Rattle.cutting.proofs.leaf_text.Goals as goal
use Rattle.text.specs.Bytes.{Text}
use Prim.Native.Nat.{ℕ}

-- whether the field is unsplit, as the code tests it
told : (s : Text) (h : Bool) (field : ℕ) (b : Bool) → h ≡ is_header s → h && leb field 2 ≡ b → unsplit s field ≡ b
told s h field b i e = rw i at e

pub unsplit_leaf-requires : goal.unsplit_leaf-requires
unsplit_leaf-requires c = let w = both (is_header c.args.s.now) (leb c.args.field 2) (told c.args.s.now c.is_header.result c.args.field true c.is_header.ensures c.if-is_header-field.true) in
    (w.0, (c.requires, leb-true c.args.field 2 w.1))

pub returns-then-is_header-field : goal.returns-then-is_header-field
returns-then-is_header-field c = c.unsplit_leaf.ensures _

pub returns-then-component-eq0 : goal.returns-then-component-eq0
returns-then-component-eq0 c = leaf_nought c.args.q c.args.s.now c.args.field c.args.component (told c.args.s.now c.is_header.result c.args.field false c.is_header.ensures c.if-is_header-field.false) c.if-component-eq0.true

pub fields_from-requires : goal.fields_from-requires
fields_from-requires c = (c.requires, told c.args.s.now c.is_header.result c.args.field false c.is_header.ensures c.if-is_header-field.false)

pub returns : goal.returns
returns c = c.first_leaf.ensures
    ∙ numbered-leaf c.args.q c.args.s.now c.args.field c.fields_from.result.now c.fields_from.ensures (told c.args.s.now c.is_header.result c.args.field false c.is_header.ensures c.if-is_header-field.false)
    c.args.component _ c.if-component-eq0.false (rw c.first_repetition-t.ensures at c.behind.ensures)
