-- What an exported function promises leaves one number, and one state of what was lent.
use Prim.Native.Nat.{ℕ}
use mathlib.Core.Path.{◌≡◌, sym, ◌∙◌}
use mathlib.Core.List.{List}
use Rattle.text.specs.Bytes.{Text}
use Rattle.text.specs.Answer.{Answer}
use Rattle.profile.specs.Table.{Table}
use Rattle.numbers.specs.Told.{Tells}
use Rattle.cabi.specs.Promise.{JudgeTells, LookUpTells, WriteTells, ResolveTells, ReplyTells, FileTells, ReadTells}

-- of any answer told by numbers
tells_unique : {A : Type 0} {numbers : A → List ℕ} {a : Answer A} {before : List ℕ} {r s : ℕ} {after later : List ℕ}
    → Tells numbers a before r after → Tells numbers a before s later → (r ≡ s) × (after ≡ later)
tells_unique p q = (p.returned ∙ sym q.returned, p.list ∙ sym q.list)

-- of any text written
writes_unique : {a : Answer Text} {old before : List ℕ} {r s : ℕ} {new other after later : List ℕ}
    → WriteTells a old before r new after → WriteTells a old before s other later → (r ≡ s) × ((new ≡ other) × (after ≡ later))
writes_unique p q =
    let t = tells_unique p.told q.told in
    (t.0, (p.buffer ∙ sym q.buffer, t.1))

pub judge_tells_unique : (T : Table) (m : Text) (before : List ℕ) (r s : ℕ) (after later : List ℕ)
    → JudgeTells T m before r after → JudgeTells T m before s later → (r ≡ s) × (after ≡ later)
judge_tells_unique T m before r s after later p q = tells_unique p q

pub look_up_tells_unique : (m name : Text) (n before : List ℕ) (r s : ℕ) (after later : List ℕ)
    → LookUpTells m name n before r after → LookUpTells m name n before s later → (r ≡ s) × (after ≡ later)
look_up_tells_unique m name n before r s after later p q = tells_unique p q

pub resolve_tells_unique : (t old : Text) (before : List ℕ) (r s : ℕ) (new other : Text) (after later : List ℕ)
    → ResolveTells t old before r new after → ResolveTells t old before s other later
    → (r ≡ s) × ((new ≡ other) × (after ≡ later))
resolve_tells_unique t old before r s new other after later p q = writes_unique p q

pub reply_tells_unique : (T : Table) (m stamp number old : Text) (before : List ℕ) (r s : ℕ) (new other : Text) (after later : List ℕ)
    → ReplyTells T m stamp number old before r new after → ReplyTells T m stamp number old before s other later
    → (r ≡ s) × ((new ≡ other) × (after ≡ later))
reply_tells_unique T m stamp number old before r s new other after later p q = writes_unique p q

pub file_tells_unique : (T : Table) (m : Text) (g k : ℕ) (before : Text) (r s : ℕ) (after later : Text)
    → FileTells T m g k before r after → FileTells T m g k before s later → (r ≡ s) × (after ≡ later)
file_tells_unique T m g k before r s after later p q =
    (p.returned ∙ sym q.returned, p.book ∙ sym q.book)

pub read_tells_unique : (book : Text) (k tag : ℕ) (before : List ℕ) (r s : ℕ) (after later : List ℕ)
    → ReadTells book k tag before r after → ReadTells book k tag before s later → (r ≡ s) × (after ≡ later)
read_tells_unique book k tag before r s after later p q = tells_unique p q
