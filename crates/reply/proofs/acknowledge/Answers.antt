-- `acknowledge`: the refusals in order, or the reply, written at once or aside.
use mathlib.Core.Path.{◌≡◌, sym, ◌∙◌}
use mathlib.Core.Bool.{true}
use native.Mathlib.Omega.{arith}
use Rattle.text.specs.Bytes.{bytes}
use Rattle.types.specs.Types.{is_stamp, is_reply_number}
use Rattle.reader.proofs.Copied.{standing_stood}
use Rattle.heading.specs.Inner.{Opened}
use Rattle.reply.proofs.Control.{header-from}
use Rattle.reply.proofs.Whole.{Fit, acknowledges_stamp, acknowledges_number, acknowledges_control, acknowledges_room, acknowledges_put}
use Rattle.reply.proofs.acknowledge.Goals as goal
use Rattle.reply.proofs.acknowledge.Goals.{Else-not-is_stamp, Else-not-is_reply_number, After-fields_in-tenth, Else-has_no_control}

-- what is known after each test
stamp_good : (c : Else-not-is_stamp) → is_stamp c.args.stamp.now ≡ true
stamp_good c = sym c.is_stamp.ensures ∙ c.if-not-is_stamp.false

number_good : (c : Else-not-is_reply_number) → is_reply_number c.args.number.now ≡ true
number_good c = sym c.is_reply_number.ensures ∙ c.if-not-is_reply_number.false

-- the header from its two places on
opened : (c : After-fields_in-tenth) → Opened c.args.m.now c.fields_in-third.result.now c.fields_in-tenth.result.now
opened c = record {
  parties = header-from c.args.m.now _ c.occurrence-header.ensures 3 c.fields_in-third.result.now c.fields_in-third.ensures;
  control = header-from c.args.m.now _ c.occurrence-header.ensures 10 c.fields_in-tenth.result.now c.fields_in-tenth.ensures;
}

fit : (c : Else-has_no_control) → Fit c.args.m.now c.args.stamp.now c.args.number.now
fit c = record {
  stamped = sym c.is_stamp.ensures ∙ c.if-not-is_stamp.false;
  numbered = sym c.is_reply_number.ensures ∙ c.if-not-is_reply_number.false;
  controlled = sym c.has_no_control.ensures ∙ c.if-has_no_control.false;
}

pub returns-then-not-is_stamp : goal.returns-then-not-is_stamp
returns-then-not-is_stamp c =
    acknowledges_stamp c.args.m.now c.args.stamp.now c.args.number.now c.args.buffer.now (sym c.is_stamp.ensures ∙ c.if-not-is_stamp.true)

pub returns-then-not-is_reply_number : goal.returns-then-not-is_reply_number
returns-then-not-is_reply_number c =
    acknowledges_number c.args.m.now c.args.stamp.now c.args.number.now c.args.buffer.now
    (stamp_good (goal.at.returns-then-not-is_reply_number c).Else-not-is_stamp) (sym c.is_reply_number.ensures ∙ c.if-not-is_reply_number.true)

pub fields_in-third-requires : goal.fields_in-third-requires
fields_in-third-requires c = (standing_stood c.args.m.now (bytes "MSH") 1 _ c.occurrence-header.ensures, omega arith)

pub fields_in-tenth-requires : goal.fields_in-tenth-requires
fields_in-tenth-requires c = (standing_stood c.args.m.now (bytes "MSH") 1 _ c.occurrence-header.ensures, omega arith)

pub has_no_control-requires : goal.has_no_control-requires
has_no_control-requires c = (opened (goal.at.has_no_control-requires c).After-fields_in-tenth).control

pub returns-then-has_no_control : goal.returns-then-has_no_control
returns-then-has_no_control c =
    acknowledges_control c.args.m.now c.args.stamp.now c.args.number.now c.args.buffer.now
    (stamp_good (goal.at.returns-then-has_no_control c).Else-not-is_stamp)
    (number_good (goal.at.returns-then-has_no_control c).Else-not-is_reply_number)
    (sym c.has_no_control.ensures ∙ c.if-has_no_control.true)

-- into a buffer that has room for each reply
pub put_reply-requires-clause-opened : goal.put_reply-requires-clause-opened
put_reply-requires-clause-opened c = opened (goal.at.put_reply-requires-clause-opened c).After-fields_in-tenth

pub put_reply-requires-clause-room : goal.put_reply-requires-clause-room
put_reply-requires-clause-room c =
    omega (arith, acknowledges_room c.args.m.now c.args.stamp.now c.args.number.now c.args.buffer.now (fit (goal.at.put_reply-requires-clause-room c).Else-has_no_control), c.if-buffer-ge-LONGEST_REPLY.true)

pub returns-then-buffer-ge-LONGEST_REPLY : goal.returns-then-buffer-ge-LONGEST_REPLY
returns-then-buffer-ge-LONGEST_REPLY c =
    acknowledges_put c.args.m.now c.args.stamp.now c.args.number.now c.args.buffer.now (fit (goal.at.returns-then-buffer-ge-LONGEST_REPLY c).Else-has_no_control) c.put_reply.ensures

-- and aside
pub reply_aside-requires-clause-opened : goal.reply_aside-requires-clause-opened
reply_aside-requires-clause-opened c = opened (goal.at.reply_aside-requires-clause-opened c).After-fields_in-tenth

pub reply_aside-requires-clause-good : goal.reply_aside-requires-clause-good
reply_aside-requires-clause-good c =
    let f = fit (goal.at.reply_aside-requires-clause-good c).Else-has_no_control in
    (f.stamped, (f.numbered, f.controlled))
