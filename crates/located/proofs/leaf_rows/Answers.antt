-- `leaf_rows`: the field's own rows, or those of the type that the named field's first leaf names.
use Rattle.located.proofs.FieldLeaves.{lists-own, named-from, lists_named}
use Rattle.located.proofs.leaf_rows.Goals as goal

pub returns-then-named-lt-NAMED_BY : goal.returns-then-named-lt-NAMED_BY
returns-then-named-lt-NAMED_BY c = lists-own c.args.q c.args.table.now c.args.s.now c.args.k c.args.at c.args.end c.requires.field c.requires.sound.0.lists c.if-named-lt-NAMED_BY.true

pub named_rows-requires : goal.named_rows-requires
named_rows-requires c = record {
  sound = c.requires.sound;
  no_lower = named-from c.args.q c.args.table.now c.args.s.now c.args.k c.args.at c.args.end c.requires.field c.if-named-lt-NAMED_BY.false;
}

pub returns : goal.returns
returns c = lists_named c.args.q c.args.table.now c.args.s.now c.args.k c.args.at c.args.end c.requires.field c.if-named-lt-NAMED_BY.false c.named_rows.result c.named_rows.ensures
