-- `first_leaf`: the first piece of the first piece of the first.
use Rattle.located.proofs.FieldLeaves.{first-inside, second-inside, leaf-inside, leaf_first}
use Rattle.located.proofs.first_leaf.Goals as goal

pub slice_bounds-near_end-end : goal.slice_bounds-near_end-end
slice_bounds-near_end-end c = first-inside c.args.q.repetition c.args.x.now c.near_end-a.result c.near_end-a.ensures

pub slice_bounds-near_end-end-2 : goal.slice_bounds-near_end-end-2
slice_bounds-near_end-end-2 c = second-inside c.args.q c.args.x.now c.near_end-a.result c.near_end-b.result c.near_end-a.ensures c.near_end-b.ensures

pub returns : goal.returns
returns c = record {
  inside = leaf-inside c.args.q c.args.x.now c.near_end-a.result c.near_end-b.result c.near_end-a.ensures c.near_end-b.ensures c.near_end.result c.near_end.ensures;
  first_leaf_text = leaf_first c.args.q c.args.x.now c.near_end-a.result c.near_end-b.result c.near_end-a.ensures c.near_end-b.ensures c.near_end.result c.near_end.ensures;
}
