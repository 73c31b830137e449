-- `read_slip`: what was found lies in the book.
use Rattle.book.proofs.ValueLies.{value-inside}
use Rattle.book.proofs.reading.read_slip.Goals as goal

pub part_of-value-requires : goal.part_of-value-requires
part_of-value-requires c = value-inside c.args.book.now c.args.slot c.args.tag c.find_value-sort.result c.find_value-sort.ensures
