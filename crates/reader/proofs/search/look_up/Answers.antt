-- `look_up`: what was found lies in the message.
use Rattle.reader.specs.Told.{place_of}
use Rattle.reader.proofs.LookUp.{found_inside}
use Rattle.reader.proofs.search.look_up.Goals as goal

pub text_of-text-requires : goal.text_of-text-requires
text_of-text-requires c = found_inside c.args.m.now (place_of c.args.p) c.find-sort.result c.find-sort.ensures
