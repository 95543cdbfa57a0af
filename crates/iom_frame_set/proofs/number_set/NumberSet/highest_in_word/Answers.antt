use Rattle.std.proofs.Common.{arith}
use Rattle.iom_frame_set.proofs.SearchLemmas.{none_of_masked, highest_of_masked}
use Rattle.iom_frame_set.proofs.number_set.NumberSet.highest_in_word.Goals as goal

pub returns-in-None : goal.returns-in-None
returns-in-None c =
    none_of_masked c.args.self.now c.args.other.now c.args.index c.args.places c.word.result c.word-2.result c.ones_below.result c.requires.within c.word.ensures c.word-2.ensures c.ones_below.ensures c.in-None.ensures

pub returns-in-Some : goal.returns-in-Some
returns-in-Some c =
    highest_of_masked c.args.self.now c.args.other.now c.args.index c.args.places c.word.result c.word-2.result c.ones_below.result c.requires.within c.word.ensures c.word-2.ensures c.ones_below.ensures
    c.in-Some.bit _ (omega arith) c.in-Some.ensures
