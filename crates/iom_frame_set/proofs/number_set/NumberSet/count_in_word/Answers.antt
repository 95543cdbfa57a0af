use Rattle.std.proofs.Common.{bit_and, refl, arith}
use Rattle.std.proofs.lemmas.Nat.{and_le_r}
use Rattle.iom_frame_set.proofs.CountLemmas.{count_of_word}
use Rattle.iom_frame_set.proofs.number_set.NumberSet.count_in_word.Goals as goal

pub returns : goal.returns
returns c =
    let found =
    count_of_word c.args.self.now c.args.other.now c.args.index c.args.places c.word.result c.word-2.result c.ones_below.result c.requires c.word.ensures c.word-2.ensures c.ones_below.ensures
    (omega (arith, and_le_r (bit_and c.word.result c.word-2.result) c.ones_below.result)) _ refl in
    record { counted = found.0; few = found.1 }
