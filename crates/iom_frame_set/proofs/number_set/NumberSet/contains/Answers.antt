use Rattle.std.proofs.Common.{◌%◌, ◌==◌, ap, ◌∙◌}
use Rattle.std.specs.Int.{bit_at}
use Rattle.std.proofs.lemmas.Nat.Bits.{shr_and_one}
use Rattle.iom_frame_set.specs.Sets.{has}
use Rattle.iom_frame_set.proofs.number_set.NumberSet.contains.Goals as goal

pub returns : goal.returns
unfolding has
returns c = ap (λ b. b == 1) (shr_and_one c.word.result (c.args.number % 64)) ∙ ap (λ w. bit_at w (c.args.number % 64) == 1) c.word.ensures
