use Rattle.iom_pointed_board.proofs.AheadLemmas.{ahead_are_calls, ahead_is_sound}
use Rattle.iom_pointed_board.proofs.laws.ahead_law.Goals as goal

pub returns : goal.returns
returns c = record { calls = ahead_are_calls; sound = ahead_is_sound }
