use Rattle.iom_reach.proofs.WiderLemmas.{transitions_stay, turns_stay}
use Rattle.iom_reach.proofs.laws.wider_law.Goals as goal

pub returns : goal.returns
returns c = record { each = transitions_stay; in_turn = turns_stay }
