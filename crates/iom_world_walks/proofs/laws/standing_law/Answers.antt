use Rattle.iom_world_walks.proofs.StillLemmas.{rows_still}
use Rattle.iom_world_walks.proofs.laws.standing_law.Goals as goal

pub returns : goal.returns
returns c = λ old new events under_way rows started leaves invariants. rows_still c.driven_law.ensures old new events under_way started leaves invariants rows
