-- The law, as it was shown of every life.
use Rattle.iom_block_life.proofs.LifeLemmas.{uses_each_once}
use Rattle.iom_block_life.proofs.uses_each_entry_once.Goals as goal

pub returns : goal.returns
returns c = uses_each_once
