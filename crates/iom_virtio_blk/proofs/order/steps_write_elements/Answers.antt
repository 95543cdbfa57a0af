-- The law, as it was shown of every step.
use Rattle.iom_virtio_blk.proofs.ElementLemmas.{steps_write}
use Rattle.iom_virtio_blk.proofs.order.steps_write_elements.Goals as goal

pub returns : goal.returns
returns c = steps_write
