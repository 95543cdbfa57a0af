-- The laws, as they were shown of every step.
use Rattle.iom_virtio_blk.proofs.OrderLemmas.{finishes_last, steps_follow}
use Rattle.iom_virtio_blk.proofs.order.accesses_keep_their_order.Goals as goal

pub returns-clause-follows : goal.returns-clause-follows
returns-clause-follows c = steps_follow

pub returns-clause-finishes : goal.returns-clause-finishes
returns-clause-finishes c = finishes_last
