use Rattle.iom_virtio_blk.proofs.AccessLemmas.{data_came}
use Rattle.iom_virtio_blk.proofs.front.Front.take_served.Goals as goal

pub take_data-requires-clause-some : goal.take_data-requires-clause-some
take_data-requires-clause-some c = (data_came c.args.self.now (c.requires.ready.made c.requires.taking.made).1 c.requires.phase c.in-Writing.is).some
