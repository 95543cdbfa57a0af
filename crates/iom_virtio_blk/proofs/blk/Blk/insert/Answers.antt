use Rattle.iom_virtio_blk.proofs.StepLemmas.{tells_inserted}
use Rattle.iom_virtio_blk.proofs.blk.Blk.insert.Goals as goal

pub returns-clause-history : goal.returns-clause-history
returns-clause-history g c = λ history tells. rw c.insert.ensures (tells_inserted history c.args.self.now.front (g.D.Disk.shown c.args.disk) tells)
