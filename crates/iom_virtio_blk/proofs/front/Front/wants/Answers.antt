use Rattle.std.proofs.Common.{sym, rules}
use Rattle.iom_virtio_blk.proofs.AccessLemmas.{access-within, served-within}
use Rattle.iom_virtio_blk.proofs.front.Front.wants.Goals as goal

pub returns-in-Served-clause-within : goal.returns-in-Served-clause-within
returns-in-Served-clause-within c = λ stage.
    let b = c.args.self.now in
    let phase = sym c.in-Served.ensures in
    served-within b phase (access-within b.serving b.queue.chain b.buffer (c.requires.ready.serving phase) c.chain.ensures.chain.header c.chain.ensures.chain.status (search rules))
