use Rattle.iom_virtqueue.specs.Descriptors.{number_at}
use Rattle.iom_virtqueue.proofs.Parts.{take_rest}
use Rattle.iom_virtqueue.proofs.numbers.le64.Goals as goal

pub returns : goal.returns
unfolding number_at
returns c = rw (take_rest c.args.bytes.now c.args.at) at c.read_u64.ensures
