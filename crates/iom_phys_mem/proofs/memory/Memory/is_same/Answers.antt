-- Frames are compared byte by byte.
use Rattle.std.proofs.Common.{rules}
use Rattle.std.proofs.lemmas.Slice.Eq.{slice_eq-Decides, bytes_eq-Decides}
use Rattle.iom_phys_mem.proofs.memory.Memory.is_same.Goals as goal

pub returns : goal.returns
returns c = slice_eq-Decides bytes_eq-Decides c.args.self.now c.args.other.now c.eq.result (search rules)
