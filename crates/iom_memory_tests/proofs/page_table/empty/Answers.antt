-- A memory of zeros with its root: all frames below it are spare.
use Rattle.std.proofs.Common.{◌≡◌, ◌∙◌, Some, slice_get, replicate, ap, arith}
use Rattle.iom_phys_mem.specs.Words.{zeroed}
use Rattle.iom_memory_tests.proofs.Spare.{zero_frame}
use Rattle.iom_page_table.proofs.Unchanged.{zeroed_frames}
use Rattle.iom_memory_tests.proofs.page_table.empty.Goals as goal

pub returns-clause-spare : goal.returns-clause-spare
returns-clause-spare g c =
    let is : c.in-Ok.memory ≡ replicate 64 zeroed = c.in-Ok.ensures.zero in
    λ f lt.
    let here : slice_get c.in-Ok.memory f ≡ Some zeroed = ap (λ frames. slice_get frames f) is ∙ zero_frame 64 f (omega arith) in
    let root : slice_get c.in-Ok.memory 59 ≡ Some zeroed = ap (λ frames. slice_get frames 59) is ∙ zero_frame 64 59 (omega arith) in
    (here, λ h. let e = (zeroed_frames c.args.size c.in-Ok.memory 59 root f).0 h in omega (arith, e))
