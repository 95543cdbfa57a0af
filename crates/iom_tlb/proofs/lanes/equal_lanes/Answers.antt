use Rattle.std.proofs.Common.{◌==◌, arith, rules}
use Rattle.std.proofs.lemmas.Simd.{bitmask_splat}
use mir.Syntax.{w64}
use Rattle.iom_tlb.proofs.lanes.equal_lanes.Goals as goal

pub returns : goal.returns
returns c = bitmask_splat w64 (λ x y. x == y) c.args.lanes.now 8 c.args.word (search rules) (omega arith)
