-- Contexts don't overlap.
use Rattle.std.proofs.Common.{arith}
use Rattle.iom_device_dir.proofs.laws.contexts_apart.Goals as goal

pub returns : goal.returns
returns c = λ page other index index' word word' a b d e same. (omega (arith, a, b, d, e, same), omega (arith, a, b, d, e, same))
