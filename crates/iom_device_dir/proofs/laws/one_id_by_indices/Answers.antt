-- An id is its indices.
use Rattle.std.proofs.Common.{arith}
use Rattle.iom_device_dir.proofs.laws.one_id_by_indices.Goals as goal

pub returns : goal.returns
returns c = λ id other a b low middle high. omega (arith, a, b, low, middle, high)
