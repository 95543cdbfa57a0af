-- A path has one end.
use Rattle.iom_device_dir.proofs.Ends.{one_context, not_both, one_cause}
use Rattle.iom_device_dir.proofs.laws.one_end.Goals as goal

pub returns : goal.returns
returns c = λ memory ddtp id. (one_context ddtp.mode memory ddtp.ppn id, not_both ddtp.mode memory ddtp.ppn id, one_cause ddtp.mode memory ddtp.ppn id)
