use Rattle.iom_directory_build.proofs.Zeroed.{zeroed_root}
use Rattle.iom_directory_build.proofs.laws.zeroed_root.Goals as goal

pub returns : goal.returns
returns c = zeroed_root
