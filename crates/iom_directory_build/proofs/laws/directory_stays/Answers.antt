use Rattle.iom_directory_build.proofs.Unchanged.{unchanged}
use Rattle.iom_directory_build.proofs.laws.directory_stays.Goals as goal

pub returns : goal.returns
returns c = unchanged
