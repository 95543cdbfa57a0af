use Rattle.iom_directory_build.proofs.Hanging.{whole_path_there}
use Rattle.iom_directory_build.proofs.laws.whole_paths.Goals as goal

pub returns : goal.returns
returns c = λ memory top root id path. whole_path_there memory top root id path
