-- Memories that are alike on the words of a path have the same path.
use Rattle.iom_device_dir.proofs.Alike.{same_located, ends_alike}
use Rattle.iom_device_dir.proofs.laws.same_path.Goals as goal

pub returns : goal.returns
returns c = λ old new ddtp id all. ends_alike ddtp.mode old new ddtp.ppn id (same_located old new ddtp.mode ddtp.ppn id all)
