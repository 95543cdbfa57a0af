-- Memories that are alike on the frames of a path are alike on its words.
use Rattle.iom_device_dir.specs.Laws.{path_loads_by_mode}
use Rattle.iom_device_dir.proofs.Alike.{same_frames, same_located, ends_alike}
use Rattle.iom_device_dir.proofs.laws.same_frames.Goals as goal

pub returns : goal.returns
returns c =
    λ old new ddtp id all.
    ends_alike ddtp.mode old new ddtp.ppn id
    (same_located old new ddtp.mode ddtp.ppn id (same_frames old new (path_loads_by_mode ddtp.mode old ddtp.ppn id) all))
