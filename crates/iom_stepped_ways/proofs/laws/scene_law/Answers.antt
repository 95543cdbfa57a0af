use Rattle.iom_stepped_ways.proofs.KindLemmas.{kinds_outlive_software, kinds_stay}
use Rattle.iom_stepped_ways.proofs.SceneLemmas.{covered_are_for_kinds, scenes_cover, scenes_outlive_software, whole_scenes_cover}
use Rattle.iom_stepped_ways.proofs.laws.scene_law.Goals as goal

pub returns : goal.returns
returns c = record {
  stepped = scenes_cover;
  whole = whole_scenes_cover;
  software = scenes_outlive_software;
  covered = covered_are_for_kinds;
  kinds = kinds_stay;
  software_kinds = kinds_outlive_software;
}
