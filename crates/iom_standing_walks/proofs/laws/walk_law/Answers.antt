use Rattle.std.proofs.Common.{refl}
use Rattle.iom_standing_walks.proofs.laws.walk_law.Goals as goal

pub returns : goal.returns
returns c = record {
  one_stage = λ frames asked place. (refl, refl);
  toward_entry = λ frames both entry place. refl;
  at_entry = λ frames both entry frame. refl;
  toward_page = λ frames both page place. refl;
  directory = λ walk. refl;
}
