use Rattle.iom_stepped_refinement.proofs.IdleLemmas.{idle_shown, idle_sound, walks_keep_facts}
use Rattle.iom_stepped_refinement.proofs.laws.idle_law.Goals as goal

pub returns : goal.returns
returns c = record { sound = idle_sound; shown = idle_shown; facts = walks_keep_facts }
