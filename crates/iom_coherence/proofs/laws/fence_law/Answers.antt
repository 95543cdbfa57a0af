use Rattle.iom_coherence.proofs.LawLemmas.{open_slots_hold_fences, stopped_queues_hold_fences, done_fences_are_gone}
use Rattle.iom_coherence.proofs.laws.fence_law.Goals as goal

pub returns : goal.returns
returns c = record {
  slots = open_slots_hold_fences;
  stopped = stopped_queues_hold_fences;
  gone = done_fences_are_gone;
}
