use Rattle.iom_machine.proofs.DeviceLemmas.{in_flight_were_accepted}
use Rattle.iom_machine.proofs.HeadlineLemmas.{in_flight_may, commits_are_answered}
use Rattle.iom_machine.proofs.ReclaimLemmas.{made_accesses_touch_their_own, held_pages_are_accepted, free_frames_are_not_touched, only_grantees_touch}
use Rattle.iom_machine.proofs.headline.reclaim_theorem.Goals as goal

pub returns : goal.returns
returns c = record {
  made = made_accesses_touch_their_own;
  accepted = held_pages_are_accepted;
  free = free_frames_are_not_touched;
  grantees = only_grantees_touch;
  in_flight = in_flight_may;
  asked = in_flight_were_accepted;
  answered = commits_are_answered;
}
