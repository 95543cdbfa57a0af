use Rattle.iom_stepped_machine.proofs.ReclaimLemmas.{frames_untouched, grantees_touch, in_flight_may_still, pages_accepted, touch_their_own}
use Rattle.iom_stepped_machine.proofs.laws.stepped_reclaim_theorem.Goals as goal

pub returns : goal.returns
returns c = record {
  made = touch_their_own;
  accepted = pages_accepted;
  free = frames_untouched;
  grantees = grantees_touch;
  in_flight = in_flight_may_still;
}
