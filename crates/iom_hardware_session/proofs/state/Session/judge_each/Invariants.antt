use Rattle.std.proofs.Common.{◌≡◌}
use Rattle.iom_claims.specs.Claimed.{Claimed}
use Rattle.iom_claims.specs.Shown.{ShowsClaimed}
use Rattle.iom_hardware_session.specs.Shown.{shown_in}
use Rattle.iom_hardware_session.specs.Watching.{claims_of}
use Rattle.iom_hardware_session.proofs.WatchLemmas.{AreJudgedBelow}
use Rattle.iom_hardware_session.proofs.state.Session.judge_each.Given as goal

-- those so far are judged, and what they claim stays
abbrev pub invariant-loop-place : goal.invariant-loop-place
invariant-loop-place l =
    (claims_of l.watched.items ≡ claims_of l.fn.watched.items)
    × ((claimed : Claimed) → ShowsClaimed l.self.claims claimed → AreJudgedBelow l.place l.watched.items (shown_in l.self) l.self.trusted.items claimed)
