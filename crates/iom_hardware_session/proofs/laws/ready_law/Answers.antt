use Rattle.iom_hardware_session.proofs.AcceptLemmas.{ready_accepted, unready_not_accepted}
use Rattle.iom_hardware_session.proofs.AcceptPointedLemmas.{astray_not_accepted, pointed_ready_accepted, unready_ahead_not_accepted}
use Rattle.iom_hardware_session.proofs.laws.ready_law.Goals as goal

pub returns : goal.returns
returns c = record { accepted = ready_accepted; refused = unready_not_accepted; ahead = pointed_ready_accepted; astray = astray_not_accepted; refused_ahead = unready_ahead_not_accepted }
