use Rattle.iom_hardware_session.proofs.SessionLemmas.{accesses_are_claimed, done_stays_out, handed_off_stays_untouched}
use Rattle.iom_hardware_session.proofs.laws.session_law.Goals as goal

pub returns-clause-accesses : goal.returns-clause-accesses
returns-clause-accesses c = accesses_are_claimed

pub returns-clause-done : goal.returns-clause-done
returns-clause-done c = done_stays_out c.good_law.ensures.again c.good_law.ensures.done c.good_law.ensures.handed_off

pub returns-clause-handed_off : goal.returns-clause-handed_off
returns-clause-handed_off c = handed_off_stays_untouched c.good_law.ensures.again c.good_law.ensures.done c.good_law.ensures.handed_off
