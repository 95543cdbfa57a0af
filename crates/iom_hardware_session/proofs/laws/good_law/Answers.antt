use Rattle.iom_hardware_session.proofs.GoodLemmas.{done_stays, handed_off_stays, good_again_holds}
use Rattle.iom_hardware_session.proofs.laws.good_law.Goals as goal

pub returns-clause-done : goal.returns-clause-done
returns-clause-done c =
    done_stays c.ways_law.ensures.claims c.stepped_ways_law.ensures.claims c.pointed_ways_law.ensures.claims c.ways_law.ensures.free c.stepped_ways_law.ensures.free
    c.pointed_ways_law.ensures.free c.scene_law.ensures.stepped

pub returns-clause-handed_off : goal.returns-clause-handed_off
returns-clause-handed_off c =
    handed_off_stays c.ways_law.ensures.claims c.stepped_ways_law.ensures.claims c.pointed_ways_law.ensures.claims c.ways_law.ensures.free c.stepped_ways_law.ensures.free
    c.pointed_ways_law.ensures.free c.scene_law.ensures.stepped

pub returns-clause-again : goal.returns-clause-again
returns-clause-again c =
    good_again_holds c.ways_law.ensures.claims c.stepped_ways_law.ensures.claims c.pointed_ways_law.ensures.claims c.ways_law.ensures.free c.stepped_ways_law.ensures.free
    c.pointed_ways_law.ensures.free c.scene_law.ensures.stepped
