use Rattle.iom_hardware_session.specs.Good.{scene_in}
use Rattle.iom_way_survey.proofs.SafeLemmas.{reached_is_way}
use Rattle.iom_hardware_session.proofs.state.Session.left_of_hand_off.Goals as goal

pub returns-in-Some-clause-some : goal.returns-in-Some-clause-some
returns-in-Some-clause-some c = λ claimed.
    reached_is_way c.args.self.now.survey (scene_in c.args.self.now) c.in-Some.device c.args.frame c.in-Some.kind c.requires.looked.1 (rw c.in-Some.is at c.first_way_to.ensures.some)

pub returns-then-is_used-clause-some : goal.returns-then-is_used-clause-some
returns-then-is_used-clause-some c = λ claimed. c.is_used.ensures.used _ c.requires.looked.1 c.if-is_used.true

pub returns-clause-none : goal.returns-clause-none
returns-clause-none c = λ is. (c.first_way_to.ensures.none c.in_default.is, c.is_used.ensures.unused _ c.requires.looked.0 c.if-is_used.false)
