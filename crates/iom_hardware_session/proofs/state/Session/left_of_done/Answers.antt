use Rattle.std.proofs.Common.{refl}
use Rattle.iom_hardware_session.proofs.DoneLemmas.{reaches_beyond}
use Rattle.iom_hardware_session.specs.Good.{scene_in}
use Rattle.iom_hardware_session.proofs.state.Session.left_of_done.Goals as goal

pub returns-in-Some-clause-some : goal.returns-in-Some-clause-some
returns-in-Some-clause-some c = λ claimed shows.
    (refl, reaches_beyond c.args.self.now.survey (scene_in c.args.self.now) claimed c.args.device c.args.frame c.in-Some.kind c.requires.looked.1 (rw c.in-Some.is at (c.way_beyond.ensures.beyond claimed shows)))

pub returns-in-None-clause-none : goal.returns-in-None-clause-none
returns-in-None-clause-none c = λ claimed shows is. c.way_beyond.ensures.within _ claimed c.requires.looked.0 shows c.in-None.is
