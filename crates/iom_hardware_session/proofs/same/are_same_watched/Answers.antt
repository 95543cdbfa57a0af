use Rattle.std.proofs.lemmas.Slice.Eq.{slice_eq-Decides}
use Rattle.iom_hardware_session.proofs.SameLemmas.{watched_decides}
use Rattle.iom_hardware_session.proofs.same.are_same_watched.Goals as goal

pub returns : goal.returns
returns c = slice_eq-Decides watched_decides c.args.watched.now c.args.others.now c.eq.result c.eq.ensures
