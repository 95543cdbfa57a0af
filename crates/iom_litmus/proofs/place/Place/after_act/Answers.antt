use Rattle.std.proofs.Common.{rules}
use Rattle.iom_litmus.specs.Steps.{CanAct}
use Rattle.iom_litmus.proofs.TryLemmas.{cannot_act}
use Rattle.iom_litmus.proofs.place.Place.after_act.Goals as goal

pub returns-then-not-can_act : goal.returns-then-not-can_act
returns-then-not-can_act g c =
    cannot_act g.S.System.rules g.S.System.readings c.args.test.now c.args.self c.args.act (search rules)
