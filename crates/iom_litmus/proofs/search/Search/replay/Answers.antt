use Rattle.std.proofs.Common.{subst}
use Rattle.iom_litmus.specs.Searches.{LeadsOn}
use Rattle.iom_litmus.specs.Steps.{opening_place}
use Rattle.iom_litmus.proofs.AroundLemmas.{leads_on-next, take_whole}
use Rattle.iom_litmus.proofs.search.Search.replay.Goals as goal

pub loop-step-preserved : goal.loop-step-preserved
loop-step-preserved g c =
    let (system, opened, leads) = c.loop-step.invariant in (
      system,
      opened,
      leads_on-next g.S.System.rules g.S.System.readings c.args.self.now.test.now (opening_place system) c.loop-step.place c.in-Taken.next
          c.args.steps.now c.loop-step.step-index _ c.in_ok-next.field-0 leads c.loop-step-test.true c.in_ok-next.ensures c.in-Taken.is,
    )

pub returns-clause-comes : goal.returns-clause-comes
returns-clause-comes g c =
    let (system, opened, leads) = c.loop-step.invariant in (
      system,
      opened,
      subst (λ steps. LeadsOn g.S.System.rules g.S.System.readings c.args.self.now.test.now (opening_place system) steps c.loop-step.place)
          (take_whole c.args.steps.now c.loop-step.step-index c.loop-step-test.false) leads,
    )
