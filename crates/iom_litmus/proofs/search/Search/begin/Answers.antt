use Rattle.std.proofs.Common.{subst}
use Rattle.iom_litmus.specs.Graphs.{WasPut}
use Rattle.iom_litmus.specs.Rules.{noting}
use Rattle.iom_litmus.proofs.AroundLemmas.{exploring_begins}
use Rattle.iom_litmus.proofs.search.Search.begin.Goals as goal

pub returns-clause-begun : goal.returns-clause-begun
returns-clause-begun g c none cells =
    let (system, opened, is) = c.in_ok-opening.ensures in (
      system,
      opened,
      exploring_begins (noting g.S.System.rules cells) g.S.System.readings c.args.self.now.test.now system c.in_ok-opening.opening c.new-nowhere.result c.put.new.self c.in_ok-put.field-0
          (subst (λ old. WasPut g.S.System.readings c.args.self.now.test.now c.new-nowhere.result c.in_ok-opening.opening old c.put.new.self c.in_ok-put.field-0) none c.in_ok-put.ensures.put)
          is c.new-nowhere.ensures,
    )
