use Rattle.std.proofs.Common.{ap, sym}
use Rattle.iom_litmus_hardware.specs.Places.{Tested}
use Rattle.iom_litmus_hardware.proofs.under_test.UnderTest.take.Goals as goal

pub returns-clause-leads : goal.returns-clause-leads
returns-clause-leads c = (
  c.self.inside.session,
  c.take-2.new.session,
  ap (λ (t : Tested). t.place) c.self.view_is,
  sym c.list.ensures.place,
  c.self.invariant,
  c.in_ok-reply.ensures.leads,
)
