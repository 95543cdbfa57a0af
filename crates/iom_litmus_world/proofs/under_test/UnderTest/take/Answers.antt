use Rattle.std.proofs.Common.{ap, sym}
use Rattle.iom_litmus_world.specs.Places.{Tested}
use Rattle.iom_litmus_world.proofs.under_test.UnderTest.take.Goals as goal

pub returns-clause-leads : goal.returns-clause-leads
returns-clause-leads g c =
    (c.self.inside.world, c.take-2.new.world, ap (λ (t : Tested). t.place) c.self.view_is, sym c.list.ensures.place, c.in_ok-reply.ensures)
