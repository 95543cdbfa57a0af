use Rattle.std.proofs.Common.{◌∙◌, false, arith}
use Rattle.iom_settling.specs.Settles.{AreInSettlingOrder}
use Rattle.iom_settling.specs.Stages.{flights_by, AreCommitsOf, AreDeliveries}
use Rattle.iom_settling.proofs.LawLemmas.{at_most_twice}
use Rattle.iom_settling.proofs.OrderLemmas.{are_quieting}
use Rattle.iom_settling.proofs.WentLemmas.{went_both}
use Rattle.iom_settling.proofs.settling.quiet_down.Goals as goal

pub deliver_all-requires : goal.deliver_all-requires
deliver_all-requires g c =
    let many = c.facts.ensures.messages in
    let light = at_most_twice (g.T.TakesEvents.parts c.commit_all-commits.new.world).fabric in
    let before = c.commit_all-commits.ensures.counted in
    let few = c.commit_all-commits.ensures.few in
    let room = c.requires.count in
    record { light = omega (arith, many, light); count = omega (arith, many, light, before, few, room) }

pub overflow_add-result : goal.overflow_add-result
overflow_add-result g c =
    let many = c.facts.ensures.messages in
    let light = at_most_twice (g.T.TakesEvents.parts c.commit_all-commits.new.world).fabric in
    let few = c.commit_all-commits.ensures.few in
    let more = c.deliver_all.ensures.few in
    omega (arith, many, light, few, more)

pub returns : goal.returns
returns g c =
    let many = c.facts.ensures.messages in
    let light = at_most_twice (g.T.TakesEvents.parts c.commit_all-commits.new.world).fabric in
    let few = c.commit_all-commits.ensures.few in
    let more = c.deliver_all.ensures.few in
    let before = c.commit_all-commits.ensures.counted in
    let after = c.deliver_all.ensures.counted in
    record {
      went = went_both g.T.TakesEvents.happens (AreCommitsOf (g.T.TakesEvents.parts c.args.world.now)) AreDeliveries (AreInSettlingOrder false (flights_by (g.T.TakesEvents.parts c.args.world.now))) _ _ _ c.commit_all-commits.result c.deliver_all.result
          (are_quieting (g.T.TakesEvents.parts c.args.world.now)) c.commit_all-commits.ensures.went c.deliver_all.ensures.went;
      few = omega (arith, many, light, few, more);
      driver = c.deliver_all.ensures.driver ∙ c.commit_all-commits.ensures.driver;
      idle = c.deliver_all.ensures.idle c.commit_all-commits.ensures.idle;
      quiet = c.deliver_all.ensures.quiet;
      counted = omega (arith, before, after);
    }
