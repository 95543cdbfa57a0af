use Rattle.iom_hardware_runner.proofs.RunLemmas.{came_by_nothing}
use Rattle.iom_hardware_runner.proofs.machine.Machine.new.Goals as goal

pub returns-clause-begins : goal.returns-clause-begins
returns-clause-begins c =
    let teller = c.in-Ok-new.ensures in (
      c.in-Some.setup,
      (c.setup_of.ensures c.in-Some.setup).0 c.in-Some.is,
      came_by_nothing c.in-Some.setup (record { alloc = c.args.alloc; teller = c.in-Ok-new.teller; helper = c.new-3.result }) c.in-Ok.session
          (record { power_on = c.in-Ok.ensures.power_on; beside = c.in-Ok.ensures.beside; claims = c.in-Ok.ensures.claims; trusted = c.in-Ok.ensures.trusted; watched = c.in-Ok.ensures.watched })
          teller.0 teller.1 c.new-3.ensures.off c.new-3.ensures.traffic,
    )
