use Rattle.std.proofs.Common.{List, subst}
use Rattle.iom_hardware_script.specs.declared.script.HardwareLine.{HardwareLine}
use Rattle.iom_litmus_hardware.specs.Openings.{GoesThrough, whole}
use Rattle.iom_litmus_hardware.proofs.opening.Opening.session.Goals as goal

pub returns-clause-opened : goal.returns-clause-opened
returns-clause-opened c =
    subst (λ (lines : List HardwareLine). GoesThrough c.in-Ok.session lines c.go_through.new.session) c.as_slice.ensures c.in_ok-go_through.ensures.through
    (whole c.args.self.now.frames)
    (record {
      power_on = c.in-Ok.ensures.power_on;
      beside = c.in-Ok.ensures.beside;
      claims = c.in-Ok.ensures.claims;
      trusted = c.in-Ok.ensures.trusted;
      watched = c.in-Ok.ensures.watched;
    })
