use Rattle.std.proofs.Common.{◌∙◌, ◌∷◌, refl, sym}
use Rattle.iom_judge.specs.Happenings.{Shared}
use Rattle.iom_judge.proofs.CertificateLemmas.{if_ok}
use Rattle.iom_judge.proofs.SharingLemmas.{for_sharers}
use Rattle.iom_judge.proofs.machine.TraceMachine.change_sharers.Goals as goal

pub returns : goal.returns
returns c =
    let devices = c.as_slice.result.now in
    if_ok c.change_these.result _ _
    (λ rest. (
      Shared c.in-Some.device devices ∷ rest.0,
      rw (sym c.by.ensures, c.in-Some.is) (devices, rest.0, rest.1, refl),
      for_sharers c.args.self.now c.change_these.new.self c.in-Some.device devices rest.0 (c.as_slice.ensures.value ∙ c.in_ok-devices.ensures) rest.2,
    ))
    c.change_these.ensures
