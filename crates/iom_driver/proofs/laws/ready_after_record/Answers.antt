use Rattle.std.proofs.Common.{◌≡◌, ◌∙◌, length, sym, subst}
use Rattle.iom_driver.specs.Layout.{AreFixed}
use Rattle.iom_driver.specs.StateOf.{state_of}
use Rattle.iom_driver.proofs.Reported.{ready_reported}
use Rattle.iom_driver.proofs.laws.ready_after_record.Goals as goal

pub returns : goal.returns
returns c = λ driver old new r s fields answer ready runs puts.
    let many : length old ≡ driver.frames = ready.stand.size ∙ driver.invariants.sizes.owned in
    ready_reported (state_of driver) old new r s fields answer (subst (λ n. AreFixed driver.owners n) (sym many) driver.invariants.fixed) driver.invariants.sizes.in_range runs ready puts
