use Rattle.std.proofs.Common.{◌≡◌, ◌≤◌, ◌∙◌, length, sym, subst}
use Rattle.iom_driver.specs.Layout.{AreFixed}
use Rattle.iom_driver.specs.StateOf.{state_of}
use Rattle.iom_driver.proofs.Unchanged.{ready_stays}
use Rattle.iom_driver.proofs.laws.stays_ready.Goals as goal

pub returns : goal.returns
returns c = λ driver old new r s ready keeps ring.
    let many : length old ≡ driver.frames = ready.stand.size ∙ driver.invariants.sizes.owned in
    let le : 64 ≤ driver.frames = driver.invariants.sizes.size.0 in
    ready_stays (state_of driver) old new r s (subst (λ n. 64 ≤ n) (sym many) le) (subst (λ n. AreFixed driver.owners n) (sym many) driver.invariants.fixed) driver.invariants.sizes.in_range ready keeps ring
