use Rattle.std.proofs.Common.{Some, None, codes, ℕ}
use Rattle.iom_script.specs.Words.{IsDevice, IsNumber}
use Rattle.iom_script.proofs.FieldLemmas.{followed_by, followed_by_none, followed_none}
use Rattle.iom_hardware_script.proofs.ClaimLemmas.{no_claim, release_reads}
use Rattle.iom_hardware_script.proofs.claims.release.Goals as goal

pub returns-in_err-arguments : goal.returns-in_err-arguments
returns-in_err-arguments c = rw c.from_residual.ensures (no_claim (codes "release ") c.args.text.now c.in_err-arguments.ensures)

pub returns-in_err-device : goal.returns-in_err-device
returns-in_err-device c = rw c.from_residual-in_err-device.ensures (release_reads c.args.text.now c.in_ok-arguments.arguments.now c.in_ok-arguments.ensures None (followed_none IsDevice IsNumber c.in_ok-arguments.arguments.now c.in_err-device.ensures))

pub returns-in_err-page : goal.returns-in_err-page
returns-in_err-page c = rw c.from_residual-in_err-page.ensures (release_reads c.args.text.now c.in_ok-arguments.arguments.now c.in_ok-arguments.ensures None (followed_by_none IsDevice IsNumber c.in_ok-arguments.arguments.now c.in_ok-device.rest.now c.in_ok-device.device c.in_ok-device.ensures c.in_err-page.ensures))

pub returns : goal.returns
returns c =
    let words : ℕ × ℕ = (c.in_ok-device.device, c.in_ok-page.page) in
    release_reads c.args.text.now c.in_ok-arguments.arguments.now c.in_ok-arguments.ensures (Some words) (followed_by IsDevice IsNumber c.in_ok-arguments.arguments.now c.in_ok-device.rest.now c.in_ok-device.device c.in_ok-page.page c.in_ok-device.ensures c.in_ok-page.ensures)
