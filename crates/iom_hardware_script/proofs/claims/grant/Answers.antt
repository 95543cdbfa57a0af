use Rattle.std.proofs.Common.{Some, None, codes, ℕ}
use Rattle.iom_base.specs.declared.grant_rights.GrantRights.{GrantRights}
use Rattle.iom_script.specs.Words.{IsDevice, IsNumber, IsRight}
use Rattle.iom_script.proofs.FieldLemmas.{Followed, followed_by, followed_by_none, followed_none}
use Rattle.iom_hardware_script.proofs.ClaimLemmas.{no_claim, grant_reads}
use Rattle.iom_hardware_script.proofs.claims.grant.Goals as goal

pub returns-in_err-arguments : goal.returns-in_err-arguments
returns-in_err-arguments c = rw c.from_residual.ensures (no_claim (codes "grant ") c.args.text.now c.in_err-arguments.ensures)

pub returns-in_err-device : goal.returns-in_err-device
returns-in_err-device c = rw c.from_residual-in_err-device.ensures (grant_reads c.args.text.now c.in_ok-arguments.arguments.now c.in_ok-arguments.ensures None (followed_none IsDevice (Followed IsNumber (Followed IsNumber IsRight)) c.in_ok-arguments.arguments.now c.in_err-device.ensures))

pub returns-in_err-page : goal.returns-in_err-page
returns-in_err-page c = rw c.from_residual-in_err-page.ensures (grant_reads c.args.text.now c.in_ok-arguments.arguments.now c.in_ok-arguments.ensures None (followed_by_none IsDevice (Followed IsNumber (Followed IsNumber IsRight)) c.in_ok-arguments.arguments.now c.in_ok-device.rest.now c.in_ok-device.device c.in_ok-device.ensures (followed_none IsNumber (Followed IsNumber IsRight) c.in_ok-device.rest.now c.in_err-page.ensures)))

pub returns-in_err-frame : goal.returns-in_err-frame
returns-in_err-frame c = rw c.from_residual-in_err-frame.ensures (grant_reads c.args.text.now c.in_ok-arguments.arguments.now c.in_ok-arguments.ensures None (followed_by_none IsDevice (Followed IsNumber (Followed IsNumber IsRight)) c.in_ok-arguments.arguments.now c.in_ok-device.rest.now c.in_ok-device.device c.in_ok-device.ensures (followed_by_none IsNumber (Followed IsNumber IsRight) c.in_ok-device.rest.now c.in_ok-page.rest.now c.in_ok-page.page c.in_ok-page.ensures (followed_none IsNumber IsRight c.in_ok-page.rest.now c.in_err-frame.ensures))))

pub returns-in_err-rights : goal.returns-in_err-rights
returns-in_err-rights c = rw c.from_residual-in_err-rights.ensures (grant_reads c.args.text.now c.in_ok-arguments.arguments.now c.in_ok-arguments.ensures None (followed_by_none IsDevice (Followed IsNumber (Followed IsNumber IsRight)) c.in_ok-arguments.arguments.now c.in_ok-device.rest.now c.in_ok-device.device c.in_ok-device.ensures (followed_by_none IsNumber (Followed IsNumber IsRight) c.in_ok-device.rest.now c.in_ok-page.rest.now c.in_ok-page.page c.in_ok-page.ensures (followed_by_none IsNumber IsRight c.in_ok-page.rest.now c.in_ok-frame.right.now c.in_ok-frame.frame c.in_ok-frame.ensures c.in_err-rights.ensures))))

pub returns : goal.returns
returns c =
    let from_frame : ℕ × GrantRights = (c.in_ok-frame.frame, c.in_ok-rights.rights) in
    let from_page : ℕ × (ℕ × GrantRights) = (c.in_ok-page.page, from_frame) in
    let words : ℕ × (ℕ × (ℕ × GrantRights)) = (c.in_ok-device.device, from_page) in
    grant_reads c.args.text.now c.in_ok-arguments.arguments.now c.in_ok-arguments.ensures (Some words) (followed_by IsDevice (Followed IsNumber (Followed IsNumber IsRight)) c.in_ok-arguments.arguments.now c.in_ok-device.rest.now c.in_ok-device.device from_page c.in_ok-device.ensures (followed_by IsNumber (Followed IsNumber IsRight) c.in_ok-device.rest.now c.in_ok-page.rest.now c.in_ok-page.page from_frame c.in_ok-page.ensures (followed_by IsNumber IsRight c.in_ok-page.rest.now c.in_ok-frame.right.now c.in_ok-frame.frame c.in_ok-rights.rights c.in_ok-frame.ensures c.in_ok-rights.ensures)))
