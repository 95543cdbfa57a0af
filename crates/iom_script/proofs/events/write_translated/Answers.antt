use Rattle.std.proofs.Common.{codes, Some, None, ℕ, subst}
use Rattle.std.specs.Prelude.{List}
use Rattle.iom_script.specs.Words.{IsDevice, IsAddress, IsHex}
use Rattle.iom_script.specs.Reading.{Reads}
use Rattle.iom_script.proofs.FieldLemmas.{Followed, followed_none, followed_by_none, followed_by}
use Rattle.iom_script.proofs.EventLemmas.{no_start}
use Rattle.iom_script.proofs.AtsEventLemmas.{twrite_reads}
use Rattle.iom_script.proofs.events.write_translated.Goals as goal

pub returns-in_default : goal.returns-in_default
returns-in_default c = no_start (codes "twrite ") c.args.line.now c.in_default.ensures

pub returns-in_default-device_and : goal.returns-in_default-device_and
returns-in_default-device_and c = twrite_reads c.args.line.now c.in-Some.arguments.now c.in-Some.ensures None (followed_none IsDevice (Followed IsAddress IsHex) c.in-Some.arguments.now c.in_default-device_and.ensures)

pub returns-in_default-address_and : goal.returns-in_default-address_and
returns-in_default-address_and c =
    twrite_reads c.args.line.now c.in-Some.arguments.now c.in-Some.ensures None (followed_by_none IsDevice (Followed IsAddress IsHex) c.in-Some.arguments.now c.in-Some-device_and.rest.now c.in-Some-device_and.device c.in-Some-device_and.ensures
    (followed_none IsAddress IsHex c.in-Some-device_and.rest.now c.in_default-address_and.ensures))

pub returns-in_default-2 : goal.returns-in_default-2
returns-in_default-2 c =
    twrite_reads c.args.line.now c.in-Some.arguments.now c.in-Some.ensures None (followed_by_none IsDevice (Followed IsAddress IsHex) c.in-Some.arguments.now c.in-Some-device_and.rest.now c.in-Some-device_and.device c.in-Some-device_and.ensures
    (followed_by_none IsAddress IsHex c.in-Some-device_and.rest.now c.in-Some-address_and.rest.now c.in-Some-address_and.address c.in-Some-address_and.ensures (subst (λ o. Reads o (IsHex c.in-Some-address_and.rest.now)) c.in_default-2.is c.in_ok-bytes.ensures)))

pub returns : goal.returns
returns c =
    let two : ℕ × List ℕ = (c.in-Some-address_and.address, c.in-Some-2.bytes) in
    let words : ℕ × (ℕ × List ℕ) = (c.in-Some-device_and.device, two) in
    twrite_reads c.args.line.now c.in-Some.arguments.now c.in-Some.ensures (Some words) (followed_by IsDevice (Followed IsAddress IsHex) c.in-Some.arguments.now c.in-Some-device_and.rest.now c.in-Some-device_and.device two c.in-Some-device_and.ensures
    (followed_by IsAddress IsHex c.in-Some-device_and.rest.now c.in-Some-address_and.rest.now c.in-Some-address_and.address c.in-Some-2.bytes c.in-Some-address_and.ensures (subst (λ o. Reads o (IsHex c.in-Some-address_and.rest.now)) c.in-Some-2.is c.in_ok-bytes.ensures)))
