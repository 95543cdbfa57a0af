use Rattle.std.proofs.Common.{codes, Some, None, ℕ, subst}
use Rattle.std.specs.Prelude.{List}
use Rattle.iom_script.specs.Words.{IsAddress, IsHex}
use Rattle.iom_script.specs.Reading.{Reads}
use Rattle.iom_script.proofs.FieldLemmas.{followed_none, followed_by_none, followed_by}
use Rattle.iom_script.proofs.EventLemmas.{no_start, poke_reads}
use Rattle.iom_script.proofs.events.poke.Goals as goal

pub returns-in_default : goal.returns-in_default
returns-in_default c = no_start (codes "poke ") c.args.line.now c.in_default.ensures

pub returns-in_default-address_and : goal.returns-in_default-address_and
returns-in_default-address_and c = poke_reads c.args.line.now c.in-Some.arguments.now c.in-Some.ensures None (followed_none IsAddress IsHex c.in-Some.arguments.now c.in_default-address_and.ensures)

pub returns-in_default-2 : goal.returns-in_default-2
returns-in_default-2 c =
    poke_reads c.args.line.now c.in-Some.arguments.now c.in-Some.ensures None (followed_by_none IsAddress IsHex c.in-Some.arguments.now c.in-Some-address_and.rest.now c.in-Some-address_and.address c.in-Some-address_and.ensures
    (subst (λ o. Reads o (IsHex c.in-Some-address_and.rest.now)) c.in_default-2.is c.in_ok-bytes.ensures))

pub returns : goal.returns
returns c =
    let words : ℕ × List ℕ = (c.in-Some-address_and.address, c.in-Some-2.bytes) in
    poke_reads c.args.line.now c.in-Some.arguments.now c.in-Some.ensures (Some words) (followed_by IsAddress IsHex c.in-Some.arguments.now c.in-Some-address_and.rest.now c.in-Some-address_and.address c.in-Some-2.bytes c.in-Some-address_and.ensures
    (subst (λ o. Reads o (IsHex c.in-Some-address_and.rest.now)) c.in-Some-2.is c.in_ok-bytes.ensures))
