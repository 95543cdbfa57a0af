use Rattle.std.proofs.Common.{◌≡◌, ◌∙◌, ◌↔◌, ◌<◌, ◌≤◌, ◌-◌, ℕ, suc, IsTrue, Bool, Some, slice_get, length, refl, sym, subst, arith}
use Rattle.std.proofs.lemmas.Bool.{false≢true}
use Rattle.std.proofs.lemmas.Option.{slice_get_read}
use Rattle.iom_base.specs.declared.access.AcceptedAccess.{AcceptedAccess}
use Rattle.iom_base.specs.declared.access.AccessKind.{AccessKind}
use Rattle.iom_ledger.specs.History.{History, May, confirmed_from}
use Rattle.iom_machine.proofs.InFlightLemmas.{All-at, All-by_parts}
use Rattle.iom_machine_judge.proofs.polls.+each_may.Goals as goal

-- so many tickets are those from the first to the last
once : (first last id frame : ℕ) (kind : AccessKind) (h : History) (may : Bool) → first ≤ last → IsTrue may ↔ May (confirmed_from first (suc last - first) h) id frame kind
    → IsTrue may ↔ May (confirmed_from first (suc (last - first)) h) id frame kind
once first last id frame kind h may within decides =
    let many : suc last - first ≡ suc (last - first) = omega (arith, within) in
    subst (λ (n : ℕ). IsTrue may ↔ May (confirmed_from first n h) id frame kind) many decides

pub returns-else-may_once : goal.returns-else-may_once
returns-else-may_once t c = λ h past.
    let some : 0 < length c.args.in_flight.now = omega (arith, c.in-len1-up.len_at_least) in
    let first : slice_get c.args.in_flight.now 0 ≡ Some c.flight-item.result =
    slice_get_read c.args.in_flight.now _ 0 c.flight-item.result refl some c.flight-item.is in (
      (λ yes. absurd (false≢true (sym c.if-may_once.false ∙ yes))),
      (λ all. absurd (false≢true (sym c.if-may_once.false ∙ (once c.args.first c.args.last c.args.id c.flight-item.result.frame c.flight-item.result.access.kind h c.may_once.result c.requires (c.may_once.ensures.may h past)).1
          (All-at (λ (flight : AcceptedAccess). May (confirmed_from c.args.first (suc (c.args.last - c.args.first)) h) c.args.id flight.frame flight.access.kind)
          c.args.in_flight.now 0 c.flight-item.result all first)))),
    )

pub returns-then-may_once : goal.returns-then-may_once
returns-then-may_once t c = λ h past.
    let some : 0 < length c.args.in_flight.now = omega (arith, c.in-len1-up.len_at_least) in
    let first : slice_get c.args.in_flight.now 0 ≡ Some c.flight-item.result =
    slice_get_read c.args.in_flight.now _ 0 c.flight-item.result refl some c.flight-item.is in
    let parts = All-by_parts (λ (flight : AcceptedAccess). May (confirmed_from c.args.first (suc (c.args.last - c.args.first)) h) c.args.id flight.frame flight.access.kind)
    c.args.in_flight.now c.flight-item.result first in
    ((λ yes. parts.0 ((once c.args.first c.args.last c.args.id c.flight-item.result.frame c.flight-item.result.access.kind h c.may_once.result c.requires (c.may_once.ensures.may h past)).0 c.if-may_once.true) ((c.each_may.ensures h past).0 yes)), (λ all. (c.each_may.ensures h past).1 (parts.1 all)))
