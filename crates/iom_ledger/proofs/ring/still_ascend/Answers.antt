use Rattle.std.proofs.Common.{◌≡◌, ◌++◌, ◌∷◌, [], ◌∙◌, ◌≤◌, Option, Some, sym, ap, subst}
use Rattle.std.specs.Option.{option_copied}
use Rattle.std.proofs.lemmas.Bool.{leb-true}
use Rattle.iom_ledger.specs.declared.pending.Pending.{Pending}
use Rattle.iom_ledger.specs.Ring.{is_ascending}
use Rattle.iom_ledger.proofs.RingLemmas.{nil_from_back, is_ascending-push}
use Rattle.iom_ledger.proofs.ring.still_ascend.Goals as goal

pub returns-in-None : goal.returns-in-None
returns-in-None c same ordered =
    let none = nil_from_back c.args.pending.now.items (sym c.back.ensures ∙ ap option_copied c.in-None.is) in
    ap (λ s. is_ascending (s ++ c.args.release ∷ [])) none

pub returns-then-ascending : goal.returns-then-ascending
returns-then-ascending c low ordered =
    is_ascending-push c.args.pending.now.items c.args.release (ordered c.if-ascending.true)
    (λ newest last.
    let same : ◌≡◌ {A = Option Pending} (Some c.in-Some.newest.now) (Some newest) = ap option_copied (sym c.in-Some.is) ∙ c.back.ensures ∙ last in
    let is : c.in-Some.newest.now ≡ newest = cc in
    subst (λ (p : Pending). p.ticket ≤ c.args.release.ticket) is (leb-true c.in-Some.newest.now.ticket c.args.release.ticket low))
