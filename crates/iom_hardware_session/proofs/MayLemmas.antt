-- What a device may reach stays, whatever is claimed of others.
use Rattle.std.proofs.Common.{◌≡◌, ◌⊎◌, inl, inr, ℕ, Bool, true, false, not, ◌==◌, List, ◌∷◌, Contains, None, Some, refl, sym, ap, subst}
use Rattle.std.proofs.lemmas.Bool.{eqb-true}
use Rattle.iom_base.specs.declared.access.AccessKind.{AccessKind}
use Rattle.iom_base.specs.Rights.{allows}
use Rattle.iom_claims.proofs.HistoryLemmas.{grant_from, claim_from, same_grant, same_claim, at_page, moved, held_to_grant, held_to_release, lingering_after_grant, open_to_release, open_to_done}
use Rattle.iom_claims.specs.Claimed.{IsHeld, IsOpen}
use Rattle.iom_claims.specs.declared.grant.Grant.{Grant}
use Rattle.iom_claims.specs.Rows.{is_at, pair_of}
use Rattle.iom_ledger.specs.declared.entry.HistoryEntry.TheVariants.{Granted, Released, Confirmed}
use Rattle.iom_ledger.specs.History.{History, Pair, Holds, Lingers, May, held_at, confirms}

-- a grant takes nothing away, where nothing was held at its page
pub may_after_grant : (h : History) (grant : Grant) (device frame : ℕ) (kind : AccessKind) → held_at h grant.device grant.page ≡ None → May h device frame kind
    → May (Granted grant.device grant.page grant.frame grant.rights ∷ h) device frame kind
may_after_grant h grant device frame kind none (page, rights, inl holds, allows) = (page, rights, inl (held_to_grant h grant (grant_from device page (frame, rights)) none (inl holds)), allows)
may_after_grant h grant device frame kind none (page, rights, inr (ticket, lingers), allows) =
    (page, rights, inr (ticket, subst (λ (open_there : List (ℕ × Pair)). Contains open_there (ticket, (frame, rights))) (sym (lingering_after_grant h grant device page)) lingers), allows)

-- what is withdrawn lingers
pub may_after_release : (h : History) (own : Grant) (number device frame : ℕ) (kind : AccessKind) → IsHeld h own → confirms h number ≡ false → May h device frame kind
    → May (Released own.device own.page number ∷ h) device frame kind
may_after_release h own number device frame kind held fresh (page, rights, inl holds, allows) = (page, rights, by (is_at own.device own.page (grant_from device page (frame, rights))) refl, allows)
  where
    by : (b : Bool) → is_at own.device own.page (grant_from device page (frame, rights)) ≡ b
        → Holds (Released own.device own.page number ∷ h) device page (frame, rights) ⊎ Lingers (Released own.device own.page number ∷ h) device page (frame, rights)
    by false e = inl (held_to_release h own.device own.page number (grant_from device page (frame, rights)) holds (ap not e))
    by true e =
        let parts = at_page own.device own.page (grant_from device page (frame, rights)) e in
        let there = moved h own.device own.page (grant_from device page (frame, rights)) (Some (pair_of own)) e held in
        let pairs : ◌≡◌ {A = Pair} (pair_of own) (frame, rights) = cc in
        inr (number, open_to_release h own number (claim_from number (grant_from device page (frame, rights))) held fresh (inr (same_claim (claim_from number own) (claim_from number (grant_from device page (frame, rights))) refl (same_grant own (grant_from device page (frame, rights)) parts.0 parts.1 pairs))))
may_after_release h own number device frame kind held fresh (page, rights, inr (ticket, lingers), allows) =
    (page, rights, inr (ticket, open_to_release h own number (claim_from ticket (grant_from device page (frame, rights))) held fresh (inl lingers)), allows)

-- a claim that is done takes away what it withdrew, and nothing of others
pub may_after_done : (h : History) (number device frame : ℕ) (kind : AccessKind)
    → ((grant : Grant) → IsOpen h (claim_from number grant) → (grant.device ≡ device) × (grant.frame ≡ frame) → ⊥)
    → May h device frame kind → May (Confirmed number ∷ h) device frame kind
may_after_done h number device frame kind others (page, rights, inl holds, allows) = (page, rights, inl holds, allows)
may_after_done h number device frame kind others (page, rights, inr (ticket, lingers), allows) = (page, rights, inr (ticket, by (number == ticket) refl), allows)
  where
    by : (b : Bool) → (number == ticket) ≡ b → IsOpen (Confirmed number ∷ h) (claim_from ticket (grant_from device page (frame, rights)))
    by false e = open_to_done h number (claim_from ticket (grant_from device page (frame, rights))) lingers (ap not e)
    by true e = absurd (others (grant_from device page (frame, rights)) (subst (λ (n : ℕ). IsOpen h (claim_from n (grant_from device page (frame, rights)))) (sym (eqb-true number ticket e)) lingers) (refl, refl))
