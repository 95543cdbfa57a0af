-- Why the ledger machine refuses a revival: for the first of the driver's own reasons.
use Rattle.std.proofs.Common.{suc, ◌≡◌, ◌||◌, ◌<◌, ◌≤◌, ◌∙◌, ℕ, Bool, true, false, not, nat_lt, [], ◌∷◌, is_some, refl, ap, arith, List}
use Rattle.std.proofs.lemmas.Bool.{leb-true, leb-false}
use Rattle.iom_walk_coherence.specs.Walks.{Walk}
use Rattle.iom_driver.specs.declared.device.Attachment as owned
use Rattle.iom_driver.specs.declared.device.Attachment.TheVariants as attached
use Rattle.iom_driver.specs.declared.device.Stages.{Stages}
use Rattle.iom_driver.specs.Devices as as_known
use Rattle.iom_driver.specs.Devices.{has_device, is_away, attached_stages}
use Rattle.iom_driver.specs.Reasons.{why_not_revive, waits_for_its_ticket}
use Rattle.iom_base.specs.declared.refusal.Refusal.TheVariants.{NotStarted, NoSuchDevice, NotAttached, AlreadyAttached, StillGranted}
use Rattle.iom_ledger.specs.History.{History, confirms}
use Rattle.iom_base.specs.Refusals.{first_that_applies}
use Rattle.iom_machine.specs.Refusals as machine
use Rattle.iom_machine.specs.Refusals.{attachment_of, is_detached, is_leaving, is_attached, may_still_reach}
use Rattle.iom_machine.specs.declared.state.Attachment.{Attachment}
use Rattle.iom_machine.specs.declared.state.State.{State}
use Rattle.iom_world_effects.specs.Devices.{shown_attachment}
use Rattle.iom_world_effects.specs.Parts.{Parts}
use Rattle.iom_world_effects.specs.Shows.{PartsShow}
use Rattle.iom_world_effects.specs.Invariant.{InvariantWith}
use Rattle.iom_world_effects.proofs.DriverLemmas.{DriverInvariant}
use Rattle.iom_world_refinement.proofs.ReasonLemmas.{there_shown, how_shown}

-- a device that is quarantined may still reach what it held exactly while the driver waits for its ticket
waits_shown : (history : History) (confirmed : ℕ) (how : owned.Attachment) → ((ticket : ℕ) (stage : Stages) → how ≡ attached.Quarantined ticket stage → 0 < ticket)
    → ((ticket : ℕ) → 0 < ticket → ticket ≤ confirmed → confirms history ticket ≡ true) → ((ticket : ℕ) → confirmed < ticket → confirms history ticket ≡ false)
    → may_still_reach history (shown_attachment how) ≡ waits_for_its_ticket confirmed how
waits_shown history confirmed attached.Detached given earlier later = refl
waits_shown history confirmed (attached.Attached stage) given earlier later = refl
waits_shown history confirmed (attached.Leaving ticket stage) given earlier later = refl
waits_shown history confirmed (attached.Quarantined ticket stage) given earlier later = by (nat_lt confirmed ticket) refl
  where
    by : (b : Bool) → nat_lt confirmed ticket ≡ b → not (confirms history ticket) ≡ b
    by true waits = ap not (later ticket (leb-true (suc confirmed) ticket waits))
    by false done = let low = leb-false (suc confirmed) ticket done in ap not (earlier ticket (given ticket stage refl) (omega (arith, low)))

-- the machine's tests of a revival, and the driver's
revive_same : (there there' started waits waits' : Bool) (attachment : Attachment) (how : owned.Attachment) → there ≡ there' → attachment ≡ shown_attachment how → started ≡ true → waits ≡ waits'
    → first_that_applies ((not there, NoSuchDevice) ∷ (is_detached attachment || is_leaving attachment, NotAttached) ∷ (is_attached attachment, AlreadyAttached) ∷ (waits, StillGranted) ∷ [])
    ≡ first_that_applies ((not started, NotStarted) ∷ (not there', NoSuchDevice) ∷ (is_away how, NotAttached) ∷ (is_some (attached_stages how), AlreadyAttached) ∷ (waits', StillGranted) ∷ [])
revive_same there there' started waits waits' attachment how same as_how on as_waits = rw (same, as_how, on, as_waits) (by how)
  where
    by : (how : owned.Attachment)
        → first_that_applies ((not there', NoSuchDevice) ∷ (is_detached (shown_attachment how) || is_leaving (shown_attachment how), NotAttached) ∷ (is_attached (shown_attachment how), AlreadyAttached) ∷ (waits', StillGranted) ∷ [])
        ≡ first_that_applies ((not there', NoSuchDevice) ∷ (is_away how, NotAttached) ∷ (is_some (attached_stages how), AlreadyAttached) ∷ (waits', StillGranted) ∷ [])
    by attached.Detached = refl
    by (attached.Attached stage) = refl
    by (attached.Quarantined ticket stage) = refl
    by (attached.Leaving ticket stage) = refl

-- THE CALL
pub revive_first : {walks : List Walk} (parts : Parts) (events : ℕ) (state : State) (id : ℕ) → InvariantWith walks parts events → DriverInvariant parts.driver → PartsShow parts state
    → first_that_applies (machine.revive_reasons state id) ≡ first_that_applies (why_not_revive parts.driver id)
revive_first parts events state id invariants own shows =
    let d = parts.driver in
    let how = as_known.attachment_by_id d.devices id in
    let attachment = how_shown parts events state id invariants shows in
    revive_same (machine.is_plugged state id) (has_device d.devices id) d.started (may_still_reach state.history (attachment_of state id)) (waits_for_its_ticket d.confirmed how) (attachment_of state id) how
    (there_shown parts events state id invariants shows) attachment invariants.started
    (ap (may_still_reach state.history) attachment
    ∙ waits_shown state.history d.confirmed how (λ ticket stage is. (own.quarantined id ticket stage is).0) shows.all_earlier shows.none_later)
