-- Why the ledger machine refuses a quarantine: for the first of the driver's own reasons.
use Rattle.std.proofs.Common.{◌≡◌, ◌||◌, ◌-◌, ◌∙◌, ℕ, Bool, true, false, not, [], ◌∷◌, Option, Some, None, MatchOption, nat_le, refl, sym, subst, List}
use Rattle.iom_walk_coherence.specs.Walks.{Walk}
use Rattle.iom_driver.specs.declared.device.Attachment as owned
use Rattle.iom_driver.specs.declared.device.Attachment.TheVariants as attached
use Rattle.iom_driver.specs.Devices as as_known
use Rattle.iom_driver.specs.Devices.{has_device, is_away}
use Rattle.iom_driver.specs.Fences.{last_fence}
use Rattle.iom_driver.specs.Reasons.{why_not_quarantine, lacks_places}
use Rattle.iom_iommu.specs.Parts.{registers_of}
use Rattle.iom_base.specs.declared.refusal.Refusal.{Refusal}
use Rattle.iom_base.specs.declared.refusal.Refusal.TheVariants.{NoSuchDevice, NotAttached, NotStarted, TooManyPending, QueueFull, NumbersUsedUp}
use Rattle.iom_base.specs.declared.refusal.Refusal.TheVariants as refusal
use Rattle.iom_ledger.specs.History.{pending_limit}
use Rattle.iom_base.specs.Refusals.{first_that_applies, NoneApplies, IsRefusedBy}
use Rattle.iom_machine.specs.declared.state.Attachment.{Attachment}
use Rattle.iom_machine.specs.declared.state.State.{State}
use Rattle.iom_machine.specs.Refusals as machine
use Rattle.iom_machine.specs.Refusals.{attachment_of, is_detached, is_leaving, is_quarantined, MayFindNoPlace}
use Rattle.iom_machine.specs.Tickets.{pending_tickets}
use Rattle.iom_world_effects.specs.Devices.{shown_attachment}
use Rattle.iom_world_effects.specs.Parts.{Parts}
use Rattle.iom_world_effects.specs.Shows.{PartsShow}
use Rattle.iom_world_effects.specs.Invariant.{InvariantWith}
use Rattle.iom_world_refinement.proofs.ReasonLemmas.{there_shown, how_shown, many_shown}

-- the first reason of the machine's, where the device is there or not, is attached so, and where as many tickets wait as may
abbrev machine_first : Bool → Attachment → Bool → Option Refusal
machine_first there attachment many = first_that_applies (
    (not there, NoSuchDevice)
    ∷ (is_detached attachment || is_leaving attachment, NotAttached)
    ∷ (is_quarantined attachment, refusal.Quarantined)
    ∷ (many, TooManyPending)
    ∷ [])

-- and of the driver's, where it is started or not; it has two more, the last
abbrev driver_first : Bool → Bool → owned.Attachment → Bool → Bool → Bool → Option Refusal
driver_first started there how many full used = first_that_applies (
    (not started, NotStarted)
    ∷ (not there, NoSuchDevice)
    ∷ (is_away how, NotAttached)
    ∷ (as_known.is_quarantined how, refusal.Quarantined)
    ∷ (many, TooManyPending)
    ∷ (full, QueueFull)
    ∷ (used, NumbersUsedUp)
    ∷ [])

-- these two may come where none of the machine's applies
quarantined_refused : (there : Bool) (how : owned.Attachment) (many full used : Bool) (why : Refusal) → driver_first true there how many full used ≡ Some why
    → MatchOption (machine_first there (shown_attachment how) many) (MayFindNoPlace why) (λ first. why ≡ first)
quarantined_refused false how many full used why first = cc
quarantined_refused true attached.Detached many full used why first = cc
quarantined_refused true (attached.Quarantined ticket stage) many full used why first = cc
quarantined_refused true (attached.Leaving ticket stage) many full used why first = cc
quarantined_refused true (attached.Attached stage) true full used why first = cc
quarantined_refused true (attached.Attached stage) false true used why first = let is : QueueFull ≡ why = cc in subst MayFindNoPlace is tt
quarantined_refused true (attached.Attached stage) false false true why first = let is : NumbersUsedUp ≡ why = cc in subst MayFindNoPlace is tt
quarantined_refused true (attached.Attached stage) false false false why first = cc

quarantined_none : (there : Bool) (how : owned.Attachment) (many full used : Bool) → driver_first true there how many full used ≡ None
    → machine_first there (shown_attachment how) many ≡ None
quarantined_none false how many full used none = cc
quarantined_none true attached.Detached many full used none = cc
quarantined_none true (attached.Quarantined ticket stage) many full used none = cc
quarantined_none true (attached.Leaving ticket stage) many full used none = cc
quarantined_none true (attached.Attached stage) true full used none = cc
quarantined_none true (attached.Attached stage) false full used none = refl

first_same : (there there' many many' : Bool) (attachment attachment' : Attachment) → there ≡ there' → attachment ≡ attachment' → many ≡ many'
    → machine_first there attachment many ≡ machine_first there' attachment' many'
first_same there there' many many' attachment attachment' same attached as_many = rw (same, attached, as_many) refl

-- the machine's first reason, by what the driver knows
quarantine_first : {walks : List Walk} (parts : Parts) (events : ℕ) (state : State) (id : ℕ) → InvariantWith walks parts events → PartsShow parts state
    → first_that_applies (machine.quarantine_reasons state id)
    ≡ machine_first (has_device parts.driver.devices id) (shown_attachment (as_known.attachment_by_id parts.driver.devices id)) (nat_le pending_limit (parts.driver.given - parts.driver.confirmed))
quarantine_first parts events state id invariants shows =
    let d = parts.driver in
    first_same (machine.is_plugged state id) (has_device d.devices id) (nat_le state.limits.pending (pending_tickets state)) (nat_le pending_limit (d.given - d.confirmed))
    (attachment_of state id) (shown_attachment (as_known.attachment_by_id d.devices id))
    (there_shown parts events state id invariants shows) (how_shown parts events state id invariants shows) (many_shown parts state shows)

-- the driver's, where it is started
started_first : (started there : Bool) (how : owned.Attachment) (many full used : Bool) (reply : Option Refusal) → started ≡ true → driver_first started there how many full used ≡ reply
    → driver_first true there how many full used ≡ reply
started_first started there how many full used reply on first = subst (λ s. driver_first s there how many full used ≡ reply) on first

pub quarantine_refused_by : {walks : List Walk} (parts : Parts) (events : ℕ) (state : State) (id : ℕ) (why : Refusal) → InvariantWith walks parts events → PartsShow parts state
    → first_that_applies (why_not_quarantine parts.driver (registers_of parts.iommu) id) ≡ Some why → IsRefusedBy (machine.quarantine_reasons state id) MayFindNoPlace why
quarantine_refused_by parts events state id why invariants shows first =
    let d = parts.driver in
    let how = as_known.attachment_by_id d.devices id in
    let many = nat_le pending_limit (d.given - d.confirmed) in
    let full = lacks_places 3 (registers_of parts.iommu) in
    let used = nat_le 4294967295 (last_fence d) in
    subst (λ o. MatchOption o (MayFindNoPlace why) (λ one. why ≡ one)) (sym (quarantine_first parts events state id invariants shows))
    (quarantined_refused (has_device d.devices id) how many full used why (started_first d.started (has_device d.devices id) how many full used (Some why) invariants.started first))

pub may_quarantine : {walks : List Walk} (parts : Parts) (events : ℕ) (state : State) (id : ℕ) → InvariantWith walks parts events → PartsShow parts state
    → NoneApplies (why_not_quarantine parts.driver (registers_of parts.iommu) id) → NoneApplies (machine.quarantine_reasons state id)
may_quarantine parts events state id invariants shows none =
    let d = parts.driver in
    let how = as_known.attachment_by_id d.devices id in
    let many = nat_le pending_limit (d.given - d.confirmed) in
    let full = lacks_places 3 (registers_of parts.iommu) in
    let used = nat_le 4294967295 (last_fence d) in
    quarantine_first parts events state id invariants shows
    ∙ quarantined_none (has_device d.devices id) how many full used (started_first d.started (has_device d.devices id) how many full used None invariants.started none)
