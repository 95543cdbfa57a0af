-- Why the ledger machine refuses a call of the driver: for the first of the driver's own reasons.
use Rattle.std.proofs.Common.{suc, ◌≡◌, ◌==◌, ◌||◌, ◌&&◌, ◌-◌, ◌∙◌, ℕ, Bool, true, false, not, List, [], ◌∷◌, length, find, Option, Some, None, option_map, option_to_list, MatchOption, is_some, is_none, IsTrue, ◌↔◌, nat_le, refl, sym, ap, subst, inl, inr}
use Rattle.std.specs.Option.{option_map_or}
use Rattle.std.proofs.lemmas.Bool.{false≢true}
use Rattle.std.proofs.lemmas.Bool.Decides.{eqb_tells}
use Rattle.iom_walk_coherence.specs.Walks.{Walk}
use Rattle.iom_driver.specs.declared.device.Device as driver
use Rattle.iom_driver.specs.declared.device.Attachment as owned
use Rattle.iom_driver.specs.declared.device.Attachment.TheVariants as attached
use Rattle.iom_driver.specs.declared.device.Stages.{Stages}
use Rattle.iom_driver.specs.Devices as as_known
use Rattle.iom_driver.specs.Devices.{device_by_id, has_device, is_away, attached_stages, owned_stages}
use Rattle.iom_driver.specs.Fences.{last_fence}
use Rattle.iom_base.specs.DeviceIds.{id_limit}
use Rattle.iom_driver.specs.Reasons.{why_not_plug, why_not_attach, why_not_grant, granting_reasons, page_limit_in, why_not_release, releasing_reasons, why_not_detach, detaching_reasons, is_busy, lacks_places, release_places, HasGrants}
use Rattle.iom_inflight.specs.Flights.{FlightRow}
use Rattle.iom_iommu.specs.Parts.{registers_of, flights_of}
use Rattle.iom_ledger.specs.declared.ledger.Ledger.{Ledger}
use Rattle.iom_base.specs.declared.refusal.Refusal.{Refusal}
use Rattle.iom_base.specs.declared.refusal.Refusal.TheVariants.{NoSuchDevice, AlreadyAttached, NotAttached, NotTrusted, IdTooWide, NotStarted, FrameOutOfRange, FrameReserved, IovaOutOfRange, IovaBusy, NotGranted, StillGranted, TooManyPending, QueueFull, NumbersUsedUp, AlreadyPlugged, TooManyDevices}
use Rattle.iom_base.specs.declared.refusal.Refusal.TheVariants as refusal
use Rattle.iom_ledger.specs.History.{Pair, pending_limit}
use Rattle.iom_base.specs.Refusals.{first_that_applies, NoneApplies, IsRefusedBy}
use Rattle.iom_ledger.specs.Shown.{Agrees, held_in, released_in, lingering_in}
use Rattle.iom_machine.specs.Frames.{is_reserved}
use Rattle.iom_machine.specs.Refusals as machine
use Rattle.iom_base.specs.DeviceKinds.{has_cache}
use Rattle.iom_machine.specs.Refusals.{attachment_of, is_detached, is_leaving, is_quarantined, is_held, is_lingering, has_grants, is_too_wide, is_trusted, page_limit_at, page_limit_under, MayFindNoPlace}
use Rattle.iom_machine.proofs.GrantLemmas.{grants_are_at_pages}
use Rattle.iom_machine.specs.Tickets.{last_confirmed, pending_tickets}
use Rattle.iom_machine.specs.declared.state.Attachment.{Attachment}
use Rattle.iom_machine.specs.declared.state.Attachment.TheVariants.{Detached}
use Rattle.iom_machine.specs.declared.state.Device as declared
use Rattle.iom_machine.specs.declared.state.Limits.{Limits}
use Rattle.iom_machine.specs.declared.state.State.{State}
use Rattle.iom_table_frames.specs.Owners.{has_owner}
use Rattle.iom_device.specs.declared.device.Device.{Device}
use Rattle.iom_world_effects.specs.Devices.{shown_attachment, shown_devices}
use Rattle.iom_world_effects.specs.Parts.{Parts}
use Rattle.iom_world_effects.specs.Shows.{PartsShow}
use Rattle.iom_world_effects.specs.Invariant.{InvariantWith, known_ids, plugged_ids}
use Rattle.iom_world_effects.proofs.FrameLemmas.{reserved_shown}
use Rattle.iom_world_refinement.proofs.PlaceLemmas.{shown_of}
use Rattle.iom_coherence.specs.Attachments.{caches_translations}
use Rattle.iom_device.specs.Caches.{kind_in}

-- THE DEVICES

-- the driver knows these devices, in their order
abbrev pub IsKnown : List driver.Device → List Device → Type 0
IsKnown known devices = known_ids known ≡ plugged_ids devices

-- the first of two lists, and the others
heads_are : (a b : ℕ) (later others : List ℕ) → ◌≡◌ {A = List ℕ} (a ∷ later) (b ∷ others) → a ≡ b
heads_are a b later others same = cc

tails_are : (a b : ℕ) (later others : List ℕ) → ◌≡◌ {A = List ℕ} (a ∷ later) (b ∷ others) → later ≡ others
tails_are a b later others same = cc

-- the machine finds a device with the id exactly where the driver knows one
found_known : (reply known : List driver.Device) (rows : List FlightRow) (devices : List Device) (id : ℕ) → IsKnown known devices → is_some (shown_of reply rows devices id) ≡ has_device known id
found_known reply [] rows [] id same = refl
found_known reply [] rows (device ∷ others) id same = cc
found_known reply (one ∷ known) rows [] id same = cc
found_known reply (one ∷ known) rows (device ∷ others) id same =
    let own : one.id ≡ device.id = heads_are one.id device.id _ _ same in
    let rest = found_known reply known rows others id (tails_are one.id device.id _ _ same) in
    rw own (elim (eqb_tells device.id id) [ inl e ↦ rw e.0 refl | inr ne ↦ rw ne.0 rest ])

-- and it is attached as the driver knows
found_attachment : (known : List driver.Device) (rows : List FlightRow) (devices : List Device) (id : ℕ) → is_some (shown_of known rows devices id) ≡ true
    → option_map_or (λ (device : declared.Device). device.attachment) (shown_of known rows devices id) Detached ≡ shown_attachment (as_known.attachment_by_id known id)
found_attachment known rows [] id there = absurd (false≢true there)
found_attachment known rows (device ∷ others) id there = elim (eqb_tells device.id id) [
  | inl e ↦ rw e.0 (ap (λ i. shown_attachment (as_known.attachment_by_id known i)) e.1)
  | inr ne ↦ rw ne.0 (found_attachment known rows others id (rw ne.0 at there))
]

none_attachment : (o : Option declared.Device) → is_some o ≡ false → option_map_or (λ (device : declared.Device). device.attachment) o Detached ≡ Detached
none_attachment None none = refl
none_attachment (Some device) none = absurd (false≢true (sym none))

-- a device that the driver doesn't know is attached to nothing
pub none_known : (known : List driver.Device) (id : ℕ) → has_device known id ≡ false → as_known.attachment_by_id known id ≡ attached.Detached
none_known known id none = by (device_by_id known id) none
  where
    by : (o : Option driver.Device) → is_some o ≡ false → option_map_or (λ (device : driver.Device). device.attachment) o attached.Detached ≡ attached.Detached
    by None none = refl
    by (Some device) none = absurd (false≢true (sym none))

pub plugged_shown : (known : List driver.Device) (rows : List FlightRow) (devices : List Device) (state : State) (id : ℕ) → IsKnown known devices → state.devices ≡ shown_devices known rows devices
    → machine.is_plugged state id ≡ has_device known id
plugged_shown known rows devices state id same shown =
    ap (λ (ds : List declared.Device). is_some (find (λ (d : declared.Device). d.id == id) ds)) shown ∙ found_known known known rows devices id same

pub attachment_shown : (known : List driver.Device) (rows : List FlightRow) (devices : List Device) (state : State) (id : ℕ) → IsKnown known devices → state.devices ≡ shown_devices known rows devices
    → attachment_of state id ≡ shown_attachment (as_known.attachment_by_id known id)
attachment_shown known rows devices state id same shown =
    ap (λ (ds : List declared.Device). option_map_or (λ (device : declared.Device). device.attachment) (find (λ (d : declared.Device). d.id == id) ds) Detached) shown
    ∙ by (has_device known id) refl
  where
    by : (b : Bool) → has_device known id ≡ b
        → option_map_or (λ (device : declared.Device). device.attachment) (shown_of known rows devices id) Detached ≡ shown_attachment (as_known.attachment_by_id known id)
    by true there = found_attachment known rows devices id (found_known known known rows devices id same ∙ there)
    by false none =
        none_attachment (shown_of known rows devices id) (found_known known known rows devices id same ∙ none)
        ∙ sym (ap shown_attachment (none_known known id none))

pub length-known : (known : List driver.Device) (devices : List Device) → IsKnown known devices → length known ≡ length devices
length-known [] [] same = refl
length-known [] (device ∷ others) same = cc
length-known (one ∷ known) [] same = cc
length-known (one ∷ known) (device ∷ others) same = ap suc (length-known known others (tails_are one.id device.id _ _ same))

length-shown : (known : List driver.Device) (rows : List FlightRow) (devices : List Device) → length (shown_devices known rows devices) ≡ length devices
length-shown known rows [] = refl
length-shown known rows (device ∷ others) = ap suc (length-shown known rows others)

-- THE PAGE

pub held_shown : (ledger : Ledger) (state : State) (id page : ℕ) → Agrees ledger state.history → is_held state id page ≡ is_some (held_in ledger id page)
held_shown ledger state id page agrees = ap (λ (o : Option Pair). is_some o) ((agrees.pages id page).holds)

lingering_of : (released : Option (ℕ × Pair)) → not (length (option_to_list released) == 0) ≡ is_some (option_map (λ (r : ℕ × Pair). r.1) released)
lingering_of None = refl
lingering_of (Some released) = refl

pub lingering_shown : (ledger : Ledger) (state : State) (id page : ℕ) → Agrees ledger state.history → is_lingering state id page ≡ is_some (lingering_in ledger id page)
lingering_shown ledger state id page agrees =
    ap (λ (l : List (ℕ × Pair)). not (length l == 0)) ((agrees.pages id page).lingers) ∙ lingering_of (released_in ledger id page)

busy_shown : (a a' b b' : Bool) → a ≡ a' → b ≡ b' → (a || b) ≡ (a' || b')
busy_shown a a' b b' one other = rw (one, other) refl

-- FRAMES AND TICKETS

pub frames_shown : {walks : List Walk} (parts : Parts) (events : ℕ) (state : State) → InvariantWith walks parts events → PartsShow parts state → length state.frames ≡ length parts.driver.owners
frames_shown parts events state invariants shows = shows.frames.size ∙ invariants.ready.stand.size

pub pending_shown : (parts : Parts) (state : State) → PartsShow parts state → pending_tickets state ≡ parts.driver.given - parts.driver.confirmed
pending_shown parts state shows =
    ap (λ given. given - last_confirmed state.history) shows.given ∙ ap (λ confirmed. parts.driver.given - confirmed) shows.confirmed

-- THE ORDERS

plug_tests : (there there' many many' : Bool) → there ≡ there' → many ≡ many'
    → first_that_applies ((there, AlreadyPlugged) ∷ (many, TooManyDevices) ∷ []) ≡ first_that_applies ((there', AlreadyPlugged) ∷ (many', TooManyDevices) ∷ [])
plug_tests there there' many many' same as_many = rw (same, as_many) refl

attach_tests : (there wide untrusted : Bool) (how : owned.Attachment)
    → first_that_applies ((not there, NoSuchDevice) ∷ (not (is_detached (shown_attachment how)), AlreadyAttached) ∷ (wide, IdTooWide) ∷ (untrusted, NotTrusted) ∷ [])
    ≡ first_that_applies ((false, NotStarted) ∷ (not there, NoSuchDevice) ∷ (is_some (owned_stages how), AlreadyAttached) ∷ (wide, IdTooWide) ∷ (untrusted, NotTrusted) ∷ [])
attach_tests false wide untrusted how = refl
attach_tests true wide untrusted (attached.Attached stage) = refl
attach_tests true wide untrusted (attached.Quarantined ticket stage) = refl
attach_tests true wide untrusted (attached.Leaving ticket stage) = refl
attach_tests true true untrusted attached.Detached = refl
attach_tests true false untrusted attached.Detached = refl

attach_same : (there there' wide wide' ats trusted trusted' started : Bool) (attachment : Attachment) (how : owned.Attachment) → there ≡ there' → attachment ≡ shown_attachment how → wide ≡ wide'
    → trusted ≡ trusted' → started ≡ true
    → first_that_applies ((not there, NoSuchDevice) ∷ (not (is_detached attachment), AlreadyAttached) ∷ (wide, IdTooWide) ∷ (ats && not trusted, NotTrusted) ∷ [])
    ≡ first_that_applies ((not started, NotStarted) ∷ (not there', NoSuchDevice) ∷ (is_some (owned_stages how), AlreadyAttached) ∷ (wide', IdTooWide) ∷ (ats && not trusted', NotTrusted) ∷ [])
attach_same there there' wide wide' ats trusted trusted' started attachment how same attached width as_trusted on =
    rw (same, attached, width, as_trusted, on) (attach_tests there' wide' (ats && not trusted') how)

-- a call for an attached device, in the machine and in the driver
abbrev machine_first : Bool → Attachment → List (Bool × Refusal) → Option Refusal
machine_first there attachment later = first_that_applies (
    (not there, NoSuchDevice)
    ∷ (is_detached attachment || is_leaving attachment, NotAttached)
    ∷ (is_quarantined attachment, refusal.Quarantined)
    ∷ later)

abbrev driver_first : Bool → Bool → owned.Attachment → List (Bool × Refusal) → Option Refusal
driver_first started there how later =
    first_that_applies (
    (not started, NotStarted)
    ∷ (not there, NoSuchDevice)
    ∷ (is_away how, NotAttached)
    ∷ (as_known.is_quarantined how, refusal.Quarantined)
    ∷ later)

attachment_tests : (there : Bool) (how : owned.Attachment) (later later' : List (Bool × Refusal))
    → ((stage : Stages) → how ≡ attached.Attached stage → first_that_applies later ≡ first_that_applies later') → machine_first there (shown_attachment how) later ≡ driver_first true there how later'
attachment_tests false how later later' same = refl
attachment_tests true attached.Detached later later' same = refl
attachment_tests true (attached.Quarantined ticket stage) later later' same = refl
attachment_tests true (attached.Leaving ticket stage) later later' same = refl
attachment_tests true (attached.Attached stage) later later' same = same stage refl

attachment_same : (there there' started : Bool) (attachment : Attachment) (how : owned.Attachment) (later later' : List (Bool × Refusal)) → there ≡ there' → attachment ≡ shown_attachment how → started ≡ true
    → ((stage : Stages) → how ≡ attached.Attached stage → first_that_applies later ≡ first_that_applies later') → machine_first there attachment later ≡ driver_first started there' how later'
attachment_same there there' started attachment how later later' same attached on rest = rw (same, attached, on) (attachment_tests there' how later later' rest)

grant_same : (frames frames' limit limit' page frame : ℕ) (reserved reserved' busy busy' : Bool) → frames ≡ frames' → reserved ≡ reserved' → limit ≡ limit' → busy ≡ busy'
    → first_that_applies ((nat_le frames frame, FrameOutOfRange) ∷ (reserved, FrameReserved) ∷ (nat_le limit page, IovaOutOfRange) ∷ (busy, IovaBusy) ∷ [])
    ≡ first_that_applies ((nat_le frames' frame, FrameOutOfRange) ∷ (reserved', FrameReserved) ∷ (nat_le limit' page, IovaOutOfRange) ∷ (busy', IovaBusy) ∷ [])
grant_same frames frames' limit limit' page frame reserved reserved' busy busy' size same as_far as_busy = rw (size, same, as_far, as_busy) refl

-- what the machine lists for an attached device, of a grant and of a release
abbrev granting_tests : State → ℕ → ℕ → ℕ → List (Bool × Refusal)
granting_tests state id page frame =
    (nat_le (length state.frames) frame, FrameOutOfRange)
    ∷ (is_reserved state.frames frame, FrameReserved)
    ∷ (nat_le (page_limit_under state.limits (attachment_of state id)) page, IovaOutOfRange)
    ∷ (is_held state id page || is_lingering state id page, IovaBusy)
    ∷ []

abbrev releasing_tests : State → ℕ → ℕ → List (Bool × Refusal)
releasing_tests state id page = (not (is_held state id page), NotGranted) ∷ (nat_le state.limits.pending (pending_tickets state), TooManyPending) ∷ []

-- of a release and of a detach the driver has two reasons more, which the machine lets come where none of its own applies
place_refused : (there : Bool) (how : owned.Attachment) (held many full used : Bool) (reason why : Refusal)
    → driver_first true there how ((held, reason) ∷ (many, TooManyPending) ∷ (full, QueueFull) ∷ (used, NumbersUsedUp) ∷ []) ≡ Some why
    → MatchOption (machine_first there (shown_attachment how) ((held, reason) ∷ (many, TooManyPending) ∷ [])) (MayFindNoPlace why) (λ first. why ≡ first)
place_refused false how held many full used reason why first = cc
place_refused true attached.Detached held many full used reason why first = cc
place_refused true (attached.Quarantined ticket stage) held many full used reason why first = cc
place_refused true (attached.Leaving ticket stage) held many full used reason why first = cc
place_refused true (attached.Attached stage) true many full used reason why first = cc
place_refused true (attached.Attached stage) false true full used reason why first = cc
place_refused true (attached.Attached stage) false false true used reason why first = let is : QueueFull ≡ why = cc in subst MayFindNoPlace is tt
place_refused true (attached.Attached stage) false false false true reason why first = let is : NumbersUsedUp ≡ why = cc in subst MayFindNoPlace is tt
place_refused true (attached.Attached stage) false false false false reason why first = cc

place_none : (there : Bool) (how : owned.Attachment) (held many full used : Bool) (reason : Refusal)
    → driver_first true there how ((held, reason) ∷ (many, TooManyPending) ∷ (full, QueueFull) ∷ (used, NumbersUsedUp) ∷ []) ≡ None
    → machine_first there (shown_attachment how) ((held, reason) ∷ (many, TooManyPending) ∷ []) ≡ None
place_none false how held many full used reason none = cc
place_none true attached.Detached held many full used reason none = cc
place_none true (attached.Quarantined ticket stage) held many full used reason none = cc
place_none true (attached.Leaving ticket stage) held many full used reason none = cc
place_none true (attached.Attached stage) true many full used reason none = cc
place_none true (attached.Attached stage) false true full used reason none = cc
place_none true (attached.Attached stage) false false full used reason none = refl

place_same : (there there' held held' many many' : Bool) (attachment : Attachment) (how : owned.Attachment) (reason : Refusal) → there ≡ there' → attachment ≡ shown_attachment how → held ≡ held' → many ≡ many'
    → machine_first there attachment ((held, reason) ∷ (many, TooManyPending) ∷ []) ≡ machine_first there' (shown_attachment how) ((held', reason) ∷ (many', TooManyPending) ∷ [])
place_same there there' held held' many many' attachment how reason same attached as_held as_many = rw (same, attached, as_held, as_many) refl

not_some : {A : Type 0} (b : Bool) (o : Option A) → b ≡ is_some o → not b ≡ is_none o
not_some b None same = rw same refl
not_some b (Some x) same = rw same refl

-- THE CALLS

-- too many tickets are pending for the machine where they are for the driver
pub many_shown : (parts : Parts) (state : State) → PartsShow parts state
    → nat_le state.limits.pending (pending_tickets state) ≡ nat_le pending_limit (parts.driver.given - parts.driver.confirmed)
many_shown parts state shows =
    ap (λ (limits : Limits). nat_le limits.pending (pending_tickets state)) shows.limits ∙ ap (nat_le pending_limit) (pending_shown parts state shows)

-- the driver's reasons against a plug are the machine's first two
pub plug_first : {walks : List Walk} (parts : Parts) (events : ℕ) (state : State) (id : ℕ) → InvariantWith walks parts events → PartsShow parts state
    → first_that_applies ((machine.is_plugged state id, AlreadyPlugged) ∷ (nat_le state.limits.devices (length state.devices), TooManyDevices) ∷ []) ≡ first_that_applies (why_not_plug parts.driver id)
plug_first parts events state id invariants shows =
    let d = parts.driver in
    let rows = (flights_of parts.iommu).rows in
    plug_tests (machine.is_plugged state id) (has_device d.devices id) (nat_le state.limits.devices (length state.devices)) (nat_le 16 (length d.devices))
    (plugged_shown d.devices rows parts.devices state id invariants.known.driver shows.devices)
    (ap (λ (limits : Limits). nat_le limits.devices (length state.devices)) shows.limits
    ∙ ap (nat_le 16) (ap (λ (ds : List declared.Device). length ds) shows.devices ∙ length-shown d.devices rows parts.devices ∙ sym (length-known d.devices parts.devices invariants.known.driver)))

-- whether the device is there, and how it is attached
pub there_shown : {walks : List Walk} (parts : Parts) (events : ℕ) (state : State) (id : ℕ) → InvariantWith walks parts events → PartsShow parts state → machine.is_plugged state id ≡ has_device parts.driver.devices id
there_shown parts events state id invariants shows = plugged_shown parts.driver.devices (flights_of parts.iommu).rows parts.devices state id invariants.known.driver shows.devices

pub how_shown : {walks : List Walk} (parts : Parts) (events : ℕ) (state : State) (id : ℕ) → InvariantWith walks parts events → PartsShow parts state
    → attachment_of state id ≡ shown_attachment (as_known.attachment_by_id parts.driver.devices id)
how_shown parts events state id invariants shows = attachment_shown parts.driver.devices (flights_of parts.iommu).rows parts.devices state id invariants.known.driver shows.devices

-- whether it has a cache of its own
pub kind_shown : (known : List driver.Device) (rows : List FlightRow) (devices : List Device) (id : ℕ)
    → option_map_or (λ (device : declared.Device). has_cache device.kind) (shown_of known rows devices id) false ≡ caches_translations (kind_in devices id)
kind_shown known rows [] id = refl
kind_shown known rows (device ∷ others) id = elim (eqb_tells device.id id) [ inl e ↦ rw e.0 refl | inr ne ↦ rw ne.0 (kind_shown known rows others id) ]

trusted_shown : {walks : List Walk} (parts : Parts) (events : ℕ) (state : State) (id : ℕ) → InvariantWith walks parts events → PartsShow parts state → is_trusted state id ≡ as_known.has_trusted_cache parts.driver.devices id
trusted_shown parts events state id invariants shows =
    ap (λ (ds : List declared.Device). option_map_or (λ (device : declared.Device). has_cache device.kind) (find (λ (d : declared.Device). d.id == id) ds) false) shows.devices
    ∙ kind_shown parts.driver.devices (flights_of parts.iommu).rows parts.devices id ∙ sym (invariants.known.trusted id)

pub attach_first : {walks : List Walk} (parts : Parts) (events : ℕ) (state : State) (id : ℕ) (ats : Bool) → InvariantWith walks parts events → PartsShow parts state
    → first_that_applies (machine.attach_reasons state id ats) ≡ first_that_applies (why_not_attach parts.driver id ats)
attach_first parts events state id ats invariants shows =
    let d = parts.driver in
    attach_same (machine.is_plugged state id) (has_device d.devices id) (is_too_wide state id) (nat_le (id_limit d.levels) id) ats (is_trusted state id)
    (as_known.has_trusted_cache d.devices id) d.started
    (attachment_of state id) (as_known.attachment_by_id d.devices id)
    (there_shown parts events state id invariants shows) (how_shown parts events state id invariants shows)
    (ap (λ levels. nat_le (id_limit levels) id) shows.levels) (trusted_shown parts events state id invariants shows) invariants.started

-- so the pages that may be granted to an attached device are those that the driver grants
limit_shown : {walks : List Walk} (parts : Parts) (events : ℕ) (state : State) (id : ℕ) → InvariantWith walks parts events → PartsShow parts state → (stage : Stages)
    → as_known.attachment_by_id parts.driver.devices id ≡ attached.Attached stage → page_limit_under state.limits (attachment_of state id) ≡ page_limit_in (as_known.stages_of parts.driver.devices id)
limit_shown parts events state id invariants shows stage is =
    ap (λ (limits : Limits). page_limit_under limits (attachment_of state id)) shows.limits
    ∙ ap page_limit_at (how_shown parts events state id invariants shows ∙ ap shown_attachment is) ∙ sym (ap (λ a. page_limit_in (attached_stages a)) is)

pub grant_first : {walks : List Walk} (parts : Parts) (events : ℕ) (state : State) (id page frame : ℕ) → InvariantWith walks parts events → PartsShow parts state
    → first_that_applies (machine.grant_reasons state id page frame) ≡ first_that_applies (why_not_grant parts.driver id page frame)
grant_first parts events state id page frame invariants shows =
    let d = parts.driver in
    attachment_same (machine.is_plugged state id) (has_device d.devices id) d.started (attachment_of state id) (as_known.attachment_by_id d.devices id)
    (granting_tests state id page frame) (granting_reasons d id page frame)
    (there_shown parts events state id invariants shows) (how_shown parts events state id invariants shows) invariants.started
    (λ stage is.
    grant_same (length state.frames) (length d.owners) (page_limit_under state.limits (attachment_of state id)) (page_limit_in (as_known.stages_of d.devices id)) page frame (is_reserved state.frames frame)
    (has_owner d.owners frame) (is_held state id page || is_lingering state id page) (is_busy d id page)
    (frames_shown parts events state invariants shows)
    (reserved_shown parts.memory d.owners state.frames frame shows.frames)
    (limit_shown parts events state id invariants shows stage is)
    (busy_shown _ _ _ _ (held_shown d.ledger state id page shows.ledger) (lingering_shown d.ledger state id page shows.ledger)))

-- the machine's reasons of a release or of a detach, by what the driver knows
abbrev place_shown : Parts → ℕ → Bool → Refusal → Option Refusal
place_shown parts id test reason =
    let d = parts.driver in
    machine_first (has_device d.devices id) (shown_attachment (as_known.attachment_by_id d.devices id))
    ((test, reason) ∷ (nat_le pending_limit (d.given - d.confirmed), TooManyPending) ∷ [])

place_first : {walks : List Walk} (parts : Parts) (events : ℕ) (state : State) (id : ℕ) (test test' : Bool) (reason : Refusal) → InvariantWith walks parts events → PartsShow parts state → test ≡ test'
    → machine_first (machine.is_plugged state id) (attachment_of state id) ((test, reason) ∷ (nat_le state.limits.pending (pending_tickets state), TooManyPending) ∷ []) ≡ place_shown parts id test' reason
place_first parts events state id test test' reason invariants shows as_test =
    let d = parts.driver in
    place_same (machine.is_plugged state id) (has_device d.devices id) test test'
    (nat_le state.limits.pending (pending_tickets state)) (nat_le pending_limit (d.given - d.confirmed)) (attachment_of state id) (as_known.attachment_by_id d.devices id) reason
    (there_shown parts events state id invariants shows) (how_shown parts events state id invariants shows) as_test
    (many_shown parts state shows)

release_first : {walks : List Walk} (parts : Parts) (events : ℕ) (state : State) (id page : ℕ) → InvariantWith walks parts events → PartsShow parts state
    → first_that_applies (machine.release_reasons state id page) ≡ place_shown parts id (is_none (held_in parts.driver.ledger id page)) NotGranted
release_first parts events state id page invariants shows =
    let d = parts.driver in
    place_first parts events state id (not (is_held state id page)) (is_none (held_in d.ledger id page)) NotGranted invariants shows
    (not_some (is_held state id page) (held_in d.ledger id page) (held_shown d.ledger state id page shows.ledger))

started_first : (started there : Bool) (how : owned.Attachment) (later : List (Bool × Refusal)) (reply : Option Refusal) → started ≡ true → driver_first started there how later ≡ reply
    → driver_first true there how later ≡ reply
started_first started there how later reply on first = subst (λ s. driver_first s there how later ≡ reply) on first

pub release_refused_by : {walks : List Walk} (parts : Parts) (events : ℕ) (state : State) (id page : ℕ) (why : Refusal) → InvariantWith walks parts events → PartsShow parts state
    → first_that_applies (why_not_release parts.driver (registers_of parts.iommu) id page) ≡ Some why → IsRefusedBy (machine.release_reasons state id page) MayFindNoPlace why
release_refused_by parts events state id page why invariants shows first =
    let d = parts.driver in
    let r = registers_of parts.iommu in
    let how = as_known.attachment_by_id d.devices id in
    subst (λ o. MatchOption o (MayFindNoPlace why) (λ one. why ≡ one)) (sym (release_first parts events state id page invariants shows))
    (place_refused (has_device d.devices id) how (is_none (held_in d.ledger id page)) (nat_le pending_limit (d.given - d.confirmed)) (lacks_places (release_places (as_known.stages_of d.devices id)) r) (nat_le 4294967295 (last_fence d)) NotGranted why
    (started_first d.started (has_device d.devices id) how (releasing_reasons d r (release_places (as_known.stages_of d.devices id)) id page) (Some why) invariants.started first))

pub may_release : {walks : List Walk} (parts : Parts) (events : ℕ) (state : State) (id page : ℕ) → InvariantWith walks parts events → PartsShow parts state
    → NoneApplies (why_not_release parts.driver (registers_of parts.iommu) id page) → NoneApplies (machine.release_reasons state id page)
may_release parts events state id page invariants shows none =
    let d = parts.driver in
    let r = registers_of parts.iommu in
    let how = as_known.attachment_by_id d.devices id in
    release_first parts events state id page invariants shows
    ∙ place_none (has_device d.devices id) how (is_none (held_in d.ledger id page)) (nat_le pending_limit (d.given - d.confirmed)) (lacks_places (release_places (as_known.stages_of d.devices id)) r) (nat_le 4294967295 (last_fence d)) NotGranted
    (started_first d.started (has_device d.devices id) how (releasing_reasons d r (release_places (as_known.stages_of d.devices id)) id page) None invariants.started none)

-- the machine finds that a device has grants exactly where the ledger has some
pub grants_shown : (ledger : Ledger) (state : State) (id : ℕ) → Agrees ledger state.history → IsTrue (has_grants state id) ↔ HasGrants ledger id
grants_shown ledger state id agrees = (forward, backward)
  where
    forward : IsTrue (has_grants state id) → HasGrants ledger id
    forward any = let found = (grants_are_at_pages state id).0 any in (
      found.0,
      elim found.1 [
        | inl held ↦ inl (sym (held_shown ledger state id found.0 agrees) ∙ held)
        | inr lingers ↦ inr (sym (lingering_shown ledger state id found.0 agrees) ∙ lingers)
      ],
    )

    backward : HasGrants ledger id → IsTrue (has_grants state id)
    backward (page, inl held) = ((grants_are_at_pages state id).1 (page, inl (held_shown ledger state id page agrees ∙ held)))
    backward (page, inr lingers) = ((grants_are_at_pages state id).1 (page, inr (lingering_shown ledger state id page agrees ∙ lingers)))

pub detach_refused_by : {walks : List Walk} (parts : Parts) (events : ℕ) (state : State) (id : ℕ) (why : Refusal) → InvariantWith walks parts events → PartsShow parts state
    → first_that_applies (why_not_detach parts.driver (registers_of parts.iommu) (has_grants state id) id) ≡ Some why → IsRefusedBy (machine.detach_reasons state id) MayFindNoPlace why
detach_refused_by parts events state id why invariants shows first =
    let d = parts.driver in
    let r = registers_of parts.iommu in
    let how = as_known.attachment_by_id d.devices id in
    subst (λ o. MatchOption o (MayFindNoPlace why) (λ one. why ≡ one)) (sym (place_first parts events state id (has_grants state id) (has_grants state id) StillGranted invariants shows refl))
    (place_refused (has_device d.devices id) how (has_grants state id) (nat_le pending_limit (d.given - d.confirmed)) (lacks_places 3 r) (nat_le 4294967295 (last_fence d)) StillGranted why
    (started_first d.started (has_device d.devices id) how (detaching_reasons d r (has_grants state id)) (Some why) invariants.started first))

pub may_detach : {walks : List Walk} (parts : Parts) (events : ℕ) (state : State) (id : ℕ) → InvariantWith walks parts events → PartsShow parts state
    → NoneApplies (why_not_detach parts.driver (registers_of parts.iommu) (has_grants state id) id) → NoneApplies (machine.detach_reasons state id)
may_detach parts events state id invariants shows none =
    let d = parts.driver in
    let r = registers_of parts.iommu in
    let how = as_known.attachment_by_id d.devices id in
    place_first parts events state id (has_grants state id) (has_grants state id) StillGranted invariants shows refl
    ∙ place_none (has_device d.devices id) how (has_grants state id) (nat_le pending_limit (d.given - d.confirmed)) (lacks_places 3 r) (nat_le 4294967295 (last_fence d)) StillGranted
    (started_first d.started (has_device d.devices id) how (detaching_reasons d r (has_grants state id)) None invariants.started none)

-- a refusal of the driver is one of the machine's, where what may come of the driver's after the reasons may come of the machine's
pub refused_as : (reasons reasons' : List (Bool × Refusal)) (May May' : Refusal → Type 0) (why : Refusal) → first_that_applies reasons' ≡ first_that_applies reasons
    → (NoneApplies reasons → May why → May' why) → IsRefusedBy reasons May why → IsRefusedBy reasons' May' why
refused_as reasons reasons' May May' why same may refused =
    subst (λ o. MatchOption o (May' why) (λ first. why ≡ first)) (sym same) (by (first_that_applies reasons) refl refused)
  where
    by : (first : Option Refusal) → first_that_applies reasons ≡ first → MatchOption first (May why) (λ one. why ≡ one) → MatchOption first (May' why) (λ one. why ≡ one)
    by None none else_so = may none else_so
    by (Some one) first is = is
