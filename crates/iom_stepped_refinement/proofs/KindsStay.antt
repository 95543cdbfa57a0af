-- No event of a world takes a device away, or makes another kind of it.
use Rattle.std.proofs.Common.{find, ◌≡◌, ℕ, ◌++◌, ◌==◌, ◌∙◌, inl, inr, Bool, true, false, List, [], ◌∷◌, Option, Some, None, Result, Ok, Err, option_map, remove, slice_get, refl, sym, ap, subst, if◌then◌else◌}
use Rattle.std.specs.Option.{option_map_or}
use Rattle.iom_base.specs.Accesses.{read_of, write_of}
use Rattle.iom_base.specs.declared.access.Access.{Access}
use Rattle.iom_coherence.specs.Attachments.{caches_translations}
use Rattle.iom_machine.specs.declared.outcome.Outcome.TheVariants as outcome
use Rattle.iom_world_effects.specs.BlockDevices.{AsksIfMissed, GoesToMemory, TakesBlockStep}
use Rattle.iom_world_effects.specs.Requests.{AsksAccess, AsksTranslated}
use Rattle.iom_world_effects.specs.ThroughCache.{DeviceAsksThroughCache, FindsFrame, cached_frame}
use Rattle.iom_base.specs.DeviceKinds.{is_block_device, sends_through_cache, sends_untranslated}
use Rattle.iom_base.specs.declared.device_kind.DeviceKind.{DeviceKind}
use Rattle.iom_base.specs.declared.device_kind.NewDevice.{NewDevice}
use Rattle.iom_base.specs.declared.refusal.Refusal.{Refusal}
use Rattle.iom_device.specs.Caches.{kind_in, with_has_disk}
use Rattle.iom_device.specs.Calls.{devices_revived, with_reset}
use Rattle.iom_device.specs.declared.device.Device.{Device}
use Rattle.iom_driver.specs.declared.answers.Ticket.{Ticket}
use Rattle.iom_fabric.specs.declared.message.Message.TheVariants as sent
use Rattle.iom_fabric.specs.declared.message.Message.{Message}
use Rattle.iom_fabric.specs.declared.fabric.OnLink.{OnLink}
use Rattle.iom_machine.specs.declared.event.Event.{Event}
use Rattle.iom_machine.specs.declared.event.Event.TheVariants as happens
use Rattle.iom_machine.specs.declared.outcome.Outcome.{Outcome}
use Rattle.iom_virtqueue.specs.Layouts.{layout_of}
use Rattle.iom_world_effects.specs.BlockDevices.{InsertsMedium, SetsBlockQueue, TellsBlockStatus, devices_left}
use Rattle.iom_world_effects.specs.Commits.{CommitsAccess}
use Rattle.iom_world_effects.specs.Deliveries.{Arrives, ArrivesIfAny}
use Rattle.iom_world_effects.specs.Effect.{Effect, PlugsDevice, devices_after, new_device}
use Rattle.iom_world_effects.specs.Messages.{AsksQuestion, ForgesCompletion}
use Rattle.iom_world_effects.specs.Parts.{Parts}
use Rattle.iom_world_effects.specs.Recovery.{ResetsDevice}
use Rattle.iom_world_effects.proofs.CacheSets.{kind_set}
use Rattle.iom_world_effects.proofs.DiskPlaces.{kind_has}

-- each device is there still, of its kind
abbrev pub KindsStay : List Device → List Device → Type 0
KindsStay old new = (id : ℕ) (kind : DeviceKind) → kind_in old id ≡ Some kind → kind_in new id ≡ Some kind

stays_same : (old new : List Device) → new ≡ old → KindsStay old new
stays_same old new same id kind is = ap (λ (ds : List Device). kind_in ds id) same ∙ is

parts_same : (old new : Parts) → new ≡ old → KindsStay old.devices new.devices
parts_same old new same = stays_same old.devices new.devices (ap (λ (parts : Parts). parts.devices) same)

stays_each : (old new : List Device) → ((id : ℕ) → kind_in new id ≡ kind_in old id) → KindsStay old new
stays_each old new same id kind is = same id ∙ is

-- one more stands behind them
appended : (devices : List Device) (last : Device) → KindsStay devices (devices ++ last ∷ [])
appended [] last id kind is = cc
appended (first ∷ others) last id kind is = by (first.id == id) is (appended others last id kind)
  where
    by : (b : Bool) → option_map (λ (device : Device). device.kind) (if b then Some first else find (λ (device : Device). device.id == id) others) ≡ Some kind
        → (kind_in others id ≡ Some kind → kind_in (others ++ last ∷ []) id ≡ Some kind)
        → option_map (λ (device : Device). device.kind) (if b then Some first else find (λ (device : Device). device.id == id) (others ++ last ∷ [])) ≡ Some kind
    by true at later = at
    by false at later = later at

reset_stays : (devices : List Device) (id : ℕ) → KindsStay devices (with_reset devices id)
reset_stays devices id = stays_each devices (with_reset devices id) (λ d. kind_set devices id _ d)

plugged : (disks : List ℕ) (old new : Parts) (id : ℕ) (what : NewDevice) (answered : Outcome) → PlugsDevice disks old id what answered new → KindsStay old.devices new.devices
plugged disks old new id what answered (inl lacks) = parts_same old new lacks.same
plugged disks old new id what answered (inr plugs) = subst (KindsStay old.devices) (sym plugs.devices) (by plugs.answer)
  where
    by : (answer : Result (Unit {0}) Refusal) → KindsStay old.devices (devices_after answer old.devices id what)
    by (Ok done) = appended old.devices (new_device id what)
    by (Err why) = stays_same old.devices old.devices refl

inserted : (disks : List ℕ) (old new : Parts) (id disk : ℕ) (answered : Outcome) → InsertsMedium disks old id disk answered new → KindsStay old.devices new.devices
inserted disks old new id disk answered (inl unknown) = parts_same old new unknown.same
inserted disks old new id disk answered (inr (inl unable)) = parts_same old new unable.same
inserted disks old new id disk answered (inr (inr (device, is, inl puts))) =
    subst (λ (parts : Parts). KindsStay old.devices parts.devices) (sym puts.2) (stays_each old.devices (with_has_disk old.devices id true) (kind_has old.devices id true))
inserted disks old new id disk answered (inr (inr (device, is, inr refused))) = parts_same old new refused.2

left : (devices : List Device) (id : ℕ) (answer : Result Ticket Refusal) → KindsStay devices (devices_left answer devices id)
left devices id (Err why) = stays_same devices devices refl
left devices id (Ok ticket) = λ d kind is.
    by (option_map_or is_block_device (kind_in (with_has_disk devices id false) id) false) d kind (kind_has devices id false d ∙ is)
  where
    by : (b : Bool) → KindsStay (with_has_disk devices id false) (if b then with_reset (with_has_disk devices id false) id else with_has_disk devices id false)
    by true = reset_stays (with_has_disk devices id false) id
    by false = stays_same (with_has_disk devices id false) (with_has_disk devices id false) refl

revived : (devices : List Device) (id : ℕ) (answer : Result (Unit {0}) Refusal) → KindsStay devices (devices_revived answer devices id)
revived devices id (Ok done) = reset_stays devices id
revived devices id (Err why) = stays_same devices devices refl

queued : (old new : Parts) (id size descriptors available used : ℕ) (answered : Outcome) → SetsBlockQueue old id (layout_of size descriptors available used) answered new → KindsStay old.devices new.devices
queued old new id size descriptors available used answered (inl unknown) = parts_same old new unknown.same
queued old new id size descriptors available used answered (inr (inl unable)) = parts_same old new unable.same
queued old new id size descriptors available used answered (inr (inr (able, inl sets))) = subst (λ (parts : Parts). KindsStay old.devices parts.devices) (sym sets.2) (reset_stays old.devices id)
queued old new id size descriptors available used answered (inr (inr (able, inr refused))) = parts_same old new refused.2

reset : (old new : Parts) (id : ℕ) (answered : Outcome) → ResetsDevice old id answered new → KindsStay old.devices new.devices
reset old new id answered (inl unknown) = parts_same old new unknown.same
reset old new id answered (inr done) = subst (λ (parts : Parts). KindsStay old.devices parts.devices) (sym done.2) (reset_stays old.devices id)

told : (old new : Parts) (id status : ℕ) (answered : Outcome) → TellsBlockStatus old id status answered new → KindsStay old.devices new.devices
told old new id status answered (inl unknown) = parts_same old new unknown.same
told old new id status answered (inr (inl unable)) = parts_same old new unable.same
told old new id status answered (inr (inr tells)) = parts_same old new tells.2

committed : (old new : Parts) (id : ℕ) (answered : Outcome) → CommitsAccess old id answered new → KindsStay old.devices new.devices
committed old new id answered (inl unknown) = parts_same old new unknown.same
committed old new id answered (inr oldest) = stays_same old.devices new.devices oldest.devices

asked : (old new : Parts) (id page : ℕ) (answered : Outcome) → AsksQuestion old id page answered new → KindsStay old.devices new.devices
asked old new id page answered (inl unknown) = parts_same old new unknown.same
asked old new id page answered (inr (inl unable)) = parts_same old new unable.same
asked old new id page answered (inr (inr (able, sends))) = stays_same old.devices new.devices (ap (λ (parts : Parts). parts.devices) sends.sent)

forged : (old new : Parts) (id serial : ℕ) (answered : Outcome) → ForgesCompletion old id serial answered new → KindsStay old.devices new.devices
forged old new id serial answered (inl unknown) = parts_same old new unknown.same
forged old new id serial answered (inr (inl unable)) = parts_same old new unable.same
forged old new id serial answered (inr (inr (able, sends))) = stays_same old.devices new.devices (ap (λ (parts : Parts). parts.devices) sends.sent)

arrived : (message : Message) (old new : Parts) (device : ℕ) (others : List OnLink) (answered : Outcome) → Arrives message old device others answered new → KindsStay old.devices new.devices
arrived (sent.Ask epoch page) old new device others answered arrives = stays_same old.devices new.devices arrives.devices
arrived (sent.Answer epoch page answer) old new device others answered arrives =
    subst (λ (parts : Parts). KindsStay old.devices parts.devices) (sym arrives.rest) (stays_each old.devices _ (kind_set old.devices device arrives.after))
arrived (sent.InvReq serial range) old new device others answered arrives =
    subst (λ (parts : Parts). KindsStay old.devices parts.devices) (sym arrives.rest) (stays_each old.devices _ (kind_set old.devices device arrives.after))
arrived (sent.InvDone serial) old new device others answered arrives = stays_same old.devices new.devices arrives.devices

delivered : (on : Option OnLink) (old new : Parts) (others : List OnLink) (answered : Outcome) → ArrivesIfAny on old others answered new → KindsStay old.devices new.devices
delivered None old new others answered none = parts_same old new none.1
delivered (Some on) old new others answered arrives = arrived on.message old new on.device others answered arrives

-- A DEVICE ASKS for an access
replied : (can : DeviceKind → Bool) (old new : Parts) (id : ℕ) (access : Access) (answered : Outcome) → AsksAccess can old id access answered new → KindsStay old.devices new.devices
replied can old new id access answered (inl unknown) = parts_same old new unknown.same
replied can old new id access answered (inr (inl unable)) = parts_same old new unable.same
replied can old new id access answered (inr (inr (able, replies))) = stays_same old.devices new.devices replies.devices

translated : (old new : Parts) (id : ℕ) (access : Access) (answered : Outcome) → AsksTranslated old id access answered new → KindsStay old.devices new.devices
translated old new id access answered (inl unknown) = parts_same old new unknown.same
translated old new id access answered (inr (inl unable)) = parts_same old new unable.same
translated old new id access answered (inr (inr (able, replies))) = stays_same old.devices new.devices replies.devices

found : (frame : Option ℕ) (old new : Parts) (id : ℕ) (access : Access) (answered : Outcome) → FindsFrame frame old id access answered new → KindsStay old.devices new.devices
found None old new id access answered finds = parts_same old new finds.1
found (Some frame) old new id access answered replies = stays_same old.devices new.devices replies.devices

through_cache : (can : DeviceKind → Bool) (old new : Parts) (id : ℕ) (access : Access) (answered : Outcome) → DeviceAsksThroughCache can old id access answered new → KindsStay old.devices new.devices
through_cache can old new id access answered (inl unknown) = parts_same old new unknown.same
through_cache can old new id access answered (inr (inl unable)) = parts_same old new unable.same
through_cache can old new id access answered (inr (inr (able, inl wide))) = parts_same old new wide.2
through_cache can old new id access answered (inr (inr (able, inr (inl full)))) = parts_same old new full.3
through_cache can old new id access answered (inr (inr (able, inr (inr finds)))) = found (cached_frame old id access) old new id access answered finds.2

missed : (first : Outcome) (old mid new : Parts) (id : ℕ) (access : Access) (answered : Outcome) → KindsStay old.devices mid.devices → AsksIfMissed first mid id access answered new → KindsStay old.devices new.devices
missed outcome.Miss old mid new id access answered stay asks = λ d kind is. stays_same mid.devices new.devices (ap (λ (parts : Parts). parts.devices) asks.1) d kind (stay d kind is)
missed _ old mid new id access answered stay asks = λ d kind is. parts_same mid new asks.1 d kind (stay d kind is)

to_memory : (through : Bool) (old new : Parts) (id : ℕ) (access : Access) (answered : Outcome) → GoesToMemory through old id access answered new → KindsStay old.devices new.devices
to_memory false old new id access answered asks = replied is_block_device old new id access answered asks
to_memory true old new id access answered goes =
    missed goes.first old goes.between new id access answered (through_cache is_block_device old goes.between id access goes.first goes.tries) goes.asks

stepped : (old new : Parts) (id : ℕ) (answered : Outcome) → TakesBlockStep old id answered new → KindsStay old.devices new.devices
stepped old new id answered (inl (access, fits, wants, begins)) = to_memory (caches_translations (kind_in old.devices id)) old new id access answered begins
stepped old new id answered (inr (step, rest, inl unknown)) = parts_same old new unknown.same
stepped old new id answered (inr (step, rest, inr (inl unable))) = parts_same old new unable.same
stepped old new id answered (inr (step, rest, inr (inr rests))) = parts_same old new rests.2

-- BY THE EVENT
pub kinds_stay : (disks : List ℕ) (old new : Parts) (event : Event) (answered : Outcome) → Effect disks old event answered new → KindsStay old.devices new.devices
kinds_stay disks old new (happens.Plug id what) answered effect = plugged disks old new id what answered effect
kinds_stay disks old new (happens.Medium id disk) answered effect = inserted disks old new id disk answered effect
kinds_stay disks old new (happens.Attach id mode ats) answered effect = stays_same old.devices new.devices effect.devices
kinds_stay disks old new (happens.Grant id page frame rights) answered effect = stays_same old.devices new.devices effect.devices
kinds_stay disks old new (happens.Release id page) answered effect = stays_same old.devices new.devices effect.devices
kinds_stay disks old new (happens.Detach id) answered effect = subst (KindsStay old.devices) (sym effect.devices) (left old.devices id effect.answer)
kinds_stay disks old new (happens.Quarantine id) answered effect = stays_same old.devices new.devices effect.devices
kinds_stay disks old new (happens.Revive id) answered effect = subst (KindsStay old.devices) (sym effect.devices) (revived old.devices id effect.answer)
kinds_stay disks old new happens.Restart answered effect = stays_same old.devices new.devices effect.devices
kinds_stay disks old new happens.Fetch answered effect = stays_same old.devices new.devices effect.devices
kinds_stay disks old new happens.Timeout answered effect = stays_same old.devices new.devices effect.devices
kinds_stay disks old new happens.Poll answered effect = stays_same old.devices new.devices effect.devices
kinds_stay disks old new happens.Faults answered effect = stays_same old.devices new.devices effect.devices
kinds_stay disks old new (happens.Commit id) answered effect = committed old new id answered effect
kinds_stay disks old new (happens.Ask id page) answered effect = asked old new id page answered effect
kinds_stay disks old new (happens.Forge id serial) answered effect = forged old new id serial answered effect
kinds_stay disks old new (happens.Deliver place) answered effect = delivered (slice_get old.fabric place) old new (remove old.fabric place) answered effect
kinds_stay disks old new (happens.Drop place) answered effect = stays_same old.devices new.devices (ap (λ (parts : Parts). parts.devices) effect.dropped)
kinds_stay disks old new (happens.Repeat place) answered effect = stays_same old.devices new.devices (ap (λ (parts : Parts). parts.devices) effect.repeated)
kinds_stay disks old new (happens.Reset id) answered effect = reset old new id answered effect
kinds_stay disks old new (happens.Queue id size descriptors available used) answered effect = queued old new id size descriptors available used answered effect
kinds_stay disks old new (happens.Status id) answered effect = told old new id effect.0 answered effect.1
kinds_stay disks old new (happens.Poke address bytes) answered effect = stays_same old.devices new.devices effect.devices
kinds_stay disks old new (happens.Peek address len) answered effect = parts_same old new effect.1
kinds_stay disks old new (happens.Free frame) answered effect = parts_same old new effect.1
kinds_stay disks old new (happens.Read id address len) answered effect = replied sends_untranslated old new id (read_of address len) answered effect
kinds_stay disks old new (happens.Write id address bytes) answered effect = replied sends_untranslated old new id (write_of address bytes) answered effect
kinds_stay disks old new (happens.ReadTranslated id address len) answered effect = translated old new id (read_of address len) answered effect
kinds_stay disks old new (happens.WriteTranslated id address bytes) answered effect = translated old new id (write_of address bytes) answered effect
kinds_stay disks old new (happens.ReadThroughCache id address len) answered effect = through_cache sends_through_cache old new id (read_of address len) answered effect
kinds_stay disks old new (happens.WriteThroughCache id address bytes) answered effect = through_cache sends_through_cache old new id (write_of address bytes) answered effect
kinds_stay disks old new (happens.Step id) answered effect = stepped old new id answered effect
