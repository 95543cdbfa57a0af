-- A revival of the driver is one of the ledger machine.
use Rattle.std.proofs.Common.{◌≡◌, ◌∙◌, ℕ, List, [], length, Option, Some, None, MatchOption, Result, Ok, Err, refl, sym, ap, subst}
use Rattle.std.specs.Option.{option_map_or}
use Rattle.iom_walk_coherence.specs.Walks.{Walk}
use Rattle.iom_base.specs.declared.owner.Owner.{Owner}
use Rattle.iom_base.specs.declared.owner.Owner.TheVariants.{System}
use Rattle.iom_directory_build.specs.Pages.{root_level}
use Rattle.iom_driver.specs.declared.device.Attachment.TheVariants as attached
use Rattle.iom_driver.specs.Devices.{with_attachment}
use Rattle.iom_driver.specs.Directory.{context_for}
use Rattle.iom_driver.specs.Layout.{directory_frame}
use Rattle.iom_driver.specs.Reasons.{why_not_revive}
use Rattle.iom_driver.specs.Revivals.{WritesContextAgain, AnswersRevive}
use Rattle.iom_driver.specs.State.{DriverState}
use Rattle.iom_iommu.specs.Parts.{registers_of, flights_of}
use Rattle.iom_base.specs.declared.refusal.Refusal.{Refusal}
use Rattle.iom_base.specs.Refusals.{NoneApplies, first_that_applies}
use Rattle.iom_machine.specs.declared.outcome.Outcome.{Outcome}
use Rattle.iom_machine.specs.declared.outcome.Outcome.TheVariants as outcome
use Rattle.iom_machine.specs.declared.state.Attachment.{Attachment}
use Rattle.iom_machine.specs.declared.state.Attachment.TheVariants.{Detached}
use Rattle.iom_machine.specs.declared.state.Device as declared
use Rattle.iom_machine.specs.declared.state.State.{State}
use Rattle.iom_machine.specs.Quarantining.{attached_again}
use Rattle.iom_machine.specs.Devices.{device_of, with_device, replaced_device}
use Rattle.iom_machine.specs.Machine as machine
use Rattle.iom_machine.specs.Refusals as refusals
use Rattle.iom_machine.specs.Refusals.{NeverElse}
use Rattle.iom_world_effects.specs.Answers.{outcome_of_done}
use Rattle.iom_device.specs.Caches.{cache_of}
use Rattle.iom_world_effects.specs.Devices.{shown_attachment}
use Rattle.iom_world_effects.specs.Unchanged.{AreSame, SameIfRefused, waiting_in}
use Rattle.iom_iommu.specs.OwnIommu.{Iommu}
use Rattle.iom_world_effects.specs.Parts.{Parts}
use Rattle.iom_device.specs.Calls.{reset_of, with_reset, devices_revived}
use Rattle.iom_world_effects.specs.Recovery.{RevivesDevice}
use Rattle.iom_world_effects.specs.Shows.{PartsShow}
use Rattle.iom_world_effects.specs.Invariant.{InvariantWith}
use Rattle.iom_world_effects.proofs.CacheSets as caches
use Rattle.iom_world_effects.proofs.CallRefused.{same_of}
use Rattle.iom_world_effects.proofs.DeviceLemmas.{attachment_set, attachment_other}
use Rattle.iom_world_effects.proofs.DriverLemmas.{DriverInvariant}
use Rattle.iom_world_effects.proofs.FrameLemmas.{shows_kept}
use Rattle.iom_world_refinement.proofs.HungLemmas.{length-hung}
use Rattle.iom_world_refinement.proofs.PlaceLemmas.{found_there, replaced_found}
use Rattle.iom_world_refinement.proofs.ReasonLemmas.{there_shown, how_shown}
use Rattle.iom_world_refinement.proofs.RefusalLemmas.{some_and}
use Rattle.iom_world_invariant.proofs.RevivalKeeps.{revival_plugged, again_keeps_ring}
use Rattle.iom_world_refinement.proofs.RevivalReasons.{revive_first}
use Rattle.iom_world_effects.proofs.InvariantLemmas.{same_waiting}
use Rattle.iom_world_effects.proofs.UnchangedLemmas.{shows_same}

-- the machine's state after it
abbrev revived_state : State → declared.Device → State
revived_state state device = with_device state (record device { attachment = attached_again device.attachment })

-- a device that is found is attached so
found_how : (found : Option declared.Device) (device : declared.Device) (how : Attachment) → found ≡ Some device
    → option_map_or (λ (d : declared.Device). d.attachment) found Detached ≡ how → device.attachment ≡ how
found_how None device how at is = cc
found_how (Some other) device how at is = let same : other ≡ device = cc in ap (λ (d : declared.Device). d.attachment) (sym same) ∙ is

shows_revived : {walks : List Walk} (old new : Parts) (events id : ℕ) (found : declared.Device) → InvariantWith walks old events → DriverInvariant old.driver → NoneApplies (why_not_revive old.driver id)
    → WritesContextAgain old.driver old.memory id new.driver new.memory → new.iommu ≡ old.iommu → new.devices ≡ with_reset old.devices id
    → (state : State) → PartsShow old state → device_of state id ≡ Some found → PartsShow new (revived_state state found)
shows_revived old new events id found invariants own admitted writes iommu devices state shows at =
    let d = old.driver in
    let rows = (flights_of old.iommu).rows in
    let now = attached.Attached writes.stage in
    let known' = with_attachment d.devices id now in
    let there = revival_plugged old new events id invariants own admitted writes in
    let was : found.attachment ≡ shown_attachment (attached.Quarantined writes.ticket writes.stage) =
    found_how (device_of state id) found _ at (how_shown old events state id invariants shows ∙ ap shown_attachment writes.quarantined) in
    let size : length new.memory ≡ length old.memory =
    ap (λ (m : List (List ℕ)). length m) writes.bytes ∙ length-hung (root_level d.levels) old.memory (directory_frame (length old.memory)) id [] (context_for writes.stage) in
    record {
      ledger = rw (ap (λ (x : DriverState). x.ledger) writes.driver) shows.ledger;
      frames = rw (ap (λ (x : DriverState). x.owners) writes.driver)
          (shows_kept old.memory new.memory d.owners state.frames shows.frames (λ k free. writes.others k (λ system. nobodys (sym free ∙ system))) size);
      devices = rw (devices, ap (λ (i : Iommu). (flights_of i).rows) iommu, ap (λ (x : DriverState). x.devices) writes.driver)
          (ap (λ a. replaced_device state.devices found.id (record found { attachment = attached_again a })) was
          ∙ replaced_found d.devices known' rows old.devices state.devices id now found
          (λ other differs. attachment_other d.devices id other now differs) (attachment_set d.devices id now there) invariants.known.own_ids shows.devices at
          ∙ sym (caches.shown_set known' rows old.devices id (reset_of (cache_of old.devices id))));
      given = shows.given ∙ sym (ap (λ (x : DriverState). x.given) writes.driver);
      confirmed = shows.confirmed ∙ sym (ap (λ (x : DriverState). x.confirmed) writes.driver);
      all_earlier = rw (ap (λ (x : DriverState). x.confirmed) writes.driver) shows.all_earlier;
      none_later = rw (ap (λ (x : DriverState). x.confirmed) writes.driver) shows.none_later;
      levels = shows.levels ∙ sym (ap (λ (x : DriverState). x.levels) writes.driver);
      limits = shows.limits;
    }
  where
    nobodys : ◌≡◌ {A = Option (Option Owner)} (Some None) (Some (Some System)) → ⊥
    nobodys same = cc

-- THE STEP
pub revival_step : {walks : List Walk} (old new : Parts) (events id : ℕ) (reply : Outcome) → InvariantWith walks old events → DriverInvariant old.driver → RevivesDevice old id reply new
    → (state : State) → PartsShow old state → (next : State) × machine.Revives state id reply next × PartsShow new next
revival_step old new events id reply invariants own revives state shows = by revives.answer revives.reply_is revives.call revives.devices
  where
    same : first_that_applies (refusals.revive_reasons state id) ≡ first_that_applies (why_not_revive old.driver id)
    same = revive_first old events state id invariants own shows

    by : (answer : Result (Unit {0}) Refusal) → reply ≡ outcome_of_done answer → AnswersRevive old.driver old.memory id answer new.driver new.memory → new.devices ≡ devices_revived answer old.devices id
        → (next : State) × machine.Revives state id reply next × PartsShow new next
    by (Ok done) is (admitted, writes) devices =
        let found = found_there (device_of state id) (there_shown old events state id invariants shows ∙ revival_plugged old new events id invariants own admitted writes) in
        let next = revived_state state found.0 in (
          next,
          subst (λ t. machine.Revives state id t next) (sym is)
              (same ∙ admitted, some_and (λ (d : declared.Device). next ≡ revived_state state d) (device_of state id) found.0 found.1 refl),
          shows_revived old new events id found.0 invariants own admitted writes revives.iommu devices state shows found.1,
        )
    by (Err why) is (refused, driver_stays, memory_stays) devices = (
      state,
      subst (λ t. machine.Revives state id t state) (sym is) (
        subst (λ o. MatchOption o (NeverElse why) (λ one. why ≡ one)) (sym (same ∙ refused)) refl,
        refl,
      ),
      shows_same old new state memory_stays (ap (λ (i : Iommu). flights_of i) revives.iommu) devices driver_stays shows,
    )

-- THE COMMANDS that wait are the same
pub revival_commands : {walks : List Walk} (old new : Parts) (events id : ℕ) (reply : Outcome) → InvariantWith walks old events → DriverInvariant old.driver → RevivesDevice old id reply new → waiting_in new ≡ waiting_in old
revival_commands old new events id reply invariants own revives = by revives.answer revives.call
  where
    by : (answer : Result (Unit {0}) Refusal) → AnswersRevive old.driver old.memory id answer new.driver new.memory → waiting_in new ≡ waiting_in old
    by (Ok done) (admitted, writes) = same_waiting old new events invariants (ap registers_of revives.iommu) (again_keeps_ring old new events id invariants own admitted writes)
    by (Err why) (refused, driver_stays, memory_stays) = rw (memory_stays, revives.iommu) refl

-- A REFUSAL changes nothing
pub revival_refused : (old new : Parts) (id : ℕ) (reply : Outcome) → RevivesDevice old id reply new → SameIfRefused reply old new
revival_refused old new id reply revives why is = by revives.answer (sym revives.reply_is ∙ is) revives.call revives.devices
  where
    by : (answer : Result (Unit {0}) Refusal) → outcome_of_done answer ≡ outcome.Refused why → AnswersRevive old.driver old.memory id answer new.driver new.memory
        → new.devices ≡ devices_revived answer old.devices id → AreSame old new
    by (Ok done) refused call devices = absurd (never refused)
      where
        never : outcome.Done ≡ outcome.Refused why → ⊥
        never same = cc
    by (Err reason) refused call devices = same_of old new call.2 revives.iommu devices revives.fabric call.1
