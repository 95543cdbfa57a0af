-- EACH OTHER EVENT of a world in which requests are under way: all stays true, and those that aren't given up stand where they stood.
use Rattle.std.proofs.Common.{◌≡◌, ◌≢◌, ℕ, ◌^◌, ◌<◌, ◌⊎◌, inl, inr, ◌∙◌, Bool, true, false, List, length, remove, Option, Some, None, Result, Ok, Err, slice_get, refl, sym, ap, subst}
use Rattle.std.specs.Option.{option_map_or}
use Rattle.std.proofs.lemmas.Bool.{false≢true}
use Rattle.iom_base.specs.Accesses.{read_of, write_of}
use Rattle.iom_base.specs.DeviceKinds.{is_block_device, sends_through_cache, sends_untranslated}
use Rattle.iom_base.specs.declared.access.Access.{Access}
use Rattle.iom_base.specs.declared.device_kind.NewDevice.{NewDevice}
use Rattle.iom_base.specs.declared.refusal.Refusal.{Refusal}
use Rattle.iom_coherence.specs.Attachments.{caches_translations}
use Rattle.iom_device.specs.Caches.{kind_in}
use Rattle.iom_driver.specs.Ready.{IsReady}
use Rattle.iom_driver.specs.StateOf.{state_of}
use Rattle.iom_driver.specs.declared.answers.Ticket as answers
use Rattle.iom_driver.specs.declared.driver.Driver.{Driver}
use Rattle.iom_fabric.specs.declared.fabric.OnLink.{OnLink}
use Rattle.iom_iommu.specs.Parts.{registers_of}
use Rattle.iom_machine.specs.declared.outcome.BlockStep.{BlockStep}
use Rattle.iom_machine.specs.declared.event.Event.{Event}
use Rattle.iom_machine.specs.declared.event.Event.TheVariants as happens
use Rattle.iom_machine.specs.declared.outcome.Outcome.{Outcome}
use Rattle.iom_machine.specs.declared.outcome.Outcome.TheVariants as outcome
use Rattle.iom_standing_walks.specs.Driven.{DrivenWalksStand}
use Rattle.iom_virtqueue.specs.Layouts.{layout_of}
use Rattle.iom_walk_coherence.specs.Walks.{Walk}
use Rattle.iom_walks.specs.Walks.{WalkRow}
use Rattle.iom_world_effects.specs.Answers.{outcome_of_done, outcome_of_ticket}
use Rattle.iom_world_effects.specs.Below.{LawsBelow}
use Rattle.iom_world_effects.specs.BlockDevices.{GoesToMemory, Rests, SetsBlockQueue, TakesBlockStep, TellsBlockStatus}
use Rattle.iom_world_effects.specs.Commits.{CommitsAccess}
use Rattle.iom_world_effects.specs.Deliveries.{ArrivesIfAny, DeliversMessage}
use Rattle.iom_world_effects.specs.Effect.{DetachesDevice, Effect, PlugsDevice}
use Rattle.iom_world_effects.specs.Invariant.{InvariantWith}
use Rattle.iom_world_effects.specs.Parts.{Parts}
use Rattle.iom_world_effects.specs.Recovery.{ResetsDevice, RevivesDevice}
use Rattle.iom_world_effects.proofs.WalksLeft.{AreLeft}
use Rattle.iom_world_invariant.proofs.AskedLemmas.{keeps_asked_counted, keeps_through_cache_counted, keeps_translated_counted, service_laws}
use Rattle.iom_world_invariant.proofs.BlockKeeps.{keeps_medium, keeps_queue, keeps_through}
use Rattle.iom_world_invariant.proofs.CommitKeeps.{keeps_oldest}
use Rattle.iom_world_invariant.proofs.DetachKeeps.{BlockDetaches, keeps_detached}
use Rattle.iom_world_invariant.proofs.DriverKeeps.{keeps_attached, keeps_granted, keeps_polled}
use Rattle.iom_world_invariant.proofs.MessageKeeps.{keeps_dropped, keeps_forged, keeps_question, keeps_repeated}
use Rattle.iom_world_invariant.proofs.PlugKeeps.{keeps_plugged}
use Rattle.iom_world_invariant.proofs.ProcessorKeeps.{keeps_poked}
use Rattle.iom_world_invariant.proofs.QuarantineKeeps.{keeps_quarantined}
use Rattle.iom_world_invariant.proofs.ReleaseKeeps.{keeps_released}
use Rattle.iom_world_invariant.proofs.ReportKeeps.{keeps_taken}
use Rattle.iom_world_invariant.proofs.ResetKeeps.{keeps_reset}
use Rattle.iom_world_invariant.proofs.RestartKeeps.{keeps_restarted}
use Rattle.iom_world_invariant.proofs.RevivalKeeps.{keeps_revived}
use Rattle.iom_world_invariant.proofs.TimeoutKeeps.{keeps_timed_out}
use Rattle.iom_world_refinement.proofs.DeliverStep.{keeps_arrived}
use Rattle.iom_world_walks.specs.Events.{GivesUp, IsCounted, LeavesRequests, NamesFit}
use Rattle.iom_world_walks.specs.Invariant.{SteppedInvariant}
use Rattle.iom_world_walks.specs.Standing.{RowsStand}
use Rattle.iom_world_walks.proofs.AnewKeeps.{left_of_others, others_than, stand_apart}
use Rattle.iom_world_walks.proofs.EffectsLeave.{effects_leave}
use Rattle.iom_world_walks.proofs.LawLemmas.{IsDrivers}
use Rattle.iom_world_walks.proofs.StillLemmas.{rows_still}

module _ {walks : List Walk} (laws : LawsBelow) (driver : Driver) (old new : Parts) (count : ℕ) (invariants : InvariantWith walks old count) (is : old.driver ≡ state_of driver)
    (drivers : IsDrivers old.driver) (ready : IsReady new.driver new.memory (registers_of new.iommu)) (counted : IsCounted old count) where
  -- all walks are left, or those of other devices than one whose request is given up
  abbrev Left : Event → Outcome → Type 0
  Left event answered = InvariantWith walks new count ⊎ ((id : ℕ) × GivesUp old event answered id × InvariantWith (others_than id walks) new count)

  given_up_of : (done : Type 0) (id : ℕ) → AreLeft done id (others_than id walks) walks
  given_up_of done id = (λ walk there. (left_of_others id walks walk there).0, λ it. left_of_others id walks)

  all_of : (done : Type 0) (id : ℕ) → (done → ⊥) → AreLeft done id walks walks
  all_of done id never = (λ walk there. there, λ it. absurd (never it))

  left_by_reset : (id : ℕ) (answered : Outcome) → ResetsDevice old id answered new → Left (happens.Reset id) answered
  left_by_reset id answered (inl unknown) =
      inl (keeps_reset old new count id answered invariants (counted.epochs id) (inl unknown) (all_of (answered ≡ outcome.Done) id (λ done. let both = sym unknown.reply_is ∙ done in cc)))
  left_by_reset id answered (inr (able, reply_is, same)) =
      inr (id, (refl, reply_is), keeps_reset old new count id answered invariants (counted.epochs id) (inr (able, reply_is, same)) (given_up_of (answered ≡ outcome.Done) id))

  left_by_revival : (id : ℕ) (answered : Outcome) → RevivesDevice old id answered new → Left (happens.Revive id) answered
  left_by_revival id answered effect = by effect.answer refl
    where
      by : (answer : Result (Unit {0}) Refusal) → effect.answer ≡ answer → Left (happens.Revive id) answered
      by (Ok done) same =
          let told : answered ≡ outcome.Done = effect.reply_is ∙ ap outcome_of_done same in
          inr (id, (refl, told), keeps_revived old new count id answered invariants drivers.own ready (counted.epochs id) effect (given_up_of (answered ≡ outcome.Done) id))
      by (Err why) same =
          inl (keeps_revived old new count id answered invariants drivers.own ready (counted.epochs id) effect
          (all_of (answered ≡ outcome.Done) id (λ done. let both : outcome.Refused why ≡ outcome.Done = sym (effect.reply_is ∙ ap outcome_of_done same) ∙ done in cc)))

  left_by_queue : (id : ℕ) (size descriptors available used : ℕ) (answered : Outcome) → SetsBlockQueue old id (layout_of size descriptors available used) answered new
      → Left (happens.Queue id size descriptors available used) answered
  left_by_queue id size descriptors available used answered (inl unknown) =
      inl (keeps_queue old new count id (layout_of size descriptors available used) answered invariants (counted.epochs id) (inl unknown)
      (all_of (answered ≡ outcome.Done) id (λ done. let both = sym unknown.reply_is ∙ done in cc)))
  left_by_queue id size descriptors available used answered (inr (inl unable)) =
      inl (keeps_queue old new count id (layout_of size descriptors available used) answered invariants (counted.epochs id) (inr (inl unable))
      (all_of (answered ≡ outcome.Done) id (λ done. let both = sym unable.reply_is ∙ done in cc)))
  left_by_queue id size descriptors available used answered (inr (inr (able, inl sets))) =
      inr (
        id,
        (refl, sets.1),
        keeps_queue old new count id (layout_of size descriptors available used) answered invariants (counted.epochs id) (inr (inr (able, inl sets)))
            (given_up_of (answered ≡ outcome.Done) id),
      )
  left_by_queue id size descriptors available used answered (inr (inr (able, inr refuses))) =
      inl (keeps_queue old new count id (layout_of size descriptors available used) answered invariants (counted.epochs id) (inr (inr (able, inr refuses)))
      (all_of (answered ≡ outcome.Done) id (λ done. let both = sym refuses.1 ∙ done in cc)))

  left_by_detach : (id : ℕ) (answered : Outcome) → DetachesDevice old id answered new → Left (happens.Detach id) answered
  left_by_detach id answered effect = by effect.answer refl (option_map_or is_block_device (kind_in old.devices id) false) refl
    where
      by : (answer : Result answers.Ticket Refusal) → effect.answer ≡ answer → (block : Bool) → option_map_or is_block_device (kind_in old.devices id) false ≡ block → Left (happens.Detach id) answered
      by (Ok ticket) same true block =
          inr (
            id,
            (refl, (ticket.0, effect.reply_is ∙ ap outcome_of_ticket same), block),
            keeps_detached old new count id answered invariants drivers.own ready (counted.epochs id) effect (given_up_of (BlockDetaches effect.answer old.devices id) id),
          )
      by (Ok ticket) same false other =
          inl (keeps_detached old new count id answered invariants drivers.own ready (counted.epochs id) effect
          (all_of (BlockDetaches effect.answer old.devices id) id (λ block. false≢true (sym other ∙ block.2))))
      by (Err why) same block is_block =
          inl (keeps_detached old new count id answered invariants drivers.own ready (counted.epochs id) effect
          (all_of (BlockDetaches effect.answer old.devices id) id (λ detaches. let both : Err why ≡ Ok detaches.0 = sym same ∙ detaches.1 in cc)))

  same_parts_kept : new ≡ old → InvariantWith walks new count
  same_parts_kept same = subst (λ parts. InvariantWith walks parts count) (sym same) invariants

  plugged_kept : (disks : List ℕ) (id : ℕ) (what : NewDevice) (answered : Outcome) → PlugsDevice disks old id what answered new → InvariantWith walks new count
  plugged_kept disks id what answered (inl lacks) = same_parts_kept lacks.same
  plugged_kept disks id what answered (inr plugs) = keeps_plugged disks old new count id what answered invariants ready plugs

  committed_kept : (id : ℕ) (answered : Outcome) → CommitsAccess old id answered new → InvariantWith walks new count
  committed_kept id answered (inl unknown) = same_parts_kept unknown.same
  committed_kept id answered (inr oldest) =
      keeps_oldest old new count id oldest.made invariants drivers.own drivers.stays_ready oldest.call oldest.unreserved oldest.driver oldest.devices oldest.fabric

  delivered_kept : (place : ℕ) (answered : Outcome) → DeliversMessage old place answered new → InvariantWith walks new count
  delivered_kept place answered delivers = by (slice_get old.fabric place) refl delivers
    where
      by : (on : Option OnLink) → slice_get old.fabric place ≡ on → ArrivesIfAny on old (remove old.fabric place) answered new → InvariantWith walks new count
      by None at none = same_parts_kept none.1
      by (Some on) at arrives = keeps_arrived (service_laws laws) old new count place answered invariants drivers.own drivers.reported drivers.stays_ready counted.epochs on at arrives

  begun_kept : (id : ℕ) (through : Bool) (access : Access) (answered : Outcome) → access.address < 2 ^ 64 → GoesToMemory through old id access answered new → InvariantWith walks new count
  begun_kept id false access answered fits asks = keeps_asked_counted is_block_device laws driver old new count id access answered invariants drivers.own is counted.accepted fits asks
  begun_kept id true access answered fits through = keeps_through laws driver old new count id access answered invariants drivers.own is counted.accepted fits through

  rests_kept : (id : ℕ) (step : BlockStep) (answered : Outcome) → Rests old id step answered new → InvariantWith walks new count
  rests_kept id step answered (inl unknown) = same_parts_kept unknown.same
  rests_kept id step answered (inr (inl unable)) = same_parts_kept unable.same
  rests_kept id step answered (inr (inr (able, told, same))) = same_parts_kept same

  stepped_kept : (id : ℕ) (answered : Outcome) → TakesBlockStep old id answered new → InvariantWith walks new count
  stepped_kept id answered (inl (access, fits, wants, begins)) = begun_kept id (caches_translations (kind_in old.devices id)) access answered fits begins
  stepped_kept id answered (inr (step, rest, rests)) = rests_kept id step answered rests

  status_kept : (id status : ℕ) (answered : Outcome) → TellsBlockStatus old id status answered new → InvariantWith walks new count
  status_kept id status answered (inl unknown) = same_parts_kept unknown.same
  status_kept id status answered (inr (inl unable)) = same_parts_kept unable.same
  status_kept id status answered (inr (inr (able, told, same))) = same_parts_kept same

  left_after : (disks : List ℕ) (event : Event) (answered : Outcome) → event ≢ happens.Fetch → NamesFit event → Effect disks old event answered new → Left event answered
  left_after disks (happens.Plug id what) answered other fits effect = inl (plugged_kept disks id what answered effect)
  left_after disks (happens.Medium id disk) answered other fits effect = inl (keeps_medium disks old new count id disk answered invariants effect)
  left_after disks (happens.Attach id mode ats) answered other fits effect = inl (keeps_attached old new count id mode ats answered invariants drivers.own ready effect)
  left_after disks (happens.Grant id page frame rights) answered other fits effect = inl (keeps_granted old new count id page frame rights answered invariants drivers.own ready effect)
  left_after disks (happens.Release id page) answered other fits effect = inl (keeps_released old new count id page answered invariants drivers.own ready effect)
  left_after disks (happens.Detach id) answered other fits effect = left_by_detach id answered effect
  left_after disks (happens.Quarantine id) answered other fits effect = inl (keeps_quarantined old new count id answered invariants drivers.own ready effect)
  left_after disks (happens.Revive id) answered other fits effect = left_by_revival id answered effect
  left_after disks happens.Restart answered other fits effect = inl (keeps_restarted old new count answered invariants drivers.own ready effect)
  left_after disks happens.Fetch answered other fits effect = absurd (other refl)
  left_after disks happens.Timeout answered other fits effect = inl (keeps_timed_out old new count answered invariants effect)
  left_after disks happens.Poll answered other fits effect = inl (keeps_polled old new count answered invariants drivers.own ready effect)
  left_after disks happens.Faults answered other fits effect = inl (keeps_taken old new count answered invariants drivers.own ready effect)
  left_after disks (happens.Read id address len) answered other fits effect =
      inl (keeps_asked_counted sends_untranslated laws driver old new count id (read_of address len) answered invariants drivers.own is counted.accepted fits effect)
  left_after disks (happens.Write id address bytes) answered other fits effect =
      inl (keeps_asked_counted sends_untranslated laws driver old new count id (write_of address bytes) answered invariants drivers.own is counted.accepted fits effect)
  left_after disks (happens.Commit id) answered other fits effect = inl (committed_kept id answered effect)
  left_after disks (happens.ReadTranslated id address len) answered other fits effect =
      inl (keeps_translated_counted laws driver old new count id (read_of address len) answered invariants drivers.own is counted.accepted effect)
  left_after disks (happens.WriteTranslated id address bytes) answered other fits effect =
      inl (keeps_translated_counted laws driver old new count id (write_of address bytes) answered invariants drivers.own is counted.accepted effect)
  left_after disks (happens.ReadThroughCache id address len) answered other fits effect =
      inl (keeps_through_cache_counted sends_through_cache laws driver old new count id (read_of address len) answered invariants drivers.own is counted.accepted effect)
  left_after disks (happens.WriteThroughCache id address bytes) answered other fits effect =
      inl (keeps_through_cache_counted sends_through_cache laws driver old new count id (write_of address bytes) answered invariants drivers.own is counted.accepted effect)
  left_after disks (happens.Ask id page) answered other fits effect = inl (keeps_question old new count id page answered invariants fits effect)
  left_after disks (happens.Forge id serial) answered other fits effect = inl (keeps_forged old new count id serial answered invariants effect)
  left_after disks (happens.Deliver place) answered other fits effect = inl (delivered_kept place answered effect)
  left_after disks (happens.Drop place) answered other fits effect = inl (keeps_dropped old new count place answered invariants effect)
  left_after disks (happens.Repeat place) answered other fits effect = inl (keeps_repeated old new count place answered invariants effect)
  left_after disks (happens.Reset id) answered other fits effect = left_by_reset id answered effect
  left_after disks (happens.Queue id size descriptors available used) answered other fits effect = left_by_queue id size descriptors available used answered effect
  left_after disks (happens.Step id) answered other fits effect = inl (stepped_kept id answered effect)
  left_after disks (happens.Status id) answered other fits effect = inl (status_kept id effect.0 answered effect.1)
  left_after disks (happens.Poke address bytes) answered other fits effect = inl (keeps_poked old new count address bytes answered invariants drivers.own drivers.stays_ready effect)
  left_after disks (happens.Peek address len) answered other fits effect = inl (same_parts_kept effect.1)
  left_after disks (happens.Free frame) answered other fits effect = inl (same_parts_kept effect.1)

  -- ALL STAYS TRUE
  pub event_keeps : DrivenWalksStand → (disks : List ℕ) (event : Event) (answered : Outcome) (rows new_rows : List WalkRow) → event ≢ happens.Fetch → NamesFit event
      → length new.memory ≡ length old.memory → Effect disks old event answered new → LeavesRequests old event answered rows new_rows → RowsStand old.driver old.memory walks rows
      → SteppedInvariant new new_rows count
  event_keeps driven disks event answered rows new_rows other fits size effect leaves stand = by (left_after disks event answered other fits effect)
    where
      rows_now : RowsStand old.driver old.memory walks new_rows
      rows_now row own there goes = let before = leaves.still row own there goes in stand before.0 own before.1 before.2

      still : (left : List Walk) → InvariantWith left new count → RowsStand old.driver old.memory left new_rows → SteppedInvariant new new_rows count
      still left now standing = (
        left,
        now,
        rows_still driven old new count left invariants.started
            (effects_leave old new count invariants drivers.own drivers.reported drivers.others drivers.records disks event answered size effect) now new_rows standing,
      )

      by : Left event answered → SteppedInvariant new new_rows count
      by (inl now) = still walks now rows_now
      by (inr (id, gives, now)) = still (others_than id walks) now (stand_apart old.driver old.memory walks id new_rows (leaves.gone id gives) rows_now)
