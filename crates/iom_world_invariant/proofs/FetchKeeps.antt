-- What stays true of a world when the IOMMU takes a command: a fence is done only while nothing is in flight, and stores its number.
use Rattle.std.proofs.Common.{inl, inr, ◌≡◌, ◌==◌, ◌/◌, ◌^◌, ◌<◌, ◌≤◌, ◌&&◌, ◌||◌, ◌∙◌, ℕ, Bool, true, false, not, nat_lt, nat_le, is_some, List, [], ◌∷◌, ◌+◌, length, map, Contains, Option, Some, None, slice_get, suc, refl, sym, ap, subst, arith, if◌then◌else◌}
use Rattle.std.specs.Option.{option_map_or}
use Rattle.std.proofs.Math.Logic.{∥∥₁_map}
use Rattle.std.proofs.lemmas.Bool.{false≢true, and_parts, eqb-true, eq-eqb, leb-true, le-leb}
use Rattle.std.proofs.lemmas.Bool.Decides.{eqb_tells}
use Rattle.std.proofs.lemmas.Grind.{not_there}
use Rattle.iom_walk_coherence.specs.Walks.{Walk}
use Rattle.iom_command_queue.specs.OpenSlots.{OpenSlots}
use Rattle.iom_command_queue.specs.declared.command.Command.{Command as Commanded}
use Rattle.iom_command_queue.specs.declared.command.Command.TheVariants.{IotinvalVma, IotinvalGvma, IofenceC, IodirInvalDdt, AtsInval}
use Rattle.iom_command_queue.specs.declared.command.FenceStore.{FenceStore}
use Rattle.iom_command_queue.specs.declared.entry.QueueEntry.{QueueEntry}
use Rattle.iom_command_queue.specs.declared.entry.QueueEntry.TheVariants.{Command, Illegal, Outside}
use Rattle.iom_command_queue.specs.Waiting.{commands_in}
use Rattle.iom_coherence.specs.Queue.{QueuedCommand, DropTranslations, DropContext, Invalidate, Fence}
use Rattle.iom_coherence.specs.ToCome.{FencesRise}
use Rattle.iom_device_dir.specs.declared.context.Context.{Context}
use Rattle.iom_device_dir.specs.Contents.{Content}
use Rattle.iom_driver.specs.Fences.{last_fence, fence_of}
use Rattle.iom_driver.specs.Appends.{fence}
use Rattle.iom_driver.specs.Devices.{attachment_by_id}
use Rattle.iom_driver.specs.Laws.{KeepsReserved, KeepsRing}
use Rattle.iom_driver.specs.Layout.{completion_frame, completion_address}
use Rattle.iom_driver.specs.Ready.{IsRing}
use Rattle.iom_driver.specs.State.{DriverState}
use Rattle.iom_driver.proofs.Lists.{get_there, differs}
use Rattle.iom_driver.proofs.Ring.{in_ring}
use Rattle.iom_base.specs.declared.access.AccessKind.TheVariants.{Read, Write}
use Rattle.iom_inflight.specs.Flights.{Flights, are_drained}
use Rattle.iom_iommu.specs.declared.fetched.Fetched.{Fetched}
use Rattle.iom_iommu.specs.declared.fetched.Fetched.TheVariants.{Did, Waiting, Empty, Stopped}
use Rattle.iom_iommu.specs.OwnIommu.{Iommu}
use Rattle.iom_iommu.specs.Fetches.{counted_in, with_store, IsStorable, head_entry}
use Rattle.iom_iommu.specs.Effects.{FetchesByAnswer, DropsContexts, DropsTranslations, waits_for_accesses, waits_for_slots, is_held_back, slots_by, asks_for_interrupt, after_none, after_nothing, fence_snapshot_at, waits_at, WaitsAt, store_of, with_done, IsStoredIn, IsOffRing, StopsAtEntry, StopsFetching}
use Rattle.iom_iommu.proofs.ByAnswer.{by_answer}
use Rattle.iom_iommu.specs.Parts.{registers_of, contexts_of, translations_of, flights_of, fence_snapshot_of, slots_of}
use Rattle.iom_iommu.proofs.FetchLemmas.{takes_first, leaves_frames}
use Rattle.iom_machine.specs.declared.outcome.Outcome.{Outcome}
use Rattle.iom_phys_mem.specs.Words.{word_at, with_word}
use Rattle.iom_phys_mem.proofs.Stores.{word_back, put_word}
use Rattle.iom_registers.specs.declared.registers.Registers.{Registers}
use Rattle.iom_registers.specs.Queues.{command_status, is_processing_commands, with_command_done, with_fence_w_ip}
use Rattle.iom_world_effects.specs.Devices.{shown_attachment}
use Rattle.iom_world_effects.specs.Effect.{FetchesNext}
use Rattle.iom_world_effects.specs.Parts.{Parts}
use Rattle.iom_world_effects.specs.Queued.{IsQueuedAs, AreQueuedAs, completed_in}
use Rattle.iom_tlb.proofs.ContentLemmas.{found_before_drop}
use Rattle.iom_tlb.specs.Content.{Translations}
use Rattle.iom_tlb.specs.Covers.{are_covering}
use Rattle.iom_tlb.specs.Invalidations.{covers_of}
use Rattle.iom_tlb.specs.declared.space.Space.{Space}
use Rattle.iom_world_effects.specs.Read.{space_at, values_of, accesses_of}
use Rattle.iom_world_effects.specs.Scenes.{HasSceneWith}
use Rattle.iom_world_effects.specs.Invariant.{InvariantWith, IsUnmarked, row_ids, HasAsker}
use Rattle.iom_world_effects.proofs.DriverLemmas.{DriverInvariant}
use Rattle.iom_world_effects.proofs.PartsLemmas.{parts_are, StaysReady}
use Rattle.iom_world_effects.proofs.QueuedLemmas.{queued_first}
use Rattle.iom_world_effects.proofs.RowLemmas.{drained_after}
use Rattle.iom_world_effects.proofs.SceneSteps.{KeepsGrants, FirstEffect, CountsAtHead, done_after, CachedAfter, TranslationsAfter, TrafficAfter, DoneIfFence, ClosedIfFence, WalksAfter, no_walks_after, fetch_scene, count_scene, scene_uncounted}
use Rattle.std.proofs.lemmas.List.{map-append}
use Rattle.iom_fabric.specs.declared.fabric.OnLink.{OnLink}
use Rattle.iom_world_effects.specs.Messages.{range_of, with_fetched}
use Rattle.iom_world_effects.specs.Traffic.{invalidation_in_slot, entries_in, messages_in}
use Rattle.iom_world_effects.proofs.MessageLemmas.{requested, askers_sent}
use Rattle.iom_world_effects.proofs.InvariantLemmas.{kinds_kept, same_epochs, traffic_kept, processes}
use Rattle.iom_device.specs.Caches.{epoch_in}
use Rattle.std.specs.List.{All}
use Rattle.iom_fabric.specs.declared.message.Message.TheVariants as sent

-- whether what waits is a command of the driver's, a fence with a number from above the one to the other
abbrev is_ours : ℕ → ℕ → ℕ → QueueEntry → Bool
is_ours address low given (Command (IotinvalVma gscid pscid page)) = true
is_ours address low given (Command (IotinvalGvma gscid page)) = true
is_ours address low given (Command (IofenceC (Some store) wsi pr pw)) =
    (store.address == address) && (nat_lt low store.data && (nat_le store.data given && (not wsi && (pr && pw))))
is_ours address low given (Command (IodirInvalDdt (Some id))) = true
is_ours address low given (Command (AtsInval id range)) = true
is_ours address low given _ = false

rise_le : (low : ℕ) (queued : List QueuedCommand) (high : ℕ) → FencesRise low queued high → low ≤ high
rise_le low [] high rise = rise
rise_le low (DropTranslations d extent ∷ later) high rise = rise_le low later high rise
rise_le low (DropContext d ∷ later) high rise = rise_le low later high rise
rise_le low (Invalidate d extent ∷ later) high rise = rise_le low later high rise
rise_le low (Fence number ∷ later) high rise =
    let above = rise.0 in let rest = rise_le number later high rise.1 in omega (arith, above, rest)

ours_queued : (address low given : ℕ) (spaces : ℕ → Option Space) (entry : QueueEntry) (queued : QueuedCommand) (later : List QueuedCommand) → IsQueuedAs address spaces entry queued
    → FencesRise low (queued ∷ later) given → is_ours address low given entry ≡ true
ours_queued address low given spaces (Command (IotinvalVma gscid pscid page)) (DropTranslations device extent) later is rise = refl
ours_queued address low given spaces (Command (IotinvalGvma gscid page)) (DropTranslations device extent) later is rise = refl
ours_queued address low given spaces (Command (IofenceC store wsi pr pw)) (Fence number) later is rise =
    let above : low < number = rise.0 in
    subst (λ c. is_ours address low given (Command c) ≡ true) (sym is)
    (rw (eq-eqb address address refl, le-leb (suc low) number above, le-leb number given (rise_le number later given rise.1)) refl)
ours_queued address low given spaces (Command (IodirInvalDdt (Some id))) (DropContext device) later is rise = refl
ours_queued address low given spaces (Command (AtsInval id range)) (Invalidate device extent) later is rise = refl
ours_queued address low given spaces entry queued later is rise = absurd is

-- what a command of the driver's is
abbrev pub IsNext : ℕ → ℕ → ℕ → Commanded → Type 0
IsNext address low given (IotinvalVma gscid pscid page) = Unit {0}
IsNext address low given (IofenceC store wsi pr pw) = (number : ℕ) × (IofenceC store wsi pr pw ≡ fence address number) × (low < number) × (number ≤ given)
IsNext address low given (IodirInvalDdt None) = ⊥
IsNext address low given (IodirInvalDdt (Some id)) = Unit {0}
IsNext address low given (IotinvalGvma gscid page) = Unit {0}
IsNext address low given (AtsInval device range) = Unit {0}

not_true : (b : Bool) → not b ≡ true → b ≡ false
not_true true it = absurd (false≢true it)
not_true false it = refl

next_of : (address low given : ℕ) (command : Commanded) → is_ours address low given (Command command) ≡ true → IsNext address low given command
next_of address low given (IotinvalVma gscid pscid page) ours = tt
next_of address low given (IofenceC None wsi pr pw) ours = absurd (false≢true ours)
next_of address low given (IofenceC (Some store) wsi pr pw) ours =
    let one = and_parts (store.address == address) (nat_lt low store.data && (nat_le store.data given && (not wsi && (pr && pw)))) ours in
    let two = and_parts (nat_lt low store.data) (nat_le store.data given && (not wsi && (pr && pw))) one.1 in
    let three = and_parts (nat_le store.data given) (not wsi && (pr && pw)) two.1 in
    let four = and_parts (not wsi) (pr && pw) three.1 in
    let five = and_parts pr pw four.1 in (
      store.data,
      ap (λ (a : ℕ). IofenceC (Some (record { address = a; «data» = store.data })) wsi pr pw) (eqb-true store.address address one.0)
          ∙ ap (λ (b : Bool). IofenceC (Some (record { address = address; «data» = store.data })) b pr pw) (not_true wsi four.0)
          ∙ ap (λ (b : Bool). IofenceC (Some (record { address = address; «data» = store.data })) false b pw) five.0
          ∙ ap (λ (b : Bool). IofenceC (Some (record { address = address; «data» = store.data })) false true b) five.1,
      leb-true (suc low) store.data two.0,
      leb-true store.data given three.0,
    )
next_of address low given (IodirInvalDdt None) ours = absurd (false≢true ours)
next_of address low given (IodirInvalDdt (Some id)) ours = tt
next_of address low given (IotinvalGvma gscid page) ours = tt
next_of address low given (AtsInval device range) ours = tt

-- what stands first in a list
none_there : {X : Type 0} (xs : List X) → slice_get xs 0 ≡ None → xs ≡ []
none_there [] at = refl
none_there (x ∷ xs) at = cc

first_there : {X : Type 0} (xs : List X) (x : X) → slice_get xs 0 ≡ Some x → (rest : List X) × (xs ≡ x ∷ rest)
first_there [] x at = cc
first_there (y ∷ ys) x at = let same : y ≡ x = cc in (ys, ap (λ z. z ∷ ys) same)

-- what waits in a sound world is the driver's
module _ {walks : List Walk} (old : Parts) (events : ℕ) (invariants : InvariantWith walks old events) where
  abbrev place : ℕ
  place = completion_address (length old.memory)

  abbrev done : ℕ
  done = completed_in old.memory

  in_scene : (entry : QueueEntry) (rest : List QueueEntry) → commands_in old.memory (registers_of old.iommu) ≡ entry ∷ rest → HasSceneWith (values_of old) walks
      → is_ours (completion_address (length old.memory)) (completed_in old.memory) (last_fence old.driver) entry ≡ true
  in_scene entry rest at (scene, shows, facts) =
      let first = queued_first place (space_at old.driver.devices) entry rest scene.waiting (subst (λ l. AreQueuedAs place (space_at old.driver.devices) l scene.waiting) at shows.waiting) in
      ours_queued place done (last_fence old.driver) (space_at old.driver.devices) entry first.0 first.1 first.3
      (subst (λ n. FencesRise n (first.0 ∷ first.1) (last_fence old.driver)) shows.completed
      (subst (λ n. FencesRise scene.completed (first.0 ∷ first.1) n) shows.last_fence
      (subst (λ l. FencesRise scene.completed l scene.last_fence) first.2 facts.copies.order.fences)))

  head_ours : (entry : QueueEntry) → head_entry old.memory (registers_of old.iommu) ≡ Some entry
      → is_ours (completion_address (length old.memory)) (completed_in old.memory) (last_fence old.driver) entry ≡ true
  head_ours entry at = by (is_ours place done (last_fence old.driver) entry) refl
    where
      list : (rest : List QueueEntry) × (commands_in old.memory (registers_of old.iommu) ≡ entry ∷ rest)
      list = first_there (commands_in old.memory (registers_of old.iommu)) entry at

      by : (b : Bool) → is_ours place done (last_fence old.driver) entry ≡ b → is_ours place done (last_fence old.driver) entry ≡ true
      by true is = is
      by false none = absurd (not_there invariants.copies (λ has. false≢true (sym none ∙ in_scene entry list.0 list.1 has)))

  pub head_next : (command : Commanded) → head_entry old.memory (registers_of old.iommu) ≡ Some (Command command)
      → IsNext (completion_address (length old.memory)) (completed_in old.memory) (last_fence old.driver) command
  head_next command at = next_of place done (last_fence old.driver) command (head_ours (Command command) at)

-- the word of such a command has a place: that of the driver
pub is_storable : (memory : List (List ℕ)) (low given : ℕ) (command : Commanded) → 64 ≤ length memory → IsNext (completion_address (length memory)) low given command → IsStorable memory (store_of command)
is_storable memory low given (IotinvalVma gscid pscid page) many next = tt
is_storable memory low given (IofenceC store wsi pr pw) many next =
    let same : store ≡ store_of (fence (completion_address (length memory)) next.0) = ap store_of next.1 in
    subst (λ s. IsStorable memory s) (sym same) (omega arith, omega (arith, many))
is_storable memory low given (IodirInvalDdt None) many next = absurd next
is_storable memory low given (IodirInvalDdt (Some id)) many next = tt
is_storable memory low given (IotinvalGvma gscid page) many next = tt
is_storable memory low given (AtsInval device range) many next = tt

-- it lies in the frame of the completion word alone
pub stored_there : (frames low given : ℕ) (command : Commanded) (n : ℕ) → IsNext (completion_address frames) low given command → IsStoredIn (store_of command) n → n ≡ completion_frame frames
stored_there frames low given (IotinvalVma gscid pscid page) n next at = absurd at
stored_there frames low given (IofenceC store wsi pr pw) n next at =
    let there = subst (λ s. IsStoredIn s n) (ap store_of next.1) at in omega (arith, there)
stored_there frames low given (IodirInvalDdt device) n next at = absurd at
stored_there frames low given (IotinvalGvma gscid page) n next at = absurd at
stored_there frames low given (AtsInval device range) n next at = absurd at

-- the number that is stored once it is done
abbrev number_after : ℕ → Commanded → ℕ
number_after before (IotinvalVma gscid pscid page) = before
number_after before (IofenceC store wsi pr pw) = option_map_or (λ (s : FenceStore). s.data) store before
number_after before (IodirInvalDdt device) = before
number_after before (IotinvalGvma gscid page) = before
number_after before (AtsInval device range) = before

-- the completion word after it
word_after : (memory : List (List ℕ)) (value : ℕ) → 64 ≤ length memory → value < 2 ^ 32
    → word_at 4 (with_word 4 memory (completion_address (length memory)) value) (completion_address (length memory)) ≡ Some value
word_after memory value many small =
    let address = completion_address (length memory) in
    let inside : address / 4096 < length memory = omega (arith, many) in
    let there = get_there memory (address / 4096) inside in
    ap (λ m. word_at 4 m address) (sym (put_word 4 value address memory there.0 there.1))
    ∙ word_back 4 value address memory there.0 (omega arith) inside (omega arith) (omega (arith, small))

completed_after : (memory : List (List ℕ)) (low given : ℕ) (command : Commanded) → 64 ≤ length memory → given < 2 ^ 32 → IsNext (completion_address (length memory)) low given command
    → length (with_store memory (store_of command)) ≡ length memory → completed_in (with_store memory (store_of command)) ≡ number_after (completed_in memory) command
completed_after memory low given (IotinvalVma gscid pscid page) many small next size = refl
completed_after memory low given (IofenceC store wsi pr pw) many small next size =
    let number = next.0 in
    let few : number ≤ given = next.3 in
    let same : store ≡ store_of (fence (completion_address (length memory)) number) = ap store_of next.1 in
    ap (λ k. option_map_or (λ word. word) (word_at 4 (with_store memory store) (completion_address k)) 0) size
    ∙ ap (λ s. option_map_or (λ word. word) (word_at 4 (with_store memory s) (completion_address (length memory))) 0) same
    ∙ ap (λ o. option_map_or (λ word. word) o 0) (word_after memory number many (omega (arith, few, small)))
    ∙ ap (λ c. number_after (completed_in memory) c) (sym next.1)
completed_after memory low given (IodirInvalDdt None) many small next size = absurd next
completed_after memory low given (IodirInvalDdt (Some id)) many small next size = refl
completed_after memory low given (IotinvalGvma gscid page) many small next size = refl
completed_after memory low given (AtsInval device range) many small next size = refl

-- the registers once it is done: ring and directory are where they were, and processing goes on
ring_kept : (r : Registers) (command : Commanded) (address low given : ℕ) → IsNext address low given command → KeepsRing r (with_done r command) × (is_processing_commands (with_done r command) ≡ is_processing_commands r)
ring_kept r (IotinvalVma gscid pscid page) address low given next = (record { on = refl; base = refl; entries = refl; faults_on = refl; faults_base = refl; faults_head = refl; faults_tail = refl; mode = refl; root = refl }, refl)
ring_kept r (IofenceC store wsi pr pw) address low given next =
    subst (λ c. KeepsRing r (with_done r c) × (is_processing_commands (with_done r c) ≡ is_processing_commands r)) (sym next.1) (record { on = refl; base = refl; entries = refl; faults_on = refl; faults_base = refl; faults_head = refl; faults_tail = refl; mode = refl; root = refl }, refl)
ring_kept r (IodirInvalDdt device) address low given next = (record { on = refl; base = refl; entries = refl; faults_on = refl; faults_base = refl; faults_head = refl; faults_tail = refl; mode = refl; root = refl }, refl)
ring_kept r (IotinvalGvma gscid page) address low given next = (record { on = refl; base = refl; entries = refl; faults_on = refl; faults_base = refl; faults_head = refl; faults_tail = refl; mode = refl; root = refl }, refl)
ring_kept r (AtsInval device range) address low given next = (record { on = refl; base = refl; entries = refl; faults_on = refl; faults_base = refl; faults_head = refl; faults_tail = refl; mode = refl; root = refl }, refl)

-- the number doesn't fall
more_done : (address low given before : ℕ) (command : Commanded) → low ≡ before → IsNext address low given command → before ≤ number_after before command
more_done address low given before (IotinvalVma gscid pscid page) same next = omega arith
more_done address low given before (IofenceC store wsi pr pw) same next =
    let above : low < next.0 = next.2 in
    subst (λ c. before ≤ number_after before c) (sym next.1) (omega (arith, same, above))
more_done address low given before (IodirInvalDdt device) same next = omega arith
more_done address low given before (IotinvalGvma gscid page) same next = omega arith
more_done address low given before (AtsInval device range) same next = omega arith

-- what it does to the completion word, as scenes say it
done_as : (address low given before after : ℕ) (command : Commanded) → IsNext address low given command → after ≡ number_after before command → done_after before command after
done_as address low given before after (IotinvalVma gscid pscid page) next is = is
done_as address low given before after (IofenceC store wsi pr pw) next is = λ place number same. is ∙ ap (λ c. number_after before c) same
done_as address low given before after (IodirInvalDdt device) next is = is
done_as address low given before after (IotinvalGvma gscid page) next is = is
done_as address low given before after (AtsInval device range) next is = is

-- contexts that are cached after it were cached before
still_cached : (o : Option Context) (covered : Bool) (context : Context) → (if covered then None else o) ≡ Some context → o ≡ Some context
still_cached o true context at = cc
still_cached o false context at = at

pub cached_before : (command : Commanded) (old new : Content ℕ Context) → DropsContexts command old new → (id : ℕ) (context : Context) → new id ≡ Some context → old id ≡ Some context
cached_before (IotinvalVma gscid pscid page) old new drops id context at = sym (drops id) ∙ at
cached_before (IofenceC store wsi pr pw) old new drops id context at = sym (drops id) ∙ at
cached_before (IodirInvalDdt device) old new drops id context at = still_cached (old id) _ context (sym (drops id) ∙ at)
cached_before (IotinvalGvma gscid page) old new drops id context at = sym (drops id) ∙ at
cached_before (AtsInval device range) old new drops id context at = sym (drops id) ∙ at

cached_as : (command : Commanded) (old new : Content ℕ Context) → DropsContexts command old new → CachedAfter (λ id. is_some (old id)) command (λ id. is_some (new id))
cached_as (IotinvalVma gscid pscid page) old new drops = λ d there. ap is_some (sym (drops d)) ∙ there
cached_as (IofenceC store wsi pr pw) old new drops = λ d there. ap is_some (sym (drops d)) ∙ there
cached_as (IodirInvalDdt None) old new drops = tt
cached_as (IodirInvalDdt (Some id)) old new drops = λ d there. elim (eqb_tells d id) [
  | inl e ↦ let gone : new d ≡ None = drops d ∙ ap (λ (b : Bool). if b then None else old d) e.0 in absurd (false≢true (sym (ap is_some gone) ∙ there))
  | inr ne ↦
      let kept : new d ≡ old d = drops d ∙ ap (λ (b : Bool). if b then None else old d) ne.0 in
      (ap is_some (sym kept) ∙ there, ne.1)
]
cached_as (IotinvalGvma gscid page) old new drops = λ d there. ap is_some (sym (drops d)) ∙ there
cached_as (AtsInval device range) old new drops = λ d there. ap is_some (sym (drops d)) ∙ there

-- translations that are cached after it were cached before, and it doesn't cover them
translations_as : (command : Commanded) (old new : Translations) → DropsTranslations command old new → TranslationsAfter command old new
translations_as command old new drops key translation at =
    let was = found_before_drop old new key translation at (are_covering (covers_of command)) drops in (was.1, was.0)

-- a fence is done only where the accesses that were accepted before it are made
not_waited : (a b : Bool) → (not a || not b) ≡ false → (a ≡ true) × (b ≡ true)
not_waited true true it = (refl, refl)
not_waited true false it = absurd (false≢true (sym it))
not_waited false b it = absurd (false≢true (sym it))

done_if : (command : Commanded) (flights : Flights) (before : ℕ) → waits_for_accesses command flights before ≡ false → DoneIfFence command before (accesses_of flights.rows)
done_if (IotinvalVma gscid pscid page) flights before free = tt
done_if (IofenceC store wsi pr pw) flights before free = λ address number same.
    let both = not_waited (are_drained flights before Read) (are_drained flights before Write) (subst (λ c. waits_for_accesses c flights before ≡ false) same free) in
    drained_after flights before both.0 both.1
done_if (IodirInvalDdt device) flights before free = tt
done_if (IotinvalGvma gscid page) flights before free = tt
done_if (AtsInval device range) flights before free = tt

neither : (a b : Bool) → (a || b) ≡ false → (a ≡ false) × (b ≡ false)
neither true b it = absurd (false≢true (sym it))
neither false b it = (refl, it)

-- a fence is done only where no slot is open
none_open : {X : Type 0} (xs : List X) → not (length xs == 0) ≡ false → xs ≡ []
none_open [] it = refl
none_open (x ∷ xs) it = absurd (false≢true (sym it ∙ ap not (differs (length (x ∷ xs)) 0 (λ none. absurd (omega (arith, none))))))

closed_if : (command : Commanded) (slots : OpenSlots) → waits_for_slots command slots ≡ false → ClosedIfFence command (map invalidation_in_slot slots.open_slots)
closed_if (IotinvalVma gscid pscid page) slots free = tt
closed_if (IofenceC store wsi pr pw) slots free = ap (map invalidation_in_slot) (none_open slots.open_slots free)
closed_if (IodirInvalDdt device) slots free = tt
closed_if (IotinvalGvma gscid page) slots free = tt
closed_if (AtsInval device range) slots free = tt

-- no serial is given but that of a request that is opened
last_after : (command : Commanded) (slots : OpenSlots) → (slots_by command slots).last ≤ slots.last + 1
last_after (IotinvalVma gscid pscid page) slots = omega arith
last_after (IofenceC store wsi pr pw) slots = omega arith
last_after (IodirInvalDdt device) slots = omega arith
last_after (IotinvalGvma gscid page) slots = omega arith
last_after (AtsInval device range) slots = omega arith

-- what is under way then
module _ (old new : Parts) (devices : new.devices ≡ old.devices) where
  traffic_done : (command : Commanded) → slots_of new.iommu ≡ slots_by command (slots_of old.iommu)
      → new.fabric ≡ with_fetched (Did command) (slots_by command (slots_of old.iommu)).last old.fabric → TrafficAfter command (values_of old).traffic (values_of new).traffic
  traffic_done (IotinvalVma gscid pscid page) slots fabric = traffic_kept old new devices fabric slots
  traffic_done (IofenceC store wsi pr pw) slots fabric = traffic_kept old new devices fabric slots
  traffic_done (IodirInvalDdt device) slots fabric = traffic_kept old new devices fabric slots
  traffic_done (IotinvalGvma gscid page) slots fabric = traffic_kept old new devices fabric slots
  traffic_done (AtsInval device range) slots fabric = record {
    entries = ap entries_in devices;
    epochs = ap epoch_in devices;
    messages = λ x there. requested old.fabric device ((slots_of old.iommu).last + 1) (range_of range) x (subst (λ (ms : List OnLink). Contains (messages_in ms) x) fabric there);
    slots = ap (λ (s : OpenSlots). map invalidation_in_slot s.open_slots) slots
        ∙ map-append invalidation_in_slot (slots_of old.iommu).open_slots (record { serial = (slots_of old.iommu).last + 1; device = device } ∷ []);
    last_serial = ap (λ (s : OpenSlots). s.last) slots;
  }

-- where commands are taken no fence has timed out
pub goes_on : {walks : List Walk} (old : Parts) (events : ℕ) → InvariantWith walks old events → is_processing_commands (registers_of old.iommu) ≡ true → (command_status (registers_of old.iommu)).cmd_to ≡ false
goes_on old events invariants on = not_true (command_status (registers_of old.iommu)).cmd_to (sym (processes old events invariants) ∙ on)
  where
    not_true : (b : Bool) → not b ≡ true → b ≡ false
    not_true true it = absurd (false≢true it)
    not_true false it = refl

-- a command that is done marks nothing as wrong
marks_kept : (r s : Registers) (command : Commanded) → s ≡ with_done r command → IsUnmarked r → IsUnmarked s
marks_kept r s command is unmarked = subst IsUnmarked (sym is) (by (asks_for_interrupt command))
  where
    by : (asks : Bool) → IsUnmarked (if asks then with_fence_w_ip (with_command_done r) else with_command_done r)
    by true = record { loaded = unmarked.loaded; legal = unmarked.legal }
    by false = record { loaded = unmarked.loaded; legal = unmarked.legal }

-- nor does it time out
timeout_kept : (r s : Registers) (command : Commanded) → s ≡ with_done r command → (command_status s).cmd_to ≡ (command_status r).cmd_to
timeout_kept r s command is = ap (λ (q : Registers). (command_status q).cmd_to) is ∙ by (asks_for_interrupt command)
  where
    by : (asks : Bool) → (command_status (if asks then with_fence_w_ip (with_command_done r) else with_command_done r)).cmd_to ≡ (command_status r).cmd_to
    by true = refl
    by false = refl

-- processing doesn't stop where it goes on
pub never_stops : {walks : List Walk} (old : Parts) (events : ℕ) (next : Iommu) → InvariantWith walks old events → 64 ≤ length old.memory → StopsFetching true old.memory old.iommu next → ⊥
never_stops old events next invariants many stops = by (head_entry old.memory (registers_of old.iommu)) refl stops
  where
    by : (entry : Option QueueEntry) → head_entry old.memory (registers_of old.iommu) ≡ entry → StopsAtEntry old.memory entry old.iommu next → ⊥
    by None at stopped = stopped
    by (Some (Command command)) at stopped =
        stopped.1 (is_storable old.memory (completed_in old.memory) (last_fence old.driver) command many (head_next old events invariants command at))
    by (Some (Illegal reason)) at stopped = false≢true (head_ours old events invariants (Illegal reason) at)
    by (Some Outside) at stopped = false≢true (head_ours old events invariants Outside at)

-- no question is sent by it
askers_fetched : {walks : List Walk} (old : Parts) (events : ℕ) → InvariantWith walks old events → (command : Commanded) (last : ℕ) (fabric : List OnLink)
    → fabric ≡ with_fetched (Did command) last old.fabric → All (HasAsker old.devices) fabric
askers_fetched old events invariants (IotinvalVma gscid pscid page) last fabric is = rw is invariants.known.askers
askers_fetched old events invariants (IotinvalGvma gscid page) last fabric is = rw is invariants.known.askers
askers_fetched old events invariants (IofenceC store wsi pr pw) last fabric is = rw is invariants.known.askers
askers_fetched old events invariants (IodirInvalDdt device) last fabric is = rw is invariants.known.askers
askers_fetched old events invariants (AtsInval device range) last fabric is =
    rw is (askers_sent old.devices old.fabric device (sent.InvReq last (range_of range)) invariants.known.askers tt)

-- and none of the reserved frames changes but that of the completion word
pub keeps_reserved : {walks : List Walk} (old new : Parts) (events : ℕ) (command : Commanded) → InvariantWith walks old events → DriverInvariant old.driver
    → FetchesByAnswer old.memory old.iommu (Did command) new.memory new.iommu → KeepsReserved old.driver old.memory new.memory
keeps_reserved old new events command invariants own fetches =
    let next = head_next old events invariants command fetches.1 in
    let frames = leaves_frames old.memory new.memory old.iommu new.iommu command fetches in
    record {
      size = frames.1;
      bytes = λ frame owner mark other. frames.0 frame (λ at. other (stored_there (length old.memory) (completed_in old.memory) (last_fence old.driver) command frame next at));
    }

-- a command is done
keeps_done : {walks still : List Walk} (old new : Parts) (events : ℕ) (command : Commanded) → WalksAfter command walks still → InvariantWith walks old events → DriverInvariant old.driver → StaysReady old.driver
    → (slots_of old.iommu).last < events → FetchesByAnswer old.memory old.iommu (Did command) new.memory new.iommu → new.driver ≡ old.driver → new.devices ≡ old.devices
    → new.fabric ≡ with_fetched (Did command) (slots_of new.iommu).last old.fabric → InvariantWith still new events
keeps_done {walks = walks} {still = still} old new events command walks_after invariants own unchanged below fetches driver devices fabric =
    let r = registers_of old.iommu in
    let size : length old.memory ≡ length old.driver.owners = invariants.ready.stand.size in
    let many : 64 ≤ length old.memory = let m = own.sizes.size.0 in omega (arith, size, m) in
    let address = completion_address (length old.memory) in
    let done = completed_in old.memory in
    let given = last_fence old.driver in
    let small : given < 2 ^ 32 = let numbered = own.fences.numbered in omega (arith, numbered) in
    let next : IsNext address done given command = head_next old events invariants command fetches.1 in
    let ring : IsRing (length old.memory) r = invariants.ready.ring invariants.started in
    let off : IsOffRing r (store_of command) = λ j lt at.
    let same = stored_there (length old.memory) done given command _ next at in
    let place = in_ring r (length old.memory) j ring lt in absurd (omega (arith, same, place, many)) in
    let list = takes_first old.memory new.memory old.iommu new.iommu command fetches off in
    let frames = leaves_frames old.memory new.memory old.iommu new.iommu command fetches in
    let left = fetches.5 in
    let free = neither (waits_for_slots command (slots_of old.iommu)) (waits_for_accesses command (flights_of old.iommu) (counted_in old.iommu)) fetches.2 in
    let last = last_after command (slots_of old.iommu) in
    let after : completed_in new.memory ≡ number_after done command =
    ap completed_in fetches.4 ∙ completed_after old.memory done given command many small next (ap (λ m. length m) (sym fetches.4) ∙ frames.1) in
    let kept = ring_kept r command address done given next in
    let keeps : KeepsReserved old.driver old.memory new.memory = keeps_reserved old new events command invariants own fetches in
    let more : done ≤ number_after done command = more_done address done given done command refl next in
    let grants : KeepsGrants (values_of old) (values_of new) = record {
      ledger = ap (λ (d : DriverState). d.ledger) driver;
      address = ap completion_address frames.1;
      given = ap (λ (d : DriverState). d.given) driver;
      confirmed = ap (λ (d : DriverState). d.confirmed) driver;
      last_fence = ap (λ (d : DriverState). last_fence d) driver;
      fences = ap (λ (d : DriverState). fence_of d) driver;
      stopped = timeout_kept r (registers_of new.iommu) command left.registers;
      kinds = kinds_kept old new devices;
      attachments = λ id. ap (λ (d : DriverState). shown_attachment (attachment_by_id d.devices id)) driver;
      spaces = λ id. ap (λ (d : DriverState). space_at d.devices id) driver;
    } in
    let effect : FirstEffect (values_of old) (values_of new) command = record {
      keeps = grants;
      going = goes_on old events invariants fetches.0;
      first = list;
      so_far = ap (λ (f : Flights). f.so_far) left.flights;
      in_flight = ap (λ (f : Flights). accesses_of f.rows) left.flights;
      completed = done_as address done given done (completed_in new.memory) command next after;
      contexts = cached_as command (contexts_of old.iommu) (contexts_of new.iommu) left.contexts;
      translations = translations_as command (translations_of old.iommu) (translations_of new.iommu) left.translations;
      fence_snapshot = left.fence_snapshot;
      done = done_if command (flights_of old.iommu) (counted_in old.iommu) free.1;
      closed = closed_if command (slots_of old.iommu) free.0;
      traffic = traffic_done old new devices command left.slots (fabric ∙ ap (λ (s : OpenSlots). with_fetched (Did command) s.last old.fabric) left.slots);
    } in
    record {
      ready = rw driver (unchanged old.memory new.memory r (registers_of new.iommu) invariants.ready keeps (subst (λ s. KeepsRing r s) (sym left.registers) kept.0));
      started = rw driver invariants.started;
      unmarked = marks_kept r (registers_of new.iommu) command left.registers invariants.unmarked;
      size = left.frames ∙ invariants.size ∙ sym frames.1;
      known = record {
        own_ids = rw devices invariants.known.own_ids;
        driver = rw (driver, devices) invariants.known.driver;
        iommu = ap (λ (f : Flights). row_ids f.rows) left.flights ∙ rw devices invariants.known.iommu;
        caches = rw devices invariants.known.caches;
        trusted = rw (driver, devices) invariants.known.trusted;
        askers = rw devices (askers_fetched old events invariants command (slots_of new.iommu).last new.fabric fabric);
      };
      serials = subst (λ (s : OpenSlots). s.last ≤ events) (sym left.slots) (omega (arith, last, below));
      epochs = same_epochs old new events invariants devices;
      small = rw driver invariants.small;
      counted = subst (λ (f : Flights). f.so_far ≤ events) (sym left.flights) invariants.counted;
      contexts = λ id context at. rw driver (invariants.contexts id context (cached_before command (contexts_of old.iommu) (contexts_of new.iommu) left.contexts id context at));
      copies = ∥∥₁_map invariants.copies (fetch_scene (values_of old) (values_of new) command effect walks still walks_after);
    }

-- whether a fence waits for devices is no matter
keeps_flag : {walks : List Walk} (parts : Parts) (events : ℕ) (waits : Bool) → InvariantWith walks parts events → InvariantWith walks (record parts { iommu = record parts.iommu { fence_waits = waits } }) events
keeps_flag parts events waits invariants = record {
  ready = invariants.ready;
  started = invariants.started;
  unmarked = invariants.unmarked;
  size = invariants.size;
  known = record { own_ids = invariants.known.own_ids; driver = invariants.known.driver; iommu = invariants.known.iommu; caches = invariants.known.caches; trusted = invariants.known.trusted; askers = invariants.known.askers };
  small = invariants.small;
  counted = invariants.counted;
  serials = invariants.serials;
  epochs = invariants.epochs;
  contexts = invariants.contexts;
  copies = invariants.copies;
}

-- who waits at the head
module _ {walks : List Walk} (old : Parts) (events : ℕ) (invariants : InvariantWith walks old events) where
  -- where it counts, the IOMMU is this
  abbrev counting : Parts
  counting = record old { iommu = after_none old.iommu (registers_of old.iommu) (Some (counted_in old.iommu)) }

  -- where no command is done, and none counts, all that is kept stays
  pub keeps_unopened : InvariantWith walks (record old { iommu = after_none old.iommu (registers_of old.iommu) (fence_snapshot_of old.iommu) }) events
  keeps_unopened = record {
    ready = invariants.ready;
    started = invariants.started;
    unmarked = invariants.unmarked;
    size = invariants.size;
    known = record { own_ids = invariants.known.own_ids; driver = invariants.known.driver; iommu = invariants.known.iommu; caches = invariants.known.caches; trusted = invariants.known.trusted; askers = invariants.known.askers };
    small = invariants.small;
    counted = invariants.counted;
    serials = invariants.serials;
    epochs = invariants.epochs;
    contexts = invariants.contexts;
    copies = invariants.copies;
  }

  -- where no command waits, nothing was counted for one
  pub keeps_nothing : head_entry old.memory (registers_of old.iommu) ≡ None → InvariantWith walks (record old { iommu = after_nothing old.iommu (registers_of old.iommu) }) events
  keeps_nothing none = record {
    ready = invariants.ready;
    started = invariants.started;
    unmarked = invariants.unmarked;
    size = invariants.size;
    known = record { own_ids = invariants.known.own_ids; driver = invariants.known.driver; iommu = invariants.known.iommu; caches = invariants.known.caches; trusted = invariants.known.trusted; askers = invariants.known.askers };
    small = invariants.small;
    counted = invariants.counted;
    serials = invariants.serials;
    epochs = invariants.epochs;
    contexts = invariants.contexts;
    copies = ∥∥₁_map invariants.copies (scene_uncounted (values_of old) (none_there (commands_in old.memory (registers_of old.iommu)) none));
  }

  -- a fence counts, since no invalidation request is open
  keeps_counted : (command_status (registers_of old.iommu)).cmd_to ≡ false → (store : Option FenceStore) (wsi pr pw : Bool) → head_entry old.memory (registers_of old.iommu) ≡ Some (Command (IofenceC store wsi pr pw))
      → waits_for_slots (IofenceC store wsi pr pw) (slots_of old.iommu) ≡ false → InvariantWith walks counting events
  keeps_counted going store wsi pr pw at free =
      let next = head_next old events invariants (IofenceC store wsi pr pw) at in
      let list = first_there (commands_in old.memory (registers_of old.iommu)) (Command (IofenceC store wsi pr pw)) at in
      let counts : CountsAtHead (values_of old) (values_of counting) = record {
        keeps = record { ledger = refl; address = refl; given = refl; confirmed = refl; last_fence = refl; fences = refl; stopped = refl; kinds = λ d. refl; attachments = λ d. refl; spaces = λ d. refl };
        going = going;
        waiting = refl;
        head = (next.0, list.0, list.1 ∙ ap (λ c. Command c ∷ list.0) next.1);
        completed = refl;
        so_far = refl;
        in_flight = refl;
        contexts = λ d is. is;
        translations = λ key translation there. there;
        fence_snapshot = refl;
        closed = ap (map invalidation_in_slot) (none_open (slots_of old.iommu).open_slots free);
        traffic = refl;
      } in
      record {
        ready = invariants.ready;
        started = invariants.started;
        unmarked = invariants.unmarked;
        size = invariants.size;
        known = record { own_ids = invariants.known.own_ids; driver = invariants.known.driver; iommu = invariants.known.iommu; caches = invariants.known.caches; trusted = invariants.known.trusted; askers = invariants.known.askers };
        small = invariants.small;
        counted = invariants.counted;
        serials = invariants.serials;
        epochs = invariants.epochs;
        contexts = invariants.contexts;
        copies = ∥∥₁_map invariants.copies (count_scene (values_of old) (values_of counting) counts walks);
      }

  -- whether it waits for slots, or for accesses
  abbrev waiting : Bool → Parts
  waiting slots = record old { iommu = after_none old.iommu (registers_of old.iommu) (if slots then fence_snapshot_of old.iommu else Some (counted_in old.iommu)) }

  keeps_command : (command_status (registers_of old.iommu)).cmd_to ≡ false → (command : Commanded) → head_entry old.memory (registers_of old.iommu) ≡ Some (Command command) → is_held_back command old.iommu ≡ true
      → InvariantWith walks (waiting (waits_for_slots command (slots_of old.iommu))) events
  keeps_command going (IotinvalVma gscid pscid page) at held = absurd (false≢true held)
  keeps_command going (IotinvalGvma gscid page) at held = absurd (false≢true held)
  keeps_command going (IodirInvalDdt device) at held = absurd (false≢true held)
  keeps_command going (IofenceC store wsi pr pw) at held = by (waits_for_slots (IofenceC store wsi pr pw) (slots_of old.iommu)) refl
    where
      by : (b : Bool) → waits_for_slots (IofenceC store wsi pr pw) (slots_of old.iommu) ≡ b → InvariantWith walks (waiting b) events
      by true waits = keeps_unopened
      by false free = keeps_counted going store wsi pr pw at free
  keeps_command going (AtsInval device range) at held = by (waits_for_slots (AtsInval device range) (slots_of old.iommu)) held
    where
      by : (b : Bool) → (b || false) ≡ true → InvariantWith walks (waiting b) events
      by true waits = keeps_unopened
      by false none = absurd (false≢true none)

  pub keeps_waiting : (command_status (registers_of old.iommu)).cmd_to ≡ false → WaitsAt (head_entry old.memory (registers_of old.iommu)) old.iommu
      → InvariantWith walks (record old { iommu = after_none old.iommu (registers_of old.iommu) (fence_snapshot_at (head_entry old.memory (registers_of old.iommu)) old.iommu) }) events
  keeps_waiting going waits = by (head_entry old.memory (registers_of old.iommu)) refl waits
    where
      by : (entry : Option QueueEntry) → head_entry old.memory (registers_of old.iommu) ≡ entry → WaitsAt entry old.iommu
          → InvariantWith walks (record old { iommu = after_none old.iommu (registers_of old.iommu) (fence_snapshot_at entry old.iommu) }) events
      by None at it = absurd it
      by (Some (Command command)) at it = keeps_command going command at it
      by (Some (Illegal reason)) at it = absurd it
      by (Some Outside) at it = absurd it

-- which walks are under way after a fetch
abbrev pub WalksFetched : Fetched → List Walk → List Walk → Type 0
WalksFetched (Did command) before after = WalksAfter command before after
WalksFetched Waiting before after = after ≡ before
WalksFetched Empty before after = after ≡ before
WalksFetched Stopped before after = after ≡ before

-- where none was under way none is
pub none_fetched : (answer : Fetched) → WalksFetched answer [] []
none_fetched (Did command) = no_walks_after command
none_fetched Waiting = refl
none_fetched Empty = refl
none_fetched Stopped = refl

pub keeps_fetched : {walks still : List Walk} (old new : Parts) (events : ℕ) (reply : Outcome) → InvariantWith walks old events → DriverInvariant old.driver → StaysReady old.driver
    → (slots_of old.iommu).last < events → (fetches : FetchesNext old reply new) → WalksFetched fetches.answer walks still → InvariantWith still new events
keeps_fetched {walks = walks} {still = still} old new events reply invariants own unchanged below fetches walks_after =
    by fetches.answer (by_answer old.memory new.memory old.iommu new.iommu fetches.answer fetches.call) fetches.fabric walks_after
  where
    many : 64 ≤ length old.memory
    many = let m = own.sizes.size.0 in let size = invariants.ready.stand.size in omega (arith, size, m)

    left : (iommu : Iommu) → still ≡ walks → InvariantWith walks (record old { iommu = iommu }) events → new.memory ≡ old.memory → new.iommu ≡ iommu → new.fabric ≡ old.fabric → InvariantWith still new events
    left iommu same kept memory is fabric =
        subst (λ parts. InvariantWith still parts events) (sym (parts_are new old.memory iommu old.driver old.devices old.fabric memory is fetches.driver fetches.devices fabric))
        (subst (λ ws. InvariantWith ws (record old { iommu = iommu }) events) (sym same) kept)

    by : (answer : Fetched) → FetchesByAnswer old.memory old.iommu answer new.memory new.iommu → new.fabric ≡ with_fetched answer (slots_of new.iommu).last old.fabric → WalksFetched answer walks still
        → InvariantWith still new events
    by (Did command) call fabric after = keeps_done old new events command after invariants own unchanged below call fetches.driver fetches.devices fabric
    by Waiting call fabric same = left _ same (keeps_flag _ events (waits_at (head_entry old.memory (registers_of old.iommu)) old.iommu)
        (keeps_waiting old events invariants (goes_on old events invariants call.0) call.1)) call.2 call.3 fabric
    by Empty call fabric same = left _ same (keeps_nothing old events invariants call.1) call.2 call.3 fabric
    by Stopped call fabric same = stops (is_processing_commands (registers_of old.iommu)) call.0
      where
        stops : (on : Bool) → StopsFetching on old.memory old.iommu new.iommu → InvariantWith still new events
        stops true stopped = absurd (never_stops old events new.iommu invariants many stopped)
        stops false stopped = left old.iommu same invariants call.1 stopped fabric
