-- The IOMMU takes a command, or doesn't.
use Rattle.std.proofs.Common.{suc, ◌≡◌, ◌≢◌, ◌∙◌, ◌+◌, ◌*◌, ◌/◌, ◌%◌, ◌<◌, ◌&&◌, inl, inr, ℕ, Bool, true, false, not, List, [], ◌∷◌, map, length, slice_get, slice_set, Option, None, Some, option_map, refl, sym, ap, subst, arith, if◌then◌else◌}
use Rattle.std.specs.Option.{option_map_or}
use Rattle.std.proofs.Math.Nat.{mod-eq_of_lt}
use Rattle.byteorder.specs.Endian.{little_bytes}
use Rattle.iom_base.specs.Bytes.{with_bytes}
use Rattle.iom_command_queue.specs.declared.command.Command.{Command}
use Rattle.iom_command_queue.specs.declared.command.Command.TheVariants.{IotinvalVma, IotinvalGvma, IofenceC, IodirInvalDdt, AtsInval}
use Rattle.iom_command_queue.specs.declared.entry.QueueEntry.{QueueEntry}
use Rattle.iom_command_queue.specs.declared.entry.QueueEntry.TheVariants as stands
use Rattle.iom_command_queue.specs.Waiting.{entry_by_words, entry_at, place_of, how_many, commands_in, first_entry}
use Rattle.iom_command_queue.proofs.Waits.{head_below, next_below, count, drops as list_drops, first_is, none_is}
use Rattle.iom_device_dir.specs.declared.context.Context.{Context as DeviceContext}
use Rattle.iom_device_dir.specs.Contents.{Content}
use Rattle.iom_device_dir.specs.Paths.{fits_directory}
use Rattle.iom_fabric.specs.declared.fabric.OnLink.{OnLink}
use Rattle.iom_fabric.specs.declared.message.Message.{Message as Sent}
use Rattle.iom_fabric.specs.declared.message.Message.TheVariants as sent
use Rattle.iom_board.specs.Commits.{TakesCommand}
use Rattle.iom_board.specs.BoardParts.{BoardParts}
use Rattle.iom_board.specs.Messages.{named_range, with_message, with_opened}
use Rattle.iom_iommu.specs.OwnIommu.{Iommu}
use Rattle.iom_inflight.specs.Flights.{Flights}
use Rattle.iom_iommu.specs.Fetches.{with_store, head_entry, covers_device}
use Rattle.iom_iommu.specs.Effects.{FetchesByAnswer, store_of, with_done, asks_for_interrupt, DropsContexts, IsLeft, StopsAtEntry, StopsFetching}
use Rattle.iom_iommu.proofs.ByAnswer.{by_answer}
use Rattle.iom_iommu.specs.Parts.{registers_of, contexts_of, translations_of, flights_of, slots_of}
use Rattle.iom_iommu.specs.declared.fetched.Fetched.{Fetched}
use Rattle.iom_iommu.specs.declared.fetched.Fetched.TheVariants.{Did, Waiting, Empty, Stopped}
use Rattle.iom_phys_mem.specs.Words.{word_at, with_word}
use Rattle.iom_registers.specs.declared.directory.DirectoryMode.{DirectoryMode}
use Rattle.iom_registers.specs.declared.registers.Registers.{Registers}
use Rattle.iom_registers.specs.Queues.{command_base, command_entries, command_head, command_tail, next_index, directory_mode, is_command_queue_on, is_command_queue_stopped, is_processing_commands, with_command_done, with_fence_w_ip, with_cqmf, with_cmd_ill}
use Rattle.iom_tlb.specs.Covers.{are_covering}
use Rattle.iom_tlb.specs.Invalidations.{covers_of}
use Rattle.iom_tlb.specs.Content.{Translations, Key, DropsWhere}
use Rattle.iom_tlb.specs.declared.trans_cache.Translation.{Translation}
use Rattle.iom_tlb.proofs.ContentLemmas.{found_before_drop}
use Rattle.iom_reach.specs.Memory.{DiffersAt}
use Rattle.iom_reach.specs.Transitions.{AreSomeOfOr, IsPartOf, IsMemoryBy, DoCommand}
use Rattle.iom_reach.specs.Scene.{Other}
use Rattle.iom_hardware_ways.specs.Formats.{word_in, command_in, word_frame, stored_by, context_of}
use Rattle.iom_hardware_ways.specs.Scenes.{place_at, places_from, waiting_places, contexts_in, mapping_of, mappings_in, cached_key, said_on, message_of, scene_of}
use Rattle.iom_hardware_ways.proofs.CarryLemmas.{sent_cases}
use Rattle.iom_hardware_ways.proofs.ContextLemmas.{same_shown}
use Rattle.iom_hardware_ways.proofs.FlightLemmas.{set_differs}
use Rattle.iom_hardware_ways.proofs.FormatLemmas.{word_there}
use Rattle.iom_hardware_ways.proofs.RecordLemmas.{ShowAlike, alike}
use Rattle.iom_hardware_ways.proofs.SceneParts.{scene_is}
use Rattle.iom_hardware_ways.proofs.Turns.{Comes, nothing, one}

-- THE QUEUE

-- while commands are processed the queue is on
is_on : (r : Registers) → is_processing_commands r ≡ true → is_command_queue_on r ≡ true
is_on r on = by (is_command_queue_on r) on
  where
    by : (b : Bool) → (b && not (is_command_queue_stopped r)) ≡ true → b ≡ true
    by true is = refl
    by false is = is

-- where something stands at the head, head and tail are apart
pub apart : (memory : List (List ℕ)) (r : Registers) (entry : QueueEntry) → slice_get (commands_in memory r) 0 ≡ Some entry → command_head r ≢ command_tail r
apart memory r entry is same = let none : None ≡ Some entry = sym (none_is memory r same) ∙ is in cc

-- and one command less waits once it is done
pub one_less : (memory : List (List ℕ)) (r : Registers) → command_head r ≢ command_tail r → how_many r ≡ suc (how_many (with_command_done r))
one_less memory r ne =
    sym (count memory r) ∙ ap (λ (l : List QueueEntry). length l) (list_drops memory r ne) ∙ ap suc (count memory (with_command_done r))

-- the places of those that wait
pub waiting_drops : (memory : List (List ℕ)) (r : Registers) → is_command_queue_on r ≡ true → command_head r ≢ command_tail r
    → waiting_places r ≡ place_at (place_of r (command_head r)) ∷ waiting_places (with_command_done r)
waiting_drops memory r on ne =
    let size = command_entries r in
    let next = next_index size (command_head r) in
    let n = how_many (with_command_done r) in
    let back : next % size ≡ next = mod-eq_of_lt (next_below size (command_head r) (head_below r)) in
    ap (λ (b : Bool). if b then places_from (command_base r) size (command_head r) (how_many r) else []) on
    ∙ ap (λ k. places_from (command_base r) size (command_head r) k) (one_less memory r ne)
    ∙ ap (λ i. place_at (place_of r (command_head r)) ∷ places_from (command_base r) size i n) (sym back)
    ∙ ap (λ (b : Bool). place_at (place_of r (command_head r)) ∷ (if b then places_from (command_base r) size (next % size) n else [])) (sym on)

-- what stands at a place is what the format finds there
low_place : (page index : ℕ) → (page * 4096 + 16 * index) % 4096 + 8 < 4096
low_place page index = omega arith

even_place : (page index : ℕ) → (page * 4096 + 16 * index) % 4096 % 8 ≡ 0
even_place page index = omega arith

entry_there : (memory : List (List ℕ)) (page index : ℕ)
    → command_in (slice_get memory ((page * 4096 + 16 * index) / 4096)) ((page * 4096 + 16 * index) % 4096) ≡ entry_at memory (page * 4096 + 16 * index)
unfolding entry_at
entry_there memory page index =
    let a = page * 4096 + 16 * index in
    let low = low_place page index in
    let even = even_place page index in
    let first : word_at 8 memory a ≡ word_in (slice_get memory (a / 4096)) (a % 4096) = word_there memory a (a / 4096) (a % 4096) (omega arith) (omega (arith, low)) even in
    let second : word_at 8 memory (a + 8) ≡ word_in (slice_get memory (a / 4096)) (a % 4096 + 8) =
    word_there memory (a + 8) (a / 4096) (a % 4096 + 8) (omega arith) low (omega (arith, even)) in
    ap (λ w. entry_by_words w (word_in (slice_get memory (a / 4096)) (a % 4096 + 8))) (sym first) ∙ ap (λ w. entry_by_words (word_at 8 memory a) w) (sym second)

pub head_there : (memory : List (List ℕ)) (r : Registers) (entry : QueueEntry) → slice_get (commands_in memory r) 0 ≡ Some entry
    → command_in (slice_get memory (place_at (place_of r (command_head r))).frame) (place_at (place_of r (command_head r))).offset ≡ entry
head_there memory r entry is =
    let here : Some (first_entry memory r) ≡ Some entry = sym (first_is memory r (apart memory r entry is)) ∙ is in
    let same : first_entry memory r ≡ entry = cc in
    entry_there memory r.cqb.ppn (command_head r) ∙ same

-- MEMORY

word_differs : (memory : List (List ℕ)) (address value : ℕ) → DiffersAt (address / 4096) (slice_get memory) (slice_get (with_word 4 memory address value))
unfolding with_word
word_differs memory address value = by (slice_get memory (address / 4096))
  where
    by : (found : Option (List ℕ)) → DiffersAt (address / 4096) (slice_get memory)
        (slice_get (option_map_or (λ frame. slice_set memory (address / 4096) (with_bytes frame (address % 4096) (little_bytes 4 value))) found memory))
    by None = λ f ne. refl
    by (Some frame) = set_differs memory (address / 4096) (with_bytes frame (address % 4096) (little_bytes 4 value))

memory_by : (command : Command) (memory new : List (List ℕ)) → new ≡ with_store memory (store_of command) → IsMemoryBy (word_frame command) (slice_get memory) (slice_get new)
memory_by (IotinvalVma gscid pscid page) memory new is = ap slice_get is
memory_by (IotinvalGvma gscid page) memory new is = ap slice_get is
memory_by (IofenceC None wsi pr pw) memory new is = ap slice_get is
memory_by (IofenceC (Some store) wsi pr pw) memory new is =
    subst (λ m. DiffersAt (store.address / 4096) (slice_get memory) (slice_get m)) (sym is) (word_differs memory store.address store.data)
memory_by (IodirInvalDdt device) memory new is = ap slice_get is
memory_by (AtsInval device range) memory new is = ap slice_get is

-- CACHES

contexts_part : (m : DirectoryMode) (command : Command) (old new : Content ℕ DeviceContext) → DropsContexts command old new → IsPartOf (contexts_in m new) (contexts_in m old)
contexts_part m (IotinvalVma gscid pscid page) old new same key value is = same_shown m old new same key value is
contexts_part m (IotinvalGvma gscid page) old new same key value is = same_shown m old new same key value is
contexts_part m (IofenceC store wsi pr pw) old new same key value is = same_shown m old new same key value is
contexts_part m (AtsInval device range) old new same key value is = same_shown m old new same key value is
contexts_part m (IodirInvalDdt device) old new drops key value is = by (covers_device device key) (drops key)
  where
    by : (b : Bool) → new key ≡ (if b then None else old key) → contexts_in m old key ≡ Some value
    by false same = ap (λ (c : Option DeviceContext). if fits_directory m key then option_map context_of c else None) (sym same) ∙ is
    by true none = absurd (gone (fits_directory m key) (ap (λ (c : Option DeviceContext). if fits_directory m key then option_map context_of c else None) (sym none) ∙ is))
      where
        gone : (fits : Bool) → (if fits then option_map context_of None else None) ≡ Some value → ⊥
        gone true never = cc
        gone false never = cc

translations_part : (out : Key → Translation → Bool) (old new : Translations) → DropsWhere out old new → IsPartOf (mappings_in new) (mappings_in old)
translations_part out old new drops at value is = by (new (cached_key at)) refl is
  where
    by : (left : Option Translation) → new (cached_key at) ≡ left → option_map mapping_of left ≡ Some value → mappings_in old at ≡ Some value
    by None none some = absurd (cc)
    by (Some cached) there some = ap (option_map mapping_of) (found_before_drop old new (cached_key at) cached there out drops).1 ∙ some

-- MESSAGES

sent_among : (fabric : List OnLink) (device : ℕ) (says : Sent) → said_on device says ≡ Other
    → AreSomeOfOr (map message_of (with_message fabric device says)) Other (map message_of fabric)
sent_among fabric device says other message there = elim (sent_cases fabric device says message there) [
  | inl same ↦ inl (sym same ∙ other)
  | inr before ↦ inr before
]

opened_among : (command : Command) (last : ℕ) (fabric : List OnLink) → AreSomeOfOr (map message_of (with_opened (Did command) last fabric)) Other (map message_of fabric)
opened_among (IotinvalVma gscid pscid page) last fabric message there = inr there
opened_among (IotinvalGvma gscid page) last fabric message there = inr there
opened_among (IofenceC store wsi pr pw) last fabric message there = inr there
opened_among (IodirInvalDdt device) last fabric message there = inr there
opened_among (AtsInval device range) last fabric message there =
    sent_among fabric device (sent.InvReq last (named_range range)) refl message there

-- A COMMAND IS DONE

done_alike : (command : Command) (r : Registers) → ShowAlike (with_done r command) (with_command_done r)
done_alike command r = by (asks_for_interrupt command)
  where
    by : (b : Bool) → ShowAlike (if b then with_fence_w_ip (with_command_done r) else with_command_done r) (with_command_done r)
    by true trusted memory contexts translations rows devices fabric = refl
    by false trusted memory contexts translations rows devices fabric = refl

module _ (trusted : ℕ → Bool) (old new : BoardParts) (command : Command) (fabric : List OnLink)
    (processing : is_processing_commands (registers_of old.iommu) ≡ true)
    (head : slice_get (commands_in old.memory (registers_of old.iommu)) 0 ≡ Some (stands.Command command))
    (memory : new.memory ≡ with_store old.memory (store_of command)) (left : IsLeft command old.iommu new.iommu)
    (devices : new.devices ≡ old.devices) (fabric_is : new.fabric ≡ fabric) (among : AreSomeOfOr (map message_of fabric) Other (map message_of old.fabric)) where
  effect : Comes (scene_of trusted old) (scene_of trusted new)
  effect =
      let r = registers_of old.iommu in
      let mode = directory_mode r in
      let place = place_at (place_of r (command_head r)) in
      one DoCommand tt (scene_of trusted old) (scene_of trusted new) (
        place,
        waiting_places (with_command_done r),
        slice_get new.memory,
        contexts_in mode (contexts_of new.iommu),
        mappings_in (translations_of new.iommu),
        map message_of fabric,
        waiting_drops old.memory r (is_on r processing) (apart old.memory r (stands.Command command) head),
        subst (λ w. IsMemoryBy w (slice_get old.memory) (slice_get new.memory)) (sym (ap stored_by (head_there old.memory r (stands.Command command) head)))
            (memory_by command old.memory new.memory memory),
        contexts_part mode command (contexts_of old.iommu) (contexts_of new.iommu) left.contexts,
        translations_part (are_covering (covers_of command)) (translations_of old.iommu) (translations_of new.iommu) left.translations,
        among,
        scene_is trusted new new.memory (registers_of new.iommu) (contexts_of new.iommu) (translations_of new.iommu) (flights_of old.iommu).rows old.devices fabric
            refl refl refl refl (ap (λ (f : Flights). f.rows) left.flights) devices fabric_is
            ∙ alike (registers_of new.iommu) (with_done r command) left.registers trusted new.memory (contexts_of new.iommu) (translations_of new.iommu) (flights_of old.iommu).rows old.devices fabric
            ∙ done_alike command r trusted new.memory (contexts_of new.iommu) (translations_of new.iommu) (flights_of old.iommu).rows old.devices fabric,
      )

-- NOTHING IS DONE: a status bit is set at most

-- the IOMMU as it was, but for registers that show the same
stopped_so : (trusted : ℕ → Bool) (old new : BoardParts) (r : Registers) → new.memory ≡ old.memory → registers_of new.iommu ≡ r → ShowAlike r (registers_of old.iommu)
    → contexts_of new.iommu ≡ contexts_of old.iommu → translations_of new.iommu ≡ translations_of old.iommu → (flights_of new.iommu).rows ≡ (flights_of old.iommu).rows
    → new.devices ≡ old.devices → new.fabric ≡ old.fabric → Comes (scene_of trusted old) (scene_of trusted new)
stopped_so trusted old new r memory registers shows contexts translations rows devices fabric =
    nothing (scene_of trusted old) (scene_of trusted new)
    (scene_is trusted new old.memory r (contexts_of old.iommu) (translations_of old.iommu) (flights_of old.iommu).rows old.devices old.fabric
    memory registers contexts translations rows devices fabric
    ∙ shows trusted old.memory (contexts_of old.iommu) (translations_of old.iommu) (flights_of old.iommu).rows old.devices old.fabric)

shows_itself : (r : Registers) → ShowAlike r r
shows_itself r trusted memory contexts translations rows devices fabric = refl

cqmf_alike : (r : Registers) → ShowAlike (with_cqmf r) r
cqmf_alike r trusted memory contexts translations rows devices fabric = refl

ill_alike : (r : Registers) → ShowAlike (with_cmd_ill r) r
ill_alike r trusted memory contexts translations rows devices fabric = refl

-- the IOMMU is this, whatever it counts of the fence at the head
is_so : (trusted : ℕ → Bool) (old new : BoardParts) (iommu : Iommu) → new.iommu ≡ iommu → ShowAlike (registers_of iommu) (registers_of old.iommu)
    → contexts_of iommu ≡ contexts_of old.iommu → translations_of iommu ≡ translations_of old.iommu → (flights_of iommu).rows ≡ (flights_of old.iommu).rows
    → new.memory ≡ old.memory → new.devices ≡ old.devices → new.fabric ≡ old.fabric → Comes (scene_of trusted old) (scene_of trusted new)
is_so trusted old new iommu is shows contexts translations rows memory devices fabric =
    stopped_so trusted old new (registers_of iommu) memory (ap (λ i. registers_of i) is) shows (ap (λ i. contexts_of i) is ∙ contexts) (ap (λ i. translations_of i) is ∙ translations)
    (ap (λ i. (flights_of i).rows) is ∙ rows) devices fabric

stops_at : (trusted : ℕ → Bool) (old new : BoardParts) (found : Option QueueEntry) → StopsAtEntry old.memory found old.iommu new.iommu
    → new.memory ≡ old.memory → new.devices ≡ old.devices → new.fabric ≡ old.fabric → Comes (scene_of trusted old) (scene_of trusted new)
stops_at trusted old new None never memory devices fabric = absurd never
stops_at trusted old new (Some stands.Outside) is memory devices fabric = is_so trusted old new _ is (cqmf_alike (registers_of old.iommu)) refl refl refl memory devices fabric
stops_at trusted old new (Some (stands.Illegal reason)) is memory devices fabric = is_so trusted old new _ is (ill_alike (registers_of old.iommu)) refl refl refl memory devices fabric
stops_at trusted old new (Some (stands.Command command)) (free, place, is) memory devices fabric = is_so trusted old new _ is (cqmf_alike (registers_of old.iommu)) refl refl refl memory devices fabric

stops : (trusted : ℕ → Bool) (old new : BoardParts) (processing : Bool) → StopsFetching processing old.memory old.iommu new.iommu
    → new.memory ≡ old.memory → new.devices ≡ old.devices → new.fabric ≡ old.fabric → Comes (scene_of trusted old) (scene_of trusted new)
stops trusted old new false is memory devices fabric = is_so trusted old new _ is (shows_itself (registers_of old.iommu)) refl refl refl memory devices fabric
stops trusted old new true is memory devices fabric = stops_at trusted old new (head_entry old.memory (registers_of old.iommu)) is memory devices fabric

pub fetches : (trusted : ℕ → Bool) (old : BoardParts) (fetched : Fetched) (new : BoardParts) → TakesCommand old fetched new
    → Comes (scene_of trusted old) (scene_of trusted new)
fetches trusted old fetched new takes = by fetched takes.fabric (by_answer old.memory new.memory old.iommu new.iommu fetched takes.call)
  where
    by : (answer : Fetched) → new.fabric ≡ with_opened answer (slots_of new.iommu).last old.fabric → FetchesByAnswer old.memory old.iommu answer new.memory new.iommu
        → Comes (scene_of trusted old) (scene_of trusted new)
    by (Did command) fabric call =
        effect trusted old new command (with_opened (Did command) (slots_of new.iommu).last old.fabric) call.0 call.1 call.4 call.5 takes.devices fabric
        (opened_among command (slots_of new.iommu).last old.fabric)
    by Waiting fabric call = is_so trusted old new _ call.3 (shows_itself (registers_of old.iommu)) refl refl refl call.2 takes.devices fabric
    by Empty fabric call = is_so trusted old new _ call.3 (shows_itself (registers_of old.iommu)) refl refl refl call.2 takes.devices fabric
    by Stopped fabric call = stops trusted old new (is_processing_commands (registers_of old.iommu)) call.0 call.1 takes.devices fabric
