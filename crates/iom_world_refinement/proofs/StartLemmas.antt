-- A world at power-on.
use Rattle.std.proofs.Common.{suc, zero, ◌≡◌, ◌+◌, ◌-◌, ◌/◌, ◌%◌, ◌<◌, ◌≤◌, ◌^◌, ◌++◌, ◌∙◌, is_some, ℕ, Bool, true, false, List, [], ◌∷◌, length, replicate, Option, Some, None, option_map, slice_get, slice_set, set, refl, sym, ap, subst, arith, if◌then◌else◌}
use Rattle.std.specs.Option.{option_map_or}
use Rattle.std.proofs.lemmas.Bool.{false≢true}
use Rattle.std.proofs.lemmas.List.{length-set, length-replicate, set-append_right, replicate-append-replicate}
use Rattle.byteorder.specs.Endian.{little_bytes}
use Rattle.iom_command_queue.specs.OpenSlots.{OpenSlots, no_slots}
use Rattle.iom_base.specs.Bytes.{with_bytes}
use Rattle.iom_base.specs.declared.owner.Owner.{Owner}
use Rattle.iom_base.specs.declared.owner.Owner.TheVariants.{System}
use Rattle.iom_device_dir.specs.declared.context.Context.{Context}
use Rattle.iom_coherence.specs.Laws.{scene_after_fence}
use Rattle.iom_coherence.proofs.ListLemmas.{in_none}
use Rattle.iom_coherence.proofs.TransitionLemmas.{faithful_after_fence}
use Rattle.iom_driver.specs.Fences.{last_fence, fence_of}
use Rattle.iom_driver.specs.Calls.{IsOpening, StartsFrom, turned_on}
use Rattle.iom_driver.specs.Devices.{attachment_by_id}
use Rattle.iom_driver.specs.Layout.{completion_address, directory_frame, ddtp_of, cqb_of, fqb_of}
use Rattle.iom_driver.specs.Ready.{IsReady}
use Rattle.iom_driver.specs.State.{DriverState}
use Rattle.iom_driver.proofs.Lists.{get_replicate, get_there}
use Rattle.iom_iommu.specs.OwnIommu.{Iommu}
use Rattle.iom_iommu.specs.Parts.{translations_of, fence_snapshot_of, fence_snapshot_after, slots_after, IsAtPowerOn, mmio, registers_of, contexts_of, flights_of, frames_of, slots_of}
use Rattle.iom_ledger.specs.Shown.{Agrees}
use Rattle.iom_machine.specs.declared.state.Frame.{Frame}
use Rattle.iom_machine.specs.PowerOn.{model_limits, opening, empty_frame}
use Rattle.iom_phys_mem.specs.Sizes.{IsMemorySize}
use Rattle.iom_phys_mem.specs.Words.{zeroed, with_word, word_at}
use Rattle.iom_phys_mem.proofs.Stores.{put_word, word_back}
use Rattle.iom_registers.specs.declared.register.Register.TheVariants.{Ddtp, Cqb, Cqcsr, Fqb, Fqcsr}
use Rattle.iom_registers.specs.declared.registers.Registers.{Registers}
use Rattle.iom_registers.specs.Table.{written, at_power_on}
use Rattle.iom_registers.specs.Queues.{command_status, is_command_queue_on}
use Rattle.iom_table_frames.specs.Owners.{opening_owners}
use Rattle.iom_tlb.specs.declared.trans_cache.Translation.{Translation}
use Rattle.iom_tlb.specs.Content.{Key}
use Rattle.iom_device.specs.declared.device.Device.{Device}
use Rattle.iom_world_effects.specs.Queued.{completed_in, AreQueuedAs, pending_after}
use Rattle.iom_world_effects.specs.Devices.{shown_attachment}
use Rattle.iom_world_effects.specs.Parts.{Parts}
use Rattle.iom_world_effects.specs.PowerOn.{IsStartedIommu, IsStartedDriver}
use Rattle.iom_world_effects.specs.Read.{space_at, values_of, accesses_of}
use Rattle.iom_world_effects.specs.Scenes.{IsSceneOf}
use Rattle.iom_world_effects.specs.Frames.{ShowsFrames}
use Rattle.iom_world_effects.specs.Shows.{PartsShow}
use Rattle.iom_world_effects.specs.Invariant.{PartsInvariant, known_ids, plugged_ids, row_ids, HasAsker, IsUnmarked}
use Rattle.iom_world_effects.proofs.FrameLemmas.{shows_reserved}
use Rattle.iom_coherence.specs.Attachments.{caches_translations}
use Rattle.iom_fabric.specs.declared.fabric.OnLink.{OnLink}
use Rattle.iom_device.specs.Caches.{kind_in, HasItsCache}
use Rattle.iom_world_effects.specs.Traffic.{traffic_of}
use Rattle.std.proofs.lemmas.List.Elements.{All-nil}
use Rattle.iom_driver.specs.Devices.{has_trusted_cache}

-- there is nothing in an empty list
none_there : {X : Type 0} (k : ℕ) (x : X) → slice_get [] k ≡ Some x → ⊥
none_there k x at = cc

owners_at_start : (n k : ℕ) → option_map (λ (frame : Frame). frame.owner) (slice_get (replicate n empty_frame) k)
    ≡ slice_get (replicate n None) k
owners_at_start zero zero = refl
owners_at_start zero (suc k) = refl
owners_at_start (suc n) zero = refl
owners_at_start (suc n) (suc k) = owners_at_start n k

bytes_at_start : (n k : ℕ) → option_map (λ (frame : Frame). frame.bytes) (slice_get (replicate n empty_frame) k) ≡ slice_get (replicate n zeroed) k
unfolding zeroed
bytes_at_start zero zero = refl
bytes_at_start zero (suc k) = refl
bytes_at_start (suc n) zero = refl
bytes_at_start (suc n) (suc k) = bytes_at_start n k

-- frames of zeros that belong to nobody
frames_at_start : (n : ℕ) → ShowsFrames (replicate n zeroed) (replicate n None) (replicate n empty_frame)
frames_at_start n = record {
  size = length-replicate n empty_frame ∙ sym (length-replicate n zeroed);
  same_owners = owners_at_start n;
  bytes = λ k free. bytes_at_start n k;
}

-- an item behind the first list is set
set_behind : {X : Type 0} (xs ys : List X) (i k : ℕ) (x : X) → i ≡ length xs + k → set (xs ++ ys) i x ≡ xs ++ set ys k x
set_behind xs ys i k x e =
    set-append_right xs ys (length xs) i x refl (omega arith)
    ∙ (let same : i - length xs ≡ k = omega arith in ap (λ j. xs ++ set ys j x) same)

-- the last four items are set
set_last_four : {X : Type 0} (xs : List X) (a b : X) (n : ℕ) → n ≡ length xs + 4
    → set (set (set (set (xs ++ a ∷ a ∷ a ∷ a ∷ []) (n - 4) b) (n - 3) b) (n - 2) b) (n - 1) b ≡ xs ++ b ∷ b ∷ b ∷ b ∷ []
set_last_four {X} xs a b n long =
    ap (λ (zs : List X). set (set (set zs (n - 3) b) (n - 2) b) (n - 1) b) (set_behind xs (a ∷ a ∷ a ∷ a ∷ []) (n - 4) 0 b (omega arith))
    ∙ ap (λ (zs : List X). set (set zs (n - 2) b) (n - 1) b) (set_behind xs (b ∷ a ∷ a ∷ a ∷ []) (n - 3) 1 b (omega arith))
    ∙ ap (λ (zs : List X). set zs (n - 1) b) (set_behind xs (b ∷ b ∷ a ∷ a ∷ []) (n - 2) 2 b (omega arith))
    ∙ set_behind xs (b ∷ b ∷ b ∷ a ∷ []) (n - 1) 3 b (omega arith)

-- the last four frames are the system's
four_marked : (n : ℕ) → 4 ≤ n
    → set (set (set (set (replicate n None) (n - 4) (Some System)) (n - 3) (Some System)) (n - 2) (Some System)) (n - 1) (Some System) ≡ opening_owners n
four_marked n le =
    let behind : n - 4 + 4 ≡ n = omega arith in
    let bare : List (Option Owner) = replicate (n - 4) None in
    let long : length bare ≡ n - 4 = length-replicate {A = Option Owner} (n - 4) None in
    let cut : ◌≡◌ {A = List (Option Owner)} (replicate n None) (bare ++ None ∷ None ∷ None ∷ None ∷ []) =
    sym (replicate-append-replicate {A = Option Owner} (n - 4) 4 None ∙ ap (λ j. replicate {A = Option Owner} j None) behind) in
    ap (λ (owners : List (Option Owner)). set (set (set (set owners (n - 4) (Some System)) (n - 3) (Some System)) (n - 2) (Some System)) (n - 1) (Some System)) cut
    ∙ set_last_four bare None (Some System) n (omega arith)

-- what the ledger machine sees of the frames at power-on
pub shows_frames : (n levels : ℕ) (disks : List ℕ) → IsMemorySize n → ShowsFrames (replicate n zeroed) (opening_owners n) (opening model_limits n levels disks).frames
shows_frames n levels disks size =
    let le : 64 ≤ n = size.0 in
    let long : length (replicate n zeroed) ≡ n = length-replicate n zeroed in
    let memory : List (List ℕ) = replicate n zeroed in
    let zero_marks : List (Option Owner) = replicate n None in
    let one_mark : List (Option Owner) = set zero_marks (n - 4) (Some System) in
    let two_marks : List (Option Owner) = set one_mark (n - 3) (Some System) in
    let three_marks : List (Option Owner) = set two_marks (n - 2) (Some System) in
    let marked_0 : length zero_marks ≡ length memory = length-replicate n None ∙ sym long in
    let marked_1 : length one_mark ≡ length memory = length-set zero_marks (n - 4) (Some System) ∙ marked_0 in
    let marked_2 : length two_marks ≡ length memory = length-set one_mark (n - 3) (Some System) ∙ marked_1 in
    let marked_3 : length three_marks ≡ length memory = length-set two_marks (n - 2) (Some System) ∙ marked_2 in
    let one = shows_reserved memory memory zero_marks (replicate n empty_frame) (n - 4) System (frames_at_start n) (rw long (omega arith)) marked_0 (λ k ne. refl) refl in
    let two = shows_reserved memory memory one_mark _ (n - 3) System one (rw long (omega arith)) marked_1 (λ k ne. refl) refl in
    let three = shows_reserved memory memory two_marks _ (n - 2) System two (rw long (omega arith)) marked_2 (λ k ne. refl) refl in
    let four = shows_reserved memory memory three_marks _ (n - 1) System three (rw long (omega arith)) marked_3 (λ k ne. refl) refl in
    subst (λ (owners : List (Option Owner)). ShowsFrames memory owners (opening model_limits n levels disks).frames) (four_marked n (omega arith)) four

-- a frame of zeros, where a word of zero is stored at its beginning, and one that is put where it stands
zero_stays : with_bytes zeroed 0 (little_bytes 4 0) ≡ zeroed
unfolding zeroed
zero_stays = refl

set_replicate : {X : Type 0} (n i : ℕ) (x : X) → set (replicate n x) i x ≡ replicate n x
set_replicate zero zero x = refl
set_replicate zero (suc i) x = refl
set_replicate (suc n) zero x = refl
set_replicate (suc n) (suc i) x = ap (λ xs. x ∷ xs) (set_replicate n i x)

-- zero, stored at the beginning of a frame of zeros, changes nothing
zeros_word : (n address : ℕ) → address / 4096 < n → address % 4096 ≡ 0 → with_word 4 (replicate n zeroed) address 0 ≡ replicate n zeroed
zeros_word n address inside begins =
    sym (put_word 4 0 address (replicate n zeroed) zeroed (get_replicate n (address / 4096) zeroed inside))
    ∙ ap (λ o. set (replicate n zeroed) (address / 4096) (with_bytes zeroed o (little_bytes 4 0))) begins
    ∙ ap (λ f. set (replicate n zeroed) (address / 4096) f) zero_stays
    ∙ set_replicate n (address / 4096) zeroed

-- the bytes of a start, which stores zero into a memory of zeros
zeros_started : (n : ℕ) → 64 ≤ n → slice_set (with_word 4 (replicate n zeroed) (completion_address n) 0) (directory_frame n) zeroed ≡ replicate n zeroed
zeros_started n many =
    ap (λ m. slice_set m (directory_frame n) zeroed) (zeros_word n (completion_address n) (omega (arith, many)) (omega arith)) ∙ set_replicate n (directory_frame n) zeroed

-- the completion word after one is stored
word_after : (memory : List (List ℕ)) (value : ℕ) → 64 ≤ length memory → value < 2 ^ 32
    → word_at 4 (with_word 4 memory (completion_address (length memory)) value) (completion_address (length memory)) ≡ Some value
word_after memory value many small =
    let address = completion_address (length memory) in
    let inside : address / 4096 < length memory = omega (arith, many) in
    let there = get_there memory (address / 4096) inside in
    ap (λ m. word_at 4 m address) (sym (put_word 4 value address memory there.0 there.1))
    ∙ word_back 4 value address memory there.0 (omega arith) inside (omega arith) (omega (arith, small))

-- the completion word of a memory of zeros
completed_zero : (n : ℕ) → 64 ≤ n → completed_in (replicate n zeroed) ≡ 0
completed_zero n many =
    let memory : List (List ℕ) = replicate n zeroed in
    let long : length memory ≡ n = length-replicate n zeroed in
    let enough : 64 ≤ length memory = rw long many in
    let same : with_word 4 memory (completion_address (length memory)) 0 ≡ memory = zeros_word n (completion_address (length memory)) (omega (arith, long, many)) (omega arith) in
    ap (λ m. option_map_or (λ word. word) (word_at 4 m (completion_address (length memory))) 0) (sym same)
    ∙ ap (λ o. option_map_or (λ word. word) o 0) (word_after memory 0 enough (omega arith))

-- a write counts nothing
none_still : (r : Registers) (fence_snapshot : Option ℕ) → fence_snapshot ≡ None → fence_snapshot_after r fence_snapshot ≡ None
none_still r fence_snapshot none = by (is_command_queue_on r)
  where
    by : (b : Bool) → (if b then fence_snapshot else None) ≡ None
    by true = none
    by false = refl

-- no invalidation request is open after a write, where none was ever opened
none_written : (stay : Bool) (slots : OpenSlots) → slots ≡ no_slots → (if stay then slots else record slots { open_slots = [] }) ≡ no_slots
none_written stay slots none = ap (λ (s : OpenSlots). if stay then s else record s { open_slots = [] }) none ∙ by stay
  where
    by : (b : Bool) → (if b then no_slots else record no_slots { open_slots = [] }) ≡ no_slots
    by true = refl
    by false = refl

-- the parts of a world whose driver has just been started from a fence's number
pub record IsStarted (first_fence n levels : ℕ) (first next : DriverState) (before memory : List (List ℕ)) (power iommu : Iommu) (devices : List Device) (fabric : List OnLink) : Type 0 where
  pub size : IsMemorySize n
  pub opening_driver : IsOpening n levels first
  pub zeros : before ≡ replicate n zeroed
  pub power_on : IsAtPowerOn n power
  pub starts : StartsFrom mmio first_fence first before power next memory iommu
  pub ready : IsReady next memory (registers_of iommu)
  pub unplugged : devices ≡ []
  pub quiet : fabric ≡ []

module _ (first_fence n levels : ℕ) (first next : DriverState) (before memory : List (List ℕ)) (power iommu : Iommu) (devices : List Device) (fabric : List OnLink)
    (started : IsStarted first_fence n levels first next before memory power iommu devices fabric) where
  abbrev parts : Parts
  parts = record { memory = memory; iommu = iommu; driver = next; devices = devices; fabric = fabric }

  long : length before ≡ n
  long = ap (λ m. length m) started.zeros ∙ length-replicate n zeroed

  pub memory_is : memory ≡ replicate n zeroed
  memory_is =
      started.starts.bytes ∙ ap (λ k. slice_set (with_word 4 before (completion_address k) 0) (directory_frame k) zeroed) long
      ∙ ap (λ m. slice_set (with_word 4 m (completion_address n) 0) (directory_frame n) zeroed) started.zeros ∙ zeros_started n started.size.0

  completed : completed_in memory ≡ 0
  completed = ap completed_in memory_is ∙ completed_zero n started.size.0

  driver_is : next ≡ record first { owners = opening_owners n; devices = []; levels = levels; started = true; given = 0; confirmed = 0; restarts = first_fence - 1; restarted = 0 }
  driver_is = started.starts.driver ∙ ap (λ (d : DriverState). record d { started = true; restarts = first_fence - 1 }) started.opening_driver.rest

  agrees : Agrees next.ledger []
  agrees = subst (λ d. Agrees d.ledger []) (sym started.starts.driver) started.opening_driver.ledger

  -- the registers after they were written
  abbrev writes : Registers → Registers
  writes r = written (written (written (written (written r Ddtp (ddtp_of (length before) first.levels)) Cqb (cqb_of (length before))) Cqcsr 1) Fqb (fqb_of (length before))) Fqcsr 1

  registers_are : registers_of iommu ≡ writes at_power_on
  registers_are = ap (λ i. registers_of i) started.starts.registers ∙ ap writes started.power_on.registers

  unmarked : IsUnmarked (registers_of iommu)
  unmarked = record {
    loaded = ap (λ (r : Registers). (command_status r).cqmf) registers_are;
    legal = ap (λ (r : Registers). (command_status r).cmd_ill) registers_are;
  }

  not_stopped : false ≡ (command_status (registers_of iommu)).cmd_to
  not_stopped = sym (ap (λ (r : Registers). (command_status r).cmd_to) registers_are)

  rows_none : (flights_of iommu).rows ≡ []
  rows_none = ap (λ i. (flights_of i).rows) started.starts.registers ∙ ap (λ f. f.rows) started.power_on.flights

  none_accepted : (flights_of iommu).so_far ≡ 0
  none_accepted = ap (λ i. (flights_of i).so_far) started.starts.registers ∙ ap (λ f. f.so_far) started.power_on.flights

  none_cached : (id : ℕ) → contexts_of iommu id ≡ None
  none_cached id = ap (λ i. contexts_of i id) started.starts.registers ∙ started.power_on.contexts id

  given_none : next.given ≡ 0
  given_none = ap (λ (d : DriverState). d.given) driver_is

  confirmed_none : next.confirmed ≡ 0
  confirmed_none = ap (λ (d : DriverState). d.confirmed) driver_is

  no_translation : (key : Key) (translation : Translation) → translations_of iommu key ≡ Some translation → ⊥
  no_translation key translation cached =
      let none : translations_of iommu key ≡ None = ap (λ i. translations_of i key) started.starts.registers ∙ started.power_on.translations key in
      let both : ◌≡◌ {A = Option Translation} None (Some translation) = sym none ∙ cached in cc

  none_counted : fence_snapshot_of iommu ≡ None
  none_counted =
      let one = written (registers_of power) Ddtp (ddtp_of (length before) first.levels) in
      let two = written one Cqb (cqb_of (length before)) in
      let three = written two Cqcsr 1 in
      let four = written three Fqb (fqb_of (length before)) in
      let five = written four Fqcsr 1 in
      ap fence_snapshot_of started.starts.registers
      ∙ none_still five (fence_snapshot_after four (fence_snapshot_after three (fence_snapshot_after two (fence_snapshot_after one (fence_snapshot_of power)))))
      (none_still four (fence_snapshot_after three (fence_snapshot_after two (fence_snapshot_after one (fence_snapshot_of power))))
      (none_still three (fence_snapshot_after two (fence_snapshot_after one (fence_snapshot_of power)))
      (none_still two (fence_snapshot_after one (fence_snapshot_of power)) (none_still one (fence_snapshot_of power) started.power_on.fence_snapshot))))

  none_open : slots_of iommu ≡ no_slots
  none_open =
      let one = written (registers_of power) Ddtp (ddtp_of (length before) first.levels) in
      let two = written one Cqb (cqb_of (length before)) in
      let three = written two Cqcsr 1 in
      let four = written three Fqb (fqb_of (length before)) in
      let five = written four Fqcsr 1 in
      ap slots_of started.starts.registers
      ∙ none_written (is_command_queue_on five) (slots_after four (slots_after three (slots_after two (slots_after one (slots_of power)))))
      (none_written (is_command_queue_on four) (slots_after three (slots_after two (slots_after one (slots_of power))))
      (none_written (is_command_queue_on three) (slots_after two (slots_after one (slots_of power)))
      (none_written (is_command_queue_on two) (slots_after one (slots_of power))
      (none_written (is_command_queue_on one) (slots_of power) started.power_on.slots))))

  scene_shows : IsSceneOf (values_of parts) (scene_after_fence (first_fence - 1))
  scene_shows = record {
    ledger = agrees;
    waiting = subst (λ l. AreQueuedAs (completion_address (length memory)) (space_at next.devices) l []) (sym started.starts.empty) tt;
    completed = sym completed;
    last_fence = sym (ap (λ (d : DriverState). last_fence d) driver_is ∙ omega arith);
    pending = sym (ap (pending_after (fence_of next) next.confirmed) {x = next.given - next.confirmed} {y = 0} (omega (arith, given_none)));
    given = sym given_none;
    confirmed = sym confirmed_none;
    accepted = sym none_accepted;
    in_flight = sym (ap accesses_of rows_none);
    kinds = λ id. sym (ap (λ (ds : List Device). kind_in ds id) started.unplugged);
    attachments = λ id. sym (ap (λ (d : DriverState). shown_attachment (attachment_by_id d.devices id)) driver_is);
    contexts = λ id is. absurd (false≢true (sym (ap is_some (none_cached id)) ∙ is));
    translations = λ key translation at. absurd (no_translation key translation at);
    fence_snapshot = rw none_counted tt;
    leaving = λ id. rw driver_is tt;
    traffic = sym (
        ap (λ (ds : List Device). traffic_of ds fabric (slots_of iommu)) started.unplugged
        ∙ ap (λ (ms : List OnLink). traffic_of [] ms (slots_of iommu)) started.quiet
        ∙ ap (traffic_of [] []) none_open);
    stopped = not_stopped;
  }

  no_context : (id : ℕ) (context : Context) → contexts_of iommu id ≡ Some context → ⊥
  no_context id context cached = let both : ◌≡◌ {A = Option Context} None (Some context) = sym (none_cached id) ∙ cached in cc

  pub sound_started : PartsInvariant parts 0
  sound_started = record {
    ready = started.ready;
    started = ap (λ (d : DriverState). d.started) started.starts.driver;
    unmarked = unmarked;
    size = ap frames_of started.starts.registers ∙ started.power_on.frames ∙ sym (ap (λ m. length m) memory_is ∙ length-replicate n zeroed);
    known = record {
      own_ids = λ j k one other at at' same. absurd (none_there j one (subst (λ ds. slice_get ds j ≡ Some one) started.unplugged at));
      driver = ap (λ (d : DriverState). known_ids d.devices) driver_is ∙ sym (ap plugged_ids started.unplugged);
      iommu = ap row_ids rows_none ∙ sym (ap plugged_ids started.unplugged);
      caches = rw started.unplugged (All-nil HasItsCache);
      askers = rw started.quiet (All-nil (HasAsker devices));
      trusted = λ id. ap (λ (d : DriverState). has_trusted_cache d.devices id) driver_is ∙ sym (ap (λ (ds : List Device). caches_translations (kind_in ds id)) started.unplugged);
    };
    serials = rw none_open (omega arith);
    epochs = λ id. rw started.unplugged (omega arith);
    small = rw given_none (omega arith);
    counted = rw none_accepted (omega arith);
    contexts = λ id context cached. absurd (no_context id context cached);
    copies = ∣ (scene_after_fence (first_fence - 1), scene_shows, record { copies = faithful_after_fence (first_fence - 1); standing = λ walk there. absurd (in_none walk there) }) ∣₁;
  }

  -- the IOMMU was at power-on, and was started since
  pub iommu_started : IsStartedIommu n levels iommu
  iommu_started = (
    power,
    started.power_on,
    started.starts.registers
        ∙ ap (λ k. turned_on mmio k (mmio.after power Ddtp (ddtp_of k first.levels))) long
        ∙ ap (λ (d : DriverState). turned_on mmio n (mmio.after power Ddtp (ddtp_of n d.levels))) started.opening_driver.rest,
  )

  -- the driver was new, and was started since
  pub driver_started : IsStartedDriver first_fence n levels next
  driver_started = (first, started.opening_driver, started.starts.driver)

  pub shows_started : (disks : List ℕ) → PartsShow parts (opening model_limits n levels disks)
  shows_started disks = record {
    ledger = agrees;
    frames = rw (memory_is, ap (λ (d : DriverState). d.owners) driver_is) (shows_frames n levels disks started.size);
    devices = rw started.unplugged refl;
    given = rw given_none refl;
    confirmed = rw confirmed_none refl;
    all_earlier = λ ticket above low. let none = confirmed_none in absurd (omega (arith, above, low, none));
    none_later = λ ticket later. refl;
    levels = rw (ap (λ (d : DriverState). d.levels) driver_is) refl;
    limits = refl;
  }
