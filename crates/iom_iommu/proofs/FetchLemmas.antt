-- What a fetch does to the list of the commands that wait, to the frames of memory and to the fault queue, and what a timeout does to that list
use Rattle.std.proofs.Common.{arith, not, ◌&&◌, ◌||◌, ◌≡◌, ◌≢◌, ◌+◌, ◌/◌, ◌%◌, ◌<◌, ◌≤◌, ◌∙◌, ℕ, Bool, true, false, List, [], ◌∷◌, length, slice_get, Option, Some, None, refl, sym, ap, subst, if◌then◌else◌}
use Rattle.std.proofs.lemmas.Bool.{true≢false}
use Rattle.std.specs.Prelude.{slice_set}
use Rattle.std.specs.Option.{option_map_or}
use Rattle.std.proofs.lemmas.List.{length-set}
use Rattle.byteorder.specs.Endian.{little_bytes}
use Rattle.iom_base.specs.Bytes.{with_bytes}
use Rattle.iom_phys_mem.specs.Words.{with_word}
use Rattle.iom_phys_mem.proofs.Stores.{frame_elsewhere}
use Rattle.iom_registers.specs.declared.registers.Registers.{Registers}
use Rattle.iom_registers.specs.Queues.{command_entries, command_base, command_head, command_tail, directory_mode, directory_root, is_command_queue_on, is_command_queue_stopped, is_processing_commands, with_command_done, with_fence_w_ip, with_cqmf, with_cmd_to, with_cmd_ill}
use Rattle.iom_command_queue.specs.declared.command.Command.{Command}
use Rattle.iom_command_queue.specs.declared.command.Command.TheVariants.{IotinvalVma, IotinvalGvma, IofenceC, IodirInvalDdt, AtsInval}
use Rattle.iom_command_queue.specs.declared.command.FenceStore.{FenceStore}
use Rattle.iom_command_queue.specs.declared.entry.QueueEntry.{QueueEntry}
use Rattle.iom_command_queue.specs.declared.entry.QueueEntry.TheVariants as stands
use Rattle.iom_command_queue.specs.OpenSlots.{OpenSlots}
use Rattle.iom_command_queue.specs.Waiting.{commands_in, first_entry, place_of}
use Rattle.iom_command_queue.proofs.Waits.{first_is, none_is, drops, stays_by_frames, same_ring}
use Rattle.iom_iommu.specs.declared.iommu.Iommu.{Iommu}
use Rattle.iom_iommu.specs.declared.fetched.Fetched.{Fetched}
use Rattle.iom_iommu.specs.declared.fetched.Fetched.TheVariants.{Did, Waiting, Empty, Stopped}
use Rattle.iom_tlb.specs.declared.trans_cache.TransCache.{Ghosts as Cache}
use Rattle.iom_iommu.specs.Parts.{registers_of, slots_of}
use Rattle.iom_iommu.specs.Timeouts.{TimesFenceOut}
use Rattle.iom_iommu.specs.Fetches.{counted_in, with_store, head_entry}
use Rattle.iom_iommu.specs.Effects.{slots_by, is_waiting_fence, after_fetched, fence_snapshot_at, waits_at, store_of, asks_for_interrupt, with_done, IsStoredIn, IsOffRing, WaitsAt, StopsAtEntry, StopsFetching, FetchesByAnswer, LeavesFaultQueue}

-- something stands at the head, so head and tail aren't the same
pub apart : (m : List (List ℕ)) (r : Registers) (entry : QueueEntry) → head_entry m r ≡ Some entry → command_head r ≢ command_tail r
apart m r entry found same = let e = sym (none_is m r same) ∙ found in cc

some_of : {A : Type 0} (x y : A) → Some x ≡ Some y → x ≡ y
some_of x y e = cc

first_of : (m : List (List ℕ)) (r : Registers) (entry : QueueEntry) → head_entry m r ≡ Some entry → first_entry m r ≡ entry
first_of m r entry found = some_of (first_entry m r) entry (sym (first_is m r (apart m r entry found)) ∙ found)

-- memory with a word, by whether there is a frame for it
word_elsewhere : (n value address k : ℕ) (m : List (List ℕ)) → k ≢ address / 4096 → slice_get (with_word n m address value) k ≡ slice_get m k
unfolding with_word
word_elsewhere n value address k m ne = by (slice_get m (address / 4096)) where
  by : (o : Option (List ℕ)) → slice_get (option_map_or (λ frame. slice_set m (address / 4096) (with_bytes frame (address % 4096) (little_bytes n value))) o m) k ≡ slice_get m k
  by None = refl
  by (Some frame) = frame_elsewhere m (address / 4096) k (with_bytes frame (address % 4096) (little_bytes n value)) ne

word_length : (n value address : ℕ) (m : List (List ℕ)) → length (with_word n m address value) ≡ length m
unfolding with_word
word_length n value address m = by (slice_get m (address / 4096)) where
  by : (o : Option (List ℕ)) → length (option_map_or (λ frame. slice_set m (address / 4096) (with_bytes frame (address % 4096) (little_bytes n value))) o m) ≡ length m
  by None = refl
  by (Some frame) = length-set m (address / 4096) (with_bytes frame (address % 4096) (little_bytes n value))

pub store_elsewhere : (m : List (List ℕ)) (store : Option FenceStore) (k : ℕ) → ¬ IsStoredIn store k → slice_get (with_store m store) k ≡ slice_get m k
store_elsewhere m None k ne = refl
store_elsewhere m (Some store) k ne = word_elsewhere 4 store.data store.address k m ne

pub store_length : (m : List (List ℕ)) (store : Option FenceStore) → length (with_store m store) ≡ length m
store_length m None = refl
store_length m (Some store) = word_length 4 store.data store.address m

-- THE FRAMES that no word was stored in
pub leaves_frames : {C : Type 0} {c : Cache C} (m n : List (List ℕ)) (i j : Iommu C c) (command : Command) → FetchesByAnswer m i (Did command) n j
    → ((k : ℕ) → ¬ IsStoredIn (store_of command) k → slice_get n k ≡ slice_get m k) × (length n ≡ length m)
leaves_frames m n i j command f = (
  (λ k ne. ap (λ x. slice_get x k) f.4 ∙ store_elsewhere m (store_of command) k ne),
  ap (λ x. length x) f.4 ∙ store_length m (store_of command),
)

-- the bits of cqcsr and ipsr leave the list
fence_list : (m : List (List ℕ)) (r : Registers) (asks : Bool) → commands_in m (if asks then with_fence_w_ip r else r) ≡ commands_in m r
fence_list m r true = same_ring m (with_fence_w_ip r) r refl refl refl refl
fence_list m r false = refl

stop_at_list : {C : Type 0} {c : Cache C} (m : List (List ℕ)) (entry : Option QueueEntry) (i j : Iommu C c) → StopsAtEntry m entry i j
    → commands_in m (registers_of j) ≡ commands_in m (registers_of i)
stop_at_list m None i j s = absurd s
stop_at_list m (Some stands.Outside) i j s = ap (λ x. commands_in m (registers_of x)) s ∙ same_ring m (with_cqmf (registers_of i)) (registers_of i) refl refl refl refl
stop_at_list m (Some (stands.Illegal reason)) i j s = ap (λ x. commands_in m (registers_of x)) s ∙ same_ring m (with_cmd_ill (registers_of i)) (registers_of i) refl refl refl refl
stop_at_list m (Some (stands.Command command)) i j s = ap (λ x. commands_in m (registers_of x)) s.2 ∙ same_ring m (with_cqmf (registers_of i)) (registers_of i) refl refl refl refl

stop_list : {C : Type 0} {c : Cache C} (on : Bool) (m : List (List ℕ)) (i j : Iommu C c) → StopsFetching on m i j → commands_in m (registers_of j) ≡ commands_in m (registers_of i)
stop_list false m i j s = ap (λ x. commands_in m (registers_of x)) s
stop_list true m i j s = stop_at_list m (head_entry m (registers_of i)) i j s

-- THE FIRST is taken, and the rest stays
pub takes_first : {C : Type 0} {c : Cache C} (m n : List (List ℕ)) (i j : Iommu C c) (command : Command) → FetchesByAnswer m i (Did command) n j
    → IsOffRing (registers_of i) (store_of command) → commands_in m (registers_of i) ≡ stands.Command command ∷ commands_in n (registers_of j)
takes_first m n i j command f off =
    let r = registers_of i in let done = with_command_done r in
    let alike : (k : ℕ) → k < command_entries done → slice_get n (place_of done k / 4096) ≡ slice_get m (place_of done k / 4096)
    = λ k lt. ap (λ x. slice_get x (place_of r k / 4096)) f.4 ∙ store_elsewhere m (store_of command) (place_of r k / 4096) (off k lt) in
    drops m r (apart m r (stands.Command command) f.1)
    ∙ ap (λ x. x ∷ commands_in m done) (first_of m r (stands.Command command) f.1)
    ∙ ap (λ xs. stands.Command command ∷ xs) (sym (stays_by_frames m n done alike) ∙ sym (fence_list n done (asks_for_interrupt command)) ∙ sym (ap (λ x. commands_in n x) f.5.registers))

-- any other answer leaves memory, and the list
pub leaves_memory : {C : Type 0} {c : Cache C} (m n : List (List ℕ)) (i j : Iommu C c) (answer : Fetched) → FetchesByAnswer m i answer n j
    → ((command : Command) → ¬ (answer ≡ Did command)) → n ≡ m
leaves_memory m n i j (Did command) f not_done = absurd (not_done command refl)
leaves_memory m n i j Waiting f not_done = f.2
leaves_memory m n i j Empty f not_done = f.2
leaves_memory m n i j Stopped f not_done = f.1

pub leaves_list : {C : Type 0} {c : Cache C} (m n : List (List ℕ)) (i j : Iommu C c) (answer : Fetched) → FetchesByAnswer m i answer n j
    → ((command : Command) → ¬ (answer ≡ Did command)) → commands_in n (registers_of j) ≡ commands_in m (registers_of i)
leaves_list m n i j (Did command) f not_done = absurd (not_done command refl)
leaves_list m n i j Waiting f not_done = ap (λ x. commands_in x (registers_of j)) f.2 ∙ ap (λ x. commands_in m (registers_of x)) f.3
leaves_list m n i j Empty f not_done = ap (λ x. commands_in x (registers_of j)) f.2 ∙ ap (λ x. commands_in m (registers_of x)) f.3
leaves_list m n i j Stopped f not_done =
    ap (λ x. commands_in x (registers_of j)) f.1 ∙ stop_list (is_processing_commands (registers_of i)) m i j f.0

-- A TIMEOUT leaves the list
pub timeout_list : {C : Type 0} {c : Cache C} (m : List (List ℕ)) (i j : Iommu C c) → TimesFenceOut i true j → commands_in m (registers_of j) ≡ commands_in m (registers_of i)
timeout_list m i j t = ap (λ x. commands_in m (registers_of x)) t.1 ∙ same_ring m (with_cmd_to (registers_of i)) (registers_of i) refl refl refl refl

none_first : (xs : List QueueEntry) → slice_get xs 0 ≡ None → xs ≡ []
none_first [] e = refl
none_first (x ∷ xs) e = cc

-- nothing that stands at the head makes a command wait, or stops, where nothing stands there
none_waits : {C : Type 0} {c : Cache C} (m : List (List ℕ)) (i : Iommu C c) → head_entry m (registers_of i) ≡ None → ¬ WaitsAt (head_entry m (registers_of i)) i
none_waits m i none w = subst (λ entry. WaitsAt entry i) none w

none_stops : {C : Type 0} {c : Cache C} (m : List (List ℕ)) (on : Bool) (i j : Iommu C c) → on ≡ true → head_entry m (registers_of i) ≡ None → ¬ StopsFetching on m i j
none_stops m on i j is_on none s = subst (λ entry. StopsAtEntry m entry i j) none (subst (λ b. StopsFetching b m i j) is_on s)

-- EMPTY exactly where processing is on and nothing waits
pub empty_then : {C : Type 0} {c : Cache C} (m n : List (List ℕ)) (i j : Iommu C c) (answer : Fetched) → FetchesByAnswer m i answer n j
    → answer ≡ Empty → (is_processing_commands (registers_of i) ≡ true) × (commands_in m (registers_of i) ≡ [])
empty_then m n i j (Did command) f e = cc
empty_then m n i j Waiting f e = cc
empty_then m n i j Empty f e = (f.0, none_first (commands_in m (registers_of i)) f.1)
empty_then m n i j Stopped f e = cc

pub empty_where : {C : Type 0} {c : Cache C} (m n : List (List ℕ)) (i j : Iommu C c) (answer : Fetched) → FetchesByAnswer m i answer n j
    → (is_processing_commands (registers_of i) ≡ true) × (commands_in m (registers_of i) ≡ []) → answer ≡ Empty
empty_where m n i j (Did command) f p = let e = sym (ap (λ xs. slice_get xs 0) p.1) ∙ f.1 in cc
empty_where m n i j Waiting f p = absurd (none_waits m i (ap (λ xs. slice_get xs 0) p.1) f.1)
empty_where m n i j Empty f p = refl
empty_where m n i j Stopped f p =
    absurd (none_stops m (is_processing_commands (registers_of i)) i j p.0 (ap (λ xs. slice_get xs 0) p.1) f.0)

-- WHAT A FETCH DOES TO REGISTERS: nothing, or a command is done, or one of two bits stops the processing. So what holds of these holds of each
module _ (Leaves : Registers → Registers → Type 0) (same : (r : Registers) → Leaves r r) (done : (r : Registers) (command : Command) → Leaves r (with_done r command))
    (unloaded : (r : Registers) → Leaves r (with_cqmf r)) (illegal : (r : Registers) → Leaves r (with_cmd_ill r)) where
  module _ {C : Type 0} {c : Cache C} (m n : List (List ℕ)) (i j : Iommu C c) where
    leaves_as : (r : Registers) → registers_of j ≡ r → Leaves (registers_of i) r → Leaves (registers_of i) (registers_of j)
    leaves_as r is leaves = subst (Leaves (registers_of i)) (sym is) leaves

    stop_at_leaves : (entry : Option QueueEntry) → StopsAtEntry m entry i j → Leaves (registers_of i) (registers_of j)
    stop_at_leaves None s = absurd s
    stop_at_leaves (Some stands.Outside) s = leaves_as _ (ap registers_of s) (unloaded (registers_of i))
    stop_at_leaves (Some (stands.Illegal reason)) s = leaves_as _ (ap registers_of s) (illegal (registers_of i))
    stop_at_leaves (Some (stands.Command command)) s = leaves_as _ (ap registers_of s.2) (unloaded (registers_of i))

    stop_leaves : (on : Bool) → StopsFetching on m i j → Leaves (registers_of i) (registers_of j)
    stop_leaves false s = leaves_as _ (ap registers_of s) (same (registers_of i))
    stop_leaves true s = stop_at_leaves (head_entry m (registers_of i)) s

    fetch_leaves : (answer : Fetched) → FetchesByAnswer m i answer n j → Leaves (registers_of i) (registers_of j)
    fetch_leaves (Did command) f = leaves_as _ f.5.registers (done (registers_of i) command)
    fetch_leaves Waiting f = leaves_as _ (ap registers_of f.3) (same (registers_of i))
    fetch_leaves Empty f = leaves_as _ (ap registers_of f.3) (same (registers_of i))
    fetch_leaves Stopped f = stop_leaves (is_processing_commands (registers_of i)) f.0

-- THE FAULT QUEUE stays
done_leaves : (r : Registers) (command : Command) → LeavesFaultQueue r (with_done r command)
done_leaves r command = by (asks_for_interrupt command)
  where
    by : (asks : Bool) → LeavesFaultQueue r (if asks then with_fence_w_ip (with_command_done r) else with_command_done r)
    by true = (refl, refl, refl, refl)
    by false = (refl, refl, refl, refl)

pub leaves_fault_queue : {C : Type 0} {c : Cache C} (m n : List (List ℕ)) (i j : Iommu C c) (answer : Fetched) → FetchesByAnswer m i answer n j
    → LeavesFaultQueue (registers_of i) (registers_of j)
leaves_fault_queue m n i j answer f = fetch_leaves LeavesFaultQueue (λ r. (refl, refl, refl, refl)) done_leaves (λ r. (refl, refl, refl, refl)) (λ r. (refl, refl, refl, refl)) m n i j answer f

-- WHAT SOFTWARE SET UP stays: where the queue lies and ends, whether it is on, and the directory
abbrev pub LeavesSetup : Registers → Registers → Type 0
LeavesSetup old new =
    (command_base new ≡ command_base old) × (command_entries new ≡ command_entries old) × (command_tail new ≡ command_tail old)
    × (is_command_queue_on new ≡ is_command_queue_on old) × (directory_mode new ≡ directory_mode old) × (directory_root new ≡ directory_root old)

done_keeps_setup : (r : Registers) (command : Command) → LeavesSetup r (with_done r command)
done_keeps_setup r command = by (asks_for_interrupt command)
  where
    by : (asks : Bool) → LeavesSetup r (if asks then with_fence_w_ip (with_command_done r) else with_command_done r)
    by true = (refl, refl, refl, refl, refl, refl)
    by false = (refl, refl, refl, refl, refl, refl)

pub leaves_setup : {C : Type 0} {c : Cache C} (m n : List (List ℕ)) (i j : Iommu C c) (answer : Fetched) → FetchesByAnswer m i answer n j → LeavesSetup (registers_of i) (registers_of j)
leaves_setup m n i j answer f =
    fetch_leaves LeavesSetup (λ r. (refl, refl, refl, refl, refl, refl)) done_keeps_setup (λ r. (refl, refl, refl, refl, refl, refl)) (λ r. (refl, refl, refl, refl, refl, refl)) m n i j answer f

-- ONE NUMBER at most is given to an invalidation request
last_by : (command : Command) (slots : OpenSlots) → (slots_by command slots).last ≤ slots.last + 1
last_by (IotinvalVma gscid pscid page) slots = omega arith
last_by (IotinvalGvma gscid page) slots = omega arith
last_by (IofenceC store wsi pr pw) slots = omega arith
last_by (IodirInvalDdt device) slots = omega arith
last_by (AtsInval device range) slots = omega arith

module _ {C : Type 0} {c : Cache C} (m : List (List ℕ)) (i j : Iommu C c) where
  same_last : j ≡ i → (slots_of j).last ≤ (slots_of i).last + 1
  same_last left = subst (λ x. (slots_of x).last ≤ (slots_of i).last + 1) (sym left) (omega arith)

  fetched_last : (r : Registers) (fence_snapshot : Option ℕ) (waits : Bool) → j ≡ after_fetched i r fence_snapshot waits → (slots_of j).last ≤ (slots_of i).last + 1
  fetched_last r fence_snapshot waits left = subst (λ x. (slots_of x).last ≤ (slots_of i).last + 1) (sym left) (omega arith)

  stops_at_last : (entry : Option QueueEntry) → StopsAtEntry m entry i j → (slots_of j).last ≤ (slots_of i).last + 1
  stops_at_last None s = absurd s
  stops_at_last (Some stands.Outside) s = fetched_last (with_cqmf (registers_of i)) None false s
  stops_at_last (Some (stands.Illegal reason)) s = fetched_last (with_cmd_ill (registers_of i)) None false s
  stops_at_last (Some (stands.Command command)) s =
      fetched_last (with_cqmf (registers_of i)) (Some (counted_in i)) (is_waiting_fence command (slots_of i)) s.2

  stops_last : (on : Bool) → StopsFetching on m i j → (slots_of j).last ≤ (slots_of i).last + 1
  stops_last true s = stops_at_last (head_entry m (registers_of i)) s
  stops_last false s = same_last s

  pub opens_one : (n : List (List ℕ)) (answer : Fetched) → FetchesByAnswer m i answer n j → (slots_of j).last ≤ (slots_of i).last + 1
  opens_one n (Did command) f = subst (λ x. x.last ≤ (slots_of i).last + 1) (sym f.5.slots) (last_by command (slots_of i))
  opens_one n Waiting f =
      fetched_last (registers_of i) (fence_snapshot_at (head_entry m (registers_of i)) i) (waits_at (head_entry m (registers_of i)) i) f.3
  opens_one n Empty f = fetched_last (registers_of i) None false f.3
  opens_one n Stopped f = stops_last (is_processing_commands (registers_of i)) f.0

-- STOPPED exactly where commands aren't processed afterwards
done_goes_on : (r : Registers) (asks : Bool) → is_processing_commands (if asks then with_fence_w_ip (with_command_done r) else with_command_done r) ≡ is_processing_commands r
done_goes_on r true = refl
done_goes_on r false = refl

and_not : (one other : Bool) → other ≡ true → (one && not other) ≡ false
and_not true other is = ap not is
and_not false other is = refl

last_true : (before : Bool) → (before || true) ≡ true
last_true true = refl
last_true false = refl

halted_by_load : (r : Registers) → is_processing_commands (with_cqmf r) ≡ false
halted_by_load r = and_not (is_command_queue_on r) true refl

halted_as_illegal : (r : Registers) → is_processing_commands (with_cmd_ill r) ≡ false
halted_as_illegal r = and_not (is_command_queue_on r) (is_command_queue_stopped (with_cmd_ill r)) (last_true (r.cqcsr.cqmf || r.cqcsr.cmd_to))

module _ {C : Type 0} {c : Cache C} (m n : List (List ℕ)) (i j : Iommu C c) where
  goes_on : (r : Registers) → registers_of j ≡ r → is_processing_commands r ≡ is_processing_commands (registers_of i) → is_processing_commands (registers_of i) ≡ true → is_processing_commands (registers_of j) ≡ true
  goes_on r is same on = ap is_processing_commands is ∙ same ∙ on

  halts_at : (entry : Option QueueEntry) → StopsAtEntry m entry i j → is_processing_commands (registers_of j) ≡ false
  halts_at None s = absurd s
  halts_at (Some stands.Outside) s = ap (λ x. is_processing_commands (registers_of x)) s ∙ halted_by_load (registers_of i)
  halts_at (Some (stands.Illegal reason)) s = ap (λ x. is_processing_commands (registers_of x)) s ∙ halted_as_illegal (registers_of i)
  halts_at (Some (stands.Command command)) s = ap (λ x. is_processing_commands (registers_of x)) s.2 ∙ halted_by_load (registers_of i)

  halts : (on : Bool) → is_processing_commands (registers_of i) ≡ on → StopsFetching on m i j → is_processing_commands (registers_of j) ≡ false
  halts true so s = halts_at (head_entry m (registers_of i)) s
  halts false so s = ap (λ x. is_processing_commands (registers_of x)) s ∙ so

  -- whether it goes on after each answer
  abbrev AreProcessed : Fetched → Type 0
  AreProcessed (Did command) = is_processing_commands (registers_of j) ≡ true
  AreProcessed Waiting = is_processing_commands (registers_of j) ≡ true
  AreProcessed Empty = is_processing_commands (registers_of j) ≡ true
  AreProcessed Stopped = is_processing_commands (registers_of j) ≡ false

  are_processed : (answer : Fetched) → FetchesByAnswer m i answer n j → AreProcessed answer
  are_processed (Did command) f = goes_on _ f.5.registers (done_goes_on (registers_of i) (asks_for_interrupt command)) f.0
  are_processed Waiting f = goes_on _ (ap registers_of f.3) refl f.0
  are_processed Empty f = goes_on _ (ap registers_of f.3) refl f.0
  are_processed Stopped f = halts (is_processing_commands (registers_of i)) refl f.0

  pub stopped_then : (answer : Fetched) → FetchesByAnswer m i answer n j → answer ≡ Stopped → is_processing_commands (registers_of j) ≡ false
  stopped_then answer f is = subst AreProcessed is (are_processed answer f)

  pub stopped_where : (answer : Fetched) → FetchesByAnswer m i answer n j → is_processing_commands (registers_of j) ≡ false → answer ≡ Stopped
  stopped_where (Did command) f off = absurd (true≢false (sym (are_processed (Did command) f) ∙ off))
  stopped_where Waiting f off = absurd (true≢false (sym (are_processed Waiting f) ∙ off))
  stopped_where Empty f off = absurd (true≢false (sym (are_processed Empty f) ∙ off))
  stopped_where Stopped f off = refl

-- the same of whether it hadn't before
pub nothing_stopped : {C : Type 0} {c : Cache C} (m n : List (List ℕ)) (i j : Iommu C c) (answer : Fetched) → FetchesByAnswer m i answer n j
    → is_processing_commands (registers_of i) ≡ false → (answer ≡ Stopped) × (n ≡ m) × (j ≡ i)
nothing_stopped m n i j (Did command) f off = absurd (true≢false (sym f.0 ∙ off))
nothing_stopped m n i j Waiting f off = absurd (true≢false (sym f.0 ∙ off))
nothing_stopped m n i j Empty f off = absurd (true≢false (sym f.0 ∙ off))
nothing_stopped m n i j Stopped f off = (refl, f.1, subst (λ b. StopsFetching b m i j) off f.0)
