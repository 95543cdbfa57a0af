-- What a fetch does, by what it answers; and of a command effect by effect.
use Rattle.std.proofs.Common.{inl, inr, ◌≡◌, ◌||◌, ◌∙◌, ℕ, Bool, true, false, List, Option, Some, None, refl, sym, ap, subst, if◌then◌else◌}
use Rattle.iom_registers.specs.Queues.{is_processing_commands, with_cqmf, with_cmd_ill}
use Rattle.iom_command_queue.specs.OpenSlots.{with_next}
use Rattle.iom_command_queue.specs.declared.command.AtsRange.{AtsRange}
use Rattle.iom_command_queue.specs.declared.command.Command.{Command}
use Rattle.iom_command_queue.specs.declared.command.Command.TheVariants.{IotinvalVma, IotinvalGvma, IofenceC, IodirInvalDdt, AtsInval}
use Rattle.iom_command_queue.specs.declared.command.FenceStore.{FenceStore}
use Rattle.iom_command_queue.specs.declared.entry.QueueEntry.{QueueEntry}
use Rattle.iom_command_queue.specs.declared.entry.QueueEntry.TheVariants as stands
use Rattle.iom_tlb.specs.declared.trans_cache.TransCache.{Ghosts as Cache}
use Rattle.iom_tlb.specs.declared.trans_cache.Translation.{Translation}
use Rattle.iom_tlb.specs.Content.{left_by}
use Rattle.iom_tlb.specs.Invalidations.{vma_covers, gvma_covers}
use Rattle.iom_iommu.specs.declared.iommu.Iommu.{Iommu}
use Rattle.iom_iommu.specs.declared.fetched.Fetched.{Fetched}
use Rattle.iom_iommu.specs.declared.fetched.Fetched.TheVariants.{Did, Waiting, Empty, Stopped}
use Rattle.iom_iommu.specs.Parts.{registers_of, contexts_of, translations_of, flights_of, fence_snapshot_of, waits_of, slots_of, frames_of}
use Rattle.iom_iommu.specs.Fetches.{head_entry, counted_in, has_open, are_full, waits_with, after_command, with_interrupt, InvalidatesTranslations, InvalidatesContexts, EndsFence, FencesBy, OpensRequest, ExecutesCommand, FetchesFrom, FetchesCommand}
use Rattle.iom_iommu.specs.Effects.{is_held_back, IsLeft, WaitsAt, StopsAtEntry, StopsFetching, after_fetched, fence_snapshot_at, waits_at, FetchesByAnswer}

-- a drop of nothing leaves what was there
none_out : (was : Option Translation) → was ≡ left_by (λ t. false) was
none_out None = refl
none_out (Some t) = refl

module _ {C : Type 0} {c : Cache C} (m n : List (List ℕ)) (i j : Iommu C c) where
  -- WHAT A COMMAND LEAVES once it is done
  vma_left : (gscid pscid page : Option ℕ) → InvalidatesTranslations (vma_covers gscid pscid page) i j → IsLeft (IotinvalVma gscid pscid page) i j
  vma_left gscid pscid page is = record {
    registers = ap registers_of is.rest;
    contexts = λ key. ap (λ x. contexts_of x key) is.rest;
    translations = is.dropped;
    fence_snapshot = ap fence_snapshot_of is.rest;
    waits = ap waits_of is.rest;
    slots = ap slots_of is.rest;
    flights = ap flights_of is.rest;
    frames = ap frames_of is.rest;
  }

  gvma_left : (gscid page : Option ℕ) → InvalidatesTranslations (gvma_covers gscid page) i j → IsLeft (IotinvalGvma gscid page) i j
  gvma_left gscid page is = record {
    registers = ap registers_of is.rest;
    contexts = λ key. ap (λ x. contexts_of x key) is.rest;
    translations = is.dropped;
    fence_snapshot = ap fence_snapshot_of is.rest;
    waits = ap waits_of is.rest;
    slots = ap slots_of is.rest;
    flights = ap flights_of is.rest;
    frames = ap frames_of is.rest;
  }

  contexts_left : (device : Option ℕ) → InvalidatesContexts device i j → IsLeft (IodirInvalDdt device) i j
  contexts_left device is = record {
    registers = ap registers_of is.rest;
    contexts = is.dropped;
    translations = λ key. ap (λ x. translations_of x key) is.rest ∙ none_out (translations_of i key);
    fence_snapshot = ap fence_snapshot_of is.rest;
    waits = ap waits_of is.rest;
    slots = ap slots_of is.rest;
    flights = ap flights_of is.rest;
    frames = ap frames_of is.rest;
  }

  fence_left : (store : Option FenceStore) (wsi pr pw : Bool) → j ≡ with_interrupt wsi (after_command i) → IsLeft (IofenceC store wsi pr pw) i j
  fence_left store wsi pr pw is = record {
    registers = ap registers_of is;
    contexts = λ key. ap (λ x. contexts_of x key) is;
    translations = λ key. ap (λ x. translations_of x key) is ∙ none_out (translations_of i key);
    fence_snapshot = ap fence_snapshot_of is;
    waits = ap waits_of is;
    slots = ap slots_of is;
    flights = ap flights_of is;
    frames = ap frames_of is;
  }

  request_left : (device : ℕ) (range : AtsRange) → j ≡ record (after_command i) { slots = with_next (slots_of i) device } → IsLeft (AtsInval device range) i j
  request_left device range is = record {
    registers = ap registers_of is;
    contexts = λ key. ap (λ x. contexts_of x key) is;
    translations = λ key. ap (λ x. translations_of x key) is ∙ none_out (translations_of i key);
    fence_snapshot = ap fence_snapshot_of is;
    waits = ap waits_of is;
    slots = ap slots_of is;
    flights = ap flights_of is;
    frames = ap frames_of is;
  }

  module _ (on : is_processing_commands (registers_of i) ≡ true) where
    -- a command that waits
    waits : (command : Command) (snapshot : Option ℕ) (waiting : Bool) → head_entry m (registers_of i) ≡ Some (stands.Command command) → is_held_back command i ≡ true → n ≡ m
        → snapshot ≡ fence_snapshot_at (Some (stands.Command command)) i → waiting ≡ waits_at (Some (stands.Command command)) i
        → j ≡ after_fetched i (registers_of i) snapshot waiting → FetchesByAnswer m i Waiting n j
    waits command snapshot waiting at held memory counted so is = (
      on,
      subst (λ entry. WaitsAt entry i) (sym at) held,
      memory,
      is ∙ ap (λ x. after_fetched i (registers_of i) x waiting) (counted ∙ sym (ap (λ entry. fence_snapshot_at entry i) at))
          ∙ ap (λ x. after_fetched i (registers_of i) (fence_snapshot_at (head_entry m (registers_of i)) i) x) (so ∙ sym (ap (λ entry. waits_at entry i) at)),
    )

    -- what stands at the head stops the processing
    stops : (entry : QueueEntry) → head_entry m (registers_of i) ≡ Some entry → n ≡ m → StopsAtEntry m (Some entry) i j → FetchesByAnswer m i Stopped n j
    stops entry at memory is = (subst (λ b. StopsFetching b m i j) (sym on) (subst (λ e. StopsAtEntry m e i j) (sym at) is), memory)

    module _ (answer : Fetched) where
      ends : (store : Option FenceStore) (wsi pr pw : Bool) → head_entry m (registers_of i) ≡ Some (stands.Command (IofenceC store wsi pr pw)) → has_open (slots_of i) ≡ false
          → is_held_back (IofenceC store wsi pr pw) i ≡ false → EndsFence store wsi pr pw m i answer n j → FetchesByAnswer m i answer n j
      ends store wsi pr pw at none free is = elim is [
        | inl (same, stored, goes) ↦ subst (λ a. FetchesByAnswer m i a n j) (sym same) (on, at, free, stored.0, stored.1, fence_left store wsi pr pw goes)
        | inr (same, stored, halts) ↦ subst (λ a. FetchesByAnswer m i a n j) (sym same)
            (stops (stands.Command (IofenceC store wsi pr pw)) at stored.1 (free, stored.0, halts ∙ ap (λ b. after_fetched i (with_cqmf (registers_of i)) (Some (counted_in i)) b) (sym none)))
      ]

      fenced : (store : Option FenceStore) (wsi pr pw requests accesses : Bool) → head_entry m (registers_of i) ≡ Some (stands.Command (IofenceC store wsi pr pw))
          → has_open (slots_of i) ≡ requests → waits_with pr pw (flights_of i) (counted_in i) ≡ accesses → FencesBy requests accesses store wsi pr pw m i answer n j → FetchesByAnswer m i answer n j
      fenced store wsi pr pw true accesses at some so (same, memory, is) = subst (λ a. FetchesByAnswer m i a n j) (sym same)
          (waits (IofenceC store wsi pr pw) (fence_snapshot_of i) true at (ap (λ b. b || waits_with pr pw (flights_of i) (counted_in i)) some) memory
          (sym (ap (λ b. if b then fence_snapshot_of i else Some (counted_in i)) some)) (sym some) is)
      fenced store wsi pr pw false true at none so (same, memory, is) = subst (λ a. FetchesByAnswer m i a n j) (sym same)
          (waits (IofenceC store wsi pr pw) (Some (counted_in i)) false at (ap (λ b. b || waits_with pr pw (flights_of i) (counted_in i)) none ∙ so) memory
          (sym (ap (λ b. if b then fence_snapshot_of i else Some (counted_in i)) none)) (sym none) is)
      fenced store wsi pr pw false false at none so is =
          ends store wsi pr pw at none (ap (λ b. b || waits_with pr pw (flights_of i) (counted_in i)) none ∙ so) is

      opened : (device : ℕ) (range : AtsRange) (opens : Bool) → head_entry m (registers_of i) ≡ Some (stands.Command (AtsInval device range))
          → answer ≡ (if opens then Did (AtsInval device range) else Waiting) → n ≡ m → OpensRequest (are_full (slots_of i)) device i opens j → FetchesByAnswer m i answer n j
      opened device range true at same memory (free, is) =
          subst (λ a. FetchesByAnswer m i a n j) (sym same) (on, at, ap (λ b. b || false) free, tt, memory, request_left device range is)
      opened device range false at same memory (full, is) = subst (λ a. FetchesByAnswer m i a n j) (sym same)
          (waits (AtsInval device range) (fence_snapshot_of i) false at (ap (λ b. b || false) full) memory
          (sym (ap (λ b. if b then fence_snapshot_of i else Some (counted_in i)) full)) refl is)

      took : (command : Command) → head_entry m (registers_of i) ≡ Some (stands.Command command) → ExecutesCommand command m i answer n j → FetchesByAnswer m i answer n j
      took (IotinvalVma gscid pscid page) at (same, memory, is) = subst (λ a. FetchesByAnswer m i a n j) (sym same) (on, at, refl, tt, memory, vma_left gscid pscid page is)
      took (IotinvalGvma gscid page) at (same, memory, is) = subst (λ a. FetchesByAnswer m i a n j) (sym same) (on, at, refl, tt, memory, gvma_left gscid page is)
      took (IofenceC store wsi pr pw) at is = fenced store wsi pr pw (has_open (slots_of i)) (waits_with pr pw (flights_of i) (counted_in i)) at refl refl is
      took (IodirInvalDdt device) at (same, memory, is) = subst (λ a. FetchesByAnswer m i a n j) (sym same) (on, at, refl, tt, memory, contexts_left device is)
      took (AtsInval device range) at (opens, same, memory, is) = opened device range opens at same memory is

  fetched : (answer : Fetched) (on : Bool) (entry : Option QueueEntry) → is_processing_commands (registers_of i) ≡ on → head_entry m (registers_of i) ≡ entry
      → FetchesFrom on entry m i answer n j → FetchesByAnswer m i answer n j
  fetched answer false entry off at (same, memory, is) = subst (λ a. FetchesByAnswer m i a n j) (sym same) (subst (λ b. StopsFetching b m i j) (sym off) is, memory)
  fetched answer true None on at (same, memory, is) = subst (λ a. FetchesByAnswer m i a n j) (sym same) (on, at, memory, is)
  fetched answer true (Some stands.Outside) on at (same, memory, is) = subst (λ a. FetchesByAnswer m i a n j) (sym same) (stops on stands.Outside at memory is)
  fetched answer true (Some (stands.Illegal reason)) on at (same, memory, is) = subst (λ a. FetchesByAnswer m i a n j) (sym same) (stops on (stands.Illegal reason) at memory is)
  fetched answer true (Some (stands.Command command)) on at is = took on answer command at is

  -- A FETCH, by its answer
  pub by_answer : (answer : Fetched) → FetchesCommand m i answer n j → FetchesByAnswer m i answer n j
  by_answer answer is = fetched answer (is_processing_commands (registers_of i)) (head_entry m (registers_of i)) refl refl is
