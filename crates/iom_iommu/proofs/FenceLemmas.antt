-- What a fence does, and whatever else stands at the head: by whether requests are open, and accesses in flight.
use Rattle.std.proofs.Common.{◌≡◌, ◌==◌, ◌∙◌, ℕ, Bool, true, false, not, List, [], ◌∷◌, length, Option, refl, sym, ap, subst}
use Rattle.std.proofs.Math.Dec.{eqb-suc-zero}
use Rattle.iom_registers.specs.declared.registers.Registers.{Registers}
use Rattle.iom_registers.specs.Queues.{is_processing_commands}
use Rattle.iom_command_queue.specs.declared.command.FenceStore.{FenceStore}
use Rattle.iom_command_queue.specs.declared.entry.QueueEntry.{QueueEntry}
use Rattle.iom_command_queue.specs.declared.slot.Slot.{Slot}
use Rattle.iom_command_queue.specs.OpenSlots.{OpenSlots}
use Rattle.iom_inflight.specs.Invariant.{AreRowsIn}
use Rattle.iom_inflight.specs.IsFact.{rows_in_prop}
use Rattle.iom_tlb.specs.declared.trans_cache.TransCache.{Ghosts as Cache}
use Rattle.iom_iommu.specs.declared.iommu.Iommu.{Iommu}
use Rattle.iom_iommu.specs.declared.fetched.Fetched.{Fetched}
use Rattle.iom_iommu.specs.Cached.{AreTranslationsIn, translations_in_prop}
use Rattle.iom_iommu.specs.Parts.{registers_of, flights_of, slots_of}
use Rattle.iom_iommu.specs.Fetches.{head_entry, counted_in, has_open, waits_with, FencesBy, Fences, FetchesFrom, FetchesCommand}

some_there : (slots : List Slot) → (slots ≡ [] → false ≡ true) → not (length slots == 0) ≡ true
some_there [] some = absurd (let e = some refl in cc)
some_there (slot ∷ slots) some = ap not (eqb-suc-zero (length slots))

pub some_open : (slots : OpenSlots) → (slots.open_slots ≡ [] → false ≡ true) → has_open slots ≡ true
some_open slots some = some_there slots.open_slots some

pub none_open : (slots : OpenSlots) → slots.open_slots ≡ [] → has_open slots ≡ false
none_open slots none = ap (λ (s : List Slot). not (length s == 0)) none

module _ {C : Type 0} {c : Cache C} (i : Iommu C c) where
  -- other registers in an IOMMU that is known: the facts that it carries have one proof each
  abbrev Exchanged : (Registers → Registers) → Iommu C c → Iommu C c → Type 0
  Exchanged change base k = (r : Registers) (inside : AreRowsIn k.frames k.in_flight.rows) (cached : AreTranslationsIn k.frames (c.content k.translations)) → r ≡ change k.registers
      → ◌≡◌ {A = Iommu C c} (record k { registers = r; inside = inside; cached = cached }) (record base { registers = change base.registers })

  pub exchanged : (change : Registers → Registers) (base k : Iommu C c) → k ≡ base → Exchanged change base k
  exchanged change base k is = subst (Exchanged change base) (sym is) with_change
    where
      with_change : Exchanged change base base
      with_change r inside cached so =
          ap (λ x. record base { registers = x; inside = inside; cached = cached }) so
          ∙ ap (λ x. record base { registers = change base.registers; inside = x; cached = cached }) (rows_in_prop base.frames base.in_flight.rows inside base.inside)
          ∙ ap (λ x. record base { registers = change base.registers; cached = x }) (translations_in_prop base.frames (c.content base.translations) cached base.cached)

  -- A FENCE
  pub fenced : (m n : List (List ℕ)) (j : Iommu C c) (answer : Fetched) (store : Option FenceStore) (wsi pr pw requests accesses : Bool) → has_open (slots_of i) ≡ requests
      → waits_with pr pw (flights_of i) (counted_in i) ≡ accesses → FencesBy requests accesses store wsi pr pw m i answer n j → Fences store wsi pr pw m i answer n j
  fenced m n j answer store wsi pr pw requests accesses some waits is =
      subst (λ b. FencesBy b (waits_with pr pw (flights_of i) (counted_in i)) store wsi pr pw m i answer n j) (sym some)
      (subst (λ b. FencesBy requests b store wsi pr pw m i answer n j) (sym waits) is)

  -- where a request is open, it doesn't matter for what else it would wait
  pub fence_waits : (m n : List (List ℕ)) (j : Iommu C c) (answer : Fetched) (store : Option FenceStore) (wsi pr pw : Bool) → has_open (slots_of i) ≡ true
      → FencesBy true (waits_with pr pw (flights_of i) (counted_in i)) store wsi pr pw m i answer n j → Fences store wsi pr pw m i answer n j
  fence_waits m n j answer store wsi pr pw some is = fenced m n j answer store wsi pr pw true (waits_with pr pw (flights_of i) (counted_in i)) some refl is

  -- A FETCH
  pub fetched_from : (m n : List (List ℕ)) (j : Iommu C c) (answer : Fetched) (on : Bool) (entry : Option QueueEntry) → is_processing_commands (registers_of i) ≡ on
      → head_entry m (registers_of i) ≡ entry → FetchesFrom on entry m i answer n j → FetchesCommand m i answer n j
  fetched_from m n j answer on entry goes found is =
      subst (λ b. FetchesFrom b (head_entry m (registers_of i)) m i answer n j) (sym goes) (subst (λ e. FetchesFrom on e m i answer n j) (sym found) is)
