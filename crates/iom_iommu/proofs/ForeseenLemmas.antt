-- A fetch of a command that waits again changes nothing.
use Rattle.std.proofs.Common.{◌≡◌, ◌∙◌, ◌&&◌, ℕ, Bool, true, false, not, List, Option, None, Some, is_some, refl, sym, ap, subst, if◌then◌else◌}
use Rattle.iom_registers.specs.Queues.{is_processing_commands}
use Rattle.iom_command_queue.specs.declared.command.Command.{Command}
use Rattle.iom_command_queue.specs.declared.command.Command.TheVariants.{IotinvalVma, IotinvalGvma, IofenceC, IodirInvalDdt, AtsInval}
use Rattle.iom_command_queue.specs.declared.command.FenceStore.{FenceStore}
use Rattle.iom_command_queue.specs.declared.entry.QueueEntry.TheVariants as stands
use Rattle.iom_tlb.specs.declared.trans_cache.TransCache.{Ghosts as Cache}
use Rattle.iom_iommu.specs.declared.iommu.Iommu.{Iommu}
use Rattle.iom_iommu.specs.declared.fetched.Fetched.{Fetched}
use Rattle.iom_iommu.specs.Fetches.{accepted_before, counted_in, has_open, are_full, waits_with, head_entry, FencesBy, OpensRequest, ExecutesCommand, FetchesFrom, FetchesCommand}
use Rattle.iom_iommu.specs.Foreseen.{waits_again}
use Rattle.iom_iommu.specs.Parts.{registers_of, flights_of, fence_snapshot_of, waits_of, slots_of}

module _ {C : Type 0} {c : Cache C} (m n : List (List ℕ)) (i j : Iommu C c) (answer : Fetched) where
  abbrev Unchanged : Type 0
  Unchanged = (n ≡ m) × (j ≡ i)

  with_waits : (waits : Bool) → waits_of i ≡ waits → ◌≡◌ {A = Iommu C c} (record i { fence_waits = waits }) i
  with_waits waits is = ap (λ (b : Bool). record i { fence_waits = b }) (sym is)

  fence : (store : Option FenceStore) (wsi pr pw requests accesses waits : Bool) (snapshot : Option ℕ) → waits_of i ≡ waits → fence_snapshot_of i ≡ snapshot
      → (if requests then waits else (not waits && (is_some snapshot && accesses))) ≡ true
      → FencesBy requests accesses store wsi pr pw m i answer n j → Unchanged
  fence store wsi pr pw true accesses true snapshot w s again (said, memory, new) = (memory, new ∙ with_waits true w)
  fence store wsi pr pw true accesses false snapshot w s again is = absurd (let e = again in cc)
  fence store wsi pr pw false accesses true snapshot w s again is = absurd (let e = again in cc)
  fence store wsi pr pw false accesses false None w s again is = absurd (let e = again in cc)
  fence store wsi pr pw false false false (Some count) w s again is = absurd (let e = again in cc)
  fence store wsi pr pw false true false (Some count) w s again (said, memory, new) =
      (memory, new ∙ ap (λ (x : Option ℕ). record i { fence_snapshot = x; fence_waits = false }) counted ∙ with_waits false w)
    where
      counted : Some (counted_in i) ≡ fence_snapshot_of i
      counted = ap (λ (x : Option ℕ). Some (accepted_before x (flights_of i).so_far)) s ∙ sym s

  request : (device : ℕ) (full waits opens : Bool) → waits_of i ≡ waits → (not waits && full) ≡ true → n ≡ m → OpensRequest full device i opens j → Unchanged
  request device true false false w again memory (is_full, new) = (memory, new ∙ with_waits false w)
  request device true false true w again memory (is_full, new) = absurd (let e = is_full in cc)
  request device false false opens w again memory is = absurd (let e = again in cc)
  request device full true opens w again memory is = absurd (let e = again in cc)

  unchanged : (command : Command) → waits_again command i ≡ true → ExecutesCommand command m i answer n j → Unchanged
  unchanged (IofenceC store wsi pr pw) again is =
      fence store wsi pr pw (has_open (slots_of i)) (waits_with pr pw (flights_of i) (counted_in i)) (waits_of i) (fence_snapshot_of i) refl refl again is
  unchanged (AtsInval device range) again (opens, said, memory, is) = request device (are_full (slots_of i)) (waits_of i) opens refl again memory is
  unchanged (IotinvalVma gscid pscid page) again is = absurd (let e = again in cc)
  unchanged (IotinvalGvma gscid page) again is = absurd (let e = again in cc)
  unchanged (IodirInvalDdt device) again is = absurd (let e = again in cc)

  -- so where it stands at the head
  pub leaves : (command : Command) (again : Bool) → is_processing_commands (registers_of i) ≡ true → head_entry m (registers_of i) ≡ Some (stands.Command command)
      → again ≡ waits_again command i → not again ≡ false → FetchesCommand m i answer n j → Unchanged
  leaves command false goes found asked none is = absurd (let e = none in cc)
  leaves command true goes found asked none is =
      unchanged command (sym asked)
      (subst (λ e. FetchesFrom true e m i answer n j) found (subst (λ b. FetchesFrom b (head_entry m (registers_of i)) m i answer n j) goes is))
