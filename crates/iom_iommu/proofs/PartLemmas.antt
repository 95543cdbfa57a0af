-- An IOMMU whose registers changed, what the fence at its head counted, and which requests are open: the facts that it carries have one proof each, so its parts say which it is
use Rattle.std.proofs.Common.{◌≡◌, ℕ, Option, None, Bool, true, false, ◌==◌, ◌&&◌, not, length, List, [], ◌∷◌, Result, Ok, if◌then◌else◌, refl, sym, ap, subst, ◌∙◌}
use Rattle.std.proofs.Math.Dec.{eqb-suc-zero}
use Rattle.iom_registers.specs.declared.register.Register.{Register}
use Rattle.iom_registers.specs.declared.register.RegFault.{RegFault}
use Rattle.iom_registers.specs.declared.registers.Registers.{Registers}
use Rattle.iom_registers.specs.Places.{changed_by}
use Rattle.iom_registers.specs.Table.{written}
use Rattle.iom_registers.specs.Queues.{is_command_queue_on, with_cmd_to}
use Rattle.iom_command_queue.specs.declared.slot.Slot.{Slot}
use Rattle.iom_command_queue.specs.OpenSlots.{OpenSlots}
use Rattle.iom_inflight.specs.Invariant.{AreRowsIn}
use Rattle.iom_inflight.specs.IsFact.{rows_in_prop}
use Rattle.iom_tlb.specs.declared.trans_cache.TransCache.{Ghosts as Cache}
use Rattle.iom_iommu.specs.declared.iommu.Iommu.{Iommu}
use Rattle.iom_iommu.specs.Cached.{AreTranslationsIn, translations_in_prop}
use Rattle.iom_iommu.specs.Parts.{slots_of, waits_of, fence_snapshot_after, waits_after, slots_after, after_write}
use Rattle.iom_iommu.specs.Timeouts.{can_time_out, timed_out}
use Rattle.iom_iommu.specs.Fetches.{after_command, covers_device, InvalidatesTranslations, InvalidatesContexts}
use Rattle.iom_device_dir.specs.declared.cache.DirCache.{DirCache}
use Rattle.iom_device_dir.specs.Cached.{cached_contexts}
use Rattle.iom_device_dir.specs.Contents.{DropsCovered}
use Rattle.iom_tlb.specs.declared.cover.Cover.{Cover}
use Rattle.iom_tlb.specs.Content.{DropsWhere}
use Rattle.iom_tlb.specs.Covers.{are_covering}

some_open : (waits : Bool) (open_slots : List Slot) → waits ≡ true → ¬ (open_slots ≡ []) → (waits && not (length open_slots == 0)) ≡ true
some_open true [] waits some = absurd (some refl)
some_open true (slot ∷ slots) waits some = ap not (eqb-suc-zero (length slots))
some_open false open_slots waits some = absurd (cc)

module _ {C : Type 0} {c : Cache C} (i : Iommu C c) where
  -- the IOMMU with these parts, whatever proofs of its facts it carries
  abbrev made_of : Registers → Option ℕ → Bool → OpenSlots → AreRowsIn i.frames i.in_flight.rows → AreTranslationsIn i.frames (c.content i.translations) → Iommu C c
  made_of r fence_snapshot waits slots inside cached = record {
    registers = r;
    contexts = i.contexts;
    translations = i.translations;
    in_flight = i.in_flight;
    fence_snapshot = fence_snapshot;
    fence_waits = waits;
    slots = slots;
    frames = i.frames;
    inside = inside;
    cached = cached;
  }

  pub same_parts : (r other : Registers) (fence_snapshot counted : Option ℕ) (waits waiting : Bool) (slots requests : OpenSlots)
      (inside : AreRowsIn i.frames i.in_flight.rows) (cached : AreTranslationsIn i.frames (c.content i.translations))
      → r ≡ other → fence_snapshot ≡ counted → waits ≡ waiting → slots ≡ requests
      → made_of r fence_snapshot waits slots inside cached ≡ made_of other counted waiting requests i.inside i.cached
  same_parts r other fence_snapshot counted waits waiting slots requests inside cached one two three four =
      ap (λ x. made_of x fence_snapshot waits slots inside cached) one
      ∙ ap (λ x. made_of other x waits slots inside cached) two
      ∙ ap (λ x. made_of other counted x slots inside cached) three
      ∙ ap (λ x. made_of other counted waiting x inside cached) four
      ∙ ap (λ x. made_of other counted waiting requests x cached) (rows_in_prop i.frames i.in_flight.rows inside i.inside)
      ∙ ap (λ x. made_of other counted waiting requests i.inside x) (translations_in_prop i.frames (c.content i.translations) cached i.cached)

  -- the registers, and what is kept of a fence at the head
  pub same_fence : (r other : Registers) (fence_snapshot counted : Option ℕ) (waits waiting : Bool) (inside : AreRowsIn i.frames i.in_flight.rows)
      (cached : AreTranslationsIn i.frames (c.content i.translations)) → r ≡ other → fence_snapshot ≡ counted → waits ≡ waiting
      → made_of r fence_snapshot waits i.slots inside cached ≡ record i { registers = other; fence_snapshot = counted; fence_waits = waiting }
  same_fence r other fence_snapshot counted waits waiting inside cached one two three =
      same_parts r other fence_snapshot counted waits waiting i.slots i.slots inside cached one two three refl

  -- a request is completed, or opened
  pub same_slots : (slots requests : OpenSlots) (inside : AreRowsIn i.frames i.in_flight.rows) (cached : AreTranslationsIn i.frames (c.content i.translations))
      → slots ≡ requests → made_of i.registers i.fence_snapshot i.fence_waits slots inside cached ≡ record i { slots = requests }
  same_slots slots requests inside cached left =
      same_parts i.registers i.registers i.fence_snapshot i.fence_snapshot i.fence_waits i.fence_waits slots requests inside cached refl refl refl left

  -- A FENCE is given up, where it waits and a request is open
  pub can_give_up : waits_of i ≡ true → ¬ ((slots_of i).open_slots ≡ []) → can_time_out i ≡ true
  can_give_up waits some = some_open (waits_of i) (slots_of i).open_slots waits some

  pub gave_up : (r : Registers) (slots : OpenSlots) (inside : AreRowsIn i.frames i.in_flight.rows) (cached : AreTranslationsIn i.frames (c.content i.translations))
      → r ≡ with_cmd_to i.registers → slots ≡ record (slots_of i) { open_slots = [] } → made_of r None false slots inside cached ≡ timed_out i
  gave_up r slots inside cached one two =
      same_parts r (with_cmd_to i.registers) None None false false slots (record (slots_of i) { open_slots = [] }) inside cached one refl refl two

  abbrev Wrote : Register → ℕ → Registers → Option ℕ → Bool → OpenSlots → Type 0
  Wrote register value r fence_snapshot waits slots =
      (r ≡ written i.registers register value) × (fence_snapshot ≡ fence_snapshot_after r i.fence_snapshot) × (waits ≡ waits_after r i.fence_waits) × (slots ≡ slots_after r i.slots)

  wrote : (register : Register) (value : ℕ) (answer : Result Register RegFault) (r : Registers) (fence_snapshot : Option ℕ) (waits : Bool) (slots : OpenSlots)
      (inside : AreRowsIn i.frames i.in_flight.rows) (cached : AreTranslationsIn i.frames (c.content i.translations))
      → answer ≡ Ok register → Wrote register value r fence_snapshot waits slots
      → made_of r fence_snapshot waits slots inside cached ≡ changed_by (after_write i) i value answer
  wrote register value answer r fence_snapshot waits slots inside cached ok is =
      let now = written i.registers register value in
      subst (λ a. made_of r fence_snapshot waits slots inside cached ≡ changed_by (after_write i) i value a) (sym ok)
      (same_parts r now fence_snapshot (fence_snapshot_after now i.fence_snapshot) waits (waits_after now i.fence_waits) slots (slots_after now i.slots) inside cached is.0
      (is.1 ∙ ap (λ x. fence_snapshot_after x i.fence_snapshot) is.0) (is.2 ∙ ap (λ x. waits_after x i.fence_waits) is.0) (is.3 ∙ ap (λ x. slots_after x i.slots) is.0))

  off : {A : Type 0} (on : Bool) (one other : A) → on ≡ false → other ≡ (if on then one else other)
  off true one other e = absurd (cc)
  off false one other e = refl

  on : {A : Type 0} (on : Bool) (one other : A) → on ≡ true → one ≡ (if on then one else other)
  on true one other e = refl
  on false one other e = absurd (cc)

  -- A WRITE of software, by whether the queue is on after it
  pub wrote_off : (register : Register) (value : ℕ) (answer : Result Register RegFault) (r : Registers) (slots : OpenSlots) (inside : AreRowsIn i.frames i.in_flight.rows)
      (cached : AreTranslationsIn i.frames (c.content i.translations)) → answer ≡ Ok register → r ≡ written i.registers register value → is_command_queue_on r ≡ false
      → slots ≡ record (slots_of i) { open_slots = [] } → made_of r None false slots inside cached ≡ changed_by (after_write i) i value answer
  wrote_off register value answer r slots inside cached ok is is_off closed =
      wrote register value answer r None false slots inside cached ok
      (is, off (is_command_queue_on r) i.fence_snapshot None is_off, off (is_command_queue_on r) i.fence_waits false is_off, closed ∙ off (is_command_queue_on r) i.slots (record (slots_of i) { open_slots = [] }) is_off)

  pub wrote_on : (register : Register) (value : ℕ) (answer : Result Register RegFault) (r : Registers) (inside : AreRowsIn i.frames i.in_flight.rows)
      (cached : AreTranslationsIn i.frames (c.content i.translations)) → answer ≡ Ok register → r ≡ written i.registers register value → is_command_queue_on r ≡ true
      → made_of r i.fence_snapshot i.fence_waits i.slots inside cached ≡ changed_by (after_write i) i value answer
  wrote_on register value answer r inside cached ok is is_on =
      wrote register value answer r i.fence_snapshot i.fence_waits i.slots inside cached ok
      (is, on (is_command_queue_on r) i.fence_snapshot None is_on, on (is_command_queue_on r) i.fence_waits false is_on, on (is_command_queue_on r) i.slots (record (slots_of i) { open_slots = [] }) is_on)

  -- cached translations go, once the head went on
  abbrev Cleared : List Cover → Iommu C c → Type 0
  Cleared covers k = (translations : C) (inside : AreRowsIn k.frames k.in_flight.rows) (cached : AreTranslationsIn k.frames (c.content translations))
      → DropsWhere (are_covering covers) (c.content k.translations) (c.content translations)
      → InvalidatesTranslations covers i (record k { translations = translations; inside = inside; cached = cached })

  pub cleared : (covers : List Cover) (k : Iommu C c) → k ≡ after_command i → Cleared covers k
  cleared covers k is = subst (Cleared covers) (sym is) (λ translations inside cached dropped. record {
    dropped = dropped;
    cached = cached;
    rest = ap (λ x. record (after_command i) { translations = translations; inside = x; cached = cached }) (rows_in_prop i.frames i.in_flight.rows inside i.inside);
  })

  -- cached contexts go
  abbrev Emptied : Option ℕ → Iommu C c → Type 0
  Emptied device k = (contexts : DirCache) (inside : AreRowsIn k.frames k.in_flight.rows) (cached : AreTranslationsIn k.frames (c.content k.translations))
      → DropsCovered (cached_contexts k.contexts) (covers_device device) (cached_contexts contexts)
      → InvalidatesContexts device i (record k { contexts = contexts; inside = inside; cached = cached })

  pub emptied : (device : Option ℕ) (k : Iommu C c) → k ≡ after_command i → Emptied device k
  emptied device k is = subst (Emptied device) (sym is) (λ contexts inside cached dropped. record {
    dropped = dropped;
    rest = ap (λ x. record (after_command i) { contexts = contexts; inside = x; cached = cached }) (rows_in_prop i.frames i.in_flight.rows inside i.inside)
        ∙ ap (λ x. record (after_command i) { contexts = contexts; cached = x }) (translations_in_prop i.frames (c.content i.translations) cached i.cached);
  })
