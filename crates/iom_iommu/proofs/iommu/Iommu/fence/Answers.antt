-- A fence waits for requests, then for accesses; then its word is stored, or it stops the processing.
use Rattle.std.proofs.Common.{inl, inr, ◌∙◌, ◌≡◌, Some, true, false, refl, sym, ap, subst}
use Rattle.iom_registers.specs.Queues.{with_fence_w_ip}
use Rattle.iom_iommu.specs.Fetches.{after_command, with_interrupt, are_waited_for, counted_in, waits_with, Stores}
use Rattle.iom_iommu.specs.Parts.{flights_of, slots_of}
use Rattle.iom_iommu.proofs.FenceLemmas.{some_open, none_open, exchanged, fenced, fence_waits}
use Rattle.iom_iommu.proofs.PartLemmas.{same_fence, same_parts}
use Rattle.iom_iommu.proofs.iommu.Iommu.fence.Goals as goal
use Rattle.iom_iommu.proofs.iommu.Iommu.fence.Goals.{then-wsi, else-wsi}

pub returns-then-not-is_empty : goal.returns-then-not-is_empty
returns-then-not-is_empty g c =
    fence_waits c.args.self.now c.args.memory.now c.args.memory.now _ _ c.args.store.now c.args.wsi c.args.pr c.args.pw
    (some_open (slots_of c.args.self.now) (λ none. sym c.if-not-is_empty.true ∙ c.is_empty.ensures.1 none))
    (refl, refl, same_fence c.args.self.now _ _ _ _ _ _ _ _ refl refl refl)

pub returns-then-waits_with : goal.returns-then-waits_with
returns-then-waits_with g c =
    fenced c.args.self.now c.args.memory.now c.args.memory.now _ _ c.args.store.now c.args.wsi c.args.pr c.args.pw false true
    (none_open (slots_of c.args.self.now) (c.is_empty.ensures.0 c.if-not-is_empty.false))
    (sym (ap (λ n. waits_with c.args.pr c.args.pw (flights_of c.args.self.now) n) c.counted-before.ensures) ∙ sym c.waits_with.ensures ∙ c.if-waits_with.true)
    (refl, refl, same_fence c.args.self.now _ _ _ _ _ _ _ _ refl (ap Some c.counted-before.ensures) refl)

pub returns-then-not-store_word : goal.returns-then-not-store_word
returns-then-not-store_word g c =
    fenced c.args.self.now c.args.memory.now c.store_word.new.memory _ _ c.args.store.now c.args.wsi c.args.pr c.args.pw false false
    (none_open (slots_of c.args.self.now) (c.is_empty.ensures.0 c.if-not-is_empty.false))
    (sym (ap (λ n. waits_with c.args.pr c.args.pw (flights_of c.args.self.now) n) c.counted-before.ensures) ∙ sym c.waits_with.ensures ∙ c.if-waits_with.false)
    (inr (
      refl,
      subst (λ done. Stores c.args.memory.now c.args.store.now done c.store_word.new.memory) c.if-not-store_word.true c.store_word.ensures,
      same_fence c.args.self.now _ _ _ _ _ _ _ _ c.set_cqmf.ensures (ap Some c.counted-before.ensures) refl,
    ))

pub returns : goal.returns
returns g c =
    fenced c.args.self.now c.args.memory.now c.store_word.new.memory _ _ c.args.store.now c.args.wsi c.args.pr c.args.pw false false
    (none_open (slots_of c.args.self.now) (c.is_empty.ensures.0 c.if-not-is_empty.false))
    (sym (ap (λ n. waits_with c.args.pr c.args.pw (flights_of c.args.self.now) n) c.counted-before.ensures) ∙ sym c.waits_with.ensures ∙ c.if-waits_with.false)
    (inl (
      refl,
      subst (λ done. Stores c.args.memory.now c.args.store.now done c.store_word.new.memory) c.if-not-store_word.false c.store_word.ensures,
      by,
    ))
  where
    gone : c.go_on.new.self ≡ after_command c.args.self.now
    gone = c.go_on.ensures ∙ same_fence c.args.self.now _ _ _ _ _ _ _ _ refl refl refl

    by : c.if-wsi.self ≡ with_interrupt c.args.wsi (after_command c.args.self.now)
    by = elim c.if-wsi.branch [
      | then-wsi w ↦ w.self-is ∙ exchanged c.args.self.now with_fence_w_ip (after_command c.args.self.now) c.go_on.new.self gone _ _ _ w.set_fence_w_ip.ensures
          ∙ ap (λ b. with_interrupt b (after_command c.args.self.now)) (sym w.if-wsi.true)
      | else-wsi w ↦ w.self-is ∙ gone ∙ ap (λ b. with_interrupt b (after_command c.args.self.now)) (sym w.if-wsi.false)
    ]
