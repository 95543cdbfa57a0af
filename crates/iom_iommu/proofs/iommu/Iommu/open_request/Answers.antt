-- A request more is open, unless 32 are.
use Rattle.std.proofs.Common.{◌≡◌, ◌==◌, ◌∙◌, ℕ, Bool, true, false, is_some, length, IfNone, OnSome, refl, ap, sym, subst}
use Rattle.std.proofs.lemmas.Bool.{eqb-true, eq-eqb, true≢false}
use Rattle.iom_command_queue.specs.OpenSlots.{with_next}
use Rattle.iom_iommu.specs.Parts.{slots_of}
use Rattle.iom_iommu.proofs.PartLemmas.{same_parts}
use Rattle.iom_iommu.proofs.iommu.Iommu.open_request.Goals as goal

not_there : (count most : ℕ) → (count ≡ most → false ≡ true) → (count == most) ≡ false
not_there count most not_so = by (count == most) refl
  where
    by : (b : Bool) → (count == most) ≡ b → (count == most) ≡ false
    by true is = absurd (true≢false (sym (not_so (eqb-true count most is))))
    by false is = is

pub returns-in-None : goal.returns-in-None
returns-in-None g c = (
  eq-eqb (length (slots_of c.args.self.now).open_slots) 32 (c.open.ensures.full.0 (ap is_some c.in-None.is)),
  same_parts c.args.self.now _ _ _ _ _ _ _ _ _ _ refl refl refl (subst (λ o. IfNone o (c.open.new.self ≡ slots_of c.args.self.now)) c.in-None.is c.open.ensures.refused),
)

pub returns-in-Some : goal.returns-in-Some
returns-in-Some g c = (
  not_there (length (slots_of c.args.self.now).open_slots) 32 (λ full. sym (c.open.ensures.full.1 full) ∙ ap is_some c.in-Some.is),
  c.go_on.ensures ∙ same_parts c.args.self.now _ _ _ _ _ _ _ _ _ _ refl refl refl
      (subst (λ o. OnSome o (c.open.new.self ≡ with_next (slots_of c.args.self.now) c.number.result)) c.in-Some.is c.open.ensures.opened
      ∙ ap (with_next (slots_of c.args.self.now)) c.number.ensures.value),
)
