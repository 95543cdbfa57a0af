use Rattle.std.proofs.Common.{◌∙◌, ℕ, Some, get_or, refl, sym, ap, arith, inl, inr}
use Rattle.std.proofs.lemmas.Bool.{false≢true}
use Rattle.std.proofs.lemmas.Bool.Decides.{eqb_tells}
use Rattle.std.proofs.lemmas.Option.{slice_get-get_or, get_or_from_slice_get}
use Rattle.iom_ledger.specs.Same.{rows_of_device}
use Rattle.iom_ledger.proofs.SameLemmas.{shown_by_place, same_at_place}
use Rattle.iom_ledger.proofs.device_list.Devices.is_same.Goals as goal

pub returns-then-not-is_same : goal.returns-then-not-is_same
returns-then-not-is_same c = (
  λ none. absurd (false≢true none),
  λ same. c.if-not-is_same.ensures.1
      (same_at_place rows_of_device c.args.self.now.list.items c.args.other.now.list.items c.loop-k.k c.index.result.now c.index-in-loop-k.result.now same
      (slice_get-get_or c.args.self.now.list.items c.loop-k.k c.index.result.now (omega arith) ∙ ap Some (sym c.index.ensures))
      (slice_get-get_or c.args.other.now.list.items c.loop-k.k c.index-in-loop-k.result.now (omega arith) ∙ ap Some (sym c.index-in-loop-k.ensures))),
)

pub loop-k-preserved : goal.loop-k-preserved
loop-k-preserved c = λ j one other lt at at_other. elim (eqb_tells j c.loop-k.k) [
  | inl e ↦
      let here = get_or_from_slice_get c.args.self.now.list.items j one c.index.result.now at in
      let there = get_or_from_slice_get c.args.other.now.list.items j other c.index-in-loop-k.result.now at_other in
      let read = c.index.ensures ∙ ap (λ (k : ℕ). get_or c.args.self.now.list.items k c.index.result.now) (sym e.1) ∙ here in
      let read_there = c.index-in-loop-k.ensures ∙ ap (λ (k : ℕ). get_or c.args.other.now.list.items k c.index-in-loop-k.result.now) (sym e.1) ∙ there in
      ap rows_of_device (sym read) ∙ c.if-not-is_same.ensures.0 refl ∙ ap rows_of_device read_there
  | inr ne ↦ c.loop-k.invariant j one other (omega (arith, ne.1)) at at_other
]

pub returns : goal.returns
returns c = (
  λ yes. shown_by_place rows_of_device c.args.self.now.list.items c.args.other.now.list.items (omega arith)
      (λ j one other lt at at_other. c.loop-k.invariant j one other (omega arith) at at_other),
  λ same. refl,
)
