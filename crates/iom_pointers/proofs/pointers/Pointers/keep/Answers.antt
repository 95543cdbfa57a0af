use Rattle.std.proofs.Common.{◌≡◌, ◌∙◌, not, [], ◌∷◌, ◌++◌, if◌then◌else◌, ap, subst, sym, rules}
use Rattle.std.specs.Prelude.{is_ok}
use Rattle.std.proofs.lemmas.Fn.{filter_same}
use Rattle.iom_pointers.specs.Pointers.{HasOneOfEachKey, has_key_of, others_of, with_room}
use Rattle.iom_pointers.specs.declared.pointer.Pointer.{Pointer}
use Rattle.iom_pointers.specs.declared.pointers.Pointers.TheInside.{Inside}
use Rattle.iom_pointers.proofs.KeepLemmas.{one_each_with, room_made, room_there}
use Rattle.iom_pointers.proofs.pointers.Pointers.keep.Goals.{then-len-eq-MAX_POINTERS, else-len-eq-MAX_POINTERS}
use Rattle.iom_pointers.proofs.pointers.Pointers.keep.Goals as goal

pub returns : goal.returns
returns c =
    let others : c.retain.new.self.items ≡ others_of c.args.pointer c.args.self.now =
    filter_same _ (λ (other : Pointer). not (has_key_of c.args.pointer other)) _ (λ x b f called. search rules) _ _ c.retain.ensures.filtered
    ∙ ap (others_of c.args.pointer) c.self.view_is in
    let count = c.len.ensures ∙ c.retain.new.self.ok.0 in
    let kept = c.if-len-eq-MAX_POINTERS.self-inside.kept.items in
    let room : kept ≡ with_room c.retain.new.self.items =
    elim c.if-len-eq-MAX_POINTERS.branch [
      | then-len-eq-MAX_POINTERS w ↦
          ap (λ (p : Inside). p.kept.items) w.self-inside-is ∙ w.clear.ensures.items
          ∙ sym (room_made c.retain.new.self.items (sym count ∙ w.if-len-eq-MAX_POINTERS.true))
      | else-len-eq-MAX_POINTERS w ↦
          ap (λ (p : Inside). p.kept.items) w.self-inside-is
          ∙ sym (room_there c.retain.new.self.items (λ full. w.if-len-eq-MAX_POINTERS.false (count ∙ full)))
    ] in
    c.push.ensures.items
    ∙ ap (λ pushed. if is_ok pushed then kept ++ c.args.pointer ∷ [] else kept) c.unwrap.ensures
    ∙ ap (λ k. k ++ c.args.pointer ∷ []) (room ∙ ap with_room others)

pub invariant_of-self : goal.invariant_of-self
invariant_of-self c = (
  search rules,
  search rules,
  subst HasOneOfEachKey (sym (returns c)) (one_each_with c.args.pointer c.args.self.now (subst HasOneOfEachKey c.self.view_is c.self.invariant.2)),
)
