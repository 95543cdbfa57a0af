use Rattle.std.proofs.Common.{◌∙◌, not, ap, subst, sym, rules}
use Rattle.std.proofs.lemmas.Fn.{filter_same}
use Rattle.iom_pointers.specs.Pointers.{HasOneOfEachKey, is_covered, without_covered}
use Rattle.iom_pointers.specs.declared.pointer.Pointer.{Pointer}
use Rattle.iom_pointers.proofs.KeepLemmas.{one_each_without}
use Rattle.iom_pointers.proofs.pointers.Pointers.forget.Goals as goal

pub returns : goal.returns
returns c =
    filter_same _ (λ (pointer : Pointer). not (is_covered c.args.command.now pointer)) _ (λ x b f called. search rules) _ _ c.retain.ensures.filtered
    ∙ ap (without_covered c.args.command.now) c.self.view_is

pub invariant_of-self : goal.invariant_of-self
invariant_of-self c = (
  search rules,
  search rules,
  subst HasOneOfEachKey
      (sym (filter_same _ (λ (pointer : Pointer). not (is_covered c.args.command.now pointer)) _ (λ x b f called. search rules) _ _ c.retain.ensures.filtered))
      (one_each_without (λ (pointer : Pointer). not (is_covered c.args.command.now pointer)) c.self.inside.kept.items c.self.invariant.2),
)
