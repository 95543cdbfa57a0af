use Rattle.std.proofs.Common.{◌+◌, ◌∙◌, inl, inr, subst, sym}
use Rattle.iom_pointers.proofs.DeepestLemmas.{IsDeepestAmong, goes_lower, goes_on}
use Rattle.iom_pointers.proofs.pointers.deepest_of.Goals.{then-is_for+then-is_lower, else-is_for, else-is_for-via-then-is_for+else-is_lower, else-is_for-via-else-is_for}
use Rattle.iom_pointers.proofs.pointers.deepest_of.Goals as goal

pub loop-place-preserved : goal.loop-place-preserved
loop-place-preserved c =
    let kept = c.args.kept.now in
    let space = c.args.space in
    let page = c.args.page in
    let place = c.loop-place.place in
    let own = c.index-kept-place.result in
    let found = c.loop-place.deepest in
    elim c.if-is_for.branch [
      | then-is_for+then-is_lower w ↦
          subst (IsDeepestAmong kept space page (place + 1)) (sym w.deepest-is)
          (goes_lower kept space page place own c.loop-place-test.true c.index-kept-place.is found c.loop-place.invariant
          (sym c.is_for.ensures ∙ w.if-is_for.true) (sym w.is_lower.ensures ∙ w.if-is_lower.true))
      | else-is_for w ↦
          subst (IsDeepestAmong kept space page (place + 1)) (sym w.deepest-is)
          (goes_on kept space page place own c.loop-place-test.true c.index-kept-place.is found c.loop-place.invariant (elim w.else-is_for.branch [
            | else-is_for-via-then-is_for+else-is_lower v ↦ inr (sym v.is_lower.ensures ∙ v.if-is_lower.false)
            | else-is_for-via-else-is_for v ↦ inl (sym c.is_for.ensures ∙ v.if-is_for.false)
          ]))
    ]
