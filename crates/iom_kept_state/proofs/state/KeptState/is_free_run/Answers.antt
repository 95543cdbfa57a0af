use Rattle.std.proofs.Common.{◌∙◌, sym}
use Rattle.std.proofs.lemmas.Bool.{false≢true}
use Rattle.iom_kept_state.proofs.state.KeptState.is_free_run.Goals as goal
use Rattle.iom_kept_state.proofs.state.KeptState.is_free_run.Goals.{then-is_free, else-is_free, then-is_free-2, else-is_free-2}

pub returns-then-is_free-3 : goal.returns-then-is_free-3
returns-then-is_free-3 c h past = elim c.if-is_free-2.branch [
  | then-is_free-2 w ↦ elim c.if-is_free.branch [
    | then-is_free v ↦ (
      (λ yes. (
        (c.is_free.ensures h past).0 v.if-is_free.true,
        (v.is_free-then-is_free.ensures h past).0 (sym v.value-is ∙ w.if-is_free-2.true),
        (w.is_free-then-is_free-2.ensures h past).0 (sym w.value-is ∙ c.if-is_free-3.true),
        (c.is_free-then-is_free-3.ensures h past).0 yes,
      )),
      (λ free. (c.is_free-then-is_free-3.ensures h past).1 free.3),
    )
    | else-is_free v ↦ absurd (false≢true (sym v.if-is_free.false ∙ sym v.value-is ∙ w.if-is_free-2.true))
  ]
  | else-is_free-2 w ↦ absurd (false≢true (sym w.if-is_free-2.false ∙ sym w.value-is ∙ c.if-is_free-3.true))
]

pub returns-else-is_free-3 : goal.returns-else-is_free-3
returns-else-is_free-3 c h past = elim c.if-is_free-2.branch [
  | then-is_free-2 w ↦ (
    (λ yes. absurd (false≢true (sym c.if-is_free-3.false ∙ yes))),
    (λ free. absurd (false≢true (sym c.if-is_free-3.false ∙ w.value-is ∙ (w.is_free-then-is_free-2.ensures h past).1 free.2))),
  )
  | else-is_free-2 w ↦ elim c.if-is_free.branch [
    | then-is_free v ↦ (
      (λ yes. absurd (false≢true (sym c.if-is_free-3.false ∙ yes))),
      (λ free. absurd (false≢true (sym w.if-is_free-2.false ∙ v.value-is ∙ (v.is_free-then-is_free.ensures h past).1 free.1))),
    )
    | else-is_free v ↦ (
      (λ yes. absurd (false≢true (sym c.if-is_free-3.false ∙ yes))),
      (λ free. absurd (false≢true (sym v.if-is_free.false ∙ (c.is_free.ensures h past).1 free.0))),
    )
  ]
]
