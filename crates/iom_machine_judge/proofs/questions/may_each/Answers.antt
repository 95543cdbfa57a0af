use Rattle.std.proofs.Common.{Bool, not, ap, sym, ◌∙◌}
use Rattle.std.proofs.lemmas.Bool.{false≢true}
use Rattle.iom_base.specs.declared.access.AccessKind.TheVariants.{Read, Write}
use Rattle.iom_ledger.specs.History.{May}
use Rattle.iom_machine.proofs.QuestionLemmas.{each_if_reads, each_if_both}
use Rattle.iom_machine_judge.proofs.questions.may_each.Goals as goal
use Rattle.iom_machine_judge.proofs.questions.may_each.Goals.{then-allows, else-allows}

pub returns-then-not-allows : goal.returns-then-not-allows
returns-then-not-allows c = λ h past. elim c.if-allows.branch [
  | then-allows w ↦ (
    (λ yes. each_if_reads c.args.rights (May h c.args.id c.args.frame) (sym c.allows.ensures ∙ w.if-allows.true) ((w.may.ensures.may h past).0 (sym w.value-is ∙ c.if-may.true))
        (sym c.allows-then-may.ensures ∙ c.if-not-allows.true)),
    (λ each. ap (λ (b : Bool). not b) c.if-not-allows.true),
  )
  | else-allows w ↦ absurd (false≢true (sym w.if-allows.false ∙ sym w.value-is ∙ c.if-may.true))
]

pub returns-else-not-allows : goal.returns-else-not-allows
returns-else-not-allows c = λ h past. elim c.if-allows.branch [
  | then-allows w ↦ (
    (λ yes. each_if_both c.args.rights (May h c.args.id c.args.frame) (sym c.allows.ensures ∙ w.if-allows.true) ((w.may.ensures.may h past).0 (sym w.value-is ∙ c.if-may.true))
        ((c.may-else-not-allows.ensures.may h past).0 yes)),
    (λ each. (c.may-else-not-allows.ensures.may h past).1 (each.1 Write (sym c.allows-then-may.ensures ∙ c.if-not-allows.false))),
  )
  | else-allows w ↦ absurd (false≢true (sym w.if-allows.false ∙ sym w.value-is ∙ c.if-may.true))
]

pub returns-else-may : goal.returns-else-may
returns-else-may c = λ h past. (
  (λ yes. absurd (false≢true (sym c.if-may.false ∙ yes))),
  (λ each. elim c.if-allows.branch [
    | then-allows w ↦ absurd (false≢true (sym c.if-may.false ∙ w.value-is ∙ (w.may.ensures.may h past).1 (each.1 Read each.0)))
    | else-allows w ↦ absurd (false≢true (sym w.if-allows.false ∙ c.allows.ensures ∙ each.0))
  ]),
)
