use Rattle.std.proofs.Common.{Bool, not, ap, sym, ◌∙◌}
use Rattle.std.proofs.lemmas.Bool.{false≢true}
use Rattle.iom_base.specs.declared.access.AccessKind.TheVariants.{Read, Write}
use Rattle.iom_machine.specs.Requests.{LingersSomewhere}
use Rattle.iom_machine.proofs.QuestionLemmas.{each_if_reads, each_if_both}
use Rattle.iom_machine_judge.proofs.questions.lingers_each.Goals as goal
use Rattle.iom_machine_judge.proofs.questions.lingers_each.Goals.{then-allows, else-allows}

pub returns-then-not-allows : goal.returns-then-not-allows
returns-then-not-allows c = λ h past. elim c.if-allows.branch [
  | then-allows w ↦ (
    (λ yes. each_if_reads c.args.rights (LingersSomewhere h c.args.id c.args.frame) (sym c.allows.ensures ∙ w.if-allows.true) ((w.lingers_somewhere.ensures.lingers h past).0 (sym w.value-is ∙ c.if-lingers_somewhere.true))
        (sym c.allows-then-lingers_somewhere.ensures ∙ c.if-not-allows.true)),
    (λ each. ap (λ (b : Bool). not b) c.if-not-allows.true),
  )
  | else-allows w ↦ absurd (false≢true (sym w.if-allows.false ∙ sym w.value-is ∙ c.if-lingers_somewhere.true))
]

pub returns-else-not-allows : goal.returns-else-not-allows
returns-else-not-allows c = λ h past. elim c.if-allows.branch [
  | then-allows w ↦ (
    (λ yes. each_if_both c.args.rights (LingersSomewhere h c.args.id c.args.frame) (sym c.allows.ensures ∙ w.if-allows.true) ((w.lingers_somewhere.ensures.lingers h past).0 (sym w.value-is ∙ c.if-lingers_somewhere.true))
        ((c.lingers_somewhere-else-not-allows.ensures.lingers h past).0 yes)),
    (λ each. (c.lingers_somewhere-else-not-allows.ensures.lingers h past).1 (each.1 Write (sym c.allows-then-lingers_somewhere.ensures ∙ c.if-not-allows.false))),
  )
  | else-allows w ↦ absurd (false≢true (sym w.if-allows.false ∙ sym w.value-is ∙ c.if-lingers_somewhere.true))
]

pub returns-else-lingers_somewhere : goal.returns-else-lingers_somewhere
returns-else-lingers_somewhere c = λ h past. (
  (λ yes. absurd (false≢true (sym c.if-lingers_somewhere.false ∙ yes))),
  (λ each. elim c.if-allows.branch [
    | then-allows w ↦ absurd (false≢true (sym c.if-lingers_somewhere.false ∙ w.value-is ∙ (w.lingers_somewhere.ensures.lingers h past).1 (each.1 Read each.0)))
    | else-allows w ↦ absurd (false≢true (sym w.if-allows.false ∙ c.allows.ensures ∙ each.0))
  ]),
)
