use Rattle.std.proofs.Common.{◌∙◌, sym}
use Rattle.std.proofs.lemmas.Bool.{false≢true, eqb-true, eq-eqb}
use Rattle.iom_machine_judge.proofs.commits.writes.Goals as goal

pub returns-else-may_make : goal.returns-else-may_make
returns-else-may_make c = λ h past. (
  (λ reply. absurd (false≢true (sym c.if-may_make.false ∙ reply))),
  (λ given. absurd (false≢true (sym c.if-may_make.false ∙ (c.may_make.ensures h past).1 (given.0, given.1)))),
)

pub returns-then-may_make : goal.returns-then-may_make
returns-then-may_make c = λ h past. (
  (λ reply. let able = (c.may_make.ensures h past).0 c.if-may_make.true in (able.0, able.1, eqb-true c.args.len c.args.made.now.access.len reply)),
  (λ given. eq-eqb c.args.len c.args.made.now.access.len given.2),
)
