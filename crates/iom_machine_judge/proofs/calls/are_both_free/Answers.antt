use Rattle.std.proofs.Common.{sym, ◌∙◌}
use Rattle.std.proofs.lemmas.Bool.{false≢true}
use Rattle.iom_machine.proofs.CallLemmas.{both_free, each_free}
use Rattle.iom_kept_state.specs.States.{state_of}
use Rattle.iom_machine_judge.proofs.calls.are_both_free.Goals as goal

pub returns-else-are_free_besides : goal.returns-else-are_free_besides
returns-else-are_free_besides c = λ h past. (
  (λ yes. absurd (false≢true (sym c.if-are_free_besides.false ∙ yes))),
  (λ all. absurd (false≢true (sym c.if-are_free_besides.false
      ∙ (c.are_free_besides.ensures h past).1 (each_free (state_of c.args.kept.now h) c.args.pages.now c.args.taken.now all).0))),
)

pub returns-then-are_free_besides : goal.returns-then-are_free_besides
returns-then-are_free_besides c = λ h past. (
  (λ yes. both_free (state_of c.args.kept.now h) c.args.pages.now c.args.taken.now
      ((c.are_free_besides.ensures h past).0 c.if-are_free_besides.true) ((c.are_free_besides-then-are_free_besides.ensures h past).0 yes)),
  (λ all. (c.are_free_besides-then-are_free_besides.ensures h past).1 (each_free (state_of c.args.kept.now h) c.args.pages.now c.args.taken.now all).1),
)
