use Rattle.std.proofs.Common.{◌∙◌, sym}
use Rattle.std.proofs.lemmas.Bool.{not-true}
use Rattle.iom_kept_state.proofs.FreeLemmas.{other_than}
use Rattle.iom_kept_state.proofs.state.KeptState.is_free_besides.Goals as goal

pub returns-then-ne : goal.returns-then-ne
returns-then-ne c h past = (
  (λ yes. ((c.is_free.ensures h past).0 yes, other_than c.args.named c.args.number (not-true _ (sym c.ne.ensures ∙ c.if-ne.true)))),
  (λ both. (c.is_free.ensures h past).1 both.0),
)
