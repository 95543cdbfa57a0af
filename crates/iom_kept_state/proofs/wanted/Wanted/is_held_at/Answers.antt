use Rattle.std.proofs.Common.{sym, ◌∙◌}
use Rattle.iom_kept_state.proofs.ReachLemmas.{reached_as_held}
use Rattle.iom_kept_state.proofs.wanted.Wanted.is_held_at.Goals as goal

pub returns-then-place-self : goal.returns-then-place-self
returns-then-place-self c = λ allowed.
    reached_as_held c.args.self.now c.args.ledger.now c.args.page c.in-Some.place c.in-Some.rights c.requires
    (sym c.in-Some.is ∙ c.holds.ensures.shown) c.if-place-self.true (sym c.allows.ensures ∙ allowed)
