use Rattle.std.proofs.Common.{inl, inr, sym, ◌∙◌}
use Rattle.std.proofs.lemmas.Bool.{false≢true}
use Rattle.iom_kept_state.proofs.LookLemmas.{any_held, any_lingers, held_somewhere, lingers_somewhere}
use Rattle.iom_kept_state.proofs.grants.KeptGrants.has_any.Goals as goal

pub returns-then-holds_anything : goal.returns-then-holds_anything
returns-then-holds_anything c = λ h past.
    (λ some. any_held c.args.self.now h past c.args.device (c.holds_anything.ensures.shown.0 some), λ any. c.if-holds_anything.true)

pub returns-else-holds_anything : goal.returns-else-holds_anything
returns-else-holds_anything c = λ h past. (
  λ some. any_lingers c.args.self.now h past c.args.device (c.lingers_anything.ensures.shown.0 some),
  λ (page, (pair, reached)). elim reached [
    | inl held ↦ absurd (false≢true (sym c.if-holds_anything.false ∙ c.holds_anything.ensures.shown.1 (page, held_somewhere c.args.self.now h past c.args.device page pair held)))
    | inr lingers ↦ c.lingers_anything.ensures.shown.1 (page, lingers_somewhere c.args.self.now h past c.args.device page pair lingers)
  ],
)
