use Rattle.std.proofs.Common.{◌∙◌, sym}
use Rattle.iom_hardware_session.proofs.DoneLemmas.{somebody_holds, somebody_lingers}
use Rattle.iom_hardware_session.proofs.state.Session.user_of.Goals as goal

pub returns-then-is_some-clause-somebodys : goal.returns-then-is_some-clause-somebodys
returns-then-is_some-clause-somebodys c = λ claimed shows. somebody_holds claimed c.args.frame c.holder_of.result (c.holder_of.ensures.held claimed shows) (sym c.is_some.ensures ∙ c.if-is_some.true)

pub returns-then-is_some-2-clause-somebodys : goal.returns-then-is_some-2-clause-somebodys
returns-then-is_some-2-clause-somebodys c = λ claimed shows. somebody_lingers claimed c.args.frame c.lingering_on.result (c.lingering_on.ensures.open claimed shows) (sym c.is_some-2.ensures ∙ c.if-is_some-2.true)

pub returns-clause-nobodys : goal.returns-clause-nobodys
returns-clause-nobodys c = λ claimed shows is. ((c.holder_of.ensures.none claimed shows).0 (sym c.is_some.ensures ∙ c.if-is_some.false), (c.lingering_on.ensures.none claimed shows).0 (sym c.is_some-2.ensures ∙ c.if-is_some-2.false))
