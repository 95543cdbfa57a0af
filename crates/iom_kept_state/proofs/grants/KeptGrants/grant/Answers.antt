use Rattle.std.proofs.Common.{refl}
use Rattle.iom_kept_state.proofs.ActLemmas.{holds_nothing, nothing_lingers, granted_past, stored_named, on_ok}
use Rattle.iom_kept_state.proofs.grants.KeptGrants.grant.Goals as goal

pub grant-requires-clause-not_held : goal.grant-requires-clause-not_held
grant-requires-clause-not_held c = holds_nothing c.args.self.now c.args.device c.args.page c.requires.not_held

pub grant-requires-clause-not_lingering : goal.grant-requires-clause-not_lingering
grant-requires-clause-not_lingering c = nothing_lingers c.args.self.now c.args.device c.args.page c.requires.not_lingering

pub returns-clause-past : goal.returns-clause-past
returns-clause-past c = on_ok c.grant.result (λ agrees h past.
    granted_past c.args.self.now _ h c.args.device c.args.page c.args.frame c.in_ok-place.place c.args.rights past
    c.in_ok-place.ensures.keys c.in_ok-place.ensures.unique
    (stored_named c.insert_full.new.self.keys c.args.frame c.in_ok-place.place c.in_ok-place.ensures.within c.in_ok-place.ensures.stored) refl refl (agrees past.placed past.grants))
    c.grant.ensures.agrees
