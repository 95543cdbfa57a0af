use Rattle.std.proofs.Common.{Option, IsSome, sym, subst}
use Rattle.iom_ledger.specs.History.{Pair}
use Rattle.iom_kept_state.proofs.ActLemmas.{holds_something}
use Rattle.iom_kept_state.proofs.grants.KeptGrants.release.Goals as goal

pub release-requires-clause-held : goal.release-requires-clause-held
release-requires-clause-held c =
    subst (λ (own : Option Pair). IsSome own) (sym (c.in_ok-make_room.ensures.unchanged.held c.args.device c.args.page)) (holds_something c.args.self.now c.args.device c.args.page c.requires.held)
