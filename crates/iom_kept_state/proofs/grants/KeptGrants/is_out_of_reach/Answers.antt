use Rattle.std.proofs.Common.{refl, sym, ◌∙◌, arith}
use Rattle.iom_kept_state.proofs.PastLemmas.{none_reaches, nobody_reaches, named_where_found}
use Rattle.iom_kept_state.proofs.grants.KeptGrants.is_out_of_reach.Goals as goal

pub overflow_cast-place : goal.overflow_cast-place
overflow_cast-place c = let within = c.in-Some.ensures.within in let few = c.args.self.now.few in omega (arith, within, few)

pub returns-in-None : goal.returns-in-None
returns-in-None c = λ h past. (λ yes. nobody_reaches c.args.self.now h past c.args.frame (sym c.get_index_of.ensures.index ∙ c.in-None.is), λ none. refl)

pub returns-in-Some : goal.returns-in-Some
returns-in-Some c = λ h past.
    let named = named_where_found c.args.self.now.names.keys c.args.frame c.in-Some.place (sym c.get_index_of.ensures.index ∙ c.in-Some.is) in
    let same = none_reaches c.args.self.now h past c.in-Some.place c.args.frame named in
    let free = c.is_free.ensures.free past.placed past.grants in
    (λ yes. same.0 (free.0 yes), λ none. free.1 (same.1 none))
