use Rattle.std.proofs.Common.{false, refl, sym, ◌∙◌, arith}
use Rattle.std.proofs.lemmas.Bool.{false≢true}
use Rattle.iom_kept_state.specs.declared.wanted.Wanted.{Wanted}
use Rattle.iom_kept_state.proofs.PastLemmas.{none_lingers, lingers_from_reached, reached_from_somewhere, named_where_found}
use Rattle.iom_kept_state.proofs.LowLemmas.{low_where_named}
use Rattle.iom_kept_state.proofs.grants.KeptGrants.lingers_somewhere.Goals as goal

pub returns-in_default-clause-lingers : goal.returns-in_default-clause-lingers
returns-in_default-clause-lingers c = λ h past. (
  λ no. absurd (false≢true no),
  λ lingers. absurd (none_lingers c.args.self.now h past 1 0 (omega arith) c.args.device c.args.frame c.args.kind (sym c.get_index_of.ensures.index ∙ c.in_default.is) lingers),
)

pub overflow_cast-wanted : goal.overflow_cast-wanted
overflow_cast-wanted c = let within = c.in-Some.ensures.within in let few = c.args.self.now.few in omega (arith, within, few)

pub returns-clause-lingers : goal.returns-clause-lingers
returns-clause-lingers c = λ h past.
    let named = named_where_found c.args.self.now.names.keys c.args.frame c.in-Some.place (sym c.get_index_of.ensures.index ∙ c.in-Some.is) in
    let wanted : Wanted = record { device = c.args.device; place = c.in-Some.place; kind = c.args.kind; first = 1; last = 0; held = false } in (
      λ some. lingers_from_reached c.args.self.now h past 1 0 (omega arith) wanted c.args.frame refl refl named refl (c.is_anywhere.ensures.0 some),
      λ lingers. c.is_anywhere.ensures.1 (reached_from_somewhere c.args.self.now h past 1 0 (omega arith) wanted c.args.frame refl refl named lingers),
    )

pub returns-clause-low : goal.returns-clause-low
returns-clause-low c = λ yes.
    low_where_named c.args.self.now.names.keys c.in-Some.place c.args.frame c.args.self.now.low
    (named_where_found c.args.self.now.names.keys c.args.frame c.in-Some.place (sym c.get_index_of.ensures.index ∙ c.in-Some.is))
