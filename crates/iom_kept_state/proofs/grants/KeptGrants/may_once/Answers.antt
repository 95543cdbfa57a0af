use Rattle.std.proofs.Common.{true, refl, sym, ◌∙◌, arith}
use Rattle.std.proofs.lemmas.Bool.{false≢true}
use Rattle.iom_kept_state.specs.declared.wanted.Wanted.{Wanted}
use Rattle.iom_kept_state.proofs.PastLemmas.{none_may, may_from_reached, reached_from_may, named_where_found}
use Rattle.iom_kept_state.proofs.LowLemmas.{low_where_named}
use Rattle.iom_kept_state.proofs.grants.KeptGrants.may_once.Goals as goal
use Rattle.iom_kept_state.proofs.grants.KeptGrants.may_once.Goals.{then-is_held_at, else-is_held_at}

pub returns-in_default-clause-may : goal.returns-in_default-clause-may
returns-in_default-clause-may c = λ h past. (
  λ none. absurd (false≢true none),
  λ may. absurd (none_may c.args.self.now h past c.args.first c.args.last c.requires c.args.device c.args.frame c.args.kind (sym c.get_index_of.ensures.index ∙ c.in_default.is) may),
)

pub overflow_cast-wanted : goal.overflow_cast-wanted
overflow_cast-wanted c = let within = c.in-Some.ensures.within in let few = c.args.self.now.few in omega (arith, within, few)

pub returns-then-is_held_at-2-clause-may : goal.returns-then-is_held_at-2-clause-may
returns-then-is_held_at-2-clause-may c = λ h past.
    let named = named_where_found c.args.self.now.names.keys c.args.frame c.in-Some.place (sym c.get_index_of.ensures.index ∙ c.in-Some.is) in
    let wanted : Wanted = record { device = c.args.device; place = c.in-Some.place; kind = c.args.kind; first = c.args.first; last = c.args.last; held = true } in
    let may = may_from_reached c.args.self.now h past c.args.first c.args.last c.requires wanted c.args.frame refl refl named refl in (
      (λ held. elim c.if-is_held_at.branch [
        | then-is_held_at w ↦ may (c.is_held_at.ensures w.if-is_held_at.true)
        | else-is_held_at w ↦ may (w.is_held_at-else-is_held_at.ensures (sym w.value-is ∙ c.if-is_held_at-2.true))
      ]),
      (λ may. c.if-is_held_at-2.true),
    )

pub returns-else-is_held_at-2-clause-may : goal.returns-else-is_held_at-2-clause-may
returns-else-is_held_at-2-clause-may c = λ h past.
    let named = named_where_found c.args.self.now.names.keys c.args.frame c.in-Some.place (sym c.get_index_of.ensures.index ∙ c.in-Some.is) in
    let wanted : Wanted = record { device = c.args.device; place = c.in-Some.place; kind = c.args.kind; first = c.args.first; last = c.args.last; held = true } in (
      λ some. may_from_reached c.args.self.now h past c.args.first c.args.last c.requires wanted c.args.frame refl refl named refl (c.is_anywhere.ensures.0 some),
      λ may. c.is_anywhere.ensures.1 (reached_from_may c.args.self.now h past c.args.first c.args.last c.requires wanted c.args.frame refl refl named refl may),
    )

pub returns-then-is_held_at-2-clause-low : goal.returns-then-is_held_at-2-clause-low
returns-then-is_held_at-2-clause-low c = λ yes.
    low_where_named c.args.self.now.names.keys c.in-Some.place c.args.frame c.args.self.now.low
    (named_where_found c.args.self.now.names.keys c.args.frame c.in-Some.place (sym c.get_index_of.ensures.index ∙ c.in-Some.is))

pub returns-else-is_held_at-2-clause-low : goal.returns-else-is_held_at-2-clause-low
returns-else-is_held_at-2-clause-low c = λ yes.
    low_where_named c.args.self.now.names.keys c.in-Some.place c.args.frame c.args.self.now.low
    (named_where_found c.args.self.now.names.keys c.args.frame c.in-Some.place (sym c.get_index_of.ensures.index ∙ c.in-Some.is))
