use Rattle.std.proofs.Common.{◌≡◌, ℕ, None, Some, refl, sym, ap, subst, ◌∙◌, ◌<◌, ◌^◌}
use Rattle.std.specs.Option.{option_map}
use Rattle.std.proofs.lemmas.Bool.{false≢true}
use Rattle.iom_kept_state.specs.Grants.{lingering_by, named_pair}
use Rattle.iom_kept_state.proofs.LookLemmas.{lingers_of_past, none_lingers_of_past}
use Rattle.iom_kept_state.proofs.LowLemmas.{low_at_place}
use Rattle.iom_kept_state.proofs.grants.KeptGrants.lingering.Goals as goal

pub returns-in-None-clause-shown : goal.returns-in-None-clause-shown
unfolding lingering_by
returns-in-None-clause-shown c = ap (option_map (named_pair c.args.self.now.names.keys)) (sym c.in-None.is ∙ c.lingers.ensures.shown)

pub returns-in-None-clause-lingers : goal.returns-in-None-clause-lingers
returns-in-None-clause-lingers c = λ h past pair.
    let shown = returns-in-None-clause-shown c in
    let both = lingers_of_past c.args.self.now h past c.args.device c.args.page pair in
    (λ same. both.0 (sym shown ∙ same), λ lingers. shown ∙ both.1 lingers)

pub returns-in-None-clause-none : goal.returns-in-None-clause-none
returns-in-None-clause-none c = λ h past.
    (λ none. (none_lingers_of_past c.args.self.now h past c.args.device c.args.page).0 (sym (returns-in-None-clause-shown c)), λ none. refl)

pub returns-in-Some-clause-shown : goal.returns-in-Some-clause-shown
unfolding lingering_by
returns-in-Some-clause-shown c =
    ap (λ (f : ℕ). Some (f, c.in-Some.rights)) c.frame_at.ensures
    ∙ ap (option_map (named_pair c.args.self.now.names.keys)) (sym c.in-Some.is ∙ c.lingers.ensures.shown)

pub returns-in-Some-clause-lingers : goal.returns-in-Some-clause-lingers
returns-in-Some-clause-lingers c = λ h past pair.
    let shown = returns-in-Some-clause-shown c in
    let both = lingers_of_past c.args.self.now h past c.args.device c.args.page pair in
    (λ same. both.0 (sym shown ∙ same), λ lingers. shown ∙ both.1 lingers)

pub returns-in-Some-clause-none : goal.returns-in-Some-clause-none
returns-in-Some-clause-none c = λ h past. (
  λ some. absurd (false≢true (sym some)),
  λ none.
      let no : Some (c.frame_at.result, c.in-Some.rights) ≡ None = returns-in-Some-clause-shown c ∙ (none_lingers_of_past c.args.self.now h past c.args.device c.args.page).1 none in
      cc,
)

pub returns-in-Some-clause-low : goal.returns-in-Some-clause-low
returns-in-Some-clause-low c = subst (λ (frame : ℕ). frame < 2 ^ 40) (sym c.frame_at.ensures) (low_at_place c.args.self.now.names.keys c.in-Some.place c.args.self.now.low)
