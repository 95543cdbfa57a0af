use Rattle.std.proofs.Common.{ℕ, Some, sym, ap, subst, ◌∙◌, ◌<◌, ◌^◌}
use Rattle.std.specs.Option.{option_map}
use Rattle.iom_kept_state.specs.Grants.{held_by, named_pair}
use Rattle.iom_kept_state.proofs.LookLemmas.{held_of_past}
use Rattle.iom_kept_state.proofs.LowLemmas.{low_at_place}
use Rattle.iom_kept_state.proofs.grants.KeptGrants.held.Goals as goal

pub returns-in-None-clause-shown : goal.returns-in-None-clause-shown
unfolding held_by
returns-in-None-clause-shown c = ap (option_map (named_pair c.args.self.now.names.keys)) (sym c.in-None.is ∙ c.holds.ensures.shown)

pub returns-in-None-clause-held : goal.returns-in-None-clause-held
returns-in-None-clause-held c = λ h past. returns-in-None-clause-shown c ∙ held_of_past c.args.self.now h past c.args.device c.args.page

pub returns-in-Some-clause-shown : goal.returns-in-Some-clause-shown
unfolding held_by
returns-in-Some-clause-shown c =
    ap (λ (f : ℕ). Some (f, c.in-Some.rights)) c.frame_at.ensures
    ∙ ap (option_map (named_pair c.args.self.now.names.keys)) (sym c.in-Some.is ∙ c.holds.ensures.shown)

pub returns-in-Some-clause-held : goal.returns-in-Some-clause-held
returns-in-Some-clause-held c = λ h past. returns-in-Some-clause-shown c ∙ held_of_past c.args.self.now h past c.args.device c.args.page

pub returns-in-Some-clause-low : goal.returns-in-Some-clause-low
returns-in-Some-clause-low c = subst (λ (frame : ℕ). frame < 2 ^ 40) (sym c.frame_at.ensures) (low_at_place c.args.self.now.names.keys c.in-Some.place c.args.self.now.low)
