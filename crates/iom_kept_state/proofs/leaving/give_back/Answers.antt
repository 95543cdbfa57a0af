use Rattle.std.proofs.Common.{◌∙◌, ℕ, Option, not, refl, sym, rules}
use Rattle.indexmap.proofs.CallerLemmas.{filter-RetainsPairs}
use Rattle.iom_base.specs.declared.owner.Owner.{Owner}
use Rattle.iom_machine.specs.Judging.{is_of_left_in}
use Rattle.iom_kept_state.specs.declared.frames.KeptFrame.{KeptFrame}
use Rattle.iom_kept_state.proofs.LeavingLemmas.{given_back_all, none_filtered}
use Rattle.iom_kept_state.proofs.leaving.give_back.Goals as goal

pub returns-then-len-eq0 : goal.returns-then-len-eq0
returns-then-len-eq0 c h past =
    given_back_all (λ (owner : Option Owner). is_of_left_in h c.args.devices.now owner) refl c.args.frames.now c.args.frames.now refl c.len.ensures.unique
    (none_filtered (λ (e : ℕ × KeptFrame). not (is_of_left_in h c.args.devices.now e.1.owner)) c.args.frames.now.named.entries (sym c.len.ensures.len ∙ c.if-len-eq0.true))

pub returns : goal.returns
returns c h past =
    given_back_all (λ (owner : Option Owner). is_of_left_in h c.args.devices.now owner) refl c.args.frames.now
    (record { count = c.args.frames.now.count; named = c.retain.new.self; small = c.args.frames.now.small }) refl c.len.ensures.unique
    (filter-RetainsPairs _ (λ (e : ℕ × KeptFrame). not (is_of_left_in h c.args.devices.now e.1.owner)) _ (λ k v b w g call. (search (rules, past), search rules, search rules)) _ _ c.retain.ensures.filtered)
