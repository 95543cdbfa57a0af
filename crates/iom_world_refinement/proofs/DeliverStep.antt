-- A message that arrives, whichever it is: what stays true of a world, and that it is a lawful step of the ledger machine.
use Rattle.std.proofs.Common.{zero, suc, ◌≡◌, ◌<◌, ◌∙◌, ℕ, Bool, true, false, List, [], ◌∷◌, remove, slice_get, Option, None, Some, refl, sym, ap, subst, if◌then◌else◌}
use Rattle.iom_walk_coherence.specs.Walks.{Walk}
use Rattle.iom_ats_cache.specs.Cache.{Cache}
use Rattle.iom_ats_cache.specs.declared.taken.Taken.{Taken}
use Rattle.iom_ats_cache.specs.declared.taken.Taken.TheVariants as taken
use Rattle.iom_fabric.specs.declared.fabric.OnLink.{OnLink}
use Rattle.iom_fabric.specs.declared.message.Message.{Message}
use Rattle.iom_fabric.specs.declared.message.Message.TheVariants as sent
use Rattle.iom_fabric.specs.declared.message.Translation.{Translation}
use Rattle.iom_base.specs.declared.refusal.Refusal.{Refusal}
use Rattle.iom_machine.specs.declared.outcome.Outcome.{Outcome}
use Rattle.iom_machine.specs.declared.outcome.Outcome.TheVariants as outcome
use Rattle.iom_machine.specs.declared.state.State.{State}
use Rattle.iom_machine.specs.Messages.{Delivers}
use Rattle.iom_device.specs.Caches.{epoch_in, cache_of}
use Rattle.iom_world_effects.specs.Deliveries.{TakesInto, outcome_of_taking, outcome_of_obeying, Arrives, ArrivesIfAny, DeliversMessage}
use Rattle.iom_world_effects.specs.Unchanged.{AreSame, SameIfRefused}
use Rattle.iom_world_effects.specs.Parts.{Parts}
use Rattle.iom_world_effects.specs.Shows.{PartsShow}
use Rattle.iom_world_effects.specs.Invariant.{InvariantWith}
use Rattle.iom_world_invariant.proofs.DeliverKeeps.{keeps_taken, keeps_requested, keeps_heard}
use Rattle.iom_world_effects.proofs.DriverLemmas.{DriverInvariant}
use Rattle.iom_world_refinement.proofs.MessageSteps.{taken_step, obeyed_step, heard_step}
use Rattle.iom_world_effects.proofs.PartsLemmas.{StaysReady, StaysReported}
use Rattle.iom_world_invariant.proofs.QuestionKeeps.{keeps_answered}
use Rattle.iom_world_refinement.proofs.QuestionStep.{answered_step}
use Rattle.iom_world_effects.proofs.CallRefused.{same_parts}
use Rattle.iom_world_invariant.proofs.RequestStep.{shows_same}
use Rattle.iom_world_effects.proofs.ServedLemmas.{ServiceLaws}

-- where there is none, none is taken off
pub removed_none : {X : Type 0} (xs : List X) (place : ℕ) → slice_get xs place ≡ None → remove xs place ≡ xs
removed_none [] zero at = refl
removed_none [] (suc place) at = refl
removed_none (x ∷ xs) zero at = cc
removed_none (x ∷ xs) (suc place) at = ap (λ l. x ∷ l) (removed_none xs place at)

module _ {walks : List Walk} (laws : ServiceLaws) (old new : Parts) (events place : ℕ) (reply : Outcome) (invariants : InvariantWith walks old events) (own : DriverInvariant old.driver) (reported : StaysReported old.driver) where
  -- ALL STAYS TRUE
  pub keeps_arrived : StaysReady old.driver → ((id : ℕ) → epoch_in old.devices id < events) → (on : OnLink) → slice_get old.fabric place ≡ Some on
      → Arrives on.message old on.device (remove old.fabric place) reply new → InvariantWith walks new events
  keeps_arrived unchanged below on at arrives = by on.message at arrives
    where
      by : (message : Message) → slice_get old.fabric place ≡ Some (record { device = on.device; message = message }) → Arrives message old on.device (remove old.fabric place) reply new → InvariantWith walks new events
      by (sent.Ask epoch page) at arrives = keeps_answered laws old new events place on.device epoch page reply invariants own unchanged reported at arrives
      by (sent.Answer epoch page answer) at arrives = keeps_taken old new events place on.device epoch page answer reply invariants at arrives
      by (sent.InvReq serial range) at arrives = keeps_requested old new events place on.device serial range reply invariants (below on.device) at arrives
      by (sent.InvDone serial) at arrives = keeps_heard old new events place on.device serial reply invariants at arrives

  -- THE STEP
  pub delivered_step : DeliversMessage old place reply new → (state : State) → PartsShow old state → (asker page : ℕ) × Delivers asker page state reply state × PartsShow new state
  delivered_step delivers state shows = found (slice_get old.fabric place) refl delivers
    where
      arrived : (device : ℕ) (message : Message) → slice_get old.fabric place ≡ Some (record { device = device; message = message }) → Arrives message old device (remove old.fabric place) reply new
          → (asker page : ℕ) × Delivers asker page state reply state × PartsShow new state
      arrived device (sent.Ask epoch page) at arrives =
          let step = answered_step laws old new events place device epoch page reply invariants own reported at arrives state shows in (device, page, step.0, step.1)
      arrived device (sent.Answer epoch page answer) at arrives =
          let step = taken_step old new device epoch page answer (remove old.fabric place) reply arrives state shows in (0, 0, step.0, step.1)
      arrived device (sent.InvReq serial range) at arrives =
          let step = obeyed_step old new device serial range (remove old.fabric place) reply arrives state shows in (0, 0, step.0, step.1)
      arrived device (sent.InvDone serial) at arrives =
          let step = heard_step old new device serial (remove old.fabric place) reply arrives state shows in (0, 0, step.0, step.1)

      found : (on : Option OnLink) → slice_get old.fabric place ≡ on → ArrivesIfAny on old (remove old.fabric place) reply new → (asker page : ℕ) × Delivers asker page state reply state × PartsShow new state
      found None at none = (0, 0, subst (λ t. Delivers 0 0 state t state) (sym none.0) refl, shows_same old new state none.1 shows)
      found (Some on) at arrives = arrived on.device on.message at arrives

-- NO DELIVERY is told as refused
not_refused : (reply other : Outcome) (why : Refusal) → reply ≡ other → reply ≡ outcome.Refused why → other ≡ outcome.Refused why
not_refused reply other why is refused = sym is ∙ refused

never_taken : (taking : Taken) (why : Refusal) → outcome_of_taking taking ≡ outcome.Refused why → ⊥
never_taken taken.Kept why same = cc
never_taken taken.Stale why same = cc
never_taken taken.Refused why same = cc

never_into : (cache after : Option Cache) (epoch page : ℕ) (answer : Translation) (reply : Outcome) (why : Refusal) → TakesInto cache epoch page answer reply after → reply ≡ outcome.Refused why → ⊥
never_into None after epoch page answer reply why takes refused = let both = not_refused reply outcome.Ignored why takes.0 refused in cc
never_into (Some cache) after epoch page answer reply why takes refused = never_taken takes.0 why (not_refused reply (outcome_of_taking takes.0) why takes.3 refused)

never_obeyed : (serial : ℕ) (done : Option Message) (why : Refusal) → outcome_of_obeying serial done ≡ outcome.Refused why → ⊥
never_obeyed serial None why same = cc
never_obeyed serial (Some done) why same = cc

never_arrives : (message : Message) (old new : Parts) (device : ℕ) (others : List OnLink) (reply : Outcome) (why : Refusal) → Arrives message old device others reply new → reply ≡ outcome.Refused why → ⊥
never_arrives (sent.Ask epoch page) old new device others reply why arrives refused = let both = not_refused reply (outcome.Answered arrives.answer) why arrives.reply_is refused in cc
never_arrives (sent.Answer epoch page answer) old new device others reply why arrives refused =
    never_into (cache_of old.devices device) arrives.after epoch page answer reply why arrives.cache refused
never_arrives (sent.InvReq serial range) old new device others reply why arrives refused =
    never_obeyed serial arrives.done why (not_refused reply (outcome_of_obeying serial arrives.done) why arrives.reply_is refused)
never_arrives (sent.InvDone serial) old new device others reply why arrives refused =
    by arrives.closed (not_refused reply (if arrives.closed then outcome.Closed serial else outcome.NotClosed serial) why arrives.reply_is refused)
  where
    by : (b : Bool) → (if b then outcome.Closed serial else outcome.NotClosed serial) ≡ outcome.Refused why → ⊥
    by true same = cc
    by false same = cc

pub delivered_refused : (old new : Parts) (place : ℕ) (reply : Outcome) → DeliversMessage old place reply new → SameIfRefused reply old new
delivered_refused old new place reply delivers why refused = by (slice_get old.fabric place) delivers
  where
    by : (on : Option OnLink) → ArrivesIfAny on old (remove old.fabric place) reply new → AreSame old new
    by None none = same_parts old new none.1
    by (Some on) arrives = absurd (never_arrives on.message old new on.device (remove old.fabric place) reply why arrives refused)
