-- What settling does to a world beside which requests are under way.
use Rattle.std.proofs.Common.{◌≡◌, ◌≢◌, ℕ, List, [], ◌∷◌, Result, Ok, Err, refl, sym, subst}
use Rattle.std.proofs.Math.Logic.{∥∥₁_elim, ∥∥₁_map, ∥∥₁_prop}
use Rattle.iom_base.specs.declared.refusal.Refusal.{Refusal}
use Rattle.iom_machine.specs.declared.event.Event.{Event}
use Rattle.iom_machine.specs.declared.event.Event.TheVariants as events
use Rattle.iom_machine.specs.declared.outcome.Outcome.{Outcome}
use Rattle.iom_settling.specs.Kinds.{IsSettling}
use Rattle.iom_settling.specs.Stages.{Settled}
use Rattle.iom_settling.specs.Went.{Takes}
use Rattle.iom_stepped_machine.specs.Machine.{Answer, SteppedOutcome, SteppedState, Whole}
use Rattle.iom_stepped_refinement.specs.Effect.{HappensSo, WholeEffect}
use Rattle.iom_stepped_refinement.specs.Runs.{EventNamesFit, EventsAreSteps, EventsKeepFacts, ShowsMoment}
use Rattle.iom_stepped_world.specs.Others.{LeavesWalks}
use Rattle.iom_stepped_world.specs.Settling.{SettlesAsRun, TakesSo}
use Rattle.iom_stepped_world.specs.Shown.{moment, stepped_of}
use Rattle.iom_stepped_world.specs.declared.world.SteppedWorld.{SteppedWorld}
use Rattle.iom_stepped_world.proofs.HappensLemmas.{happened}
use Rattle.iom_virtio_blk.specs.declared.disk.Disk.{Ghosts}
use Rattle.iom_walks.specs.Invariant.{AreWalks}
use Rattle.iom_walks.specs.Walks.{WalkRow}
use Rattle.iom_world.specs.Shown.{parts_of}
use Rattle.iom_world_effects.specs.Effect.{Effect}
use Rattle.iom_world_effects.specs.Parts.{Parts}

-- what is under way has a part in a fetch alone
pub settling_leaves : (event : Event) → IsSettling event → event ≢ events.Fetch → LeavesWalks event
settling_leaves (events.Commit id) settling other = tt
settling_leaves (events.Deliver place) settling other = tt
settling_leaves events.Restart settling other = tt
settling_leaves events.Poll settling other = tt
settling_leaves events.Fetch settling other = absurd (other refl)
settling_leaves _ settling other = absurd settling

-- as an event of a world without walks
as_told : (disks : List ℕ) (old new : Parts) (rows new_rows : List WalkRow) (event : Event) (reply : Outcome) → HappensSo disks old rows event (Answer reply) new new_rows → Effect disks old event reply new
as_told disks old new rows new_rows event reply so =
    let told : ◌≡◌ {A = SteppedOutcome} (Answer reply) (Answer so.answered) = so.told in
    let same : so.answered ≡ reply = cc in
    subst (λ (o : Outcome). Effect disks old event o new) same so.effect

pub effect_by : (disks : List ℕ) (old new : Parts) (rows new_rows : List WalkRow) (event : Event) (reply : Outcome) → IsSettling event → WholeEffect disks old rows event (Answer reply) new new_rows
    → Effect disks old event reply new
effect_by disks old new rows new_rows (events.Commit id) reply settling so = as_told disks old new rows new_rows (events.Commit id) reply so
effect_by disks old new rows new_rows (events.Deliver place) reply settling so = as_told disks old new rows new_rows (events.Deliver place) reply so
effect_by disks old new rows new_rows events.Restart reply settling so = as_told disks old new rows new_rows events.Restart reply so
effect_by disks old new rows new_rows events.Poll reply settling so = as_told disks old new rows new_rows events.Poll reply so
effect_by disks old new rows new_rows events.Fetch reply settling so =
    let told : ◌≡◌ {A = SteppedOutcome} (Answer reply) (Answer so.answered) = so.told in
    let same : so.answered ≡ reply = cc in
    subst (λ (o : Outcome). Effect disks old events.Fetch o new) same so.fetches
effect_by disks old new rows new_rows _ reply settling so = absurd settling

pub names : (event : Event) → IsSettling event → EventNamesFit (Whole event)
names (events.Commit id) settling = tt
names (events.Deliver place) settling = tt
names events.Restart settling = tt
names events.Poll settling = tt
names events.Fetch settling = tt
names _ settling = absurd settling

module _ {D : Type 0} {d : Ghosts D} where
  module _ (keeps : EventsKeepFacts) (steps : EventsAreSteps) where
    abbrev Takings : SteppedWorld D d → List Event → List Outcome → SteppedWorld D d → Type 0
    Takings = Takes (λ old event reply new. TakesSo d.shown old event reply new)

    run_behind : (old new : SteppedWorld D d) (its : List Event) (replies : List Outcome) (state : SteppedState) → AreWalks old.walks
        → ShowsMoment (moment (stepped_of d.shown old.world old.walks)) state → Takings old its replies new → ∥ SettlesAsRun state (stepped_of d.shown new.world new.walks) ∥₁
    run_behind old new [] [] state walks shows same = ∣ record {
      events = [];
      outcomes = [];
      last = state;
      kinds = tt;
      run = refl;
      shows = subst (λ (s : SteppedWorld D d). ShowsMoment (moment (stepped_of d.shown s.world s.walks)) state) (sym same) shows;
    } ∣₁
    run_behind old new [] (reply ∷ replies) state walks shows takes = absurd takes
    run_behind old new (event ∷ its) [] state walks shows takes = absurd takes
    run_behind old new (event ∷ its) (reply ∷ replies) state walks shows (mid, takes, rest) =
        let here = happened d.shown keeps steps old.world mid.world old.walks mid.walks (Whole event) (Answer reply) walks takes.walks old.sound (names event takes.settling) takes.does mid.sound.beside in
        ∥∥₁_elim (here.step state shows) ∥∥₁_prop (λ next.
        ∥∥₁_map (run_behind mid new its replies next.0 takes.walks next.2 rest) (λ later. record {
          events = event ∷ later.events;
          outcomes = reply ∷ later.outcomes;
          last = later.last;
          kinds = (takes.settling, later.kinds);
          run = (next.0, next.1, later.run);
          shows = later.shows;
        }))

    -- whatever settling answers
    pub settled_run : (old new : SteppedWorld D d) (answer : Result ℕ Refusal) (state : SteppedState) → AreWalks old.walks → ShowsMoment (moment (stepped_of d.shown old.world old.walks)) state
        → Settled (λ (s : SteppedWorld D d). parts_of s.world) (λ old event reply new. TakesSo d.shown old event reply new) old answer new
        → ∥ SettlesAsRun state (stepped_of d.shown new.world new.walks) ∥₁
    settled_run old new (Ok count) state walks shows settled = run_behind old new settled.0.events settled.0.outcomes state walks shows settled.0.takes
    settled_run old new (Err why) state walks shows settled = run_behind old new settled.1.1.events settled.1.1.outcomes state walks shows settled.1.1.takes
