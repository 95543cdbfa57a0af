-- Runs over the lines of a script, and the events of such a run, those of each settling in its place.
use Rattle.std.proofs.Common.{◌≡◌, ◌⊎◌, ◌++◌, ℕ, inl, inr, List, [], ◌∷◌, Result, refl, subst}
use Rattle.iom_base.specs.declared.refusal.Refusal.{Refusal}
use Rattle.iom_machine.specs.declared.event.Event.{Event}
use Rattle.iom_machine.specs.declared.outcome.Outcome.{Outcome}
use Rattle.iom_machine.specs.declared.state.State.{State}
use Rattle.iom_machine.specs.Machine.{Step, Run}
use Rattle.iom_machine.specs.Reclaim.{Reclaims}
use Rattle.iom_script.specs.declared.script.ScriptLine.{ScriptLine}
use Rattle.iom_script.specs.declared.script.ScriptLine.TheVariants as says
use Rattle.iom_settling.specs.Settles.{Ran, Settles, ran_in}

-- what a line is answered: the outcome of its event; or what settling answers
abbrev pub Answer : Type 0
Answer = Outcome ⊎ Result ℕ Refusal

-- a line that is answered so leads the machine from this state to that
abbrev pub LineLeads : State → ScriptLine → Answer → State → Type 0
LineLeads old (says.Event event) (inl outcome) new = Step old event outcome new
LineLeads old says.Settle (inr answer) new = Settles old answer new
LineLeads old _ _ new = ⊥

-- and lines, one after another
abbrev pub LineRun : State → List ScriptLine → List Answer → State → Type 0
LineRun old [] [] new = new ≡ old
LineRun old (line ∷ lines) (answer ∷ answers) new = (mid : State) × LineLeads old line answer mid × LineRun mid lines answers new
LineRun old _ _ new = ⊥

-- THE EVENTS OF A LINE: one, or those of the settling
abbrev pub unrolled_line : (old : State) (line : ScriptLine) (answer : Answer) (new : State) → LineLeads old line answer new → Ran old new
unrolled_line old (says.Event event) (inl outcome) new step = record { events = event ∷ []; outcomes = outcome ∷ []; run = (new, step, refl) }
unrolled_line old says.Settle (inr answer) new step = ran_in old answer new step
unrolled_line old (says.Event event) (inr answer) new step = absurd step
unrolled_line old says.Settle (inl outcome) new step = absurd step

-- a run, and then another
abbrev pub run_after : (old mid new : State) (events later : List Event) (outcomes reply : List Outcome) → Run old events outcomes mid → Run mid later reply new
    → Run old (events ++ later) (outcomes ++ reply) new
run_after old mid new [] later [] reply first rest = subst (λ (state : State). Run state later reply new) first rest
run_after old mid new [] later (outcome ∷ outcomes) reply first rest = absurd first
run_after old mid new (event ∷ events) later [] reply first rest = absurd first
run_after old mid new (event ∷ events) later (outcome ∷ outcomes) reply (next, step, first) rest =
    (next, step, run_after next mid new events later outcomes reply first rest)

abbrev pub one_after : (old mid new : State) → Ran old mid → Ran mid new → Ran old new
one_after old mid new first rest = record {
  events = first.events ++ rest.events;
  outcomes = first.outcomes ++ rest.outcomes;
  run = run_after old mid new first.events rest.events first.outcomes rest.outcomes first.run rest.run;
}

-- THE UNROLLED RUN: the events of all lines
abbrev pub unrolled : (old : State) (lines : List ScriptLine) (answers : List Answer) (new : State) → LineRun old lines answers new → Ran old new
unrolled old [] [] new run = record { events = []; outcomes = []; run = run }
unrolled old [] (answer ∷ answers) new run = absurd run
unrolled old (line ∷ lines) [] new run = absurd run
unrolled old (line ∷ lines) (answer ∷ answers) new (mid, step, run) = one_after old mid new (unrolled_line old line answer mid step) (unrolled mid lines answers new run)

-- the sentences of the headline hold of these events, one after another
abbrev pub ReclaimsIn : (old new : State) → Ran old new → Type 0
ReclaimsIn old new ran = Reclaims old ran.events ran.outcomes new ran.run
