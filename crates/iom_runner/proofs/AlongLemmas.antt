-- What a world does along the lines of a script, and what the sink of lines takes of it.
use Rattle.std.proofs.Common.{◌≡◌, ◌+◌, ◌<◌, ◌++◌, ◌∙◌, ℕ, Bool, inl, inr, List, [], ◌∷◌, length, take, get_or, Option, None, Some, IfSome, is_some, Result, Ok, Err, refl, sym, ap, subst, subst₂, append-nil}
use Rattle.std.proofs.lemmas.List.{take_more}
use Rattle.std.proofs.lemmas.List.Elements.{All-nil, All-push}
use Rattle.std.proofs.KnownBytes.{Appends-nil}
use Rattle.iom_base.specs.declared.refusal.Refusal.{Refusal}
use Rattle.iom_machine.specs.declared.event.Event.{Event}
use Rattle.iom_machine.specs.declared.outcome.Outcome.{Outcome}
use Rattle.iom_machine.specs.declared.outcome.Trace.{Trace}
use Rattle.iom_machine.specs.declared.state.State.{State}
use Rattle.iom_machine.specs.Traces.{IsTrace}
use Rattle.iom_world.specs.Happens.{Happens}
use Rattle.iom_world.specs.Runs.{AreCounts}
use Rattle.iom_world.specs.Shown.{Shown}
use Rattle.iom_script.specs.declared.script.ScriptLine.{ScriptLine}
use Rattle.iom_script.specs.declared.script.ScriptLine.TheVariants as says
use Rattle.iom_settling.specs.Stages.{Settled}
use Rattle.iom_settling_runs.proofs.RunLemmas.{HaveOwnRows, settles}
use Rattle.iom_world.specs.Shows.{Shows}
use Rattle.iom_line_writer.specs.declared.writing.LineWriter.{LineWriter}
use Rattle.iom_line_writer.specs.Writing.{TakesText, FailsAt}
use Rattle.iom_line_writer.proofs.WritingLemmas.{takes-more, fails-later}
use Rattle.iom_runner.specs.Going.{LineHappens, WentAlong, RunsAlong, FailsAlong}
use Rattle.iom_runner.specs.LineRuns.{Answer, LineLeads, LineRun}
use Rattle.iom_runner.specs.WorldText.{IsRefusedRightly, GoesAlong, GoesBy}
use Rattle.iom_runner.specs.Text.{AreTraces, answer_line, answer_lines}
use Rattle.iom_runner.proofs.ToldLemmas.{traces_as_many, answers_more}

-- counts that are also those of the messages are those of the state
pub state_counts : (state : State) (world : Shown) (trace : Option Trace) → AreCounts state world trace → IfSome trace (IsTrace state)
state_counts state world None counts = tt
state_counts state world (Some trace) counts = counts.0

-- the counts of a run that a world goes along are those of its states
pub along_traces : (state last : State) (old new : Shown) (lines : List ScriptLine) (answers : List Answer) (traces : List (Option Trace)) (run : LineRun state lines answers last)
    → GoesAlong state old lines answers traces last run new → AreTraces state lines answers traces last run
along_traces state last old new [] [] [] run along = tt
along_traces state last old new [] [] (trace ∷ traces) run along = absurd along
along_traces state last old new [] (answer ∷ answers) traces run along = absurd run
along_traces state last old new (line ∷ lines) [] traces run along = absurd run
along_traces state last old new (line ∷ lines) (answer ∷ answers) [] run along = absurd along
along_traces state last old new (line ∷ lines) (answer ∷ answers) (trace ∷ traces) (mid, step, run) along =
    (state_counts mid along.0 trace along.2, along_traces mid last along.0 new lines answers traces run along.3)

-- a world that went along lines shows the last state
along_shows : (state last : State) (old new : Shown) (lines : List ScriptLine) (answers : List Answer) (traces : List (Option Trace)) (run : LineRun state lines answers last)
    → GoesAlong state old lines answers traces last run new → Shows new last
along_shows state last old new [] [] [] run along = along.0
along_shows state last old new [] [] (trace ∷ traces) run along = absurd along
along_shows state last old new [] (answer ∷ answers) traces run along = absurd run
along_shows state last old new (line ∷ lines) [] traces run along = absurd run
along_shows state last old new (line ∷ lines) (answer ∷ answers) [] run along = absurd along
along_shows state last old new (line ∷ lines) (answer ∷ answers) (trace ∷ traces) run along = along_shows run.0 last along.0 new lines answers traces run.2 along.3

-- AN EVENT HAPPENS
pub event_happens : (old new : Shown) (event : Event) (outcome : Outcome) (trace : Option Trace) → Happens old event outcome new
    → ((state : State) → Shows new state → AreCounts state new trace) → LineHappens old (says.Event event) (inl outcome) trace new
event_happens old new event outcome trace happens counts = λ state shows.
    let next = happens.step state shows in (next.0, next.1, ((shows, new, happens, tt, (next.2, refl)), tt), counts next.0 next.2, next.2)

-- settling is refused where the numbers of fences are used up
refused_rightly : {S : Type 0} (shown_of : S → Shown) (old new : S) (answer : Result ℕ Refusal)
    → Settled (λ (s : S). (shown_of s).parts) (λ (before : S) (event : Event) (reply : Outcome) (after : S). Happens (shown_of before) event reply (shown_of after)) old answer new
    → IsRefusedRightly (inr answer) (shown_of new)
refused_rightly shown_of old new (Ok count) settled = tt
refused_rightly shown_of old new (Err why) settled = settled.4

-- THE WORLD SETTLES
pub settling_happens : {S : Type 0} (shown_of : S → Shown) (own : (s : S) → HaveOwnRows (shown_of s)) (old new : S) (answer : Result ℕ Refusal) (trace : Option Trace)
    → Settled (λ (s : S). (shown_of s).parts) (λ (before : S) (event : Event) (reply : Outcome) (after : S). Happens (shown_of before) event reply (shown_of after)) old answer new
    → ((state : State) → Shows (shown_of new) state → AreCounts state (shown_of new) trace) → LineHappens (shown_of old) says.Settle (inr answer) trace (shown_of new)
settling_happens shown_of own old new answer trace settled counts = λ state shows.
    let next = settles shown_of own old new answer state shows settled in (next.0, next.1, (next.3, refused_rightly shown_of old new answer settled), counts next.0 next.2, next.2)

-- ONE LINE MORE
-- a step by a line, which the world goes through
abbrev Goes : State → Shown → ScriptLine → Answer → State → Shown → Type 0
Goes state old line answer last new = (step : LineLeads state line answer last) × GoesBy state old line answer last step new

-- a run that a world goes along
abbrev RanAlong : State → Shown → List ScriptLine → List Answer → List (Option Trace) → State → Shown → Type 0
RanAlong state old lines answers traces last new = (run : LineRun state lines answers last) × GoesAlong state old lines answers traces last run new

along_more : (state next last : State) (old mid new : Shown) (lines : List ScriptLine) (answers : List Answer) (traces : List (Option Trace)) (line : ScriptLine) (answer : Answer) (trace : Option Trace)
    → RanAlong state old lines answers traces next mid → Goes next mid line answer last new → AreCounts last new trace → Shows new last
    → RanAlong state old (lines ++ line ∷ []) (answers ++ answer ∷ []) (traces ++ trace ∷ []) last new
along_more state next last old mid new [] [] [] line answer trace so_far goes counts shows =
    let here = subst₂ (λ (s : State) (shown : Shown). Goes s shown line answer last new) so_far.0 so_far.1.1 goes in
    ((last, here.0, refl), (new, here.1, counts, (shows, refl)))
along_more state next last old mid new [] [] (other ∷ traces) line answer trace so_far goes counts shows = absurd so_far.1
along_more state next last old mid new [] (other ∷ answers) traces line answer trace so_far goes counts shows = absurd so_far.0
along_more state next last old mid new (other ∷ lines) [] traces line answer trace so_far goes counts shows = absurd so_far.0
along_more state next last old mid new (first ∷ lines) (reply ∷ answers) [] line answer trace so_far goes counts shows = absurd so_far.1
along_more state next last old mid new (first ∷ lines) (reply ∷ answers) (counted ∷ traces) line answer trace ((between, step, run), (later, through, are, along)) goes counts shows =
    let rest = along_more between next last later mid new lines answers traces line answer trace (run, along) goes counts shows in
    ((between, step, rest.0), (later, through, are, rest.1))

-- the same, and its text
went_more : (state : State) (old mid new : Shown) (lines : List ScriptLine) (counts : Bool) (line : ScriptLine) (answer : Answer) (trace : Option Trace) (went : WentAlong state old lines counts mid)
    → LineHappens mid line answer trace new → is_some trace ≡ counts
    → (all : WentAlong state old (lines ++ line ∷ []) counts new) × (answer_lines all.answers all.traces ≡ answer_lines went.answers went.traces ++ answer_line answer trace)
went_more state old mid new lines counts line answer trace went happens wanted =
    let next = happens went.last (along_shows state went.last old mid lines went.answers went.traces went.run went.along) in
    let whole = along_more state went.last next.0 old mid new lines went.answers went.traces line answer trace (went.run, went.along) (next.1, next.2) next.3 next.4 in (
      record {
        answers = went.answers ++ answer ∷ [];
        traces = went.traces ++ trace ∷ [];
        last = next.0;
        run = whole.0;
        along = whole.1;
        there = All-push (λ (t : Option Trace). is_some t ≡ counts) went.traces trace went.there wanted;
      },
      answers_more went.answers answer went.traces trace
          (traces_as_many state went.last lines went.answers went.traces (went.run, along_traces state went.last old mid lines went.answers went.traces went.run went.along)),
    )

-- the lines up to one and it are the first lines with one more
first_lines : (lines : List ScriptLine) (i : ℕ) (line : ScriptLine) → line ≡ get_or lines i line → i < length lines → take i lines ++ line ∷ [] ≡ take (i + 1) lines
first_lines lines i line is lt = ap (λ (l : ScriptLine). take i lines ++ l ∷ []) is ∙ sym (take_more lines i line lt)

-- no line yet
abbrev pub went_none : (state : State) (old : Shown) (counts : Bool) → Shows old state → WentAlong state old [] counts old
went_none state old counts shows = record {
  answers = [];
  traces = [];
  last = state;
  run = refl;
  along = (shows, refl);
  there = All-nil (λ (t : Option Trace). is_some t ≡ counts);
}

pub along_none : {W : Type 0} (contents : W → Option (List ℕ)) (state : State) (old : Shown) (before : LineWriter W) → Shows old state → RunsAlong contents state old [] before before old
along_none contents state old before shows = (went_none state old before.counts shows, ((refl, refl), [], Appends-nil (contents before.writer.now), append-nil before.buffer))

-- the sink takes one more
pub along_takes : {W : Type 0} (contents : W → Option (List ℕ)) (state : State) (lines : List ScriptLine) (i : ℕ) (line : ScriptLine) (answer : Answer) (trace : Option Trace)
    (before mid after : LineWriter W) (first old new : Shown) → RunsAlong contents state first (take i lines) before mid old → line ≡ get_or lines i line → i < length lines
    → LineHappens old line answer trace new → is_some trace ≡ mid.counts → TakesText contents mid (answer_line answer trace) after
    → RunsAlong contents state first (take (i + 1) lines) before after new
along_takes contents state lines i line answer trace before mid after first old new (went, took) is lt happens wanted put =
    let all = went_more state first old new (take i lines) before.counts line answer trace went happens (wanted ∙ took.0.1) in
    subst (λ (l : List ScriptLine). RunsAlong contents state first l before after new) (first_lines lines i line is lt) (
      all.0,
      subst (λ text. TakesText contents before text after) (sym all.1)
          (takes-more contents before mid after (answer_lines went.answers went.traces) (answer_line answer trace) took put),
    )

-- or fails
pub along_fails : {W : Type 0} (contents : W → Option (List ℕ)) (state : State) (lines : List ScriptLine) (i : ℕ) (line : ScriptLine) (answer : Answer) (trace : Option Trace)
    (before mid after : LineWriter W) (first old new : Shown) → RunsAlong contents state first (take i lines) before mid old → line ≡ get_or lines i line → i < length lines
    → LineHappens old line answer trace new → is_some trace ≡ mid.counts → FailsAt contents mid (answer_line answer trace) after
    → FailsAlong contents state first lines before after new
along_fails contents state lines i line answer trace before mid after first old new (went, took) is lt happens wanted failed =
    let all = went_more state first old new (take i lines) before.counts line answer trace went happens (wanted ∙ took.0.1) in
    let text = subst (λ text. FailsAt contents before text after) (sym all.1)
    (fails-later contents before mid after (answer_lines went.answers went.traces) (answer_line answer trace) took failed) in
    let failing : (these : WentAlong state first (take (i + 1) lines) before.counts new) × FailsAt contents before (answer_lines these.answers these.traces) after =
    subst (λ (l : List ScriptLine). (these : WentAlong state first l before.counts new) × FailsAt contents before (answer_lines these.answers these.traces) after)
    (first_lines lines i line is lt) (all.0, text) in
    (i + 1, failing.0, failing.1)
