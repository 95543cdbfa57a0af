-- What comes of a line of devices or hardware where a walk makes one load an event: a call, or nothing at the board.
use Rattle.std.proofs.Common.{◌≡◌, ◌⊎◌, inl, inr, ℕ, ◌==◌, ◌&&◌, if◌then◌else◌, Bool, true, false, List, [], ◌++◌, ◌∷◌, Option, None, Some, option_map, Result, Ok, Err, refl, sym, subst, ◌∙◌}
use Rattle.std.proofs.lemmas.Bool.{false≢true, and_from}
use Rattle.iom_base.specs.Accesses.{read_of, write_of}
use Rattle.iom_base.specs.declared.access.AccessKind.{AccessKind}
use Rattle.iom_base.specs.declared.access.AccessKind.TheVariants as kind
use Rattle.iom_base.specs.declared.refusal.Refusal.{Refusal}
use Rattle.iom_block_ways.proofs.SteppedLemmas.{stepped_step_calls, stepped_queue_calls}
use Rattle.iom_block_ways.specs.Calls.{AreAllThere, MakesNone, MakesNoneBeside, StaysOrCalls}
use Rattle.iom_board.specs.BoardParts.{board_parts}
use Rattle.iom_board.specs.declared.answers.NoPlace.{NoPlace}
use Rattle.iom_board.specs.declared.sender.Sender.TheVariants.{Own}
use Rattle.iom_hardware_script.specs.declared.script.HardwareLine.TheVariants as line
use Rattle.iom_hardware_session.specs.Answered.{begun_in, reply_in, cache_reply_in, sending_in, fetch_in, timeout_in, delivery_in, drop_in, repeat_in, commit_in, reset_in, plug_in, queue_in, status_in, load_in, outcome_in}
use Rattle.iom_hardware_script.specs.Grammar.{is_of_hardware, IsOfHardware}
use Rattle.iom_hardware_session.specs.Events.{IsForeign, LoadsAsAnswered, SetsQueueAsAnswered, TellsAsAnswered}
use Rattle.iom_hardware_session.specs.EventsBeside.{AddsAsAnswered, CallBeside, EffectBeside, GivesUpAsAnswered, StepsBeside}
use Rattle.iom_hardware_session.specs.Lines.{is_write, is_made_write, is_of_software}
use Rattle.iom_hardware_session.specs.Shown.{ShownHardware}
use Rattle.iom_hardware_session.specs.declared.beside.Beside.TheVariants as beside
use Rattle.iom_hardware_session.specs.declared.answer.Answer.{Answer}
use Rattle.iom_hardware_ways.specs.Calls as whole
use Rattle.iom_hardware_ways.specs.Calls.{HardwareCall}
use Rattle.iom_inflight.specs.declared.made.MadeAt.{MadeAt}
use Rattle.iom_machine.specs.declared.event.Event.{Event}
use Rattle.iom_machine.specs.declared.event.Event.TheVariants as event
use Rattle.iom_stepped_hardware.specs.declared.steps.StepOutcome.{StepOutcome}
use Rattle.iom_stepped_ways.specs.Calls as call
use Rattle.iom_stepped_ways.specs.Calls.{SteppedCall, SteppedEffect, IsNoTrustedWrite, WritesUntrusted, IsByHardware, SteppedInvariant}
use Rattle.iom_stepped_ways.specs.Laws.{AreLeft, KindsOutliveSoftware, KindsStay}
use Rattle.iom_stepped_ways.specs.Scenes.{AreForKinds}
use Rattle.iom_virtqueue.specs.Layouts.{layout_of}
use Rattle.iom_virtqueue.specs.declared.layout.Layout.{Layout}
use Rattle.iom_walks.specs.Walks.{UnderWay, WalkRow, new_row, row_of, under_way_in, under_way_of}
use Rattle.iom_way_survey.specs.Surveys.{is_id_among}

-- the board and what is under way stay, or hardware does this by a call, and no device that is trusted writes
abbrev pub StaysOrDoes : List ℕ → ShownHardware → List WalkRow → ShownHardware → List WalkRow → Type 0
StaysOrDoes trusted old rows new new_rows =
    ((board_parts new.board ≡ board_parts old.board) × (new_rows ≡ rows))
    ⊎ ((done : SteppedCall) × SteppedEffect done (board_parts old.board) rows (board_parts new.board) new_rows × IsByHardware (is_id_among trusted) done)

-- a call that makes no access is one by hardware
pub none_made : (trusted : ℕ → Bool) (done : HardwareCall) → MakesNone done → WritesUntrusted trusted done
none_made trusted (whole.Commit id answer) none = absurd none
none_made trusted (whole.Request sender id access answer) none = tt
none_made trusted (whole.Translated id access answer) none = tt
none_made trusted (whole.ThroughCache sender id access answer) none = tt
none_made trusted (whole.Ask id page answer) none = tt
none_made trusted (whole.AskAtStep id page) none = tt
none_made trusted (whole.Forge id serial answer) none = tt
none_made trusted (whole.Fetch fetched) none = tt
none_made trusted (whole.Timeout has_effect) none = tt
none_made trusted (whole.Deliver place delivered) none = tt
none_made trusted (whole.Drop place found) none = tt
none_made trusted (whole.Repeat place again) none = tt
none_made trusted (whole.Reset id answer) none = tt

none_made_beside : (trusted : ℕ → Bool) (done : SteppedCall) → MakesNoneBeside done → IsByHardware trusted done
none_made_beside trusted (call.Alone own) none = none_made trusted own none
none_made_beside trusted (call.Begin sender id access answer) none = tt
none_made_beside trusted (call.Load id answer) none = tt
none_made_beside trusted (call.TranslatedBeside id access answer) none = tt
none_made_beside trusted (call.ThroughCacheBeside sender id access answer) none = tt
none_made_beside trusted (call.FetchBeside fetched) none = tt
none_made_beside trusted (call.ResetBeside id answer) none = tt

-- a commit that isn't a trusted device's write
pub untrusted_commit : (trusted : List ℕ) (id : ℕ) (answer : Result (Option MadeAt) Refusal) → (is_made_write (Some answer) && is_id_among trusted id) ≡ false
    → IsNoTrustedWrite (is_id_among trusted) id answer
untrusted_commit trusted id (Ok (Some made)) none = λ among write. false≢true (sym none ∙ and_from (is_write made.kind) (is_id_among trusted id) (writing made.kind write) among)
  where
    writing : (k : AccessKind) → k ≡ kind.Write → is_write k ≡ true
    writing k e = rw e refl
untrusted_commit trusted id (Ok None) none = tt
untrusted_commit trusted id (Err why) none = tt

module _ (trusted : List ℕ) (old new : ShownHardware) (rows new_rows : List WalkRow) where
  by_block : StaysOrCalls (board_parts old.board) rows (board_parts new.board) new_rows → StaysOrDoes trusted old rows new new_rows
  by_block (inl same) = inl same
  by_block (inr (done, effect, none)) = inr (done, effect, none_made_beside (is_id_among trusted) done none)

  by_call : {X : Type 0} (of : X → SteppedCall) (answer : Option X) → ((x : X) → answer ≡ Some x → IsByHardware (is_id_among trusted) (of x))
      → CallBeside (option_map of answer) old rows new new_rows → StaysOrDoes trusted old rows new new_rows
  by_call of None own effect = absurd effect
  by_call of (Some x) own effect = inr (of x, effect.0, own x refl)

  -- a call of the board alone
  alone : {X : Type 0} (of : X → HardwareCall) (answer : Option X) → ((x : X) → answer ≡ Some x → WritesUntrusted (is_id_among trusted) (of x))
      → CallBeside (option_map call.Alone (option_map of answer)) old rows new new_rows → StaysOrDoes trusted old rows new new_rows
  alone of None own effect = absurd effect
  alone of (Some x) own effect = inr (call.Alone (of x), effect.0, own x refl)

  loads : (address len : ℕ) (answer : Option (Result (Unit {0}) NoPlace)) → LoadsAsAnswered answer address len old new × (new_rows ≡ rows) → StaysOrDoes trusted old rows new new_rows
  loads address len None effect = absurd effect.0
  loads address len (Some answer) effect = inl (effect.0.1.parts, effect.1)

  tells : (device : ℕ) (answer : Option (Result ℕ Refusal)) → TellsAsAnswered answer device old new × (new_rows ≡ rows) → StaysOrDoes trusted old rows new new_rows
  tells device None effect = absurd effect.0
  tells device (Some answer) effect = inl (effect.0.1.parts, effect.1)

  steps : (device : ℕ) (answer : Option (Result StepOutcome Refusal)) → AreAllThere (board_parts old.board) old.inside → StepsBeside answer device old rows new new_rows
      → StaysOrDoes trusted old rows new new_rows
  steps device None all effect = absurd effect
  steps device (Some answer) all effect =
      by_block (stepped_step_calls (board_parts old.board) (board_parts new.board) rows new_rows old.inside new.inside device answer all effect.0)

  sets : (device : ℕ) (layout : Layout) (answer : Option (Result (Unit {0}) Refusal)) → SetsQueueAsAnswered answer device layout old new × GivesUpAsAnswered answer device rows new_rows
      → StaysOrDoes trusted old rows new new_rows
  sets device layout None effect = absurd effect.0
  sets device layout (Some answer) effect =
      by_block (stepped_queue_calls (board_parts old.board) (board_parts new.board) rows new_rows device layout answer effect.0.0 effect.1.0 effect.1.1)

  commits : (id : ℕ) (answer : Option (Result (Option MadeAt) Refusal)) → (is_made_write answer && is_id_among trusted id) ≡ false
      → CallBeside (option_map call.Alone (option_map (whole.Commit id) answer)) old rows new new_rows → StaysOrDoes trusted old rows new new_rows
  commits id None none effect = absurd effect
  commits id (Some answer) none effect = inr (call.Alone (whole.Commit id answer), effect.0, untrusted_commit trusted id answer none)

  -- AN EVENT that isn't of software stays, or is a call by hardware
  pub effect_beside : (said : Event) (answer : Answer) → is_of_software (line.Event said) answer trusted ≡ false → AreAllThere (board_parts old.board) old.inside
      → EffectBeside said answer old rows new new_rows → StaysOrDoes trusted old rows new new_rows
  effect_beside (event.Plug device what) answer soft all effect = absurd (false≢true (sym soft))
  effect_beside (event.Poke address bytes) answer soft all effect = absurd (false≢true (sym soft))
  effect_beside (event.Medium device disk) answer soft all effect = absurd (false≢true (sym soft))
  effect_beside (event.Peek address len) answer soft all effect = loads address len (load_in answer) effect
  effect_beside (event.Read device address len) answer soft all effect = by_call (call.Begin Own device (read_of address len)) (begun_in answer) (λ x is. tt) effect
  effect_beside (event.Write device address bytes) answer soft all effect = by_call (call.Begin Own device (write_of address bytes)) (begun_in answer) (λ x is. tt) effect
  effect_beside (event.ReadTranslated device address len) answer soft all effect = by_call (call.TranslatedBeside device (read_of address len)) (reply_in answer) (λ x is. tt) effect
  effect_beside (event.WriteTranslated device address bytes) answer soft all effect = by_call (call.TranslatedBeside device (write_of address bytes)) (reply_in answer) (λ x is. tt) effect
  effect_beside (event.ReadThroughCache device address len) answer soft all effect = by_call (call.ThroughCacheBeside Own device (read_of address len)) (cache_reply_in answer) (λ x is. tt) effect
  effect_beside (event.WriteThroughCache device address bytes) answer soft all effect = by_call (call.ThroughCacheBeside Own device (write_of address bytes)) (cache_reply_in answer) (λ x is. tt) effect
  effect_beside (event.Ask device page) answer soft all effect = alone (whole.Ask device page) (sending_in answer) (λ x is. tt) effect
  effect_beside (event.Forge device serial) answer soft all effect = alone (whole.Forge device serial) (sending_in answer) (λ x is. tt) effect
  effect_beside event.Fetch answer soft all effect = by_call call.FetchBeside (fetch_in answer) (λ x is. tt) effect
  effect_beside event.Timeout answer soft all effect = alone whole.Timeout (timeout_in answer) (λ x is. tt) effect
  effect_beside (event.Deliver place) answer soft all effect = alone (whole.Deliver place) (delivery_in answer) (λ x is. tt) effect
  effect_beside (event.Drop place) answer soft all effect = alone (whole.Drop place) (drop_in answer) (λ x is. tt) effect
  effect_beside (event.Repeat place) answer soft all effect = alone (whole.Repeat place) (repeat_in answer) (λ x is. tt) effect
  effect_beside (event.Reset device) answer soft all effect = by_call (call.ResetBeside device) (reset_in answer) (λ x is. tt) effect
  effect_beside (event.Commit device) answer soft all effect = commits device (commit_in answer) soft effect
  effect_beside (event.Queue device size descriptors available used) answer soft all effect = sets device (layout_of size descriptors available used) (queue_in answer) effect
  effect_beside (event.Step device) answer soft all effect = steps device (outcome_in answer) all effect
  effect_beside (event.Status device) answer soft all effect = tells device (status_in answer) effect
  effect_beside (event.Attach device mode ats) answer soft all effect = absurd effect
  effect_beside (event.Detach device) answer soft all effect = absurd effect
  effect_beside (event.Grant device page frame rights) answer soft all effect = absurd effect
  effect_beside (event.Release device page) answer soft all effect = absurd effect
  effect_beside (event.Quarantine device) answer soft all effect = absurd effect
  effect_beside (event.Revive device) answer soft all effect = absurd effect
  effect_beside event.Restart answer soft all effect = absurd effect
  effect_beside event.Poll answer soft all effect = absurd effect
  effect_beside event.Faults answer soft all effect = absurd effect
  effect_beside (event.Free frame) answer soft all effect = absurd effect

-- WHAT IS UNDER WAY after it

-- a device that is plugged in has nothing under way, and the others have what they had
pushed_left : (rows : List WalkRow) (device id : ℕ) (own : UnderWay) → under_way_of (rows ++ new_row device ∷ []) id ≡ Some own → under_way_of rows id ≡ Some own
pushed_left [] device id own is = by (device == id) is
  where
    by : (b : Bool) → under_way_in (if b then Some (new_row device) else None) ≡ Some own → under_way_in None ≡ Some own
    by true e = e
    by false e = e
pushed_left (row ∷ rows) device id own is = by (row.device == id) is (λ e. pushed_left rows device id own e)
  where
    by : (b : Bool) → under_way_in (if b then Some row else row_of (rows ++ new_row device ∷ []) id) ≡ Some own
        → (under_way_of (rows ++ new_row device ∷ []) id ≡ Some own → under_way_of rows id ≡ Some own) → under_way_in (if b then Some row else row_of rows id) ≡ Some own
    by true e later = e
    by false e later = later e

plugged_left : (answer : Option (Result (Unit {0}) Refusal)) (device : ℕ) (rows new_rows : List WalkRow) → AddsAsAnswered answer device rows new_rows → AreLeft rows new_rows
plugged_left None device rows new_rows adds = absurd adds
plugged_left (Some (Ok done)) device rows new_rows adds = λ id own is. pushed_left rows device id own (subst (λ (all : List WalkRow). under_way_of all id ≡ Some own) adds.0.2 is)
plugged_left (Some (Err why)) device rows new_rows adds = λ id own is. subst (λ (all : List WalkRow). under_way_of all id ≡ Some own) adds.1 is

no_write_of_nobody : (b : Bool) → (b && false) ≡ false
no_write_of_nobody true = refl
no_write_of_nobody false = refl

module _ (stay : KindsStay) (outlive : KindsOutliveSoftware) (old new : ShownHardware) (rows new_rows : List WalkRow) (events : ℕ)
    (invariants : SteppedInvariant (board_parts old.board) rows events) (kinds : AreForKinds rows) where
  same_kinds : new_rows ≡ rows → AreForKinds new_rows
  same_kinds same = subst AreForKinds (sym same) kinds

  pub kinds_of : StaysOrDoes [] old rows new new_rows → AreForKinds new_rows
  kinds_of (inl same) = same_kinds same.1
  kinds_of (inr (done, effect, own)) = stay done events (board_parts old.board) (board_parts new.board) rows new_rows invariants effect kinds

  -- each walk is still for the kind of access that its request asks for
  pub kinds_after : (said : Event) (answer : Answer) → AreAllThere (board_parts old.board) old.inside → EffectBeside said answer old rows new new_rows → AreForKinds new_rows
  kinds_after (event.Plug device what) answer all effect = outlive rows new_rows (plugged_left (plug_in answer) device rows new_rows effect.1) kinds
  kinds_after (event.Poke address bytes) answer all effect = same_kinds effect.1
  kinds_after (event.Medium device disk) answer all effect = same_kinds effect.1
  kinds_after (event.Peek address len) answer all effect = same_kinds effect.1
  kinds_after (event.Status device) answer all effect = same_kinds effect.1
  kinds_after (event.Commit device) answer all effect =
      kinds_of (effect_beside [] old new rows new_rows (event.Commit device) answer (no_write_of_nobody (is_made_write (commit_in answer))) all effect)
  kinds_after (event.Read device address len) answer all effect = kinds_of (effect_beside [] old new rows new_rows (event.Read device address len) answer refl all effect)
  kinds_after (event.Write device address bytes) answer all effect = kinds_of (effect_beside [] old new rows new_rows (event.Write device address bytes) answer refl all effect)
  kinds_after (event.ReadTranslated device address len) answer all effect = kinds_of (effect_beside [] old new rows new_rows (event.ReadTranslated device address len) answer refl all effect)
  kinds_after (event.WriteTranslated device address bytes) answer all effect = kinds_of (effect_beside [] old new rows new_rows (event.WriteTranslated device address bytes) answer refl all effect)
  kinds_after (event.ReadThroughCache device address len) answer all effect = kinds_of (effect_beside [] old new rows new_rows (event.ReadThroughCache device address len) answer refl all effect)
  kinds_after (event.WriteThroughCache device address bytes) answer all effect = kinds_of (effect_beside [] old new rows new_rows (event.WriteThroughCache device address bytes) answer refl all effect)
  kinds_after (event.Ask device page) answer all effect = kinds_of (effect_beside [] old new rows new_rows (event.Ask device page) answer refl all effect)
  kinds_after (event.Forge device serial) answer all effect = kinds_of (effect_beside [] old new rows new_rows (event.Forge device serial) answer refl all effect)
  kinds_after event.Fetch answer all effect = kinds_of (effect_beside [] old new rows new_rows event.Fetch answer refl all effect)
  kinds_after event.Timeout answer all effect = kinds_of (effect_beside [] old new rows new_rows event.Timeout answer refl all effect)
  kinds_after (event.Deliver place) answer all effect = kinds_of (effect_beside [] old new rows new_rows (event.Deliver place) answer refl all effect)
  kinds_after (event.Drop place) answer all effect = kinds_of (effect_beside [] old new rows new_rows (event.Drop place) answer refl all effect)
  kinds_after (event.Repeat place) answer all effect = kinds_of (effect_beside [] old new rows new_rows (event.Repeat place) answer refl all effect)
  kinds_after (event.Reset device) answer all effect = kinds_of (effect_beside [] old new rows new_rows (event.Reset device) answer refl all effect)
  kinds_after (event.Queue device size descriptors available used) answer all effect =
      kinds_of (effect_beside [] old new rows new_rows (event.Queue device size descriptors available used) answer refl all effect)
  kinds_after (event.Step device) answer all effect = kinds_of (effect_beside [] old new rows new_rows (event.Step device) answer refl all effect)
  kinds_after (event.Attach device mode ats) answer all effect = absurd effect
  kinds_after (event.Detach device) answer all effect = absurd effect
  kinds_after (event.Grant device page frame rights) answer all effect = absurd effect
  kinds_after (event.Release device page) answer all effect = absurd effect
  kinds_after (event.Quarantine device) answer all effect = absurd effect
  kinds_after (event.Revive device) answer all effect = absurd effect
  kinds_after event.Restart answer all effect = absurd effect
  kinds_after event.Poll answer all effect = absurd effect
  kinds_after event.Faults answer all effect = absurd effect
  kinds_after (event.Free frame) answer all effect = absurd effect

  -- so after any event: one that is none of hardware leaves what is under way
  pub kinds_after_any : (said : Event) (answer : Answer) → AreAllThere (board_parts old.board) old.inside → (IsOfHardware said → EffectBeside said answer old rows new new_rows)
      → (is_of_hardware said ≡ false → IsForeign answer (record old { beside = beside.UnderWay rows }) (record new { beside = beside.UnderWay new_rows })) → AreForKinds new_rows
  kinds_after_any said answer all effect foreign = by (is_of_hardware said) refl
    where
      inside : beside.UnderWay new_rows ≡ beside.UnderWay rows → new_rows ≡ rows
      inside e = cc

      by : (b : Bool) → is_of_hardware said ≡ b → AreForKinds new_rows
      by true is = kinds_after said answer all (effect is)
      by false is = same_kinds (inside (foreign is).1.beside)
