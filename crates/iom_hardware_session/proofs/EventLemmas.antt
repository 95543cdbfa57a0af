-- What comes of a line of devices or hardware is a call of hardware, or nothing.
use Rattle.std.proofs.Common.{◌≡◌, ◌⊎◌, inl, inr, ℕ, ◌&&◌, Bool, true, false, List, Option, None, Some, option_map, Result, Ok, Err, refl, sym, ap, ◌∙◌}
use Rattle.std.proofs.lemmas.Bool.{false≢true}
use Rattle.iom_base.specs.declared.refusal.Refusal.{Refusal}
use Rattle.iom_base.specs.Accesses.{read_of, write_of}
use Rattle.iom_board.specs.BoardParts.{BoardParts, board_parts}
use Rattle.iom_board.specs.declared.board.Board.{Board}
use Rattle.iom_board.specs.declared.sender.Sender.TheVariants.{Own}
use Rattle.iom_hardware_ways.specs.Calls.{HardwareCall, CallEffect, HarmlessEffect, IsMadeHarmlessly}
use Rattle.iom_hardware_ways.specs.Calls as call
use Rattle.iom_hardware_script.specs.declared.script.HardwareLine.TheVariants as line
use Rattle.iom_hardware.specs.declared.steps.Stepped.{Stepped}
use Rattle.iom_block_ways.proofs.WholeLemmas.{step_calls, queue_calls}
use Rattle.iom_block_ways.specs.Calls.{UnchangedOrCalls, AreAllThere}
use Rattle.iom_iommu.specs.declared.begun.Load.{Load}
use Rattle.iom_hardware_session.specs.EventsPointed.{bare}
use Rattle.iom_hardware_session.specs.declared.beside.Beside.{Beside}
use Rattle.iom_hardware_session.specs.declared.beside.Beside.TheVariants.{Nothing, UnderWay, Pointers}
use Rattle.iom_stepped_ways.specs.Calls.{IsNoTrustedWrite, WritesUntrusted}
use Rattle.iom_stepped_ways.specs.Calls as stepped
use Rattle.iom_walks.specs.Walks.{WalkRow}
use Rattle.iom_hardware_script.specs.Grammar.{is_of_hardware}
use Rattle.iom_hardware_session.specs.Answered.{reply_in, cache_reply_in, sending_in, fetch_in, timeout_in, delivery_in, drop_in, repeat_in, commit_in, reset_in, load_in, queue_in, step_in, status_in, walk_load_in}
use Rattle.iom_hardware_session.proofs.PointedEventLemmas.{DoesPlainly, pointed_by}
use Rattle.iom_hardware_session.proofs.SteppedEventLemmas.{effect_beside, none_made, untrusted_commit}
use Rattle.iom_hardware_session.proofs.BesideTurnLemmas.{DoesByCall}
use Rattle.iom_hardware_session.specs.Events.{CallOrNothing, EventEffect, Unchanged, LoadsAsAnswered, StepsAsAnswered, SetsQueueAsAnswered, TellsAsAnswered}
use Rattle.iom_hardware_session.specs.EventsBeside.{CallBeside}
use Rattle.iom_hardware_session.specs.Paces.{EventBy, EventOrNone, LoadsBy}
use Rattle.iom_hardware_session.specs.Shown.{ShownHardware}
use Rattle.iom_hardware_session.specs.Lines.{is_made_write, is_of_software}
use Rattle.iom_hardware_session.specs.declared.answer.Answer.{Answer}
use Rattle.iom_board.specs.declared.answers.NoPlace.{NoPlace}
use Rattle.iom_inflight.specs.declared.made.MadeAt.{MadeAt}
use Rattle.iom_machine.specs.declared.event.Event.{Event}
use Rattle.iom_machine.specs.declared.event.Event.TheVariants as event
use Rattle.iom_virtqueue.specs.Layouts.{layout_of}
use Rattle.iom_virtqueue.specs.declared.layout.Layout.{Layout}
use Rattle.iom_way_survey.specs.Surveys.{is_id_among}

-- hardware does this by a call, and no device that is trusted writes
abbrev pub EffectByCall : List ℕ → Board → Board → Type 0
EffectByCall trusted old new = (done : HardwareCall) × CallEffect done (board_parts old) (board_parts new) × WritesUntrusted (is_id_among trusted) done

-- nothing is done at the board, or something by a call
abbrev pub UnchangedOrEffect : List ℕ → ShownHardware → ShownHardware → Type 0
UnchangedOrEffect trusted old new = (board_parts new.board ≡ board_parts old.board) ⊎ EffectByCall trusted old.board new.board

-- so does a block device at a line of its own
by_block : (trusted : List ℕ) (old new : ShownHardware) → UnchangedOrCalls (board_parts old.board) (board_parts new.board) → UnchangedOrEffect trusted old new
by_block trusted old new (inl same) = inl same
by_block trusted old new (inr (done, effect, none)) = inr (done, effect, none_made (is_id_among trusted) done none)

by_call : {X : Type 0} (trusted : List ℕ) (old new : ShownHardware) (of : X → HardwareCall) (answer : Option X) → ((x : X) → answer ≡ Some x → WritesUntrusted (is_id_among trusted) (of x))
    → CallOrNothing (option_map of answer) old new → UnchangedOrEffect trusted old new
by_call trusted old new of None own effect = absurd effect
by_call trusted old new of (Some x) own effect = inr (of x, effect.0, own x refl)

loads_nothing : (old new : ShownHardware) (address len : ℕ) (answer : Option (Result (Unit {0}) NoPlace)) → LoadsAsAnswered answer address len old new → Unchanged old new
loads_nothing old new address len None effect = absurd effect
loads_nothing old new address len (Some answer) effect = effect.1

steps : (trusted : List ℕ) (old new : ShownHardware) (device : ℕ) (answer : Option (Result Stepped Refusal)) → StepsAsAnswered answer device old new → UnchangedOrEffect trusted old new
steps trusted old new device None effect = absurd effect
steps trusted old new device (Some answer) effect =
    by_block trusted old new (step_calls (board_parts old.board) (board_parts new.board) old.inside new.inside device answer effect.0 effect.1)

sets : (trusted : List ℕ) (old new : ShownHardware) (device : ℕ) (layout : Layout) (answer : Option (Result (Unit {0}) Refusal)) → SetsQueueAsAnswered answer device layout old new
    → UnchangedOrEffect trusted old new
sets trusted old new device layout None effect = absurd effect
sets trusted old new device layout (Some answer) effect = by_block trusted old new (queue_calls (board_parts old.board) (board_parts new.board) device layout answer effect.0)

tells_nothing : (old new : ShownHardware) (device : ℕ) (answer : Option (Result ℕ Refusal)) → TellsAsAnswered answer device old new → Unchanged old new
tells_nothing old new device None effect = absurd effect
tells_nothing old new device (Some answer) effect = effect.1

commits : (trusted : List ℕ) (old new : ShownHardware) (id : ℕ) (answer : Option (Result (Option MadeAt) Refusal)) → (is_made_write answer && is_id_among trusted id) ≡ false
    → CallOrNothing (option_map (call.Commit id) answer) old new → UnchangedOrEffect trusted old new
commits trusted old new id None none effect = absurd effect
commits trusted old new id (Some answer) none effect = inr (call.Commit id answer, effect.0, untrusted_commit trusted id answer none)

-- AN EVENT that isn't of software stays, or is a call of hardware, where a walk is one event
whole_effect : (trusted : List ℕ) (old new : ShownHardware) (said : Event) (answer : Answer) → is_of_software (line.Event said) answer trusted ≡ false → EventEffect said answer old new
    → UnchangedOrEffect trusted old new
whole_effect trusted old new (event.Plug device what) answer soft effect = absurd (false≢true (sym soft))
whole_effect trusted old new (event.Poke address bytes) answer soft effect = absurd (false≢true (sym soft))
whole_effect trusted old new (event.Peek address len) answer soft effect = inl (loads_nothing old new address len (load_in answer) effect).parts
whole_effect trusted old new (event.Read device address len) answer soft effect = by_call trusted old new (call.Request Own device (read_of address len)) (reply_in answer) (λ x is. tt) effect
whole_effect trusted old new (event.Write device address bytes) answer soft effect = by_call trusted old new (call.Request Own device (write_of address bytes)) (reply_in answer) (λ x is. tt) effect
whole_effect trusted old new (event.ReadTranslated device address len) answer soft effect = by_call trusted old new (call.Translated device (read_of address len)) (reply_in answer) (λ x is. tt) effect
whole_effect trusted old new (event.WriteTranslated device address bytes) answer soft effect = by_call trusted old new (call.Translated device (write_of address bytes)) (reply_in answer) (λ x is. tt) effect
whole_effect trusted old new (event.ReadThroughCache device address len) answer soft effect = by_call trusted old new (call.ThroughCache Own device (read_of address len)) (cache_reply_in answer) (λ x is. tt) effect
whole_effect trusted old new (event.WriteThroughCache device address bytes) answer soft effect = by_call trusted old new (call.ThroughCache Own device (write_of address bytes)) (cache_reply_in answer) (λ x is. tt) effect
whole_effect trusted old new (event.Ask device page) answer soft effect = by_call trusted old new (call.Ask device page) (sending_in answer) (λ x is. tt) effect
whole_effect trusted old new (event.Forge device serial) answer soft effect = by_call trusted old new (call.Forge device serial) (sending_in answer) (λ x is. tt) effect
whole_effect trusted old new event.Fetch answer soft effect = by_call trusted old new call.Fetch (fetch_in answer) (λ x is. tt) effect
whole_effect trusted old new event.Timeout answer soft effect = by_call trusted old new call.Timeout (timeout_in answer) (λ x is. tt) effect
whole_effect trusted old new (event.Deliver place) answer soft effect = by_call trusted old new (call.Deliver place) (delivery_in answer) (λ x is. tt) effect
whole_effect trusted old new (event.Drop place) answer soft effect = by_call trusted old new (call.Drop place) (drop_in answer) (λ x is. tt) effect
whole_effect trusted old new (event.Repeat place) answer soft effect = by_call trusted old new (call.Repeat place) (repeat_in answer) (λ x is. tt) effect
whole_effect trusted old new (event.Reset device) answer soft effect = by_call trusted old new (call.Reset device) (reset_in answer) (λ x is. tt) effect
whole_effect trusted old new (event.Commit device) answer soft effect = commits trusted old new device (commit_in answer) soft effect
whole_effect trusted old new (event.Medium device disk) answer soft effect = absurd (false≢true (sym soft))
whole_effect trusted old new (event.Queue device size descriptors available used) answer soft effect =
    sets trusted old new device (layout_of size descriptors available used) (queue_in answer) effect
whole_effect trusted old new (event.Step device) answer soft effect = steps trusted old new device (step_in answer) effect
whole_effect trusted old new (event.Status device) answer soft effect = inl (tells_nothing old new device (status_in answer) effect).parts
whole_effect trusted old new (event.Attach device mode ats) answer soft effect = absurd effect
whole_effect trusted old new (event.Detach device) answer soft effect = absurd effect
whole_effect trusted old new (event.Grant device page frame rights) answer soft effect = absurd effect
whole_effect trusted old new (event.Release device page) answer soft effect = absurd effect
whole_effect trusted old new (event.Quarantine device) answer soft effect = absurd effect
whole_effect trusted old new (event.Revive device) answer soft effect = absurd effect
whole_effect trusted old new event.Restart answer soft effect = absurd effect
whole_effect trusted old new event.Poll answer soft effect = absurd effect
whole_effect trusted old new event.Faults answer soft effect = absurd effect
whole_effect trusted old new (event.Free frame) answer soft effect = absurd effect

-- what no trusted device writes is harmless
harmless_write : (trusted : ℕ → Bool) (old : BoardParts) (id : ℕ) (answer : Result (Option MadeAt) Refusal) → IsNoTrustedWrite trusted id answer → IsMadeHarmlessly trusted old id answer
harmless_write trusted old id (Ok (Some made)) none = λ among write read. none among write
harmless_write trusted old id (Ok None) none = tt
harmless_write trusted old id (Err why) none = tt

untrusted_harmless : (trusted : ℕ → Bool) (done : HardwareCall) (old : BoardParts) → WritesUntrusted trusted done → HarmlessEffect trusted done old
untrusted_harmless trusted (call.Commit id answer) old none = harmless_write trusted old id answer none
untrusted_harmless trusted (call.Request sender id access answer) old none = tt
untrusted_harmless trusted (call.Translated id access answer) old none = tt
untrusted_harmless trusted (call.ThroughCache sender id access answer) old none = tt
untrusted_harmless trusted (call.Ask id page answer) old none = tt
untrusted_harmless trusted (call.AskAtStep id page) old none = tt
untrusted_harmless trusted (call.Forge id serial answer) old none = tt
untrusted_harmless trusted (call.Fetch fetched) old none = tt
untrusted_harmless trusted (call.Timeout has_effect) old none = tt
untrusted_harmless trusted (call.Deliver place delivered) old none = tt
untrusted_harmless trusted (call.Drop place found) old none = tt
untrusted_harmless trusted (call.Repeat place again) old none = tt
untrusted_harmless trusted (call.Reset id answer) old none = tt

-- the board and what is beside it stay, or hardware does something by calls, whatever is beside it
abbrev pub UnchangedOrDoes : List ℕ → ShownHardware → ShownHardware → Type 0
UnchangedOrDoes trusted old new =
    ((board_parts new.board ≡ board_parts old.board) × (new.beside ≡ old.beside))
    ⊎ DoesByCall (is_id_among trusted) (board_parts old.board) old.beside (board_parts new.board) new.beside

-- what lines leave that change nothing
pub unchanged : (trusted : List ℕ) (old new : ShownHardware) → Unchanged old new → UnchangedOrDoes trusted old new
unchanged trusted old new same = inl (same.parts, same.beside)

module _ (trusted : List ℕ) (old new : ShownHardware) where
  -- by what is beside it
  abbrev StaysOrDoesBy : Beside → Type 0
  StaysOrDoesBy beside =
      ((board_parts new.board ≡ board_parts old.board) × (new.beside ≡ beside))
      ⊎ DoesByCall (is_id_among trusted) (board_parts old.board) beside (board_parts new.board) new.beside

  by_pace : (beside : Beside) (said : Event) (answer : Answer) → is_of_software (line.Event said) answer trusted ≡ false → AreAllThere (board_parts old.board) old.inside
      → EventBy beside said answer old new → StaysOrDoesBy beside
  by_pace Nothing said answer soft all (effect, same) = elim (whole_effect trusted old new said answer soft effect) [
    | inl is ↦ inl (is, same)
    | inr (done, does, own) ↦ inr (same, (done, does, untrusted_harmless (is_id_among trusted) done (board_parts old.board) own))
  ]
  by_pace (UnderWay rows) said answer soft all (new_rows, same, effect) = elim (effect_beside trusted old new rows new_rows said answer soft all effect) [
    | inl is ↦ inl (is.0, same ∙ ap (λ (r : List WalkRow). UnderWay r) is.1)
    | inr does ↦ inr (new_rows, same, does)
  ]
  by_pace (Pointers features pointers) said answer soft all (new_pointers, same, (between, between_pointers, ahead, disks, blocks, effect, left)) =
      inr (
        new_pointers,
        same,
        pointed_by features trusted said answer old.board between.board new.board pointers between_pointers new_pointers ahead left
            (plainly between (whole_effect trusted (bare between) (bare new) said answer soft effect)),
      )
    where
      plainly : (between : ShownHardware) → UnchangedOrEffect trusted (bare between) (bare new) → DoesPlainly (is_id_among trusted) (board_parts between.board) (board_parts new.board)
      plainly between (inl is) = inl is
      plainly between (inr does) = inr does

  -- so of any event
  pub event_effect : (said : Event) (answer : Answer) → is_of_software (line.Event said) answer trusted ≡ false → AreAllThere (board_parts old.board) old.inside → EventOrNone said answer old new
      → UnchangedOrDoes trusted old new
  event_effect said answer soft all effect = by (is_of_hardware said) refl
    where
      by : (b : Bool) → is_of_hardware said ≡ b → UnchangedOrDoes trusted old new
      by true is = by_pace old.beside said answer soft all (effect.0 is)
      by false is = unchanged trusted old new (effect.1 is).1

  load_by_pace : (beside : Beside) (device : ℕ) (answer : Answer) → old.beside ≡ beside → LoadsBy beside device answer old new → StaysOrDoesBy beside
  load_by_pace Nothing device answer is (told, same) = inl (same.parts, same.beside ∙ is)
  load_by_pace (Pointers features pointers) device answer is (told, same) = inl (same.parts, same.beside ∙ is)
  load_by_pace (UnderWay rows) device answer is (new_rows, same, effect) = by (walk_load_in answer) effect
    where
      by : (load : Option (Result Load Refusal)) → CallBeside (option_map (stepped.Load device) load) old rows new new_rows → StaysOrDoesBy (UnderWay rows)
      by None never = absurd never
      by (Some load) does = inr (new_rows, same, (stepped.Load device load, does.0, tt))

  -- THE NEXT LOAD of a walk is a call, or nothing
  pub load_effect : (device : ℕ) (answer : Answer) → LoadsBy old.beside device answer old new → UnchangedOrDoes trusted old new
  load_effect device answer effect = load_by_pace old.beside device answer refl effect
