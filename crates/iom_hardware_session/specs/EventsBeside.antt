-- What a line of devices, hardware or software does to hardware whose walks make one load an event, and to what is under way beside it, by its answer.
use Rattle.std.specs.Prelude.{◌≡◌, ℕ, true, List, Option, Some, None, option_map, Result, OnOk, OnErr}
use Rattle.iom_base.specs.Accesses.{read_of, write_of}
use Rattle.iom_base.specs.declared.refusal.Refusal.{Refusal}
use Rattle.iom_board.specs.BoardParts.{board_parts, disks_at_hand}
use Rattle.iom_board.specs.declared.sender.Sender.TheVariants.{Own}
use Rattle.iom_hardware.specs.Blocks.{BlocksUnchanged, ResetsInside}
use Rattle.iom_machine.specs.declared.event.Event.{Event}
use Rattle.iom_machine.specs.declared.event.Event.TheVariants.{Plug, Reset, Read, Write, ReadTranslated, WriteTranslated, ReadThroughCache, WriteThroughCache, Fetch, Poke, Peek, Medium, Queue, Step, Status}
use Rattle.iom_hardware_session.specs.Answered.{reply_in, cache_reply_in, fetch_in, reset_in, plug_in, medium_in, queue_in, status_in, store_in, load_in, begun_in, walk_load_in, outcome_in}
use Rattle.iom_hardware_session.specs.Events.{call_of, HearsCall, PlugsAsAnswered, StoresAsAnswered, LoadsAsAnswered, PutsDiskAsAnswered, SetsQueueAsAnswered, TellsAsAnswered}
use Rattle.iom_hardware_session.specs.Shown.{ShownHardware}
use Rattle.iom_hardware_session.specs.declared.answer.Answer.{Answer}
use Rattle.iom_stepped_hardware.specs.Requests.{HearsLoad}
use Rattle.iom_stepped_hardware.specs.Steps.{TakesStepBeside}
use Rattle.iom_stepped_hardware.specs.declared.steps.StepOutcome.{StepOutcome}
use Rattle.iom_stepped_ways.specs.Calls.{SteppedCall, SteppedEffect}
use Rattle.iom_stepped_ways.specs.Calls as call
use Rattle.iom_virtqueue.specs.Layouts.{layout_of}
use Rattle.iom_walks.specs.Calls.{Adds, given_up}
use Rattle.iom_walks.specs.Walks.{WalkRow, row_of}

-- the call that an event is, with what it answers; none for those that `EffectBeside` says apart, or where the answer is of another kind
abbrev pub stepped_call_of : Event → Answer → Option SteppedCall
stepped_call_of (Read device address len) answer = option_map (call.Begin Own device (read_of address len)) (begun_in answer)
stepped_call_of (Write device address bytes) answer = option_map (call.Begin Own device (write_of address bytes)) (begun_in answer)
stepped_call_of (ReadTranslated device address len) answer = option_map (call.TranslatedBeside device (read_of address len)) (reply_in answer)
stepped_call_of (WriteTranslated device address bytes) answer = option_map (call.TranslatedBeside device (write_of address bytes)) (reply_in answer)
stepped_call_of (ReadThroughCache device address len) answer = option_map (call.ThroughCacheBeside Own device (read_of address len)) (cache_reply_in answer)
stepped_call_of (WriteThroughCache device address bytes) answer = option_map (call.ThroughCacheBeside Own device (write_of address bytes)) (cache_reply_in answer)
stepped_call_of Fetch answer = option_map call.FetchBeside (fetch_in answer)
stepped_call_of (Reset device) answer = option_map (call.ResetBeside device) (reset_in answer)
stepped_call_of event answer = option_map call.Alone (call_of event answer)

-- WHAT BLOCK DEVICES HEAR of a call: also one whose request ends at a load
abbrev pub HearsBeside : SteppedCall → ShownHardware → ShownHardware → Type 0
HearsBeside (call.Alone own) old new = HearsCall own old new
HearsBeside (call.Begin sender id access answer) old new = BlocksUnchanged old.inside new.inside
HearsBeside (call.Load id answer) old new = HearsLoad answer old.inside id new.inside
HearsBeside (call.TranslatedBeside id access answer) old new = BlocksUnchanged old.inside new.inside
HearsBeside (call.ThroughCacheBeside sender id access answer) old new = BlocksUnchanged old.inside new.inside
HearsBeside (call.FetchBeside fetched) old new = BlocksUnchanged old.inside new.inside
HearsBeside (call.ResetBeside id answer) old new = ResetsInside old.inside id answer new.inside

-- the call does this, leaves the disks at hand, and is heard
abbrev pub CallBeside : Option SteppedCall → ShownHardware → List WalkRow → ShownHardware → List WalkRow → Type 0
CallBeside None old rows new new_rows = ⊥
CallBeside (Some own) old rows new new_rows =
    SteppedEffect own (board_parts old.board) rows (board_parts new.board) new_rows × (disks_at_hand new.board ≡ disks_at_hand old.board) × HearsBeside own old new

-- a device that is plugged in has nothing under way
abbrev pub AddsAsAnswered : Option (Result (Unit {0}) Refusal) → ℕ → List WalkRow → List WalkRow → Type 0
AddsAsAnswered None device rows new_rows = ⊥
AddsAsAnswered (Some answer) device rows new_rows = OnOk answer (Adds rows device true new_rows) × OnErr answer (new_rows ≡ rows)

-- a block device whose queue is set gives up what is under way
abbrev pub GivesUpAsAnswered : Option (Result (Unit {0}) Refusal) → ℕ → List WalkRow → List WalkRow → Type 0
GivesUpAsAnswered None device rows new_rows = ⊥
GivesUpAsAnswered (Some answer) device rows new_rows = OnOk answer (new_rows ≡ given_up rows (row_of rows device)) × OnErr answer (new_rows ≡ rows)

-- a block device takes a step, and the request for the access that it wants may be under way from then on
abbrev pub StepsBeside : Option (Result StepOutcome Refusal) → ℕ → ShownHardware → List WalkRow → ShownHardware → List WalkRow → Type 0
StepsBeside None device old rows new new_rows = ⊥
StepsBeside (Some answer) device old rows new new_rows =
    TakesStepBeside (board_parts old.board) rows old.inside device answer (board_parts new.board) new_rows new.inside × (disks_at_hand new.board ≡ disks_at_hand old.board)

-- WHAT AN EVENT DOES TO HARDWARE whose walks make one load an event, and to what is under way, by its answer
abbrev pub EffectBeside : Event → Answer → ShownHardware → List WalkRow → ShownHardware → List WalkRow → Type 0
EffectBeside (Plug device what) answer old rows new new_rows = PlugsAsAnswered (plug_in answer) device what old new × AddsAsAnswered (plug_in answer) device rows new_rows
EffectBeside (Poke address bytes) answer old rows new new_rows = StoresAsAnswered (store_in answer) address bytes old new × (new_rows ≡ rows)
EffectBeside (Peek address len) answer old rows new new_rows = LoadsAsAnswered (load_in answer) address len old new × (new_rows ≡ rows)
EffectBeside (Medium device disk) answer old rows new new_rows = PutsDiskAsAnswered (medium_in answer) device disk old new × (new_rows ≡ rows)
EffectBeside (Queue device size descriptors available used) answer old rows new new_rows =
    SetsQueueAsAnswered (queue_in answer) device (layout_of size descriptors available used) old new × GivesUpAsAnswered (queue_in answer) device rows new_rows
EffectBeside (Step device) answer old rows new new_rows = StepsBeside (outcome_in answer) device old rows new new_rows
EffectBeside (Status device) answer old rows new new_rows = TellsAsAnswered (status_in answer) device old new × (new_rows ≡ rows)
EffectBeside event answer old rows new new_rows = CallBeside (stepped_call_of event answer) old rows new new_rows

-- THE NEXT LOAD of the device's request
abbrev pub LoadsBeside : ℕ → Answer → ShownHardware → List WalkRow → ShownHardware → List WalkRow → Type 0
LoadsBeside device answer old rows new new_rows = CallBeside (option_map (call.Load device) (walk_load_in answer)) old rows new new_rows
