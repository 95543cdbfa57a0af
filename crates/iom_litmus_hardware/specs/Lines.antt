-- What comes of a line, and of what hardware does by itself.
use Rattle.std.specs.Prelude.{◌≡◌, ◌⊎◌, ℕ, Bool, true, false, not, List}
use Rattle.iom_base.specs.DeviceKinds.{kind_of, is_block_device}
use Rattle.iom_claims.specs.Claimed.{Claimed}
use Rattle.iom_claims.specs.Shown.{ShowsClaimed}
use Rattle.iom_hardware_script.specs.declared.script.HardwareLine.{HardwareLine}
use Rattle.iom_hardware_script.specs.declared.script.HardwareLine.TheVariants as line
use Rattle.iom_hardware_script.specs.Grammar.{IsHardwareLine}
use Rattle.iom_hardware_session.specs.declared.session.Stepped.{Stepped}
use Rattle.iom_hardware_session.specs.declared.state.Session.{Session}
use Rattle.iom_hardware_session.specs.declared.watched.Watched.{Watched}
use Rattle.iom_hardware_session.specs.Lines.{made_by}
use Rattle.iom_hardware_session.specs.Runs.{LineGoesOn, is_wrong_by}
use Rattle.iom_litmus.specs.declared.reply.Reply.{Reply}
use Rattle.iom_litmus.specs.Replies.{no_reply}
use Rattle.iom_litmus_looks.specs.Touches.{touches_of}
use Rattle.iom_litmus_hardware.specs.Places.{SessionPlace, place_of, IsWhole}
use Rattle.iom_machine.specs.declared.event.Event.{Event}
use Rattle.iom_machine.specs.declared.event.Event.TheVariants as events

-- whether the event is one of a block device, which places don't compare: that one is plugged in, too
abbrev pub is_event_of_block : Event → Bool
is_event_of_block (events.Plug device what) = is_block_device (kind_of what)
is_event_of_block (events.Medium device disk) = true
is_event_of_block (events.Queue device size descriptors available used) = true
is_event_of_block (events.Step device) = true
is_event_of_block (events.Status device) = true
is_event_of_block event = false

-- whether a test can have the line: it is none of a block device, none that asks hardware to act by itself, which a test says by its parts, and no load of a walk,
-- which is whole here
abbrev pub is_for_tests : HardwareLine → Bool
is_for_tests (line.Event event) = not (is_event_of_block event)
is_for_tests (line.RegisterRead offset width) = true
is_for_tests (line.RegisterWrite offset width value) = true
is_for_tests (line.Claim claim) = true
is_for_tests (line.Help help) = false
is_for_tests (line.Load device) = false

-- The reply tells which access was made, whether something is wrong, and whether the access is one that nothing claimed allows. Its text is left open.
pub record RepliesTo (stepped : Stepped) (watched : List Watched) (reply : Reply) : Type 0 where
  pub touches : reply.touches ≡ touches_of (made_by stepped.answer)
  pub wrong : reply.wrong ≡ is_wrong_by stepped watched
  pub violated : reply.violated ≡ stepped.violated

-- THE SESSION TAKES THE LINE, whatever was claimed before it, and this is the reply
pub record TakesLine (said : HardwareLine) (before : Session) (reply : Reply) (after : Session) : Type 0 where
  pub stepped : Stepped
  pub goes_on : (c : Claimed) → ShowsClaimed before.claims c → LineGoesOn before c (record { said = said; stepped = stepped; watched = after.watched.items }) after
  pub replies : RepliesTo stepped after.watched.items reply

-- so does some session that is at this place, whose walks are whole
abbrev pub LeadsBy : HardwareLine → SessionPlace → Reply → SessionPlace → Type 0
LeadsBy said old reply new = (before : Session) × (after : Session) × (place_of before ≡ old) × (place_of after ≡ new) × IsWhole before × TakesLine said before reply after

-- the text says a line that a test can have
abbrev pub Says : List ℕ → HardwareLine → Type 0
Says text said = IsHardwareLine text said × (is_for_tests said ≡ true)

-- a text that says no such line does nothing
abbrev pub SaysNothing : List ℕ → Type 0
SaysNothing text = (said : HardwareLine) → ¬ Says text said

-- WHAT COMES OF A TEXT
abbrev pub RunsText : SessionPlace → List ℕ → Reply → SessionPlace → Type 0
RunsText old text reply new =
    ((said : HardwareLine) × Says text said × LeadsBy said old reply new)
    ⊎ (SaysNothing text × (reply ≡ no_reply) × (new ≡ old))
