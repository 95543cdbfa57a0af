-- Many lines one after another, and what is told of them.
use Rattle.std.specs.Prelude.{◌≡◌, ◌↔◌, ◌||◌, Bool, true, false, List, [], ◌∷◌, Option, None, Some, IsTrue, is_some}
use Rattle.std.specs.List.{list_any}
use Rattle.iom_claims.specs.Claimed.{Claimed, nothing_claimed}
use Rattle.iom_claims.specs.Shown.{ShowsClaimed}
use Rattle.iom_hardware.specs.Inside.{inside}
use Rattle.iom_hardware.specs.PowerOn.{IsHardwareAtPowerOn}
use Rattle.iom_hardware_script.specs.declared.script.HardwareLine.{HardwareLine}
use Rattle.iom_hardware_script.specs.declared.script.Setup.{Setup}
use Rattle.iom_hardware_session.specs.Answered.{judgement_in}
use Rattle.iom_hardware_session.specs.declared.answer.ClaimAnswer.{ClaimAnswer}
use Rattle.iom_hardware_session.specs.declared.answer.ClaimAnswer.TheVariants as found
use Rattle.iom_hardware_session.specs.declared.session.Stepped.{Stepped}
use Rattle.iom_hardware_session.specs.declared.state.Session.{Session}
use Rattle.iom_hardware_session.specs.declared.watched.Watched.{Watched}
use Rattle.iom_hardware_session.specs.Paces.{beside_at_power_on}
use Rattle.iom_hardware_session.specs.Shown.{shown_in}
use Rattle.iom_program_disks.specs.Disks.{program_disks}
use Rattle.iom_virtio_blk.specs.MemoryDisks.{disk_state}
use Rattle.iom_hardware_session.specs.Lines.{LineEffect, TrustsBy, IsAdmittedLine, IsGoodLine, IsWrongLine, WatchesBy, IsViolation, IsAllowed, claimed_by, made_by}

-- a line, what came of it, and what is watched behind it
pub record LineReply : Type 0 where
  pub said : HardwareLine
  pub stepped : Stepped
  pub watched : List Watched

-- what is claimed behind the line
abbrev pub claimed_then : LineReply → Claimed → Claimed
claimed_then reply before = claimed_by reply.said reply.stepped.answer before

-- WHAT COMES OF A LINE, by what was claimed before it: all that `Session::line` says
pub record LineGoesOn (old : Session) (before : Claimed) (reply : LineReply) (new : Session) : Type 0 where
  pub effect : LineEffect reply.said reply.stepped.answer (shown_in old) (shown_in new)
  pub claimed : ShowsClaimed new.claims (claimed_then reply before)
  pub trusted : TrustsBy reply.said reply.stepped.answer old.trusted.items new.trusted.items
  pub admitted : IsAdmittedLine reply.said reply.stepped.answer old.hardware.board before
  pub good : IsGoodLine reply.said reply.stepped.answer (shown_in new) new.trusted.items before
  pub wrong : IsWrongLine reply.said reply.stepped.answer (shown_in new) new.trusted.items before
  pub again : WatchesBy reply.said reply.stepped.answer before old new
  pub violated : IsTrue reply.stepped.violated ↔ IsViolation before (made_by reply.stepped.answer)
  pub allowed : reply.stepped.violated ≡ false → IsAllowed before (made_by reply.stepped.answer)
  pub watched : reply.watched ≡ new.watched.items

-- THESE LINES one after another, from where a session stands and from what was claimed
abbrev pub GoThrough : Session → Claimed → List LineReply → Session → Claimed → Type 0
GoThrough old before [] new after = (new ≡ old) × (after ≡ before)
GoThrough old before (first ∷ others) new after =
    (between : Session) × LineGoesOn old before first between × GoThrough between (claimed_then first before) others new after

-- the claim is wrong
abbrev pub is_wrong_claim : Option ClaimAnswer → Bool
is_wrong_claim (Some (found.Wrong why)) = true
is_wrong_claim (Some found.Good) = false
is_wrong_claim (Some (found.Released number)) = false
is_wrong_claim (Some found.Trusted) = false
is_wrong_claim (Some (found.Refused why)) = false
is_wrong_claim (Some found.NoSuchClaim) = false
is_wrong_claim None = false

-- a claim that was good isn't any more
abbrev pub has_fallen : List Watched → Bool
has_fallen watched = list_any (λ (own : Watched). is_some own.why) watched

-- SOMETHING IS WRONG by what is told of the line: its claim, the access that it made, or a claim that was good before
abbrev pub is_wrong_by : Stepped → List Watched → Bool
is_wrong_by stepped watched = is_wrong_claim (judgement_in stepped.answer) || (stepped.violated || has_fallen watched)

abbrev pub is_wrong : LineReply → Bool
is_wrong reply = is_wrong_by reply.stepped reply.watched

abbrev pub is_any_reply_wrong : List LineReply → Bool
is_any_reply_wrong all = list_any is_wrong all

-- A SESSION BEGINS: hardware of this pace at power-on, with so many frames of memory and the disks of the programs at hand, nothing under way, nothing claimed, nobody
-- trusted, nothing watched
pub record IsSessionAtPowerOn (setup : Setup) (session : Session) : Type 0 where
  pub power_on : IsHardwareAtPowerOn setup.frames program_disks session.hardware.board (inside disk_state session.hardware)
  pub beside : session.beside ≡ beside_at_power_on setup.pace
  pub claims : ShowsClaimed session.claims nothing_claimed
  pub trusted : session.trusted.items ≡ []
  pub watched : session.watched.items ≡ []
