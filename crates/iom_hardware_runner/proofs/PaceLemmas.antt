-- A walk takes one event, or several, behind each line as before it.
use Rattle.std.proofs.Common.{◌≡◌, ◌∙◌, ℕ, Bool, true, false, List, [], ◌∷◌, is_some, refl, sym, ap}
use Rattle.iom_claims.specs.Claimed.{Claimed}
use Rattle.iom_hardware_runner.specs.Runs.{is_stepped}
use Rattle.iom_hardware_script.specs.Grammar.{is_of_hardware}
use Rattle.iom_hardware_script.specs.declared.script.HardwareLine.{HardwareLine}
use Rattle.iom_hardware_script.specs.declared.script.HardwareLine.TheVariants as lines
use Rattle.iom_hardware_session.specs.Lines.{LineEffect, WritesWhere, is_hardwired}
use Rattle.iom_hardware_session.specs.Paces.{EventBy, EventOrNone, LoadsBy}
use Rattle.iom_hardware_session.specs.Runs.{LineReply, GoThrough, claimed_then}
use Rattle.iom_hardware_session.specs.Shown.{ShownHardware, shown_in, walks_in}
use Rattle.iom_hardware_session.specs.declared.answer.Answer.{Answer}
use Rattle.iom_hardware_session.specs.declared.beside.Beside.{Beside}
use Rattle.iom_hardware_session.specs.declared.beside.Beside.TheVariants.{Nothing, UnderWay, Pointers}
use Rattle.iom_hardware_session.specs.declared.state.Session.{Session}
use Rattle.iom_machine.specs.declared.event.Event.{Event}

abbrev KeepsPace : ShownHardware → ShownHardware → Type 0
KeepsPace old new = is_some (walks_in new.beside) ≡ is_some (walks_in old.beside)

abbrev takes_several : Beside → Bool
takes_several beside = is_some (walks_in beside)

same_beside : (old new : ShownHardware) → new.beside ≡ old.beside → KeepsPace old new
same_beside old new same = ap takes_several same

-- an event
by_event : (beside : Beside) (event : Event) (answer : Answer) (old new : ShownHardware) → EventBy beside event answer old new → takes_several new.beside ≡ takes_several beside
by_event Nothing event answer old new effect = ap takes_several effect.1
by_event (UnderWay rows) event answer old new (new_rows, is, effect) = ap takes_several is
by_event (Pointers features pointers) event answer old new (new_pointers, is, effect) = ap takes_several is

any_event : (event : Event) (answer : Answer) (old new : ShownHardware) → EventOrNone event answer old new → KeepsPace old new
any_event event answer old new effect = by (is_of_hardware event) refl
  where
    by : (own : Bool) → is_of_hardware event ≡ own → KeepsPace old new
    by true is = by_event old.beside event answer old new (effect.0 is)
    by false is = same_beside old new (effect.1 is).1.beside

-- the next load of a walk
by_load : (beside : Beside) (device : ℕ) (answer : Answer) (old new : ShownHardware) → old.beside ≡ beside → LoadsBy beside device answer old new → KeepsPace old new
by_load Nothing device answer old new is (told, same) = same_beside old new same.beside
by_load (Pointers features pointers) device answer old new is (told, same) = same_beside old new same.beside
by_load (UnderWay rows) device answer old new is (new_rows, leaves, effect) = ap takes_several leaves ∙ sym (ap takes_several is)

-- a write of a register
by_write : (wired : Bool) (offset width value : ℕ) (answer : Answer) (old new : ShownHardware) → WritesWhere wired offset width value old answer new → KeepsPace old new
by_write true offset width value answer old new effect = same_beside old new effect.1.beside
by_write false offset width value answer old new (answered, parts, disks, blocks, beside) = same_beside old new beside

by_line : (said : HardwareLine) (answer : Answer) (old new : ShownHardware) → LineEffect said answer old new → KeepsPace old new
by_line (lines.Event event) answer old new effect = any_event event answer old new effect
by_line (lines.Load device) answer old new effect = by_load old.beside device answer old new refl effect
by_line (lines.RegisterRead offset width) answer old new effect = same_beside old new effect.1.beside
by_line (lines.RegisterWrite offset width value) answer old new effect = by_write (is_hardwired offset width) offset width value answer old new effect
by_line (lines.Claim said) answer old new effect = same_beside old new effect.beside
by_line (lines.Help help) answer old new effect = same_beside old new effect.1.beside

-- so behind many
pub pace_stays : (all : List LineReply) (old new : Session) (before after : Claimed) → GoThrough old before all new after → is_stepped new ≡ is_stepped old
pace_stays [] old new before after (same, is) = ap is_stepped same
pace_stays (first ∷ others) old new before after (between, goes, rest) =
    pace_stays others between new (claimed_then first before) after rest ∙ by_line first.said first.stepped.answer (shown_in old) (shown_in between) goes.effect
