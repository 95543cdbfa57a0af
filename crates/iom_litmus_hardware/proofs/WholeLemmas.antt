-- Hardware that keeps nothing beside stays so.
use Rattle.std.proofs.Common.{◌≡◌, ◌∙◌, ℕ, Bool, true, false, refl, subst}
use Rattle.iom_hardware_script.specs.Grammar.{is_of_hardware}
use Rattle.iom_hardware_script.specs.declared.script.HardwareLine.{HardwareLine}
use Rattle.iom_hardware_script.specs.declared.script.HardwareLine.TheVariants as lines
use Rattle.iom_hardware_session.specs.Lines.{LineEffect, WritesWhere, is_hardwired}
use Rattle.iom_hardware_session.specs.Paces.{EventBy, EventOrNone, LoadsBy}
use Rattle.iom_hardware_session.specs.Shown.{ShownHardware}
use Rattle.iom_hardware_session.specs.declared.answer.Answer.{Answer}
use Rattle.iom_hardware_session.specs.declared.beside.Beside.{Beside}
use Rattle.iom_hardware_session.specs.declared.beside.Beside.TheVariants.{Nothing}
use Rattle.iom_machine.specs.declared.event.Event.{Event}

-- behind an event
after_event : (event : Event) (answer : Answer) (old new : ShownHardware) → old.beside ≡ Nothing → EventOrNone event answer old new → new.beside ≡ Nothing
after_event event answer old new none effect = by_kind (is_of_hardware event) refl
  where
    by_kind : (own : Bool) → is_of_hardware event ≡ own → new.beside ≡ Nothing
    by_kind true is = (subst (λ (beside : Beside). EventBy beside event answer old new) none (effect.0 is)).1
    by_kind false is = (effect.1 is).1.beside ∙ none

-- behind a write of a register
after_write : (wired : Bool) (offset width value : ℕ) (answer : Answer) (old new : ShownHardware) → old.beside ≡ Nothing → WritesWhere wired offset width value old answer new
    → new.beside ≡ Nothing
after_write true offset width value answer old new none effect = effect.1.beside ∙ none
after_write false offset width value answer old new none (answered, parts, disks, blocks, beside) = beside ∙ none

-- behind any line
pub still_whole : (said : HardwareLine) (answer : Answer) (old new : ShownHardware) → LineEffect said answer old new → old.beside ≡ Nothing → new.beside ≡ Nothing
still_whole (lines.Event event) answer old new effect none = after_event event answer old new none effect
still_whole (lines.Load device) answer old new effect none =
    (subst (λ (beside : Beside). LoadsBy beside device answer old new) none effect).1.beside ∙ none
still_whole (lines.RegisterRead offset width) answer old new effect none = effect.1.beside ∙ none
still_whole (lines.RegisterWrite offset width value) answer old new effect none = after_write (is_hardwired offset width) offset width value answer old new none effect
still_whole (lines.Claim said) answer old new effect none = effect.beside ∙ none
still_whole (lines.Help help) answer old new effect none = effect.1.beside ∙ none
