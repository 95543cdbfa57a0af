-- What is done about a device that doesn't answer: it is quarantined, and attached again once its ticket is confirmed; a fence that waits for it is given up; and
-- the command queue is emptied, and filled with what is still needed. And a reset.
use Rattle.std.specs.Prelude.{◌≡◌, ◌⊎◌, ℕ, Bool, Result, if◌then◌else◌}
use Rattle.iom_driver.specs.declared.answers.Ticket.{Ticket}
use Rattle.iom_driver.specs.Quarantines.{AnswersQuarantine}
use Rattle.iom_driver.specs.Restarts.{AnswersRestart}
use Rattle.iom_driver.specs.Revivals.{AnswersRevive}
use Rattle.iom_iommu.specs.Parts.{mmio}
use Rattle.iom_iommu.specs.Timeouts.{TimesFenceOut}
use Rattle.iom_base.specs.declared.refusal.Refusal.{Refusal}
use Rattle.iom_machine.specs.declared.outcome.Outcome.{Outcome}
use Rattle.iom_machine.specs.declared.outcome.Outcome.TheVariants as outcome
use Rattle.iom_base.specs.DeviceKinds.{is_any_kind}
use Rattle.iom_device.specs.Calls.{devices_revived, with_reset}
use Rattle.iom_world_effects.specs.Answers.{outcome_of_done, outcome_of_ticket}
use Rattle.iom_device.specs.Caches.{IsAble}
use Rattle.iom_world_effects.specs.Parts.{Parts}
use Rattle.iom_world_effects.specs.Unable.{IsUnknown}

-- A DEVICE IS QUARANTINED
pub record QuarantinesDevice (old : Parts) (id : ℕ) (reply : Outcome) (new : Parts) : Type 0 where
  pub answer : Result Ticket Refusal
  pub reply_is : reply ≡ outcome_of_ticket answer
  pub call : AnswersQuarantine mmio old.driver old.memory old.iommu id answer new.driver new.memory new.iommu
  pub devices : new.devices ≡ old.devices
  pub fabric : new.fabric ≡ old.fabric

-- A DEVICE THAT WAS QUARANTINED is attached again, and reset
pub record RevivesDevice (old : Parts) (id : ℕ) (reply : Outcome) (new : Parts) : Type 0 where
  pub answer : Result (Unit {0}) Refusal
  pub reply_is : reply ≡ outcome_of_done answer
  pub call : AnswersRevive old.driver old.memory id answer new.driver new.memory
  pub devices : new.devices ≡ devices_revived answer old.devices id
  pub iommu : new.iommu ≡ old.iommu
  pub fabric : new.fabric ≡ old.fabric

-- THE COMMAND QUEUE is emptied and filled
pub record RestartsQueue (old : Parts) (reply : Outcome) (new : Parts) : Type 0 where
  pub answer : Result (Unit {0}) Refusal
  pub reply_is : reply ≡ outcome_of_done answer
  pub call : AnswersRestart mmio old.driver old.memory old.iommu answer new.driver new.memory new.iommu
  pub devices : new.devices ≡ old.devices
  pub fabric : new.fabric ≡ old.fabric

-- A FENCE that waits for devices is given up, if one does
pub record TimesOutFence (old : Parts) (reply : Outcome) (new : Parts) : Type 0 where
  pub answer : Bool
  pub reply_is : reply ≡ (if answer then outcome.TimedOut else outcome.NoEffect)
  pub call : TimesFenceOut old.iommu answer new.iommu
  pub memory : new.memory ≡ old.memory
  pub driver : new.driver ≡ old.driver
  pub devices : new.devices ≡ old.devices
  pub fabric : new.fabric ≡ old.fabric

-- A DEVICE IS RESET, of any kind
abbrev pub ResetsDevice : Parts → ℕ → Outcome → Parts → Type 0
ResetsDevice old id reply new =
    IsUnknown old id reply new
    ⊎ (IsAble is_any_kind old.devices id × (reply ≡ outcome.Done) × (new ≡ record old { devices = with_reset old.devices id }))
