-- What a detach answers, what it leaves, and what stays.
use Rattle.std.specs.Prelude.{◌≡◌, ◌≢◌, ◌↔◌, ℕ, ◌+◌, Bool, List, ◌++◌, length, map, Some, Result, Ok, Err, IsTrue, slice_get}
use Rattle.iom_command_queue.specs.declared.entry.QueueEntry.TheVariants as stands
use Rattle.iom_command_queue.specs.Waiting.{commands_in}
use Rattle.iom_directory_build.specs.Pages.{HasPage, root_level}
use Rattle.iom_directory_build.specs.Written.{without_context}
use Rattle.iom_base.specs.declared.refusal.Refusal.{Refusal}
use Rattle.iom_base.specs.Refusals.{first_that_applies, NoneApplies}
use Rattle.iom_registers.specs.declared.mmio.Mmio.{Ghosts}
use Rattle.iom_registers.specs.declared.registers.Registers.{Registers}
use Rattle.iom_driver.specs.declared.answers.Ticket.{Ticket}
use Rattle.iom_driver.specs.declared.device.Attachment.TheVariants as attachment
use Rattle.iom_driver.specs.declared.device.Stages.{Stages}
use Rattle.iom_driver.specs.Appends.{detach_commands, AppendsAll}
use Rattle.iom_driver.specs.Devices.{stages_of, with_attachment}
use Rattle.iom_driver.specs.Fences.{last_fence}
use Rattle.iom_driver.specs.Layout.{command_frame, directory_frame, completion_address}
use Rattle.iom_driver.specs.Reasons.{why_not_detach, HasGrants}
use Rattle.iom_driver.specs.Standing.{LeavesStanding}
use Rattle.iom_driver.specs.State.{DriverState}

-- The next ticket is given, and the device leaves under it, with its stages; its context's bytes are zero; then the commands of the detach are appended:
-- no frame but the directory's pages and the ring's changes. The ledger stays.
pub record QueuesDetach {M : Type 0} (g : Ghosts M) (d : DriverState) (memory : List (List ℕ)) (io : M) (id ticket : ℕ) (d' : DriverState) (memory' : List (List ℕ)) (io' : M) : Type 0 where
  pub stage : Stages
  pub attached : stages_of d.devices id ≡ Some stage
  pub next : ticket ≡ d.given + 1
  pub driver : d' ≡ record d { devices = with_attachment d.devices id (attachment.Leaving ticket stage); given = ticket }
  pub queued : AppendsAll g (without_context memory (root_level d.levels) (directory_frame (length memory)) id) io
      (detach_commands id stage (completion_address (length memory)) (last_fence d + 1)) memory' io'
  pub list : commands_in memory' (g.registers io') ≡ commands_in memory (g.registers io)
      ++ map stands.Command (detach_commands id stage (completion_address (length memory)) (last_fence d + 1))
  pub others : (f : ℕ) → ¬ HasPage memory (root_level d.levels) (directory_frame (length memory)) f → f ≢ command_frame (length memory) → slice_get memory' f ≡ slice_get memory f
  pub standing : LeavesStanding d memory d' memory'

-- why it is refused, or that it isn't, where the device holds or lingers on something or not
abbrev pub IsReplyToDetach : DriverState → Registers → Bool → ℕ → Result Ticket Refusal → Type 0
IsReplyToDetach d r granted id (Ok ticket) = NoneApplies (why_not_detach d r granted id)
IsReplyToDetach d r granted id (Err why) = first_that_applies (why_not_detach d r granted id) ≡ Some why

-- what it does; a refusal changes nothing
abbrev pub DetachEffect : {M : Type 0} → Ghosts M → DriverState → List (List ℕ) → M → ℕ → Result Ticket Refusal → DriverState → List (List ℕ) → M → Type 0
DetachEffect g d memory io id (Ok ticket) d' memory' io' = QueuesDetach g d memory io id ticket.0 d' memory' io'
DetachEffect g d memory io id (Err why) d' memory' io' = (d' ≡ d) × (memory' ≡ memory) × (io' ≡ io)

-- DETACH. `granted` is any test that tells whether the device holds or lingers on something
pub record AnswersDetach {M : Type 0} (g : Ghosts M) (d : DriverState) (memory : List (List ℕ)) (io : M) (id : ℕ) (answer : Result Ticket Refusal)
    (d' : DriverState) (memory' : List (List ℕ)) (io' : M) : Type 0 where
  pub reply : (granted : Bool) → (IsTrue granted ↔ HasGrants d.ledger id) → IsReplyToDetach d (g.registers io) granted id answer
  pub effect : DetachEffect g d memory io id answer d' memory' io'
