-- What a poll answers, what it leaves, and what stays.
use Rattle.std.specs.Prelude.{◌≡◌, ◌↔◌, ℕ, ◌+◌, ◌-◌, ◌<◌, ◌≤◌, ◌==◌, List, length, Some, Result, Ok, Err, if◌then◌else◌, map}
use Rattle.iom_ledger.specs.Confirmations.{ConfirmsFrom}
use Rattle.iom_ledger.specs.History.{confirmed_from, History}
use Rattle.iom_base.specs.declared.refusal.Refusal.{Refusal}
use Rattle.iom_base.specs.Refusals.{first_that_applies, NoneApplies}
use Rattle.iom_ledger.specs.Shown.{Agrees}
use Rattle.iom_phys_mem.specs.Words.{word_at}
use Rattle.iom_registers.specs.declared.registers.Registers.{Registers}
use Rattle.iom_registers.specs.Queues.{command_status}
use Rattle.iom_driver.specs.declared.answers.Polled.{Polled}
use Rattle.iom_driver.specs.Confirmed.{driven_once_confirmed, owner_given_back, ClearsGone}
use Rattle.iom_driver.specs.Fences.{fence_of, done_by}
use Rattle.iom_driver.specs.Layout.{completion_address}
use Rattle.iom_driver.specs.Reasons.{why_not_poll}
use Rattle.iom_driver.specs.Standing.{LeavesStanding}
use Rattle.iom_driver.specs.State.{DriverState}

-- the last ticket that is confirmed after a poll
abbrev pub done_after : DriverState → Polled → ℕ
done_after d polled = d.confirmed + polled.count

-- The completion word is a number. The tickets that wait, and whose fence isn't above it, are confirmed, from the oldest on, and no others. Each device that leaves
-- under one of them is attached to nothing from then on, and its frames have no owner any more and are zero: no other frame changes.
pub record ConfirmsDone (r : Registers) (d : DriverState) (memory : List (List ℕ)) (polled : Polled) (d' : DriverState) (memory' : List (List ℕ)) : Type 0 where
  pub word : ℕ
  pub read : word_at 4 memory (completion_address (length memory)) ≡ Some word
  pub count : polled.count ≡ done_by d word - d.confirmed
  pub exact : (ticket : ℕ) → d.confirmed < ticket → ticket ≤ d.given → (ticket ≤ done_after d polled) ↔ (fence_of d ticket ≤ word)
  pub first : polled.first ≡ (if polled.count == 0 then 0 else d.confirmed + 1)
  pub timed_out : polled.timed_out ≡ (command_status r).cmd_to
  pub shown : ConfirmsFrom d.ledger d'.ledger (d.confirmed + 1) polled.count
  pub agrees : (h : History) → Agrees d.ledger h → Agrees d'.ledger (confirmed_from (d.confirmed + 1) polled.count h)
  pub driver : d' ≡ record d {
    ledger = d'.ledger;
    owners = map (owner_given_back (done_after d polled) d.devices) d.owners;
    devices = map (driven_once_confirmed (done_after d polled)) d.devices;
    confirmed = done_after d polled;
  }
  pub cleared : ClearsGone (done_after d polled) d.devices d.owners memory memory'
  pub standing : LeavesStanding d memory d' memory'

-- POLL, which leaves the registers
abbrev pub AnswersPoll : Registers → DriverState → List (List ℕ) → Result Polled Refusal → DriverState → List (List ℕ) → Type 0
AnswersPoll r d memory (Ok polled) d' memory' = NoneApplies (why_not_poll d) × ConfirmsDone r d memory polled d' memory'
AnswersPoll r d memory (Err why) d' memory' = (first_that_applies (why_not_poll d) ≡ Some why) × (d' ≡ d) × (memory' ≡ memory)
