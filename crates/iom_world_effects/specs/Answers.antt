-- What an answer of the driver is told as, and bytes that were read.
use Rattle.std.specs.Prelude.{◌≡◌, ℕ, List, Result, Ok, Err}
use Rattle.arrayvec.specs.ArrayVec.{ArrayVec}
use Rattle.iom_driver.specs.declared.answers.Ticket as driver
use Rattle.iom_base.specs.declared.refusal.Refusal.{Refusal}
use Rattle.iom_machine.specs.declared.outcome.Outcome.{Outcome}
use Rattle.iom_machine.specs.declared.outcome.Outcome.TheVariants as outcome

-- of a call that gives nothing
abbrev pub outcome_of_done : Result (Unit {0}) Refusal → Outcome
outcome_of_done (Ok done) = outcome.Done
outcome_of_done (Err why) = outcome.Refused why

-- of a call that gives a ticket
abbrev pub outcome_of_ticket : Result driver.Ticket Refusal → Outcome
outcome_of_ticket (Ok ticket) = outcome.Ticket ticket.0
outcome_of_ticket (Err why) = outcome.Refused why

-- a read was made, and gave these bytes
abbrev pub TellsBytes : Outcome → List ℕ → Type 0
TellsBytes reply bytes = (held : ArrayVec ℕ) × (reply ≡ outcome.Read held) × (held.items ≡ bytes)

-- the processor read these bytes
abbrev pub TellsShown : Outcome → List ℕ → Type 0
TellsShown reply bytes = (held : ArrayVec ℕ) × (reply ≡ outcome.Bytes held) × (held.items ≡ bytes)
