-- The places of outcomes, of which those that come line after line are told.
use Rattle.std.specs.Prelude.{◌≡◌, ℕ, false}
use Rattle.iom_base.specs.declared.cause.Cause.{Cause}
use Rattle.iom_fabric.specs.declared.message.Translation.{Translation}
use Rattle.iom_machine.specs.declared.outcome.BlockStep.{BlockStep}
use Rattle.iom_machine.specs.declared.outcome.FaultRecord.{FaultRecord}
use Rattle.iom_machine.specs.declared.outcome.Fetched.{Fetched}
use Rattle.iom_machine.specs.declared.outcome.Outcome.TheVariants as outcomes
use Rattle.iom_trace_lines.specs.declared.kept.KeptOutcomes.{KeptOutcomes}

-- each place is of its kind
pub record AreOfKind (kept : KeptOutcomes) : Type 0 where
  pub done : kept.done.value ≡ outcomes.Done
  pub accepted : (number : ℕ) × (kept.accepted.value ≡ outcomes.Accepted number)
  pub read : (bytes : _) × (kept.read.value ≡ outcomes.Read bytes)
  pub wrote : (len : ℕ) × (kept.wrote.value ≡ outcomes.Wrote len)
  pub ticket : (ticket : ℕ) × (kept.ticket.value ≡ outcomes.Ticket ticket)
  pub fault : (cause : Cause) × (kept.fault.value ≡ outcomes.Fault cause)
  pub fetched : (fetched : Fetched) × (kept.fetched.value ≡ outcomes.Fetched fetched)
  pub confirmed : (first last : ℕ) × (kept.confirmed.value ≡ outcomes.Confirmed first last false)
  pub none_confirmed : kept.none_confirmed.value ≡ outcomes.NoneConfirmed false
  pub bytes : (bytes : _) × (kept.bytes.value ≡ outcomes.Bytes bytes)
  pub no_record : kept.no_record.value ≡ outcomes.NoRecord
  pub sent : kept.sent.value ≡ outcomes.Sent
  pub kept_there : kept.kept.value ≡ outcomes.Kept
  pub fault_record : (words : FaultRecord) × (kept.«record».value ≡ outcomes.Record words)
  pub stepped : (step : BlockStep) × (kept.stepped.value ≡ outcomes.Stepped step)
  pub answered : (reply : Translation) × (kept.answered.value ≡ outcomes.Answered reply)
