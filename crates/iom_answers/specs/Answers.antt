-- An answer, as the outcome that says the same.
use Rattle.iom_machine.specs.declared.outcome.Outcome.{Outcome}
use Rattle.iom_machine.specs.declared.outcome.Outcome.TheVariants as outcome
use Rattle.iom_answers.specs.declared.answer.Answer.{Answer}
use Rattle.iom_answers.specs.declared.answer.Answer.TheVariants.{Done, Refused, Ticket, Confirmed, NoneConfirmed, Record, NoRecord, Fetched, TimedOut, NoEffect, Accepted, Busy, BadSpan, Fault, Miss, Sent, Lost, Answered, Kept, Stale, AnswerRefused, Ignored, Invalidated, Closed, NotClosed, Dropped, Repeated, NoMessage, Read, Wrote, NothingInFlight, Bytes, Free, Stepped, Status}

-- the outcome that says the same: it holds what is lent
abbrev pub outcome_of : Answer → Outcome
outcome_of Done = outcome.Done
outcome_of (Refused why) = outcome.Refused why
outcome_of (Ticket ticket) = outcome.Ticket ticket
outcome_of (Confirmed timed_out first last) = outcome.Confirmed first last timed_out
outcome_of (NoneConfirmed timed_out) = outcome.NoneConfirmed timed_out
outcome_of (Record taken) = outcome.Record taken.now
outcome_of NoRecord = outcome.NoRecord
outcome_of (Fetched fetched) = outcome.Fetched fetched
outcome_of TimedOut = outcome.TimedOut
outcome_of NoEffect = outcome.NoEffect
outcome_of (Accepted number) = outcome.Accepted number
outcome_of Busy = outcome.Busy
outcome_of BadSpan = outcome.BadSpan
outcome_of (Fault cause) = outcome.Fault cause
outcome_of Miss = outcome.Miss
outcome_of Sent = outcome.Sent
outcome_of Lost = outcome.Lost
outcome_of (Answered translation) = outcome.Answered translation
outcome_of Kept = outcome.Kept
outcome_of Stale = outcome.Stale
outcome_of AnswerRefused = outcome.AnswerRefused
outcome_of Ignored = outcome.Ignored
outcome_of (Invalidated serial) = outcome.Invalidated serial
outcome_of (Closed serial) = outcome.Closed serial
outcome_of (NotClosed serial) = outcome.NotClosed serial
outcome_of Dropped = outcome.Dropped
outcome_of Repeated = outcome.Repeated
outcome_of NoMessage = outcome.NoMessage
outcome_of (Read lent) = outcome.Read (record { items = lent.bytes.now })
outcome_of (Wrote count) = outcome.Wrote count
outcome_of NothingInFlight = outcome.NothingInFlight
outcome_of (Bytes lent) = outcome.Bytes (record { items = lent.bytes.now })
outcome_of (Free is_free) = outcome.Free is_free
outcome_of (Stepped step) = outcome.Stepped step
outcome_of (Status status) = outcome.Status status
