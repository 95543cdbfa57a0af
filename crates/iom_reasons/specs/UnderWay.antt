-- The messages under way (PCI Express Base Specification, chapter 10, "Address Translation Services"), as far as the lines of a trace show them.
use Rattle.std.specs.Prelude.{ℕ, List, ◌∷◌, ◌++◌, [], length, nat_lt, remove, slice_get, Option, None, Some, if◌then◌else◌}
use Rattle.iom_machine.specs.declared.event.Event.{Event}
use Rattle.iom_machine.specs.declared.event.Event.TheVariants as events
use Rattle.iom_machine.specs.declared.outcome.BlockStep.TheVariants.{Asked}
use Rattle.iom_machine.specs.declared.outcome.CommandName.TheVariants.{AtsInval}
use Rattle.iom_machine.specs.declared.outcome.Fetched.TheVariants.{Did}
use Rattle.iom_machine.specs.declared.outcome.Outcome.{Outcome}
use Rattle.iom_machine.specs.declared.outcome.Outcome.TheVariants as outcomes
use Rattle.iom_reasons.specs.declared.notes.Sent.{Sent}

-- The messages under way, in the order in which they were sent: each a question, or another message.
abbrev pub UnderWay : Type 0
UnderWay = List (Option Sent)

-- a message goes last, where there is room for it; else it is lost
abbrev pub sent : Option Sent → UnderWay → UnderWay
sent message messages = if nat_lt (length messages) 64 then messages ++ message ∷ [] else messages

-- a copy of the message at the place goes last
abbrev pub repeated : Option (Option Sent) → UnderWay → UnderWay
repeated None messages = messages
repeated (Some message) messages = sent message messages

-- What is under way after this came of an event. A delivery takes its message from the list; where that was a question or a request to invalidate, its
-- answer goes last.
abbrev pub after : Event → Outcome → UnderWay → UnderWay
after (events.Ask device page) outcomes.Sent messages = sent (Some (record { device = device; page = Some page })) messages
after (events.Step device) (outcomes.Stepped Asked) messages = sent (Some (record { device = device; page = None })) messages
after (events.Forge device serial) outcomes.Sent messages = sent None messages
after events.Fetch (outcomes.Fetched (Did AtsInval)) messages = sent None messages
after (events.Deliver place) outcomes.NoMessage messages = messages
after (events.Deliver place) (outcomes.Answered reply) messages = sent None (remove messages place)
after (events.Deliver place) (outcomes.Invalidated serial) messages = sent None (remove messages place)
after (events.Deliver place) _ messages = remove messages place
after (events.Drop place) outcomes.Dropped messages = remove messages place
after (events.Repeat place) outcomes.Repeated messages = repeated (slice_get messages place) messages
after _ _ messages = messages

-- the question at a place, if there is one
abbrev pub question_in : Option (Option Sent) → Option Sent
question_in None = None
question_in (Some message) = message

-- the question whose delivery the event is, if it is one
abbrev pub question_of : Event → UnderWay → Option Sent
question_of (events.Deliver place) messages = question_in (slice_get messages place)
question_of _ messages = None
