-- The hardware of a world, by its parts, and what its answers are told as.
-- For the calls inside this crate alone; no public contract cites these.
use Rattle.std.specs.Prelude.{ℕ, Bool, Result, Ok, Err, if◌then◌else◌}
use Rattle.iom_base.specs.declared.refusal.Refusal.{Refusal}
use Rattle.iom_base.specs.declared.refusal.Refusal.TheVariants.{FrameOutOfRange}
use Rattle.iom_board.specs.declared.answers.CacheReply.{CacheReply}
use Rattle.iom_board.specs.declared.answers.CacheReply.TheVariants.{Miss, Replied}
use Rattle.iom_board.specs.declared.answers.NoPlace.{NoPlace}
use Rattle.iom_board.specs.declared.answers.NoPlace.TheVariants.{BadSpan, OutsideMemory}
use Rattle.iom_board.specs.declared.answers.Delivered.{Delivered}
use Rattle.iom_board.specs.declared.answers.Delivered.TheVariants as delivered
use Rattle.iom_board.specs.BoardParts.{BoardParts}
use Rattle.iom_hardware.specs.declared.steps.Stepped.{Stepped}
use Rattle.iom_hardware.specs.declared.steps.Stepped.TheVariants.{Began, Asked, Idle, Waiting, Down, Chain, Finished}
use Rattle.iom_machine.specs.declared.outcome.BlockStep.TheVariants as rest
use Rattle.iom_machine.specs.declared.outcome.Outcome.{Outcome}
use Rattle.iom_machine.specs.declared.outcome.Outcome.TheVariants as outcome
use Rattle.iom_world_effects.specs.Deliveries.{outcome_of_taking}
use Rattle.iom_world_effects.specs.Parts.{Parts}
use Rattle.iom_world_effects.specs.Requests.{outcome_of_reply}

-- all of it but the driver
abbrev pub hardware_of : Parts → BoardParts
hardware_of parts = record { memory = parts.memory; iommu = parts.iommu; devices = parts.devices; fabric = parts.fabric }

-- what a device's call is told as, by what comes of it where it isn't refused
abbrev pub outcome_unless : {A : Type 0} → (A → Outcome) → Result A Refusal → Outcome
outcome_unless told_as (Ok given) = told_as given
outcome_unless told_as (Err why) = outcome.Refused why

abbrev pub outcome_of_cache_reply : CacheReply → Outcome
outcome_of_cache_reply Miss = outcome.Miss
outcome_of_cache_reply (Replied reply) = outcome_of_reply reply

abbrev pub outcome_of_sending : Bool → Outcome
outcome_of_sending is_sent = if is_sent then outcome.Sent else outcome.Lost

-- what bytes without a place in memory are told as
abbrev pub outcome_of_no_place : NoPlace → Outcome
outcome_of_no_place BadSpan = outcome.BadSpan
outcome_of_no_place OutsideMemory = outcome.Refused FrameOutOfRange

-- what a store is told as
abbrev pub outcome_of_store : Result (Unit {0}) NoPlace → Outcome
outcome_of_store (Ok done) = outcome.Done
outcome_of_store (Err why) = outcome_of_no_place why

abbrev pub outcome_of_delivery : Delivered → Outcome
outcome_of_delivery delivered.NoMessage = outcome.NoMessage
outcome_of_delivery (delivered.Answered answer) = outcome.Answered answer
outcome_of_delivery (delivered.Taken taking) = outcome_of_taking taking
outcome_of_delivery delivered.Ignored = outcome.Ignored
outcome_of_delivery (delivered.Invalidated serial) = outcome.Invalidated serial
outcome_of_delivery (delivered.Closed serial) = outcome.Closed serial
outcome_of_delivery (delivered.NotClosed serial) = outcome.NotClosed serial

abbrev pub outcome_of_status : ℕ → Outcome
outcome_of_status status = outcome.Status status

-- what a step of a block device is told as
abbrev pub outcome_of_step : Stepped → Outcome
outcome_of_step (Began answer) = outcome_of_reply answer
outcome_of_step Asked = outcome.Stepped rest.Asked
outcome_of_step Idle = outcome.Stepped rest.Idle
outcome_of_step Waiting = outcome.Stepped rest.Waiting
outcome_of_step Down = outcome.Stepped rest.Down
outcome_of_step (Chain fault) = outcome.Stepped (rest.Chain fault)
outcome_of_step (Finished head len) = outcome.Stepped (rest.Finished head len)
