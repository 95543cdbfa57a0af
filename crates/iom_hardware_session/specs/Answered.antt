-- What a line is answered, by the kind of its answer.
use Rattle.std.specs.Prelude.{ℕ, Bool, Option, None, Some, Result}
use Rattle.iom_base.specs.declared.refusal.Refusal.{Refusal}
use Rattle.iom_fabric.specs.declared.fabric.Repeat.{Repeat as Repeated}
use Rattle.iom_board.specs.declared.answers.CacheReply.{CacheReply}
use Rattle.iom_board.specs.declared.answers.Delivered.{Delivered}
use Rattle.iom_board.specs.declared.answers.NoPlace.{NoPlace}
use Rattle.iom_hardware.specs.declared.steps.Stepped.{Stepped}
use Rattle.iom_inflight.specs.declared.made.MadeAt.{MadeAt}
use Rattle.iom_iommu.specs.declared.begun.Begun.{Begun}
use Rattle.iom_iommu.specs.declared.begun.Load.{Load}
use Rattle.iom_iommu.specs.declared.fetched.Fetched.{Fetched}
use Rattle.iom_iommu.specs.declared.reply.Reply.{Reply}
use Rattle.iom_hardware_session.specs.declared.answer.Answer.{Answer}
use Rattle.iom_hardware_session.specs.declared.answer.Answer.TheVariants as answered
use Rattle.iom_hardware_session.specs.declared.answer.ClaimAnswer.{ClaimAnswer}
use Rattle.iom_stepped_hardware.specs.declared.steps.StepOutcome.{StepOutcome}

-- each is the answer, where it is of that kind
abbrev pub reply_in : Answer → Option (Result Reply Refusal)
reply_in (answered.Replied answer) = Some answer
reply_in answer = None

abbrev pub begun_in : Answer → Option (Result Begun Refusal)
begun_in (answered.Begun answer) = Some answer
begun_in answer = None

abbrev pub walk_load_in : Answer → Option (Result Load Refusal)
walk_load_in (answered.WalkLoad answer) = Some answer
walk_load_in answer = None

abbrev pub outcome_in : Answer → Option (Result StepOutcome Refusal)
outcome_in (answered.StepOutcome answer) = Some answer
outcome_in answer = None

abbrev pub cache_reply_in : Answer → Option (Result CacheReply Refusal)
cache_reply_in (answered.ThroughCache answer) = Some answer
cache_reply_in answer = None

abbrev pub sending_in : Answer → Option (Result Bool Refusal)
sending_in (answered.Sent answer) = Some answer
sending_in answer = None

abbrev pub fetch_in : Answer → Option (Fetched)
fetch_in (answered.Fetched answer) = Some answer
fetch_in answer = None

abbrev pub timeout_in : Answer → Option (Bool)
timeout_in (answered.TimedOut answer) = Some answer
timeout_in answer = None

abbrev pub delivery_in : Answer → Option (Delivered)
delivery_in (answered.Delivered answer) = Some answer
delivery_in answer = None

abbrev pub drop_in : Answer → Option (Bool)
drop_in (answered.Dropped answer) = Some answer
drop_in answer = None

abbrev pub repeat_in : Answer → Option (Repeated)
repeat_in (answered.Repeated answer) = Some answer
repeat_in answer = None

abbrev pub commit_in : Answer → Option (Result (Option MadeAt) Refusal)
commit_in (answered.Committed answer) = Some answer
commit_in answer = None

abbrev pub reset_in : Answer → Option (Result (Unit {0}) Refusal)
reset_in (answered.Reset answer) = Some answer
reset_in answer = None

abbrev pub plug_in : Answer → Option (Result (Unit {0}) Refusal)
plug_in (answered.Plugged answer) = Some answer
plug_in answer = None

abbrev pub medium_in : Answer → Option (Result (Unit {0}) Refusal)
medium_in (answered.TookDisk answer) = Some answer
medium_in answer = None

abbrev pub queue_in : Answer → Option (Result (Unit {0}) Refusal)
queue_in (answered.QueueSet answer) = Some answer
queue_in answer = None

abbrev pub step_in : Answer → Option (Result Stepped Refusal)
step_in (answered.TookStep answer) = Some answer
step_in answer = None

abbrev pub status_in : Answer → Option (Result ℕ Refusal)
status_in (answered.Status answer) = Some answer
status_in answer = None

abbrev pub store_in : Answer → Option (Result (Unit {0}) NoPlace)
store_in (answered.Stored answer) = Some answer
store_in answer = None

abbrev pub load_in : Answer → Option (Result (Unit {0}) NoPlace)
load_in (answered.Loaded answer) = Some answer
load_in answer = None

abbrev pub judgement_in : Answer → Option (ClaimAnswer)
judgement_in (answered.Claim answer) = Some answer
judgement_in answer = None
