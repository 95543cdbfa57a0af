use Rattle.std.proofs.Common.{◌≡◌, true}
use Rattle.iom_command_queue.specs.Waiting.{how_many}
use Rattle.iom_hardware_ways.specs.Scenes.{waiting_places}
use Rattle.iom_registers.specs.Queues.{is_command_queue_on}
use Rattle.iom_way_survey.proofs.QueueLemmas.{IsLeft, IsFrameAt, IsWordAt}
use Rattle.iom_way_survey.proofs.queues.survey_queue.Given as goal

-- what is still to come
abbrev pub invariant-loop-entry : goal.invariant-loop-entry
invariant-loop-entry l = record {
  on : is_command_queue_on l.left ≡ true;
  frames : IsLeft IsFrameAt l.fn.read l.read (waiting_places l.registers) (waiting_places l.left);
  words : IsLeft (IsWordAt l.memory) l.fn.stored l.stored (waiting_places l.registers) (waiting_places l.left);
}

abbrev pub decreases-loop-entry : goal.decreases-loop-entry
decreases-loop-entry l = how_many l.left
