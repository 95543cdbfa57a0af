use Rattle.std.proofs.Common.{◌≡◌, ◌∙◌, ◌+◌, ◌*◌, ◌/◌, ◌<◌, subst, sym, ap}
use Rattle.iom_command_queue.specs.Waiting.{place_of, how_many}
use Rattle.iom_hardware_ways.specs.Scenes.{waiting_places}
use Rattle.iom_hardware_ways.proofs.FetchLemmas.{apart}
use Rattle.iom_registers.specs.Queues.{command_base, command_head, is_command_queue_on}
use Rattle.iom_registers.specs.declared.registers.Registers.{Registers}
use Rattle.iom_table_survey.specs.Rows.{GrowsBy}
use Rattle.iom_way_survey.proofs.QueueLemmas.{IsLeft, IsFrameAt, IsWordAt, none_left, none_waits, frame_passed, word_passed, fewer_wait}
use Rattle.iom_way_survey.proofs.queues.survey_queue.Goals as goal

pub advance-requires : goal.advance-requires
advance-requires c = apart c.args.memory.now c.loop-entry.left c.in-Some.entry (sym c.in-Some.ensures)

pub loop-entry-smaller : goal.loop-entry-smaller
loop-entry-smaller c =
    subst (λ (r : Registers). how_many r < how_many c.loop-entry.left) (sym c.advance.ensures.registers) (fewer_wait c.args.memory.now c.loop-entry.left c.in-Some.entry (sym c.in-Some.ensures))

pub loop-entry-preserved : goal.loop-entry-preserved
loop-entry-preserved c =
    let memory = c.args.memory.now in
    let r = c.loop-entry.left in
    let all = waiting_places c.args.registers.now in
    let there = sym c.in-Some.ensures in
    let before = c.loop-entry.invariant in
    let place : c.command_base.result + 16 * c.from.result ≡ place_of r (command_head r) =
    ap (λ base. base + 16 * c.from.result) c.command_base.ensures.value ∙ ap (λ index. command_base r + 16 * index) (c.from.ensures ∙ c.command_head.ensures.value) in
    let inserted : GrowsBy c.loop-entry.read c.insert.new.self (λ f. f ≡ place_of r (command_head r) / 4096) =
    subst (λ a. GrowsBy c.loop-entry.read c.insert.new.self (λ f. f ≡ a / 4096)) place c.insert.ensures in
    record {
      on = ap is_command_queue_on c.advance.ensures.registers ∙ before.on;
      frames = subst (λ (left : Registers). IsLeft IsFrameAt c.args.read.now c.insert.new.self all (waiting_places left)) (sym c.advance.ensures.registers)
          (frame_passed memory r c.in-Some.entry c.args.read.now c.loop-entry.read c.insert.new.self all before.on there inserted before.frames);
      words = subst (λ (left : Registers). IsLeft (IsWordAt memory) c.args.stored.now c.survey_word.new.stored all (waiting_places left)) (sym c.advance.ensures.registers)
          (word_passed memory r c.in-Some.entry c.args.stored.now c.loop-entry.stored c.survey_word.new.stored all before.on there c.survey_word.ensures before.words);
    }

pub returns : goal.returns
returns c =
    let all = waiting_places c.args.registers.now in
    let left = waiting_places c.loop-entry.left in
    let none = none_waits c.args.memory.now c.loop-entry.left (sym c.next.ensures ∙ c.in_default.is) in
    record {
      frames = none_left IsFrameAt c.args.read.now c.loop-entry.read all left none c.loop-entry.invariant.frames;
      words = none_left (IsWordAt c.args.memory.now) c.args.stored.now c.loop-entry.stored all left none c.loop-entry.invariant.words;
    }
