use Rattle.std.proofs.Common.{subst, option_map}
use Rattle.iom_board.specs.BoardParts.{board_parts}
use Rattle.iom_hardware_ways.specs.Scenes.{waiting_places}
use Rattle.iom_registers.specs.declared.registers.Registers.{Registers}
use Rattle.iom_table_survey.specs.Rows.{GrowsBy}
use Rattle.iom_way_survey.specs.Queues.{IsFrameAmong, IsWordAmong, IsOfFaults}
use Rattle.iom_way_survey.specs.Surveys.{rows_in, is_id_among}
use Rattle.iom_way_survey.proofs.AlongLemmas.{rows_of_each}
use Rattle.iom_way_survey.proofs.BesideLemmas.{are_plugged, invents_none_beside, surveys_beside}
use Rattle.iom_way_survey.proofs.LookLemmas.{ways_reached, rows_trust, all_read, all_stored}
use Rattle.iom_way_survey.proofs.SoleLemmas.{rows_back, read_back, stored_back}
use Rattle.iom_way_survey.proofs.findings.Survey.look.Goals as goal

pub returns-clause-missed : goal.returns-clause-missed
returns-clause-missed c =
    let hardware = c.args.hardware.now in
    let parts = board_parts hardware in
    let trusted = c.args.trusted.now in
    let walks = rows_in (option_map (λ w. w.now) c.args.walks) in
    let sound = c.facts_beside.ensures in
    let plugs = are_plugged (λ w. w.now) parts c.args.walks c.requires.beside in
    let rows = c.survey_devices.new.rows.items in
    let here = c.registers-registers.ensures in
    let frames = subst (λ (r : Registers). GrowsBy c.survey_directory.new.read c.survey_queue.new.read (IsFrameAmong (waiting_places r))) here c.survey_queue.ensures.frames in
    let words = subst (λ (r : Registers). GrowsBy c.clear-3.new.self c.survey_queue.new.stored (IsWordAmong hardware.memory (waiting_places r))) here c.survey_queue.ensures.words in
    let faults = subst (λ (r : Registers). GrowsBy c.survey_queue.new.stored c.survey_faults.new.stored (IsOfFaults r)) here c.survey_faults.ensures in
    surveys_beside _ (is_id_among trusted) parts (option_map (λ w. w.now) c.args.walks) (record {
      reached = ways_reached parts walks trusted rows hardware.events sound plugs c.requires.invariants c.facts.ensures.flights c.survey_devices.ensures.rows;
      read = all_read (is_id_among trusted) parts walks sound plugs c.clear-2.new.self c.survey_devices.new.read c.survey_directory.new.read c.survey_queue.new.read
          c.survey_devices.ensures.tables c.survey_directory.ensures frames;
      stored = all_stored (is_id_among trusted) parts walks c.clear-3.new.self c.survey_queue.new.stored c.survey_faults.new.stored words faults;
      trusted = rows_trust parts walks trusted rows c.survey_devices.ensures.rows;
      rows = rows_of_each (is_id_among trusted) parts walks trusted rows sound plugs c.survey_devices.ensures.rows;
    })

pub returns-clause-invented : goal.returns-clause-invented
returns-clause-invented c =
    let hardware = c.args.hardware.now in
    let parts = board_parts hardware in
    let trusted = c.args.trusted.now in
    let walks = rows_in (option_map (λ w. w.now) c.args.walks) in
    let sound = c.facts_beside.ensures in
    let rows = c.survey_devices.new.rows.items in
    let here = c.registers-registers.ensures in
    let frames = subst (λ (r : Registers). GrowsBy c.survey_directory.new.read c.survey_queue.new.read (IsFrameAmong (waiting_places r))) here c.survey_queue.ensures.frames in
    let words = subst (λ (r : Registers). GrowsBy c.clear-3.new.self c.survey_queue.new.stored (IsWordAmong hardware.memory (waiting_places r))) here c.survey_queue.ensures.words in
    let faults = subst (λ (r : Registers). GrowsBy c.survey_queue.new.stored c.survey_faults.new.stored (IsOfFaults r)) here c.survey_faults.ensures in
    invents_none_beside _ (is_id_among trusted) parts (option_map (λ w. w.now) c.args.walks) (record {
      reached = rows_back parts walks sound trusted rows c.requires.invariants.own_ids c.survey_devices.ensures.rows;
      read = read_back (is_id_among trusted) parts walks sound c.clear-2.new.self c.survey_devices.new.read c.survey_directory.new.read c.survey_queue.new.read
          c.clear-2.ensures c.survey_devices.ensures.tables c.survey_directory.ensures frames;
      stored = stored_back (is_id_among trusted) parts walks c.clear-3.new.self c.survey_queue.new.stored c.survey_faults.new.stored c.clear-3.ensures words faults;
    })
