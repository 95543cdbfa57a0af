use Rattle.std.proofs.Common.{option_map}
use Rattle.iom_board.specs.BoardParts.{board_parts}
use Rattle.iom_table_survey.proofs.AddLemmas.{reach_then}
use Rattle.iom_walks.specs.Walks.{under_way_of}
use Rattle.iom_way_survey.specs.Found.{IsInFlight}
use Rattle.iom_way_survey.specs.Walking.{IsLetThrough}
use Rattle.iom_way_survey.specs.Surveys.{rows_in}
use Rattle.iom_way_survey.proofs.devices.survey_accepted.Goals as goal

pub returns : goal.returns
returns c =
    let id = c.args.device.now.id in
    reach_then c.args.reach.now c.survey_flights.new.reach c.survey_let_through.new.reach (IsInFlight (board_parts c.args.hardware.now) id) (IsLetThrough (under_way_of (rows_in (option_map (λ w. w.now) c.args.walks)) id))
    c.survey_flights.ensures c.survey_let_through.ensures
