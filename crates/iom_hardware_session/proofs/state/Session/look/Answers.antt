use Rattle.std.proofs.Common.{ℕ, List, subst}
use Rattle.iom_board.specs.BoardParts.{board_parts}
use Rattle.iom_hardware_session.specs.Good.{scene_by}
use Rattle.iom_way_survey.specs.Surveys.{IsSurveyOf, is_id_among}
use Rattle.iom_hardware_session.proofs.state.Session.look.Goals as goal

pub returns-clause-looked : goal.returns-clause-looked
returns-clause-looked c = λ is.
    let session = c.args.self.now in
    subst (λ (ids : List ℕ). IsSurveyOf c.look_beside.new.survey (scene_by (is_id_among ids) (board_parts session.hardware.board) session.beside)) c.deref.ensures.value c.look_beside.ensures
