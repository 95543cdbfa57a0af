use Rattle.std.proofs.Common.{sym, subst}
use Rattle.iom_board.specs.BoardParts.{board_parts}
use Rattle.iom_hardware_session.specs.Good.{scene_by}
use Rattle.iom_hardware_session.specs.declared.beside.Beside.{Beside}
use Rattle.iom_way_survey.specs.Surveys.{IsSurveyOf, is_id_among}
use Rattle.iom_hardware_session.proofs.judging.look_beside.Goals as goal

pub look-requires-in-UnderWay-clause-beside : goal.look-requires-in-UnderWay-clause-beside
look-requires-in-UnderWay-clause-beside c = c.requires.sound c.in-UnderWay.walks c.in-UnderWay.is

pub returns-in-Nothing : goal.returns-in-Nothing
returns-in-Nothing c =
    subst (λ (beside : Beside). IsSurveyOf c.look.new.self (scene_by (is_id_among c.args.trusted.now) (board_parts c.args.hardware.now) beside)) (sym c.in-Nothing.is)
    (c.look.ensures.missed, c.look.ensures.invented)

pub returns-in-UnderWay : goal.returns-in-UnderWay
returns-in-UnderWay c =
    subst (λ (beside : Beside). IsSurveyOf c.look-in-UnderWay.new.self (scene_by (is_id_among c.args.trusted.now) (board_parts c.args.hardware.now) beside)) (sym c.in-UnderWay.is)
    (c.look-in-UnderWay.ensures.missed, c.look-in-UnderWay.ensures.invented)

pub returns-in-Pointers : goal.returns-in-Pointers
returns-in-Pointers c =
    let trusted = is_id_among c.args.trusted.now in
    subst (λ (beside : Beside). IsSurveyOf c.look_along.new.self (scene_by trusted (board_parts c.args.hardware.now) beside)) (sym c.in-Pointers.is)
    (c.look_along.ensures.missed trusted c.look-in-Pointers.ensures.missed, c.look_along.ensures.invented trusted c.look-in-Pointers.ensures.invented)
