use Rattle.std.proofs.Common.{List, subst}
use Rattle.iom_board.specs.BoardParts.{board_parts}
use Rattle.iom_pointer_ways.specs.Scenes.{pointed_scene}
use Rattle.iom_pointers.specs.declared.pointer.Pointer.{Pointer}
use Rattle.iom_way_survey.specs.Surveys.{InventsNone, Surveys}
use Rattle.iom_way_survey.proofs.findings.Survey.look_along.Goals as goal

pub returns-clause-missed : goal.returns-clause-missed
returns-clause-missed c = λ trusted surveys.
    subst (λ (pointers : List Pointer). Surveys c.add_along.new.self (pointed_scene c.args.napot trusted (board_parts c.args.hardware.now) pointers)) c.as_slice.ensures
    (c.add_along.ensures.missed trusted surveys.rows surveys)

pub returns-clause-invented : goal.returns-clause-invented
returns-clause-invented c = λ trusted invents.
    subst (λ (pointers : List Pointer). InventsNone c.add_along.new.self (pointed_scene c.args.napot trusted (board_parts c.args.hardware.now) pointers)) c.as_slice.ensures
    (c.add_along.ensures.invented trusted invents)
