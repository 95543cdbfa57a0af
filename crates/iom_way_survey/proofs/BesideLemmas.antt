-- Hardware whose walks are whole, and hardware beside which requests are under way: of both the scene is that of the rows, and who has a request is plugged in.
use Rattle.std.proofs.Common.{◌≡◌, ℕ, Bool, List, [], ◌++◌, Option, None, Some, IfSome, option_map, refl, ap, append-nil, subst, arith}
use Rattle.iom_board.specs.BoardParts.{BoardParts}
use Rattle.iom_hardware_ways.proofs.ListLemmas.{same_function}
use Rattle.iom_hardware_ways.specs.Scenes.{scene_of}
use Rattle.iom_reach.specs.Scene.{HardwareScene}
use Rattle.iom_stepped_board.specs.Beside.{AreBeside}
use Rattle.iom_stepped_ways.specs.Scenes.{stepped_scene}
use Rattle.iom_walks.specs.Invariant.{AreWalks}
use Rattle.iom_walks.specs.Walks.{UnderWay, WalkRow, under_way_of}
use Rattle.iom_way_survey.proofs.UnderWayLemmas.{under_way_plugged}
use Rattle.iom_way_survey.proofs.WayLemmas.{none_is_some}
use Rattle.iom_way_survey.specs.Laws.{ArePlugged}
use Rattle.iom_way_survey.specs.Surveys.{InventsNone, Surveys, rows_in, scene_beside}
use Rattle.iom_way_survey.specs.declared.findings.Survey.{Survey}

pub no_walks : AreWalks []
no_walks = record { few = omega arith; distinct = tt; rows_are = tt }

-- who has a request under way is plugged in
pub are_plugged : {X : Type 0} (rows_of : X → List WalkRow) (parts : BoardParts) (walks : Option X) → IfSome walks (λ w. AreBeside parts (rows_of w))
    → ArePlugged parts (rows_in (option_map rows_of walks))
are_plugged rows_of parts None beside = λ id own is. absurd (none_is_some own is)
are_plugged rows_of parts (Some w) beside = λ id own is. under_way_plugged (rows_of w) parts.devices id own beside.ids is

-- where nothing is under way nothing is added
in_flight_alone : (s : HardwareScene) → (λ device. s.in_flight device ++ []) ≡ s.in_flight
in_flight_alone s = same_function (λ device. s.in_flight device ++ []) s.in_flight (λ device. append-nil (s.in_flight device))

scene_is : (trusted : ℕ → Bool) (parts : BoardParts) (walks : Option (List WalkRow)) → stepped_scene trusted parts (rows_in walks) ≡ scene_beside trusted parts walks
scene_is trusted parts None = ap (λ flights. record (scene_of trusted parts) { in_flight = flights }) (in_flight_alone (scene_of trusted parts))
scene_is trusted parts (Some rows) = refl

-- so what is surveyed of the one is of the other
pub surveys_beside : (survey : Survey) (trusted : ℕ → Bool) (parts : BoardParts) (walks : Option (List WalkRow)) → Surveys survey (stepped_scene trusted parts (rows_in walks))
    → Surveys survey (scene_beside trusted parts walks)
surveys_beside survey trusted parts walks is = subst (λ (s : HardwareScene). Surveys survey s) (scene_is trusted parts walks) is

pub invents_none_beside : (survey : Survey) (trusted : ℕ → Bool) (parts : BoardParts) (walks : Option (List WalkRow)) → InventsNone survey (stepped_scene trusted parts (rows_in walks))
    → InventsNone survey (scene_beside trusted parts walks)
invents_none_beside survey trusted parts walks is = subst (λ (s : HardwareScene). InventsNone survey s) (scene_is trusted parts walks) is
