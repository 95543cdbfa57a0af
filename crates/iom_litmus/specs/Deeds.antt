-- What was done.
use Rattle.std.specs.Prelude.{ℕ, Bool, true, false, ◌==◌, ◌&&◌, nat_le}
use Rattle.iom_litmus_test.specs.declared.observable.Spot.{Spot}
use Rattle.iom_litmus.specs.declared.place.Deed.{Deed}
use Rattle.iom_litmus.specs.declared.place.Deed.TheVariants as Deeds
use Rattle.iom_litmus.specs.declared.step.HardwareStep.{HardwareStep}
use Rattle.iom_litmus.specs.declared.step.HardwareStep.TheVariants as Acts

-- this cell was run
abbrev pub is_run_of : Spot → Deed → Bool
is_run_of spot (Deeds.Cell other) = (spot.column == other.column) && (spot.cell == other.cell)
is_run_of spot (Deeds.Hardware _) = false

-- the cell at this place of the column was run, or one behind it
abbrev pub is_passed_by : ℕ → ℕ → Deed → Bool
is_passed_by column cell (Deeds.Cell other) = (column == other.column) && nat_le cell other.cell
is_passed_by column cell (Deeds.Hardware _) = false

-- hardware lost a message, had one come again, gave up
abbrev pub is_drop : Deed → Bool
is_drop (Deeds.Hardware (Acts.Drop _)) = true
is_drop _ = false

abbrev pub is_repeat : Deed → Bool
is_repeat (Deeds.Hardware (Acts.Repeat _)) = true
is_repeat _ = false

abbrev pub is_timeout : Deed → Bool
is_timeout (Deeds.Hardware Acts.Timeout) = true
is_timeout _ = false

-- the same deed, by the numbers of its parts
abbrev pub act_kind : HardwareStep → ℕ
act_kind Acts.Fetch = 1
act_kind (Acts.Commit _) = 2
act_kind (Acts.Load _) = 3
act_kind (Acts.Deliver _) = 4
act_kind (Acts.Drop _) = 5
act_kind (Acts.Repeat _) = 6
act_kind Acts.Timeout = 7

abbrev pub act_of_what : HardwareStep → ℕ
act_of_what Acts.Fetch = 0
act_of_what (Acts.Commit device) = device
act_of_what (Acts.Load device) = device
act_of_what (Acts.Deliver message) = message
act_of_what (Acts.Drop message) = message
act_of_what (Acts.Repeat message) = message
act_of_what Acts.Timeout = 0

abbrev pub deed_kind : Deed → ℕ
deed_kind (Deeds.Cell spot) = 0
deed_kind (Deeds.Hardware act) = act_kind act

abbrev pub deed_of_what : Deed → ℕ
deed_of_what (Deeds.Cell spot) = spot.column
deed_of_what (Deeds.Hardware act) = act_of_what act

abbrev pub deed_cell : Deed → ℕ
deed_cell (Deeds.Cell spot) = spot.cell
deed_cell (Deeds.Hardware act) = 0

abbrev pub is_deed : Deed → Deed → Bool
is_deed one other = (deed_kind one == deed_kind other) && ((deed_of_what one == deed_of_what other) && (deed_cell one == deed_cell other))
