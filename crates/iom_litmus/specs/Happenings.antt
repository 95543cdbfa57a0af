-- What can be read off what happened: what was answered, what comes next in a column, how often something was done.
use Rattle.std.specs.Prelude.{ℕ, ◌+◌, Bool, true, not, ◌&&◌, List, [], ◌∷◌, Option, Some, None, cond, find, count_by, slice_get}
use Rattle.std.specs.List.{list_any}
use Rattle.iom_litmus_test.specs.declared.column.Cell.{Cell}
use Rattle.iom_litmus_test.specs.declared.column.Column.{Column}
use Rattle.iom_litmus_test.specs.declared.column.Condition.{Condition}
use Rattle.iom_litmus_test.specs.declared.observable.Spot.{Spot}
use Rattle.iom_litmus_test.specs.declared.test.Test.{Test}
use Rattle.iom_litmus_test.specs.Globs.{is_match}
use Rattle.iom_litmus.specs.declared.place.Deed.{Deed}
use Rattle.iom_litmus.specs.declared.place.Happened.{Happened}
use Rattle.iom_litmus.specs.Deeds.{is_run_of, is_passed_by}

-- what the cell was answered, and the empty text where it wasn't run
abbrev pub text_said : Option Happened → List ℕ
text_said None = []
text_said (Some event) = event.reply.text

abbrev pub answer_to : Spot → List Happened → List ℕ
answer_to spot happened = text_said (find (λ event. is_run_of spot event.deed) happened)

-- the condition of a cell of this column holds
abbrev pub goes_ahead : List Happened → ℕ → Option Condition → Bool
goes_ahead happened column None = true
goes_ahead happened column (Some condition) = is_match condition.answer.parts (answer_to (record { column = column; cell = condition.cell }) happened)

-- the cell at this place of the column was run, or one behind it
abbrev pub is_passed : List Happened → ℕ → ℕ → Bool
is_passed happened column cell = list_any (λ event. is_passed_by column cell event.deed) happened

-- the cells of a column
abbrev pub cells_in : Option Column → List Cell
cells_in None = []
cells_in (Some column) = column.cells

abbrev pub cells_of : Test → ℕ → List Cell
cells_of test column = cells_in (slice_get test.columns column)

-- the next cell of a column, and its place: the first one behind the last that was run whose condition holds
abbrev pub first_from : List Happened → ℕ → ℕ → List Cell → Option (ℕ × Cell)
first_from happened column place [] = None
first_from happened column place (cell ∷ rest) =
    cond (not (is_passed happened column place) && goes_ahead happened column cell.condition) (Some (place, cell)) (first_from happened column (place + 1) rest)

abbrev pub next_cell : Test → List Happened → ℕ → Option (ℕ × Cell)
next_cell test happened column = first_from happened column 0 (cells_of test column)

-- how often something of this kind was done
abbrev pub times : (Deed → Bool) → List Happened → ℕ
times is_such happened = count_by (λ event. is_such event.deed) happened
