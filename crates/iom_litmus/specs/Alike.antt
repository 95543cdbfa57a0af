-- Happenings that are alike for a test: the future and the outcome depend on what they have in common alone.
use Rattle.std.specs.Prelude.{◌≡◌, ℕ, Bool, List, Option, Some, None, find, option_map, slice_get}
use Rattle.std.specs.List.{list_any}
use Rattle.iom_litmus_test.specs.declared.column.Cell.{Cell}
use Rattle.iom_litmus_test.specs.declared.column.Condition.{Condition}
use Rattle.iom_litmus_test.specs.declared.observable.Observable.{Observable}
use Rattle.iom_litmus_test.specs.declared.observable.Observable.TheVariants.{Answer, Touched, Before, Stuck, Wrong, Violated, Memory}
use Rattle.iom_litmus_test.specs.declared.observable.Spot.{Spot}
use Rattle.iom_litmus_test.specs.declared.test.Test.{Test}
use Rattle.iom_litmus.specs.declared.place.Happened.{Happened}
use Rattle.iom_litmus.specs.declared.place.Place.{Place}
use Rattle.iom_litmus.specs.Deeds.{is_run_of, is_drop, is_repeat, is_timeout}
use Rattle.iom_litmus.specs.Happenings.{is_passed, cells_of, times}
use Rattle.iom_litmus.specs.Listed.{IsListed}
use Rattle.iom_litmus.specs.Seen.{is_touched, is_before, is_any_wrong, is_any_violated}

-- the cell was run
abbrev pub is_run : Spot → List Happened → Bool
is_run spot happened = list_any (λ event. is_run_of spot event.deed) happened

-- what the cell was answered, where it was run
abbrev pub said_of : Option Happened → Option (List ℕ)
said_of None = None
said_of (Some event) = Some event.reply.text

abbrev pub said_to : Spot → List Happened → Option (List ℕ)
said_to spot happened = said_of (find (λ event. is_run_of spot event.deed) happened)

-- the answer on which a cell's condition is
abbrev pub AreAskedAlike : ℕ → Option Condition → List Happened → List Happened → Type 0
AreAskedAlike column None one other = Unit {0}
AreAskedAlike column (Some condition) one other =
    said_to (record { column = column; cell = condition.cell }) one ≡ said_to (record { column = column; cell = condition.cell }) other

-- whether a cell is behind its column, and the answer that it asks for
abbrev pub AreAlikeAt : ℕ → ℕ → Cell → List Happened → List Happened → Type 0
AreAlikeAt column k cell one other = (is_passed one column k ≡ is_passed other column k) × AreAskedAlike column cell.condition one other

abbrev pub AreAlikeIn : Test → ℕ → List Happened → List Happened → Type 0
AreAlikeIn test column one other = (k : ℕ) (cell : Cell) → slice_get (cells_of test column) k ≡ Some cell → AreAlikeAt column k cell one other

abbrev pub AreRunAlike : Option Spot → List Happened → List Happened → Type 0
AreRunAlike None one other = Unit {0}
AreRunAlike (Some spot) one other = is_run spot one ≡ is_run spot other

-- what is seen so far, and whether the cell was run from which on it is looked
abbrev pub AreSeenAlike : Observable → List Happened → List Happened → Type 0
AreSeenAlike (Answer spot) one other = said_to spot one ≡ said_to spot other
AreSeenAlike (Touched reach) one other = (is_touched reach one ≡ is_touched reach other) × AreRunAlike reach.after one other
AreSeenAlike (Before first then) one other = (is_before first then one ≡ is_before first then other) × (is_run first one ≡ is_run first other)
AreSeenAlike (Stuck column) one other = Unit {0}
AreSeenAlike Wrong one other = is_any_wrong one ≡ is_any_wrong other
AreSeenAlike Violated one other = is_any_violated one ≡ is_any_violated other
AreSeenAlike (Memory address length) one other = Unit {0}

pub record AreAlike (test : Test) (one other : List Happened) : Type 0 where
  pub columns : (column : ℕ) → AreAlikeIn test column one other
  pub seen : (observable : Observable) → IsListed test.observables observable → AreSeenAlike observable one other
  -- what is left of the budgets
  pub drops : times is_drop one ≡ times is_drop other
  pub repeats : times is_repeat one ≡ times is_repeat other
  pub timeouts : times is_timeout one ≡ times is_timeout other

-- the same place, but for what happened that makes no difference
abbrev pub IsSamePlace : {S : Type 0} → Test → Place S → Place S → Type 0
IsSamePlace test one other = (one.system ≡ other.system) × AreAlike test one.happened other.happened
