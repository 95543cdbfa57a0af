-- That a driver keeps its invariant, or is ready, is a fact: it has one proof at most.
use Rattle.std.specs.Prelude.{◌≡◌, ℕ, Bool, Option, Some, List, [], ◌∷◌, Result, Ok, Err}
use Rattle.std.specs.Coded.{Unit-prop, Coded-set, coded_ℕ, coded_option}
use Rattle.std.proofs.Common.{sym, ◌∙◌}
use Rattle.std.proofs.Math.Path.{Σ_path, to_path_p}
use Rattle.std.proofs.Props.{props}
use Rattle.std.proofs.lemmas.Option.{same_Some}
use Rattle.iom_base.specs.declared.cause.Cause.{Cause}
use Rattle.iom_base.specs.declared.mode.Mode.{Mode}
use Rattle.iom_base.specs.declared.mode.Mode.TheVariants.{First, Second, Both}
use Rattle.iom_base.specs.declared.owner.Owner.{Owner}
use Rattle.iom_device_dir.specs.declared.context.Context.{Context}
use Rattle.iom_directory_build.specs.Pages.{EndsLawfully}
use Rattle.iom_fault_queue.specs.declared.entry.Entry.{Entry as QueueEntry}
use Rattle.iom_fault_queue.specs.declared.entry.Entry.TheVariants as queue
use Rattle.iom_ledger.specs.declared.ledger.Ledger.{Ledger}
use Rattle.iom_page_table.specs.Trees.{IsUpper, IsLowest}
use Rattle.iom_registers.specs.declared.registers.Registers.{Registers}
use Rattle.iom_stage_walk.specs.declared.entry.Entry.{Entry}
use Rattle.iom_stage_walk.specs.declared.entry.Entry.TheVariants.{Outside, Invalid, Pointer, Leaf}
use Rattle.iom_driver.specs.declared.device.Device.{Device}
use Rattle.iom_driver.specs.Devices.{HaveOwnIds}
use Rattle.iom_driver.specs.Ready.{TablesStand, IsReport, IsReady}
use Rattle.iom_driver.specs.Invariant.{RiseBetween, StateInvariant}
use Rattle.iom_driver.specs.State.{DriverState}
use Rattle.iom_driver.specs.Tables.{IsRootIn}

pub upper_prop : (e : Entry) → IsProp (IsUpper e)
upper_prop Outside = hlevel props
upper_prop Invalid = Unit-prop
upper_prop (Pointer next) = Unit-prop
upper_prop (Leaf base rights) = hlevel props

pub lowest_prop : (e : Entry) → IsProp (IsLowest e)
lowest_prop Outside = hlevel props
lowest_prop Invalid = Unit-prop
lowest_prop (Pointer next) = hlevel props
lowest_prop (Leaf base rights) = Unit-prop

pub ends_prop : (found : Result Context Cause) → IsProp (EndsLawfully found)
ends_prop (Ok context) = Unit-prop
ends_prop (Err cause) = hlevel props

pub rise_prop : (first last : ℕ) (tickets : List ℕ) → IsProp (RiseBetween first last tickets)
rise_prop first last [] = hlevel props
rise_prop first last (ticket ∷ tickets) = let rest = rise_prop ticket last tickets in hlevel (props, rest)

pub own_ids_prop : (devices : List Device) → IsProp (HaveOwnIds devices)
own_ids_prop [] = hlevel props
own_ids_prop (device ∷ others) = let rest = own_ids_prop others in hlevel (props, rest)

pub driver_invariant_prop : (ledger : Ledger) (owners : List (Option Owner)) (devices : List Device) (frames levels : ℕ) (started : Bool) (given confirmed restarts restarted : ℕ)
    → IsProp (StateInvariant ledger owners devices frames levels started given confirmed restarts restarted)
driver_invariant_prop ledger owners devices frames levels started given confirmed restarts restarted = hlevel (props, rise_prop, own_ids_prop)

pub root_prop : (mode : Mode) (memory : List (List ℕ)) (root : ℕ) → IsProp (IsRootIn mode memory root)
root_prop (First size) memory root = hlevel (props, upper_prop, lowest_prop)
root_prop (Second size) memory root = hlevel (props, upper_prop, lowest_prop)
root_prop (Both size) memory root = hlevel (props, upper_prop, lowest_prop)

pub report_prop : (e : QueueEntry) → IsProp (IsReport e)
report_prop (queue.Record fields) = Unit-prop
report_prop queue.Illegal = hlevel props
report_prop queue.Outside = hlevel props

-- an option has one value at most
pub some_prop : (o : Option ℕ) → IsProp ((f : ℕ) × (o ≡ Some f))
some_prop o = λ x y.
    let same : x.0 ≡ y.0 = same_Some x.0 y.0 (sym x.1 ∙ y.1) in
    Σ_path same (to_path_p (λ i. o ≡ Some (same i)) (Coded-set (coded_option coded_ℕ) o (Some y.0) (coe 0 1 (k. o ≡ Some (same k)) x.1) y.1))

pub stand_prop : (d : DriverState) (memory : List (List ℕ)) → IsProp (TablesStand d memory)
stand_prop d memory = hlevel (props, root_prop, ends_prop, some_prop)

pub ready_prop : (d : DriverState) (memory : List (List ℕ)) (r : Registers) → IsProp (IsReady d memory r)
ready_prop d memory r = hlevel (props, root_prop, ends_prop, some_prop, report_prop)
