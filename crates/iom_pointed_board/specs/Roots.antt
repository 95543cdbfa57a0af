-- The tables that a request walks, from their root (RISC-V IOMMU Architecture Specification 1.0, section 2.3, "Process to translate an IOVA").
use Rattle.std.specs.Prelude.{ℕ, ◌+◌, ◌-◌, ◌*◌, ◌/◌, ◌^◌, nat_lt, Bool, true, false, Option, None, Some, if◌then◌else◌}
use Rattle.iom_base.specs.Sizes.{levels_of, page_size}
use Rattle.iom_base.specs.declared.ppn.Ppn.{Ppn}
use Rattle.iom_board.specs.BoardParts.{BoardParts}
use Rattle.iom_device_dir.specs.declared.context.Context.{Context}
use Rattle.iom_stepped_walk.specs.declared.hand.TableInHand.{TableInHand}
use Rattle.iom_walk_loads.specs.Tables.{is_canonical}
use Rattle.iom_walk_stops.specs.Stages.{stages_of}
use Rattle.iom_walk_stops.specs.declared.stages.Stages.{Stages}
use Rattle.iom_walk_stops.specs.declared.stages.Stages.TheVariants.{First, Second, Both}
use Rattle.iom_way_survey.specs.Found.{cached_found, stored_found}

-- the context that a request of the device finds: the one that is cached, or else the one that the directory has
abbrev pub cached_or : Option Context → Option Context → Option Context
cached_or None stored = stored
cached_or (Some context) stored = Some context

abbrev pub context_found : BoardParts → ℕ → Option Context
context_found parts id = cached_or (cached_found parts id) (stored_found parts id)

-- AT THE ROOT

abbrev pub hand_in : Ppn → ℕ → (is_wide : Bool) → ℕ → TableInHand
hand_in table levels is_wide address = record { table = table; level = levels - 1; is_wide = is_wide; page = address / page_size }

-- the root's table, of the one stage that translates. None in both stages, and where the address has bits that the stage doesn't translate
abbrev pub root_of : Stages → ℕ → Option TableInHand
root_of (First size root) address = if is_canonical (levels_of size) address then Some (hand_in root (levels_of size) false address) else None
root_of (Second size root) address = if nat_lt address (2 ^ (9 * levels_of size + 14)) then Some (hand_in root (levels_of size) true address) else None
root_of (Both first_size first second_size second) address = None

abbrev pub root_by : Option Stages → ℕ → Option TableInHand
root_by None address = None
root_by (Some stages) address = root_of stages address

abbrev pub root_in : Context → ℕ → Option TableInHand
root_in context address = root_by (stages_of context.first_stage context.second_stage) address
