-- Where the entry of a page stands, in the table of a level (RISC-V Privileged Architecture, "Sv39": a level's nine bits of the page number; section 15.5.1: eleven
-- in the root of a second stage).
use Rattle.std.specs.Prelude.{ℕ, ◌+◌, ◌/◌, ◌%◌, ◌^◌, Bool, List, ◌∷◌, Option, Some, None, if◌then◌else◌}
use Rattle.iom_base.specs.Tables.{table_entries}
use Rattle.iom_base.specs.declared.access.AccessKind.{AccessKind}
use Rattle.iom_base.specs.declared.rights.Rights.{Rights}
use Rattle.iom_stage_walk.specs.Paths.{path_of, first_widths, page_in}
use Rattle.iom_stage_walk.specs.Second.{root_entries}
use Rattle.iom_walk_loads.specs.Tables.{is_lawful}

-- the entries of a table
abbrev pub width_of : Bool → ℕ
width_of is_wide = if is_wide then root_entries else table_entries

-- the index of a page in a table of this level
abbrev pub index_at : Bool → ℕ → ℕ → ℕ
index_at is_wide level page = page / table_entries ^ level % width_of is_wide

-- its indices in the tables below
abbrev pub indices_below : ℕ → ℕ → List ℕ
indices_below level page = path_of (first_widths level) page

-- those in a table of this level and in the tables below
abbrev pub indices_from : Bool → ℕ → ℕ → List ℕ
indices_from is_wide level page = index_at is_wide level page ∷ indices_below level page

-- the page to which a leaf with these indices below it gives an access, None where it isn't lawful
abbrev pub page_by : AccessKind → ℕ → Rights → List ℕ → Option ℕ
page_by kind base rights below = if is_lawful kind base rights below then Some (base + page_in below) else None
