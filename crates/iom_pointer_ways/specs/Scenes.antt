-- The scene of hardware that caches pointers to tables: any walk of their address space may begin there.
use Rattle.std.specs.Prelude.{ℕ, suc, Bool, List, [], map, replicate, None}
use Rattle.iom_base.specs.Tables.{table_entries}
use Rattle.iom_board.specs.BoardParts.{BoardParts}
use Rattle.iom_hardware_ways.specs.Formats.{format_of, steps_along}
use Rattle.iom_hardware_ways.specs.Scenes.{scene_of}
use Rattle.iom_pointers.specs.declared.pointer.Pointer.{Pointer}
use Rattle.iom_reach.specs.Scene.{PartialWalk, HardwareScene, reading}
use Rattle.iom_stepped_ways.specs.Scenes.{Added, address_space, with_added}

-- the widths of a table of this level and of those below it
abbrev pub widths_below : ℕ → List ℕ
widths_below level = replicate (suc level) table_entries

-- a walk of any device in the address space that begins at the table
abbrev pub walk_from : Pointer → PartialWalk
walk_from pointer = record {
  device = None;
  space = address_space pointer.space;
  table = pointer.table.number;
  steps_to = steps_along (widths_below pointer.level);
}

abbrev pub walks_from : List Pointer → Added
walks_from pointers = record { partial_walks = map walk_from pointers; directory_walks = []; let_through = λ device. [] }

-- THE SCENE of hardware that has these pointers, and of which walks know leaves of 64 KiB, or don't
abbrev pub pointed_scene : Bool → (ℕ → Bool) → BoardParts → List Pointer → HardwareScene
pointed_scene napot trusted parts pointers = reading (format_of napot) (with_added (scene_of trusted parts) (walks_from pointers))
