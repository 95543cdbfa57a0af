-- How the hardware's memory is read, as formats of walks: entries of page tables, of the directory and of the command queue (RISC-V Privileged
-- Architecture, "Sv39" and "Sv48"; IOMMU specification, sections 2.1 and 3.1).
use Rattle.std.specs.Prelude.{ℕ, zero, suc, ◌+◌, ◌*◌, ◌/◌, ◌%◌, ◌==◌, nat_lt, Bool, true, false, List, [], ◌∷◌, map, drop, Option, None, option_map, Result, Ok, Err, if◌then◌else◌}
use Rattle.byteorder.specs.Endian.{little_number}
use Rattle.iom_base.specs.declared.cause.Cause.{Cause}
use Rattle.iom_base.specs.declared.rights.Rights.{Rights}
use Rattle.iom_base.specs.Sizes.{page_size, levels_of}
use Rattle.iom_base.specs.Tables.{entry_size, table_entries}
use Rattle.iom_command_queue.specs.declared.command.Command.{Command}
use Rattle.iom_command_queue.specs.declared.command.Command.TheVariants.{IotinvalVma, IotinvalGvma, IofenceC, IodirInvalDdt, AtsInval}
use Rattle.iom_command_queue.specs.declared.command.FenceStore.{FenceStore}
use Rattle.iom_command_queue.specs.declared.entry.QueueEntry.{QueueEntry}
use Rattle.iom_command_queue.specs.declared.entry.QueueEntry.TheVariants as stands
use Rattle.iom_command_queue.specs.Waiting.{entry_by_words}
use Rattle.iom_device_dir.specs.declared.context.Context.{Context as DeviceContext}
use Rattle.iom_device_dir.specs.declared.entry.NonLeafEntry.{NonLeafEntry}
use Rattle.iom_device_dir.specs.declared.stages.FirstStage.{FirstStage as First}
use Rattle.iom_device_dir.specs.declared.stages.FirstStage.TheVariants as first
use Rattle.iom_device_dir.specs.declared.stages.SecondStage.{SecondStage as Second}
use Rattle.iom_device_dir.specs.declared.stages.SecondStage.TheVariants as second
use Rattle.iom_device_dir.specs.Paths.{context_size, ddi, ids_below, four_context_words}
use Rattle.iom_device_dir.specs.Located.{loaded_entry, loaded_context}
use Rattle.iom_stage_walk.specs.declared.entry.Entry.{Entry}
use Rattle.iom_stage_walk.specs.declared.entry.Entry.TheVariants as entry
use Rattle.iom_stage_walk.specs.Entries.{entry_read}
use Rattle.iom_stage_walk.specs.Paths.{pages_spanned, page_in, path_of, first_widths}
use Rattle.iom_stage_walk.specs.Second.{second_widths}
use Rattle.iom_napot.specs.Entries.{napot_read}
use Rattle.iom_reach.specs.Memory.{Frame, Found, Nothing, Pointer, Leaf, Format, WalkStep}
use Rattle.iom_reach.specs.Scene.{Mapping, Stages, NoStage, FirstStage, SecondStage, BothStages, Context, Formats}

-- the word of eight bytes at an offset of a frame, the least byte first; none, where memory has no such frame
abbrev pub word_in : Frame → ℕ → Option ℕ
word_in frame offset = option_map (λ bytes. little_number 8 (drop offset bytes)) frame

-- PAGE TABLES

-- the step at an index of a table, of which each frame has 512 entries, and the index of a step
abbrev pub step_at : ℕ → WalkStep
step_at index = record { frame = index / table_entries; place = index % table_entries }

abbrev pub index_of : WalkStep → ℕ
index_of step = table_entries * step.frame + step.place

-- a leaf gives the page that the indices below it name its frame, where it is aligned to what it spans; else it faults
abbrev pub found_leaf : ℕ → Rights → List ℕ → Found Mapping
found_leaf base rights below =
    if base % pages_spanned below == 0 then Leaf (record { frame = base + page_in below; rights = rights }) else Nothing

-- what an entry is to a walk, with these steps left
abbrev pub found_entry : Entry → List WalkStep → Found Mapping
found_entry entry.Outside left = Nothing
found_entry entry.Invalid left = Nothing
found_entry (entry.Pointer next) left = Pointer next
found_entry (entry.Leaf base rights) left = found_leaf base rights (map index_of left)

abbrev pub entry_format : Format Mapping
entry_format frame place left = found_entry (entry_read (word_in frame (entry_size * place))) left

-- the same where walks know leaves of 64 KiB (Privileged Architecture, "Svnapot"): one stands where no step is left, in a table whose entries are of pages alone
abbrev pub napot_format : Format Mapping
napot_format frame place [] = found_entry (napot_read (word_in frame (entry_size * place)) place) []
napot_format frame place (step ∷ left) = entry_format frame place (step ∷ left)

-- so hardware reads an entry that knows them, or doesn't
abbrev pub format_of : Bool → Format Mapping
format_of false = entry_format
format_of true = napot_format

-- the steps of a walk to a page, in tables of these widths
abbrev pub steps_along : List ℕ → ℕ → List WalkStep
steps_along widths page = map step_at (path_of widths page)

-- in both stages it is a page of the second's that counts: a guest physical page
abbrev pub steps_in : Stages → ℕ → List WalkStep
steps_in NoStage page = []
steps_in (FirstStage pscid tables) page = steps_along (first_widths tables.levels) page
steps_in (SecondStage gscid tables) page = steps_along (second_widths tables.levels) page
steps_in (BothStages gscid pscid guest tables) page = steps_along (second_widths tables.levels) page

-- CONTEXTS

-- the stages of a context
abbrev pub stages_in : First → Second → (gscid pscid : ℕ) → Stages
stages_in first.Bare second.Bare gscid pscid = NoStage
stages_in (first.Tables size root) second.Bare gscid pscid = FirstStage pscid (record { root = root.number; levels = levels_of size })
stages_in first.Bare (second.Tables size root) gscid pscid = SecondStage gscid (record { root = root.number; levels = levels_of size })
stages_in (first.Tables first_size guest) (second.Tables second_size root) gscid pscid =
    BothStages gscid pscid (record { root = guest.number; levels = levels_of first_size }) (record { root = root.number; levels = levels_of second_size })

abbrev pub context_of : DeviceContext → Context
context_of context = record {
  lets_ats = context.en_ats;
  stages = stages_in context.first_stage context.second_stage context.gscid context.pscid.number;
}

abbrev pub context_found : Result DeviceContext Cause → Found Context
context_found (Ok context) = Leaf (context_of context)
context_found (Err cause) = Nothing

abbrev pub found_non_leaf : Result NonLeafEntry Cause → Found Context
found_non_leaf (Ok entry) = Pointer entry.next.number
found_non_leaf (Err cause) = Nothing

-- the context at an offset, by its four words, or the cause for which there is none
abbrev pub stored_context : Frame → ℕ → Result DeviceContext Cause
stored_context frame offset =
    loaded_context (four_context_words (word_in frame offset) (word_in frame (offset + 8)) (word_in frame (offset + 16)) (word_in frame (offset + 24)))

-- at the last step a context stands, before it non-leaf entries
abbrev pub context_format : Format Context
context_format frame place [] = context_found (stored_context frame (context_size * place))
context_format frame place (step ∷ left) = found_non_leaf (loaded_entry (word_in frame (entry_size * place)))

-- the steps along the indices of a device's id, one a level
abbrev pub indices_from : ℕ → ℕ → List WalkStep
indices_from zero device = record { frame = 0; place = ddi 0 device } ∷ []
indices_from (suc level) device = record { frame = 0; place = ddi (suc level) device } ∷ indices_from level device

-- an id that is too wide for so many levels has none
abbrev pub steps_of : ℕ → ℕ → List WalkStep
steps_of zero device = []
steps_of (suc level) device = if nat_lt device (ids_below level) then indices_from level device else []

-- COMMANDS

-- what stands in the 16 bytes at an offset of a frame
abbrev pub command_in : Frame → ℕ → QueueEntry
command_in frame offset = entry_by_words (word_in frame offset) (word_in frame (offset + 8))

-- the frame of the word that a command stores, if it is a fence that stores one
abbrev pub word_frame : Command → Option ℕ
word_frame (IotinvalVma gscid pscid page) = None
word_frame (IotinvalGvma gscid page) = None
word_frame (IofenceC store wsi pr pw) = option_map (λ (stored : FenceStore). stored.address / page_size) store
word_frame (IodirInvalDdt device) = None
word_frame (AtsInval device range) = None

abbrev pub stored_by : QueueEntry → Option ℕ
stored_by (stands.Command command) = word_frame command
stored_by (stands.Illegal reason) = None
stored_by stands.Outside = None

-- ALL OF THEM
abbrev pub formats : Formats
formats = record {
  entry = entry_format;
  context = context_format;
  word = λ frame offset. stored_by (command_in frame offset);
  steps_to = steps_in;
  steps_of = steps_of;
}
