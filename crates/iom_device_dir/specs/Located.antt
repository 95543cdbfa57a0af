-- The path of a device id as a function: where it ends.
use Rattle.std.specs.Prelude.{ℕ, zero, suc, nat_lt, List, Option, Some, None, Result, Ok, Err, if◌then◌else◌}
use Rattle.iom_base.specs.declared.cause.Cause.{Cause}
use Rattle.iom_base.specs.declared.cause.Cause.TheVariants.{AllInboundDisallowed, DirectoryLoadFault, TransactionTypeDisallowed}
use Rattle.iom_phys_mem.specs.Words.{word_at}
use Rattle.iom_registers.specs.declared.directory.DirectoryMode.{DirectoryMode}
use Rattle.iom_registers.specs.declared.directory.DirectoryMode.TheVariants.{Off, Bare, OneLevel, TwoLevels, ThreeLevels}
use Rattle.iom_registers.specs.declared.directory.DirectoryPointer.{DirectoryPointer}
use Rattle.iom_device_dir.specs.declared.context.Context.{Context}
use Rattle.iom_device_dir.specs.declared.entry.NonLeafEntry.{NonLeafEntry}
use Rattle.iom_device_dir.specs.declared.words.ContextWords.{ContextWords}
use Rattle.iom_device_dir.specs.Decoded.{decoded_non_leaf_entry, decoded_context}
use Rattle.iom_device_dir.specs.Paths.{ddi, entry_place, context_place, context_words_at, ids_below}

-- what the load of an entry gives
abbrev pub loaded_entry : Option ℕ → Result NonLeafEntry Cause
loaded_entry None = Err DirectoryLoadFault
loaded_entry (Some word) = decoded_non_leaf_entry word

-- what the loads of a context give
abbrev pub loaded_context : Option ContextWords → Result Context Cause
loaded_context None = Err DirectoryLoadFault
loaded_context (Some words) = decoded_context words

-- what follows an entry; its cause, where there is none
abbrev pub follow_entry : Result NonLeafEntry Cause → (ℕ → Result Context Cause) → Result Context Cause
follow_entry (Ok entry) follow = follow entry.next.number
follow_entry (Err cause) follow = Err cause

-- where the path ends from the directory page of a level on
abbrev pub path_end_from : List (List ℕ) → ℕ → ℕ → ℕ → Result Context Cause
path_end_from memory zero page id = loaded_context (context_words_at memory (context_place page (ddi 0 id)))
path_end_from memory (suc level) page id =
    follow_entry (loaded_entry (word_at 8 memory (entry_place page (ddi (suc level) id)))) (λ next. path_end_from memory level next id)

-- in a directory whose root has this level
abbrev pub located_from_level : ℕ → List (List ℕ) → ℕ → ℕ → Result Context Cause
located_from_level level memory root id = if nat_lt id (ids_below level) then path_end_from memory level root id else Err TransactionTypeDisallowed

-- by ddtp's mode. Nobody looks for a context where it is Bare
unfoldable pub located_by_mode : DirectoryMode → List (List ℕ) → ℕ → ℕ → Result Context Cause
located_by_mode Off memory root id = Err AllInboundDisallowed
located_by_mode Bare memory root id = Err AllInboundDisallowed
located_by_mode OneLevel memory root id = located_from_level 0 memory root id
located_by_mode TwoLevels memory root id = located_from_level 1 memory root id
located_by_mode ThreeLevels memory root id = located_from_level 2 memory root id

abbrev pub located_context : List (List ℕ) → DirectoryPointer → ℕ → Result Context Cause
located_context memory ddtp id = located_by_mode ddtp.mode memory ddtp.ppn id
