-- The grammars as functions: what words are decoded to.
use Rattle.std.specs.Prelude.{ℕ, ◌%◌, ◌==◌, ◌&&◌, Bool, Option, Some, None, option_map, Result, Ok, Err, if◌then◌else◌}
use Rattle.iom_base.specs.declared.cause.Cause.{Cause}
use Rattle.iom_base.specs.declared.cause.Cause.TheVariants.{DirectoryEntryNotValid, DirectoryEntryMisconfigured}
use Rattle.iom_base.specs.declared.size.Size.{Size}
use Rattle.iom_base.specs.declared.size.Size.TheVariants.{Sv39, Sv48}
use Rattle.iom_registers.specs.Bits.{bits}
use Rattle.iom_device_dir.specs.declared.context.Context.{Context}
use Rattle.iom_device_dir.specs.declared.entry.NonLeafEntry.{NonLeafEntry}
use Rattle.iom_device_dir.specs.declared.stages.FirstStage.{FirstStage}
use Rattle.iom_device_dir.specs.declared.stages.FirstStage.TheVariants as first
use Rattle.iom_device_dir.specs.declared.stages.SecondStage.{SecondStage}
use Rattle.iom_device_dir.specs.declared.stages.SecondStage.TheVariants as second
use Rattle.iom_base.specs.declared.ppn.Ppn.{Ppn}
use Rattle.iom_device_dir.specs.declared.words.ContextWords.{ContextWords}
use Rattle.iom_base.specs.PageNumbers.{page_from}
use Rattle.iom_device_dir.specs.Values.{address_space_from, guest_root_from}

-- the non-leaf entry that a word is, or the cause
abbrev pub decoded_non_leaf_entry : ℕ → Result NonLeafEntry Cause
decoded_non_leaf_entry word =
    if bits 0 0 word == 0 then Err DirectoryEntryNotValid
    else if (bits 9 1 word == 0) && (bits 63 54 word == 0) then Ok (record { next = page_from 10 word })
    else Err DirectoryEntryMisconfigured

-- the size of tables by their mode; None where it isn't offered, or has none
abbrev pub size_at : ℕ → Option Size
size_at mode = if mode == 8 then Some Sv39 else if mode == 9 then Some Sv48 else None

-- the stage of a mode; None where the mode isn't offered
abbrev pub first_stage_at : ℕ → Ppn → Option FirstStage
first_stage_at mode ppn = if mode == 0 then Some first.Bare else option_map (λ size. first.Tables size ppn) (size_at mode)

-- the second's root has to be aligned
abbrev pub second_stage_at : ℕ → ℕ → Option SecondStage
second_stage_at mode ppn =
    if mode == 0 then Some second.Bare
    else if ppn % 4 == 0 then option_map (λ size. second.Tables size (guest_root_from ppn)) (size_at mode)
    else None

-- whether no bit is set that may not be
abbrev pub sets_only_offered_bits : ContextWords → Bool
sets_only_offered_bits w = (bits 63 2 w.tc == 0) && ((bits 11 0 w.ta == 0) && ((bits 63 32 w.ta == 0) && (bits 59 44 w.fsc == 0)))

-- the context with these stages, where both are offered
abbrev pub context_with_stages : ContextWords → Option FirstStage → Option SecondStage → Result Context Cause
context_with_stages w (Some first_stage) (Some second_stage) =
    Ok (record { en_ats = bits 1 1 w.tc == 1; first_stage = first_stage; second_stage = second_stage; pscid = address_space_from 12 w.ta; gscid = bits 59 44 w.iohgatp })
context_with_stages w (Some first_stage) None = Err DirectoryEntryMisconfigured
context_with_stages w None second_stage = Err DirectoryEntryMisconfigured

-- the context that words are, or the cause
unfoldable pub decoded_context : ContextWords → Result Context Cause
decoded_context w =
    if bits 0 0 w.tc == 0 then Err DirectoryEntryNotValid
    else if sets_only_offered_bits w then
    context_with_stages w (first_stage_at (bits 63 60 w.fsc) (page_from 0 w.fsc)) (second_stage_at (bits 63 60 w.iohgatp) (bits 43 0 w.iohgatp))
    else Err DirectoryEntryMisconfigured
