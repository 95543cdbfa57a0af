-- The words that are written for a context and for a non-leaf entry: each field at its bits, and all else zero.
use Rattle.std.specs.Prelude.{◌≡◌, ℕ, ◌+◌, ◌*◌, ◌^◌, List}
use Rattle.iom_registers.specs.Bits.{bits, bit}
use Rattle.iom_device_dir.specs.declared.context.Context.{Context}
use Rattle.iom_device_dir.specs.declared.entry.NonLeafEntry.{NonLeafEntry}
use Rattle.iom_device_dir.specs.declared.stages.FirstStage.{FirstStage}
use Rattle.iom_device_dir.specs.declared.stages.FirstStage.TheVariants as first
use Rattle.iom_device_dir.specs.declared.stages.SecondStage.{SecondStage}
use Rattle.iom_device_dir.specs.declared.stages.SecondStage.TheVariants as second
use Rattle.iom_device_dir.specs.declared.words.ContextWords.{ContextWords}
use Rattle.iom_device_dir.specs.Formats.{table_mode}
use Rattle.iom_device_dir.specs.Words.{context_bytes}

abbrev pub encoded_non_leaf_entry : NonLeafEntry → ℕ
encoded_non_leaf_entry entry = entry.next.number * 2 ^ 10 + 1

-- MODE and PPN
abbrev pub first_stage_word : FirstStage → ℕ
first_stage_word first.Bare = 0
first_stage_word (first.Tables size root) = table_mode size * 2 ^ 60 + root.number

abbrev pub second_stage_word : SecondStage → ℕ
second_stage_word second.Bare = 0
second_stage_word (second.Tables size root) = table_mode size * 2 ^ 60 + root.number

unfoldable pub encoded_context_words : Context → ContextWords
encoded_context_words context = record {
  tc = 1 + bit 1 context.en_ats;
  iohgatp = second_stage_word context.second_stage + context.gscid * 2 ^ 44;
  ta = context.pscid.number * 2 ^ 12;
  fsc = first_stage_word context.first_stage;
}

-- the 32 bytes that are written
abbrev pub encoded_context : Context → List ℕ
encoded_context context = context_bytes (encoded_context_words context)

-- the root of a stage that is Bare is zero
abbrev pub RootsOfBareStagesAreZero : Context → ContextWords → Type 0
RootsOfBareStagesAreZero context w =
    (context.first_stage ≡ first.Bare → bits 43 0 w.fsc ≡ 0) × (context.second_stage ≡ second.Bare → bits 43 0 w.iohgatp ≡ 0)
