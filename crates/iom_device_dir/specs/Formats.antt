-- Which bytes are which device context, and which word is which non-leaf entry (IOMMU specification, section 2.1, base format).
use Rattle.std.specs.Prelude.{◌≡◌, ◌≢◌, ℕ, ◌==◌, ◌⊎◌, List}
use Rattle.iom_base.specs.declared.cause.Cause.{Cause}
use Rattle.iom_base.specs.declared.cause.Cause.TheVariants.{DirectoryEntryNotValid, DirectoryEntryMisconfigured}
use Rattle.iom_base.specs.declared.size.Size.{Size}
use Rattle.iom_base.specs.declared.size.Size.TheVariants.{Sv39, Sv48}
use Rattle.iom_registers.specs.Bits.{bits}
use Rattle.iom_device_dir.specs.declared.context.Context.{Context}
use Rattle.iom_device_dir.specs.declared.entry.NonLeafEntry.{NonLeafEntry}
use Rattle.iom_device_dir.specs.declared.stages.FirstStage.{FirstStage}
use Rattle.iom_device_dir.specs.declared.stages.FirstStage.TheVariants as first
use Rattle.iom_device_dir.specs.declared.stages.SecondStage.{SecondStage}
use Rattle.iom_device_dir.specs.declared.stages.SecondStage.TheVariants as second
use Rattle.iom_device_dir.specs.declared.words.ContextWords.{ContextWords}
use Rattle.iom_device_dir.specs.Words.{context_words}

-- NON-LEAF ENTRY (section 2.1, "Non-leaf DDT entry"): V 0, PPN 53:10; bits 9:1 and 63:54 are reserved
pub record IsNonLeafEntry (word : ℕ) (entry : NonLeafEntry) : Type 0 where
  pub valid : bits 0 0 word ≡ 1
  pub clear_below : bits 9 1 word ≡ 0
  pub next : entry.next.number ≡ bits 53 10 word
  pub clear_above : bits 63 54 word ≡ 0

-- the cause with which a word is no entry: it isn't valid (cause 258); or it is, and a reserved bit is set (259)
abbrev pub IsNonLeafEntryRefused : ℕ → Cause → Type 0
IsNonLeafEntryRefused word cause =
    ((bits 0 0 word ≡ 0) × (cause ≡ DirectoryEntryNotValid))
    ⊎ ((bits 0 0 word ≡ 1) × ((bits 9 1 word ≢ 0) ⊎ (bits 63 54 word ≢ 0)) × (cause ≡ DirectoryEntryMisconfigured))

-- MODE of tables of the size, in fsc and in iohgatp: 8 Sv39 and Sv39x4, 9 Sv48 and Sv48x4. No other mode is offered but 0, Bare
abbrev pub table_mode : Size → ℕ
table_mode Sv39 = 8
table_mode Sv48 = 9

-- MODE and PPN of fsc (section 2.1.3.4, with PDTV 0): Bare, whatever PPN is, or tables
abbrev pub IsFirstStage : ℕ → ℕ → FirstStage → Type 0
IsFirstStage mode ppn first.Bare = mode ≡ 0
IsFirstStage mode ppn (first.Tables size root) = (mode ≡ table_mode size) × (root.number ≡ ppn)

-- MODE and PPN of iohgatp (section 2.1.3.2): Bare, whatever PPN is, or tables, whose root is 16 KiB and aligned to that, so PPN is a multiple
-- of 4, as the number of each `GuestRoot` is (src/values.rt)
abbrev pub IsSecondStage : ℕ → ℕ → SecondStage → Type 0
IsSecondStage mode ppn second.Bare = mode ≡ 0
IsSecondStage mode ppn (second.Tables size root) = (mode ≡ table_mode size) × (root.number ≡ ppn)

-- no bit is set that is reserved, or that asks for what isn't offered: in tc (section 2.1.3.1) all but V 0 and EN_ATS 1, so EN_PRI 2,
-- T2GPA 3, DTF 4, PDTV 5, PRPR 6, GADE 7, SADE 8, DPE 9, SBE 10 and SXL 11 too; in ta (section 2.1.3.3) all but PSCID 31:12; in fsc
-- bits 59:44. Each bit of iohgatp is in a field
pub record SetsOnlyOfferedBits (w : ContextWords) : Type 0 where
  pub tc : bits 63 2 w.tc ≡ 0
  pub ta_below : bits 11 0 w.ta ≡ 0
  pub ta_above : bits 63 32 w.ta ≡ 0
  pub fsc : bits 59 44 w.fsc ≡ 0

-- THE GRAMMAR: these four words are this context
pub record AreContextWords (w : ContextWords) (context : Context) : Type 0 where
  -- tc: V 0, EN_ATS 1
  pub valid : bits 0 0 w.tc ≡ 1
  pub en_ats : context.en_ats ≡ (bits 1 1 w.tc == 1)
  -- iohgatp: PPN 43:0, GSCID 59:44, MODE 63:60
  pub second_stage : IsSecondStage (bits 63 60 w.iohgatp) (bits 43 0 w.iohgatp) context.second_stage
  pub gscid : context.gscid ≡ bits 59 44 w.iohgatp
  -- ta: PSCID 31:12
  pub pscid : context.pscid.number ≡ bits 31 12 w.ta
  -- fsc: PPN 43:0, MODE 63:60
  pub first_stage : IsFirstStage (bits 63 60 w.fsc) (bits 43 0 w.fsc) context.first_stage
  pub clear : SetsOnlyOfferedBits w

abbrev pub IsContext : List ℕ → Context → Type 0
IsContext bytes context = AreContextWords (context_words bytes) context

-- a bit is set that may not be, or the mode of a stage isn't offered, or the root of the second isn't aligned
abbrev pub IsContextMisconfigured : ContextWords → Type 0
IsContextMisconfigured w =
    (¬ SetsOnlyOfferedBits w)
    ⊎ (((stage : FirstStage) → ¬ IsFirstStage (bits 63 60 w.fsc) (bits 43 0 w.fsc) stage)
    ⊎ ((stage : SecondStage) → ¬ IsSecondStage (bits 63 60 w.iohgatp) (bits 43 0 w.iohgatp) stage))

-- the cause with which words are no context: they aren't valid (cause 258); or they are, and are misconfigured (259)
abbrev pub IsContextRefused : ContextWords → Cause → Type 0
IsContextRefused w cause =
    ((bits 0 0 w.tc ≡ 0) × (cause ≡ DirectoryEntryNotValid))
    ⊎ ((bits 0 0 w.tc ≡ 1) × IsContextMisconfigured w × (cause ≡ DirectoryEntryMisconfigured))
