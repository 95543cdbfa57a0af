-- The kinds of lines one by one: what the private functions below `line_of` and `setup_of` read. No public contract cites it.
use Rattle.std.specs.Prelude.{◌≡◌, ℕ, List, codes, ⊤}
use Rattle.iom_hardware_script.specs.declared.script.Claim.{Claim}
use Rattle.iom_hardware_script.specs.declared.script.Claim.TheVariants as claims
use Rattle.iom_hardware_script.specs.declared.script.Help.{Help}
use Rattle.iom_hardware_script.specs.declared.script.Help.TheVariants as helps
use Rattle.iom_hardware_script.specs.declared.script.HardwareLine.{HardwareLine}
use Rattle.iom_hardware_script.specs.declared.script.HardwareLine.TheVariants as says
use Rattle.iom_hardware_script.specs.declared.script.Pace.{Pace}
use Rattle.iom_hardware_script.specs.declared.script.Pace.TheVariants.{Whole, Stepped, Pointed, Napot, PointedNapot}
use Rattle.iom_script.specs.Words.{◌␣◌, IsNumber}
use Rattle.iom_hardware_script.specs.Grammar.{IsClaim, IsHelp, IsHardwareLine}

-- what the text of a claim begins with: its first word, and a space
abbrev pub claim_start : Claim → List ℕ
claim_start (claims.Grant device page frame rights) = codes "grant "
claim_start (claims.Ready device page) = codes "ready "
claim_start (claims.Release device page) = codes "release "
claim_start (claims.Done number) = codes "done "
claim_start (claims.HandOff frame) = codes "handoff "
claim_start (claims.Take frame) = codes "take "
claim_start (claims.Trust device) = codes "trust "

-- the text begins so, and says what is claimed
abbrev pub IsClaimWith : List ℕ → List ℕ → Claim → Type 0
IsClaimWith start text claim = (claim_start claim ≡ start) × IsClaim text claim

-- what a line begins with that asks hardware to act by itself
abbrev pub help_start : Help → List ℕ
help_start (helps.Auto seed) = codes "auto "
help_start (helps.Traffic device first last) = codes "traffic "
help_start helps.Quiesce = codes "quiesce"

-- the line begins so, and asks for this
abbrev pub IsHelpWith : List ℕ → List ℕ → Help → Type 0
IsHelpWith start line help = (help_start help ≡ start) × IsHelp line help

-- a register is read
abbrev pub IsRegisterRead : HardwareLine → Type 0
IsRegisterRead (says.RegisterRead offset width) = ⊤
IsRegisterRead (says.RegisterWrite offset width value) = ⊥
IsRegisterRead (says.Claim claim) = ⊥
IsRegisterRead (says.Event event) = ⊥
IsRegisterRead (says.Help help) = ⊥
IsRegisterRead (says.Load device) = ⊥

-- a register is written
abbrev pub IsRegisterWrite : HardwareLine → Type 0
IsRegisterWrite (says.RegisterRead offset width) = ⊥
IsRegisterWrite (says.RegisterWrite offset width value) = ⊤
IsRegisterWrite (says.Claim claim) = ⊥
IsRegisterWrite (says.Event event) = ⊥
IsRegisterWrite (says.Help help) = ⊥
IsRegisterWrite (says.Load device) = ⊥

-- something is claimed
abbrev pub IsClaimed : HardwareLine → Type 0
IsClaimed (says.RegisterRead offset width) = ⊥
IsClaimed (says.RegisterWrite offset width value) = ⊥
IsClaimed (says.Claim claim) = ⊤
IsClaimed (says.Event event) = ⊥
IsClaimed (says.Help help) = ⊥
IsClaimed (says.Load device) = ⊥

-- the next load of a walk is made
abbrev pub IsLoad : HardwareLine → Type 0
IsLoad (says.RegisterRead offset width) = ⊥
IsLoad (says.RegisterWrite offset width value) = ⊥
IsLoad (says.Claim claim) = ⊥
IsLoad (says.Event event) = ⊥
IsLoad (says.Help help) = ⊥
IsLoad (says.Load device) = ⊤

-- software does it: a register is read or written, or something is claimed
abbrev pub IsOfSoftware : HardwareLine → Type 0
IsOfSoftware (says.RegisterRead offset width) = ⊤
IsOfSoftware (says.RegisterWrite offset width value) = ⊤
IsOfSoftware (says.Claim claim) = ⊤
IsOfSoftware (says.Event event) = ⊥
IsOfSoftware (says.Help help) = ⊥
IsOfSoftware (says.Load device) = ⊥

-- the line says this, and it is of that kind
abbrev pub IsRegisterReadLine : List ℕ → HardwareLine → Type 0
IsRegisterReadLine line said = IsRegisterRead said × IsHardwareLine line said

abbrev pub IsRegisterWriteLine : List ℕ → HardwareLine → Type 0
IsRegisterWriteLine line said = IsRegisterWrite said × IsHardwareLine line said

abbrev pub IsClaimLine : List ℕ → HardwareLine → Type 0
IsClaimLine line said = IsClaimed said × IsHardwareLine line said

abbrev pub IsLoadLine : List ℕ → HardwareLine → Type 0
IsLoadLine line said = IsLoad said × IsHardwareLine line said

abbrev pub IsSoftwareLine : List ℕ → HardwareLine → Type 0
IsSoftwareLine line said = IsOfSoftware said × IsHardwareLine line said

-- the word names the pace: no word names that of whole walks from the root
abbrev pub IsPaceWord : List ℕ → Pace → Type 0
IsPaceWord word Whole = ⊥
IsPaceWord word Stepped = word ≡ codes "stepped"
IsPaceWord word Pointed = word ≡ codes "nonleaf"
IsPaceWord word Napot = word ≡ codes "napot"
IsPaceWord word PointedNapot = word ≡ codes "nonleaf napot"

-- what stands behind `hardware`: the word of a number, and that of the pace where it is named
abbrev pub paced_words : Pace → List ℕ → List ℕ
paced_words Whole f = f
paced_words Stepped f = f ␣ codes "stepped"
paced_words Pointed f = f ␣ codes "nonleaf"
paced_words Napot f = f ␣ codes "napot"
paced_words PointedNapot f = f ␣ codes "nonleaf napot"

-- the words behind `hardware` say the number and the pace
abbrev pub IsSizeAndPace : List ℕ → ℕ → Pace → Type 0
IsSizeAndPace words size pace = (f : List ℕ) × IsNumber f size × (words ≡ paced_words pace f)
