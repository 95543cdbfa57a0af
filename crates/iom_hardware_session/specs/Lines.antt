-- What a line does to a session, and what stays.
use Rattle.std.specs.Prelude.{◌≡◌, ◌-◌, ◌^◌, ◌++◌, [], ◌∷◌, ℕ, ◌==◌, ◌&&◌, ◌||◌, Bool, true, false, List, nat_lt, Option, Some, None, Result, Ok, Err, ⊤, if◌then◌else◌}
use Rattle.iom_base.specs.declared.access.AccessKind.{AccessKind}
use Rattle.iom_base.specs.declared.access.AccessKind.TheVariants.{Read, Write}
use Rattle.iom_base.specs.declared.refusal.Refusal.{Refusal}
use Rattle.iom_claims.specs.Claimed.{Claimed}
use Rattle.iom_board.specs.BoardParts.{board_parts, disks_at_hand}
use Rattle.iom_board.specs.declared.board.Board.{Board}
use Rattle.iom_hardware.specs.Blocks.{BlocksUnchanged}
use Rattle.iom_hardware_script.specs.declared.script.Claim.{Claim as Said}
use Rattle.iom_hardware_script.specs.declared.script.Claim.TheVariants as claim
use Rattle.iom_hardware_script.specs.declared.script.HardwareLine.{HardwareLine}
use Rattle.iom_hardware_script.specs.declared.script.HardwareLine.TheVariants as line
use Rattle.iom_machine.specs.declared.event.Event.TheVariants.{Plug, Medium, Poke, Commit}
use Rattle.iom_hardware_session.specs.declared.answer.Answer.{Answer}
use Rattle.iom_hardware_session.specs.declared.answer.Answer.TheVariants as answered
use Rattle.iom_hardware_session.specs.declared.answer.ClaimAnswer.{ClaimAnswer}
use Rattle.iom_hardware_session.specs.declared.answer.ClaimAnswer.TheVariants as found
use Rattle.iom_hardware_session.specs.declared.state.Session.{Session}
use Rattle.iom_hardware_session.specs.Admitted.{ClaimIsAdmitted}
use Rattle.iom_hardware_session.specs.Answered.{commit_in, judgement_in}
use Rattle.iom_hardware_session.specs.Claiming.{claimed_after}
use Rattle.iom_hardware_session.specs.Events.{IsForeign, Unchanged}
use Rattle.iom_hardware_session.specs.Good.{GoodMeans}
use Rattle.iom_hardware_session.specs.Paces.{EventOrNone, LoadsBy}
use Rattle.iom_hardware_session.specs.Shown.{ShownHardware, shown_in}
use Rattle.iom_hardware_session.specs.Watching.{still_good, AreJudgedAgain, WatchesClaim}
use Rattle.iom_hardware_session.specs.declared.watched.Watched.{Watched}
use Rattle.iom_hardware_session.specs.Wrong.{WrongMeans, IfWrong}
use Rattle.iom_inflight.specs.declared.made.MadeAt.{MadeAt}
use Rattle.iom_iommu.specs.Parts.{registers_of, after_write}
use Rattle.iom_ledger.specs.History.{May}
use Rattle.iom_registers.specs.Places.{register_at, answer_of, done_of, changed_by}
use Rattle.iom_registers.specs.Table.{value_of}
use Rattle.iom_registers.specs.declared.register.RegFault.{RegFault}
use Rattle.iom_way_survey.specs.Surveys.{is_id_among}

-- what is claimed, who is trusted, and what is watched, stay
abbrev pub KeepsClaims : Session → Session → Type 0
KeepsClaims old new = (new.claims ≡ old.claims) × (new.trusted ≡ old.trusted) × (new.watched ≡ old.watched)

-- hardware stays with what is under way, and who is trusted
abbrev pub KeepsHardware : Session → Session → Type 0
KeepsHardware old new = (new.hardware ≡ old.hardware) × (new.beside ≡ old.beside) × (new.trusted ≡ old.trusted)

-- all stays but what was last looked at
abbrev pub KeepsAll : Session → Session → Type 0
KeepsAll old new = KeepsHardware old new × (new.claims ≡ old.claims) × (new.watched ≡ old.watched)

-- a width of more than 32 bits is that of no register
abbrev pub short_width : ℕ → ℕ
short_width width = if nat_lt width (2 ^ 32) then width else 2 ^ 32 - 1

-- Registers of capabilities that this IOMMU hasn't, and that drivers touch all the same, are 0 and stay so: pqcsr (page requests), icvec (interrupts by message;
-- IOMMU specification, chapter 5)
abbrev pub is_hardwired : (offset width : ℕ) → Bool
is_hardwired offset width = ((offset == 80) && (width == 4)) || ((offset == 760) && (width == 8))

-- the value of the register at the offset, or why there is none
abbrev pub value_at : Bool → (offset width : ℕ) → Board → Result ℕ RegFault
value_at true offset width old = Ok 0
value_at false offset width old = answer_of (value_of (registers_of old.iommu)) (register_at offset (short_width width))

-- THE DRIVER READS a register
abbrev pub ReadsRegister : (offset width : ℕ) → Board → Answer → Type 0
ReadsRegister offset width old answer = answer ≡ answered.Value (value_at (is_hardwired offset width) offset width old)

-- what a write of a register does, by whether it is one of those
abbrev pub WritesWhere : Bool → (offset width value : ℕ) → ShownHardware → Answer → ShownHardware → Type 0
WritesWhere true offset width value old answer new = (answer ≡ answered.Written (Ok tt)) × Unchanged old new
WritesWhere false offset width value old answer new =
    (answer ≡ answered.Written (done_of (register_at offset (short_width width))))
    × (board_parts new.board ≡ record (board_parts old.board) { iommu = changed_by (after_write old.board.iommu) old.board.iommu value (register_at offset (short_width width)) })
    × (disks_at_hand new.board ≡ disks_at_hand old.board) × BlocksUnchanged old.inside new.inside × (new.beside ≡ old.beside)

-- THE DRIVER WRITES a register
abbrev pub WritesRegister : (offset width value : ℕ) → ShownHardware → Answer → ShownHardware → Type 0
WritesRegister offset width value old answer new = WritesWhere (is_hardwired offset width) offset width value old answer new

-- the device is trusted, besides those that are
abbrev pub TrustsAlso : ℕ → ClaimAnswer → List ℕ → List ℕ → Type 0
TrustsAlso device found.Trusted old new = new ≡ old ++ device ∷ []
TrustsAlso device found old new = new ≡ old

-- who is trusted after a claim
abbrev pub Trusts : Said → ClaimAnswer → List ℕ → List ℕ → Type 0
Trusts (claim.Trust device) answer old new = TrustsAlso device answer old new
Trusts said answer old new = new ≡ old

-- WHAT A LINE DOES TO HARDWARE, by its answer
abbrev pub LineEffect : HardwareLine → Answer → ShownHardware → ShownHardware → Type 0
LineEffect (line.Event event) answer old new = EventOrNone event answer old new
LineEffect (line.Load device) answer old new = LoadsBy old.beside device answer old new
LineEffect (line.RegisterRead offset width) answer old new = ReadsRegister offset width old.board answer × Unchanged old new
LineEffect (line.RegisterWrite offset width value) answer old new = WritesRegister offset width value old answer new
LineEffect (line.Claim said) answer old new = Unchanged old new
LineEffect (line.Help help) answer old new = IsForeign answer old new

-- what is claimed after a claim, where one is judged
abbrev pub claimed_where : Said → Option ClaimAnswer → Claimed → Claimed
claimed_where said None before = before
claimed_where said (Some answer) before = claimed_after said answer before

-- WHAT IS CLAIMED after a line, by its answer
abbrev pub claimed_by : HardwareLine → Answer → Claimed → Claimed
claimed_by (line.Claim said) answer before = claimed_where said (judgement_in answer) before
claimed_by (line.Event event) answer before = before
claimed_by (line.Load device) answer before = before
claimed_by (line.RegisterRead offset width) answer before = before
claimed_by (line.RegisterWrite offset width value) answer before = before
claimed_by (line.Help help) answer before = before

-- THE ACCESS THAT A LINE MADE
abbrev pub made_where : Option (Result (Option MadeAt) Refusal) → Option MadeAt
made_where (Some (Ok made)) = made
made_where (Some (Err why)) = None
made_where None = None

abbrev pub made_by : Answer → Option MadeAt
made_by answer = made_where (commit_in answer)

-- nothing that is claimed allows it
abbrev pub IsViolation : Claimed → Option MadeAt → Type 0
IsViolation claimed None = ⊥
IsViolation claimed (Some made) = ¬ May claimed.history made.device made.frame made.kind

-- who is trusted after a claim, where one is judged
abbrev pub TrustsWhere : Said → Option ClaimAnswer → List ℕ → List ℕ → Type 0
TrustsWhere said None old new = new ≡ old
TrustsWhere said (Some answer) old new = Trusts said answer old new

-- who is trusted after a line
abbrev pub TrustsBy : HardwareLine → Answer → List ℕ → List ℕ → Type 0
TrustsBy (line.Claim said) answer old new = TrustsWhere said (judgement_in answer) old new
TrustsBy said answer old new = new ≡ old

-- what a claim that is answered well means
abbrev pub IsGoodWhere : Said → Option ClaimAnswer → ShownHardware → List ℕ → Claimed → Type 0
IsGoodWhere said None hardware trusted before = ⊤
IsGoodWhere said (Some answer) hardware trusted before = answer ≡ found.Good → GoodMeans said hardware trusted before (claimed_after said answer before)

abbrev pub IsGoodLine : HardwareLine → Answer → ShownHardware → List ℕ → Claimed → Type 0
IsGoodLine (line.Claim said) answer hardware trusted before = IsGoodWhere said (judgement_in answer) hardware trusted before
IsGoodLine said answer hardware trusted before = ⊤

-- what a claim that is answered so means, where it isn't true
abbrev pub IsWrongWhere : Said → Option ClaimAnswer → ShownHardware → List ℕ → Claimed → Type 0
IsWrongWhere said None hardware trusted before = ⊤
IsWrongWhere said (Some answer) hardware trusted before = IfWrong answer (λ why. WrongMeans said why hardware trusted before (claimed_after said answer before))

abbrev pub IsWrongLine : HardwareLine → Answer → ShownHardware → List ℕ → Claimed → Type 0
IsWrongLine (line.Claim said) answer hardware trusted before = IsWrongWhere said (judgement_in answer) hardware trusted before
IsWrongLine said answer hardware trusted before = ⊤

-- the line made a write
abbrev pub is_write : AccessKind → Bool
is_write Write = true
is_write Read = false

abbrev pub is_made_write : Option (Result (Option MadeAt) Refusal) → Bool
is_made_write (Some (Ok (Some made))) = is_write made.kind
is_made_write (Some (Ok None)) = false
is_made_write (Some (Err why)) = false
is_made_write None = false

abbrev pub writes : Answer → Bool
writes answer = is_made_write (commit_in answer)

-- Software changes hardware by the line, or plugs a device or a disk in. What a device writes that software trusts counts as a store of software
abbrev pub is_of_software : HardwareLine → Answer → List ℕ → Bool
is_of_software (line.Event (Poke address bytes)) answer trusted = true
is_of_software (line.Event (Plug device what)) answer trusted = true
is_of_software (line.Event (Medium device disk)) answer trusted = true
is_of_software (line.RegisterWrite offset width value) answer trusted = true
is_of_software (line.Event (Commit device)) answer trusted = writes answer && is_id_among trusted device
is_of_software said answer trusted = false

-- what is watched after a line that isn't of software, by its answer
abbrev pub WatchesClaimWhere : Said → Option ClaimAnswer → Claimed → List Watched → List Watched → Type 0
WatchesClaimWhere said None before old new = new ≡ old
WatchesClaimWhere said (Some answer) before old new = WatchesClaim said answer before old new

abbrev pub WatchesStep : HardwareLine → Answer → Claimed → List Watched → List Watched → Type 0
WatchesStep (line.Claim said) answer before old new = WatchesClaimWhere said (judgement_in answer) before old new
WatchesStep said answer before old new = new ≡ old

-- so of any line, by whether it is of software
abbrev pub WatchesWhere : Bool → HardwareLine → Answer → Claimed → Session → Session → Type 0
WatchesWhere true said answer before old new = AreJudgedAgain (still_good old.watched.items) new.watched.items (shown_in new) new.trusted.items before
WatchesWhere false said answer before old new = WatchesStep said answer before (still_good old.watched.items) new.watched.items

-- WHAT IS WATCHED after a line: what was found wrong at the line before is forgotten, and where software changes hardware all the others are judged again
abbrev pub WatchesBy : HardwareLine → Answer → Claimed → Session → Session → Type 0
WatchesBy said answer before old new = WatchesWhere (is_of_software said answer old.trusted.items) said answer before old new

-- a claim is judged, and this is so of it by its answer
abbrev pub IsAdmittedWhere : Said → Option ClaimAnswer → Board → Claimed → Type 0
IsAdmittedWhere said None hardware before = ⊥
IsAdmittedWhere said (Some answer) hardware before = ClaimIsAdmitted said answer hardware before

abbrev pub IsAdmittedLine : HardwareLine → Answer → Board → Claimed → Type 0
IsAdmittedLine (line.Claim said) answer hardware before = IsAdmittedWhere said (judgement_in answer) hardware before
IsAdmittedLine said answer hardware before = ⊤

-- what is claimed allows the access that a line made
abbrev pub IsAllowed : Claimed → Option MadeAt → Type 0
IsAllowed claimed None = ⊤
IsAllowed claimed (Some made) = May claimed.history made.device made.frame made.kind
