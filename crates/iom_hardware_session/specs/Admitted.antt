-- Which claims are made, and why others aren't.
use Rattle.std.specs.Prelude.{◌≡◌, ℕ, ◌+◌, ◌<◌, ◌≤◌, ◌^◌, ◌-◌, length, None, IsSome, ⊤}
use Rattle.iom_base.specs.declared.refusal.Refusal.{Refusal}
use Rattle.iom_base.specs.declared.refusal.Refusal.TheVariants as refusal
use Rattle.iom_claims.specs.Claimed.{Claimed, IsOpen}
use Rattle.iom_claims.specs.declared.grant.Grant.{Grant}
use Rattle.iom_device.specs.Caches.{kind_in}
use Rattle.iom_board.specs.declared.board.Board.{Board}
use Rattle.iom_hardware_script.specs.declared.script.Claim.{Claim as Said}
use Rattle.iom_hardware_script.specs.declared.script.Claim.TheVariants as claim
use Rattle.iom_hardware_session.specs.declared.answer.ClaimAnswer.{ClaimAnswer}
use Rattle.iom_hardware_session.specs.declared.answer.ClaimAnswer.TheVariants as found
use Rattle.iom_ledger.specs.History.{held_at}

-- a device with this id is plugged in, or none is
abbrev pub IsDeviceKnown : Board → ℕ → Type 0
IsDeviceKnown hardware device = IsSome (kind_in hardware.devices.items device)

abbrev pub IsDeviceUnknown : Board → ℕ → Type 0
IsDeviceUnknown hardware device = kind_in hardware.devices.items device ≡ None

-- memory has the frame
abbrev pub IsFrameOfMemory : Board → ℕ → Type 0
IsFrameOfMemory hardware frame = frame < length hardware.memory

-- the device holds something at the page
abbrev pub HoldsAtPage : Claimed → (device page : ℕ) → Type 0
HoldsAtPage before device page = IsSome (held_at before.history device page)

-- the claim with this number is open
abbrev pub IsOpenClaim : Claimed → ℕ → Type 0
IsOpenClaim before number = (grant : Grant) × IsOpen before.history (record { number = number; grant = grant })

-- WHAT IS SO WHERE A CLAIM IS MADE
abbrev pub CanBeMade : Said → Board → Claimed → Type 0
CanBeMade (claim.Grant device page frame rights) hardware before =
    IsDeviceKnown hardware device × IsFrameOfMemory hardware frame × (page < 2 ^ 52) × (held_at before.history device page ≡ None)
CanBeMade (claim.Ready device page) hardware before = IsDeviceKnown hardware device × HoldsAtPage before device page
CanBeMade (claim.Release device page) hardware before = IsDeviceKnown hardware device × HoldsAtPage before device page
CanBeMade (claim.Done number) hardware before = IsOpenClaim before number
CanBeMade (claim.HandOff frame) hardware before = IsFrameOfMemory hardware frame
CanBeMade (claim.Take frame) hardware before = IsFrameOfMemory hardware frame
CanBeMade (claim.Trust device) hardware before = IsDeviceKnown hardware device

-- WHY A GRANT ISN'T CLAIMED
abbrev pub GrantIsRefused : Refusal → (device page frame : ℕ) → Board → Claimed → Type 0
GrantIsRefused refusal.NoSuchDevice device page frame hardware before = IsDeviceUnknown hardware device
GrantIsRefused refusal.FrameOutOfRange device page frame hardware before = length hardware.memory ≤ frame
GrantIsRefused refusal.IovaOutOfRange device page frame hardware before = 2 ^ 52 ≤ page
GrantIsRefused refusal.IovaBusy device page frame hardware before = HoldsAtPage before device page
GrantIsRefused refusal.Memory device page frame hardware before = ⊤
GrantIsRefused why device page frame hardware before = ⊥

-- why it isn't claimed that a page is ready
abbrev pub ReadyIsRefused : Refusal → (device page : ℕ) → Board → Claimed → Type 0
ReadyIsRefused refusal.NoSuchDevice device page hardware before = IsDeviceUnknown hardware device
ReadyIsRefused refusal.NotGranted device page hardware before = held_at before.history device page ≡ None
ReadyIsRefused why device page hardware before = ⊥

-- why nothing is withdrawn
abbrev pub ReleaseIsRefused : Refusal → (device page : ℕ) → Board → Claimed → Type 0
ReleaseIsRefused refusal.NoSuchDevice device page hardware before = IsDeviceUnknown hardware device
ReleaseIsRefused refusal.NotGranted device page hardware before = held_at before.history device page ≡ None
ReleaseIsRefused refusal.TooManyPending device page hardware before = before.last ≡ 2 ^ 32 - 1
ReleaseIsRefused refusal.Memory device page hardware before = ⊤
ReleaseIsRefused why device page hardware before = ⊥

-- why nothing is claimed of a frame
abbrev pub FrameIsRefused : Refusal → ℕ → Board → Type 0
FrameIsRefused refusal.FrameOutOfRange frame hardware = length hardware.memory ≤ frame
FrameIsRefused why frame hardware = ⊥

abbrev pub HandOffIsRefused : Refusal → ℕ → Board → Type 0
HandOffIsRefused refusal.Memory frame hardware = ⊤
HandOffIsRefused why frame hardware = FrameIsRefused why frame hardware

-- why a claim that something is done isn't made, though it is open
abbrev pub IsWantOfMemory : Refusal → Type 0
IsWantOfMemory refusal.Memory = ⊤
IsWantOfMemory why = ⊥

-- why a device isn't trusted
abbrev pub TrustIsRefused : Refusal → ℕ → Board → Type 0
TrustIsRefused refusal.NoSuchDevice device hardware = IsDeviceUnknown hardware device
TrustIsRefused why device hardware = IsWantOfMemory why

-- WHY A CLAIM ISN'T MADE: what the refusal says is so
abbrev pub IsRefusedFor : Said → Refusal → Board → Claimed → Type 0
IsRefusedFor (claim.Grant device page frame rights) why hardware before = GrantIsRefused why device page frame hardware before
IsRefusedFor (claim.Ready device page) why hardware before = ReadyIsRefused why device page hardware before
IsRefusedFor (claim.Release device page) why hardware before = ReleaseIsRefused why device page hardware before
IsRefusedFor (claim.Done number) why hardware before = IsWantOfMemory why
IsRefusedFor (claim.HandOff frame) why hardware before = HandOffIsRefused why frame hardware
IsRefusedFor (claim.Take frame) why hardware before = FrameIsRefused why frame hardware
IsRefusedFor (claim.Trust device) why hardware before = TrustIsRefused why device hardware

-- no claim with the number is open
abbrev pub IsUnopened : Said → Claimed → Type 0
IsUnopened (claim.Done number) before = ¬ IsOpenClaim before number
IsUnopened said before = ⊥

-- it is one of what is held against hardware, or against the other claims: so it is good or wrong
abbrev pub IsJudged : Said → Type 0
IsJudged (claim.Grant device page frame rights) = ⊤
IsJudged (claim.Ready device page) = ⊤
IsJudged (claim.Done number) = ⊤
IsJudged (claim.HandOff frame) = ⊤
IsJudged (claim.Take frame) = ⊤
IsJudged (claim.Release device page) = ⊥
IsJudged (claim.Trust device) = ⊥

-- what is withdrawn has the number after the last
abbrev pub IsReleasedAs : Said → ℕ → Claimed → Type 0
IsReleasedAs (claim.Release device page) number before = number ≡ before.last + 1
IsReleasedAs said number before = ⊥

-- a device is trusted
abbrev pub IsTrust : Said → Type 0
IsTrust (claim.Trust device) = ⊤
IsTrust said = ⊥

-- WHAT IS SO OF A CLAIM by its answer, as hardware stands and by what was claimed before
abbrev pub ClaimIsAdmitted : Said → ClaimAnswer → Board → Claimed → Type 0
ClaimIsAdmitted said found.Good hardware before = IsJudged said × CanBeMade said hardware before
ClaimIsAdmitted said (found.Wrong why) hardware before = IsJudged said × CanBeMade said hardware before
ClaimIsAdmitted said (found.Released number) hardware before = IsReleasedAs said number before × CanBeMade said hardware before
ClaimIsAdmitted said found.Trusted hardware before = IsTrust said × CanBeMade said hardware before
ClaimIsAdmitted said (found.Refused why) hardware before = IsRefusedFor said why hardware before
ClaimIsAdmitted said found.NoSuchClaim hardware before = IsUnopened said before
