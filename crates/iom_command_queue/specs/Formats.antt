-- The grammar of commands: which 16 bytes are which command (IOMMU specification, section 3.1, "Command-Queue (CQ)"). Bytes are read as two
-- little-endian words. Each line names a field of the standard's figure by its bits; fields that a valid bit leaves unused are free.
use Rattle.std.specs.Prelude.{◌≡◌, ℕ, ◌+◌, ◌*◌, ◌^◌, List, [], ◌∷◌, ◌++◌, drop, false, if◌then◌else◌}
use Rattle.byteorder.specs.Endian.{little_number, little_bytes}
use Rattle.iom_command_queue.specs.declared.operation.Operation.{Operation}
use Rattle.iom_command_queue.specs.declared.operation.Operation.TheVariants as is
use Rattle.iom_command_queue.specs.declared.command.Command.{Command}
use Rattle.iom_command_queue.specs.declared.command.Command.TheVariants.{IotinvalVma, IotinvalGvma, IofenceC, IodirInvalDdt, AtsInval}
use Rattle.iom_command_queue.specs.declared.command.AtsRange.{AtsRange}
use Rattle.iom_command_queue.specs.declared.command.AtsRange.TheVariants.{Page, Everything}
use Rattle.iom_command_queue.specs.Bits.{bits_of, is_set, where_set}

-- the first and the second word of 16 bytes
unfoldable pub first_of : List ℕ → ℕ
first_of bytes = little_number 8 bytes

unfoldable pub second_of : List ℕ → ℕ
second_of bytes = little_number 8 (drop 8 bytes)

-- the 16 bytes of two words
unfoldable pub two_words : ℕ → ℕ → List ℕ
two_words first second = little_bytes 8 first ++ little_bytes 8 second

-- which command it is, without its fields
abbrev pub operation_of : Command → Operation
operation_of (IotinvalVma gscid pscid page) = is.IotinvalVma
operation_of (IotinvalGvma gscid page) = is.IotinvalGvma
operation_of (IofenceC store wsi pr pw) = is.IofenceC
operation_of (IodirInvalDdt device) = is.IodirInvalDdt
operation_of (AtsInval device range) = is.AtsInval

-- opcode, bits 6:0 of the first word
abbrev pub opcode_of : Operation → ℕ
opcode_of is.IotinvalVma = 1
opcode_of is.IotinvalGvma = 1
opcode_of is.IofenceC = 2
opcode_of is.IodirInvalDdt = 3
opcode_of is.AtsInval = 4

-- func3, bits 9:7 of the first word
abbrev pub func3_of : Operation → ℕ
func3_of is.IotinvalVma = 0
func3_of is.IotinvalGvma = 1
func3_of is.IofenceC = 0
func3_of is.IodirInvalDdt = 0
func3_of is.AtsInval = 0

-- the reserved bits of the first word (sections 3.1.1 to 3.1.4), where the fields that this model doesn't offer are reserved too
abbrev pub reserved_first : Operation → List (ℕ × ℕ)
reserved_first is.IotinvalVma = (11, 11) ∷ (43, 34) ∷ (63, 60) ∷ []
reserved_first is.IotinvalGvma = (11, 11) ∷ (43, 34) ∷ (63, 60) ∷ []
reserved_first is.IofenceC = (31, 14) ∷ []
reserved_first is.IodirInvalDdt = (32, 10) ∷ (39, 34) ∷ []
reserved_first is.AtsInval = (32, 10) ∷ (39, 34) ∷ []

-- the reserved bits of the second word
abbrev pub reserved_second : Operation → List (ℕ × ℕ)
reserved_second is.IotinvalVma = (9, 0) ∷ (63, 62) ∷ []
reserved_second is.IotinvalGvma = (9, 0) ∷ (63, 62) ∷ []
reserved_second is.IofenceC = (63, 62) ∷ []
reserved_second is.IodirInvalDdt = (63, 0) ∷ []
reserved_second is.AtsInval = (10, 1) ∷ []

-- the bits high:low of each pair are zero
abbrev pub AreZero : ℕ → List (ℕ × ℕ) → Type 0
AreZero word [] = Unit {0}
AreZero word (range ∷ ranges) = (bits_of word range.0 range.1 ≡ 0) × AreZero word ranges

-- no reserved bit is set
abbrev pub IsClear : Operation → ℕ → ℕ → Type 0
IsClear operation first second = AreZero first (reserved_first operation) × AreZero second (reserved_second operation)

-- the number of the device that ATS.INVAL asks: RID 55:40, and above it DSEG 63:56, which counts as 0 where DSV 33 is 0
abbrev pub ats_device : ℕ → ℕ
ats_device first = bits_of first 55 40 + 2 ^ 16 * (if is_set first 33 then bits_of first 63 56 else 0)

-- the pages that ATS.INVAL names: the payload is an address 63:12, S 11 and G 0 (PCI Express, "Invalidate Request"); a device that is asked with
-- S drops everything, whatever the address says
abbrev pub ats_range : ℕ → AtsRange
ats_range second = if is_set second 11 then Everything else Page (bits_of second 63 12)

-- the fields of each command
abbrev pub HasFields : Command → ℕ → ℕ → Type 0
-- IOTINVAL.VMA: AV 10, PSCID 31:12, PSCV 32, GV 33, GSCID 59:44; ADDR[63:12] in 61:10
HasFields (IotinvalVma gscid pscid page) first second =
    (gscid ≡ where_set (is_set first 33) (bits_of first 59 44))
    × (pscid ≡ where_set (is_set first 32) (bits_of first 31 12))
    × (page ≡ where_set (is_set first 10) (bits_of second 61 10))
-- IOTINVAL.GVMA: the same, where PSCV isn't allowed
HasFields (IotinvalGvma gscid page) first second =
    (is_set first 32 ≡ false)
    × (gscid ≡ where_set (is_set first 33) (bits_of first 59 44))
    × (page ≡ where_set (is_set first 10) (bits_of second 61 10))
-- IOFENCE.C: AV 10, WSI 11, PR 12, PW 13, DATA 63:32; ADDR[63:2] in 61:0
HasFields (IofenceC store wsi pr pw) first second =
    (store ≡ where_set (is_set first 10) (record { address = 4 * bits_of second 61 0; «data» = bits_of first 63 32 }))
    × (wsi ≡ is_set first 11) × (pr ≡ is_set first 12) × (pw ≡ is_set first 13)
-- IODIR.INVAL_DDT: DV 33, DID 63:40
HasFields (IodirInvalDdt device) first second = device ≡ where_set (is_set first 33) (bits_of first 63 40)
-- ATS.INVAL: DSV 33, RID 55:40, DSEG 63:56; address 63:12, S 11, and G 0, which isn't allowed
HasFields (AtsInval device range) first second = (is_set second 0 ≡ false) × (device ≡ ats_device first) × (range ≡ ats_range second)

-- THE GRAMMAR: these two words are this command
pub record AreWordsOf (command : Command) (first second : ℕ) : Type 0 where
  pub opcode : bits_of first 6 0 ≡ opcode_of (operation_of command)
  pub func3 : bits_of first 9 7 ≡ func3_of (operation_of command)
  pub clear : IsClear (operation_of command) first second
  pub fields : HasFields command first second

abbrev pub IsCommand : List ℕ → Command → Type 0
IsCommand bytes command = AreWordsOf command (first_of bytes) (second_of bytes)
