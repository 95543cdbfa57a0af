-- What 16 bytes are decoded to: the grammar as a function, and which refusal comes where the bytes are no command.
use Rattle.std.specs.Prelude.{◌≡◌, ◌≢◌, ℕ, ◌*◌, ◌==◌, ◌&&◌, List, [], ◌∷◌, Bool, true, false, Result, Ok, Err, if◌then◌else◌}
use Rattle.iom_command_queue.specs.declared.illegal.Illegal.{Illegal}
use Rattle.iom_command_queue.specs.declared.illegal.Illegal.TheVariants.{Opcode, Func, Reserved, Combination}
use Rattle.iom_command_queue.specs.declared.operation.Operation.{Operation}
use Rattle.iom_command_queue.specs.declared.operation.Operation.TheVariants as is
use Rattle.iom_command_queue.specs.declared.command.Command.{Command}
use Rattle.iom_command_queue.specs.declared.command.Command.TheVariants.{IotinvalVma, IotinvalGvma, IofenceC, IodirInvalDdt, AtsInval}
use Rattle.iom_command_queue.specs.Bits.{bits_of, is_set, where_set}
use Rattle.iom_command_queue.specs.Formats.{opcode_of, func3_of, reserved_first, reserved_second, IsClear, ats_device, ats_range}

-- the operation that the words' opcode and func3 tell
abbrev pub IsOperation : Operation → ℕ → Type 0
IsOperation operation first = (bits_of first 6 0 ≡ opcode_of operation) × (bits_of first 9 7 ≡ func3_of operation)

-- a bit of a field is set that isn't allowed: PSCV of IOTINVAL.GVMA, G of ATS.INVAL
abbrev pub is_forbidden : Operation → ℕ → ℕ → Bool
is_forbidden is.IotinvalVma first second = false
is_forbidden is.IotinvalGvma first second = is_set first 32
is_forbidden is.IofenceC first second = false
is_forbidden is.IodirInvalDdt first second = false
is_forbidden is.AtsInval first second = is_set second 0

-- when each refusal comes: each only where none before it does
abbrev pub IsIllegal : Illegal → ℕ → ℕ → Type 0
IsIllegal Opcode first second = (operation : Operation) → bits_of first 6 0 ≢ opcode_of operation
IsIllegal Func first second =
    ((operation : Operation) × (bits_of first 6 0 ≡ opcode_of operation)) × ((operation : Operation) → ¬ IsOperation operation first)
IsIllegal Reserved first second = (operation : Operation) × IsOperation operation first × (¬ IsClear operation first second)
IsIllegal Combination first second =
    (operation : Operation) × IsOperation operation first × IsClear operation first second × (is_forbidden operation first second ≡ true)

-- the operation with an opcode and a func3
abbrev pub operation_at : ℕ → ℕ → Result Operation Illegal
operation_at opcode func3 =
    if opcode == 1 then (if func3 == 0 then Ok is.IotinvalVma else if func3 == 1 then Ok is.IotinvalGvma else Err Func)
    else if opcode == 2 then (if func3 == 0 then Ok is.IofenceC else Err Func)
    else if opcode == 3 then (if func3 == 0 then Ok is.IodirInvalDdt else Err Func)
    else if opcode == 4 then (if func3 == 0 then Ok is.AtsInval else Err Func)
    else Err Opcode

-- whether the bits of all these ranges are zero
abbrev pub are_zero : ℕ → List (ℕ × ℕ) → Bool
are_zero word [] = true
are_zero word (range ∷ ranges) = (bits_of word range.0 range.1 == 0) && are_zero word ranges

abbrev pub is_clear : Operation → ℕ → ℕ → Bool
is_clear operation first second = are_zero first (reserved_first operation) && are_zero second (reserved_second operation)

-- the command by its fields
abbrev pub command_of : Operation → ℕ → ℕ → Command
command_of is.IotinvalVma first second =
    IotinvalVma (where_set (is_set first 33) (bits_of first 59 44)) (where_set (is_set first 32) (bits_of first 31 12))
    (where_set (is_set first 10) (bits_of second 61 10))
command_of is.IotinvalGvma first second =
    IotinvalGvma (where_set (is_set first 33) (bits_of first 59 44)) (where_set (is_set first 10) (bits_of second 61 10))
command_of is.IofenceC first second =
    IofenceC (where_set (is_set first 10) (record { address = 4 * bits_of second 61 0; «data» = bits_of first 63 32 }))
    (is_set first 11) (is_set first 12) (is_set first 13)
command_of is.IodirInvalDdt first second = IodirInvalDdt (where_set (is_set first 33) (bits_of first 63 40))
command_of is.AtsInval first second = AtsInval (ats_device first) (ats_range second)

-- of an operation, the command or the refusal
abbrev pub decoded_as : Operation → ℕ → ℕ → Result Command Illegal
decoded_as operation first second =
    if is_clear operation first second
    then (if is_forbidden operation first second then Err Combination else Ok (command_of operation first second))
    else Err Reserved

abbrev pub decoded_by : Result Operation Illegal → ℕ → ℕ → Result Command Illegal
decoded_by (Ok operation) first second = decoded_as operation first second
decoded_by (Err reason) first second = Err reason

-- the command that two words are, or the refusal
unfoldable pub decoded : ℕ → ℕ → Result Command Illegal
decoded first second = decoded_by (operation_at (bits_of first 6 0) (bits_of first 9 7)) first second
