-- The words that are written for a command: each field at its bits, and all else zero.
use Rattle.std.specs.Prelude.{◌≡◌, ℕ, ◌+◌, ◌*◌, ◌/◌, ◌^◌, ◌%◌, List, true, Option, Some, None, is_some, unwrap_or}
use Rattle.iom_command_queue.specs.declared.command.Command.{Command}
use Rattle.iom_command_queue.specs.declared.command.Command.TheVariants.{IotinvalVma, IotinvalGvma, IofenceC, IodirInvalDdt, AtsInval}
use Rattle.iom_command_queue.specs.declared.command.AtsRange.{AtsRange}
use Rattle.iom_command_queue.specs.declared.command.AtsRange.TheVariants.{Page, Everything}
use Rattle.iom_command_queue.specs.declared.command.FenceStore.{FenceStore}
use Rattle.iom_command_queue.specs.Bits.{bits_of, as_bit, is_set}
use Rattle.iom_command_queue.specs.Formats.{two_words}

-- the number in a field that may be left out
abbrev pub or_zero : Option ℕ → ℕ
or_zero field = unwrap_or field 0

abbrev pub data_or_zero : Option FenceStore → ℕ
data_or_zero (Some store) = store.data
data_or_zero None = 0

abbrev pub address_or_zero : Option FenceStore → ℕ
address_or_zero (Some store) = store.address
address_or_zero None = 0

-- opcode and func3 with the fields of the first word
unfoldable pub first_word : Command → ℕ
first_word (IotinvalVma gscid pscid page) =
    1 + as_bit (is_some page) * 2 ^ 10 + or_zero pscid * 2 ^ 12 + as_bit (is_some pscid) * 2 ^ 32 + as_bit (is_some gscid) * 2 ^ 33 + or_zero gscid * 2 ^ 44
first_word (IotinvalGvma gscid page) = 1 + 1 * 2 ^ 7 + as_bit (is_some page) * 2 ^ 10 + as_bit (is_some gscid) * 2 ^ 33 + or_zero gscid * 2 ^ 44
first_word (IofenceC store wsi pr pw) =
    2 + as_bit (is_some store) * 2 ^ 10 + as_bit wsi * 2 ^ 11 + as_bit pr * 2 ^ 12 + as_bit pw * 2 ^ 13 + data_or_zero store * 2 ^ 32
first_word (IodirInvalDdt device) = 3 + as_bit (is_some device) * 2 ^ 33 + or_zero device * 2 ^ 40
first_word (AtsInval device range) = 4 + 1 * 2 ^ 33 + device % 2 ^ 16 * 2 ^ 40 + device / 2 ^ 16 * 2 ^ 56

abbrev pub payload : AtsRange → ℕ
payload (Page page) = page * 2 ^ 12
payload Everything = 2 ^ 11

unfoldable pub second_word : Command → ℕ
second_word (IotinvalVma gscid pscid page) = or_zero page * 2 ^ 10
second_word (IotinvalGvma gscid page) = or_zero page * 2 ^ 10
second_word (IofenceC store wsi pr pw) = address_or_zero store / 4
second_word (IodirInvalDdt device) = 0
second_word (AtsInval device range) = payload range

-- the 16 bytes that are written
abbrev pub encoded : Command → List ℕ
encoded command = two_words (first_word command) (second_word command)

-- the fields that the command doesn't use are zero, and DSV is always 1
abbrev pub UnusedAreZero : Command → ℕ → ℕ → Type 0
UnusedAreZero (IotinvalVma gscid pscid page) first second =
    (gscid ≡ None → bits_of first 59 44 ≡ 0) × (pscid ≡ None → bits_of first 31 12 ≡ 0) × (page ≡ None → bits_of second 61 10 ≡ 0)
UnusedAreZero (IotinvalGvma gscid page) first second =
    (gscid ≡ None → bits_of first 59 44 ≡ 0) × (bits_of first 31 12 ≡ 0) × (page ≡ None → bits_of second 61 10 ≡ 0)
UnusedAreZero (IofenceC store wsi pr pw) first second = (store ≡ None → (bits_of first 63 32 ≡ 0) × (bits_of second 61 0 ≡ 0))
UnusedAreZero (IodirInvalDdt device) first second = (device ≡ None → bits_of first 63 40 ≡ 0)
UnusedAreZero (AtsInval device range) first second = (is_set first 33 ≡ true) × (range ≡ Everything → bits_of second 63 12 ≡ 0)
