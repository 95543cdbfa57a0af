-- What a fault record says (IOMMU specification, section 3.2, "Fault/Event-Queue (FQ)").
use Rattle.std.specs.Prelude.{◌≡◌, ℕ, ◌+◌, ◌*◌, ◌/◌, ◌%◌, ◌^◌, ◌<◌, ◌==◌, Bool, true, false, Option, Some, None, if◌then◌else◌}
use Rattle.iom_base.specs.declared.access.AccessKind.{AccessKind}
use Rattle.iom_base.specs.declared.access.AccessKind.TheVariants.{Read, Write}
use Rattle.iom_base.specs.declared.cause.Cause.{Cause}
use Rattle.iom_base.specs.declared.cause.Cause.TheVariants.{ReadAccessFault, WriteAccessFault, ReadPageFault, WritePageFault, ReadGuestPageFault, WriteGuestPageFault, AllInboundDisallowed, DirectoryLoadFault, DirectoryEntryNotValid, DirectoryEntryMisconfigured, TransactionTypeDisallowed}
use Rattle.iom_fault_queue.specs.declared.transaction.Transaction.{Transaction}
use Rattle.iom_fault_queue.specs.declared.transaction.Transaction.TheVariants.{UntranslatedRead, UntranslatedWrite, TranslatedRead, TranslatedWrite, AtsRequest}

-- the number of a type of transaction (encodings of TTYP)
abbrev pub type_of : Transaction → ℕ
type_of UntranslatedRead = 2
type_of UntranslatedWrite = 3
type_of TranslatedRead = 6
type_of TranslatedWrite = 7
type_of AtsRequest = 8

-- the type of a request by its kind of access
abbrev pub untranslated_of : AccessKind → Transaction
untranslated_of Read = UntranslatedRead
untranslated_of Write = UntranslatedWrite

abbrev pub translated_of : AccessKind → Transaction
translated_of Read = TranslatedRead
translated_of Write = TranslatedWrite

-- the type with a number; None for a number that is no type of the model's
abbrev pub transaction_of : ℕ → Option Transaction
transaction_of code =
    if code == 2 then Some UntranslatedRead
    else if code == 3 then Some UntranslatedWrite
    else if code == 6 then Some TranslatedRead
    else if code == 7 then Some TranslatedWrite
    else if code == 8 then Some AtsRequest
    else None

-- the cause with a number; None for a number that is no cause of the model's
abbrev pub cause_of : ℕ → Option Cause
cause_of code =
    if code == 5 then Some ReadAccessFault
    else if code == 7 then Some WriteAccessFault
    else if code == 13 then Some ReadPageFault
    else if code == 15 then Some WritePageFault
    else if code == 21 then Some ReadGuestPageFault
    else if code == 23 then Some WriteGuestPageFault
    else if code == 256 then Some AllInboundDisallowed
    else if code == 257 then Some DirectoryLoadFault
    else if code == 258 then Some DirectoryEntryNotValid
    else if code == 259 then Some DirectoryEntryMisconfigured
    else if code == 260 then Some TransactionTypeDisallowed
    else None

-- a fault of the second stage, of which iotval2 tells
abbrev pub is_guest_page_fault : Cause → Bool
is_guest_page_fault ReadAccessFault = false
is_guest_page_fault WriteAccessFault = false
is_guest_page_fault ReadPageFault = false
is_guest_page_fault WritePageFault = false
is_guest_page_fault ReadGuestPageFault = true
is_guest_page_fault WriteGuestPageFault = true
is_guest_page_fault AllInboundDisallowed = false
is_guest_page_fault DirectoryLoadFault = false
is_guest_page_fault DirectoryEntryNotValid = false
is_guest_page_fault DirectoryEntryMisconfigured = false
is_guest_page_fault TransactionTypeDisallowed = false

-- iotval2 on a guest page fault: the guest physical address from bit 2 on; bit 1 (a write of the walk's own) 0;
-- bit 0, that the access was the walk's own. On other faults 0.
abbrev pub iotval2_of : Cause → ℕ → Bool → ℕ
iotval2_of cause address implicit =
    if is_guest_page_fault cause then address / 4 * 4 + (if implicit then 1 else 0) else 0

-- the number can stand as iotval2 beside the cause: bit 1 is 0 on a guest page fault, and all is 0 on others
abbrev pub is_iotval2 : Cause → ℕ → Bool
is_iotval2 cause iotval2 = if is_guest_page_fault cause then iotval2 / 2 % 2 == 0 else iotval2 == 0

-- what a record says, by the standard's names
pub record Fields : Type 0 where
  -- CAUSE
  pub cause : Cause
  -- TTYP
  pub transaction : Transaction
  -- DID
  pub device : ℕ
  pub iotval : ℕ
  pub iotval2 : ℕ

-- the fields fit their bits: 24 of DID, 64 of iotval and of iotval2, which agrees with the cause
abbrev pub AreLawful : Fields → Type 0
AreLawful f =
    (f.device < 2 ^ 24) × (f.iotval < 2 ^ 64) × (f.iotval2 < 2 ^ 64) × (is_iotval2 f.cause f.iotval2 ≡ true)
