-- The numbers of causes and of types of transactions, both ways.
use Rattle.std.proofs.Common.{◌≡◌, ◌==◌, ◌<◌, ℕ, inl, inr, Option, Some, None, if◌then◌else◌, refl, ◌∙◌, arith}
use Rattle.std.specs.Prelude.{IfSome}
use Rattle.std.proofs.lemmas.Bool.Decides.{eqb_tells}
use Rattle.iom_base.specs.Causes.{code_of}
use Rattle.iom_base.specs.declared.cause.Cause.{Cause}
use Rattle.iom_base.specs.declared.cause.Cause.TheVariants.{ReadAccessFault, WriteAccessFault, ReadPageFault, WritePageFault, ReadGuestPageFault, WriteGuestPageFault, AllInboundDisallowed, DirectoryLoadFault, DirectoryEntryNotValid, DirectoryEntryMisconfigured, TransactionTypeDisallowed}
use Rattle.iom_fault_queue.specs.declared.transaction.Transaction.{Transaction}
use Rattle.iom_fault_queue.specs.declared.transaction.Transaction.TheVariants.{UntranslatedRead, UntranslatedWrite, TranslatedRead, TranslatedWrite, AtsRequest}
use Rattle.iom_fault_queue.specs.Fields.{type_of, transaction_of, cause_of}

-- one test more: if it holds the number is that item's
by_test : {X : Type 0} (number : X → ℕ) (n k : ℕ) (x : X) (rest : Option X) → k ≡ number x → IfSome rest (λ y. n ≡ number y)
    → IfSome (if n == k then Some x else rest) (λ y. n ≡ number y)
by_test number n k x rest is more = elim (eqb_tells n k) [ inl h ↦ rw h.0 (h.1 ∙ is) | inr h ↦ rw h.0 more ]

-- the cause with a number has that number
pub code_of-cause_of : (n : ℕ) → IfSome (cause_of n) (λ c. n ≡ code_of c)
code_of-cause_of n =
    by_test code_of n 5 ReadAccessFault _ refl (by_test code_of n 7 WriteAccessFault _ refl (by_test code_of n 13 ReadPageFault _ refl
    (by_test code_of n 15 WritePageFault _ refl (by_test code_of n 21 ReadGuestPageFault _ refl (by_test code_of n 23 WriteGuestPageFault _ refl
    (by_test code_of n 256 AllInboundDisallowed _ refl (by_test code_of n 257 DirectoryLoadFault _ refl (by_test code_of n 258 DirectoryEntryNotValid _ refl
    (by_test code_of n 259 DirectoryEntryMisconfigured _ refl (by_test code_of n 260 TransactionTypeDisallowed None refl tt))))))))))

pub cause_of-code_of : (c : Cause) → cause_of (code_of c) ≡ Some c
cause_of-code_of ReadAccessFault = refl
cause_of-code_of WriteAccessFault = refl
cause_of-code_of ReadPageFault = refl
cause_of-code_of WritePageFault = refl
cause_of-code_of ReadGuestPageFault = refl
cause_of-code_of WriteGuestPageFault = refl
cause_of-code_of AllInboundDisallowed = refl
cause_of-code_of DirectoryLoadFault = refl
cause_of-code_of DirectoryEntryNotValid = refl
cause_of-code_of DirectoryEntryMisconfigured = refl
cause_of-code_of TransactionTypeDisallowed = refl

-- a cause's number fits its 12 bits
pub code_fits : (c : Cause) → code_of c < 4096
code_fits ReadAccessFault = omega arith
code_fits WriteAccessFault = omega arith
code_fits ReadPageFault = omega arith
code_fits WritePageFault = omega arith
code_fits ReadGuestPageFault = omega arith
code_fits WriteGuestPageFault = omega arith
code_fits AllInboundDisallowed = omega arith
code_fits DirectoryLoadFault = omega arith
code_fits DirectoryEntryNotValid = omega arith
code_fits DirectoryEntryMisconfigured = omega arith
code_fits TransactionTypeDisallowed = omega arith

-- the type with a number has that number
pub type_of-transaction_of : (n : ℕ) → IfSome (transaction_of n) (λ t. n ≡ type_of t)
type_of-transaction_of n =
    by_test type_of n 2 UntranslatedRead _ refl (by_test type_of n 3 UntranslatedWrite _ refl (by_test type_of n 6 TranslatedRead _ refl
    (by_test type_of n 7 TranslatedWrite _ refl (by_test type_of n 8 AtsRequest None refl tt))))

pub transaction_of-type_of : (t : Transaction) → transaction_of (type_of t) ≡ Some t
transaction_of-type_of UntranslatedRead = refl
transaction_of-type_of UntranslatedWrite = refl
transaction_of-type_of TranslatedRead = refl
transaction_of-type_of TranslatedWrite = refl
transaction_of-type_of AtsRequest = refl

-- a type's number fits its 6 bits
pub type_fits : (t : Transaction) → type_of t < 64
type_fits UntranslatedRead = omega arith
type_fits UntranslatedWrite = omega arith
type_fits TranslatedRead = omega arith
type_fits TranslatedWrite = omega arith
type_fits AtsRequest = omega arith
