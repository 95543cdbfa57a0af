-- Which bytes are which record (IOMMU specification, section 3.2, "Fault/Event-Queue (FQ)", figure of a fault-queue record).
use Rattle.std.specs.Prelude.{◌≡◌, ℕ, ◌+◌, ◌*◌, ◌^◌, ◌==◌, ◌&&◌, true, List, [], ◌∷◌, ◌++◌, drop, Option, Some, None, if◌then◌else◌}
use Rattle.byteorder.specs.Endian.{little_number, little_bytes}
use Rattle.iom_base.specs.Causes.{code_of}
use Rattle.iom_base.specs.declared.cause.Cause.{Cause}
use Rattle.iom_fault_queue.specs.declared.transaction.Transaction.{Transaction}
use Rattle.iom_registers.specs.Bits.{bits}
use Rattle.iom_fault_queue.specs.Fields.{Fields, type_of, transaction_of, cause_of, is_iotval2}

-- the word of 8 bytes at a place, the least byte first
unfoldable pub word_of : List ℕ → ℕ → ℕ
word_of bytes place = little_number 8 (drop (8 * place) bytes)

-- the bytes of words, one after the other, each the least byte first
abbrev pub word_bytes : List ℕ → List ℕ
word_bytes [] = []
word_bytes (word ∷ words) = little_bytes 8 word ++ word_bytes words

-- the first word: CAUSE 11:0; PID 31:12, PV 32 and PRIV 33, all 0, since no request has a process id; TTYP 39:34; DID 63:40
pub record IsFirstWord (word : ℕ) (f : Fields) : Type 0 where
  pub cause : bits 11 0 word ≡ code_of f.cause
  pub no_process : bits 33 12 word ≡ 0
  pub transaction : bits 39 34 word ≡ type_of f.transaction
  pub device : bits 63 40 word ≡ f.device

-- the four words: the second is for custom use and reserved, and 0 here; the third is iotval, the fourth iotval2
pub record AreWords (first second third fourth : ℕ) (f : Fields) : Type 0 where
  pub first_is : IsFirstWord first f
  pub second_is : second ≡ 0
  pub third_is : third ≡ f.iotval
  pub fourth_is : fourth ≡ f.iotval2
  pub agrees : is_iotval2 f.cause f.iotval2 ≡ true

-- THE GRAMMAR: these 32 bytes are the record with these fields
abbrev pub IsRecord : List ℕ → Fields → Type 0
IsRecord bytes f = AreWords (word_of bytes 0) (word_of bytes 1) (word_of bytes 2) (word_of bytes 3) f

-- the first word of a record
abbrev pub cause_word : Fields → ℕ
cause_word f = code_of f.cause + type_of f.transaction * 2 ^ 34 + f.device * 2 ^ 40

-- the four words of a record
abbrev pub words : Fields → List ℕ
words f = cause_word f ∷ 0 ∷ f.iotval ∷ f.iotval2 ∷ []

-- the record with a cause and a type of transaction, where they are numbers of the model's and iotval2 agrees with the cause
abbrev pub with_names : Option Cause → Option Transaction → ℕ → ℕ → ℕ → Option Fields
with_names (Some cause) (Some transaction) device iotval iotval2 =
    if is_iotval2 cause iotval2
    then Some (record { cause = cause; transaction = transaction; device = device; iotval = iotval; iotval2 = iotval2 })
    else None
with_names (Some cause) None device iotval iotval2 = None
with_names None transaction device iotval iotval2 = None

-- the record that four words are; None where they are none
abbrev pub record_of_words : ℕ → ℕ → ℕ → ℕ → Option Fields
record_of_words first second third fourth =
    if (bits 33 12 first == 0) && (second == 0)
    then with_names (cause_of (bits 11 0 first)) (transaction_of (bits 39 34 first)) (bits 63 40 first) third fourth
    else None

-- the record that 32 bytes are; None where they are none
unfoldable pub decoded_record : List ℕ → Option Fields
decoded_record bytes = record_of_words (word_of bytes 0) (word_of bytes 1) (word_of bytes 2) (word_of bytes 3)

-- the 32 bytes of a record
unfoldable pub encoded_record : Fields → List ℕ
encoded_record f = word_bytes (words f)
