-- The words that are written for a command are that command, and all that it doesn't use is zero.
use Rattle.std.proofs.Common.{◌≡◌, ◌+◌, ◌*◌, ◌/◌, ◌%◌, ◌^◌, ◌<◌, ◌∙◌, ◌==◌, ℕ, Bool, true, false, Option, Some, None, Ok, refl, sym, ap, subst, arith, lit<, if◌then◌else◌}
use Rattle.std.specs.Prelude.{is_some}
use Rattle.std.proofs.lemmas.Nat.{pow_pos}
use Rattle.iom_command_queue.specs.declared.command.Command.{Command}
use Rattle.iom_command_queue.specs.declared.command.Command.TheVariants.{IotinvalVma, IotinvalGvma, IofenceC, IodirInvalDdt, AtsInval}
use Rattle.iom_command_queue.specs.declared.command.AtsRange.{AtsRange}
use Rattle.iom_command_queue.specs.declared.command.AtsRange.TheVariants.{Page, Everything}
use Rattle.iom_command_queue.specs.declared.command.FenceStore.{FenceStore}
use Rattle.iom_command_queue.specs.Bits.{bits_of, as_bit, where_set}
use Rattle.iom_command_queue.specs.Formats.{AreWordsOf, ats_device, first_of, second_of}
use Rattle.iom_command_queue.specs.Legal.{decoded}
use Rattle.iom_command_queue.specs.Encoded.{first_word, second_word, or_zero, data_or_zero, address_or_zero, UnusedAreZero, encoded}
use Rattle.iom_command_queue.proofs.Fits.{Fits, RangeFits, IsWithin}
use Rattle.iom_command_queue.proofs.Exact.{found}
use Rattle.iom_command_queue.proofs.TwoWords.{first_back, second_back}
use Rattle.iom_command_queue.proofs.Words.{IotinvalBits, iotinval_bits, AddressBits, address_bits, FenceBits, fence_bits, FenceAddressBits, fence_address_bits, DirectoryBits, directory_bits, AtsBits, ats_bits, PayloadBits, payload_bits}

bit_fits : (b : Bool) → as_bit b < 2
bit_fits true = lit< tt
bit_fits false = lit< tt

bit_reads : (b : Bool) → (as_bit b == 1) ≡ b
bit_reads true = refl
bit_reads false = refl

fits_or_zero : (width : ℕ) (o : Option ℕ) → IsWithin width o → or_zero o < 2 ^ width
fits_or_zero width (Some n) fits = fits n refl
fits_or_zero width None fits = pow_pos width

-- a field with its valid bit is read back
read_back : (o : Option ℕ) (valid number : ℕ) → valid ≡ as_bit (is_some o) → number ≡ or_zero o → o ≡ where_set (valid == 1) number
read_back (Some n) valid number v e = sym (ap (λ x. where_set (x == 1) number) v ∙ ap (λ x. Some x) e)
read_back None valid number v e = sym (ap (λ x. where_set (x == 1) number) v)

flag_back : (b : Bool) (number : ℕ) → number ≡ as_bit b → b ≡ (number == 1)
flag_back b number e = sym (ap (λ n. n == 1) e ∙ bit_reads b)

unused_field : (o : Option ℕ) (number : ℕ) → number ≡ or_zero o → o ≡ None → number ≡ 0
unused_field o number e none = e ∙ ap or_zero none

store_back : (o : Option FenceStore) (valid address number : ℕ) → valid ≡ as_bit (is_some o) → address ≡ address_or_zero o → number ≡ data_or_zero o
    → o ≡ where_set (valid == 1) (record { address = address; «data» = number })
store_back (Some s) valid address number v a d =
    sym (ap (λ x. where_set (x == 1) (record { address = address; «data» = number })) v
    ∙ ap (λ x. Some (record { address = x; «data» = number })) a ∙ ap (λ x. Some (record { address = s.address; «data» = x })) d)
store_back None valid address number v a d = sym (ap (λ x. where_set (x == 1) (record { address = address; «data» = number })) v)

vma_first : (g p a : Option ℕ) → IsWithin 16 g → IsWithin 20 p
    → IotinvalBits (first_word (IotinvalVma g p a)) 1 (as_bit (is_some a)) (or_zero p) (as_bit (is_some p)) (as_bit (is_some g)) (or_zero g)
unfolding first_word
vma_first g p a fg fp =
    iotinval_bits (first_word (IotinvalVma g p a)) 1 (as_bit (is_some a)) (or_zero p) (as_bit (is_some p)) (as_bit (is_some g)) (or_zero g)
    (lit< tt) (bit_fits (is_some a)) (fits_or_zero 20 p fp) (bit_fits (is_some p)) (bit_fits (is_some g)) (fits_or_zero 16 g fg) refl

gvma_first : (g a : Option ℕ) → IsWithin 16 g
    → IotinvalBits (first_word (IotinvalGvma g a)) 129 (as_bit (is_some a)) 0 0 (as_bit (is_some g)) (or_zero g)
unfolding first_word
gvma_first g a fg =
    iotinval_bits (first_word (IotinvalGvma g a)) 129 (as_bit (is_some a)) 0 0 (as_bit (is_some g)) (or_zero g)
    (lit< tt) (bit_fits (is_some a)) (lit< tt) (lit< tt) (bit_fits (is_some g)) (fits_or_zero 16 g fg) (omega arith)

fence_first : (s : Option FenceStore) (wsi pr pw : Bool) → data_or_zero s < 2 ^ 32
    → FenceBits (first_word (IofenceC s wsi pr pw)) (as_bit (is_some s)) (as_bit wsi) (as_bit pr) (as_bit pw) (data_or_zero s)
unfolding first_word
fence_first s wsi pr pw fits =
    fence_bits (first_word (IofenceC s wsi pr pw)) (as_bit (is_some s)) (as_bit wsi) (as_bit pr) (as_bit pw) (data_or_zero s)
    (bit_fits (is_some s)) (bit_fits wsi) (bit_fits pr) (bit_fits pw) fits refl

directory_first : (d : Option ℕ) → IsWithin 24 d → DirectoryBits (first_word (IodirInvalDdt d)) (as_bit (is_some d)) (or_zero d)
unfolding first_word
directory_first d fits = directory_bits (first_word (IodirInvalDdt d)) (as_bit (is_some d)) (or_zero d) (bit_fits (is_some d)) (fits_or_zero 24 d fits) refl

ats_first : (d : ℕ) (r : AtsRange) → d < 2 ^ 24 → AtsBits (first_word (AtsInval d r)) d
unfolding first_word
ats_first d r fits = ats_bits (first_word (AtsInval d r)) d fits refl

vma_second : (g p a : Option ℕ) → IsWithin 52 a → AddressBits (second_word (IotinvalVma g p a)) (or_zero a)
unfolding second_word
vma_second g p a fits = address_bits (second_word (IotinvalVma g p a)) (or_zero a) (fits_or_zero 52 a fits) refl

gvma_second : (g a : Option ℕ) → IsWithin 52 a → AddressBits (second_word (IotinvalGvma g a)) (or_zero a)
unfolding second_word
gvma_second g a fits = address_bits (second_word (IotinvalGvma g a)) (or_zero a) (fits_or_zero 52 a fits) refl

store_fits : (s : Option FenceStore) → Fits (IofenceC s true true true) → (address_or_zero s < 2 ^ 64) × (address_or_zero s % 4 ≡ 0) × (data_or_zero s < 2 ^ 32)
store_fits (Some s) fits = fits s refl
store_fits None fits = (lit< tt, refl, lit< tt)

fence_second : (s : Option FenceStore) (wsi pr pw : Bool) → address_or_zero s < 2 ^ 64 → address_or_zero s % 4 ≡ 0
    → FenceAddressBits (second_word (IofenceC s wsi pr pw)) (address_or_zero s)
unfolding second_word
fence_second s wsi pr pw fits aligned = fence_address_bits (second_word (IofenceC s wsi pr pw)) (address_or_zero s) fits aligned refl

directory_second : (d : Option ℕ) → bits_of (second_word (IodirInvalDdt d)) 63 0 ≡ 0
unfolding second_word bits_of
directory_second d = refl

no_second : (d : Option ℕ) → second_word (IodirInvalDdt d) < 2 ^ 64
unfolding second_word
no_second d = lit< tt

page_of : AtsRange → ℕ
page_of (Page page) = page
page_of Everything = 0

is_everything : AtsRange → Bool
is_everything (Page page) = false
is_everything Everything = true

ats_second : (d : ℕ) (r : AtsRange) → RangeFits r → PayloadBits (second_word (AtsInval d r)) (as_bit (is_everything r)) (page_of r)
unfolding second_word is_everything page_of
ats_second d (Page page) fits = payload_bits (second_word (AtsInval d (Page page))) 0 page (lit< tt) fits (omega arith)
ats_second d Everything fits = payload_bits (second_word (AtsInval d Everything)) 1 0 (lit< tt) (lit< tt) refl

range_back : (r : AtsRange) (everything page : ℕ) → everything ≡ as_bit (is_everything r) → page ≡ page_of r
    → r ≡ (if everything == 1 then Everything else Page page)
unfolding is_everything page_of
range_back (Page p) everything page e q = sym (ap (λ x. if x == 1 then Everything else Page page) e ∙ ap (λ x. Page x) q)
range_back Everything everything page e q = sym (ap (λ x. if x == 1 then Everything else Page page) e)

ats_back : (first d : ℕ) → bits_of first 33 33 ≡ 1 → bits_of first 55 40 + 2 ^ 16 * bits_of first 63 56 ≡ d → d ≡ ats_device first
ats_back first d one e = sym (ap (λ x. bits_of first 55 40 + 2 ^ 16 * (if x == 1 then bits_of first 63 56 else 0)) one ∙ e)

-- ENCODES: the words are the command
pub encodes : (c : Command) → Fits c → AreWordsOf c (first_word c) (second_word c)
encodes (IotinvalVma g p a) fits =
    let first = vma_first g p a fits.0 fits.1 in
    let second = vma_second g p a fits.2 in
    record {
      opcode = first.opcode;
      func3 = first.func3;
      clear = ((first.reserved_low, (first.reserved_middle, (first.reserved_high, tt))), (second.low, (second.high, tt)));
      fields = (read_back g _ _ first.gv_is first.gscid_is, read_back p _ _ first.pscv_is first.pscid_is, read_back a _ _ first.av_is second.page_is);
    }
encodes (IotinvalGvma g a) fits =
    let first = gvma_first g a fits.0 in
    let second = gvma_second g a fits.1 in
    record {
      opcode = first.opcode;
      func3 = first.func3;
      clear = ((first.reserved_low, (first.reserved_middle, (first.reserved_high, tt))), (second.low, (second.high, tt)));
      fields = (ap (λ n. n == 1) first.pscv_is, read_back g _ _ first.gv_is first.gscid_is, read_back a _ _ first.av_is second.page_is);
    }
encodes (IofenceC s wsi pr pw) fits =
    let small = store_fits s fits in
    let first = fence_first s wsi pr pw small.2 in
    let second = fence_second s wsi pr pw small.0 small.1 in
    record {
      opcode = first.opcode;
      func3 = first.func3;
      clear = ((first.reserved, tt), (second.high, tt));
      fields = (
        store_back s _ _ _ first.av_is second.address_is first.number_is,
        flag_back wsi _ first.wsi_is,
        flag_back pr _ first.pr_is,
        flag_back pw _ first.pw_is,
      );
    }
encodes (IodirInvalDdt d) fits =
    let first = directory_first d fits in
    record {
      opcode = first.opcode;
      func3 = first.func3;
      clear = ((first.reserved_low, (first.reserved_high, tt)), (directory_second d, tt));
      fields = read_back d _ _ first.dv_is first.did_is;
    }
encodes (AtsInval d r) fits =
    let first = ats_first d r fits.0 in
    let second = ats_second d r fits.1 in
    record {
      opcode = first.opcode;
      func3 = first.func3;
      clear = ((first.reserved_low, (first.reserved_high, tt)), (second.reserved, tt));
      fields = (ap (λ n. n == 1) second.global, ats_back _ d first.dsv_is first.device_is, range_back r _ _ second.everything_is second.page_is);
    }

range_unused : (r : AtsRange) (page : ℕ) → page ≡ page_of r → r ≡ Everything → page ≡ 0
unfolding page_of
range_unused r page e everything = e ∙ ap page_of everything

-- what isn't used is zero
pub unused : (c : Command) → Fits c → UnusedAreZero c (first_word c) (second_word c)
unused (IotinvalVma g p a) fits =
    let first = vma_first g p a fits.0 fits.1 in
    (unused_field g _ first.gscid_is, unused_field p _ first.pscid_is, unused_field a _ (vma_second g p a fits.2).page_is)
unused (IotinvalGvma g a) fits =
    let first = gvma_first g a fits.0 in
    (unused_field g _ first.gscid_is, first.pscid_is, unused_field a _ (gvma_second g a fits.1).page_is)
unused (IofenceC s wsi pr pw) fits =
    let small = store_fits s fits in
    λ none. (
      (fence_first s wsi pr pw small.2).number_is ∙ ap data_or_zero none,
      (fence_second s wsi pr pw small.0 small.1).address_over_four ∙ ap (λ o. address_or_zero o / 4) none,
    )
unused (IodirInvalDdt d) fits = unused_field d _ (directory_first d fits).did_is
unused (AtsInval d r) fits = (ap (λ n. n == 1) (ats_first d r fits.0).dsv_is, range_unused r _ (ats_second d r fits.1).page_is)

pub first_fits : (c : Command) → Fits c → first_word c < 2 ^ 64
first_fits (IotinvalVma g p a) fits = (vma_first g p a fits.0 fits.1).whole
first_fits (IotinvalGvma g a) fits = (gvma_first g a fits.0).whole
first_fits (IofenceC s wsi pr pw) fits = (fence_first s wsi pr pw (store_fits s fits).2).whole
first_fits (IodirInvalDdt d) fits = (directory_first d fits).whole
first_fits (AtsInval d r) fits = (ats_first d r fits.0).whole

pub second_fits : (c : Command) → Fits c → second_word c < 2 ^ 64
second_fits (IotinvalVma g p a) fits = (vma_second g p a fits.2).whole
second_fits (IotinvalGvma g a) fits = (gvma_second g a fits.1).whole
second_fits (IofenceC s wsi pr pw) fits = let small = store_fits s fits in (fence_second s wsi pr pw small.0 small.1).whole
second_fits (IodirInvalDdt d) fits = no_second d
second_fits (AtsInval d r) fits = (ats_second d r fits.1).whole

first_written : (c : Command) → Fits c → first_word c ≡ first_of (encoded c)
first_written c fits = sym (first_back (first_word c) (second_word c) (first_fits c fits))

second_written : (c : Command) → Fits c → second_word c ≡ second_of (encoded c)
second_written c fits = sym (second_back (first_word c) (second_word c) (second_fits c fits))

-- the same of the bytes
pub means : (c : Command) → Fits c → AreWordsOf c (first_of (encoded c)) (second_of (encoded c))
means c fits =
    subst (λ w. AreWordsOf c w (second_of (encoded c))) (first_written c fits)
    (subst (λ w. AreWordsOf c (first_word c) w) (second_written c fits) (encodes c fits))

pub unused_means : (c : Command) → Fits c → UnusedAreZero c (first_of (encoded c)) (second_of (encoded c))
unused_means c fits =
    subst (λ w. UnusedAreZero c w (second_of (encoded c))) (first_written c fits)
    (subst (λ w. UnusedAreZero c (first_word c) w) (second_written c fits) (unused c fits))

-- READS BACK: what was written is decoded to the command
pub reads_back : (c : Command) → Fits c → decoded (first_word c) (second_word c) ≡ Ok c
reads_back c fits = found (first_word c) (second_word c) c (encodes c fits)

pub bytes_read_back : (c : Command) → Fits c → decoded (first_of (encoded c)) (second_of (encoded c)) ≡ Ok c
bytes_read_back c fits = found (first_of (encoded c)) (second_of (encoded c)) c (means c fits)
