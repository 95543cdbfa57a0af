-- The two words of 16 bytes are read back.
use Rattle.std.proofs.Common.{◌≡◌, ◌^◌, ◌<◌, ◌++◌, ◌∙◌, ℕ, List, [], length, drop, append-nil, sym, ap}
use Rattle.std.proofs.Math.Seq.{drop-append_seam}
use Rattle.byteorder.specs.Endian.{little_number, little_bytes}
use Rattle.byteorder.specs.Numbers.{little_number-reads_back, length-bytes_low_first}
use Rattle.iom_command_queue.specs.Formats.{first_of, second_of, two_words}

first_over : (n first : ℕ) (rest : List ℕ) → first < 256 ^ n → little_number n (little_bytes n first ++ rest) ≡ first
first_over n first rest fits = little_number-reads_back n first rest fits

second_over : (n first second : ℕ) → second < 256 ^ n → little_number n (drop n (little_bytes n first ++ little_bytes n second)) ≡ second
second_over n first second fits =
    let long : length (little_bytes n first) ≡ n = length-bytes_low_first 0 n first in
    let seam : drop n (little_bytes n first ++ little_bytes n second) ≡ little_bytes n second ++ [] =
    ap (λ k. drop k (little_bytes n first ++ little_bytes n second)) (sym long)
    ∙ drop-append_seam (little_bytes n first) (little_bytes n second) ∙ sym (append-nil (little_bytes n second)) in
    ap (λ bytes. little_number n bytes) seam ∙ little_number-reads_back n second [] fits

pub first_back : (first second : ℕ) → first < 2 ^ 64 → first_of (two_words first second) ≡ first
unfolding first_of two_words
first_back first second fits = first_over 8 first (little_bytes 8 second) fits

pub second_back : (first second : ℕ) → second < 2 ^ 64 → second_of (two_words first second) ≡ second
unfolding second_of two_words
second_back first second fits = second_over 8 first second fits
