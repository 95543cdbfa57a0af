use Rattle.std.proofs.Common.{◌≡◌, ◌<◌, ◌++◌, ◌∙◌, ◌∷◌, [], List, ℕ, suc, zero, ap, append_assoc, arith, codes, get_or, length, sym}
use Rattle.std.specs.Int.{to_be_bytes, w64}
use Rattle.std.specs.List.{All}
use Rattle.std.proofs.lemmas.List.Elements.{All-head, All-tail}
use Rattle.std.proofs.lemmas.Nat.{be_bytes_8}
use Rattle.iom_script.specs.Cuts.{IsHexOf}
use Rattle.iom_script.specs.Digits.{hex_digits, hex_of}
use Rattle.iom_script.proofs.HexBytesLemmas.{IsByte, length_hex_of}
use Rattle.iom_script.proofs.PutLemmas.{digits_by_bytes}
use Rattle.iom_script.proofs.ReadsLemmas.{read_holds}
use Rattle.iom_trace_lines.proofs.kept.record_word_before.Goals as goal

each : (bytes : List ℕ) → All IsByte bytes → (i : ℕ) → get_or bytes i 0 < 256
each [] all i = omega arith
each (b ∷ bs) all zero = All-head IsByte b bs all
each (b ∷ bs) all (suc i) = each bs (All-tail IsByte b bs all) i

pub returns : goal.returns
returns c =
    let bytes = c.in_ok-bytes.bytes in
    let word = c.from_be_bytes.result in
    let digits = c.split_at.result.0.now in
    let rest = c.split_at.result.1.now in
    let said = read_holds (IsHexOf digits) bytes c.in_ok-bytes.ensures in
    let eight : length bytes ≡ 8 = omega (arith, ap length said.1, length_hex_of bytes, c.split_at.ensures.front_len) in
    let back : to_be_bytes w64 word ≡ bytes = be_bytes_8 bytes word eight (each bytes said.0) c.from_be_bytes.ensures in
    let is : digits ≡ hex_digits 16 word = said.1 ∙ ap hex_of (sym back) ∙ digits_by_bytes 8 word in
    c.in_ok-digits.ensures ∙ ap (λ (l : List ℕ). codes " 0x" ++ l) (c.split_at.ensures.by_index.0 ∙ ap (λ (l : List ℕ). l ++ rest) is)
    ∙ sym (append_assoc (codes " 0x") (hex_digits 16 word) rest)
