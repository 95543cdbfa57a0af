-- What reads give, one after another.
use Rattle.std.proofs.Common.{◌≡◌, ◌+◌, ◌≤◌, ◌∙◌, ℕ, List, ◌++◌, length, take, Option, None, Some, IfSome, sym, ap, subst, arith, append-nil, length-append}
use Rattle.std.proofs.lemmas.List.{take_all}
use Rattle.std.proofs.Math.Seq.{take-append_seam}
use Rattle.std.proofs.KnownBytes.{Consumes-trans}
use Rattle.std.specs.Io.KnownBytes.{Consumes, IsAtEnd}
use Rattle.iom_script_reading.specs.Reading.{ConsumesAtMost}

-- what was read up to the limit is the first that the reader had
pub read_to_limit : (old new : Option (List ℕ)) (bytes : List ℕ) (limit : ℕ) → Consumes old new bytes → length bytes ≡ limit → IfSome old (λ input. bytes ≡ take limit input)
read_to_limit None new bytes limit taken full = tt
read_to_limit (Some input) None bytes limit taken full = absurd taken
read_to_limit (Some input) (Some rest) bytes limit taken full =
    sym (ap (take limit) taken ∙ subst (λ n. take n (bytes ++ rest) ≡ bytes) full (take-append_seam bytes rest))

read_all : (old new : Option (List ℕ)) (bytes : List ℕ) (limit : ℕ) → Consumes old new bytes → length bytes ≤ limit → IsAtEnd new → IfSome old (λ input. bytes ≡ take limit input)
read_all None new bytes limit taken few end = tt
read_all (Some input) None bytes limit taken few end = absurd taken
read_all (Some input) (Some rest) bytes limit taken few end =
    let whole : input ≡ bytes = taken ∙ ap (λ r. bytes ++ r) end ∙ append-nil bytes in
    sym (ap (take limit) whole ∙ take_all limit bytes few)

-- and so is what was read to the end, with the last read
pub read_to_end : (old mid new : Option (List ℕ)) (bytes more after : List ℕ) (limit : ℕ) → Consumes old mid bytes → Consumes mid new more → length bytes + length more ≤ limit
    → after ≡ bytes ++ more → IsAtEnd new → IfSome old (λ input. after ≡ take limit input)
read_to_end old mid new bytes more after limit taken next few is end =
    subst (λ l. IfSome old (λ input. l ≡ take limit input)) (sym is)
    (read_all old new (bytes ++ more) limit (Consumes-trans old mid new bytes more taken next) (omega (arith, few, length-append bytes more)) end)

-- some more is taken
pub consumes_more : (old mid new : Option (List ℕ)) (bytes more : List ℕ) (most : ℕ) → Consumes old mid bytes → Consumes mid new more → length bytes + length more ≤ most
    → ConsumesAtMost most old new
consumes_more old mid new bytes more most taken next few =
    (bytes ++ more, Consumes-trans old mid new bytes more taken next, omega (arith, few, length-append bytes more))
