-- Free frames: others than the one that is named, and enough of them.
use Rattle.std.proofs.Common.{◌≡◌, ◌≢◌, ◌∙◌, ℕ, ◌<◌, nat_eq, false, length, Option, None, Some, MatchOption, sym, arith}
use Rattle.std.specs.Prelude.{⊤}
use Rattle.std.specs.Option.{option_eq}
use Rattle.std.proofs.lemmas.Bool.{eq-eqb, false≢true}
use Rattle.std.proofs.lemmas.List.Elements.{All-weaker}
use Rattle.iom_machine.specs.Frames.{FewerThan}
use Rattle.iom_machine.specs.Judging.{CountsAll}

-- there aren't fewer than were found
pub enough_found : (P : ℕ → Type 0) (count n : ℕ) → CountsAll count n P → FewerThan count P → ⊥
enough_found P count n (found, (once, each, whole), many) fewer =
    let short : length found < count = fewer found once (All-weaker (λ x. (x < n) × P x) P (λ x h. h.1) found each) in
    omega (arith, many, short)

-- the number is another than the one that is named, if one is
pub other_than : (named : Option ℕ) (number : ℕ) → option_eq nat_eq named (Some number) ≡ false → MatchOption named ⊤ (λ it. number ≢ it)
other_than None number apart = tt
other_than (Some it) number apart = λ same. false≢true (sym apart ∙ eq-eqb it number (sym same))
