-- Runs of four free frames, from the highest free frame down.
use Rattle.std.proofs.Common.{◌≡◌, ◌↔◌, ◌+◌, ◌*◌, ◌/◌, ◌<◌, ◌≤◌, ◌⊎◌, inl, inr, ℕ, List, Option, None, sym, subst, arith}
use Rattle.std.proofs.lemmas.Bool.{cases_lt}
use Rattle.iom_base.specs.declared.owner.Owner.{Owner}
use Rattle.iom_ledger.specs.declared.ledger.Ledger.{Ledger}
use Rattle.iom_table_frames.specs.Owners.{NoneIsFree, IsHighestFree}
use Rattle.iom_table_frames.specs.Fours.{AreFourFree, NoFourAreFree, IsHighestFour}

module _ (owners : List (Option Owner)) (ledger : Ledger) (below limit : ℕ) (aligned : (n : ℕ) × (below ≡ 4 * n)) (within : below ≤ limit) (above : NoFourAreFree owners ledger below limit) where
  -- no frame is free below: so no four are
  pub none_below : NoneIsFree owners ledger None 0 below → NoFourAreFree owners ledger 0 limit
  none_below none n from fits four = by (cases_lt (4 * n) below)
    where
      by : (4 * n < below) ⊎ (below ≤ 4 * n) → ⊥
      by (inl low) = none (4 * n) (omega arith) low four.one
      by (inr high) = above n high fits four

  module _ (frame : ℕ) (found : IsHighestFree owners ledger None below frame) where
    -- the four frames with the highest free one are below
    pub four_below : frame / 4 * 4 + 4 ≤ below
    four_below = let lower = found.below in let is = aligned.1 in omega (arith, lower, is)

    -- those above them aren't free
    pub none_above : NoFourAreFree owners ledger (frame / 4 * 4 + 1) limit
    none_above n from fits four = by (cases_lt (4 * n) below)
      where
        by : (4 * n < below) ⊎ (below ≤ 4 * n) → ⊥
        by (inl low) = found.highest (4 * n) (omega (arith, from)) low four.one
        by (inr high) = above n high fits four

    -- and where they aren't either, none from them on
    pub none_from : (AreFourFree owners ledger (frame / 4 * 4) → ⊥) → NoFourAreFree owners ledger (frame / 4 * 4) limit
    none_from none n from fits four = by (cases_lt (frame / 4 * 4) (4 * n))
      where
        by : (frame / 4 * 4 < 4 * n) ⊎ (4 * n ≤ frame / 4 * 4) → ⊥
        by (inl higher) = none_above n (omega (arith, higher)) fits four
        by (inr lower) = let same : 4 * n ≡ frame / 4 * 4 = omega (arith, from, lower) in none (subst (AreFourFree owners ledger) same four)
