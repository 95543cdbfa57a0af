-- Tickets by their fences: which of them are done by a completion word.
use Rattle.std.proofs.Common.{◌≡◌, ◌↔◌, ◌+◌, ◌-◌, ◌<◌, ◌≤◌, ℕ, Bool, true, false, nat_lt, min, if◌then◌else◌, refl, arith}
use Rattle.std.proofs.lemmas.Bool.Decides.{nat_tests}
use Rattle.iom_driver.specs.Fences.{fence_of, done_by}
use Rattle.iom_driver.specs.State.{DriverState}

-- no ticket is done that wasn't given
pub done_given : (d : DriverState) (word : ℕ) → done_by d word ≤ d.given
done_given d word = by (nat_lt word (d.restarted + d.restarts))
  where
    by : (b : Bool) → (if b then 0 else min (word - d.restarts) d.given) ≤ d.given
    by true = omega arith
    by false = omega arith

-- the tickets up to the last that is done are those whose fence is
pub done_exactly : (d : DriverState) (word ticket : ℕ) → d.confirmed < ticket → ticket ≤ d.given
    → (ticket ≤ d.confirmed + (done_by d word - d.confirmed)) ↔ (fence_of d ticket ≤ word)
done_exactly d word ticket late given = by (nat_lt word (d.restarted + d.restarts)) refl
  where
    by : (b : Bool) → nat_lt word (d.restarted + d.restarts) ≡ b
        → (ticket ≤ d.confirmed + ((if b then 0 else min (word - d.restarts) d.given) - d.confirmed)) ↔ (fence_of d ticket ≤ word)
    by true e =
        let above : word < d.restarted + d.restarts = grind (arith, nat_tests) in
        ((λ done. absurd (omega (arith, done, late))), (λ low. absurd (omega (arith, low, above))))
    by false e =
        let reached : d.restarted + d.restarts ≤ word = grind (arith, nat_tests) in
        ((λ done. omega (arith, done, late, reached)), (λ low. omega (arith, low, given, reached)))
