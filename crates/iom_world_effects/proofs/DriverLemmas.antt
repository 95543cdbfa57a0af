-- What stays true of a driver by itself, in the words of its state.
use Rattle.std.proofs.Common.{◌≡◌, ◌+◌, ◌∙◌, max, length, sym, ap, subst, arith}
use Rattle.std.proofs.Math.Nat.{max-eq_left}
use Rattle.iom_driver.specs.Fences.{last_fence, fence_of}
use Rattle.iom_driver.specs.declared.driver.Driver.{Driver}
use Rattle.iom_driver.specs.StateOf.{state_of}
use Rattle.iom_driver.specs.Invariant as driver
use Rattle.iom_driver.specs.State.{DriverState}

abbrev pub DriverInvariant : DriverState → Type 0
DriverInvariant d = driver.StateInvariant d.ledger d.owners d.devices (length d.owners) d.levels d.started d.given d.confirmed d.restarts d.restarted

pub driver_invariant : (own : Driver) → DriverInvariant (state_of own)
driver_invariant own =
    subst (λ n. driver.StateInvariant own.ledger own.owners own.devices.items n own.levels own.started own.given own.confirmed own.restarts own.restarted)
    (sym own.invariants.sizes.owned) own.invariants

-- the fence of the next ticket is the next one
pub next_fence : (d : DriverState) → DriverInvariant d → fence_of d (d.given + 1) ≡ last_fence d + 1
next_fence d own =
    let low = own.fences.earlier in
    let later : max (d.given + 1) d.restarted ≡ d.given + 1 = max-eq_left (omega (arith, low)) in
    ap (λ n. n + d.restarts) later ∙ omega arith
