-- The refusal that a call tells: the first reason that applies, reason by reason.
use Rattle.std.proofs.Common.{◌≡◌, ◌≢◌, ◌<◌, ◌≤◌, ◌+◌, ◌-◌, ℕ, Bool, true, false, List, [], ◌∷◌, Some, nat_le, refl, subst, arith}
use Rattle.std.proofs.lemmas.Bool.{leb-false, le-leb, lt-leb}
use Rattle.iom_command_queue.specs.Waiting.{how_many}
use Rattle.iom_base.specs.declared.refusal.Refusal.{Refusal}
use Rattle.iom_base.specs.declared.refusal.Refusal.TheVariants.{TooManyPending, QueueFull, NumbersUsedUp}
use Rattle.iom_ledger.specs.History.{pending_limit}
use Rattle.iom_base.specs.Refusals.{first_that_applies, NoneApplies, IsRefusedBy}
use Rattle.iom_registers.specs.declared.registers.Registers.{Registers}
use Rattle.iom_registers.specs.Queues.{command_entries}
use Rattle.iom_driver.specs.Fences.{last_fence}
use Rattle.iom_driver.specs.Reasons.{lacks_places}
use Rattle.iom_driver.specs.State.{DriverState}

-- a reason that applies is the one that is told
pub first_told : (reasons : List (Bool × Refusal)) (may : Refusal → Type 0) (why : Refusal) → first_that_applies reasons ≡ Some why → IsRefusedBy reasons may why
first_told reasons may why first = rw first refl

-- one that may come comes where none applies
pub none_told : (reasons : List (Bool × Refusal)) (may : Refusal → Type 0) (why : Refusal) → NoneApplies reasons → may why → IsRefusedBy reasons may why
none_told reasons may why none comes = rw none comes

-- of the first reason: whether it applies
pub applies : (test : Bool) (why : Refusal) (later : List (Bool × Refusal)) → test ≡ true → first_that_applies ((test, why) ∷ later) ≡ Some why
applies test why later holds = rw holds refl

pub passes : (test : Bool) (why : Refusal) (later : List (Bool × Refusal)) → test ≡ false → first_that_applies ((test, why) ∷ later) ≡ first_that_applies later
passes test why later fails = rw fails refl

-- the reasons for which no commands are queued, that take so many places
abbrev pub queueing : DriverState → Registers → ℕ → List (Bool × Refusal)
queueing d r places =
    (nat_le pending_limit (d.given - d.confirmed), TooManyPending)
    ∷ (lacks_places places r, QueueFull)
    ∷ (nat_le 4294967295 (last_fence d), NumbersUsedUp)
    ∷ []

module _ (d : DriverState) (r : Registers) (places : ℕ) where
  pub too_many : pending_limit ≤ d.given - d.confirmed → first_that_applies (queueing d r places) ≡ Some TooManyPending
  too_many many = rw (le-leb pending_limit (d.given - d.confirmed) many) refl

  pub queue_full : d.given - d.confirmed < pending_limit → lacks_places places r ≡ true → first_that_applies (queueing d r places) ≡ Some QueueFull
  queue_full few full = rw (lt-leb pending_limit (d.given - d.confirmed) few, full) refl

  pub used_up : d.given - d.confirmed < pending_limit → lacks_places places r ≡ false → 4294967295 ≤ last_fence d → first_that_applies (queueing d r places) ≡ Some NumbersUsedUp
  used_up few fits last = rw (lt-leb pending_limit (d.given - d.confirmed) few, fits, le-leb 4294967295 (last_fence d) last) refl

  pub may_queue : d.given - d.confirmed < pending_limit → lacks_places places r ≡ false → last_fence d < 4294967295 → NoneApplies (queueing d r places)
  may_queue few fits more = rw (lt-leb pending_limit (d.given - d.confirmed) few, fits, lt-leb 4294967295 (last_fence d) more) refl

-- what is known then: there is room for the commands, and another number for their fence
pub fits : (r : Registers) (places : ℕ) → command_entries r ≡ 256 → lacks_places places r ≡ false → how_many r + places < 256
fits r places entries test = subst (λ n. how_many r + places < n) entries (leb-false (command_entries r) (how_many r + places) test)

pub more_numbers : (last read : ℕ) → last ≤ 4294967295 → read ≡ last → read ≢ 4294967295 → last < 4294967295
more_numbers last read le same ne = omega (arith, le, same, ne)

pub no_more_numbers : (last read : ℕ) → read ≡ last → read ≡ 4294967295 → 4294967295 ≤ last
no_more_numbers last read same e = omega (arith, same, e)
