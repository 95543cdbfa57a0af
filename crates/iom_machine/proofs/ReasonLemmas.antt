-- What is so where no reason to refuse applies.
use Rattle.std.proofs.Common.{◌≡◌, ℕ, ◌<◌, Bool, true, false, List, [], ◌∷◌, length, Option, None, Some, is_some, if◌then◌else◌, nat_le, refl, arith}
use Rattle.std.proofs.lemmas.Bool.{leb-false, or_parts}
use Rattle.std.proofs.lemmas.Bool.Decides.{nat_tests}
use Rattle.iom_base.specs.declared.device_kind.NewDevice.{NewDevice}
use Rattle.iom_base.specs.declared.refusal.Refusal.{Refusal}
use Rattle.iom_base.specs.Refusals.{NoneApplies, first_that_applies}
use Rattle.iom_ledger.specs.History.{Pair, held_at}
use Rattle.iom_machine.specs.declared.state.Device.{Device}
use Rattle.iom_machine.specs.declared.state.State.{State}
use Rattle.iom_machine.specs.Devices.{device_of}
use Rattle.iom_machine.specs.Refusals.{plug_reasons, grant_reasons, is_held, is_lingering}

-- each reason doesn't apply
abbrev pub EachFails : List (Bool × Refusal) → Type 0
EachFails [] = Unit {0}
EachFails (reason ∷ later) = (reason.0 ≡ false) × EachFails later

-- where no reason applies, each doesn't
pub none_applies : (reasons : List (Bool × Refusal)) → NoneApplies reasons → EachFails reasons
none_applies [] none = tt
none_applies (reason ∷ later) none = by reason.0 refl none (none_applies later)
  where
    by : (b : Bool) → reason.0 ≡ b → (if b then Some reason.1 else first_that_applies later) ≡ None → (NoneApplies later → EachFails later) → EachFails (reason ∷ later)
    by true e h rest = cc
    by false e h rest = (e, rest h)

-- a page that may be granted holds nothing
pub grant_finds_nothing : (state : State) (id page frame : ℕ) → NoneApplies (grant_reasons state id page frame) → held_at state.history id page ≡ None
grant_finds_nothing state id page frame none =
    let fails = none_applies (grant_reasons state id page frame) none in
    empty (held_at state.history id page) (or_parts (is_held state id page) (is_lingering state id page) fails.1.1.1.1.1.1.0).0
  where
    empty : (held : Option Pair) → is_some held ≡ false → held ≡ None
    empty None h = refl
    empty (Some pair) h = cc

-- a frame that may be granted is one of the memory
pub grant_in_memory : (state : State) (id page frame : ℕ) → NoneApplies (grant_reasons state id page frame) → frame < length state.frames
grant_in_memory state id page frame none =
    let fails = none_applies (grant_reasons state id page frame) none in
    let low : nat_le (length state.frames) frame ≡ false = fails.1.1.1.0 in grind (arith, nat_tests)

-- a device that may be plugged in is absent
pub plug_finds_nothing : (state : State) (id : ℕ) (what : NewDevice) → NoneApplies (plug_reasons state id what) → device_of state id ≡ None
plug_finds_nothing state id what none = by (device_of state id) refl none
  where
    by : (found : Option Device) → device_of state id ≡ found → first_that_applies (plug_reasons state id what) ≡ None → device_of state id ≡ None
    by None at h = at
    by (Some device) at h = cc

-- and there is room for it
pub plug_finds_room : (state : State) (id : ℕ) (what : NewDevice) → NoneApplies (plug_reasons state id what) → length state.devices < state.limits.devices
plug_finds_room state id what none =
    let fails = none_applies (plug_reasons state id what) none in
    leb-false state.limits.devices (length state.devices) fails.1.0
