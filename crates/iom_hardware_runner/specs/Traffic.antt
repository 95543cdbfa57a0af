-- Of which devices and pages `traffic` is taken, and why of others it isn't; and what is kept then.
use Rattle.std.specs.Prelude.{ℕ, ◌⊎◌, ◌<◌, ◌≤◌, ◌^◌, ◌==◌, if◌then◌else◌, List, [], ◌∷◌}
use Rattle.iom_base.specs.DeviceKinds.{is_block_device, sends_untranslated}
use Rattle.iom_base.specs.declared.refusal.Refusal.{Refusal}
use Rattle.iom_base.specs.declared.refusal.Refusal.TheVariants as refusal
use Rattle.iom_board.specs.declared.board.Board.{Board}
use Rattle.iom_device.specs.Caches.{IsAble}
use Rattle.iom_hardware_runner.specs.declared.helper.Traffic.{Traffic}
use Rattle.iom_hardware_session.specs.Admitted.{IsDeviceUnknown}

-- WHAT IS SO WHERE IT IS TAKEN: the device can make requests at these pages, with both ends
abbrev pub CanMakeRequests : Board → (device first last : ℕ) → Type 0
CanMakeRequests hardware device first last = IsAble sends_untranslated hardware.devices.items device × (first ≤ last) × (last < 2 ^ 52)

-- WHY IT ISN'T: what the refusal says is so
abbrev pub TrafficIsRefused : Refusal → Board → (device first last : ℕ) → Type 0
TrafficIsRefused refusal.NoSuchDevice hardware device first last = IsDeviceUnknown hardware device
TrafficIsRefused refusal.WrongKind hardware device first last = IsAble is_block_device hardware.devices.items device
TrafficIsRefused refusal.IovaOutOfRange hardware device first last = (last < first) ⊎ (2 ^ 52 ≤ last)
TrafficIsRefused why hardware device first last = ⊥

-- WHAT IS KEPT THEN: the device's pages, in place of its earlier ones, or behind those of all others; and of others what was kept before
abbrev pub with_traffic : Traffic → List Traffic → List Traffic
with_traffic row [] = row ∷ []
with_traffic row (known ∷ later) = if known.device == row.device then row ∷ later else (known ∷ with_traffic row later)
