-- Which devices can do what, and how one that can't is refused.
-- For the calls inside this crate alone; no public contract cites these.
use Rattle.std.specs.Prelude.{◌≡◌, Bool, true, false, Option, Some, None}
use Rattle.iom_base.specs.DeviceKinds.{asks_questions, forges, is_any_kind, is_block_device}
use Rattle.iom_base.specs.declared.device_kind.DeviceKind.{DeviceKind}
use Rattle.iom_base.specs.declared.refusal.Refusal.{Refusal}
use Rattle.iom_base.specs.declared.refusal.Refusal.TheVariants.{NoSuchDevice, WrongKind}
use Rattle.iom_board.specs.declared.permits.Act.{Act}
use Rattle.iom_board.specs.declared.permits.Act.TheVariants as act
use Rattle.iom_board.specs.Senders.{untranslated_by, cached_by}

-- the kinds of devices that can do so
abbrev pub kinds_for : Act → DeviceKind → Bool
kinds_for (act.Request sender) = untranslated_by sender
kinds_for (act.ThroughCache sender) = cached_by sender
kinds_for act.Forge = forges
kinds_for act.Ask = asks_questions
kinds_for act.HoldDisk = is_block_device
kinds_for act.Any = is_any_kind

-- a device that isn't there is refused, and one of a kind that can't; no other is
abbrev pub IsPermitted : (DeviceKind → Bool) → Option DeviceKind → Option Refusal → Type 0
IsPermitted can None None = ⊥
IsPermitted can None (Some why) = why ≡ NoSuchDevice
IsPermitted can (Some kind) None = can kind ≡ true
IsPermitted can (Some kind) (Some why) = (can kind ≡ false) × (why ≡ WrongKind)
