-- What a line of devices, hardware or software does to hardware of either pace.
use Rattle.std.specs.Prelude.{◌≡◌, ℕ, true, false, List, [], Option, Some, None, Ok, Err}
use Rattle.iom_base.specs.declared.device_kind.DeviceKind.{DeviceKind}
use Rattle.iom_base.specs.declared.refusal.Refusal.TheVariants.{NoSuchDevice}
use Rattle.iom_device.specs.Caches.{kind_in}
use Rattle.iom_hardware_script.specs.Grammar.{is_of_hardware, IsOfHardware}
use Rattle.iom_hardware_script.specs.declared.script.Pace.{Pace}
use Rattle.iom_hardware_script.specs.declared.script.Pace.TheVariants.{Whole, Stepped, Pointed, Napot, PointedNapot}
use Rattle.iom_iommu.specs.declared.begun.Load.TheVariants as load
use Rattle.iom_machine.specs.declared.event.Event.{Event}
use Rattle.iom_hardware_session.specs.Events.{EventEffect, IsForeign, Unchanged}
use Rattle.iom_hardware_session.specs.EventsBeside.{EffectBeside, LoadsBeside}
use Rattle.iom_hardware_session.specs.EventsPointed.{EffectPointed}
use Rattle.iom_hardware_session.specs.Shown.{ShownHardware}
use Rattle.iom_hardware_session.specs.declared.answer.Answer.{Answer}
use Rattle.iom_hardware_session.specs.declared.beside.Beside.{Beside}
use Rattle.iom_hardware_session.specs.declared.beside.Beside.TheVariants.{Nothing, UnderWay, Pointers}
use Rattle.iom_hardware_session.specs.declared.answer.Answer.TheVariants as answered
use Rattle.iom_pointers.specs.declared.features.Features.{Features}
use Rattle.iom_pointers.specs.declared.pointer.Pointer.{Pointer}
use Rattle.iom_walks.specs.Walks.{WalkRow}

-- nothing is under way at power-on, where a walk takes several events; and no pointer is cached
abbrev pub beside_at_power_on : Pace → Beside
beside_at_power_on Whole = Nothing
beside_at_power_on Stepped = UnderWay []
beside_at_power_on Pointed = Pointers (record { nonleaf = true; napot = false }) []
beside_at_power_on Napot = Pointers (record { nonleaf = false; napot = true }) []
beside_at_power_on PointedNapot = Pointers (record { nonleaf = true; napot = true }) []

-- something leaves hardware with these under way, and this is so of them
abbrev pub LeavesUnderWay : (List WalkRow → Type 0) → ShownHardware → Type 0
LeavesUnderWay Are new = (rows : List WalkRow) × (new.beside ≡ UnderWay rows) × Are rows

-- something leaves hardware with these pointers, and this is so of them
abbrev pub LeavesPointers : Features → (List Pointer → Type 0) → ShownHardware → Type 0
LeavesPointers features Are new = (pointers : List Pointer) × (new.beside ≡ Pointers features pointers) × Are pointers

-- WHAT AN EVENT OF HARDWARE DOES, by what there is beside it before
abbrev pub EventBy : Beside → Event → Answer → ShownHardware → ShownHardware → Type 0
EventBy Nothing event answer old new = EventEffect event answer old new × (new.beside ≡ Nothing)
EventBy (UnderWay rows) event answer old new = LeavesUnderWay (λ new_rows. EffectBeside event answer old rows new new_rows) new
EventBy (Pointers features pointers) event answer old new = LeavesPointers features (λ new_pointers. EffectPointed features event answer old pointers new new_pointers) new

-- so of any event
abbrev pub EventOrNone : Event → Answer → ShownHardware → ShownHardware → Type 0
EventOrNone event answer old new =
    (IsOfHardware event → EventBy old.beside event answer old new) × (is_of_hardware event ≡ false → IsForeign answer old new)

-- where a walk is one event, no request of a device is under way
abbrev pub nothing_of : Option DeviceKind → Answer
nothing_of None = answered.WalkLoad (Err NoSuchDevice)
nothing_of (Some kind) = answered.WalkLoad (Ok load.Nothing)

-- WHAT THE NEXT LOAD of a device's walk does
abbrev pub LoadsBy : Beside → ℕ → Answer → ShownHardware → ShownHardware → Type 0
LoadsBy Nothing device answer old new = (answer ≡ nothing_of (kind_in old.board.devices.items device)) × Unchanged old new
LoadsBy (UnderWay rows) device answer old new = LeavesUnderWay (λ new_rows. LoadsBeside device answer old rows new new_rows) new
LoadsBy (Pointers features pointers) device answer old new = (answer ≡ nothing_of (kind_in old.board.devices.items device)) × Unchanged old new
