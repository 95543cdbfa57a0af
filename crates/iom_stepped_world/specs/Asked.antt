-- By which event a device asks for an access.
use Rattle.std.specs.Prelude.{◌≡◌, ℕ, ⊤}
use Rattle.iom_base.specs.Accesses.{read_of, write_of}
use Rattle.iom_base.specs.declared.access.Access.{Access}
use Rattle.iom_machine.specs.declared.event.Event.{Event}
use Rattle.iom_machine.specs.declared.event.Event.TheVariants as events
use Rattle.iom_stepped_machine.specs.Walks.{Asking, Begins, Reads, Writes}

-- of its own, and not by a step
abbrev pub IsSent : Asking → Type 0
IsSent (Reads address len) = ⊤
IsSent (Writes address bytes) = ⊤
IsSent (Begins access) = ⊥

-- a raw device, which says that it is translated already
abbrev pub SaysTranslated : Event → ℕ → Access → Type 0
SaysTranslated (events.ReadTranslated device address len) id access = (device ≡ id) × (read_of address len ≡ access)
SaysTranslated (events.WriteTranslated device address bytes) id access = (device ≡ id) × (write_of address bytes ≡ access)
SaysTranslated event id access = ⊥

-- a device with a cache of its own, through that
abbrev pub AsksThroughCache : Event → ℕ → Access → Type 0
AsksThroughCache (events.ReadThroughCache device address len) id access = (device ≡ id) × (read_of address len ≡ access)
AsksThroughCache (events.WriteThroughCache device address bytes) id access = (device ≡ id) × (write_of address bytes ≡ access)
AsksThroughCache event id access = ⊥
