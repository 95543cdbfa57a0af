-- That a world keeps its invariant is a fact: it has one proof at most.
-- For the facts that a world carries alone; no public contract cites these.
use Rattle.std.specs.Prelude.{ℕ, Bool, List, is_some}
use Rattle.std.proofs.Props.{props}
use Rattle.iom_driver.specs.declared.driver.Driver.{Driver}
use Rattle.iom_driver.specs.ReadyIsFact.{ready_prop}
use Rattle.iom_fabric.specs.declared.fabric.OnLink.{OnLink}
use Rattle.iom_iommu.specs.OwnIommu.{Iommu}
use Rattle.iom_device.specs.declared.device.Device.{Device}
use Rattle.iom_fabric.specs.declared.message.Message.{Message}
use Rattle.iom_fabric.specs.declared.message.Message.TheVariants as sent
use Rattle.iom_device.specs.Caches.{device_with}
use Rattle.iom_world_effects.specs.Invariant.{IsAsked, HasAsker, WorldInvariant}

asked_prop : (is_plugged : Bool) (message : Message) → IsProp (IsAsked is_plugged message)
asked_prop is_plugged (sent.Ask epoch page) = hlevel props
asked_prop is_plugged (sent.Answer epoch page translation) = hlevel props
asked_prop is_plugged (sent.InvReq serial range) = hlevel props
asked_prop is_plugged (sent.InvDone serial) = hlevel props

asker_prop : (devices : List Device) (on : OnLink) → IsProp (HasAsker devices on)
asker_prop devices on = asked_prop (is_some (device_with devices on.device)) on.message

pub world_invariant_prop : (memory : List (List ℕ)) (iommu : Iommu) (driver : Driver) (devices : List Device) (fabric : List OnLink) (events : ℕ)
    → IsProp (WorldInvariant memory iommu driver devices fabric events)
world_invariant_prop memory iommu driver devices fabric events = hlevel (props, ready_prop, asker_prop)
