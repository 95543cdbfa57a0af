-- Walks that are under way: of each device one request at most, which is answered at the load that ends its walk.
use Rattle.std.specs.Prelude.{ℕ, ◌==◌, Bool, true, false, List, Option, None, option_map, if◌then◌else◌}
use Rattle.iom_base.specs.declared.access.Access.{Access}
use Rattle.iom_base.specs.Accesses.{read_of, write_of}
use Rattle.iom_machine.specs.declared.event.Event.{Event}
use Rattle.iom_machine.specs.declared.event.Event.TheVariants as events
use Rattle.iom_machine.specs.declared.outcome.CommandName.{CommandName}
use Rattle.iom_machine.specs.declared.outcome.CommandName.TheVariants.{IotinvalVma, IotinvalGvma, IofenceC, IodirInvalDdt, AtsInval}

-- what a device asked for
pub data Asking : Type 0 where
  -- so many bytes at the address
  Reads : (address len : ℕ) → Asking
  -- that the bytes be written at the address
  Writes : (address : ℕ) (bytes : List ℕ) → Asking
  -- a block device's access, which a step of it began
  Begins : (access : Access) → Asking

-- the event by which the device asks for it
abbrev pub event_of : ℕ → Asking → Event
event_of id (Reads address len) = events.Read id address len
event_of id (Writes address bytes) = events.Write id address bytes
event_of id (Begins access) = events.Step id

abbrev pub access_of : Asking → Access
access_of (Reads address len) = read_of address len
access_of (Writes address bytes) = write_of address bytes
access_of (Begins access) = access

-- a request in walk, and how many loads its walk made since it began, or began anew
pub record Walk : Type 0 where
  pub asking : Asking
  pub loads : ℕ

-- of each device its request in walk, if it has one
abbrev pub Walks : Type 0
Walks = ℕ → Option Walk

abbrev pub no_walks : Walks
no_walks id = None

-- the same, but of this device
abbrev pub with_walk : Walks → ℕ → Option Walk → Walks
with_walk walks id now other = if other == id then now else walks other

-- A walk makes no more loads than this that don't end it: four levels in each stage are 24 loads, and three of the directory come before them. The last ends it.
abbrev pub most_loads : ℕ
most_loads = 26

-- a walk begins again
abbrev pub begun_anew : Walks → Walks
begun_anew walks id = option_map (λ (walk : Walk). record walk { loads = 0 }) (walks id)

-- every IOTINVAL and every IODIR has each walk begin anew, whatever it covers: no load from before it counts
abbrev pub begins_anew : CommandName → Bool
begins_anew IotinvalVma = true
begins_anew IotinvalGvma = true
begins_anew IofenceC = false
begins_anew IodirInvalDdt = true
begins_anew AtsInval = false
