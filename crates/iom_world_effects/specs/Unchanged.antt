-- What an event does to a world, and what comes of it.
use Rattle.std.specs.Prelude.{◌≡◌, ℕ, ⊤, true, List, length, Option}
use Rattle.iom_command_queue.specs.declared.entry.QueueEntry.{QueueEntry}
use Rattle.iom_command_queue.specs.Waiting.{commands_in}
use Rattle.iom_driver.specs.Layout.{completion_address}
use Rattle.iom_iommu.specs.Parts.{registers_of}
use Rattle.iom_ledger.specs.Changes.{IsUnchanged}
use Rattle.iom_base.specs.declared.refusal.Refusal.{Refusal}
use Rattle.iom_machine.specs.declared.event.Event.{Event}
use Rattle.iom_machine.specs.declared.event.Event.TheVariants as events
use Rattle.iom_machine.specs.declared.outcome.Outcome.{Outcome}
use Rattle.iom_machine.specs.declared.outcome.Outcome.TheVariants.{Refused, Fetched}
use Rattle.iom_machine.specs.declared.outcome.Fetched.TheVariants as tells
use Rattle.iom_phys_mem.specs.Words.{word_at}
use Rattle.iom_registers.specs.Queues.{command_status}
use Rattle.iom_world_effects.specs.Parts.{Parts}

-- all is the same but what room the driver's ledger has
pub record AreSame (old new : Parts) : Type 0 where
  pub memory : new.memory ≡ old.memory
  pub iommu : new.iommu ≡ old.iommu
  pub devices : new.devices ≡ old.devices
  pub fabric : new.fabric ≡ old.fabric
  pub ledger : IsUnchanged old.driver.ledger new.driver.ledger
  pub driver : new.driver ≡ record old.driver { ledger = new.driver.ledger }

-- a refusal changes nothing
abbrev pub SameIfRefused : Outcome → Parts → Parts → Type 0
SameIfRefused reply old new = (why : Refusal) → reply ≡ Refused why → AreSame old new

-- the event is answered by the world alone; a block device's step, and its status, are the device's own
abbrev pub IsNoChoice : Event → Type 0
IsNoChoice (events.Step device) = ⊥
IsNoChoice (events.Status device) = ⊥
IsNoChoice _ = ⊤

-- the commands that wait, read off memory and registers
abbrev pub waiting_in : Parts → List QueueEntry
waiting_in parts = commands_in parts.memory (registers_of parts.iommu)

-- a release, a detach, a quarantine, a restart and a fetch say what they do to the commands that wait, and nothing else changes them
abbrev pub KeepsCommands : Event → Parts → Parts → Type 0
KeepsCommands (events.Release device page) old new = ⊤
KeepsCommands (events.Detach device) old new = ⊤
KeepsCommands (events.Quarantine device) old new = ⊤
KeepsCommands events.Restart old new = ⊤
KeepsCommands events.Fetch old new = ⊤
KeepsCommands (events.Plug device what) old new = waiting_in new ≡ waiting_in old
KeepsCommands (events.Medium device disk) old new = waiting_in new ≡ waiting_in old
KeepsCommands (events.Attach device mode ats) old new = waiting_in new ≡ waiting_in old
KeepsCommands (events.Grant device page frame rights) old new = waiting_in new ≡ waiting_in old
KeepsCommands events.Poll old new = waiting_in new ≡ waiting_in old
KeepsCommands events.Faults old new = waiting_in new ≡ waiting_in old
KeepsCommands (events.Read device address len) old new = waiting_in new ≡ waiting_in old
KeepsCommands (events.Write device address bytes) old new = waiting_in new ≡ waiting_in old
KeepsCommands (events.Commit device) old new = waiting_in new ≡ waiting_in old
KeepsCommands (events.ReadTranslated id address len) old new = waiting_in new ≡ waiting_in old
KeepsCommands (events.WriteTranslated id address bytes) old new = waiting_in new ≡ waiting_in old
KeepsCommands (events.ReadThroughCache id address len) old new = waiting_in new ≡ waiting_in old
KeepsCommands (events.WriteThroughCache id address bytes) old new = waiting_in new ≡ waiting_in old
KeepsCommands (events.Ask id page) old new = waiting_in new ≡ waiting_in old
KeepsCommands (events.Forge id serial) old new = waiting_in new ≡ waiting_in old
KeepsCommands (events.Deliver place) old new = waiting_in new ≡ waiting_in old
KeepsCommands (events.Drop place) old new = waiting_in new ≡ waiting_in old
KeepsCommands (events.Repeat place) old new = waiting_in new ≡ waiting_in old
KeepsCommands (events.Revive id) old new = waiting_in new ≡ waiting_in old
KeepsCommands events.Timeout old new = waiting_in new ≡ waiting_in old
KeepsCommands (events.Reset id) old new = waiting_in new ≡ waiting_in old
KeepsCommands (events.Queue id size descriptors available used) old new = waiting_in new ≡ waiting_in old
KeepsCommands (events.Step id) old new = waiting_in new ≡ waiting_in old
KeepsCommands (events.Status id) old new = waiting_in new ≡ waiting_in old
KeepsCommands (events.Poke address bytes) old new = waiting_in new ≡ waiting_in old
KeepsCommands (events.Peek address len) old new = waiting_in new ≡ waiting_in old
KeepsCommands (events.Free frame) old new = waiting_in new ≡ waiting_in old

-- a fence was given up, and the driver didn't restart since (`cmd_to` of `cqcsr`)
abbrev pub HasTimedOut : Parts → Type 0
HasTimedOut parts = (command_status (registers_of parts.iommu)).cmd_to ≡ true

-- what stands in the completion word
abbrev pub completion_word : Parts → Option ℕ
completion_word parts = word_at 4 parts.memory (completion_address (length parts.memory))

-- it stays so, and the completion word too: so a poll confirms only tickets whose fence was done before
abbrev pub RemainsStopped : Parts → Parts → Type 0
RemainsStopped old new = HasTimedOut new × (completion_word new ≡ completion_word old)

-- a restart ends it, unless it is refused
abbrev pub MayGoOn : Outcome → Parts → Parts → Type 0
MayGoOn (Refused why) old new = RemainsStopped old new
MayGoOn _ old new = ⊤

-- After a fence was given up: each fetch is answered Stopped, and whatever happens but a restart leaves the completion word.
abbrev pub StaysStopped : Event → Outcome → Parts → Parts → Type 0
StaysStopped events.Restart reply old new = MayGoOn reply old new
StaysStopped events.Fetch reply old new = (reply ≡ Fetched tells.Stopped) × RemainsStopped old new
StaysStopped _ reply old new = RemainsStopped old new
