-- What ties a driver to memory and to registers between its calls.
use Rattle.std.specs.Prelude.{◌≡◌, ℕ, ◌*◌, ⊤, true, List, All, length}
use Rattle.iom_base.specs.Sizes.{page_size}
use Rattle.iom_fault_queue.specs.declared.entry.Entry.{Entry}
use Rattle.iom_fault_queue.specs.declared.entry.Entry.TheVariants.{Record, Illegal, Outside}
use Rattle.iom_fault_queue.specs.Ring.{records_in}
use Rattle.iom_registers.specs.declared.registers.Registers.{Registers}
use Rattle.iom_registers.specs.Queues.{command_base, command_entries, is_command_queue_on, fault_base, fault_entries, is_fault_queue_on}
use Rattle.iom_driver.specs.Directory.{DirectoryStands, NamesDirectory}
use Rattle.iom_driver.specs.Layout.{command_frame, queue_entries, fault_frame, record_entries}
use Rattle.iom_driver.specs.State.{DriverState}
use Rattle.iom_driver.specs.Tables.{HaveTables}

-- memory has a frame for each of the owners; the tables of each attached, quarantined or leaving device stand in it, and once the driver was started its directory
pub record TablesStand (d : DriverState) (memory : List (List ℕ)) : Type 0 where
  pub size : length memory ≡ length d.owners
  pub tables : HaveTables memory d.owners d.ledger d.devices
  pub directory : d.started ≡ true → DirectoryStands memory d.owners d.devices d.levels

-- the command queue is on, and its ring fills the last frame of memory
pub record IsRing (frames : ℕ) (r : Registers) : Type 0 where
  pub on : is_command_queue_on r ≡ true
  pub base : command_base r ≡ page_size * command_frame frames
  pub entries : command_entries r ≡ queue_entries

-- what stands at a place of the fault queue is a record
abbrev pub IsReport : Entry → Type 0
IsReport (Record fields) = ⊤
IsReport Illegal = ⊥
IsReport Outside = ⊥

-- the fault queue is on, its ring fills the frame below the command queue's, and what waits in it are records
pub record IsFaultRing (memory : List (List ℕ)) (r : Registers) : Type 0 where
  pub on : is_fault_queue_on r ≡ true
  pub base : fault_base r ≡ page_size * fault_frame (length memory)
  pub entries : fault_entries r ≡ record_entries
  pub reports : All IsReport (records_in memory r)

-- the fault queue is where it was, as far, and on as it was
pub record KeepsFaults (old new : Registers) : Type 0 where
  pub on : is_fault_queue_on new ≡ is_fault_queue_on old
  pub base : new.fqb ≡ old.fqb
  pub head : new.fqh ≡ old.fqh
  pub tail : new.fqt ≡ old.fqt

-- the tables stand in memory, and once the driver was started the registers name its rings and its directory
pub record IsReady (d : DriverState) (memory : List (List ℕ)) (r : Registers) : Type 0 where
  pub stand : TablesStand d memory
  pub ring : d.started ≡ true → IsRing (length memory) r
  pub faults : d.started ≡ true → IsFaultRing memory r
  pub directory : d.started ≡ true → NamesDirectory (length memory) d.levels r
