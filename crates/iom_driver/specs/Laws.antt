-- What others may do to memory and registers while a driver stays ready.
use Rattle.std.specs.Prelude.{◌≡◌, ◌≢◌, ℕ, true, List, Some, length, slice_get}
use Rattle.iom_base.specs.declared.owner.Owner.{Owner}
use Rattle.iom_registers.specs.declared.registers.Registers.{Registers}
use Rattle.iom_registers.specs.Queues.{command_base, command_entries, directory_mode, directory_root, is_command_queue_on, is_fault_queue_on}
use Rattle.iom_fault_queue.specs.declared.ring.Put.{Put}
use Rattle.iom_fault_queue.specs.Calls.{PutsRecord}
use Rattle.iom_fault_queue.specs.Fields.{Fields}
use Rattle.iom_driver.specs.declared.driver.Driver.{Driver}
use Rattle.iom_driver.specs.Layout.{completion_frame, fault_frame}
use Rattle.iom_driver.specs.Ready.{TablesStand, IsReady}
use Rattle.iom_driver.specs.Standing.{LeavesStanding}
use Rattle.iom_driver.specs.StateOf.{state_of}
use Rattle.iom_driver.specs.State.{DriverState}

-- each reserved frame but that of the completion word has the bytes that it had
pub record KeepsReserved (d : DriverState) (old new : List (List ℕ)) : Type 0 where
  pub size : length new ≡ length old
  pub bytes : (frame : ℕ) (owner : Owner) → slice_get d.owners frame ≡ Some (Some owner) → frame ≢ completion_frame (length old) → slice_get new frame ≡ slice_get old frame

-- the queues and the directory are where they were, and the queues on as they were; head and tail of the command queue and whatever is wrong may be others
pub record KeepsRing (old new : Registers) : Type 0 where
  pub on : is_command_queue_on new ≡ is_command_queue_on old
  pub base : command_base new ≡ command_base old
  pub entries : command_entries new ≡ command_entries old
  pub faults_on : is_fault_queue_on new ≡ is_fault_queue_on old
  pub faults_base : new.fqb ≡ old.fqb
  pub faults_head : new.fqh ≡ old.fqh
  pub faults_tail : new.fqt ≡ old.fqt
  pub mode : directory_mode new ≡ directory_mode old
  pub root : directory_root new ≡ directory_root old

-- a driver stays ready while its reserved frames are kept, and its ring is
abbrev pub ReadyStays : Type 0
ReadyStays = (driver : Driver) (old new : List (List ℕ)) (r s : Registers)
    → IsReady (state_of driver) old r → KeepsReserved (state_of driver) old new → KeepsRing r s → IsReady (state_of driver) new s

-- the registers of the command queue and of the directory are as they were
pub record LeavesCommands (old new : Registers) : Type 0 where
  pub base : new.cqb ≡ old.cqb
  pub head : new.cqh ≡ old.cqh
  pub tail : new.cqt ≡ old.cqt
  pub status : new.cqcsr ≡ old.cqcsr
  pub directory : new.ddtp ≡ old.ddtp

-- what a fault record leaves: no frame changes but that of the fault queue, and no register but those of that queue and ipsr
pub record LeavesAllElse (old new : List (List ℕ)) (r s : Registers) : Type 0 where
  pub size : length new ≡ length old
  pub frames : (frame : ℕ) → frame ≢ fault_frame (length old) → slice_get new frame ≡ slice_get old frame
  pub registers : LeavesCommands r s

-- a driver that was started stays ready when the IOMMU reports a fault, which leaves all else
abbrev pub ReadyAfterRecord : Type 0
ReadyAfterRecord = (driver : Driver) (old new : List (List ℕ)) (r s : Registers) (fields : Fields) (answer : Put)
    → IsReady (state_of driver) old r → (state_of driver).started ≡ true → PutsRecord old r fields answer new s
    → IsReady (state_of driver) new s × LeavesAllElse old new r s

-- who keeps the reserved frames, but that of the completion word, leaves tables and pages where they are
abbrev pub OthersLeaveStanding : Type 0
OthersLeaveStanding = (driver : Driver) (old new : List (List ℕ)) → TablesStand (state_of driver) old → KeepsReserved (state_of driver) old new
    → LeavesStanding (state_of driver) old (state_of driver) new

-- and so does a fault record
abbrev pub RecordsLeaveStanding : Type 0
RecordsLeaveStanding = (driver : Driver) (old new : List (List ℕ)) (r s : Registers) → TablesStand (state_of driver) old → LeavesAllElse old new r s
    → LeavesStanding (state_of driver) old (state_of driver) new
