-- What each call answers, what it leaves, and what stays: over the driver, memory, and whatever has registers. Attach, detach, quarantine, revive,
-- restart and poll have files of their own.
use Rattle.std.specs.Prelude.{◌≡◌, ◌≢◌, ℕ, ◌+◌, ◌-◌, ◌<◌, Bool, true, false, List, [], ◌∷◌, ◌++◌, length, map, Some, Result, Ok, Err, Option, slice_get, slice_set}
use Rattle.iom_base.specs.GrantRights.{rights_of}
use Rattle.iom_base.specs.Modes.{size_in}
use Rattle.iom_base.specs.declared.grant_rights.GrantRights.{GrantRights}
use Rattle.iom_base.specs.declared.owner.Owner.{Owner}
use Rattle.iom_base.specs.declared.owner.Owner.TheVariants.{OneDevice}
use Rattle.iom_command_queue.specs.declared.entry.QueueEntry.TheVariants as stands
use Rattle.iom_command_queue.specs.Waiting.{commands_in}
use Rattle.iom_fault_queue.specs.Ring.{records_in}
use Rattle.iom_ledger.specs.Changes.{IsUnchanged, ShowsGrant, ShowsRelease}
use Rattle.iom_ledger.specs.declared.entry.HistoryEntry.TheVariants as entry
use Rattle.iom_base.specs.declared.refusal.Refusal.{Refusal}
use Rattle.iom_base.specs.declared.refusal.Refusal.TheVariants.{NoFrames, Memory}
use Rattle.iom_ledger.specs.History.{History, confirms}
use Rattle.iom_base.specs.Refusals.{first_that_applies, NoneApplies, IsRefusedBy}
use Rattle.iom_page_table.specs.declared.leaf.PageLeaf.{PageLeaf}
use Rattle.iom_page_table.specs.FirstTables.{missing_for, mapped, unmapped}
use Rattle.iom_phys_mem.specs.Words.{with_word, zeroed}
use Rattle.iom_registers.specs.declared.mmio.Mmio.{Ghosts}
use Rattle.iom_registers.specs.declared.register.Register.TheVariants.{Ddtp, Cqb, Cqcsr, Fqb, Fqcsr}
use Rattle.iom_registers.specs.declared.registers.Registers.{Registers}
use Rattle.iom_registers.specs.Queues.{is_command_queue_on, is_fault_queue_on}
use Rattle.iom_table_frames.specs.Owners.{HasFree, opening_owners, has_owner}
use Rattle.iom_ledger.specs.Shown.{Agrees, IsFreeIn}
use Rattle.iom_driver.specs.declared.answers.Ticket.{Ticket}
use Rattle.iom_driver.specs.declared.device.Stages.{Stages}
use Rattle.iom_driver.specs.Appends.{release_commands, AppendsAll}
use Rattle.iom_driver.specs.Choices.{AreHighestFree, owned_by, cleared}
use Rattle.iom_driver.specs.Devices.{stages_of, detached}
use Rattle.iom_driver.specs.Fences.{last_fence}
use Rattle.iom_driver.specs.Layout.{command_frame, directory_frame, completion_address, ddtp_of, cqb_of, fqb_of}
use Rattle.iom_driver.specs.Reasons.{why_not_plug, why_not_grant, why_not_release}
use Rattle.iom_driver.specs.Standing.{LeavesStanding}
use Rattle.iom_driver.specs.State.{DriverState}

-- NEW: nothing is held or waits, the last four frames are the system's, there is no device, and it isn't started
pub record IsOpening (frames levels : ℕ) (d : DriverState) : Type 0 where
  pub ledger : Agrees d.ledger []
  pub rest : d ≡ record d { owners = opening_owners frames; devices = []; levels = levels; started = false; given = 0; confirmed = 0; restarts = 0; restarted = 0 }

-- both queues are off, and the indices that software writes are 0: at power-on it is so
pub record IsOff (r : Registers) : Type 0 where
  pub off : is_command_queue_on r ≡ false
  pub tail : r.cqt ≡ 0
  pub faults_off : is_fault_queue_on r ≡ false
  pub head : r.fqh ≡ 0

-- whatever has registers, once it is told where the queues are, and they are turned on
abbrev pub turned_on : {M : Type 0} → Ghosts M → ℕ → M → M
turned_on g frames io = g.after (g.after (g.after (g.after io Cqb (cqb_of frames)) Cqcsr 1) Fqb (fqb_of frames)) Fqcsr 1

-- START: the completion word and the root of the directory are zero; ddtp, cqb, cqcsr, fqb and fqcsr are written, in this order; no command waits, and no
-- fault record
pub record Starts {M : Type 0} (g : Ghosts M) (d : DriverState) (memory : List (List ℕ)) (io : M) (d' : DriverState) (memory' : List (List ℕ)) (io' : M) : Type 0 where
  pub driver : d' ≡ record d { started = true }
  pub bytes : memory' ≡ slice_set (with_word 4 memory (completion_address (length memory)) 0) (directory_frame (length memory)) zeroed
  pub registers : io' ≡ turned_on g (length memory) (g.after io Ddtp (ddtp_of (length memory) d.levels))
  pub empty : commands_in memory' (g.registers io') ≡ []
  pub unreported : records_in memory' (g.registers io') ≡ []

-- START FROM a fence's number: a driver starts of which all numbers below that one are used up, by nobody's ticket
abbrev pub StartsFrom : {M : Type 0} → Ghosts M → ℕ → DriverState → List (List ℕ) → M → DriverState → List (List ℕ) → M → Type 0
StartsFrom g first_fence d memory io d' memory' io' = Starts g (record d { restarts = first_fence - 1 }) memory io d' memory' io'

-- PLUG: one more device, trusted or not, and attached to nothing; or a refusal, which changes nothing
abbrev pub AnswersPlug : DriverState → ℕ → Bool → Result (Unit {0}) Refusal → DriverState → Type 0
AnswersPlug d id trusted (Ok done) d' = NoneApplies (why_not_plug d id) × (d' ≡ record d { devices = d.devices ++ detached id trusted ∷ [] })
AnswersPlug d id trusted (Err why) d' = IsRefusedBy (why_not_plug d id) (λ may. may ≡ Memory) why × (d' ≡ d)

-- nothing changes but what room the ledger has: it shows the same, and agrees with the same histories
pub record IsSame (d d' : DriverState) : Type 0 where
  pub ledger : IsUnchanged d.ledger d'.ledger
  pub agrees : (h : History) → Agrees d.ledger h → Agrees d'.ledger h
  pub rest : d' ≡ record d { ledger = d'.ledger }

-- the leaf for a frame that is granted with this right
abbrev pub granted_leaf : ℕ → GrantRights → PageLeaf
granted_leaf frame rights = record { frame = frame; rights = rights_of rights }

-- each frame that isn't the device's has the bytes that it had
abbrev pub KeepsOtherFrames : List (Option Owner) → ℕ → List (List ℕ) → List (List ℕ) → Type 0
KeepsOtherFrames owners id memory memory' = (f : ℕ) → slice_get owners f ≢ Some (Some (OneDevice id)) → slice_get memory' f ≡ slice_get memory f

-- The tables that the page lacks take the highest free frames, the granted one passed over, and they are the device's; memory is what it was, but that
-- these frames are zero, and then hang on the page's path, from the root down, with the page's leaf: no frame but the device's changes. The ledger has
-- the grant.
pub record TakesTables (d : DriverState) (memory : List (List ℕ)) (id page frame : ℕ) (rights : GrantRights) (d' : DriverState) (memory' : List (List ℕ)) : Type 0 where
  pub stage : Stages
  pub attached : stages_of d.devices id ≡ Some stage
  pub tables : List ℕ
  pub chosen : AreHighestFree d.owners d.ledger (Some frame) (length memory) (missing_for (size_in stage.mode) memory stage.root page) tables
  pub shown : ShowsGrant d.ledger d'.ledger id page (frame, rights_of rights)
  pub agrees : (h : History) → Agrees d.ledger h → Agrees d'.ledger (entry.Granted id page frame (rights_of rights) ∷ h)
  pub driver : d' ≡ record d { ledger = d'.ledger; owners = owned_by (OneDevice id) tables d.owners }
  pub bytes : memory' ≡ mapped (size_in stage.mode) (cleared tables memory) stage.root page (granted_leaf frame rights) tables
  pub others : KeepsOtherFrames d'.owners id memory memory'
  pub standing : LeavesStanding d memory d' memory'

-- the frames that are free besides the granted one are enough for the tables that the page lacks
pub record HasFrames (d : DriverState) (memory : List (List ℕ)) (id page frame : ℕ) : Type 0 where
  pub stage : Stages
  pub attached : stages_of d.devices id ≡ Some stage
  pub enough : HasFree d.owners d.ledger (Some frame) (missing_for (size_in stage.mode) memory stage.root page) (length memory)

-- a grant finds too few free frames, or else no memory for its row
abbrev pub LacksTables : DriverState → List (List ℕ) → ℕ → ℕ → ℕ → Refusal → Type 0
LacksTables d memory id page frame NoFrames = ¬ HasFrames d memory id page frame
LacksTables d memory id page frame Memory = HasFrames d memory id page frame
LacksTables d memory id page frame _ = ⊥

-- GRANT
abbrev pub AnswersGrant : DriverState → List (List ℕ) → ℕ → ℕ → ℕ → GrantRights → Result (Unit {0}) Refusal → DriverState → List (List ℕ) → Type 0
AnswersGrant d memory id page frame rights (Ok done) d' memory' = NoneApplies (why_not_grant d id page frame) × TakesTables d memory id page frame rights d' memory'
AnswersGrant d memory id page frame rights (Err why) d' memory' =
    IsRefusedBy (why_not_grant d id page frame) (LacksTables d memory id page frame) why × IsSame d d' × (memory' ≡ memory)

-- The next ticket is given; the page's leaf is cleared; the commands of the release are appended: no frame but the device's and the ring's changes. The
-- ledger has the release.
pub record QueuesRelease {M : Type 0} (g : Ghosts M) (d : DriverState) (memory : List (List ℕ)) (io : M) (id page ticket : ℕ) (d' : DriverState) (memory' : List (List ℕ)) (io' : M) : Type 0 where
  pub stage : Stages
  pub attached : stages_of d.devices id ≡ Some stage
  pub next : ticket ≡ d.given + 1
  pub shown : ShowsRelease d.ledger d'.ledger id page ticket
  pub agrees : (h : History) → Agrees d.ledger h → confirms h ticket ≡ false → Agrees d'.ledger (entry.Released id page ticket ∷ h)
  pub driver : d' ≡ record d { ledger = d'.ledger; given = ticket }
  pub queued : AppendsAll g (unmapped (size_in stage.mode) memory stage.root page) io (release_commands id stage page (completion_address (length memory)) (last_fence d + 1)) memory' io'
  pub list : commands_in memory' (g.registers io') ≡ commands_in memory (g.registers io)
      ++ map stands.Command (release_commands id stage page (completion_address (length memory)) (last_fence d + 1))
  pub others : (f : ℕ) → slice_get d.owners f ≢ Some (Some (OneDevice id)) → f ≢ command_frame (length memory) → slice_get memory' f ≡ slice_get memory f
  pub standing : LeavesStanding d memory d' memory'

-- RELEASE
abbrev pub AnswersRelease : {M : Type 0} → Ghosts M → DriverState → List (List ℕ) → M → ℕ → ℕ → Result Ticket Refusal → DriverState → List (List ℕ) → M → Type 0
AnswersRelease g d memory io id page (Ok ticket) d' memory' io' =
    NoneApplies (why_not_release d (g.registers io) id page) × QueuesRelease g d memory io id page ticket.0 d' memory' io'
AnswersRelease g d memory io id page (Err why) d' memory' io' =
    (first_that_applies (why_not_release d (g.registers io) id page) ≡ Some why) × (d' ≡ d) × (memory' ≡ memory) × (io' ≡ io)

-- FREE: the frame is one of memory, isn't reserved, and no device holds or lingers on it
pub record IsFreeFrame (d : DriverState) (frame : ℕ) : Type 0 where
  pub inside : frame < length d.owners
  pub unreserved : has_owner d.owners frame ≡ false
  pub ungranted : IsFreeIn d.ledger frame
