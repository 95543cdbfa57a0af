-- What the driver takes of the fault queue (IOMMU specification, section 3.2, "Fault/Event-Queue (FQ)").
use Rattle.std.specs.Prelude.{◌≡◌, ℕ, List, [], ◌∷◌, Option, None, Some, Result, Ok, Err}
use Rattle.iom_fault_queue.specs.declared.entry.Entry.TheVariants as entry
use Rattle.iom_fault_queue.specs.Calls.{TakesEntry}
use Rattle.iom_fault_queue.specs.Fields.{Fields}
use Rattle.iom_fault_queue.specs.Ring.{records_in}
use Rattle.iom_base.specs.declared.refusal.Refusal.{Refusal}
use Rattle.iom_base.specs.Refusals.{first_that_applies, NoneApplies}
use Rattle.iom_registers.specs.declared.mmio.Mmio.{Ghosts}
use Rattle.iom_registers.specs.declared.register.Register.TheVariants.{Fqcsr}
use Rattle.iom_driver.specs.Reasons.{why_not_poll}
use Rattle.iom_driver.specs.State.{DriverState}

-- what is written to fqcsr so that records are written again after some were lost: fqen stays 1, and 1 clears fqmf and fqof
abbrev pub cleared_flags : ℕ
cleared_flags = 0x301

-- the oldest record is taken, and the head moves on; where there is none, fqmf and fqof are cleared
abbrev pub TakesOldestRecord : {M : Type 0} → Ghosts M → List (List ℕ) → M → Option Fields → M → Type 0
TakesOldestRecord g memory io (Some fields) io' =
    TakesEntry g.registers g.after memory io (Some (entry.Record fields)) io'
    × (records_in memory (g.registers io) ≡ entry.Record fields ∷ records_in memory (g.registers io'))
TakesOldestRecord g memory io None io' = (records_in memory (g.registers io) ≡ []) × (io' ≡ g.after io Fqcsr cleared_flags)

-- FAULTS, which leaves the driver and memory
abbrev pub AnswersFaults : {M : Type 0} → Ghosts M → DriverState → List (List ℕ) → M → Result (Option Fields) Refusal → M → Type 0
AnswersFaults g d memory io (Ok found) io' = NoneApplies (why_not_poll d) × TakesOldestRecord g memory io found io'
AnswersFaults g d memory io (Err why) io' = (first_that_applies (why_not_poll d) ≡ Some why) × (io' ≡ io)
