-- The words by which the layers above speak of the registers: where the queues are, how far they came, what is on, what is
-- wrong; and what the hardware's own changes leave (IOMMU specification, chapter 5, and chapter 3 "In-memory queue interface").
use Rattle.std.specs.Prelude.{ℕ, ◌+◌, ◌%◌, ◌==◌, Bool, true, not, ◌&&◌, ◌||◌, if◌then◌else◌}
use Rattle.iom_registers.specs.Fields.{entry_count, address, is_command_interrupt_due, is_fault_interrupt_due}
use Rattle.iom_registers.specs.declared.directory.DirectoryMode.{DirectoryMode}
use Rattle.iom_registers.specs.declared.status.CommandStatus.{CommandStatus}
use Rattle.iom_registers.specs.declared.status.FaultStatus.{FaultStatus}
use Rattle.iom_registers.specs.declared.status.PendingInterrupts.{PendingInterrupts}
use Rattle.iom_registers.specs.declared.registers.Registers.{Registers}

-- the index after this one in a queue of so many entries
abbrev pub next_index : ℕ → ℕ → ℕ
next_index size index = if index + 1 == size then 0 else index + 1

-- ipsr after a change: cip is 1 whenever the command queue's interrupt is due, fip whenever the fault queue's is, and what was
-- pending stays so
abbrev pub with_interrupts : Registers → Registers
with_interrupts r = record r {
  ipsr = record {
    cip = r.ipsr.cip || is_command_interrupt_due r.cqcsr;
    fip = r.ipsr.fip || is_fault_interrupt_due r.fqcsr;
  };
}

-- the command queue: the address of its first entry, how many entries it has, the index of the next command, and that after the
-- last; indices are taken modulo the size
abbrev pub command_base : Registers → ℕ
command_base r = address r.cqb

abbrev pub command_entries : Registers → ℕ
command_entries r = entry_count r.cqb

abbrev pub command_head : Registers → ℕ
command_head r = r.cqh % command_entries r

abbrev pub command_tail : Registers → ℕ
command_tail r = r.cqt % command_entries r

abbrev pub is_command_queue_on : Registers → Bool
is_command_queue_on r = r.cqcsr.cqen

-- one of cqmf, cmd_to and cmd_ill is 1, which stops command processing
abbrev pub is_command_queue_stopped : Registers → Bool
is_command_queue_stopped r = r.cqcsr.cqmf || r.cqcsr.cmd_to || r.cqcsr.cmd_ill

abbrev pub is_processing_commands : Registers → Bool
is_processing_commands r = is_command_queue_on r && not (is_command_queue_stopped r)

-- the command at the head is done
abbrev pub with_command_done : Registers → Registers
with_command_done r = record r { cqh = next_index (command_entries r) (command_head r) }

-- bits of cqcsr that the hardware sets, each with the interrupt that follows
abbrev pub with_command_status : Registers → CommandStatus → Registers
with_command_status r status = with_interrupts (record r { cqcsr = status })

abbrev pub with_cqmf : Registers → Registers
with_cqmf r = with_command_status r (record r.cqcsr { cqmf = true })

abbrev pub with_cmd_to : Registers → Registers
with_cmd_to r = with_command_status r (record r.cqcsr { cmd_to = true })

abbrev pub with_cmd_ill : Registers → Registers
with_cmd_ill r = with_command_status r (record r.cqcsr { cmd_ill = true })

abbrev pub with_fence_w_ip : Registers → Registers
with_fence_w_ip r = with_command_status r (record r.cqcsr { fence_w_ip = true })

-- the fault queue, in the same words
abbrev pub fault_base : Registers → ℕ
fault_base r = address r.fqb

abbrev pub fault_entries : Registers → ℕ
fault_entries r = entry_count r.fqb

abbrev pub fault_head : Registers → ℕ
fault_head r = r.fqh % fault_entries r

abbrev pub fault_tail : Registers → ℕ
fault_tail r = r.fqt % fault_entries r

abbrev pub is_fault_queue_on : Registers → Bool
is_fault_queue_on r = r.fqcsr.fqen

-- fqmf or fqof is 1: no record is written
abbrev pub is_fault_queue_marked : Registers → Bool
is_fault_queue_marked r = r.fqcsr.fqmf || r.fqcsr.fqof

-- a record was written at the tail, which sets fip where fie is 1
abbrev pub with_record_written : Registers → Registers
with_record_written r = record r {
  fqt = next_index (fault_entries r) (fault_tail r);
  ipsr = record r.ipsr { fip = r.ipsr.fip || r.fqcsr.fie };
}

-- bits of fqcsr that the hardware sets, each with the interrupt that follows
abbrev pub with_fault_status : Registers → FaultStatus → Registers
with_fault_status r status = with_interrupts (record r { fqcsr = status })

abbrev pub with_fqmf : Registers → Registers
with_fqmf r = with_fault_status r (record r.fqcsr { fqmf = true })

abbrev pub with_fqof : Registers → Registers
with_fqof r = with_fault_status r (record r.fqcsr { fqof = true })

-- the bits of cqcsr, fqcsr and ipsr by name
abbrev pub command_status : Registers → CommandStatus
command_status r = r.cqcsr

abbrev pub fault_status : Registers → FaultStatus
fault_status r = r.fqcsr

abbrev pub pending_interrupts : Registers → PendingInterrupts
pending_interrupts r = r.ipsr

-- how a transaction finds its context, and the page of the directory's root
abbrev pub directory_mode : Registers → DirectoryMode
directory_mode r = r.ddtp.mode

abbrev pub directory_root : Registers → ℕ
directory_root r = r.ddtp.ppn
