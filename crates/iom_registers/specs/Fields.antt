-- What the registers hold, field by field, and the numbers of their bits (IOMMU specification, chapter 5).
use Rattle.std.specs.Prelude.{ℕ, ◌+◌, ◌*◌, ◌/◌, ◌^◌, ◌==◌, Bool, true, false, not, ◌&&◌, ◌||◌, Option, Some, None, if◌then◌else◌}
use Rattle.std.proofs.Common.{lit<}
use Rattle.std.proofs.Math.Nat.{mod-lt}
use Rattle.iom_registers.specs.Bits.{bits, has_bit, bit}
use Rattle.iom_registers.specs.declared.directory.DirectoryMode.{DirectoryMode}
use Rattle.iom_registers.specs.declared.directory.DirectoryMode.TheVariants.{Off, Bare, OneLevel, TwoLevels, ThreeLevels}
use Rattle.iom_registers.specs.declared.directory.DirectoryPointer.{DirectoryPointer}
use Rattle.iom_registers.specs.declared.queue_base.QueueBase.{QueueBase}
use Rattle.iom_registers.specs.declared.status.CommandStatus.{CommandStatus}
use Rattle.iom_registers.specs.declared.status.FaultStatus.{FaultStatus}
use Rattle.iom_registers.specs.declared.status.PendingInterrupts.{PendingInterrupts}

-- "IOMMU capabilities (capabilities)": version 7:0 is 1.0, Sv39 9, Sv48 10, Sv39x4 17, Sv48x4 18, ATS 25; IGS 29:28 is 1, interrupts by wire alone; PAS
-- 37:32 is 32 bits of physical address
abbrev pub capabilities_value : ℕ
capabilities_value = 16 + bit 9 true + bit 10 true + bit 17 true + bit 18 true + bit 25 true + 1 * 2 ^ 28 + 32 * 2 ^ 32

-- "Features-control register (fctl)": WSI 1, interrupts by wire
abbrev pub fctl_value : ℕ
fctl_value = bit 1 true

-- "Device-directory-table pointer (ddtp)": the numbers of iommu_mode
abbrev pub mode_code : DirectoryMode → ℕ
mode_code Off = 0
mode_code Bare = 1
mode_code OneLevel = 2
mode_code TwoLevels = 3
mode_code ThreeLevels = 4

abbrev pub mode_with_code : ℕ → Option DirectoryMode
mode_with_code code =
    if code == 0 then Some Off
    else if code == 1 then Some Bare
    else if code == 2 then Some OneLevel
    else if code == 3 then Some TwoLevels
    else if code == 4 then Some ThreeLevels
    else None

-- iommu_mode 3:0, PPN 53:10; busy 4 reads 0
abbrev pub ddtp_value : DirectoryPointer → ℕ
ddtp_value pointer = mode_code pointer.mode + pointer.ppn * 2 ^ 10

abbrev pub pointer_to : DirectoryMode → ℕ → DirectoryPointer
pointer_to mode value = record { mode = mode; ppn = bits 53 10 value; in_range = mod-lt (value / 2 ^ 10) (lit< tt) }

-- a write of a mode that doesn't exist is ignored
abbrev pub with_mode : DirectoryPointer → Option DirectoryMode → ℕ → DirectoryPointer
with_mode old None value = old
with_mode old (Some mode) value = pointer_to mode value

abbrev pub ddtp_written : DirectoryPointer → ℕ → DirectoryPointer
ddtp_written old value = with_mode old (mode_with_code (bits 3 0 value)) value

-- "Command-queue base (cqb)" and "Fault queue base (fqb)": LOG2SZ-1 4:0, PPN 53:10
abbrev pub base_value : QueueBase → ℕ
base_value base = base.log2sz_less_1 + base.ppn * 2 ^ 10

abbrev pub base_at : ℕ → QueueBase
base_at value = record {
  log2sz_less_1 = bits 4 0 value;
  ppn = bits 53 10 value;
  sized = mod-lt (value / 2 ^ 0) (lit< tt);
  in_range = mod-lt (value / 2 ^ 10) (lit< tt);
}

-- how many entries the queue has
unfoldable pub entry_count : QueueBase → ℕ
entry_count base = 2 ^ (base.log2sz_less_1 + 1)

-- the address of its first entry: pages have 4,096 bytes
abbrev pub address : QueueBase → ℕ
address base = base.ppn * 4096

-- "Command-queue CSR (cqcsr)": cqen 0, cie 1, cqmf 8, cmd_to 9, cmd_ill 10, fence_w_ip 11; cqon 16 is cqen, busy 17 reads 0
abbrev pub cqcsr_value : CommandStatus → ℕ
cqcsr_value status =
    bit 0 status.cqen + bit 1 status.cie
    + bit 8 status.cqmf + bit 9 status.cmd_to + bit 10 status.cmd_ill + bit 11 status.fence_w_ip
    + bit 16 status.cqen

-- the bits that a value names
abbrev pub cqcsr_bits : ℕ → CommandStatus
cqcsr_bits value = record {
  cqen = has_bit 0 value;
  cie = has_bit 1 value;
  cqmf = has_bit 8 value;
  cmd_to = has_bit 9 value;
  cmd_ill = has_bit 10 value;
  fence_w_ip = has_bit 11 value;
}

-- cqen and cie are written; of the others a 1 clears, and all are cleared where cqen turns from 0 to 1
abbrev pub cqcsr_written : CommandStatus → CommandStatus → CommandStatus
cqcsr_written old bits =
    if not old.cqen && bits.cqen
    then record { cqen = true; cie = bits.cie; cqmf = false; cmd_to = false; cmd_ill = false; fence_w_ip = false }
    else record {
      cqen = bits.cqen;
      cie = bits.cie;
      cqmf = old.cqmf && not bits.cqmf;
      cmd_to = old.cmd_to && not bits.cmd_to;
      cmd_ill = old.cmd_ill && not bits.cmd_ill;
      fence_w_ip = old.fence_w_ip && not bits.fence_w_ip;
    }

-- "Fault queue CSR (fqcsr)": fqen 0, fie 1, fqmf 8, fqof 9; fqon 16 is fqen, busy 17 reads 0
abbrev pub fqcsr_value : FaultStatus → ℕ
fqcsr_value status = bit 0 status.fqen + bit 1 status.fie + bit 8 status.fqmf + bit 9 status.fqof + bit 16 status.fqen

-- the bits that a value names
abbrev pub fqcsr_bits : ℕ → FaultStatus
fqcsr_bits value = record { fqen = has_bit 0 value; fie = has_bit 1 value; fqmf = has_bit 8 value; fqof = has_bit 9 value }

-- fqen and fie are written; of the others a 1 clears, and both are cleared where fqen turns from 0 to 1
abbrev pub fqcsr_written : FaultStatus → FaultStatus → FaultStatus
fqcsr_written old bits =
    if not old.fqen && bits.fqen
    then record { fqen = true; fie = bits.fie; fqmf = false; fqof = false }
    else record {
      fqen = bits.fqen;
      fie = bits.fie;
      fqmf = old.fqmf && not bits.fqmf;
      fqof = old.fqof && not bits.fqof;
    }

-- "Interrupt pending status register (ipsr)": cip 0, fip 1
abbrev pub ipsr_value : PendingInterrupts → ℕ
ipsr_value pending = bit 0 pending.cip + bit 1 pending.fip

-- the bits that a value names
abbrev pub ipsr_bits : ℕ → PendingInterrupts
ipsr_bits value = record { cip = has_bit 0 value; fip = has_bit 1 value }

-- a 1 clears
abbrev pub ipsr_written : PendingInterrupts → PendingInterrupts → PendingInterrupts
ipsr_written old bits = record { cip = old.cip && not bits.cip; fip = old.fip && not bits.fip }

-- whether the command queue's interrupt is due: cie is 1, and one of the four bits
abbrev pub is_command_interrupt_due : CommandStatus → Bool
is_command_interrupt_due status = status.cie && (status.cqmf || status.cmd_to || status.cmd_ill || status.fence_w_ip)

-- whether the fault queue's interrupt is due: fie is 1, and fqmf or fqof
abbrev pub is_fault_interrupt_due : FaultStatus → Bool
is_fault_interrupt_due status = status.fie && (status.fqmf || status.fqof)
