-- The table of the registers: what a read of each gives, and what a write of each leaves (IOMMU specification, chapter 5).
use Rattle.std.specs.Prelude.{ℕ, ◌%◌, Bool, false, not, ◌&&◌, if◌then◌else◌}
use Rattle.iom_registers.specs.Fields.{capabilities_value, fctl_value, pointer_to, ddtp_value, ddtp_written, base_value, base_at, cqcsr_value, cqcsr_bits, cqcsr_written, fqcsr_value, fqcsr_bits, fqcsr_written, ipsr_value, ipsr_bits, ipsr_written}
use Rattle.iom_registers.specs.Queues.{command_entries, command_head, command_tail, fault_entries, fault_head, fault_tail, with_interrupts}
use Rattle.iom_registers.specs.declared.directory.DirectoryMode.TheVariants.{Off}
use Rattle.iom_registers.specs.declared.register.Register.{Register}
use Rattle.iom_registers.specs.declared.register.Register.TheVariants.{Capabilities, Fctl, Ddtp, Cqb, Cqh, Cqt, Fqb, Fqh, Fqt, Cqcsr, Fqcsr, Ipsr}
use Rattle.iom_registers.specs.declared.status.CommandStatus.{CommandStatus}
use Rattle.iom_registers.specs.declared.status.FaultStatus.{FaultStatus}
use Rattle.iom_registers.specs.declared.registers.Registers.{Registers}

-- "Reset behavior": both queues are off, iommu_mode is Off, and nothing is pending
abbrev pub at_power_on : Registers
at_power_on = record {
  ddtp = pointer_to Off 0;
  cqb = base_at 0;
  cqh = 0;
  cqt = 0;
  cqcsr = record { cqen = false; cie = false; cqmf = false; cmd_to = false; cmd_ill = false; fence_w_ip = false };
  fqb = base_at 0;
  fqh = 0;
  fqt = 0;
  fqcsr = record { fqen = false; fie = false; fqmf = false; fqof = false };
  ipsr = record { cip = false; fip = false };
}

-- what a read gives
abbrev pub value_of : Registers → Register → ℕ
value_of r Capabilities = capabilities_value
value_of r Fctl = fctl_value
value_of r Ddtp = ddtp_value r.ddtp
value_of r Cqb = base_value r.cqb
value_of r Cqh = command_head r
value_of r Cqt = command_tail r
value_of r Fqb = base_value r.fqb
value_of r Fqh = fault_head r
value_of r Fqt = fault_tail r
value_of r Cqcsr = cqcsr_value r.cqcsr
value_of r Fqcsr = fqcsr_value r.fqcsr
value_of r Ipsr = ipsr_value r.ipsr

-- turning a queue on sets the index that the IOMMU moves to 0
abbrev pub index_at_switch : Bool → Bool → ℕ → ℕ
index_at_switch was_on is_on index = if not was_on && is_on then 0 else index

-- what a write of cqcsr leaves: turning cqen from 0 to 1 sets cqh to 0, and clears cqmf, cmd_to, cmd_ill and fence_w_ip
-- (`cqcsr_written` in Fields.antt)
abbrev pub with_cqcsr : Registers → CommandStatus → Registers
with_cqcsr r bits = record r { cqh = index_at_switch r.cqcsr.cqen bits.cqen r.cqh; cqcsr = cqcsr_written r.cqcsr bits }

-- the same of fqcsr: turning fqen from 0 to 1 sets fqt to 0, and clears fqmf and fqof (`fqcsr_written` there)
abbrev pub with_fqcsr : Registers → FaultStatus → Registers
with_fqcsr r bits = record r { fqt = index_at_switch r.fqcsr.fqen bits.fqen r.fqt; fqcsr = fqcsr_written r.fqcsr bits }

-- what a write leaves: `capabilities`, `fctl`, `cqh` and `fqt` aren't written, and a queue's base not while it is on; a bit of
-- `ipsr` that is cleared is 1 again at once while its interrupt is due
abbrev pub written : Registers → Register → ℕ → Registers
written r Capabilities value = r
written r Fctl value = r
written r Ddtp value = record r { ddtp = ddtp_written r.ddtp value }
written r Cqb value = if r.cqcsr.cqen then r else record r { cqb = base_at value }
written r Cqh value = r
written r Cqt value = record r { cqt = value % command_entries r }
written r Fqb value = if r.fqcsr.fqen then r else record r { fqb = base_at value }
written r Fqh value = record r { fqh = value % fault_entries r }
written r Fqt value = r
written r Cqcsr value = with_interrupts (with_cqcsr r (cqcsr_bits value))
written r Fqcsr value = with_interrupts (with_fqcsr r (fqcsr_bits value))
written r Ipsr value = with_interrupts (record r { ipsr = ipsr_written r.ipsr (ipsr_bits value) })
