-- Pending interrupts (IOMMU specification, chapter 5, "Interrupt pending status register (ipsr)").
use Rattle.std.specs.Prelude.{◌≡◌, true}
use Rattle.iom_registers.specs.Fields.{is_command_interrupt_due, is_fault_interrupt_due}
use Rattle.iom_registers.specs.Queues.{command_status, fault_status, pending_interrupts}
use Rattle.iom_registers.specs.declared.registers.Registers.{Registers}

-- cip is 1 whenever cie is 1 and one of cqmf, cmd_to, cmd_ill and fence_w_ip is; fip whenever fie is 1 and one of fqmf and fqof is
pub record AreRaised (r : Registers) : Type 0 where
  pub command : is_command_interrupt_due (command_status r) ≡ true → (pending_interrupts r).cip ≡ true
  pub fault : is_fault_interrupt_due (fault_status r) ≡ true → (pending_interrupts r).fip ≡ true
