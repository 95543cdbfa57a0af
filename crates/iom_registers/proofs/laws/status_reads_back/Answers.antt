use Rattle.iom_registers.proofs.StatusBits.{command, fault}
use Rattle.iom_registers.proofs.laws.status_reads_back.Goals as goal

pub returns-clause-cqcsr : goal.returns-clause-cqcsr
returns-clause-cqcsr c r = command r.cqcsr.cqen r.cqcsr.cie r.cqcsr.cqmf r.cqcsr.cmd_to r.cqcsr.cmd_ill r.cqcsr.fence_w_ip

pub returns-clause-fqcsr : goal.returns-clause-fqcsr
returns-clause-fqcsr c r = fault r.fqcsr.fqen r.fqcsr.fie r.fqcsr.fqmf r.fqcsr.fqof
