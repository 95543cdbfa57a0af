-- Register by register.
use Rattle.std.proofs.lemmas.Bool.Decides.{Decides-at}
use Rattle.iom_registers.specs.contracts.registers.RegistersPartialEq.TheImpl as registers
use Rattle.iom_registers.proofs.SameRegisters.{file_decides}
use Rattle.iom_registers.proofs.registers.Registers.is_same.Goals as goal

pub returns : goal.returns
returns c = Decides-at c.eq.result (registers.ghosts.eq c.args.self.now c.args.other.now) c.eq.ensures (file_decides c.args.self.now c.args.other.now)
