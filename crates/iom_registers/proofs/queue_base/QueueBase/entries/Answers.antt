use Rattle.iom_registers.specs.Fields.{entry_count}
use Rattle.iom_registers.proofs.Sizes.{shifted, some, few}
use Rattle.iom_registers.proofs.queue_base.QueueBase.entries.Goals as goal

pub returns-clause-value : goal.returns-clause-value
unfolding entry_count
returns-clause-value c = shifted c.args.self.log2sz_less_1 c.args.self.sized

pub returns-clause-range : goal.returns-clause-range
returns-clause-range c =
    rw (shifted c.args.self.log2sz_less_1 c.args.self.sized)
    (some c.args.self.log2sz_less_1, few c.args.self.log2sz_less_1 c.args.self.sized)
