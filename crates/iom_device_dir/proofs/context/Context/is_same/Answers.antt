-- Field by field.
use Rattle.std.proofs.lemmas.Bool.Decides.{Decides-at}
use Rattle.iom_device_dir.specs.contracts.context.ContextPartialEq.TheImpl as context
use Rattle.iom_device_dir.proofs.SameContexts.{context_decides}
use Rattle.iom_device_dir.proofs.context.Context.is_same.Goals as goal

pub returns : goal.returns
returns c = Decides-at c.eq.result (context.ghosts.eq c.args.self.now c.args.other.now) c.eq.ensures (context_decides c.args.self.now c.args.other.now)
