use Rattle.std.proofs.Common.{refl, rules}
use Rattle.iom_virtio_blk.proofs.StepLemmas.{told_by_step}
use Rattle.iom_virtio_blk.proofs.blk.Blk.step.Goals as goal

pub returns-then-is_serving-clause-history : goal.returns-then-is_serving-clause-history
returns-then-is_serving-clause-history g c = λ history agrees. told_by_step history _ _ _ agrees c.serve.result c.args.self.now.ready (search rules) refl c.serve.ensures.step
