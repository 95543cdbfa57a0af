use Rattle.std.proofs.Common.{◌==◌, not, rules}
use Rattle.std.proofs.lemmas.Fn.{filter_same}
use Rattle.iom_block_devices.specs.declared.block.DiskAtHand.{DiskAtHand}
use Rattle.iom_block_devices.proofs.at_hand.leave_out.Goals as goal

pub returns : goal.returns
returns g c = filter_same _ (λ (it : DiskAtHand _). not (it.number == c.args.number)) _ (λ x b f called. search rules) _ _ c.retain.ensures.filtered
