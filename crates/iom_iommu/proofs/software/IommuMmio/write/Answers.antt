-- What the fence at the head had counted is given up where the queue is off, and no request is open.
use Rattle.std.proofs.Common.{◌∙◌, sym}
use Rattle.iom_iommu.proofs.PartLemmas.{wrote_off, wrote_on}
use Rattle.iom_iommu.proofs.software.IommuMmio.write.Goals as goal

pub returns-then-not-is_command_queue_on-clause-left : goal.returns-then-not-is_command_queue_on-clause-left
returns-then-not-is_command_queue_on-clause-left g c =
    wrote_off c.args.self.now c.in_ok-register.register c.args.value _ c.set.new.self c.close_all.new.self _ _ (sym c.at.ensures ∙ c.in_ok-register.was) c.set.ensures
    (sym c.is_command_queue_on.ensures ∙ c.if-not-is_command_queue_on.true) c.close_all.ensures

pub returns-else-not-is_command_queue_on-clause-left : goal.returns-else-not-is_command_queue_on-clause-left
returns-else-not-is_command_queue_on-clause-left g c =
    wrote_on c.args.self.now c.in_ok-register.register c.args.value _ c.set.new.self _ _ (sym c.at.ensures ∙ c.in_ok-register.was) c.set.ensures
    (sym c.is_command_queue_on.ensures ∙ c.if-not-is_command_queue_on.false)
