-- What stands at the head stops the processing, or it is a command.
use Rattle.std.proofs.Common.{◌∙◌, refl, ap, Some, true}
use Rattle.iom_registers.specs.Queues.{with_cqmf, with_cmd_ill}
use Rattle.iom_command_queue.specs.declared.entry.QueueEntry.TheVariants as stands
use Rattle.iom_iommu.specs.Fetches.{without_fence}
use Rattle.iom_iommu.proofs.FenceLemmas.{exchanged, fetched_from}
use Rattle.iom_iommu.proofs.iommu.Iommu.fetch_next.Goals as goal

pub returns-in-Outside : goal.returns-in-Outside
returns-in-Outside g c =
    fetched_from c.args.self.now c.args.memory.now c.args.memory.now _ _ true (Some stands.Outside)
    c.requires.waits.processing (c.first.ensures ∙ ap Some c.in-Outside.is)
    (refl, refl, exchanged c.args.self.now with_cqmf (without_fence c.args.self.now) c.forget_fence.new.self c.forget_fence.ensures _ _ _ c.set_cqmf.ensures)

pub returns-in-Illegal : goal.returns-in-Illegal
returns-in-Illegal g c =
    fetched_from c.args.self.now c.args.memory.now c.args.memory.now _ _ true (Some (stands.Illegal c.in-Illegal.field-0))
    c.requires.waits.processing (c.first.ensures ∙ ap Some c.in-Illegal.is)
    (refl, refl, exchanged c.args.self.now with_cmd_ill (without_fence c.args.self.now) c.forget_fence-in-Illegal.new.self c.forget_fence-in-Illegal.ensures _ _ _ c.set_cmd_ill.ensures)
