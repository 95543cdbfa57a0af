-- A fence waits, and a request is open: the fence is given up.
use Rattle.std.proofs.lemmas.Bool.{false≢true}
use Rattle.iom_iommu.proofs.PartLemmas.{can_give_up, gave_up}
use Rattle.iom_iommu.proofs.iommu.Iommu.timeout.Goals as goal

pub returns : goal.returns
returns g c = (
  can_give_up c.args.self.now c.if-not-self.false (λ none. false≢true (c.if-is_empty.ensures.1 none)),
  gave_up c.args.self.now c.set_cmd_to.new.self c.close_all.new.self _ _ c.set_cmd_to.ensures c.close_all.ensures,
)
