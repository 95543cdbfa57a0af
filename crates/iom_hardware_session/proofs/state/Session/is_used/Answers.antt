use Rattle.std.proofs.Common.{◌∙◌, inl, inr, sym}
use Rattle.iom_hardware_session.proofs.WayLemmas.{no_both}
use Rattle.iom_hardware_session.proofs.state.Session.is_used.Goals as goal

pub returns-then-is_read_by_hardware-clause-used : goal.returns-then-is_read_by_hardware-clause-used
returns-then-is_read_by_hardware-clause-used c = λ scene invents is.
    inl (rw c.from.ensures at (invents.read _ (sym c.is_read_by_hardware.ensures ∙ c.if-is_read_by_hardware.true)))

pub returns-clause-unused : goal.returns-clause-unused
returns-clause-unused c = λ scene surveys is. (
  (λ read. no_both _ (surveys.read c.args.frame read) (rw c.from.ensures at (sym c.is_read_by_hardware.ensures ∙ c.if-is_read_by_hardware.false))),
  (λ fault. no_both _ (surveys.stored c.args.frame (inl fault)) (rw c.from-2.ensures at (sym c.is_stored_by_iommu.ensures ∙ is))),
  (λ word. no_both _ (surveys.stored c.args.frame (inr word)) (rw c.from-2.ensures at (sym c.is_stored_by_iommu.ensures ∙ is))),
)

pub returns-clause-used : goal.returns-clause-used
returns-clause-used c = λ scene invents is. inr (rw c.from-2.ensures at (invents.stored _ (sym c.is_stored_by_iommu.ensures ∙ is)))
