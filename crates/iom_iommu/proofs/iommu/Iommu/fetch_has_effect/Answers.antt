-- A command that waits again changes nothing.
use Rattle.std.proofs.Common.{inl, ◌∙◌, Some, ap, sym}
use Rattle.iom_iommu.proofs.ForeseenLemmas.{leaves}
use Rattle.iom_iommu.proofs.iommu.Iommu.fetch_has_effect.Goals as goal

pub returns-in-Some-Command-clause-idle : goal.returns-in-Some-Command-clause-idle
returns-in-Some-Command-clause-idle g c = λ none answer memory new fetched.
    let unchanged = leaves c.args.memory.now memory c.args.self.now new answer c.in-Some-Command.command c.waits_again.result
    (sym c.is_processing_commands.ensures ∙ c.if-not-is_processing_commands.false)
    (sym c.next.ensures ∙ c.in-Some-Command.is ∙ ap Some c.in-Some-Command.field-0-is)
    c.waits_again.ensures none fetched
    in (unchanged.0, inl unchanged.1)
