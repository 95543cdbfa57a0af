use Rattle.std.proofs.Common.{IfOk, subst}
use Rattle.iom_script.specs.Grammar.{IsScript}
use Rattle.iom_runner.proofs.TextLemmas.{few_lines}
use Rattle.iommu_tell.proofs.tell_bytes.Goals as goal

pub tell_script-requires-clause-few : goal.tell_script-requires-clause-few
tell_script-requires-clause-few c =
    few_lines c.args.bytes.now c.in-Ok.script (subst (λ read. IfOk read (IsScript c.args.bytes.now)) c.in-Ok.is c.parse.ensures.script)
