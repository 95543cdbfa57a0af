use Rattle.std.proofs.Common.{IfOk, subst}
use Rattle.iom_script.specs.Grammar.{IsScript}
use Rattle.iom_runner.proofs.TextLemmas.{few_lines}
use Rattle.iom_worked.proofs.told.told.Goals as goal

pub tell-requires-clause-few : goal.tell-requires-clause-few
tell-requires-clause-few c =
    few_lines c.args.script.now c.in-Ok.parsed (subst (λ read. IfOk read (IsScript c.args.script.now)) c.in-Ok.is c.parse.ensures.script)
