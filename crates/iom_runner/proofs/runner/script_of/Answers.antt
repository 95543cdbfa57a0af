use Rattle.iom_runner.proofs.TextLemmas.{few_lines}
use Rattle.iom_runner.proofs.runner.script_of.Goals as goal

pub returns-clause-few : goal.returns-clause-few
returns-clause-few c = few_lines c.args.bytes.now c.in_ok-parse.field-0 c.in_ok-parse.ensures.script
