use Rattle.iom_svg.proofs.EscapeLemmas.{escaped_is_plain}
use Rattle.iom_svg.proofs.escapes.append_escaped.Goals as goal

pub returns-in_err-append_escape-clause-plain : goal.returns-in_err-append_escape-clause-plain
returns-in_err-append_escape-clause-plain c = escaped_is_plain c.args.text.now

pub returns-clause-plain : goal.returns-clause-plain
returns-clause-plain c = escaped_is_plain c.args.text.now
