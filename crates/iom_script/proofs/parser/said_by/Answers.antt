use Rattle.std.proofs.Common.{subst}
use Rattle.iom_script.specs.Reading.{Reads}
use Rattle.iom_script.specs.Grammar.{IsEventLine}
use Rattle.iom_script.proofs.SayLemmas.{event_said}
use Rattle.iom_script.proofs.parser.said_by.Goals as goal

pub returns-in-Some : goal.returns-in-Some
returns-in-Some c = event_said c.args.line.now c.in-Some.event (subst (λ o. Reads o (IsEventLine c.args.line.now)) c.in-Some.is c.in_ok-event.ensures)
