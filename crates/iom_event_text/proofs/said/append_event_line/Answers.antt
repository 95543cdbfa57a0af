use Rattle.iom_event_text.proofs.EventLemmas.{is_event_line}
use Rattle.iom_event_text.proofs.said.append_event_line.Goals as goal

pub returns-clause-says : goal.returns-clause-says
returns-clause-says c = is_event_line c.args.event.now c.requires.sayable c.append_event.ensures.range
