use Rattle.iom_stepped_refinement.proofs.FactsStay.{events_keep_facts, keep_laws}
use Rattle.iom_stepped_refinement.proofs.laws.facts_law.Goals as goal

pub returns : goal.returns
returns c = events_keep_facts (keep_laws c.begins_law.ensures c.loads_law.ensures c.fetches_law.ensures c.others_law.ensures)
