use Rattle.iom_coherence.proofs.LawLemmas.{translations_reachable, entries_reachable, answers_reachable}
use Rattle.iom_coherence.proofs.laws.reachable_law.Goals as goal

pub returns : goal.returns
returns c = record {
  translations = translations_reachable;
  entries = entries_reachable;
  answers = answers_reachable;
}
