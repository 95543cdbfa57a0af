use Rattle.iom_coherence.proofs.LawLemmas.{contexts_are_not_over, translations_known, entries_known, answers_known, accesses_are_known}
use Rattle.iom_coherence.proofs.laws.forgotten_law.Goals as goal

pub returns : goal.returns
returns c = record {
  contexts = contexts_are_not_over;
  translations = translations_known;
  entries = entries_known;
  answers = answers_known;
  accesses = accesses_are_known;
}
