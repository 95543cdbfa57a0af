use Rattle.iom_coherence.proofs.LawLemmas.{translations_held, entries_held, answers_held}
use Rattle.iom_coherence.proofs.laws.current_law.Goals as goal

pub returns : goal.returns
returns c = record {
  translations = translations_held;
  entries = entries_held;
  answers = answers_held;
}
