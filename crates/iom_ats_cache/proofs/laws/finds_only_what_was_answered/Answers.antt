use Rattle.iom_ats_cache.specs.Laws.{WasAnswered}
use Rattle.iom_ats_cache.proofs.FindLemmas.{found_is}
use Rattle.iom_ats_cache.proofs.LawLemmas.{after_calls}
use Rattle.iom_ats_cache.proofs.laws.finds_only_what_was_answered.Goals as goal

pub returns : goal.returns
returns c calls cache run page kind frame found = found_is (λ entry. WasAnswered entry calls) page kind frame cache.entries (after_calls calls cache run).1 found
