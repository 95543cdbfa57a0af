use Rattle.iom_fault_reasons.proofs.ReasonLemmas.{reasons_are_of_faults}
use Rattle.iom_fault_reasons.proofs.TranslatedLemmas.{translated_reasons_are_of_faults}
use Rattle.iom_fault_reasons.proofs.laws.reason_law.Goals as goal

pub returns : goal.returns
returns c = record { untranslated = reasons_are_of_faults; translated = translated_reasons_are_of_faults }
