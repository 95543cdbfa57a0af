use Rattle.iom_script.proofs.MeaningLemmas.{one_text, one_fault, text_or_fault}
use Rattle.iom_hardware_script.specs.Grammar.{SayHardware}
use Rattle.iom_hardware_script.proofs.HardwareLineLemmas.{line_same}
use Rattle.iom_hardware_script.proofs.HardwareTextLemmas.{hardware_one, hardware_fronts}
use Rattle.iom_hardware_script.proofs.laws.hardware_grammar_is_exact.Goals as goal

pub returns : goal.returns
returns c =
    record {
      one_line = line_same;
      one_script = one_text SayHardware hardware_one;
      one_fault = one_fault SayHardware hardware_fronts;
      not_both = text_or_fault SayHardware hardware_fronts;
    }
