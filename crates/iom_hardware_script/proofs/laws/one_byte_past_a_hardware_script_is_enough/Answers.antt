use Rattle.iom_script.proofs.LimitLemmas.{front_text, front_bad}
use Rattle.iom_hardware_script.specs.Grammar.{SayHardware}
use Rattle.iom_hardware_script.proofs.laws.one_byte_past_a_hardware_script_is_enough.Goals as goal

pub returns : goal.returns
returns c = record { script = front_text SayHardware; fault = front_bad SayHardware }
