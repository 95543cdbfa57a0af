use Rattle.std.proofs.lemmas.Result.{IfOk-weaker}
use Rattle.iom_script.proofs.MeaningLemmas.{only_text, first_fault}
use Rattle.iom_hardware_script.specs.Grammar.{SayHardware, IsHardwareScript}
use Rattle.iom_hardware_script.proofs.HardwareTextLemmas.{hardware_one, hardware_fronts, HasRightSize, script_setup}
use Rattle.iom_hardware_script.proofs.parser.parse.Goals as goal

pub returns-clause-only : goal.returns-clause-only
returns-clause-only c = only_text SayHardware hardware_one hardware_fronts c.args.bytes.now c.read_lines.result c.read_lines.ensures.script c.read_lines.ensures.fault

pub returns-clause-first : goal.returns-clause-first
returns-clause-first c = first_fault SayHardware hardware_fronts c.args.bytes.now c.read_lines.result c.read_lines.ensures.script c.read_lines.ensures.fault

pub returns-clause-setup : goal.returns-clause-setup
returns-clause-setup c =
    IfOk-weaker c.read_lines.result (IsHardwareScript c.args.bytes.now) (λ script. HasRightSize script.setup) (script_setup c.args.bytes.now) c.read_lines.ensures.script
