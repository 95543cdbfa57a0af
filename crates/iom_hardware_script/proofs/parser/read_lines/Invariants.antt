use Rattle.std.proofs.Common.{length}
use Rattle.iom_script.proofs.ScriptLemmas.{ReadSoFar}
use Rattle.iom_hardware_script.specs.Grammar.{SayHardware}
use Rattle.iom_hardware_script.proofs.parser.read_lines.Given as goal

-- the lines so far say the script
abbrev pub invariant-loop-line : goal.invariant-loop-line
invariant-loop-line l = ReadSoFar SayHardware l.bytes l.rest l.number l.script

abbrev pub decreases-loop-line : goal.decreases-loop-line
decreases-loop-line l = length l.rest
