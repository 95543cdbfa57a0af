use Rattle.iom_hardware_script.specs.Parts.{IsRegisterWrite, IsRegisterRead, IsOfSoftware}
use Rattle.iom_hardware_script.proofs.HardwareLineLemmas.{found_line, write_is_of_software, read_is_of_software, last_of_software}
use Rattle.iom_hardware_script.proofs.lines.of_software.Goals as goal

pub returns-in-Some : goal.returns-in-Some
returns-in-Some c = found_line IsRegisterWrite IsOfSoftware c.args.line.now c.in-Some.said write_is_of_software c.in-Some.ensures

pub returns-in-Some-register_read : goal.returns-in-Some-register_read
returns-in-Some-register_read c = found_line IsRegisterRead IsOfSoftware c.args.line.now c.in-Some-register_read.said read_is_of_software c.in-Some-register_read.ensures

pub returns : goal.returns
returns c = last_of_software c.args.line.now c.claim.result c.in_default.ensures c.in_default-register_read.ensures c.claim.ensures
