-- What a fault at one event is for the whole.
use Rattle.std.specs.Prelude.{Option, None, Some, Result, Ok, Err}
use Rattle.iom_tell.specs.declared.tell_fault.TellFault.{TellFault}
use Rattle.iom_tell.specs.declared.tell_fault.TellFault.TheVariants as one
use Rattle.iom_telling.specs.declared.fault.TellingFault.{TellingFault}
use Rattle.iom_telling.specs.declared.fault.TellingFault.TheVariants as all

abbrev pub telling_fault_of : TellFault → TellingFault
telling_fault_of one.Memory = all.Memory
telling_fault_of one.Unsayable = all.Unsayable

abbrev pub fault_of : Result (Unit {0}) TellFault → Option TellingFault
fault_of (Ok done) = None
fault_of (Err fault) = Some (telling_fault_of fault)
