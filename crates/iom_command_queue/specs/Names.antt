-- The commands' names as they are printed.
use Rattle.std.specs.Prelude.{ℕ, List, codes}
use Rattle.iom_command_queue.specs.declared.operation.Operation.{Operation}
use Rattle.iom_command_queue.specs.declared.operation.Operation.TheVariants.{IotinvalVma, IotinvalGvma, IofenceC, IodirInvalDdt, AtsInval}

abbrev pub operation_name : Operation → List ℕ
operation_name IotinvalVma = codes "iotinval.vma"
operation_name IotinvalGvma = codes "iotinval.gvma"
operation_name IofenceC = codes "iofence.c"
operation_name IodirInvalDdt = codes "iodir.inval_ddt"
operation_name AtsInval = codes "ats.inval"
