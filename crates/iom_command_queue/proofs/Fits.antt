-- No field of a command is wider than its bits: what the fields' own types say.
use Rattle.std.specs.Prelude.{◌≡◌, ℕ, ◌^◌, ◌<◌, ◌%◌, Option}
use Rattle.std.specs.Option.{ForSome}
use Rattle.iom_command_queue.specs.declared.command.Command.{Command}
use Rattle.iom_command_queue.specs.declared.command.Command.TheVariants.{IotinvalVma, IotinvalGvma, IofenceC, IodirInvalDdt, AtsInval}
use Rattle.iom_command_queue.specs.declared.command.AtsRange.{AtsRange}
use Rattle.iom_command_queue.specs.declared.command.AtsRange.TheVariants.{Page, Everything}
use Rattle.iom_command_queue.specs.declared.command.FenceStore.{FenceStore}

abbrev pub StoreFits : FenceStore → Type 0
StoreFits store = (store.address < 2 ^ 64) × (store.address % 4 ≡ 0) × (store.data < 2 ^ 32)

abbrev pub RangeFits : AtsRange → Type 0
RangeFits (Page page) = page < 2 ^ 52
RangeFits Everything = Unit {0}

abbrev pub IsWithin : ℕ → Option ℕ → Type 0
IsWithin width field = ForSome field (λ number. number < 2 ^ width)

abbrev pub Fits : Command → Type 0
Fits (IotinvalVma gscid pscid page) = IsWithin 16 gscid × IsWithin 20 pscid × IsWithin 52 page
Fits (IotinvalGvma gscid page) = IsWithin 16 gscid × IsWithin 52 page
Fits (IofenceC store wsi pr pw) = ForSome store StoreFits
Fits (IodirInvalDdt device) = IsWithin 24 device
Fits (AtsInval device range) = (device < 2 ^ 24) × RangeFits range
