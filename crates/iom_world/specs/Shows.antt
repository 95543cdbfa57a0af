-- What a world shows of the ledger machine's state.
use Rattle.std.specs.Prelude.{◌≡◌}
use Rattle.iom_machine.specs.declared.state.State.{State}
use Rattle.iom_world.specs.Shown.{Shown}
use Rattle.iom_world_effects.specs.Shows.{PartsShow}

-- a world does by its parts, and the same disks were never in a device
abbrev pub Shows : Shown → State → Type 0
Shows shown state = PartsShow shown.parts state × (state.disks ≡ shown.disks)
