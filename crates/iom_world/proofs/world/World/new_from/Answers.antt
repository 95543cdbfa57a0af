use Rattle.std.proofs.Common.{ℕ, sym, subst}
use Rattle.iom_world_effects.specs.Parts.{Parts}
use Rattle.iom_world_effects.specs.Invariant.{PartsInvariant}
use Rattle.iom_driver.specs.StateOf.{state_of}
use Rattle.iom_world_refinement.proofs.StartLemmas.{IsStarted, sound_started, shows_started, memory_is, iommu_started, driver_started}
use Rattle.iom_world.proofs.world.World.new_from.Goals as goal

pub invariant_of-result : goal.invariant_of-result
invariant_of-result g c =
    let hardware = c.in_ok-hardware.hardware in
    let begins = c.in_ok-hardware.ensures.power_on.begins in
    let started : IsStarted c.args.first_fence c.args.frames c.args.levels (state_of c.in_ok-driver.driver) (state_of c.start_from.new.self) hardware.board.memory c.start_from.new.memory hardware.board.iommu c.start_from.new.io hardware.board.devices.items hardware.board.fabric = record {
      size = c.in_ok-hardware.ensures.size;
      opening_driver = c.in_ok-driver.ensures.opening;
      zeros = begins.memory;
      power_on = begins.iommu;
      starts = c.start_from.ensures.effect;
      ready = c.start_from.ensures.ready;
      unplugged = begins.devices;
      quiet = begins.fabric;
    } in
    let parts : Parts = record { memory = c.start_from.new.memory; iommu = c.start_from.new.io; driver = state_of c.start_from.new.self; devices = hardware.board.devices.items; fabric = hardware.board.fabric } in
    record { invariants = subst (λ (events : ℕ). PartsInvariant parts events) (sym begins.events) (sound_started _ _ _ _ _ _ _ _ _ _ _ started); agrees = c.in_ok-hardware.ensures.invariants.agrees; room = c.in_ok-hardware.ensures.invariants.room }

pub returns-clause-begins : goal.returns-clause-begins
returns-clause-begins g c =
    let hardware = c.in_ok-hardware.hardware in
    let on = c.in_ok-hardware.ensures.power_on in
    let begins = on.begins in
    let started : IsStarted c.args.first_fence c.args.frames c.args.levels (state_of c.in_ok-driver.driver) (state_of c.start_from.new.self) hardware.board.memory c.start_from.new.memory hardware.board.iommu c.start_from.new.io hardware.board.devices.items hardware.board.fabric = record {
      size = c.in_ok-hardware.ensures.size;
      opening_driver = c.in_ok-driver.ensures.opening;
      zeros = begins.memory;
      power_on = begins.iommu;
      starts = c.start_from.ensures.effect;
      ready = c.start_from.ensures.ready;
      unplugged = begins.devices;
      quiet = begins.fabric;
    } in
    record {
      shows = (shows_started _ _ _ _ _ _ _ _ _ _ _ started _, sym begins.at_hand);
      memory = memory_is _ _ _ _ _ _ _ _ _ _ _ started;
      iommu = iommu_started _ _ _ _ _ _ _ _ _ _ _ started;
      driver = driver_started _ _ _ _ _ _ _ _ _ _ _ started;
      devices = begins.devices;
      commands = c.start_from.ensures.effect.empty;
      fabric = begins.fabric;
      blocks = on.blocks;
      at_hand = on.at_hand;
      events = begins.events;
    }
