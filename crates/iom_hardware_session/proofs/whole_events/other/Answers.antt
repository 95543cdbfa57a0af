use Rattle.std.proofs.Common.{ap}
use Rattle.iom_board.specs.BoardParts.{BoardParts}
use Rattle.iom_hardware.specs.Agreement.{known_blocks}
use Rattle.iom_hardware_session.proofs.InvariantLemmas.{sound_now}
use Rattle.iom_hardware_session.proofs.whole_events.other.Goals as goal

pub returns-in-Fetch-clause-invariants : goal.returns-in-Fetch-clause-invariants
returns-in-Fetch-clause-invariants c =
    let call = c.fetch in
    sound_now c.args.hardware.now call.new.self c.requires.invariants call.ensures.invariants (ap known_blocks call.ensures.effect.devices) call.ensures.counted.disks

pub returns-in-Timeout-clause-invariants : goal.returns-in-Timeout-clause-invariants
returns-in-Timeout-clause-invariants c =
    let call = c.timeout in
    sound_now c.args.hardware.now call.new.self c.requires.invariants call.ensures.invariants (ap known_blocks call.ensures.effect.devices) call.ensures.counted.disks

pub returns-in-Poke-clause-invariants : goal.returns-in-Poke-clause-invariants
returns-in-Poke-clause-invariants c =
    let call = c.store in
    sound_now c.args.hardware.now call.new.self c.requires.invariants call.ensures.invariants (ap (λ (p : BoardParts). known_blocks p.devices) call.ensures.rest) call.ensures.counted.disks
