use Rattle.std.proofs.Common.{refl}
use Rattle.iom_driver.proofs.Openings.{sound_opening, ready_opening}
use Rattle.iom_driver.proofs.building.opening.Goals as goal

pub invariant_of-result : goal.invariant_of-result
invariant_of-result c = record {
  invariants = sound_opening c.in_ok-ledger.ledger c.in_ok-owners.owners c.in_ok-devices.devices.items c.args.frames c.args.levels
      c.in_ok-owners.ensures c.in_ok-devices.ensures.items c.requires.size c.requires.levels c.in_ok-ledger.ensures.agrees;
}

pub returns-clause-ready : goal.returns-clause-ready
returns-clause-ready c = λ memory r size.
    let invariants = sound_opening c.in_ok-ledger.ledger c.in_ok-owners.owners c.in_ok-devices.devices.items c.args.frames c.args.levels
    c.in_ok-owners.ensures c.in_ok-devices.ensures.items c.requires.size c.requires.levels c.in_ok-ledger.ensures.agrees in
    ready_opening _ c.args.frames memory r invariants.sizes.owned size c.in_ok-devices.ensures.items refl
