use Rattle.std.proofs.Common.{false}
use Rattle.iom_block_devices.proofs.PlaceLemmas.{known_found}
use Rattle.iom_block_devices.proofs.at_hand.put_in.Goals as goal

pub returns-in-Some-clause-shown : goal.returns-in-Some-clause-shown
returns-in-Some-clause-shown g c =
    let found = known_found g.D.Disk.shown c.args.blocks.now.items c.args.id false c.requires.empty in
    record { block = found.0; there = found.1; disk = g.D.Disk.shown c.in-Some.disk; taken = c.in-Some.ensures.taken; changed = c.insert.ensures.shown }
