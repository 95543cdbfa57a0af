use Rattle.std.proofs.Common.{ap}
use Rattle.iom_board.specs.Invariant.{device_ids}
use Rattle.iom_stepped_board.proofs.BesideLemmas.{stays}
use Rattle.iom_stepped_board.proofs.laws.stays_beside.Goals as goal

pub returns-clause-board : goal.returns-clause-board
returns-clause-board c = stays

pub returns-clause-software : goal.returns-clause-software
returns-clause-software c old new rows beside changes = stays old new rows beside (ap device_ids changes.devices) changes.flights
