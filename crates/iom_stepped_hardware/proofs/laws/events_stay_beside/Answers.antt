use Rattle.std.proofs.Common.{ap, refl}
use Rattle.iom_board.specs.Invariant.{device_ids}
use Rattle.iom_stepped_board.proofs.BesideLemmas.{stays}
use Rattle.iom_stepped_board.proofs.SoundEvents as events
use Rattle.iom_stepped_hardware.proofs.AskLaws.{delivered_asks, medium_asks}
use Rattle.iom_stepped_hardware.proofs.AskLemmas.{asks_same}
use Rattle.iom_stepped_hardware.proofs.laws.events_stay_beside.Goals as goal

pub returns-clause-board : goal.returns-clause-board
returns-clause-board c old new blocks rows beside devices board =
    record { board = board; asking = asks_same old.devices new.devices blocks blocks rows rows beside.asking devices refl refl }

pub returns-clause-software : goal.returns-clause-software
returns-clause-software c old new blocks rows beside changes = record {
  board = stays old new rows beside.board (ap device_ids changes.devices) changes.flights;
  asking = asks_same old.devices new.devices blocks blocks rows rows beside.asking changes.devices refl refl;
}

pub returns-clause-medium : goal.returns-clause-medium
returns-clause-medium c disks left old new before after rows id disk answer beside puts inside = record {
  board = events.medium_beside disks old new rows id disk answer left beside.board puts;
  asking = medium_asks disks left old new before after rows id disk answer beside.asking puts inside;
}

pub returns-clause-delivery : goal.returns-clause-delivery
returns-clause-delivery c old new before after rows count place delivered invariants beside delivers inside = record {
  board = events.delivered_beside old new rows place delivered beside.board delivers;
  asking = delivered_asks old new before after rows place delivered invariants.caches beside.asking delivers inside;
}
