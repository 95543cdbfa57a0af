use Rattle.iom_stepped_machine.proofs.RoomLemmas.{have_room}
use Rattle.iom_stepped_machine.proofs.laws.walks_have_room.Goals as goal

pub returns : goal.returns
returns c = have_room
