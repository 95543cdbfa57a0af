use Rattle.std.proofs.Common.{ap}
use Rattle.iom_board.specs.BoardParts.{board_parts}
use Rattle.iom_board.specs.Invariant.{device_ids}
use Rattle.iom_stepped_board.proofs.BesideLemmas.{anew_beside}
use Rattle.iom_stepped_board.proofs.SoundEvents.{fetched_flights}
use Rattle.iom_stepped_board.proofs.fetching.fetch.Goals as goal

pub returns-then-begins_anew-clause-beside : goal.returns-then-begins_anew-clause-beside
returns-then-begins_anew-clause-beside c =
    let old = board_parts c.args.board.now in
    let new = board_parts c.fetch-fetched.new.self in
    let takes = c.fetch-fetched.ensures.effect in
    anew_beside old new c.directory_pointer-ddtp.result c.args.walks.now c.begin_anew.new.self c.requires.beside (ap device_ids takes.devices)
    (fetched_flights old c.fetch-fetched.result new takes) c.begin_anew.ensures
