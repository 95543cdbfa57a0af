-- Both stages, from the root of the guest's tables.
use Rattle.std.proofs.Common.{◌+◌, ◌<◌, ◌∙◌, length, refl, ap, arith}
use Rattle.iom_stepped_walk.proofs.PositionLemmas.{both_begins}
use Rattle.iom_stepped_walk.specs.Filled.{filled_places}
use Rattle.iom_stepped_walk.specs.declared.guest.Both.{Both}
use Rattle.iom_stepped_walk.specs.declared.guest.GuestEntry.{GuestEntry}
use Rattle.iom_stepped_walk.proofs.tables.TableWalk.begin_both.Goals as goal

pub returns-in-Some : goal.returns-in-Some
returns-in-Some c = λ frames.
    let place = c.in-Some.place in
    let room : length (filled_places c.none.result.frames) + place.level < 4 = omega (arith, ap length c.none.ensures, place.in_range) in
    let both : Both = record { asked = record { address = c.args.address; kind = c.args.kind }; size = c.args.second_size; second = c.args.second } in
    let entry : GuestEntry = record { table = place.table; level = place.level; loaded = c.none.result; room = room } in
    c.to_entry.ensures frames ∙ both_begins frames both entry c.args.first_size c.args.first place c.in-Some.ensures c.none.ensures refl refl
