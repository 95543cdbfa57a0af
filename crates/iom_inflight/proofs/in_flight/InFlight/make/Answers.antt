-- The row makes it, and stands at its place again.
use Rattle.std.proofs.Common.{◌∙◌, ◌+◌, length, ap}
use Rattle.std.proofs.lemmas.List.{length-set}
use Rattle.iom_inflight.proofs.ByPlace.{makes_at, sound_makes_at, makeable_at}
use Rattle.iom_inflight.proofs.in_flight.InFlight.make.Goals as goal

pub make-requires : goal.make-requires
make-requires c =
    makeable_at _ c.args.self.now c.self.view_is c.args.device c.place_of-place.result c.index_mut-row.result.now c.place_of-place.ensures c.index_mut-row.ensures.value (length c.args.memory.now)
    c.self.invariant.2 c.requires

pub invariant_of-self : goal.invariant_of-self
invariant_of-self c = (
  c.self.invariant.0,
  ap (λ n. n + length c.self.inside.spare.items) (length-set c.self.inside.rows.items c.place_of-place.result c.make.new.self) ∙ c.self.invariant.1,
  sound_makes_at _ c.args.self.now c.self.view_is c.args.device c.place_of-place.result c.index_mut-row.result.now c.place_of-place.ensures c.index_mut-row.ensures.value c.args.memory.now
      c.make.new.memory c.make.result c.make.new.self c.make.ensures c.self.invariant.2,
)

pub returns : goal.returns
returns c =
    makes_at _ c.args.self.now c.self.view_is c.args.device c.place_of-place.result c.index_mut-row.result.now c.place_of-place.ensures c.index_mut-row.ensures.value c.args.memory.now c.make.new.memory
    c.make.result c.make.new.self c.make.ensures
