-- The row stands at its place again.
use Rattle.std.proofs.Common.{◌∙◌, ◌+◌, List, length, set, refl, ap, subst}
use Rattle.std.proofs.lemmas.List.{length-set}
use Rattle.iom_stepped_requests.specs.Standing.{request_of}
use Rattle.iom_walks.specs.Rows.{RowStandsAt, StartsThere}
use Rattle.iom_walks.specs.Walks.{WalkRow}
use Rattle.iom_walks.proofs.ByPlace.{sound_walks_at, stands_found, starts_at}
use Rattle.iom_walks.proofs.walks.Walks.walk.Goals as goal

pub invariant_of-self : goal.invariant_of-self
invariant_of-self c =
    let at = stands_found c.deref.result.now c.args.device c.unwrap-place.result c.find.result c.unwrap-place.ensures c.find.ensures in
    let stands = subst (λ (rs : List WalkRow). RowStandsAt rs c.args.device c.unwrap-place.result) c.deref.ensures.value at in (
      c.self.invariant.0,
      ap (λ n. n + length c.self.inside.spare.items) (length-set c.self.inside.rows.items c.unwrap-place.result c.walk.new.self) ∙ c.self.invariant.1,
      sound_walks_at c.self.inside.rows.items c.args.device c.unwrap-place.result c.index_mut-row.result.now stands c.index_mut-row.ensures.value (request_of c.args.walk) c.args.len
          c.args.bytes.now c.args.walk c.walk.new.self c.self.invariant.2 c.walk.ensures c.requires.own refl c.requires.within c.requires.carries,
    )

pub returns : goal.returns
returns c =
    let at = stands_found c.deref.result.now c.args.device c.unwrap-place.result c.find.result c.unwrap-place.ensures c.find.ensures in
    let stands = subst (λ (rs : List WalkRow). RowStandsAt rs c.args.device c.unwrap-place.result) c.deref.ensures.value at in
    subst (λ (rs : List WalkRow). StartsThere rs c.args.device c.args.walk c.args.len c.args.bytes.now (set c.self.inside.rows.items c.unwrap-place.result c.walk.new.self)) c.self.view_is
    (starts_at c.self.inside.rows.items c.args.device c.unwrap-place.result c.index_mut-row.result.now stands c.index_mut-row.ensures.value c.args.walk c.args.len c.args.bytes.now
    c.walk.new.self c.walk.ensures)
