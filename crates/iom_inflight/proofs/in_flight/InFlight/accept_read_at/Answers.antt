-- The row accepts it, and stands at its place again.
use Rattle.std.proofs.Common.{◌∙◌, ◌+◌, length, refl, ap, arith}
use Rattle.std.proofs.lemmas.List.{length-set}
use Rattle.iom_base.specs.Accesses.{read_of}
use Rattle.iom_base.specs.declared.access.AcceptedAccess.{AcceptedAccess}
use Rattle.iom_inflight.proofs.ByPlace.{counted, accepts_at, sound_accepts_at, refuses_at}
use Rattle.iom_inflight.proofs.in_flight.InFlight.accept_read_at.Goals as goal

pub accept_read-requires : goal.accept_read-requires
accept_read-requires c =
    let few = counted _ c.args.self.now c.self.view_is c.args.device c.args.place c.index_mut-row.result.now c.requires.stands c.index_mut-row.ensures.value c.self.invariant.2 in
    omega (arith, few, c.requires.room)

pub returns-in_err-found : goal.returns-in_err-found
returns-in_err-found c =
    let accepted : AcceptedAccess = record { access = read_of c.args.address c.args.len; frame = c.args.frame } in
    rw c.from_residual.ensures (
    refuses_at _ c.args.self.now c.self.view_is c.args.device c.args.place c.index_mut-row.result.now c.requires.stands c.index_mut-row.ensures.value accepted c.accept_read.new.self
    c.in_err-found.ensures)

pub invariant_of-self-2 : goal.invariant_of-self-2
invariant_of-self-2 c = (
  c.self.invariant.0,
  ap (λ n. n + length c.self.inside.spare.items) (length-set c.self.inside.rows.items c.args.place c.accept_read.new.self) ∙ c.self.invariant.1,
  sound_accepts_at _ c.args.self.now c.self.view_is c.args.device c.args.place c.index_mut-row.result.now c.requires.stands c.index_mut-row.ensures.value _ c.in_ok-found.found
      c.accept_read.new.self c.in_ok-found.ensures c.self.invariant.2 c.requires.within refl,
)

pub returns : goal.returns
returns c =
    accepts_at _ c.args.self.now c.self.view_is c.args.device c.args.place c.index_mut-row.result.now c.requires.stands c.index_mut-row.ensures.value _ c.in_ok-found.found
    c.accept_read.new.self c.in_ok-found.ensures
