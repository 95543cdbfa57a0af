-- Rows are equal where their rings are.
use Rattle.std.proofs.Common.{◌≡◌, true}
use Rattle.iom_inflight.proofs.Sames.{rings_of_same, same_of_rings}
use Rattle.iom_inflight.proofs.row.Row.is_same.Goals as goal

pub returns-then-not-have_same_accesses : goal.returns-then-not-have_same_accesses
returns-then-not-have_same_accesses c = (
  λ never. cc,
  λ same.
      let rings = rings_of_same _ _ _ _ c.self.inside.waiting c.other.inside.waiting c.self.inside.bytes c.other.inside.bytes c.args.self.now c.args.other.now c.self.view_is c.other.view_is
      c.self.invariant c.other.invariant same in
      let found : c.have_same_accesses.result ≡ true = c.have_same_accesses.ensures.1 rings.0 in
      cc,
)

pub returns : goal.returns
returns c = (
  λ is.
      same_of_rings _ _ _ _ c.self.inside.waiting c.other.inside.waiting c.self.inside.bytes c.other.inside.bytes c.args.self.now c.args.other.now c.self.view_is c.other.view_is c.self.invariant
      c.other.invariant c.if-self-other.false c.if-self-other-2.false (c.have_same_accesses.ensures.0 c.if-not-have_same_accesses.false) (c.have_same_bytes.ensures.0 is),
  λ same.
      let rings = rings_of_same _ _ _ _ c.self.inside.waiting c.other.inside.waiting c.self.inside.bytes c.other.inside.bytes c.args.self.now c.args.other.now c.self.view_is c.other.view_is
      c.self.invariant c.other.invariant same in
      c.have_same_bytes.ensures.1 rings.1,
)
