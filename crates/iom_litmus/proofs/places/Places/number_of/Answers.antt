use Rattle.std.proofs.Common.{◌≡◌, Some, slice_get, refl, subst, rules}
use Rattle.std.proofs.lemmas.Option.{slice_get_read}
use Rattle.iom_litmus.proofs.places.Places.number_of.Goals as goal

pub returns-then-is_same : goal.returns-then-is_same
returns-then-is_same g c =
    let found = c.in_ok-node.ensures.lookup in
    let shown : c.as_slice-nodes.result.now ≡ c.args.self.now = search rules in (
      c.in_ok-node.node.now,
      subst (λ nodes. slice_get nodes c.in_ok-number.number ≡ Some c.in_ok-node.node.now) shown
          (slice_get_read c.as_slice-nodes.result.now _ c.in_ok-number.number c.in_ok-node.node.now refl found.3.0 found.1),
      c.if-is_same.ensures refl,
    )
