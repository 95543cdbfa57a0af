use Rattle.std.proofs.Common.{◌≡◌, ◌∷◌, ◌+◌, Some, None, slice_get, inl, refl, sym, subst, rules}
use Rattle.iom_litmus.specs.Listed.{IsListed}
use Rattle.iom_litmus.specs.Tallies.{IsSum, IsUntold}
use Rattle.iom_litmus.proofs.tally.+sum_over.Goals as goal

pub returns-in_default-told_of-clause-sum : goal.returns-in_default-told_of-clause-sum
returns-in_default-told_of-clause-sum n c =
    let is : c.args.edges.now ≡ c.in-Some.first.now ∷ c.in-Some.rest.now = search rules in
    let none : IsUntold c.args.tallies.now c.in-Some.first.now.to = search rules in
    (c.in-Some.first.now, subst (λ es. IsListed es c.in-Some.first.now) (sym is) (inl refl), none)
