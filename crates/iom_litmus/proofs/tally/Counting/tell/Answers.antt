use Rattle.std.proofs.Common.{◌≡◌, ◌∙◌, ap, Some, None, slice_get, refl, rules, arith}
use Rattle.std.proofs.lemmas.Grind.{common_steps}
use Rattle.std.proofs.lemmas.Option.{gets}
use Rattle.iom_litmus.specs.Tallies.{IsRoute, AreSoMany, IsTally}
use Rattle.iom_litmus.proofs.TallyLemmas.{was_told, none_is}
use Rattle.iom_litmus.proofs.tally.Counting.tell.Goals as goal

pub returns-clause-told : goal.returns-clause-told
returns-clause-told g c =
    let none : c.item_mut.result.now ≡ None = grind (arith, common_steps, gets, none_is, c.item_mut.ensures.value, c.if-is_some.false, c.is_some.ensures, c.as_slice.ensures) in
    let counts : AreSoMany (IsRoute c.args.self.now.nodes.now c.args.self.now.edges.now c.args.self.now.outcome.now c.args.number) c.in-Some.count = search rules in
    was_told c.args.self.now.nodes.now c.args.self.now.edges.now c.args.self.now.outcome.now c.args.number c.in-Some.count c.args.tallies.now _
    c.requires.told (c.item_mut.ensures.value ∙ ap (λ x. Some x) none) counts refl
