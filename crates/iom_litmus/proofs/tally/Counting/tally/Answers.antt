use Rattle.std.proofs.Common.{◌≡◌, [], refl, get_or, sym, ap, ◌∙◌, rules, arith}
use Rattle.std.proofs.lemmas.Grind.{common_steps}
use Rattle.std.proofs.lemmas.Option.{slice_get-get_or}
use Rattle.iom_litmus.specs.Tallies.{IsSum, IsTally, edges_at}
use Rattle.iom_litmus.proofs.TallyLemmas.{edges_from, if_ok_map, tally_from_sum, end_counts}
use Rattle.iom_litmus.proofs.tally.Counting.tally.Goals as goal

pub returns-then-not-is_empty-clause-tally : goal.returns-then-not-is_empty-clause-tally
returns-then-not-is_empty-clause-tally g c =
    let shown : c.as_slice-edges.result.now ≡ edges_at c.args.self.now.edges.now c.args.number =
    edges_from c.args.self.now.edges.now c.args.number c.as_slice-edges.result.now c.index-self-number.result c.as_slice-edges.ensures c.requires.within in
    let some : ¬ (c.as_slice-edges.result.now ≡ []) = search rules in
    if_ok_map c.sum_over.result (IsSum c.args.tallies.now c.as_slice-edges.result.now)
    (IsTally c.args.self.now.nodes.now c.args.self.now.edges.now c.args.self.now.outcome.now c.args.tallies.now c.args.number)
    (λ sum sums. tally_from_sum c.args.self.now.nodes.now c.args.self.now.edges.now c.args.self.now.outcome.now c.args.tallies.now c.args.number c.as_slice-edges.result.now sum
    c.requires.told c.requires.graph shown some sums) c.sum_over.ensures.sum

pub returns-clause-tally : goal.returns-clause-tally
returns-clause-tally g c =
    let shown : c.as_slice-edges.result.now ≡ edges_at c.args.self.now.edges.now c.args.number =
    edges_from c.args.self.now.edges.now c.args.number c.as_slice-edges.result.now c.index-self-number.result c.as_slice-edges.ensures c.requires.within in
    let none : c.as_slice-edges.result.now ≡ [] = grind (arith, common_steps, c.is_empty.ensures, c.if-not-is_empty.false, c.if-not-is_empty.ensures) in
    let within = c.requires.within in let as_many = c.requires.graph.as_many in
    end_counts c.args.self.now.nodes.now c.args.self.now.edges.now c.args.self.now.outcome.now c.as_slice-outcome.result.now c.args.self.now.outcome.now c.args.number
    (get_or c.args.self.now.nodes.now c.args.number c.index-self-number-2.result)
    c.is_same_outcome.result c.is_same_outcome.ensures c.as_slice-outcome.ensures refl (sym shown ∙ none)
    (slice_get-get_or c.args.self.now.nodes.now c.args.number c.index-self-number-2.result (omega (arith, within, as_many)))
