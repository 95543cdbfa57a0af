use Rattle.std.proofs.Common.{rules}
use Rattle.iom_judge.specs.Happenings.{tables_chosen}
use Rattle.iom_judge.proofs.changes.shown_at.Goals.{then-index-eq0, else-index-eq0}
use Rattle.iom_judge.proofs.changes.shown_at.Goals as goal

pub returns : goal.returns
returns c event choice shown has =
    let is = c.where_shown.ensures (tables_chosen event choice) shown has in
    elim c.if-index-eq0.branch [
      | then-index-eq0 w ↦ (λ first. search (rules, is), λ later. search rules)
      | else-index-eq0 w ↦ (λ first. search rules, λ later. search (rules, is))
    ]
