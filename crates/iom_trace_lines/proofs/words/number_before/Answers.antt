use Rattle.std.proofs.Common.{◌++◌, ◌∙◌, List, ℕ, ap}
use Rattle.iom_script.proofs.ReadsLemmas.{read_holds}
use Rattle.iom_script.proofs.DecimalLemmas.{NumberAt}
use Rattle.iom_trace_lines.proofs.words.number_before.Goals as goal

pub split_at-requires : goal.split_at-requires
split_at-requires c = (read_holds (NumberAt c.args.text.now) (c.in_ok-number.number, c.in_ok-number.count) c.in_ok-number.ensures).within

pub returns : goal.returns
returns c =
    let lead = read_holds (NumberAt c.args.text.now) (c.in_ok-number.number, c.in_ok-number.count) c.in_ok-number.ensures in
    c.split_at.ensures.by_index.0 ∙ ap (λ (l : List ℕ). l ++ c.split_at.result.1.now) (c.split_at.ensures.front ∙ lead.is.1)
