use Rattle.std.proofs.Common.{rules, ◌∙◌, ap}
use Rattle.iom_litmus_test.specs.Globs.{is_match}
use Rattle.iom_litmus_test.proofs.GlobLemmas.{result_is_test}
use Rattle.iom_litmus_test.proofs.glob.Glob.matches.Goals as goal

pub returns-clause-test : goal.returns-clause-test
returns-clause-test c =
    result_is_test c.parts_match.result _ _ c.parts_match.ensures ∙ ap (λ parts. is_match parts c.args.text.now) (search rules)
