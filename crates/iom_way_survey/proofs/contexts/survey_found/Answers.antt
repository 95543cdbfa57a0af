use Rattle.std.proofs.Common.{◌≡◌, ◌∙◌, false, Some, sym, rules}
use Rattle.iom_way_survey.specs.Found.{space_of_context}
use Rattle.iom_way_survey.proofs.FoundLemmas.{found_tables, found_leaves}
use Rattle.iom_way_survey.proofs.contexts.survey_found.Goals as goal

pub returns-then-eq : goal.returns-then-eq
returns-then-eq c =
    let memory = c.args.memory.now in
    let equal : c.space_of.result ≡ Some c.args.space = search rules in
    let same : space_of_context c.in-Some.context ≡ Some c.args.space = sym c.space_of.ensures ∙ equal in
    record {
      tables = found_tables false memory c.args.space c.args.found c.in-Some.context c.in-Some.is c.args.tables.now c.survey_stages.new.tables same c.survey_stages.ensures.tables;
      leaves = found_leaves false memory c.args.space c.args.found c.in-Some.context c.in-Some.is c.args.reach.now c.survey_stages.new.reach same c.survey_stages.ensures.leaves;
    }
