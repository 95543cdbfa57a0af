use Rattle.std.proofs.Common.{◌≡◌, Option, Some, subst, sym, rules}
use Rattle.iom_stepped_requests.specs.declared.walk.RequestWalk.TheVariants.{InTables}
use Rattle.iom_stepped_requests.specs.declared.walk.Serving.{Serving}
use Rattle.iom_stepped_requests.specs.declared.walk.Serving.TheVariants.{GoesOn}
use Rattle.iom_table_survey.specs.Reaches.{AddsReach}
use Rattle.iom_table_survey.specs.Rows.{GrowsBy}
use Rattle.iom_way_survey.specs.Walking.{RequestReads, RequestLeads}
use Rattle.iom_way_survey.proofs.walking.survey_request.Goals as goal

pub returns-in-Some-GoesOn-InTables : goal.returns-in-Some-GoesOn-InTables
returns-in-Some-GoesOn-InTables c =
    let memory = c.args.memory.now in
    let stands = c.in-Some-GoesOn-InTables in
    let is : c.args.serving ≡ Some (GoesOn (InTables stands.field-0-0-0 stands.field-0-0-1 stands.field-0-0-2 stands.walk)) = search rules in
    record {
      tables = subst (λ (o : Option Serving). GrowsBy c.args.tables.now c.survey_walk.new.tables (RequestReads memory o)) (sym is) c.survey_walk.ensures.tables;
      leaves = subst (λ (o : Option Serving). AddsReach c.args.reach.now c.survey_walk.new.reach (RequestLeads memory o)) (sym is) c.survey_walk.ensures.leaves;
    }
