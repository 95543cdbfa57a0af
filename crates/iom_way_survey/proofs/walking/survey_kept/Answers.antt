use Rattle.std.proofs.Common.{◌≡◌, Some, rules}
use Rattle.iom_stepped_requests.specs.declared.walk.RequestWalk.TheVariants.{InTables}
use Rattle.iom_stepped_requests.specs.declared.walk.Serving.TheVariants.{GoesOn}
use Rattle.iom_way_survey.proofs.UnderWayLemmas.{keeps_leads, keeps_reads}
use Rattle.iom_way_survey.proofs.walking.survey_kept.Goals as goal

pub returns-then-eq : goal.returns-then-eq
returns-then-eq c =
    let memory = c.args.memory.now in
    let stands = c.in-Some-GoesOn-InTables in
    let is : c.args.serving ≡ Some (GoesOn (InTables stands.field-0-0-0 stands.field-0-0-1 stands.kept stands.walk)) = search rules in
    let same : stands.kept ≡ c.args.space = search rules in
    record {
      tables = keeps_reads memory c.args.serving stands.field-0-0-0 stands.field-0-0-1 stands.kept c.args.space stands.walk c.args.tables.now c.survey_walk.new.tables is same c.survey_walk.ensures.tables;
      leaves = keeps_leads memory c.args.serving stands.field-0-0-0 stands.field-0-0-1 stands.kept c.args.space stands.walk c.args.reach.now c.survey_walk.new.reach is same c.survey_walk.ensures.leaves;
    }
