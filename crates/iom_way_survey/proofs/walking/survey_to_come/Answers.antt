use Rattle.iom_way_survey.proofs.HandLemmas.{second_leads, second_reads}
use Rattle.iom_way_survey.proofs.walking.survey_to_come.Goals as goal

pub returns-in-Some : goal.returns-in-Some
returns-in-Some c =
    let memory = c.args.memory.now in
    record {
      tables = second_reads memory c.args.second c.in-Some.own c.number.result c.levels-levels.result c.args.tables.now c.survey.new.tables c.in-Some.is c.number.ensures.value c.levels-levels.ensures c.survey.ensures.tables;
      leaves = second_leads memory c.args.second c.in-Some.own c.number.result c.levels-levels.result c.args.reach.now c.survey.new.reach c.in-Some.is c.number.ensures.value c.levels-levels.ensures c.survey.ensures.leaves;
    }
