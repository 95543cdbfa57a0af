use Rattle.iom_way_survey.proofs.HandLemmas.{hand_leads, hand_reads}
use Rattle.iom_way_survey.proofs.walking.survey_in_hand.Goals as goal

pub returns-in-Some : goal.returns-in-Some
returns-in-Some c =
    let memory = c.args.memory.now in
    record {
      tables = hand_reads memory c.args.hand c.in-Some.own c.args.tables.now c.survey_hand.new.tables c.in-Some.is c.survey_hand.ensures.tables;
      leaves = hand_leads memory c.args.hand c.in-Some.own c.args.reach.now c.survey_hand.new.reach c.in-Some.is c.survey_hand.ensures.leaves;
    }
