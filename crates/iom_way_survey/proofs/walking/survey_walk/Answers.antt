use Rattle.std.proofs.Common.{Option, subst}
use Rattle.iom_stepped_walk.specs.Hands.{hand_of, to_come_of}
use Rattle.iom_stepped_walk.specs.declared.hand.SecondTables.{SecondTables}
use Rattle.iom_stepped_walk.specs.declared.hand.TableInHand.{TableInHand}
use Rattle.iom_table_survey.specs.Reaches.{AddsReach}
use Rattle.iom_table_survey.specs.Rows.{GrowsBy}
use Rattle.iom_table_survey.proofs.AddLemmas.{adds_then, reach_then}
use Rattle.iom_way_survey.specs.Walking.{IsOneThat, HandReads, HandLeads, SecondReads, SecondLeads}
use Rattle.iom_way_survey.proofs.HandLemmas.{hand_level}
use Rattle.iom_way_survey.proofs.walking.survey_walk.Goals as goal

pub survey_in_hand-requires : goal.survey_in_hand-requires
survey_in_hand-requires c = λ own is. hand_level c.args.walk c.table_in_hand.result own c.table_in_hand.ensures is

pub returns : goal.returns
returns c =
    let memory = c.args.memory.now in
    let hand = hand_of c.args.walk in
    let second = to_come_of c.args.walk in
    let old = c.args.tables.now in
    let start = c.args.reach.now in
    record {
      tables = adds_then old c.survey_in_hand.new.tables c.survey_to_come.new.tables (λ f. IsOneThat hand (λ own. HandReads memory own f)) (λ f. IsOneThat second (λ own. SecondReads memory own f))
          (subst (λ (o : Option TableInHand). GrowsBy old c.survey_in_hand.new.tables (λ f. IsOneThat o (λ own. HandReads memory own f))) c.table_in_hand.ensures c.survey_in_hand.ensures.tables)
          (subst (λ (o : Option SecondTables). GrowsBy c.survey_in_hand.new.tables c.survey_to_come.new.tables (λ f. IsOneThat o (λ own. SecondReads memory own f))) c.second_stage_to_come.ensures c.survey_to_come.ensures.tables);
      leaves = reach_then start c.survey_in_hand.new.reach c.survey_to_come.new.reach (λ kind f. IsOneThat hand (λ own. HandLeads memory own kind f)) (λ kind f. IsOneThat second (λ own. SecondLeads memory own kind f))
          (subst (λ (o : Option TableInHand). AddsReach start c.survey_in_hand.new.reach (λ kind f. IsOneThat o (λ own. HandLeads memory own kind f))) c.table_in_hand.ensures c.survey_in_hand.ensures.leaves)
          (subst (λ (o : Option SecondTables). AddsReach c.survey_in_hand.new.reach c.survey_to_come.new.reach (λ kind f. IsOneThat o (λ own. SecondLeads memory own kind f))) c.second_stage_to_come.ensures c.survey_to_come.ensures.leaves);
    }
