use Rattle.iom_litmus.proofs.QuestionLemmas.{exists_is_told, not_exists_is_told, for_all_is_told}
use Rattle.iom_litmus.proofs.search.Search.is_validated.Goals as goal

pub returns-in-Exists : goal.returns-in-Exists
returns-in-Exists g c b system is =
    exists_is_told g.S.System.readings b c.args.self.now.test.now system c.args.histogram.now.rows c.as_slice-rows.result.now
    c.args.self.now.test.now.question.kind c.args.self.now.test.now.question.proposition c.holds_of_some.result
    c.in-Exists.is c.as_slice-rows.ensures is c.holds_of_some.ensures

pub returns-in-NotExists : goal.returns-in-NotExists
returns-in-NotExists g c b system is =
    not_exists_is_told g.S.System.readings b c.args.self.now.test.now system c.args.histogram.now.rows c.as_slice-rows.result.now
    c.args.self.now.test.now.question.kind c.args.self.now.test.now.question.proposition c.holds_of_some-in-NotExists.result
    c.in-NotExists.is c.as_slice-rows.ensures is c.holds_of_some-in-NotExists.ensures

pub returns-in-ForAll : goal.returns-in-ForAll
returns-in-ForAll g c b system is =
    for_all_is_told g.S.System.readings b c.args.self.now.test.now system c.args.histogram.now.rows c.as_slice-rows.result.now
    c.args.self.now.test.now.question.kind c.args.self.now.test.now.question.proposition c.holds_of_each.result
    c.in-ForAll.is c.as_slice-rows.ensures is c.holds_of_each.ensures
