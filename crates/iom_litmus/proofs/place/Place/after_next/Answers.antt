use Rattle.std.proofs.Common.{◌≡◌, Some, refl, rules}
use Rattle.iom_litmus.specs.Happenings.{next_cell}
use Rattle.iom_litmus.specs.Replies.{RunsLines, no_reply}
use Rattle.iom_litmus.specs.Steps.{IsAnsweredLike}
use Rattle.iom_litmus.proofs.TryLemmas.{has_no_next, next_refused}
use Rattle.iom_litmus.proofs.place.Place.after_next.Goals as goal

pub returns-in_default : goal.returns-in_default
returns-in_default g c = has_no_next g.S.System.rules g.S.System.readings c.args.test.now c.args.self c.args.column (search rules)

pub returns-then-not-is_answered : goal.returns-then-not-is_answered
returns-then-not-is_answered g c =
    let is : next_cell c.args.test.now c.args.self.happened c.args.column ≡ Some (c.in-Some.next.place, c.in-Some.next.cell.now) = search rules in
    let runs : RunsLines g.S.System.rules c.args.self.system no_reply c.in-Some.next.cell.now.lines c.in_ok-reply.reply c.run_lines.new.system = search rules in
    let other : ¬ IsAnsweredLike c.in-Some.next.cell.now.awaited c.in_ok-reply.reply.text = search rules in
    next_refused g.S.System.rules g.S.System.readings c.args.test.now c.args.self (record { system = c.run_lines.new.system; happened = c.args.self.happened }) c.args.column c.in-Some.next.place c.in-Some.next.cell.now c.in_ok-reply.reply c.run_lines.new.system is runs other refl
