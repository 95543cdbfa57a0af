use Rattle.std.proofs.Common.{rules}
use Rattle.iom_judge.proofs.machine.TraceMachine.power_on.Goals as goal

pub returns : goal.returns
returns c = record {
  is_past = c.in_ok-kept.ensures.past;
  state = search (rules, c.in_ok-kept.ensures.state);
  given = c.new.ensures.none;
  takes_back = c.new.ensures.takes;
  own = c.new-2.ensures;
}
