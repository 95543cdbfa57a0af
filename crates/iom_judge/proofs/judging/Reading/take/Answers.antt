use Rattle.iom_judge.proofs.judging.Reading.take.Goals as goal

pub returns : goal.returns
returns c lines before = c.take_said.ensures c.args.line.now.text.now lines (rw c.as_slice.ensures.value (c.in_ok-said.ensures.says, c.in_ok-said.ensures.spoken)) before
