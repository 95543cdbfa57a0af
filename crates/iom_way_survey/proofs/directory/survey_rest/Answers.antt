use Rattle.std.proofs.Common.{◌≡◌, arith}
use Rattle.iom_way_survey.proofs.SoughtLemmas.{all_left, all_made, none_left, one_less_left}
use Rattle.iom_way_survey.proofs.directory.survey_rest.Goals as goal

pub loop-made-init : goal.loop-made-init
loop-made-init c = all_left c.args.memory.now c.args.walk c.args.read.now

pub returns-in-Ended : goal.returns-in-Ended
returns-in-Ended c =
    none_left c.args.memory.now c.args.walk c.args.read.now c.loop-made.read c.loop-made._made c.loop-made.progress c.in-Ended.field-0 c.in-Ended.is c.loop-made.invariant

pub loop-made-preserved : goal.loop-made-preserved
loop-made-preserved c =
    one_less_left c.args.memory.now c.args.walk c.in-GoesOn.stands c.args.read.now c.loop-made.read c.insert.new.self c.loop-made._made c.next_load.result.address c.loop-made.progress
    c.load-progress.result c.in-GoesOn.is c.loop-made-test.true c.next_load.ensures.address c.load-progress.ensures c.insert.ensures c.loop-made.invariant

pub returns : goal.returns
returns c =
    let last : c.loop-made._made ≡ 3 = omega arith in
    all_made c.args.memory.now c.args.walk c.args.read.now c.loop-made.read c.loop-made._made c.loop-made.progress last c.loop-made.invariant
