-- The next place is filled.
use Rattle.std.proofs.Common.{◌<◌, arith}
use Rattle.iom_stepped_walk.proofs.ToldLemmas.{next_counted, next_is_padded, next_told}
use Rattle.iom_stepped_walk.proofs.frames.GuestFrames.with.Goals as goal

pub invariant_of-result : goal.invariant_of-result
invariant_of-result c =
    let s = c.args.self in
    let small : s.count < 4 = omega (arith, s.counted, c.requires) in
    record {
      counted = next_counted s.frames s.count c.args.frame s.counted s.filled small;
      filled = next_is_padded s.frames s.count c.args.frame s.counted s.filled small;
    }

pub returns : goal.returns
returns c =
    let s = c.args.self in
    let small : s.count < 4 = omega (arith, s.counted, c.requires) in
    next_told s.frames s.count c.args.frame s.counted s.filled small
