-- A walk's answer is the end of the path, exactly.
use Rattle.std.proofs.Common.{Ok, Err, false, refl}
use Rattle.iom_base.specs.Sizes.{levels_of}
use Rattle.iom_stage_walk.specs.Paths.{ReachesFirst, StopsFirst}
use Rattle.iom_stage_walk.proofs.Ends.{exactly_ok, exactly_err}
use Rattle.iom_stage_walk.proofs.Exact.{one_walked, one_fault, reached_not_stopped}
use Rattle.iom_stage_walk.proofs.walk.walk_first.Goals as goal

pub returns-in-Ok-clause-reached : goal.returns-in-Ok-clause-reached
returns-in-Ok-clause-reached g c =
    let frames = g.B.Bytes.frames_of c.args.memory.now in
    let root = c.args.root in
    let address = c.args.address in
    let kind = c.args.kind in
    let levels = levels_of c.args.size in
    exactly_ok (ReachesFirst levels frames root address kind) (StopsFirst levels frames root address kind) (one_walked levels frames root address kind kind) (one_fault levels frames root address kind)
    (λ a f p q. reached_not_stopped levels frames root address kind a f.cause p q.cause)
    (Ok c.in-Ok.walked)
    c.in-Ok.ensures.ok tt

pub returns-in-Err-clause-reached : goal.returns-in-Err-clause-reached
returns-in-Err-clause-reached g c =
    let frames = g.B.Bytes.frames_of c.args.memory.now in
    let root = c.args.root in
    let address = c.args.address in
    let kind = c.args.kind in
    let levels = levels_of c.args.size in
    exactly_ok (ReachesFirst levels frames root address kind) (StopsFirst levels frames root address kind) (one_walked levels frames root address kind kind) (one_fault levels frames root address kind)
    (λ a f p q. reached_not_stopped levels frames root address kind a f.cause p q.cause)
    (Err record { cause = c.in-Err.cause; gpa = 0; implicit = false }) tt
    record { cause = c.in-Err.ensures.err; no_guest_address = refl; explicit = refl }

pub returns-in-Err-clause-stopped : goal.returns-in-Err-clause-stopped
returns-in-Err-clause-stopped g c =
    let frames = g.B.Bytes.frames_of c.args.memory.now in
    let root = c.args.root in
    let address = c.args.address in
    let kind = c.args.kind in
    let levels = levels_of c.args.size in
    exactly_err (ReachesFirst levels frames root address kind) (StopsFirst levels frames root address kind) (one_walked levels frames root address kind kind) (one_fault levels frames root address kind)
    (λ a f p q. reached_not_stopped levels frames root address kind a f.cause p q.cause)
    (Err record { cause = c.in-Err.cause; gpa = 0; implicit = false }) tt
    record {
      cause = c.in-Err.ensures.err;
      no_guest_address = refl;
      explicit = refl;
    }
