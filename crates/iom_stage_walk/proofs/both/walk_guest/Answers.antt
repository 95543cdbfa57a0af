-- The loop that goes down the guest's levels keeps where the path leads, and the frames that were read.
use Rattle.std.proofs.Common.{◌≡◌, ◌+◌, ◌-◌, ◌<◌, [], ◌∷◌, ◌++◌, length, drop, arith, append_assoc, length-append, length-drop, length-take}
use Rattle.std.proofs.lemmas.Result.{err_from_is_err_and}
use Rattle.iom_base.specs.Sizes.{levels_of}
use Rattle.iom_stage_walk.proofs.GuestSteps.{guest_down, guest_stops_down, guest_leaf, guest_unlawful, guest_invalid, guest_unread}
use Rattle.iom_stage_walk.proofs.Padded.{padded_next}
use Rattle.iom_stage_walk.proofs.both.walk_guest.Goals as goal

pub returns-in_err-loaded-clause-err : goal.returns-in_err-loaded-clause-err
returns-in_err-loaded-clause-err g c =
    let p = err_from_is_err_and c.from_residual.result c.from_residual.ensures.1 in
    rw (p.1, p.2)
    (c.loop-k.invariant.stop _ (guest_unread (levels_of c.args.size) (g.B.Bytes.frames_of c.args.memory.now) c.args.second c.args.kind c.loop-k.table c.loop-k.k 0 c.args.indices.now c.loop-k-test.true _ c.in_err-loaded.ensures.err))

pub returns-in-Some-clause-ok : goal.returns-in-Some-clause-ok
returns-in-Some-clause-ok g c =
    let so_far = c.loop-k.invariant.loaded.0 in
    let few : c.loop-k.k < 4 = omega arith in (
      so_far ++ c.in_ok-loaded.loaded.frame ∷ [],
      padded_next 4 c.loop-k.k so_far c.in_ok-loaded.loaded.frame c.loop-k.frames c.loop-k.invariant.loaded.1 few c.loop-k.invariant.loaded.2,
      omega (arith, c.in-Some.ensures.level, length-take (length c.args.indices.now - (c.loop-k.k + 1)) (drop (c.loop-k.k + 1) c.args.indices.now), length-drop (c.loop-k.k + 1) c.args.indices.now, length-append so_far (c.in_ok-loaded.loaded.frame ∷ []), c.loop-k.invariant.loaded.1),
      c.loop-k.invariant.loaded.3 _ _ _
          (guest_leaf (levels_of c.args.size) (g.B.Bytes.frames_of c.args.memory.now) c.args.second c.args.kind c.loop-k.table c.loop-k.k 0 c.args.indices.now c.loop-k-test.true c.in-Leaf.base c.in-Leaf.rights c.in_ok-loaded.loaded.frame c.in_ok-loaded.loaded.entry c.in-Some.leaf.frame c.in-Some.leaf.rights c.in_ok-loaded.ensures.ok c.in-Leaf.is c.in-Some.ensures.some),
    )

pub returns-in-None-clause-err : goal.returns-in-None-clause-err
returns-in-None-clause-err g c =
    c.loop-k.invariant.stop _
    (guest_unlawful (levels_of c.args.size) (g.B.Bytes.frames_of c.args.memory.now) c.args.second c.args.kind c.loop-k.table c.loop-k.k 0 c.args.indices.now c.loop-k-test.true c.in-Leaf.base c.in-Leaf.rights c.in_ok-loaded.loaded.frame c.in_ok-loaded.loaded.entry c.first_fault.result c.in_ok-loaded.ensures.ok c.in-Leaf.is c.in-None.ensures.none c.first_fault.ensures)

pub returns-in-Invalid-clause-err : goal.returns-in-Invalid-clause-err
returns-in-Invalid-clause-err g c =
    c.loop-k.invariant.stop _
    (guest_invalid (levels_of c.args.size) (g.B.Bytes.frames_of c.args.memory.now) c.args.second c.args.kind c.loop-k.table c.loop-k.k 0 c.args.indices.now c.loop-k-test.true c.in_ok-loaded.loaded.frame c.in_ok-loaded.loaded.entry c.first_fault-in-Invalid.result c.in_ok-loaded.ensures.ok c.in-Invalid.is c.first_fault-in-Invalid.ensures)

pub loop-k-preserved : goal.loop-k-preserved
loop-k-preserved g c =
    let frames = g.B.Bytes.frames_of c.args.memory.now in
    let frame = c.in_ok-loaded.loaded.frame in
    let entry = c.in_ok-loaded.loaded.entry in
    let so_far = c.loop-k.invariant.loaded.0 in
    let few : c.loop-k.k < 4 = omega arith in
    let long : length (so_far ++ frame ∷ []) ≡ c.loop-k.k + 1 = omega (arith, length-append so_far (frame ∷ []), c.loop-k.invariant.loaded.1) in
    record {
      range = rw c.in-Pointer.is at c.in_ok-loaded.ensures.bounded;
      loaded = (
        so_far ++ frame ∷ [],
        long,
        padded_next 4 c.loop-k.k so_far frame c.loop-k.frames c.loop-k.invariant.loaded.1 few c.loop-k.invariant.loaded.2,
        λ rest page given h.
            let all = c.loop-k.invariant.loaded.3 (frame ∷ rest) page given (guest_down (levels_of c.args.size) frames c.args.second c.args.kind c.loop-k.table c.loop-k.k 0 c.args.indices.now c.loop-k-test.true c.in-Pointer.next frame entry rest page given c.in_ok-loaded.ensures.ok c.in-Pointer.is h) in
            rw (append_assoc so_far (frame ∷ []) rest) all,
      );
      stop = λ fault h. c.loop-k.invariant.stop fault (guest_stops_down (levels_of c.args.size) frames c.args.second c.args.kind c.loop-k.table c.loop-k.k 0 c.args.indices.now c.loop-k-test.true c.in-Pointer.next frame entry fault c.in_ok-loaded.ensures.ok c.in-Pointer.is h);
    }
