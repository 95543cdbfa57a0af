use Rattle.std.proofs.Common.{◌≡◌, ◌∙◌, Some, slice_get, arith}
use Rattle.std.proofs.lemmas.Option.{slice_get_read}
use Rattle.iom_hardware_session.specs.Shown.{shown_in}
use Rattle.iom_hardware_session.proofs.WatchLemmas.{set_claims, one_more_judged, all_judged, same_count}
use Rattle.iom_hardware_session.proofs.state.Session.judge_each.Goals as goal

pub loop-place-preserved : goal.loop-place-preserved
loop-place-preserved c =
    let session = c.args.self.now in
    let list = c.loop-place.watched in
    let many = same_count c.args.watched.now.items list.items c.loop-place.invariant.0 in
    let at : slice_get list.items c.loop-place.place ≡ Some c.index.result.now =
    slice_get_read list.items _ c.loop-place.place c.index.result.now list.ok.0
    (omega (arith, many, list.ok.0, c.args.watched.now.ok.0, c.len-place-end.ensures, c.loop-place-test.true)) c.index.ensures in (
      set_claims list.items c.loop-place.place c.index.result.now c.fallen-why.result at ∙ c.loop-place.invariant.0,
      λ claimed shows. one_more_judged list.items c.loop-place.place (record { claim = c.index.result.now.claim; why = c.fallen-why.result }) (shown_in session) session.trusted.items claimed
          (c.loop-place.invariant.1 claimed shows) (c.fallen-why.ensures claimed shows),
    )

pub returns : goal.returns
returns c = λ claimed shows.
    let session = c.args.self.now in
    let list = c.loop-place.watched in
    let many = same_count c.args.watched.now.items list.items c.loop-place.invariant.0 in
    all_judged c.args.watched.now.items list.items c.loop-place.place (shown_in session) session.trusted.items claimed c.loop-place.invariant.0
    (omega (arith, many, c.args.watched.now.ok.0, c.len-place-end.ensures, c.loop-place-test.false)) (c.loop-place.invariant.1 claimed shows)
