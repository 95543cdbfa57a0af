-- The request begins with the context for which it looked, and its walk is of it.
use Rattle.std.proofs.Common.{sym, ap, refl, subst}
use Rattle.iom_base.specs.Spans.{FitsInPage}
use Rattle.iom_device_dir.specs.Cached.{cached_contexts}
use Rattle.iom_inflight.specs.Invariant.{CarriesBytes}
use Rattle.iom_stepped_requests.specs.Serving.{begin}
use Rattle.iom_stepped_requests.specs.declared.request.Request.{Request}
use Rattle.iom_stepped_requests.specs.declared.walk.Serving.TheVariants.{GoesOn, Served}
use Rattle.iom_walks.proofs.BeginLemmas.{begun_walk_of, has_begun, starts_walking}
use Rattle.iom_walks.proofs.walks.Walks.begin.Goals as goal

pub walk-requires-clause-own : goal.walk-requires-clause-own
walk-requires-clause-own g c =
    let request : Request = record { device = c.args.device; asked = record { address = c.args.address; kind = c.args.kind } } in
    let same = begun_walk_of c.args.ddtp c.look_for_context-cached.result (g.C.TransCache.content c.args.translations.now) request c.in-GoesOn.walk c.in-GoesOn.ensures.begun in
    ap (λ (r : Request). r.device) same

pub walk-requires-clause-within : goal.walk-requires-clause-within
walk-requires-clause-within g c =
    let request : Request = record { device = c.args.device; asked = record { address = c.args.address; kind = c.args.kind } } in
    let same = begun_walk_of c.args.ddtp c.look_for_context-cached.result (g.C.TransCache.content c.args.translations.now) request c.in-GoesOn.walk c.in-GoesOn.ensures.begun in
    subst (λ (r : Request). FitsInPage r.asked.address c.args.len) (sym same) c.requires.within

pub walk-requires-clause-carries : goal.walk-requires-clause-carries
walk-requires-clause-carries g c =
    let request : Request = record { device = c.args.device; asked = record { address = c.args.address; kind = c.args.kind } } in
    let same = begun_walk_of c.args.ddtp c.look_for_context-cached.result (g.C.TransCache.content c.args.translations.now) request c.in-GoesOn.walk c.in-GoesOn.ensures.begun in
    subst (λ (r : Request). CarriesBytes r.asked.kind c.args.len c.args.bytes.now) (sym same) c.requires.carries

pub returns-in-Served-clause-begun : goal.returns-in-Served-clause-begun
returns-in-Served-clause-begun g c =
    let request : Request = record { device = c.args.device; asked = record { address = c.args.address; kind = c.args.kind } } in (
      has_begun c.args.ddtp (cached_contexts c.args.contexts.now c.args.device) c.look_for_context-cached.result (g.C.TransCache.content c.args.translations.now) request
          (Served c.in-Served.answer) c.look_for_context-cached.ensures.found c.in-Served.ensures.begun,
      refl,
    )

pub returns-in-GoesOn-clause-begun : goal.returns-in-GoesOn-clause-begun
returns-in-GoesOn-clause-begun g c =
    let request : Request = record { device = c.args.device; asked = record { address = c.args.address; kind = c.args.kind } } in
    let content = g.C.TransCache.content c.args.translations.now in
    let context = cached_contexts c.args.contexts.now c.args.device in
    let same = begun_walk_of c.args.ddtp c.look_for_context-cached.result content request c.in-GoesOn.walk c.in-GoesOn.ensures.begun in
    starts_walking c.args.self.now c.walk.new.self request c.in-GoesOn.walk c.args.len c.args.bytes.now (λ frames. begin frames c.args.ddtp context content request) same
    (has_begun c.args.ddtp context c.look_for_context-cached.result content request (GoesOn c.in-GoesOn.walk) c.look_for_context-cached.ensures.found c.in-GoesOn.ensures.begun)
    c.walk.ensures
