-- What the load finds lies in memory; and at its end the request is answered, with the bytes of its row.
use Rattle.std.proofs.Common.{◌≡◌, ◌∙◌, Option, refl, sym, ap, subst}
use Rattle.iom_iommu.proofs.SameParts.{one_iommu}
use Rattle.iom_iommu.proofs.SteppedLemmas.{ended_bytes, offered_inside, replies_before}
use Rattle.iom_iommu.specs.Requests.{access_of}
use Rattle.iom_iommu.specs.Stepped.{Replies, translation_by}
use Rattle.iom_walks.proofs.Frames.{ended_in_memory, kept_in_memory}
use Rattle.iom_stepped_requests.specs.declared.request.Request.{Request}
use Rattle.iom_walks.specs.Caches.{LeavesTranslations, OffersContext, OffersTranslation, to_keep}
use Rattle.iom_walks.specs.Frames.{AreCachedIn, IsAnswerIn, IsKeptIn}
use Rattle.iom_walks.specs.Walks.{UnderWay, under_way_of}
use Rattle.iom_iommu.proofs.iommu.Iommu.load.Goals as goal

pub invariant_of-self : goal.invariant_of-self
invariant_of-self g c =
    let found = to_keep c.args.memory.now (under_way_of c.args.walks.now c.args.device) in
    record {
      inside = c.args.self.now.inside;
      cached = offered_inside c.args.self.now.frames g.C.TransCache.SURE found (g.C.TransCache.content c.args.self.now.translations) (g.C.TransCache.content c.load-loaded.new.translations)
          c.args.self.now.cached (subst (λ n. IsKeptIn n found) c.requires.memory (kept_in_memory c.args.memory.now (under_way_of c.args.walks.now c.args.device)))
          c.load-loaded.ensures.translations;
    }

pub end-requires-clause-carries : goal.end-requires-clause-carries
end-requires-clause-carries g c =
    let loads = c.in-Ended.ensures.loaded in
    let bytes = c.bytes-bytes.ensures ∙ ended_bytes c.args.memory.now (g.C.TransCache.content c.args.self.now.translations) c.args.walks.now c.args.device c.in-Ended.ended c.load-loaded.new.self loads in
    rw (loads.request, loads.len, bytes) loads.carries

pub end-requires-clause-inside : goal.end-requires-clause-inside
end-requires-clause-inside g c =
    let cached = g.C.TransCache.content c.args.self.now.translations in
    subst (λ n. IsAnswerIn n c.in-Ended.ended.answer) c.requires.memory
    (ended_in_memory c.args.memory.now cached (subst (λ n. AreCachedIn n cached) (sym c.requires.memory) c.args.self.now.cached) c.args.walks.now c.facts.ensures c.args.device
    c.in-Ended.ended c.load-loaded.new.self c.in-Ended.ensures.loaded)

pub returns-in-Nothing-clause-loaded : goal.returns-in-Nothing-clause-loaded
returns-in-Nothing-clause-loaded g c =
    let none = c.in-Nothing.ensures.loaded.0 in
    let contexts = subst (λ (u : Option UnderWay). OffersContext (to_keep c.args.memory.now u) c.args.self.now.contexts c.load-loaded.new.contexts) none c.load-loaded.ensures.contexts in
    let translations = subst (λ (u : Option UnderWay). LeavesTranslations c.args.memory.now u c.args.self.now.translations c.load-loaded.new.translations) none c.load-loaded.ensures.untouched in (
      none,
      (
        refl,
        one_iommu _ c.args.self.now
            (record { registers = refl; contexts = contexts; translations = translations; flights = refl; fence_snapshot = refl; waits = refl; slots = refl; frames = refl }),
        c.in-Nothing.ensures.loaded.1,
      ),
    )

pub returns-in-Ended-clause-loaded : goal.returns-in-Ended-clause-loaded
returns-in-Ended-clause-loaded g c =
    let loads = c.in-Ended.ensures.loaded in
    let cached = g.C.TransCache.content c.args.self.now.translations in
    let ended = c.in-Ended.ended in
    let bytes = c.bytes-bytes.ensures ∙ ended_bytes c.args.memory.now cached c.args.walks.now c.args.device ended c.load-loaded.new.self loads in
    let device : ended.request.device ≡ c.args.device = ap (λ (r : Request). r.device) loads.request ∙ loads.own in
    let replied = replies_before c.args.self.now c.load-loaded.new.contexts c.load-loaded.new.translations _ _ c.args.memory.now ended.request.device
    (access_of ended.request.asked.address ended.len ended.request.asked.kind c.bytes-bytes.result.now)
    (translation_by c.args.memory.now ended.request.asked.address ended.request.asked.kind ended.answer) c.end.result c.end.new.memory c.end.new.self c.end.ensures.replied in
    record {
      ended = ended;
      loads = loads;
      offers = record {
        contexts = subst (λ k. OffersContext (to_keep c.args.memory.now (under_way_of c.args.walks.now c.args.device)) c.args.self.now.contexts k) (sym c.end.ensures.caches.0)
            c.load-loaded.ensures.contexts;
        translations = subst (λ t. OffersTranslation g.C.TransCache.SURE (to_keep c.args.memory.now (under_way_of c.args.walks.now c.args.device)) cached (g.C.TransCache.content t))
            (sym c.end.ensures.caches.1) c.load-loaded.ensures.translations;
        untouched = subst (λ t. LeavesTranslations c.args.memory.now (under_way_of c.args.walks.now c.args.device) c.args.self.now.translations t) (sym c.end.ensures.caches.1)
            c.load-loaded.ensures.untouched;
      };
      replied = subst (λ d. Replies c.args.memory.now c.args.self.now d (access_of ended.request.asked.address ended.len ended.request.asked.kind loads.row.bytes)
          (translation_by c.args.memory.now ended.request.asked.address ended.request.asked.kind ended.answer) c.end.result c.end.new.memory c.end.new.self) device
          (subst (λ b. Replies c.args.memory.now c.args.self.now ended.request.device (access_of ended.request.asked.address ended.len ended.request.asked.kind b)
          (translation_by c.args.memory.now ended.request.asked.address ended.request.asked.kind ended.answer) c.end.result c.end.new.memory c.end.new.self) bytes replied);
    }
