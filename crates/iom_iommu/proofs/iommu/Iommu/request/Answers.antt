-- The frame of the access that was accepted is one of memory, and those that are cached are.
use Rattle.std.proofs.Common.{◌<◌, IfOk, refl, subst}
use Rattle.iom_inflight.proofs.InMemory.{accepted_in_memory}
use Rattle.iom_device_dir.specs.Cached.{cached_contexts}
use Rattle.iom_inflight.specs.Calls.{IsAccepted}
use Rattle.iom_iommu.specs.Requests.{access_of}
use Rattle.iom_iommu.proofs.CachedLemmas.{serve_inside}
use Rattle.iom_iommu.proofs.iommu.Iommu.request.Goals as goal

pub serve-requires : goal.serve-requires
serve-requires g c = rw c.requires.memory c.args.self.now.cached

pub invariant_of-self : goal.invariant_of-self
invariant_of-self g c = record {
  inside = accepted_in_memory c.args.self.now.frames c.args.self.now.in_flight c.args.device _ c.accept.result c.accept.new.in_flight c.accept.ensures
      (subst (λ n. c.in-Ok.translation.frame < n) c.requires.memory c.in-Ok.ensures.inside) c.args.self.now.inside;
  cached = serve_inside c.args.self.now.frames g.C.TransCache.SURE c.args.memory.now c.args.self.now.registers (cached_contexts c.args.self.now.contexts) c.args.device c.args.address
      c.args.kind (g.C.TransCache.content c.args.self.now.translations) c.serve.result (g.C.TransCache.content c.serve.new.translations) c.args.self.now.cached
      (subst (λ n. IfOk c.serve.result (λ translation. translation.frame < n)) c.requires.memory c.serve.ensures.inside) c.serve.ensures.served;
}

pub invariant_of-self-in-Err : goal.invariant_of-self-in-Err
invariant_of-self-in-Err g c = record {
  inside = c.args.self.now.inside;
  cached = serve_inside c.args.self.now.frames g.C.TransCache.SURE c.args.memory.now c.args.self.now.registers (cached_contexts c.args.self.now.contexts) c.args.device c.args.address
      c.args.kind (g.C.TransCache.content c.args.self.now.translations) c.serve.result (g.C.TransCache.content c.serve.new.translations) c.args.self.now.cached
      (subst (λ n. IfOk c.serve.result (λ translation. translation.frame < n)) c.requires.memory c.serve.ensures.inside) c.serve.ensures.served;
}

pub returns-in-Ok-clause-answered : goal.returns-in-Ok-clause-answered
returns-in-Ok-clause-answered g c = (
  record {
    within = c.in-Some.ensures.found.0 refl;
    frame = c.in-Ok.translation.frame;
    rights = c.in-Ok.translation.rights;
    order = c.in-Ok.translation.order;
    served = c.in-Ok.ensures.served;
    inside = subst (λ n. c.in-Ok.translation.frame < n) c.requires.memory c.in-Ok.ensures.inside;
    accepted = subst (λ n. IsAccepted c.args.self.now.in_flight c.args.device
        (record { access = access_of c.args.address n c.args.kind c.args.bytes.now; frame = c.in-Ok.translation.frame }) c.accept.result c.accept.new.in_flight)
        c.in-Some.ensures.value.long c.accept.ensures;
    contexts = c.in-Ok.ensures.kept;
    rest = refl;
  },
  refl,
)
