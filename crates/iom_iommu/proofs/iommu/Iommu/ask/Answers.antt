-- The frames that are cached are those of memory.
use Rattle.std.proofs.Common.{◌<◌, ◌*◌, IfOk, Ok, refl, subst}
use Rattle.iom_base.specs.declared.access.AccessKind.TheVariants.{Read}
use Rattle.iom_iommu.specs.Service.{ServesBy}
use Rattle.iom_iommu.proofs.CachedLemmas.{served_by_inside}
use Rattle.iom_iommu.proofs.iommu.Iommu.ask.Goals as goal

pub invariant_of-self : goal.invariant_of-self
invariant_of-self g c = record {
  inside = c.args.self.now.inside;
  cached = served_by_inside c.args.self.now.frames (g.C.TransCache.content c.args.self.now.translations) (g.C.TransCache.content c.translate_by.new.translations)
      c.args.self.now.cached g.C.TransCache.SURE c.args.memory.now (c.number-address.result * 4096) Read c.find_ats_context-found.result c.translate_by.result
      (subst (λ n. IfOk c.translate_by.result (λ translation. translation.frame < n)) c.requires c.translate_by.ensures.inside) c.translate_by.ensures.served;
}

pub invariant_of-self-in-Err : goal.invariant_of-self-in-Err
invariant_of-self-in-Err g c = record {
  inside = c.args.self.now.inside;
  cached = served_by_inside c.args.self.now.frames (g.C.TransCache.content c.args.self.now.translations) (g.C.TransCache.content c.translate_by.new.translations)
      c.args.self.now.cached g.C.TransCache.SURE c.args.memory.now (c.number-address.result * 4096) Read c.find_ats_context-found.result c.translate_by.result
      (subst (λ n. IfOk c.translate_by.result (λ translation. translation.frame < n)) c.requires c.translate_by.ensures.inside) c.translate_by.ensures.served;
}

pub returns-in-Ok-clause-answered : goal.returns-in-Ok-clause-answered
returns-in-Ok-clause-answered g c =
    let sure = g.C.TransCache.SURE in
    let memory = c.args.memory.now in
    let old = g.C.TransCache.content c.args.self.now.translations in
    let new = g.C.TransCache.content c.translate_by.new.translations in (
      record {
        order = c.in-Ok.translation.order;
        served = subst (λ found. ServesBy sure found memory (c.args.page * 4096) Read old (Ok c.in-Ok.translation) new) c.find_ats_context-found.ensures.found
            (subst (λ n. ServesBy sure c.find_ats_context-found.result memory (n * 4096) Read old (Ok c.in-Ok.translation) new) c.number-address.ensures.value c.in-Ok.ensures.served);
        inside = subst (λ n. c.in-Ok.translation.frame < n) c.requires c.in-Ok.ensures.inside;
        contexts = c.find_ats_context-found.ensures.kept;
        rest = refl;
      },
      refl,
    )
