-- Where no cached frame serves, the walk decides.
use Rattle.std.proofs.Common.{◌∙◌, ◌/◌, sym}
use Rattle.iom_iommu.specs.Stages.{ReachesThrough, StopsThrough}
use Rattle.iom_iommu.proofs.StageLemmas.{walked, through}
use Rattle.iom_iommu.proofs.translations.translate.Goals as goal

pub returns-in-None-clause-translated : goal.returns-in-None-clause-translated
returns-in-None-clause-translated g c =
    let sure = g.C.TransCache.SURE in
    let context = c.args.context.now in
    let memory = c.args.memory.now in
    let old = g.C.TransCache.content c.args.translations.now in
    let new = g.C.TransCache.content c.walk_and_keep.new.translations in
    through sure context memory c.args.address c.args.kind old c.walk_and_keep.result new context.first_stage context.second_stage c.in-Some.space
    (sym c.space_of.ensures ∙ c.in-Some.is)
    (walked sure (ReachesThrough context.first_stage context.second_stage memory c.args.address c.args.kind)
    (StopsThrough context.first_stage context.second_stage memory c.args.address c.args.kind) c.args.kind (c.in-Some.space, c.args.address / 4096) old c.find_cached.result
    c.find_cached.ensures.found (g.C.TransCache.content c.find_cached.new.translations) new c.walk_and_keep.result c.in-None.is c.find_cached.ensures.unchanged
    c.walk_and_keep.ensures.walked)
