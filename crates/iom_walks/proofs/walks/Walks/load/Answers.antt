-- The row makes its load, and stands at its place again; then the caches keep what it found.
use Rattle.std.proofs.Common.{◌∙◌, ◌+◌, List, length, set, Option, sym, ap, subst}
use Rattle.std.proofs.lemmas.List.{length-set}
use Rattle.iom_stepped_requests.specs.declared.request.Kept.{Kept}
use Rattle.iom_walks.specs.Caches.{LeavesTranslations, OffersContext, OffersTranslation, to_keep}
use Rattle.iom_walks.specs.Calls.{Loads}
use Rattle.iom_walks.specs.Rows.{RowStandsAt}
use Rattle.iom_walks.specs.Walks.{UnderWay, WalkRow, under_way_of}
use Rattle.iom_walks.proofs.ByPlace.{loads_at, sound_loads_at, under_way_found}
use Rattle.iom_walks.proofs.CacheLemmas.{leaves_after, offers_after}
use Rattle.iom_walks.proofs.walks.Walks.load.Goals as goal

pub invariant_of-self : goal.invariant_of-self
invariant_of-self g c =
    let stands = subst (λ (rs : List WalkRow). RowStandsAt rs c.args.device c.in-Some.place) c.deref.ensures.value c.in-Some.ensures in (
      c.self.invariant.0,
      ap (λ n. n + length c.self.inside.spare.items) (length-set c.self.inside.rows.items c.in-Some.place c.load-found.new.self) ∙ c.self.invariant.1,
      sound_loads_at c.self.inside.rows.items c.args.device c.in-Some.place c.index_mut-row.result.now stands c.index_mut-row.ensures.value (g.B.Bytes.frames_of c.args.memory.now)
          (g.C.TransCache.content c.args.translations.now) c.load-found.result.loaded c.load-found.new.self c.self.invariant.2 c.load-found.ensures.loaded,
    )

pub returns-clause-loaded : goal.returns-clause-loaded
returns-clause-loaded g c =
    let stands = subst (λ (rs : List WalkRow). RowStandsAt rs c.args.device c.in-Some.place) c.deref.ensures.value c.in-Some.ensures in
    subst
    (λ (rs : List WalkRow). Loads (g.B.Bytes.frames_of c.args.memory.now) (g.C.TransCache.content c.args.translations.now) rs c.args.device c.load-found.result.loaded
    (set c.self.inside.rows.items c.in-Some.place c.load-found.new.self))
    c.self.view_is
    (loads_at c.self.inside.rows.items c.args.device c.in-Some.place c.index_mut-row.result.now stands c.index_mut-row.ensures.value (g.B.Bytes.frames_of c.args.memory.now)
    (g.C.TransCache.content c.args.translations.now) c.load-found.result.loaded c.load-found.new.self c.self.invariant.2 c.load-found.ensures.loaded)

pub returns-clause-contexts : goal.returns-clause-contexts
returns-clause-contexts g c =
    let stands = subst (λ (rs : List WalkRow). RowStandsAt rs c.args.device c.in-Some.place) c.deref.ensures.value c.in-Some.ensures in
    let walks = sym (under_way_found c.self.inside.rows.items c.args.device c.in-Some.place c.index_mut-row.result.now stands c.index_mut-row.ensures.value)
    ∙ ap (λ (rs : List WalkRow). under_way_of rs c.args.device) c.self.view_is in
    subst (λ (k : Kept). OffersContext k c.args.contexts.now c.keep.new.contexts)
    (c.load-found.ensures.kept ∙ ap (to_keep (g.B.Bytes.frames_of c.args.memory.now)) walks) c.keep.ensures.contexts

pub returns-clause-translations : goal.returns-clause-translations
returns-clause-translations g c =
    let stands = subst (λ (rs : List WalkRow). RowStandsAt rs c.args.device c.in-Some.place) c.deref.ensures.value c.in-Some.ensures in
    let walks = sym (under_way_found c.self.inside.rows.items c.args.device c.in-Some.place c.index_mut-row.result.now stands c.index_mut-row.ensures.value)
    ∙ ap (λ (rs : List WalkRow). under_way_of rs c.args.device) c.self.view_is in
    subst
    (λ (k : Kept).
    OffersTranslation g.C.TransCache.SURE k (g.C.TransCache.content c.args.translations.now) (g.C.TransCache.content c.keep.new.translations))
    (c.load-found.ensures.kept ∙ ap (to_keep (g.B.Bytes.frames_of c.args.memory.now)) walks)
    (offers_after g.C.TransCache.SURE c.load-found.result.kept (g.C.TransCache.content c.args.translations.now) (g.C.TransCache.content c.load-found.new.translations)
    (g.C.TransCache.content c.keep.new.translations) c.load-found.ensures.unchanged c.keep.ensures.translations)

pub returns-clause-untouched : goal.returns-clause-untouched
returns-clause-untouched g c =
    let stands = subst (λ (rs : List WalkRow). RowStandsAt rs c.args.device c.in-Some.place) c.deref.ensures.value c.in-Some.ensures in
    let walks = sym (under_way_found c.self.inside.rows.items c.args.device c.in-Some.place c.index_mut-row.result.now stands c.index_mut-row.ensures.value)
    ∙ ap (λ (rs : List WalkRow). under_way_of rs c.args.device) c.self.view_is in
    let memory = g.B.Bytes.frames_of c.args.memory.now in
    subst (λ (u : Option UnderWay). LeavesTranslations memory u c.args.translations.now c.keep.new.translations) walks
    (leaves_after memory c.index_mut-row.result.now.under_way c.load-found.result.kept c.args.translations.now c.load-found.new.translations c.keep.new.translations
    c.load-found.ensures.kept c.load-found.ensures.untouched c.keep.ensures.untouched)
