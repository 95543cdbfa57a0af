-- A request that is served names a frame of memory; one that isn't is under way.
use Rattle.std.proofs.Common.{refl, subst}
use Rattle.iom_walks.proofs.Frames.{begun_in_memory}
use Rattle.iom_stepped_requests.specs.declared.request.Request.{Request}
use Rattle.iom_device_dir.specs.Cached.{cached_contexts}
use Rattle.iom_iommu.proofs.SteppedLemmas.{has_place, none_under_way}
use Rattle.iom_iommu.specs.Stepped.{places_taken}
use Rattle.iom_registers.specs.declared.directory.DirectoryPointer.{DirectoryPointer}
use Rattle.iom_stepped_requests.specs.Serving.{begin}
use Rattle.iom_walks.specs.Caches.{LooksAtBegin, looks_for_context}
use Rattle.iom_walks.specs.Calls.{Begins}
use Rattle.iom_walks.specs.Walks.{under_way_of}
use Rattle.iom_walks.specs.declared.outcome.Began.TheVariants as began
use Rattle.iom_iommu.proofs.iommu.Iommu.begin.Goals as goal

pub end-requires-clause-inside : goal.end-requires-clause-inside
end-requires-clause-inside g c =
    let request : Request = record { device = c.args.device; asked = record { address = c.args.address; kind = c.args.kind } } in
    begun_in_memory c.args.self.now.frames (g.C.TransCache.content c.args.self.now.translations) c.args.self.now.cached c.directory_pointer.result
    (cached_contexts c.args.self.now.contexts c.args.device) request c.in-Served.answer (c.in-Served.ensures.begun.0 c.args.self.now.frames)

pub returns-in-Walking-clause-begun : goal.returns-in-Walking-clause-begun
returns-in-Walking-clause-begun g c =
    let request : Request = record { device = c.args.device; asked = record { address = c.args.address; kind = c.args.kind } } in
    let contexts = cached_contexts c.args.self.now.contexts c.args.device in
    let translations = g.C.TransCache.content c.args.self.now.translations in
    let begun = subst
    (λ n. Begins c.args.walks.now request n c.args.bytes.now (λ frames. begin frames c.directory_pointer.result contexts translations request) began.Walking c.begin-began.new.self)
    c.in-Some.ensures.value.long c.in-Walking.ensures.begun in (
      refl,
      record {
        may = record {
          within = c.in-Some.ensures.found.0 refl;
          idle = none_under_way (under_way_of c.args.walks.now c.args.device) c.is_walking.result c.if-is_walking.false c.is_walking.ensures;
          room = has_place (places_taken c.args.self.now.in_flight c.args.walks.now c.args.device) c.is_full_beside.result c.if-is_full_beside.false c.is_full_beside.ensures;
        };
        begun = subst
            (λ (d : DirectoryPointer).
            Begins c.args.walks.now request c.args.len c.args.bytes.now (λ frames. begin frames d contexts translations request) began.Walking c.begin-began.new.self)
            c.directory_pointer.ensures begun;
        looks = record {
          contexts = subst (λ (d : DirectoryPointer). LooksAtBegin (looks_for_context d.mode c.args.device) c.args.device c.args.self.now.contexts c.begin-began.new.contexts)
              c.directory_pointer.ensures c.in-Walking.ensures.contexts;
          translations = c.in-Walking.ensures.translations;
        };
        rest = refl;
      },
    )
