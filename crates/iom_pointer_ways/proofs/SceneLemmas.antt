-- What pointers add to the ways of a scene, and to what hardware reads.
use Rattle.std.proofs.Common.{◌≡◌, ◌⊎◌, ◌∙◌, inl, inr, ℕ, List, [], map, Contains, Option, None, Some, sym, ap, subst}
use Rattle.std.proofs.lemmas.List.Elements.{Contains-append_cases, Contains-append_left, Contains-append_right}
use Rattle.std.proofs.lemmas.Option.{none-some}
use Rattle.iom_base.specs.declared.access.AccessKind.{AccessKind}
use Rattle.iom_pointers.specs.declared.pointer.Pointer.{Pointer}
use Rattle.iom_reach.specs.Memory.{ReadsFrame, WalkStep}
use Rattle.iom_reach.specs.Safe.{IsOfTables}
use Rattle.iom_reach.specs.Scene.{AddressSpace, Context, DirectoryWalk, HardwareScene, PartialWalk, PendingAccess}
use Rattle.iom_reach.specs.Ways.{ByAts, Untranslated, Translated, Through, LeadsToMapping, MayFind, Way, Accepted, AnyFrame, ByContext, OnTheWalk, WalkBegins, AtRoot, PartWay}
use Rattle.iom_hardware_ways.proofs.ListLemmas.{contains_map, in_none, map_cases}
use Rattle.iom_stepped_ways.proofs.FrameLemmas.{begins_beside, found_beside}
use Rattle.iom_stepped_ways.specs.Scenes.{Added, address_space, with_added}
use Rattle.iom_pointer_ways.specs.Laws.{LeadsByPointer, PointersAddTheirTables, PointersAddTheirWays, ReadsByPointer}
use Rattle.iom_pointer_ways.specs.Scenes.{walk_from, walks_from}

module _ (s : HardwareScene) (pointers : List Pointer) where
  abbrev a : Added
  a = walks_from pointers

  abbrev walk_at : Option ℕ → AddressSpace → ℕ → (ℕ → List WalkStep) → PartialWalk
  walk_at device space table steps_to = record { device = device; space = space; table = table; steps_to = steps_to }

  -- a walk of a part that is one of the scene's, or begins at a pointer
  part_cases : (walk : PartialWalk) → Contains (with_added s a).partial_walks walk
      → Contains s.partial_walks walk ⊎ ((pointer : Pointer) × Contains pointers pointer × (walk_from pointer ≡ walk))
  part_cases walk there = elim (Contains-append_cases s.partial_walks (map walk_from pointers) walk there) [
    | inl old ↦ inl old
    | inr new ↦ inr (map_cases walk_from pointers walk new)
  ]

  -- A CONTEXT that may be found could be found without them
  found_back : (device : ℕ) (context : Context) → MayFind (with_added s a) device context → MayFind s device context
  found_back device context (plugged, inl looked) = (plugged, inl looked)
  found_back device context (plugged, inr (table, steps, there, ends)) = elim (Contains-append_cases s.directory_walks [] (walk table steps) there) [
    | inl old ↦ (plugged, inr (table, steps, old, ends))
    | inr none ↦ absurd (in_none (walk table steps) none)
  ]
    where
      walk : ℕ → List WalkStep → DirectoryWalk
      walk table steps = record { device = device; table = table; steps = steps }

  -- A WALK BEGINS as it did, or at a pointer
  abbrev BeginsAtPointer : AddressSpace → ℕ → (ℕ → List WalkStep) → Type 0
  BeginsAtPointer space table steps_to =
      (pointer : Pointer) × Contains pointers pointer × (walk_from pointer ≡ walk_at None space table steps_to)

  begins_back : (space : AddressSpace) (table : ℕ) (steps_to : ℕ → List WalkStep) → WalkBegins (with_added s a) space table steps_to
      → WalkBegins s space table steps_to ⊎ BeginsAtPointer space table steps_to
  begins_back space table steps_to (AtRoot device context tables find is decide root all) =
      inl (AtRoot device context tables (found_back device context find) is decide root all)
  begins_back space table steps_to (PartWay device there) = elim (part_cases (walk_at device space table steps_to) there) [
    | inl old ↦ inl (PartWay device old)
    | inr (pointer, among, is) ↦ inr (pointer, among, ap (λ (w : PartialWalk). walk_at None w.space w.table w.steps_to) is)
  ]

  begins_at_pointer : (pointer : Pointer) → Contains pointers pointer
      → WalkBegins (with_added s a) (address_space pointer.space) pointer.table.number (walk_from pointer).steps_to
  begins_at_pointer pointer among =
      PartWay None (Contains-append_right s.partial_walks (map walk_from pointers) (walk_from pointer) (contains_map walk_from pointers pointer among))

  -- WAYS
  through_back : (device frame : ℕ) (kind : AccessKind) (context : Context) → MayFind s device context → Through (with_added s a) device context frame kind
      → Way s device frame kind ⊎ LeadsByPointer s pointers device frame kind
  through_back device frame kind context find (ByAts lets through) = inl (ByContext context find (ByAts lets through))
  through_back device frame kind context find (Untranslated none) = inl (ByContext context find (Untranslated none))
  through_back device frame kind context find (Translated space is (inl cached)) = inl (ByContext context find (Translated space is (inl cached)))
  through_back device frame kind context find (Translated space is (inr (table, steps_to, mapping, begins, leads, serves))) =
      elim (begins_back space table steps_to begins) [
        | inl old ↦ inl (ByContext context find (Translated space is (inr (table, steps_to, mapping, old, leads, serves))))
        | inr (pointer, among, same) ↦ inr (
          context,
          find,
          (
            pointer,
            among,
            is ∙ ap (λ (w : PartialWalk). Some w.space) (sym same),
            (mapping, subst (λ (w : PartialWalk). LeadsToMapping s.formats s.memory w.table w.steps_to mapping) (sym same) leads, serves),
          ),
        )
      ]

  way_back : (device frame : ℕ) (kind : AccessKind) → Way (with_added s a) device frame kind
      → Way s device frame kind ⊎ LeadsByPointer s pointers device frame kind
  way_back device frame kind (Accepted there) = elim (Contains-append_cases (s.in_flight device) [] access there) [
    | inl flies ↦ inl (Accepted flies)
    | inr none ↦ absurd (in_none access none)
  ]
    where
      access : PendingAccess
      access = record { frame = frame; kind = kind }
  way_back device frame kind (AnyFrame plugged bare) = inl (AnyFrame plugged bare)
  way_back device frame kind (ByContext context find through) = through_back device frame kind context (found_back device context find) through
  way_back device frame kind (OnTheWalk space table steps_to mapping there leads serves) = elim (part_cases (walk_at (Some device) space table steps_to) there) [
    | inl old ↦ inl (OnTheWalk space table steps_to mapping old leads serves)
    -- a walk from a pointer is of no device
    | inr (pointer, among, is) ↦ absurd (none-some device (ap (λ (w : PartialWalk). w.device) is))
  ]

  through_beside : (device frame : ℕ) (kind : AccessKind) (context : Context) → Through s device context frame kind → Through (with_added s a) device context frame kind
  through_beside device frame kind context (ByAts lets through) = ByAts lets through
  through_beside device frame kind context (Untranslated none) = Untranslated none
  through_beside device frame kind context (Translated space is (inl cached)) = Translated space is (inl cached)
  through_beside device frame kind context (Translated space is (inr (table, steps_to, mapping, begins, leads, serves))) =
      Translated space is (inr (table, steps_to, mapping, begins_beside s a space table steps_to begins, leads, serves))

  way_beside : (device frame : ℕ) (kind : AccessKind) → Way s device frame kind → Way (with_added s a) device frame kind
  way_beside device frame kind (Accepted there) = Accepted (Contains-append_left (s.in_flight device) [] (record { frame = frame; kind = kind }) there)
  way_beside device frame kind (AnyFrame plugged bare) = AnyFrame plugged bare
  way_beside device frame kind (ByContext context find through) =
      ByContext context (found_beside s a device context find) (through_beside device frame kind context through)
  way_beside device frame kind (OnTheWalk space table steps_to mapping there leads serves) =
      OnTheWalk space table steps_to mapping (Contains-append_left s.partial_walks (map walk_from pointers) (walk_at (Some device) space table steps_to) there) leads serves

  way_by_pointer : (device frame : ℕ) (kind : AccessKind) → LeadsByPointer s pointers device frame kind → Way (with_added s a) device frame kind
  way_by_pointer device frame kind (context, find, (pointer, among, is, (mapping, leads, serves))) =
      ByContext context (found_beside s a device context find)
      (Translated (address_space pointer.space) is
      (inr (pointer.table.number, (walk_from pointer).steps_to, mapping, begins_at_pointer pointer among, leads, serves)))

  -- TABLES
  table_back : (frame : ℕ) → IsOfTables (with_added s a) frame → IsOfTables s frame ⊎ ReadsByPointer s pointers frame
  table_back frame (space, table, steps_to, page, begins, reads) = elim (begins_back space table steps_to begins) [
    | inl old ↦ inl (space, table, steps_to, page, old, reads)
    | inr (pointer, among, same) ↦
        inr (pointer, among, (page, subst (λ (w : PartialWalk). ReadsFrame s.formats.entry s.memory w.table (w.steps_to page) frame) (sym same) reads))
  ]

  table_beside : (frame : ℕ) → IsOfTables s frame ⊎ ReadsByPointer s pointers frame → IsOfTables (with_added s a) frame
  table_beside frame (inl (space, table, steps_to, page, begins, reads)) = (space, table, steps_to, page, begins_beside s a space table steps_to begins, reads)
  table_beside frame (inr (pointer, among, (page, reads))) =
      (address_space pointer.space, pointer.table.number, (walk_from pointer).steps_to, page, begins_at_pointer pointer among, reads)

pub pointers_add_their_ways : PointersAddTheirWays
pointers_add_their_ways scene pointers device frame kind = (
  way_back scene pointers device frame kind,
  (λ any. elim any [ inl old ↦ way_beside scene pointers device frame kind old | inr leads ↦ way_by_pointer scene pointers device frame kind leads ]),
)

pub pointers_add_their_tables : PointersAddTheirTables
pointers_add_their_tables scene pointers frame = (table_back scene pointers frame, table_beside scene pointers frame)
