-- What a scene has less of: then it has no way that the other hasn't.
use Rattle.std.proofs.Common.{◌≡◌, ◌⊎◌, inl, inr, ℕ, List, Contains, Some, refl, subst}
use Rattle.iom_base.specs.declared.access.AccessKind.{AccessKind}
use Rattle.iom_base.specs.declared.access.AccessKind.TheVariants.{Write}
use Rattle.iom_reach.proofs.WalkLemmas.{alike_ends, alike_reads, passes_here, passes_ends, passes_reads}
use Rattle.iom_reach.specs.Laws.{AddsNoWay}
use Rattle.iom_reach.specs.Safe.{IsRead, IsOfTables, IsOfDirectory, IsWritable, HasWord, IsSafe}
use Rattle.iom_reach.specs.Scene.{Mapping, AddressSpace, Context, Caches, PendingAccess, PartialWalk, DirectoryWalk, Place, HardwareScene, HasDevice}
use Rattle.iom_reach.specs.Ways.{ServesKind, LeadsToMapping, IsStored, IsSought, MayFind, IsKept, WalkBegins, AtRoot, PartWay, IsInSpace, Through, ByAts, Untranslated, Translated, Way, Accepted, AnyFrame, ByContext, OnTheWalk}
use Rattle.iom_reach.specs.Transitions.{IsContinued, IsSoughtOn}
use Rattle.iom_reach.specs.Memory.{WalkStep, Ends, ReadsFrame, Passes}

-- the one scene, with all of the other that hardware changes
abbrev pub with : HardwareScene → HardwareScene → HardwareScene
with s n = record s {
  memory = n.memory;
  waiting = n.waiting;
  contexts = n.contexts;
  translations = n.translations;
  partial_walks = n.partial_walks;
  directory_walks = n.directory_walks;
  ats_entries = n.ats_entries;
  epoch_of = n.epoch_of;
  messages = n.messages;
  in_flight = n.in_flight;
}

pub record Less (s n : HardwareScene) : Type 0 where
  pub memory : (frame : ℕ) → IsRead s frame → n.memory frame ≡ s.memory frame
  pub waiting : (place : Place) → Contains n.waiting place → Contains s.waiting place
  pub contexts : (device : ℕ) (context : Context) → n.contexts device ≡ Some context
      → (s.contexts device ≡ Some context) ⊎ (IsStored s device context ⊎ IsSought s device context)
  pub translations : (space : AddressSpace) (page : ℕ) (mapping : Mapping) (frame : ℕ) (kind : AccessKind)
      → n.translations (record { space = space; page = page }) ≡ Some mapping → ServesKind mapping frame kind → IsInSpace s space frame kind
  pub kept : (device page : ℕ) (mapping : Mapping) (frame : ℕ) (kind : AccessKind) → s.kind_of device ≡ Some Caches → IsKept (with s n) device page mapping
      → ServesKind mapping frame kind → IsKept s device page mapping ⊎ Way s device frame kind
  pub partial_walks : (walk : PartialWalk) → Contains n.partial_walks walk → IsContinued s walk
  pub directory_walks : (walk : DirectoryWalk) → Contains n.directory_walks walk → IsSoughtOn s walk
  pub in_flight : (device : ℕ) (access : PendingAccess) → Contains (n.in_flight device) access → Way s device access.frame access.kind

pub stored : (s n : HardwareScene) (device : ℕ) (context : Context) → Less s n → HasDevice s device → IsStored (with s n) device context → IsStored s device context
stored s n device context less plugged (tables, at, ends) = (
  tables,
  at,
  alike_ends s.formats.context s.memory n.memory tables.root (s.formats.steps_of tables.levels device) context
      (λ frame reads. less.memory frame (inr (inl (inl (device, tables, plugged, at, reads))))) ends,
)

-- the frames that a walk of the directory reads on are those that it read before
sought_reads : (s : HardwareScene) (walk : DirectoryWalk) (frame : ℕ) → IsSoughtOn s walk → ReadsFrame s.formats.context s.memory walk.table walk.steps frame → IsOfDirectory s frame
sought_reads s walk frame (inl (plugged, (tables, at, passes))) reads = inl (
  walk.device,
  tables,
  plugged,
  at,
  passes_reads s.formats.context s.memory tables.root (s.formats.steps_of tables.levels walk.device) walk.table walk.steps frame passes reads,
)
sought_reads s walk frame (inr (table, steps, there, passes)) reads = inr (
  record { device = walk.device; table = table; steps = steps },
  there,
  passes_reads s.formats.context s.memory table steps walk.table walk.steps frame passes reads,
)

-- so in memory as it was it ends at the same context
sought_ends : (s n : HardwareScene) (walk : DirectoryWalk) (context : Context) → Less s n → IsSoughtOn s walk → Ends s.formats.context n.memory walk.table walk.steps context
    → Ends s.formats.context s.memory walk.table walk.steps context
sought_ends s n walk context less on ends =
    alike_ends s.formats.context s.memory n.memory walk.table walk.steps context (λ frame reads. less.memory frame (inr (inl (sought_reads s walk frame on reads)))) ends

-- it was in memory, or sought
sought : (s : HardwareScene) (walk : DirectoryWalk) (context : Context) → IsSoughtOn s walk → Ends s.formats.context s.memory walk.table walk.steps context
    → MayFind s walk.device context ⊎ IsSought s walk.device context
sought s walk context (inl (plugged, (tables, at, passes))) ends = inl (
  plugged,
  inl ((tables, at), inr (tables, at, passes_ends s.formats.context s.memory tables.root (s.formats.steps_of tables.levels walk.device) walk.table walk.steps context passes ends)),
)
sought s walk context (inr (table, steps, there, passes)) ends =
    inr (table, steps, there, passes_ends s.formats.context s.memory table steps walk.table walk.steps context passes ends)

pub found : (s n : HardwareScene) (device : ℕ) (context : Context) → Less s n → MayFind (with s n) device context → MayFind s device context
found s n device context less (plugged, inl (at, inl there)) = elim (less.contexts device context there) [
  | inl old ↦ (plugged, inl (at, inl old))
  | inr (inl is) ↦ (plugged, inl (at, inr is))
  | inr (inr on) ↦ (plugged, inr on)
]
found s n device context less (plugged, inl (at, inr is)) = (plugged, inl (at, inr (stored s n device context less plugged is)))
found s n device context less (plugged, inr (table, steps, there, ends)) =
    let walk : DirectoryWalk = record { device = device; table = table; steps = steps } in
    let on = less.directory_walks walk there in
    elim (sought s walk context on (sought_ends s n walk context less on ends)) [ inl find ↦ find | inr is ↦ (plugged, inr is) ]

-- where a walk may begin that has as much to read, and to come to
record Began (s : HardwareScene) (space : AddressSpace) (table : ℕ) (steps_to : ℕ → List WalkStep) : Type 0 where
  from : ℕ
  steps : ℕ → List WalkStep
  begins : WalkBegins s space from steps
  passes : (page : ℕ) → (to : ℕ) × Passes s.formats.entry s.memory from (steps to) table (steps_to page)

continued : (s : HardwareScene) (walk : PartialWalk) → IsContinued s walk → Began s walk.space walk.table walk.steps_to
continued s walk (table, steps, begins, owned, passes) = record { from = table; steps = steps; begins = begins; passes = passes }

began : (s n : HardwareScene) (space : AddressSpace) (table : ℕ) (steps_to : ℕ → List WalkStep) → Less s n → WalkBegins (with s n) space table steps_to → Began s space table steps_to
began s n space table steps_to less (AtRoot device context tables find is decide root all) = record {
  from = table;
  steps = steps_to;
  begins = AtRoot device context tables (found s n device context less find) is decide root all;
  passes = λ page. (page, passes_here s.formats.entry s.memory table (steps_to page));
}
began s n space table steps_to less (PartWay device there) =
    continued s (record { device = device; space = space; table = table; steps_to = steps_to })
    (less.partial_walks (record { device = device; space = space; table = table; steps_to = steps_to }) there)

-- the frames that it reads are the same
same_tables : (s n : HardwareScene) (space : AddressSpace) (table : ℕ) (steps_to : ℕ → List WalkStep) (page frame : ℕ) → Less s n → (old : Began s space table steps_to)
    → ReadsFrame s.formats.entry s.memory table (steps_to page) frame → IsOfTables s frame
same_tables s n space table steps_to page frame less old reads =
    let (to, passes) = old.passes page in
    (space, old.from, old.steps, to, old.begins, passes_reads s.formats.entry s.memory old.from (old.steps to) table (steps_to page) frame passes reads)

leads : (s n : HardwareScene) (space : AddressSpace) (table : ℕ) (steps_to : ℕ → List WalkStep) (mapping : Mapping) → Less s n → (old : Began s space table steps_to)
    → LeadsToMapping s.formats n.memory table steps_to mapping → LeadsToMapping s.formats s.memory old.from old.steps mapping
leads s n space table steps_to mapping less old (page, ends) =
    let (to, passes) = old.passes page in (
      to,
      passes_ends s.formats.entry s.memory old.from (old.steps to) table (steps_to page) mapping passes
          (alike_ends s.formats.entry s.memory n.memory table (steps_to page) mapping
          (λ frame reads. less.memory frame (inl (same_tables s n space table steps_to page frame less old reads))) ends),
    )

in_space : (s n : HardwareScene) (space : AddressSpace) (frame : ℕ) (kind : AccessKind) → Less s n → IsInSpace (with s n) space frame kind → IsInSpace s space frame kind
in_space s n space frame kind less (inl (page, mapping, there, serves)) = less.translations space page mapping frame kind there serves
in_space s n space frame kind less (inr (table, steps_to, mapping, begins, lead, serves)) =
    let old = began s n space table steps_to less begins in
    inr (old.from, old.steps, mapping, old.begins, leads s n space table steps_to mapping less old lead, serves)

-- a walk under way
on_the_walk : (s n : HardwareScene) (device frame : ℕ) (kind : AccessKind) (space : AddressSpace) (table : ℕ) (steps_to : ℕ → List WalkStep) (mapping : Mapping) → Less s n
    → IsContinued s (record { device = Some device; space = space; table = table; steps_to = steps_to })
    → LeadsToMapping s.formats n.memory table steps_to mapping → ServesKind mapping frame kind → Way s device frame kind
on_the_walk s n device frame kind space table steps_to mapping less (from, steps, begins, owned, passes) lead serves =
    let old = leads s n space table steps_to mapping less (record { from = from; steps = steps; begins = begins; passes = passes }) lead in
    elim (owned device refl) [
      | inl (context, find, is) ↦ ByContext context find (Translated space is (inr (from, steps, mapping, begins, old, serves)))
      | inr there ↦ OnTheWalk space from steps mapping there old serves
    ]

through : (s n : HardwareScene) (device : ℕ) (context : Context) (frame : ℕ) (kind : AccessKind) → Less s n → MayFind s device context
    → Through (with s n) device context frame kind → Way s device frame kind
through s n device context frame kind less find (ByAts lets (inl forges)) = ByContext context find (ByAts lets (inl forges))
through s n device context frame kind less find (ByAts lets (inr (caches, (page, mapping, kept, serves)))) =
    elim (less.kept device page mapping frame kind caches kept serves) [
      | inl old ↦ ByContext context find (ByAts lets (inr (caches, (page, mapping, old, serves))))
      | inr way ↦ way
    ]
through s n device context frame kind less find (Untranslated none) = ByContext context find (Untranslated none)
through s n device context frame kind less find (Translated space is within) = ByContext context find (Translated space is (in_space s n space frame kind less within))

pub no_way_more : (s n : HardwareScene) → Less s n → AddsNoWay s (with s n)
no_way_more s n less device frame kind (Accepted there) = less.in_flight device (record { frame = frame; kind = kind }) there
no_way_more s n less device frame kind (AnyFrame plugged bare) = AnyFrame plugged bare
no_way_more s n less device frame kind (OnTheWalk space table steps_to mapping there lead serves) =
    on_the_walk s n device frame kind space table steps_to mapping less
    (less.partial_walks (record { device = Some device; space = space; table = table; steps_to = steps_to }) there) lead serves
no_way_more s n less device frame kind (ByContext context find way) = through s n device context frame kind less (found s n device context less find) way

pub no_more_read : (s n : HardwareScene) (frame : ℕ) → Less s n → IsRead (with s n) frame → IsRead s frame
no_more_read s n frame less (inl (space, table, steps_to, page, begins, reads)) =
    let old = began s n space table steps_to less begins in
    inl (same_tables s n space table steps_to page frame less old
    (alike_reads s.formats.entry s.memory n.memory table (steps_to page) frame
    (λ f r. less.memory f (inl (same_tables s n space table steps_to page f less old r))) reads))
no_more_read s n frame less (inr (inl (inl (device, tables, plugged, at, reads)))) =
    inr (inl (inl (
      device,
      tables,
      plugged,
      at,
      alike_reads s.formats.context s.memory n.memory tables.root (s.formats.steps_of tables.levels device) frame
          (λ f r. less.memory f (inr (inl (inl (device, tables, plugged, at, r))))) reads,
    )))
no_more_read s n frame less (inr (inl (inr (walk, there, reads)))) =
    let on = less.directory_walks walk there in
    inr (inl (sought_reads s walk frame on (alike_reads s.formats.context s.memory n.memory walk.table walk.steps frame
    (λ f r. less.memory f (inr (inl (sought_reads s walk f on r)))) reads)))
no_more_read s n frame less (inr (inr (offset, there))) = inr (inr (offset, less.waiting (record { frame = frame; offset = offset }) there))

pub no_more_words : (s n : HardwareScene) (frame : ℕ) → Less s n → HasWord (with s n) frame → HasWord s frame
no_more_words s n frame less (place, there, is) =
    let was = less.waiting place there in
    (place, was, subst (λ f. s.formats.word f place.offset ≡ Some frame) (less.memory place.frame (inr (inr (place.offset, was)))) is)

no_more_written : (s n : HardwareScene) (frame : ℕ) → Less s n → IsWritable (with s n) frame → IsWritable s frame
no_more_written s n frame less (inl (device, untrusted, way)) = inl (device, untrusted, no_way_more s n less device frame Write way)
no_more_written s n frame less (inr (inl there)) = inr (inl there)
no_more_written s n frame less (inr (inr word)) = inr (inr (no_more_words s n frame less word))

pub still_safe : (s n : HardwareScene) → Less s n → IsSafe s → IsSafe (with s n)
still_safe s n less safe frame read written = safe frame (no_more_read s n frame less read) (no_more_written s n frame less written)
