-- Where entries of page tables are read by a format that has more leaves, walks lead to all that they led to, and read the same frames.
use Rattle.std.proofs.Common.{◌≡◌, inl, inr, ℕ, ◌+◌, List, [], ◌∷◌, sym, ap, subst}
use Rattle.iom_base.specs.declared.access.AccessKind.{AccessKind}
use Rattle.iom_reach.specs.Laws.{FindsMore, ReadsMore, TransitionsStay, TurnsStay}
use Rattle.iom_reach.specs.Memory.{Memory, Found, Nothing, Pointer, Leaf, Format, WalkStep, Goes, Ends, ReadsFrame, Passes}
use Rattle.iom_reach.specs.Safe.{IsRead, IsOfTables}
use Rattle.iom_reach.specs.Scene.{Mapping, AddressSpace, Context, Message, Question, Answer, Other, PartialWalk, PendingAccess, HardwareScene, reading}
use Rattle.iom_reach.specs.Transitions.{WalkGives, TranslatesTo, ToItself, ByCache, ByWalk, IsAdmitted, InModeBare, Requested, FromEntry, Forged, Walked, IsContinued, IsHarmless, IsSendable, Transition, Forget, KeepContext, GoOn, KeepTranslation, Accept, Make, RecordFault, DoCommand, CarryMessages, DeliverAnswer, DropEntries, ComesAbout}
use Rattle.iom_reach.specs.Ways.{LeadsToMapping, WalkBegins, AtRoot, PartWay}

-- A STEP

step_on : (found : Found Mapping) (On Next : ℕ → Type 0) (Over : Mapping → Type 0) → ((table : ℕ) → On table → Next table) → Goes found On Over → Goes found Next Over
step_on Nothing On Next Over later goes = goes
step_on (Pointer table) On Next Over later goes = later table goes
step_on (Leaf mapping) On Next Over later goes = goes

-- a walk that goes on, or is over, does so also by the other format
pub goes_wider : (few more : Found Mapping) (On Next : ℕ → Type 0) (Over : Mapping → Type 0) → FindsMore few more → ((table : ℕ) → On table → Next table)
    → Goes few On Over → Goes more Next Over
goes_wider few more On Next Over (inl same) later goes = subst (λ found. Goes found Next Over) (sym same) (step_on few On Next Over later goes)
goes_wider few more On Next Over (inr (none, leaf)) later goes = absurd (subst (λ found. Goes found On Over) none goes)

-- and by the other it goes on to no other table
pub goes_no_further : (few more : Found Mapping) (On Next : ℕ → Type 0) → FindsMore few more → ((table : ℕ) → On table → Next table)
    → Goes more On (λ said. ⊥) → Goes few Next (λ said. ⊥)
goes_no_further few more On Next (inl same) later goes = step_on few On Next (λ said. ⊥) later (subst (λ found. Goes found On (λ said. ⊥)) same goes)
goes_no_further few more On Next (inr (none, (mapping, is))) later goes = absurd (subst (λ found. Goes found On (λ said. ⊥)) is goes)

-- A WALK

module _ (narrow wide : Format Mapping) (more : ReadsMore narrow wide) (memory : Memory) where
  pub ends_wider : (table : ℕ) (steps : List WalkStep) (mapping : Mapping) → Ends narrow memory table steps mapping → Ends wide memory table steps mapping
  ends_wider table [] mapping ends = ends
  ends_wider table (step ∷ steps) mapping ends =
      let frame = memory (table + step.frame) in
      goes_wider (narrow frame step.place steps) (wide frame step.place steps) (λ next. Ends narrow memory next steps mapping) (λ next. Ends wide memory next steps mapping)
      (λ said. said ≡ mapping) (more frame step.place steps) (λ next later. ends_wider next steps mapping later) ends

  pub passes_wider : (table : ℕ) (steps : List WalkStep) (next : ℕ) (rest : List WalkStep) → Passes narrow memory table steps next rest → Passes wide memory table steps next rest
  passes_wider table [] next rest here = here
  passes_wider table (step ∷ steps) next rest (inl here) = inl here
  passes_wider table (step ∷ steps) next rest (inr goes) =
      let frame = memory (table + step.frame) in
      inr (goes_wider (narrow frame step.place steps) (wide frame step.place steps) (λ t. Passes narrow memory t steps next rest) (λ t. Passes wide memory t steps next rest)
      (λ said. ⊥) (more frame step.place steps) (λ t later. passes_wider t steps next rest later) goes)

  -- it reads the same frames
  pub reads_wider : (table : ℕ) (steps : List WalkStep) (read : ℕ) → ReadsFrame narrow memory table steps read → ReadsFrame wide memory table steps read
  reads_wider table [] read reads = reads
  reads_wider table (step ∷ steps) read (inl here) = inl here
  reads_wider table (step ∷ steps) read (inr goes) =
      let frame = memory (table + step.frame) in
      inr (goes_wider (narrow frame step.place steps) (wide frame step.place steps) (λ t. ReadsFrame narrow memory t steps read) (λ t. ReadsFrame wide memory t steps read)
      (λ said. ⊥) (more frame step.place steps) (λ t later. reads_wider t steps read later) goes)

  pub reads_no_more : (table : ℕ) (steps : List WalkStep) (read : ℕ) → ReadsFrame wide memory table steps read → ReadsFrame narrow memory table steps read
  reads_no_more table [] read reads = reads
  reads_no_more table (step ∷ steps) read (inl here) = inl here
  reads_no_more table (step ∷ steps) read (inr goes) =
      let frame = memory (table + step.frame) in
      inr (goes_no_further (narrow frame step.place steps) (wide frame step.place steps) (λ t. ReadsFrame wide memory t steps read) (λ t. ReadsFrame narrow memory t steps read)
      (more frame step.place steps) (λ t later. reads_no_more t steps read later) goes)

-- A SCENE

-- the formats of a scene stay
formats_stay : (transition : Transition) (old new : HardwareScene) → ComesAbout transition old new → new.formats ≡ old.formats
formats_stay Forget old new (contexts, translations, fewer, others, is) = ap (λ (s : HardwareScene). s.formats) is
formats_stay (KeepContext device) old new (context, kept, plugged, stored, part, is) = ap (λ (s : HardwareScene). s.formats) is
formats_stay GoOn old new (kept, sought, left, from, on, among, is) = ap (λ (s : HardwareScene). s.formats) is
formats_stay KeepTranslation old new (space, table, steps_to, page, mapping, kept, begins, gives, part, is) = ap (λ (s : HardwareScene). s.formats) is
formats_stay (Accept device access) old new (in_flight, why, among, is) = ap (λ (s : HardwareScene). s.formats) is
formats_stay (Make device access) old new (left, memory, there, among, harmless, after, is) = ap (λ (s : HardwareScene). s.formats) is
formats_stay RecordFault old new (frame, memory, there, differs, is) = ap (λ (s : HardwareScene). s.formats) is
formats_stay DoCommand old new (place, later, memory, contexts, translations, messages, head, after, fewer, others, among, is) = ap (λ (s : HardwareScene). s.formats) is
formats_stay CarryMessages old new (messages, from, is) = ap (λ (s : HardwareScene). s.formats) is
formats_stay DeliverAnswer old new (device, epoch, page, mapping, kept, there, now, among, is) = ap (λ (s : HardwareScene). s.formats) is
formats_stay (DropEntries device) old new (left, among, is) = ap (λ (s : HardwareScene). s.formats) is

module _ (wide : Format Mapping) (s : HardwareScene) (more : ReadsMore s.formats.entry wide) where
  pub begins_wider : (space : AddressSpace) (table : ℕ) (steps_to : ℕ → List WalkStep) → WalkBegins s space table steps_to → WalkBegins (reading wide s) space table steps_to
  begins_wider space table steps_to (AtRoot device context tables find is decide root all) = AtRoot device context tables find is decide root all
  begins_wider space table steps_to (PartWay device there) = PartWay device there

  pub begins_narrower : (space : AddressSpace) (table : ℕ) (steps_to : ℕ → List WalkStep) → WalkBegins (reading wide s) space table steps_to → WalkBegins s space table steps_to
  begins_narrower space table steps_to (AtRoot device context tables find is decide root all) = AtRoot device context tables find is decide root all
  begins_narrower space table steps_to (PartWay device there) = PartWay device there

  pub leads_wider : (table : ℕ) (steps_to : ℕ → List WalkStep) (mapping : Mapping) → LeadsToMapping s.formats s.memory table steps_to mapping
      → LeadsToMapping (reading wide s).formats s.memory table steps_to mapping
  leads_wider table steps_to mapping (page, ends) = (page, ends_wider s.formats.entry wide more s.memory table (steps_to page) mapping ends)

  pub gives_wider : (table : ℕ) (steps_to : ℕ → List WalkStep) (mapping : Mapping) → WalkGives s table steps_to mapping → WalkGives (reading wide s) table steps_to mapping
  gives_wider table steps_to mapping (leaf, leads, frame, allowed) = (leaf, leads_wider table steps_to leaf leads, frame, allowed)

  translates_wider : (context : Context) (page : ℕ) (mapping : Mapping) → TranslatesTo s context page mapping → TranslatesTo (reading wide s) context page mapping
  translates_wider context page mapping (ToItself none) = ToItself none
  translates_wider context page mapping (ByCache space is cached) = ByCache space is cached
  translates_wider context page mapping (ByWalk space table steps_to is begins gives) =
      ByWalk space table steps_to is (begins_wider space table steps_to begins) (gives_wider table steps_to mapping gives)

  admitted_wider : (device frame : ℕ) (kind : AccessKind) → IsAdmitted s device frame kind → IsAdmitted (reading wide s) device frame kind
  admitted_wider device frame kind (InModeBare plugged bare) = InModeBare plugged bare
  admitted_wider device frame kind (Requested context page mapping find translates serves) =
      Requested context page mapping find (translates_wider context page mapping translates) serves
  admitted_wider device frame kind (FromEntry context page mapping find lets caches there serves) = FromEntry context page mapping find lets caches there serves
  admitted_wider device frame kind (Forged context find lets forges) = Forged context find lets forges
  admitted_wider device frame kind (Walked space table steps_to mapping there gives serves) =
      Walked space table steps_to mapping there (gives_wider table steps_to mapping gives) serves

  continued_wider : (walk : PartialWalk) → IsContinued s walk → IsContinued (reading wide s) walk
  continued_wider walk (table, steps_to, begins, owned, passes) = (
    table,
    steps_to,
    begins_wider walk.space table steps_to begins,
    owned,
    (λ page.
        let (to, by) = passes page in
        (to, passes_wider s.formats.entry wide more s.memory table (steps_to to) walk.table (walk.steps_to page) by)),
  )

  sendable_wider : (message : Message) → IsSendable s message → IsSendable (reading wide s) message
  sendable_wider (Question device epoch page) within = within
  sendable_wider (Answer device epoch page mapping) (asked, (context, find, lets, translates)) =
      (asked, (context, find, lets, translates_wider context page mapping translates))
  sendable_wider Other sent = sent

  -- hardware reads the same frames
  pub tables_wider : (frame : ℕ) → IsOfTables s frame → IsOfTables (reading wide s) frame
  tables_wider frame (space, table, steps_to, page, begins, reads) =
      (space, table, steps_to, page, begins_wider space table steps_to begins, reads_wider s.formats.entry wide more s.memory table (steps_to page) frame reads)

  pub tables_no_more : (frame : ℕ) → IsOfTables (reading wide s) frame → IsOfTables s frame
  tables_no_more frame (space, table, steps_to, page, begins, reads) =
      (space, table, steps_to, page, begins_narrower space table steps_to begins, reads_no_more s.formats.entry wide more s.memory table (steps_to page) frame reads)

  pub read_no_more : (frame : ℕ) → IsRead (reading wide s) frame → IsRead s frame
  read_no_more frame (inl tables) = inl (tables_no_more frame tables)
  read_no_more frame (inr others) = inr others

  harmless_wider : (device : ℕ) (access : PendingAccess) → IsHarmless s device access → IsHarmless (reading wide s) device access
  harmless_wider device access harmless trusted writes read = harmless trusted writes (read_no_more access.frame read)

pub transitions_stay : TransitionsStay
transitions_stay wide Forget old new more (contexts, translations, fewer, others, is) = (contexts, translations, fewer, others, ap (reading wide) is)
transitions_stay wide (KeepContext device) old new more (context, kept, plugged, stored, part, is) = (context, kept, plugged, stored, part, ap (reading wide) is)
transitions_stay wide GoOn old new more (kept, sought, left, from, on, among, is) = (
  kept,
  sought,
  left,
  (λ walk there. elim (from walk there) [ inl continued ↦ inl (continued_wider wide old more walk continued) | inr same ↦ inr same ]),
  on,
  among,
  ap (reading wide) is,
)
transitions_stay wide KeepTranslation old new more (space, table, steps_to, page, mapping, kept, begins, gives, part, is) = (
  space,
  table,
  steps_to,
  page,
  mapping,
  kept,
  begins_wider wide old more space table steps_to begins,
  gives_wider wide old more table steps_to mapping gives,
  part,
  ap (reading wide) is,
)
transitions_stay wide (Accept device access) old new more (in_flight, why, among, is) =
    (in_flight, admitted_wider wide old more device access.frame access.kind why, among, ap (reading wide) is)
transitions_stay wide (Make device access) old new more (left, memory, there, among, harmless, after, is) =
    (left, memory, there, among, harmless_wider wide old more device access harmless, after, ap (reading wide) is)
transitions_stay wide RecordFault old new more (frame, memory, there, differs, is) = (frame, memory, there, differs, ap (reading wide) is)
transitions_stay wide DoCommand old new more (place, later, memory, contexts, translations, messages, head, after, fewer, others, among, is) =
    (place, later, memory, contexts, translations, messages, head, after, fewer, others, among, ap (reading wide) is)
transitions_stay wide CarryMessages old new more (messages, from, is) = (
  messages,
  (λ message there. elim (from message there) [ inl sent ↦ inl (sendable_wider wide old more message sent) | inr same ↦ inr same ]),
  ap (reading wide) is,
)
transitions_stay wide DeliverAnswer old new more (device, epoch, page, mapping, kept, there, now, among, is) =
    (device, epoch, page, mapping, kept, there, now, among, ap (reading wide) is)
transitions_stay wide (DropEntries device) old new more (left, among, is) = (left, among, ap (reading wide) is)

pub turns_stay : TurnsStay
turns_stay wide [] old new more same = ap (reading wide) same
turns_stay wide (first ∷ others) old new more (between, now, later) = (
  reading wide between,
  transitions_stay wide first old between more now,
  turns_stay wide others between new (subst (λ f. ReadsMore f.entry wide) (sym (formats_stay first old between now)) more) later,
)
