-- Each transition leaves a scene that has less.
use Rattle.std.proofs.Common.{◌≡◌, ◌⊎◌, inl, inr, ℕ, ◌+◌, ◌≤◌, ◌==◌, Bool, true, false, List, [], ◌∷◌, Contains, Option, None, Some, if◌then◌else◌, refl, sym, ap, ◌∙◌, subst, arith}
use Rattle.std.proofs.lemmas.Bool.{false≢true}
use Rattle.std.proofs.lemmas.List.Elements.{Contains-append_left, Contains-append_right, Contains-push}
use Rattle.iom_base.specs.declared.access.AccessKind.{AccessKind}
use Rattle.iom_base.specs.declared.access.AccessKind.TheVariants.{Read, Write}
use Rattle.iom_reach.proofs.LessLemmas.{Less, with, no_way_more, no_more_read, no_more_words, still_safe}
use Rattle.iom_reach.specs.Laws.{AddsNoWay, UsesNoMore}
use Rattle.iom_reach.specs.Memory.{Memory, WalkStep, DiffersAt}
use Rattle.iom_reach.specs.Transitions.{AreSomeOfOr, AreSomeOf, AreAmongWithOf, IsPartOf, IsPartWith, IsContinued, IsSoughtOn, WalkGives, TranslatesTo, ToItself, ByCache, ByWalk, IsAdmitted, InModeBare, Requested, FromEntry, Forged, Walked, IsHarmless, IsMemoryAfter, IsMemoryBy, IsSendable, with_raised_epoch, Transition, Forget, KeepContext, GoOn, KeepTranslation, Accept, Make, RecordFault, DoCommand, CarryMessages, DeliverAnswer, DropEntries, ComesAbout}
use Rattle.iom_reach.specs.Safe.{IsRead, IsWritable, IsSafe, AreTimely}
use Rattle.iom_reach.specs.Scene.{Mapping, AddressSpace, SpacePage, Context, Caches, AtsEntry, PendingAccess, Message, Question, Answer, Other, PartialWalk, DirectoryWalk, Place, HardwareScene}
use Rattle.iom_reach.specs.Ways.{ServesKind, IsStored, IsSought, MayFind, WalkBegins, PartWay, IsKept, IsInSpace, ByAts, Untranslated, Translated, Way, Accepted, AnyFrame, ByContext, OnTheWalk}
use Rattle.iom_reach.proofs.WalkLemmas.{passes_here}

pub contains_tail : {X : Type 0} (x : X) (xs : List X) (y : X) → Contains xs y → Contains (x ∷ xs) y
contains_tail x xs y c = Contains-append_right (x ∷ []) xs y c

pub contains_head : {X : Type 0} (x : X) (xs : List X) → Contains (x ∷ xs) x
contains_head x xs = Contains-append_left (x ∷ []) xs x (Contains-push [] x)

-- what is cached of the space, if it is among these
in_cache : (s : HardwareScene) (translations : SpacePage → Option Mapping) → IsPartOf translations s.translations
    → (space : AddressSpace) (page : ℕ) (mapping : Mapping) (frame : ℕ) (kind : AccessKind)
    → translations (record { space = space; page = page }) ≡ Some mapping → ServesKind mapping frame kind → IsInSpace s space frame kind
in_cache s translations part space page mapping frame kind there serves =
    inl (page, mapping, part (record { space = space; page = page }) mapping there, serves)

-- a walk under way, or a pointer, continues itself
continued_by_itself : (s : HardwareScene) (walk : PartialWalk) → Contains s.partial_walks walk → IsContinued s walk
continued_by_itself s walk there = (
  walk.table,
  walk.steps_to,
  PartWay walk.device there,
  (λ device is. inr (subst (λ d. Contains s.partial_walks (record { device = d; space = walk.space; table = walk.table; steps_to = walk.steps_to })) is there)),
  (λ page. (page, passes_here s.formats.entry s.memory walk.table (walk.steps_to page))),
)

-- so does one of the directory
sought_by_itself : (s : HardwareScene) (walk : DirectoryWalk) → Contains s.directory_walks walk → IsSoughtOn s walk
sought_by_itself s walk there = inr (walk.table, walk.steps, there, passes_here s.formats.context s.memory walk.table walk.steps)

-- nothing changes
pub no_less : (s : HardwareScene) → Less s s
no_less s = record {
  memory = λ frame read. refl;
  waiting = λ place there. there;
  contexts = λ device context there. inl there;
  translations = in_cache s s.translations (λ key value there. there);
  kept = λ device page mapping frame kind caches kept serves. inl kept;
  partial_walks = λ walk there. continued_by_itself s walk there;
  directory_walks = λ walk there. sought_by_itself s walk there;
  in_flight = λ device access there. Accepted there;
}

-- what a written frame leaves is the same where hardware reads
unread : (s : HardwareScene) (written : ℕ) (memory : Memory) → IsSafe s → IsWritable s written → DiffersAt written s.memory memory
    → (frame : ℕ) → IsRead s frame → memory frame ≡ s.memory frame
unread s written memory safe writable differs frame read = differs frame (λ same. safe frame read (subst (IsWritable s) (sym same) writable))

-- what a walk gives is no more than its leaf
by_leaf : (s : HardwareScene) (space : AddressSpace) (table : ℕ) (steps_to : ℕ → List WalkStep) (mapping : Mapping) (frame : ℕ) (kind : AccessKind) → WalkBegins s space table steps_to
    → WalkGives s table steps_to mapping → ServesKind mapping frame kind → IsInSpace s space frame kind
by_leaf s space table steps_to mapping frame kind begins (leaf, leads, same, rights) (here, allowed) =
    inr (table, steps_to, leaf, begins, leads, (sym same ∙ here, rights kind allowed))

-- what a context of the device translates a page to is in its reach
by_translation : (s : HardwareScene) (device frame : ℕ) (kind : AccessKind) (context : Context) (page : ℕ) (mapping : Mapping) → MayFind s device context
    → TranslatesTo s context page mapping → ServesKind mapping frame kind → Way s device frame kind
by_translation s device frame kind context page mapping find (ToItself none) serves = ByContext context find (Untranslated none)
by_translation s device frame kind context page mapping find (ByCache space is there) serves =
    ByContext context find (Translated space is (inl (page, mapping, there, serves)))
by_translation s device frame kind context page mapping find (ByWalk space table steps_to is begins walked) serves =
    ByContext context find (Translated space is (by_leaf s space table steps_to mapping frame kind begins walked serves))

-- what is accepted was in reach
served : (s : HardwareScene) (device frame : ℕ) (kind : AccessKind) → IsAdmitted s device frame kind → Way s device frame kind
served s device frame kind (InModeBare plugged bare) = AnyFrame plugged bare
served s device frame kind (Requested context page mapping find translates serves) = by_translation s device frame kind context page mapping find translates serves
served s device frame kind (FromEntry context page mapping find lets caches there serves) =
    ByContext context find (ByAts lets (inr (caches, (page, mapping, inl there, serves))))
served s device frame kind (Forged context find lets forges) = ByContext context find (ByAts lets (inl forges))
served s device frame kind (Walked space table steps_to mapping there (leaf, leads, same, rights) (here, allowed)) =
    OnTheWalk space table steps_to leaf there leads (sym same ∙ here, rights kind allowed)

-- what follows for the scene
abbrev pub Follows : HardwareScene → HardwareScene → Type 0
Follows old new = AddsNoWay old new × UsesNoMore old new × IsSafe new × AreTimely new

follows : (s n new : HardwareScene) → new ≡ with s n → IsSafe s → Less s n → AreTimely (with s n) → Follows s new
follows s n new is safe less timely = subst (Follows s) (sym is) (no_way_more s n less, (λ frame. (no_more_read s n frame less, no_more_words s n frame less, refl)), still_safe s n less safe, timely)

forgets : (s : HardwareScene) (contexts : ℕ → Option Context) (translations : SpacePage → Option Mapping)
    → IsPartOf contexts s.contexts → IsPartOf translations s.translations
    → Less s (record s { contexts = contexts; translations = translations })
forgets s contexts translations fewer others = record {
  memory = λ frame read. refl;
  waiting = λ place there. there;
  contexts = λ device context there. inl (fewer device context there);
  translations = in_cache s translations others;
  kept = λ device page mapping frame kind caches kept serves. inl kept;
  partial_walks = λ walk there. continued_by_itself s walk there;
  directory_walks = λ walk there. sought_by_itself s walk there;
  in_flight = λ device access there. Accepted there;
}

keeps_context : (s : HardwareScene) (device : ℕ) (context : Context) (kept : ℕ → Option Context) → IsStored s device context ⊎ IsSought s device context
    → IsPartWith kept device context s.contexts → Less s (record s { contexts = kept })
keeps_context s device context kept stored part = record {
  memory = λ frame read. refl;
  waiting = λ place there. there;
  contexts = λ d c there. elim (part d c there) [
    | inl (own, same) ↦ inr (subst (λ x. IsStored s x c ⊎ IsSought s x c) (sym own) (subst (λ x. IsStored s device x ⊎ IsSought s device x) (sym same) stored))
    | inr old ↦ inl old
  ];
  translations = in_cache s s.translations (λ key value there. there);
  kept = λ device page mapping frame kind caches kept serves. inl kept;
  partial_walks = λ walk there. continued_by_itself s walk there;
  directory_walks = λ walk there. sought_by_itself s walk there;
  in_flight = λ device access there. Accepted there;
}

goes_on : (s : HardwareScene) (kept : List PartialWalk) (sought : List DirectoryWalk) (left : ℕ → List PendingAccess)
    → ((walk : PartialWalk) → Contains kept walk → IsContinued s walk ⊎ Contains s.partial_walks walk)
    → ((walk : DirectoryWalk) → Contains sought walk → IsSoughtOn s walk ⊎ Contains s.directory_walks walk)
    → AreSomeOf left s.in_flight → Less s (record s { partial_walks = kept; directory_walks = sought; in_flight = left })
goes_on s kept sought left from on among = record {
  memory = λ frame read. refl;
  waiting = λ place there. there;
  contexts = λ device context there. inl there;
  translations = in_cache s s.translations (λ key value there. there);
  kept = λ device page mapping frame kind caches kept serves. inl kept;
  partial_walks = λ walk there. elim (from walk there) [ inl is ↦ is | inr old ↦ continued_by_itself s walk old ];
  directory_walks = λ walk there. elim (on walk there) [ inl is ↦ is | inr old ↦ sought_by_itself s walk old ];
  in_flight = λ device access there. Accepted (among device access there);
}

keeps_translation : (s : HardwareScene) (space : AddressSpace) (table : ℕ) (steps_to : ℕ → List WalkStep) (page : ℕ) (mapping : Mapping) (kept : SpacePage → Option Mapping)
    → WalkBegins s space table steps_to → WalkGives s table steps_to mapping
    → IsPartWith kept (record { space = space; page = page }) mapping s.translations → Less s (record s { translations = kept })
keeps_translation s space table steps_to page mapping kept begins walked part = record {
  memory = λ frame read. refl;
  waiting = λ place there. there;
  contexts = λ device context there. inl there;
  translations = λ sp pg m frame kind there serves. by sp pg m frame kind serves (part (record { space = sp; page = pg }) m there);
  kept = λ device page mapping frame kind caches kept serves. inl kept;
  partial_walks = λ walk there. continued_by_itself s walk there;
  directory_walks = λ walk there. sought_by_itself s walk there;
  in_flight = λ device access there. Accepted there;
}
  where
    by : (sp : AddressSpace) (pg : ℕ) (m : Mapping) (frame : ℕ) (kind : AccessKind) → ServesKind m frame kind
        → ((◌≡◌ {A = SpacePage} (record { space = sp; page = pg }) (record { space = space; page = page })) × (m ≡ mapping))
        ⊎ (s.translations (record { space = sp; page = pg }) ≡ Some m)
        → IsInSpace s sp frame kind
    by sp pg m frame kind serves (inr old) = inl (pg, m, old, serves)
    by sp pg m frame kind serves (inl (at, same)) =
        subst (λ x. IsInSpace s x frame kind) (sym (ap (λ (p : SpacePage). p.space) at))
        (by_leaf s space table steps_to mapping frame kind begins walked (subst (λ x. ServesKind x frame kind) same serves))

accepts : (s : HardwareScene) (device : ℕ) (access : PendingAccess) (in_flight : ℕ → List PendingAccess) → IsAdmitted s device access.frame access.kind
    → AreAmongWithOf in_flight device access s.in_flight → Less s (record s { in_flight = in_flight })
accepts s device access in_flight is among = record {
  memory = λ frame read. refl;
  waiting = λ place there. there;
  contexts = λ device context there. inl there;
  translations = in_cache s s.translations (λ key value there. there);
  kept = λ device page mapping frame kind caches kept serves. inl kept;
  partial_walks = λ walk there. continued_by_itself s walk there;
  directory_walks = λ walk there. sought_by_itself s walk there;
  in_flight = λ d one there. elim (among d one there) [
    | inl (own, same) ↦ subst (λ x. Way s x one.frame one.kind) (sym own)
        (subst (λ (x : PendingAccess). Way s device x.frame x.kind) (sym same) (served s device access.frame access.kind is))
    | inr old ↦ Accepted old
  ];
}

makes : (s : HardwareScene) (device : ℕ) (access : PendingAccess) (left : ℕ → List PendingAccess) (memory : Memory) → IsSafe s → Contains (s.in_flight device) access
    → AreSomeOf left s.in_flight → IsHarmless s device access → IsMemoryAfter access.kind access.frame s.memory memory → Less s (record s { in_flight = left; memory = memory })
makes s device access left memory safe there among harmless after = record {
  memory = by access.kind (s.is_trusted device) refl harmless after there;
  waiting = λ place there. there;
  contexts = λ device context there. inl there;
  translations = in_cache s s.translations (λ key value there. there);
  kept = λ device page mapping frame kind caches kept serves. inl kept;
  partial_walks = λ walk there. continued_by_itself s walk there;
  directory_walks = λ walk there. sought_by_itself s walk there;
  in_flight = λ d one is. Accepted (among d one is);
}
  where
    by : (kind : AccessKind) (trusted : Bool) → s.is_trusted device ≡ trusted
        → (s.is_trusted device ≡ true → kind ≡ Write → ¬ IsRead s access.frame) → IsMemoryAfter kind access.frame s.memory memory
        → Contains (s.in_flight device) (record { frame = access.frame; kind = kind })
        → (frame : ℕ) → IsRead s frame → memory frame ≡ s.memory frame
    by Read trusted e harmless same is frame read = ap (λ m. m frame) same
    by Write false e harmless differs is frame read = unread s access.frame memory safe (inl (device, e, Accepted is)) differs frame read
    by Write true e harmless differs is frame read = differs frame (λ same. harmless e refl (subst (IsRead s) same read))

records : (s : HardwareScene) (frame : ℕ) (memory : Memory) → IsSafe s → Contains s.fault_frames frame → DiffersAt frame s.memory memory
    → Less s (record s { memory = memory })
records s frame memory safe there differs = record {
  memory = λ f read. unread s frame memory safe (inr (inl there)) differs f read;
  waiting = λ place there. there;
  contexts = λ device context there. inl there;
  translations = in_cache s s.translations (λ key value there. there);
  kept = λ device page mapping f kind caches kept serves. inl kept;
  partial_walks = λ walk there. continued_by_itself s walk there;
  directory_walks = λ walk there. sought_by_itself s walk there;
  in_flight = λ device one is. Accepted is;
}

abbrev pub is_other : Message → Bool
is_other (Question device epoch page) = false
is_other (Answer device epoch page mapping) = false
is_other Other = true

-- the same messages, but for such as no way leads through
other_messages : (s : HardwareScene) (messages : List Message) → AreSomeOfOr messages Other s.messages
    → (device epoch page : ℕ) (mapping : Mapping) → Contains messages (Answer device epoch page mapping) → Contains s.messages (Answer device epoch page mapping)
other_messages s messages among device epoch page mapping there = elim (among (Answer device epoch page mapping) there) [
  | inl never ↦ absurd (false≢true (ap is_other never))
  | inr old ↦ old
]

effect : (s : HardwareScene) (place : Place) (later : List Place) (memory : Memory) (contexts : ℕ → Option Context) (translations : SpacePage → Option Mapping) (messages : List Message)
    → IsSafe s → s.waiting ≡ place ∷ later → IsMemoryBy (s.formats.word (s.memory place.frame) place.offset) s.memory memory
    → IsPartOf contexts s.contexts → IsPartOf translations s.translations → AreSomeOfOr messages Other s.messages
    → Less s (record s { waiting = later; memory = memory; contexts = contexts; translations = translations; messages = messages })
effect s place later memory contexts translations messages safe head after fewer others among = record {
  memory = by (s.formats.word (s.memory place.frame) place.offset) refl after;
  waiting = λ one there. subst (λ xs. Contains xs one) (sym head) (contains_tail place later one there);
  contexts = λ device context there. inl (fewer device context there);
  translations = in_cache s translations others;
  kept = λ device page mapping frame kind caches kept serves. inl (same device page mapping kept);
  partial_walks = λ walk there. continued_by_itself s walk there;
  directory_walks = λ walk there. sought_by_itself s walk there;
  in_flight = λ device one is. Accepted is;
}
  where
    by : (word : Option ℕ) → s.formats.word (s.memory place.frame) place.offset ≡ word → IsMemoryBy word s.memory memory
        → (frame : ℕ) → IsRead s frame → memory frame ≡ s.memory frame
    by None is same frame read = ap (λ m. m frame) same
    by (Some written) is differs frame read =
        unread s written memory safe (inr (inr (place, subst (λ xs. Contains xs place) (sym head) (contains_head place later), is))) differs frame read

    same : (device page : ℕ) (mapping : Mapping) → Contains (s.ats_entries device) (record { page = page; mapping = mapping })
        ⊎ ((epoch : ℕ) × Contains messages (Answer device epoch page mapping) × (epoch ≡ s.epoch_of device)) → IsKept s device page mapping
    same device page mapping (inl there) = inl there
    same device page mapping (inr (epoch, there, now)) = inr (epoch, other_messages s messages among device epoch page mapping there, now)

carries : (s : HardwareScene) (messages : List Message) → ((message : Message) → Contains messages message → IsSendable s message ⊎ Contains s.messages message)
    → Less s (record s { messages = messages })
carries s messages from = record {
  memory = λ frame read. refl;
  waiting = λ place there. there;
  contexts = λ device context there. inl there;
  translations = in_cache s s.translations (λ key value there. there);
  kept = λ device page mapping frame kind caches kept serves. by device page mapping frame kind serves kept;
  partial_walks = λ walk there. continued_by_itself s walk there;
  directory_walks = λ walk there. sought_by_itself s walk there;
  in_flight = λ device one is. Accepted is;
}
  where
    by : (device page : ℕ) (mapping : Mapping) (frame : ℕ) (kind : AccessKind) → ServesKind mapping frame kind
        → Contains (s.ats_entries device) (record { page = page; mapping = mapping })
        ⊎ ((epoch : ℕ) × Contains messages (Answer device epoch page mapping) × (epoch ≡ s.epoch_of device))
        → IsKept s device page mapping ⊎ Way s device frame kind
    by device page mapping frame kind serves (inl there) = inl (inl there)
    by device page mapping frame kind serves (inr (epoch, there, now)) = elim (from (Answer device epoch page mapping) there) [
      | inl (asked, (context, find, lets, translates)) ↦ inr (by_translation s device frame kind context page mapping find translates serves)
      | inr old ↦ inl (inr (epoch, old, now))
    ]

keeps_entry : (s : HardwareScene) (device epoch page : ℕ) (mapping : Mapping) (kept : ℕ → List AtsEntry) → Contains s.messages (Answer device epoch page mapping)
    → epoch ≡ s.epoch_of device → AreAmongWithOf kept device (record { page = page; mapping = mapping }) s.ats_entries → Less s (record s { ats_entries = kept })
keeps_entry s device epoch page mapping kept there now among = record {
  memory = λ frame read. refl;
  waiting = λ place there. there;
  contexts = λ device context there. inl there;
  translations = in_cache s s.translations (λ key value there. there);
  kept = λ d pg m frame kind caches is serves. inl (by d pg m is);
  partial_walks = λ walk there. continued_by_itself s walk there;
  directory_walks = λ walk there. sought_by_itself s walk there;
  in_flight = λ device one is. Accepted is;
}
  where
    by : (d pg : ℕ) (m : Mapping) → Contains (kept d) (record { page = pg; mapping = m })
        ⊎ ((e : ℕ) × Contains s.messages (Answer d e pg m) × (e ≡ s.epoch_of d)) → IsKept s d pg m
    by d pg m (inr under_way) = inr under_way
    by d pg m (inl is) = elim (among d (record { page = pg; mapping = m }) is) [
      | inl (own, same) ↦ subst (λ x. IsKept s x pg m) (sym own)
          (subst (λ (x : AtsEntry). IsKept s device x.page x.mapping) (sym same) (inr (epoch, there, now)))
      | inr old ↦ inl old
    ]

-- no epoch falls
raised_le : (epoch_of : ℕ → ℕ) (device d n : ℕ) → n ≤ epoch_of d → n ≤ with_raised_epoch epoch_of device d
raised_le epoch_of device d n within = by (device == d)
  where
    by : (b : Bool) → n ≤ (if b then epoch_of d + 1 else epoch_of d)
    by true = omega (arith, within)
    by false = within

-- an answer of a raised epoch is another device's
raised_other : (epoch_of : ℕ → ℕ) (device d n : ℕ) → n ≤ epoch_of d → n ≡ with_raised_epoch epoch_of device d → n ≡ epoch_of d
raised_other epoch_of device d n within now = by (device == d) now
  where
    by : (b : Bool) → n ≡ (if b then epoch_of d + 1 else epoch_of d) → n ≡ epoch_of d
    by true is = absurd (omega (arith, within, is))
    by false is = is

drops_entries : (s : HardwareScene) (device : ℕ) (left : ℕ → List AtsEntry) → AreTimely s → AreSomeOf left s.ats_entries
    → Less s (record s { ats_entries = left; epoch_of = with_raised_epoch s.epoch_of device })
drops_entries s device left timely among = record {
  memory = λ frame read. refl;
  waiting = λ place there. there;
  contexts = λ device context there. inl there;
  translations = in_cache s s.translations (λ key value there. there);
  kept = λ d page mapping frame kind caches is serves. inl (by d page mapping caches is);
  partial_walks = λ walk there. continued_by_itself s walk there;
  directory_walks = λ walk there. sought_by_itself s walk there;
  in_flight = λ device one is. Accepted is;
}
  where
    by : (d page : ℕ) (mapping : Mapping) → s.kind_of d ≡ Some Caches
        → Contains (left d) (record { page = page; mapping = mapping })
        ⊎ ((e : ℕ) × Contains s.messages (Answer d e page mapping) × (e ≡ with_raised_epoch s.epoch_of device d)) → IsKept s d page mapping
    by d page mapping caches (inl is) = inl (among d (record { page = page; mapping = mapping }) is)
    by d page mapping caches (inr (e, there, now)) = inr (e, there, raised_other s.epoch_of device d e (timely.answered d e page mapping caches there) now)

-- the same messages and epochs
still_timely : (s n : HardwareScene) → n.messages ≡ s.messages → n.epoch_of ≡ s.epoch_of → AreTimely s → AreTimely (with s n)
still_timely s n messages epochs timely = record {
  asked = λ device epoch page caches there. subst (λ e. epoch ≤ e device) (sym epochs)
      (timely.asked device epoch page caches (subst (λ m. Contains m (Question device epoch page)) messages there));
  answered = λ device epoch page mapping caches there. subst (λ e. epoch ≤ e device) (sym epochs)
      (timely.answered device epoch page mapping caches (subst (λ m. Contains m (Answer device epoch page mapping)) messages there));
}

timely_done : (s n : HardwareScene) → AreSomeOfOr n.messages Other s.messages → n.epoch_of ≡ s.epoch_of → AreTimely s → AreTimely (with s n)
timely_done s n among epochs timely = record {
  asked = λ device epoch page caches there. subst (λ e. epoch ≤ e device) (sym epochs)
      (elim (among (Question device epoch page) there) [
        | inl never ↦ absurd (false≢true (ap is_other never))
        | inr old ↦ timely.asked device epoch page caches old
      ]);
  answered = λ device epoch page mapping caches there. subst (λ e. epoch ≤ e device) (sym epochs)
      (timely.answered device epoch page mapping caches (other_messages s n.messages among device epoch page mapping there));
}

timely_carried : (s : HardwareScene) (messages : List Message) → ((message : Message) → Contains messages message → IsSendable s message ⊎ Contains s.messages message)
    → AreTimely s → AreTimely (record s { messages = messages })
timely_carried s messages from timely = record {
  asked = λ device epoch page caches there. elim (from (Question device epoch page) there) [
    | inl within ↦ within caches
    | inr old ↦ timely.asked device epoch page caches old
  ];
  answered = λ device epoch page mapping caches there. elim (from (Answer device epoch page mapping) there) [
    | inl (asked, how) ↦ timely.asked device epoch page caches asked
    | inr old ↦ timely.answered device epoch page mapping caches old
  ];
}

timely_raised : (s : HardwareScene) (device : ℕ) (left : ℕ → List AtsEntry) → AreTimely s → AreTimely (record s { ats_entries = left; epoch_of = with_raised_epoch s.epoch_of device })
timely_raised s device left timely = record {
  asked = λ d epoch page caches there. raised_le s.epoch_of device d epoch (timely.asked d epoch page caches there);
  answered = λ d epoch page mapping caches there. raised_le s.epoch_of device d epoch (timely.answered d epoch page mapping caches there);
}

pub transitions_add_no_way : (transition : Transition) (old new : HardwareScene) → IsSafe old → AreTimely old → ComesAbout transition old new → Follows old new
transitions_add_no_way Forget old new safe timely (contexts, translations, fewer, others, is) =
    let n = record old { contexts = contexts; translations = translations } in
    follows old n new is safe (forgets old contexts translations fewer others) (still_timely old n refl refl timely)
transitions_add_no_way (KeepContext device) old new safe timely (context, kept, plugged, stored, part, is) =
    let n = record old { contexts = kept } in
    follows old n new is safe (keeps_context old device context kept stored part) (still_timely old n refl refl timely)
transitions_add_no_way GoOn old new safe timely (kept, sought, left, from, on, among, is) =
    let n = record old { partial_walks = kept; directory_walks = sought; in_flight = left } in
    follows old n new is safe (goes_on old kept sought left from on among) (still_timely old n refl refl timely)
transitions_add_no_way KeepTranslation old new safe timely (space, table, steps_to, page, mapping, kept, begins, walked, part, is) =
    let n = record old { translations = kept } in
    follows old n new is safe (keeps_translation old space table steps_to page mapping kept begins walked part) (still_timely old n refl refl timely)
transitions_add_no_way (Accept device access) old new safe timely (in_flight, why, among, is) =
    let n = record old { in_flight = in_flight } in
    follows old n new is safe (accepts old device access in_flight why among) (still_timely old n refl refl timely)
transitions_add_no_way (Make device access) old new safe timely (left, memory, there, among, harmless, after, is) =
    let n = record old { in_flight = left; memory = memory } in
    follows old n new is safe (makes old device access left memory safe there among harmless after) (still_timely old n refl refl timely)
transitions_add_no_way RecordFault old new safe timely (frame, memory, there, differs, is) =
    let n = record old { memory = memory } in
    follows old n new is safe (records old frame memory safe there differs) (still_timely old n refl refl timely)
transitions_add_no_way DoCommand old new safe timely (place, later, memory, contexts, translations, messages, head, after, fewer, others, among, is) =
    let n = record old { waiting = later; memory = memory; contexts = contexts; translations = translations; messages = messages } in
    follows old n new is safe (effect old place later memory contexts translations messages safe head after fewer others among) (timely_done old n among refl timely)
transitions_add_no_way CarryMessages old new safe timely (messages, from, is) =
    follows old (record old { messages = messages }) new is safe (carries old messages from) (timely_carried old messages from timely)
transitions_add_no_way DeliverAnswer old new safe timely (device, epoch, page, mapping, kept, there, now, among, is) =
    let n = record old { ats_entries = kept } in
    follows old n new is safe (keeps_entry old device epoch page mapping kept there now among) (still_timely old n refl refl timely)
transitions_add_no_way (DropEntries device) old new safe timely (left, among, is) =
    follows old (record old { ats_entries = left; epoch_of = with_raised_epoch old.epoch_of device }) new is safe (drops_entries old device left timely among)
    (timely_raised old device left timely)
