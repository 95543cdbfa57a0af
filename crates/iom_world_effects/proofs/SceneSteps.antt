-- What requests, commits and fetches do to a scene: the facts on copies stay.
use Rattle.std.proofs.Common.{◌≡◌, ◌≢◌, ◌+◌, ◌<◌, ◌==◌, ◌&&◌, ◌⊎◌, inl, inr, ◌∙◌, ℕ, Bool, true, false, not, List, [], ◌∷◌, ◌++◌, filter, Contains, Option, None, Some, refl, sym, ap, subst}
use Rattle.std.specs.Bool.{⊤}
use Rattle.std.proofs.lemmas.Bool.{false≢true, eqb-true, eq-eqb}
use Rattle.iom_base.specs.declared.access.AccessKind.{AccessKind}
use Rattle.iom_base.specs.declared.rights.Rights.{Rights}
use Rattle.iom_base.specs.Rights.{allows}
use Rattle.iom_command_queue.specs.declared.command.AtsRange.{AtsRange}
use Rattle.iom_command_queue.specs.declared.command.Command.{Command as Commanded}
use Rattle.iom_command_queue.specs.declared.command.Command.TheVariants.{IotinvalVma, IotinvalGvma, IofenceC, IodirInvalDdt, AtsInval}
use Rattle.iom_command_queue.specs.declared.command.FenceStore.{FenceStore}
use Rattle.iom_command_queue.specs.declared.entry.QueueEntry.{QueueEntry}
use Rattle.iom_command_queue.specs.declared.entry.QueueEntry.TheVariants.{Command}
use Rattle.iom_coherence.specs.Among.{AreAmong, AreAmongWith}
use Rattle.iom_base.specs.Modes.{is_both}
use Rattle.iom_coherence.specs.Attachments.{in_both_stages, IsAttached}
use Rattle.iom_coherence.specs.Backing.{ComesFrom}
use Rattle.iom_coherence.specs.Faithful.{IsFaithful}
use Rattle.iom_coherence.specs.Fetches.{next_invalidation}
use Rattle.iom_coherence.specs.Queue.{Extent, extent_covers, QueuedCommand, DropTranslations, DropContext, Invalidate, Fence}
use Rattle.iom_coherence.specs.Transitions.{KeepContext, KeepTranslation, Accept, Make, FetchIotinval, FetchIodir, FetchAtsInval, TakeSnapshot, CompleteFence}
use Rattle.iom_coherence.specs.Requests.{IsWalked, IsSource, next_access}
use Rattle.iom_coherence.specs.Scene.{Copy, AccessInFlight, AtsMessage, InvalidateRequest, Invalidation, Scene, FenceSnapshot}
use Rattle.iom_coherence.proofs.ListLemmas.{in_none, cons_cases, contains_head, contains_tail, contains_filter, contains_from_filter}
use Rattle.iom_driver.specs.Appends.{fence}
use Rattle.iom_driver.proofs.Lists.{differs}
use Rattle.iom_ledger.specs.declared.ledger.Ledger.{Ledger}
use Rattle.iom_ledger.specs.Shown.{held_in}
use Rattle.iom_machine.specs.declared.state.Attachment.{Attachment}
use Rattle.iom_machine.specs.declared.state.Attachment.TheVariants.{Detached, Attached, Quarantined, Leaving}
use Rattle.iom_base.specs.declared.mode.Mode.{Mode}
use Rattle.iom_iommu.specs.Fetches.{accepted_before}
use Rattle.iom_tlb.specs.declared.space.Space.{Space}
use Rattle.iom_tlb.specs.declared.space.Space.TheVariants as space
use Rattle.iom_tlb.specs.declared.trans_cache.Translation.{Translation}
use Rattle.iom_tlb.specs.Content.{Key, Translations}
use Rattle.iom_tlb.specs.Covers.{are_covering}
use Rattle.iom_tlb.specs.Invalidations.{covers_of}
use Rattle.iom_tlb.proofs.LargeLemmas.{own_leaf}
use Rattle.iom_world_effects.specs.Queued.{invalidation_in, extent_in, IsInvalidation, IsQueuedAs, AreQueuedAs}
use Rattle.iom_world_effects.proofs.QueuedLemmas.{SpacesStay, queued_first, queued_still, come_after}
use Rattle.iom_world_effects.specs.Scenes.{Values, copy_of, IsSomebodys, IsSnapshotOf, GoesInOrder, IsSceneOf, HasSceneWith, FactsHold}
use Rattle.iom_walk_coherence.specs.Transitions.{AreBegunAnew}
use Rattle.iom_walk_coherence.specs.Walks.{Walk}
use Rattle.iom_world_effects.specs.Messages.{range_of}
use Rattle.iom_world_effects.proofs.FactsKept.{facts_kept}
use Rattle.iom_world_effects.specs.Traffic.{Traffic, under_way, extent_of_range, invalidation_by}

-- what neither a request nor a commit nor a fetch changes
pub record KeepsGrants (old new : Values) : Type 0 where
  pub ledger : new.ledger ≡ old.ledger
  pub address : new.address ≡ old.address
  pub given : new.given ≡ old.given
  pub confirmed : new.confirmed ≡ old.confirmed
  pub last_fence : new.last_fence ≡ old.last_fence
  pub fences : new.fence_of ≡ old.fence_of
  pub stopped : new.is_stopped ≡ old.is_stopped
  pub kinds : (d : ℕ) → new.kind_of d ≡ old.kind_of d
  pub attachments : (d : ℕ) → new.attachment_of d ≡ old.attachment_of d
  pub spaces : (d : ℕ) → new.space_of d ≡ old.space_of d

-- what a request or a commit leaves of the queue, what the fence at the head counted, and what is under way to and from the devices' caches
pub record KeepsQueue (old new : Values) : Type 0 where
  pub waiting : new.waiting ≡ old.waiting
  pub completed : new.completed ≡ old.completed
  pub fence_snapshot : new.fence_snapshot ≡ old.fence_snapshot
  pub traffic : new.traffic ≡ old.traffic

-- what is cached of translations is cached before too
abbrev pub CachesNoMore : Values → Values → Type 0
CachesNoMore old new = (key : Key) (translation : Translation) → new.translations key ≡ Some translation → old.translations key ≡ Some translation

-- what may be others of a scene of such values
pub record IsNext (new : Values) (old : Values) (next : Scene) : Type 0 where
  pub waiting : AreQueuedAs old.address old.space_of new.waiting next.waiting
  pub completed : next.completed ≡ new.completed
  pub accepted : next.accepted ≡ new.so_far
  pub in_flight : next.in_flight ≡ new.in_flight
  pub contexts : (d : ℕ) → new.is_cached d ≡ true → Contains next.contexts d
  pub translations : (key : Key) (translation : Translation) → new.translations key ≡ Some translation → IsSomebodys old.space_of next.translations key translation
  pub fence_snapshot : IsSnapshotOf new.fence_snapshot next.fence_snapshot
  pub leaving : (d : ℕ) → GoesInOrder old.fence_of d (old.attachment_of d) next.waiting
  pub traffic : under_way next ≡ new.traffic

spaces_alike : (old new : ℕ → Option Space) (queued : List QueuedCommand) → ((d : ℕ) → new d ≡ old d) → SpacesStay old new queued
spaces_alike old new queued same device space extent there own = same device ∙ own

-- a scene of such values
pub scene_from : (old new : Values) (scene next : Scene) → KeepsGrants old new → IsSceneOf old scene
    → next ≡ record scene {
      waiting = next.waiting;
      completed = next.completed;
      fence_snapshot = next.fence_snapshot;
      accepted = next.accepted;
      in_flight = next.in_flight;
      contexts = next.contexts;
      translations = next.translations;
      entries = next.entries;
      epoch_of = next.epoch_of;
      messages = next.messages;
      slots = next.slots;
      last_serial = next.last_serial;
    }
    → IsNext new old next → IsSceneOf new next
scene_from old new scene next keeps shows same is = record {
  ledger = rw (keeps.ledger, ap (λ (s : Scene). s.history) same) shows.ledger;
  waiting = rw keeps.address (queued_still old.address old.space_of new.space_of new.waiting next.waiting (spaces_alike old.space_of new.space_of next.waiting keeps.spaces) is.waiting);
  completed = is.completed;
  last_fence = ap (λ (s : Scene). s.last_fence) same ∙ shows.last_fence ∙ sym keeps.last_fence;
  pending = rw (ap (λ (s : Scene). s.pending) same, keeps.given, keeps.confirmed, keeps.fences) shows.pending;
  given = ap (λ (s : Scene). s.given) same ∙ shows.given ∙ sym keeps.given;
  confirmed = ap (λ (s : Scene). s.confirmed) same ∙ shows.confirmed ∙ sym keeps.confirmed;
  accepted = is.accepted;
  in_flight = is.in_flight;
  kinds = λ d. ap (λ (s : Scene). s.kind_of d) same ∙ shows.kinds d ∙ sym (keeps.kinds d);
  attachments = λ d. ap (λ (s : Scene). s.attachment_of d) same ∙ shows.attachments d ∙ sym (keeps.attachments d);
  contexts = is.contexts;
  translations = λ key translation at.
      let one = is.translations key translation at in
      record { device = one.device; own = keeps.spaces one.device ∙ one.own; there = one.there };
  fence_snapshot = is.fence_snapshot;
  leaving = λ d. rw (keeps.fences, keeps.attachments d) (is.leaving d);
  traffic = is.traffic;
  stopped = ap (λ (s : Scene). s.is_stopped) same ∙ shows.stopped ∙ sym keeps.stopped;
}

-- a scene's own values
pub own_next : (old new : Values) (scene : Scene) → KeepsQueue old new → new.so_far ≡ old.so_far → new.in_flight ≡ old.in_flight
    → ((d : ℕ) → new.is_cached d ≡ true → old.is_cached d ≡ true) → CachesNoMore old new → IsSceneOf old scene → IsNext new old scene
own_next old new scene queue so_far in_flight cached less shows = record {
  waiting = rw queue.waiting shows.waiting;
  completed = shows.completed ∙ sym queue.completed;
  accepted = shows.accepted ∙ sym so_far;
  in_flight = shows.in_flight ∙ sym in_flight;
  contexts = λ d is. shows.contexts d (cached d is);
  translations = λ key translation at. shows.translations key translation (less key translation at);
  fence_snapshot = rw queue.fence_snapshot shows.fence_snapshot;
  leaving = shows.leaving;
  traffic = shows.traffic ∙ sym queue.traffic;
}

is_attached : (attachment : Attachment) (mode : Mode) (ats : Bool) → attachment ≡ Attached mode ats → IsAttached attachment
is_attached attachment mode ats is = rw is refl

-- A CONTEXT IS KEPT: that of an attached device; of what was cached nothing else comes
pub keep_scene : (old new : Values) (id : ℕ) (mode : Mode) (ats : Bool) → KeepsGrants old new → KeepsQueue old new → new.so_far ≡ old.so_far → new.in_flight ≡ old.in_flight → CachesNoMore old new
    → old.attachment_of id ≡ Attached mode ats → ((d : ℕ) → new.is_cached d ≡ true → (old.is_cached d ≡ true) ⊎ (d ≡ id)) → (walks : List Walk) → HasSceneWith old walks → HasSceneWith new walks
keep_scene old new id mode ats keeps queue so_far in_flight less attached cached walks (scene, shows, facts) =
    let next : Scene = record scene { contexts = id ∷ scene.contexts } in (
      next,
      scene_from old new scene next keeps shows refl (record {
        waiting = rw queue.waiting shows.waiting;
        completed = shows.completed ∙ sym queue.completed;
        accepted = shows.accepted ∙ sym so_far;
        in_flight = shows.in_flight ∙ sym in_flight;
        contexts = λ d is. elim (cached d is) [
          | inl before ↦ contains_tail id scene.contexts d (shows.contexts d before)
          | inr same ↦ subst (Contains (id ∷ scene.contexts)) (sym same) (contains_head id scene.contexts)
        ];
        translations = λ key translation at. shows.translations key translation (less key translation at);
        fence_snapshot = rw queue.fence_snapshot shows.fence_snapshot;
        leaving = shows.leaving;
        traffic = shows.traffic ∙ sym queue.traffic;
      }),
      facts_kept (KeepContext id) scene next walks walks refl facts (
        id ∷ scene.contexts,
        is_attached (scene.attachment_of id) mode ats (shows.attachments id ∙ attached),
        (λ d there. elim (cons_cases id scene.contexts d there) [ inl same ↦ inl (sym same) | inr before ↦ inr before ]),
        refl,
      ),
    )

-- what a walk of the page gives is held: in one stage at the page itself, in both at some guest page, with a right that allows no less
abbrev pub HoldsWalked : Ledger → Mode → ℕ → ℕ → Translation → Type 0
HoldsWalked ledger mode id page translation =
    (granted : ℕ) × (rights : Rights) × ComesFrom (is_both mode) granted rights page translation.rights
    × (held_in ledger id granted ≡ Some (translation.frame, rights))

walked_there : (values : Values) (scene : Scene) (id page : ℕ) (mode : Mode) (ats : Bool) (translation : Translation) → IsSceneOf values scene → values.attachment_of id ≡ Attached mode ats
    → HoldsWalked values.ledger mode id page translation → IsWalked scene (copy_of id page translation)
walked_there values scene id page mode ats translation shows attached (granted, rights, from, held) =
    let stages : in_both_stages (scene.attachment_of id) ≡ is_both mode = ap in_both_stages (shows.attachments id ∙ attached) in (
      granted,
      rights,
      subst (λ b. ComesFrom b granted rights page translation.rights) (sym stages) from,
      (shows.ledger.pages id granted).holds ∙ held,
    )

-- A TRANSLATION IS KEPT: that of a page which the device holds; of what was cached nothing else comes
pub record KeepsWalked (old new : Values) (id page : ℕ) (space : Space) (translation : Translation) : Type 0 where
  pub mode : Mode
  pub ats : Bool
  pub attached : old.attachment_of id ≡ Attached mode ats
  pub own : old.space_of id ≡ Some space
  pub held : HoldsWalked old.ledger mode id page translation
  pub either : (key : Key) (other : Translation) → new.translations key ≡ Some other
      → (old.translations key ≡ Some other) ⊎ ((key ≡ (space, page)) × (other ≡ translation))

pub walk_scene : (old new : Values) (id page : ℕ) (space : Space) (translation : Translation) → KeepsGrants old new → KeepsQueue old new → new.so_far ≡ old.so_far → new.in_flight ≡ old.in_flight
    → ((d : ℕ) → new.is_cached d ≡ true → old.is_cached d ≡ true) → KeepsWalked old new id page space translation → (walks : List Walk) → HasSceneWith old walks → HasSceneWith new walks
walk_scene old new id page space translation keeps queue so_far in_flight cached walked walks (scene, shows, facts) =
    let copy : Copy = copy_of id page translation in
    let next : Scene = record scene { translations = copy ∷ scene.translations } in (
      next,
      scene_from old new scene next keeps shows refl (record {
        waiting = rw queue.waiting shows.waiting;
        completed = shows.completed ∙ sym queue.completed;
        accepted = shows.accepted ∙ sym so_far;
        in_flight = shows.in_flight ∙ sym in_flight;
        contexts = λ d is. shows.contexts d (cached d is);
        translations = somebodys;
        fence_snapshot = rw queue.fence_snapshot shows.fence_snapshot;
        leaving = shows.leaving;
        traffic = shows.traffic ∙ sym queue.traffic;
      }),
      facts_kept (KeepTranslation copy) scene next walks walks refl facts (
        copy ∷ scene.translations,
        walked_there old scene id page walked.mode walked.ats translation shows walked.attached walked.held,
        (λ other there. elim (cons_cases copy scene.translations other there) [ inl same ↦ inl (sym same) | inr before ↦ inr before ]),
        refl,
      ),
    )
  where
    first_of : (key : Key) → key ≡ (space, page) → space ≡ key.0
    first_of key same = sym (ap (λ (k : Key). k.0) same)

    page_of : (key : Key) → key ≡ (space, page) → key.1 ≡ page
    page_of key same = ap (λ (k : Key). k.1) same

    somebodys : (key : Key) (other : Translation) → new.translations key ≡ Some other → IsSomebodys old.space_of (copy_of id page translation ∷ scene.translations) key other
    somebodys key other at = elim (walked.either key other at) [
      | inl before ↦
          let was = shows.translations key other before in
          record { device = was.device; own = was.own; there = contains_tail (copy_of id page translation) scene.translations (copy_of was.device key.1 other) was.there }
      | inr one ↦ record {
        device = id;
        own = walked.own ∙ ap Some (first_of key one.0);
        there = subst (λ t. Contains (copy_of id page translation ∷ scene.translations) (copy_of id key.1 t)) (sym one.1)
            (subst (λ p. Contains (copy_of id page translation ∷ scene.translations) (copy_of id p translation)) (sym (page_of key one.0)) (contains_head (copy_of id page translation) scene.translations));
      }
    ]

-- what serves an untranslated access: what the device holds at the page, or a cached translation of the page
abbrev pub IsServedFrom : Values → ℕ → ℕ → Space → Translation → Type 0
IsServedFrom values id page space translation =
    ((mode : Mode) × (ats : Bool) × (values.attachment_of id ≡ Attached mode ats) × HoldsWalked values.ledger mode id page translation)
    ⊎ ((values.translations (space, page) ≡ Some translation) × ((d : ℕ) → values.space_of d ≡ Some space → d ≡ id))

-- the scene has it from a walk, or among its cached translations
pub served_there : (values : Values) (scene : Scene) (id page : ℕ) (space : Space) (translation : Translation) → IsSceneOf values scene → IsServedFrom values id page space translation
    → IsWalked scene (copy_of id page translation) ⊎ Contains scene.translations (copy_of id page translation)
served_there values scene id page space translation shows (inl (mode, ats, attached, held)) = inl (walked_there values scene id page mode ats translation shows attached held)
served_there values scene id page space translation shows (inr (cached, alone)) =
    let was = shows.translations (space, page) translation cached in
    let same : was.device ≡ id = alone was.device was.own in
    inr (subst (λ d. Contains scene.translations (copy_of d page translation)) same was.there)

pub source_there : (values : Values) (scene : Scene) (id page : ℕ) (space : Space) (translation : Translation) → IsSceneOf values scene → IsServedFrom values id page space translation
    → IsSource scene (copy_of id page translation)
source_there values scene id page space translation shows served = elim (served_there values scene id page space translation shows served) [ inl walked ↦ inl walked | inr cached ↦ inr (inl cached) ]

-- whatever scene there is of these values has the copy to serve an access from
abbrev pub HasSource : Values → Copy → Type 0
HasSource values copy = (scene : Scene) → IsSceneOf values scene → IsSource scene copy

-- AN ACCESS IS ACCEPTED, on the frame of such a copy
pub accept_scene : (old new : Values) (id page : ℕ) (translation : Translation) (kind : AccessKind) → KeepsGrants old new → KeepsQueue old new
    → new.so_far ≡ old.so_far + 1 → AreAmongWith new.in_flight (record { device = id; frame = translation.frame; kind = kind; number = old.so_far + 1 }) old.in_flight
    → ((d : ℕ) → new.is_cached d ≡ true → old.is_cached d ≡ true) → CachesNoMore old new
    → HasSource old (copy_of id page translation) → allows translation.rights kind ≡ true → (walks : List Walk) → HasSceneWith old walks → HasSceneWith new walks
accept_scene old new id page translation kind keeps queue so_far among cached less source allowed walks (scene, shows, facts) =
    let copy : Copy = copy_of id page translation in
    let next : Scene = record scene { accepted = scene.accepted + 1; in_flight = new.in_flight } in
    let numbered : next_access scene copy kind ≡ record { device = id; frame = translation.frame; kind = kind; number = old.so_far + 1 } =
    ap (λ n. record { device = id; frame = translation.frame; kind = kind; number = n + 1 }) shows.accepted in (
      next,
      scene_from old new scene next keeps shows refl (record {
        waiting = rw queue.waiting shows.waiting;
        completed = shows.completed ∙ sym queue.completed;
        accepted = ap (λ n. n + 1) shows.accepted ∙ sym so_far;
        in_flight = refl;
        contexts = λ d is. shows.contexts d (cached d is);
        translations = λ key other at. shows.translations key other (less key other at);
        fence_snapshot = rw queue.fence_snapshot shows.fence_snapshot;
        leaving = shows.leaving;
        traffic = shows.traffic ∙ sym queue.traffic;
      }),
      facts_kept (Accept copy kind) scene next walks walks refl facts (
        new.in_flight,
        source scene shows,
        allowed,
        subst (λ a. AreAmongWith new.in_flight a scene.in_flight) (sym numbered) (subst (AreAmongWith new.in_flight _) (sym shows.in_flight) among),
        refl,
      ),
    )

-- AN ACCESS IS MADE, or none is
pub make_scene : (old new : Values) → KeepsGrants old new → KeepsQueue old new → new.so_far ≡ old.so_far
    → AreAmong new.in_flight old.in_flight → ((d : ℕ) → new.is_cached d ≡ true → old.is_cached d ≡ true) → CachesNoMore old new → (walks : List Walk) → HasSceneWith old walks → HasSceneWith new walks
make_scene old new keeps queue so_far among cached less walks (scene, shows, facts) =
    let next : Scene = record scene { in_flight = new.in_flight } in (
      next,
      scene_from old new scene next keeps shows refl (record {
        waiting = rw queue.waiting shows.waiting;
        completed = shows.completed ∙ sym queue.completed;
        accepted = shows.accepted ∙ sym so_far;
        in_flight = refl;
        contexts = λ d is. shows.contexts d (cached d is);
        translations = λ key other at. shows.translations key other (less key other at);
        fence_snapshot = rw queue.fence_snapshot shows.fence_snapshot;
        leaving = shows.leaving;
        traffic = shows.traffic ∙ sym queue.traffic;
      }),
      facts_kept Make scene next walks walks refl facts (new.in_flight, subst (AreAmong new.in_flight) (sym shows.in_flight) among, refl),
    )

-- A COMMAND IS DONE

-- what the completion word is after a command, where it was this
abbrev pub done_after : ℕ → Commanded → ℕ → Type 0
done_after before (IofenceC store wsi pr pw) after = (address number : ℕ) → IofenceC store wsi pr pw ≡ fence address number → after ≡ number
done_after before (IotinvalVma gscid pscid page) after = after ≡ before
done_after before (IotinvalGvma gscid page) after = after ≡ before
done_after before (IodirInvalDdt device) after = after ≡ before
done_after before (AtsInval device range) after = after ≡ before

-- which contexts are cached after a command: IODIR.INVAL_DDT takes out that of its device
abbrev pub CachedAfter : (ℕ → Bool) → Commanded → (ℕ → Bool) → Type 0
CachedAfter before (IodirInvalDdt None) after = ⊤
CachedAfter before (IodirInvalDdt (Some id)) after = (d : ℕ) → after d ≡ true → (before d ≡ true) × (d ≢ id)
CachedAfter before (IotinvalVma gscid pscid page) after = (d : ℕ) → after d ≡ true → before d ≡ true
CachedAfter before (IotinvalGvma gscid page) after = (d : ℕ) → after d ≡ true → before d ≡ true
CachedAfter before (IofenceC store wsi pr pw) after = (d : ℕ) → after d ≡ true → before d ≡ true
CachedAfter before (AtsInval device range) after = (d : ℕ) → after d ≡ true → before d ≡ true

-- what the driver's fences wait for is made: each access in flight was accepted after so many
abbrev pub NoneBefore : ℕ → List AccessInFlight → Type 0
NoneBefore before in_flight = (access : AccessInFlight) → Contains in_flight access → before < access.number

abbrev pub DoneIfFence : Commanded → ℕ → List AccessInFlight → Type 0
DoneIfFence (IofenceC store wsi pr pw) before in_flight = (address number : ℕ) → IofenceC store wsi pr pw ≡ fence address number → NoneBefore before in_flight
DoneIfFence (IotinvalVma gscid pscid page) before in_flight = ⊤
DoneIfFence (IotinvalGvma gscid page) before in_flight = ⊤
DoneIfFence (IodirInvalDdt device) before in_flight = ⊤
DoneIfFence (AtsInval device range) before in_flight = ⊤

-- a fence is done only where no slot is open
abbrev pub ClosedIfFence : Commanded → List Invalidation → Type 0
ClosedIfFence (IofenceC store wsi pr pw) slots = slots ≡ []
ClosedIfFence (IotinvalVma gscid pscid page) slots = ⊤
ClosedIfFence (IotinvalGvma gscid page) slots = ⊤
ClosedIfFence (IodirInvalDdt device) slots = ⊤
ClosedIfFence (AtsInval device range) slots = ⊤

-- a slot is opened for the device, and the request to drop what is in the extent is sent, or lost
pub record OpensSlot (device : ℕ) (extent : Extent) (before after : Traffic) : Type 0 where
  pub entries : after.entries ≡ before.entries
  pub epochs : after.epoch_of ≡ before.epoch_of
  pub messages : AreAmongWith after.messages (InvalidateRequest (invalidation_by (before.last_serial + 1) device) extent) before.messages
  pub slots : after.slots ≡ before.slots ++ invalidation_by (before.last_serial + 1) device ∷ []
  pub last_serial : after.last_serial ≡ before.last_serial + 1

-- what is under way after a command: ATS.INVAL opens a slot
abbrev pub TrafficAfter : Commanded → Traffic → Traffic → Type 0
TrafficAfter (AtsInval device range) before after = OpensSlot device (extent_of_range (range_of range)) before after
TrafficAfter (IotinvalVma gscid pscid page) before after = after ≡ before
TrafficAfter (IotinvalGvma gscid page) before after = after ≡ before
TrafficAfter (IofenceC store wsi pr pw) before after = after ≡ before
TrafficAfter (IodirInvalDdt device) before after = after ≡ before

-- what is cached after a command was cached before, and isn't covered by it
abbrev pub TranslationsAfter : Commanded → Translations → Translations → Type 0
TranslationsAfter command before after = (key : Key) (translation : Translation) → after key ≡ Some translation
    → (before key ≡ Some translation) × (are_covering (covers_of command) key translation ≡ false)

-- which walks are under way after a command: by IOTINVAL and by IODIR each begins anew
abbrev pub WalksAfter : Commanded → List Walk → List Walk → Type 0
WalksAfter (IotinvalVma gscid pscid page) before after = AreBegunAnew after before
WalksAfter (IotinvalGvma gscid page) before after = AreBegunAnew after before
WalksAfter (IodirInvalDdt device) before after = AreBegunAnew after before
WalksAfter (IofenceC store wsi pr pw) before after = after ≡ before
WalksAfter (AtsInval device range) before after = after ≡ before

-- where none is under way, none is afterwards
pub no_walks_after : (command : Commanded) → WalksAfter command [] []
no_walks_after (IotinvalVma gscid pscid page) = λ walk there. there
no_walks_after (IotinvalGvma gscid page) = λ walk there. there
no_walks_after (IodirInvalDdt device) = λ walk there. there
no_walks_after (IofenceC store wsi pr pw) = refl
no_walks_after (AtsInval device range) = refl

pub record FirstEffect (old new : Values) (command : Commanded) : Type 0 where
  pub keeps : KeepsGrants old new
  pub going : old.is_stopped ≡ false
  pub first : old.waiting ≡ Command command ∷ new.waiting
  pub so_far : new.so_far ≡ old.so_far
  pub in_flight : new.in_flight ≡ old.in_flight
  pub completed : done_after old.completed command new.completed
  pub contexts : CachedAfter old.is_cached command new.is_cached
  pub translations : TranslationsAfter command old.translations new.translations
  pub fence_snapshot : new.fence_snapshot ≡ None
  pub done : DoneIfFence command (accepted_before old.fence_snapshot old.so_far) old.in_flight
  pub closed : ClosedIfFence command old.traffic.slots
  pub traffic : TrafficAfter command old.traffic new.traffic

-- what an invalidation of translations does: nothing else changes
record DropsAlone (old new : Values) (command : Commanded) : Type 0 where
  pub keeps : KeepsGrants old new
  pub so_far : new.so_far ≡ old.so_far
  pub in_flight : new.in_flight ≡ old.in_flight
  pub completed : new.completed ≡ old.completed
  pub contexts : (d : ℕ) → new.is_cached d ≡ true → old.is_cached d ≡ true
  pub translations : TranslationsAfter command old.translations new.translations
  pub fence_snapshot : new.fence_snapshot ≡ None
  pub traffic : new.traffic ≡ old.traffic

none_there : {X : Type 0} (xs : List X) (x : X) → xs ≡ [] → ¬ Contains xs x
none_there xs x none there = in_none x (subst (λ l. Contains l x) none there)

not_true : (b : Bool) → not b ≡ true → b ≡ false
not_true true it = absurd (false≢true it)
not_true false it = refl

-- an invalidation covers the pages of its extent, whatever leaf their translations came from
covered_there : (space : Space) (named : Option ℕ) (page : ℕ) (translation : Translation) → extent_covers (extent_in space named) page ≡ true
    → are_covering (covers_of (invalidation_in space named)) (space, page) translation ≡ true
covered_there (space.First pscid) None page translation is = rw (eq-eqb pscid pscid refl) refl
covered_there (space.First pscid) (Some own) page translation is = rw (eq-eqb pscid pscid refl, own_leaf translation.order own page (eqb-true own page is)) refl
covered_there (space.Second gscid) None page translation is = rw (eq-eqb gscid gscid refl) refl
covered_there (space.Second gscid) (Some own) page translation is = rw (eq-eqb gscid gscid refl, own_leaf translation.order own page (eqb-true own page is)) refl
covered_there (space.Both gscid pscid) None page translation is = rw (eq-eqb gscid gscid refl) refl
covered_there (space.Both gscid pscid) (Some own) page translation is = rw (eq-eqb gscid gscid refl) refl

-- the scene's slots are those of its values
slots_as : (values : Values) (scene : Scene) → IsSceneOf values scene → values.traffic.slots ≡ [] → scene.slots ≡ []
slots_as values scene shows none = ap (λ (t : Traffic). t.slots) shows.traffic ∙ none

same_traffic : (one other : Traffic) → one.entries ≡ other.entries → one.epoch_of ≡ other.epoch_of → one.messages ≡ other.messages → one.slots ≡ other.slots
    → one.last_serial ≡ other.last_serial → one ≡ other
same_traffic one other entries epochs messages slots last_serial =
    ap (λ (e : List Copy). record one { entries = e }) entries
    ∙ ap (λ (e : ℕ → ℕ). record one { entries = other.entries; epoch_of = e }) epochs
    ∙ ap (λ (m : List AtsMessage). record other { messages = m; slots = one.slots; last_serial = one.last_serial }) messages
    ∙ ap (λ (s : List Invalidation). record other { slots = s; last_serial = one.last_serial }) slots
    ∙ ap (λ (n : ℕ). record other { last_serial = n }) last_serial

-- the fence at the head alone has taken its snapshot
snapshot_none : (scene : Scene) (command : QueuedCommand) (later : List QueuedCommand) (fence_snapshot : Option FenceSnapshot) → IsFaithful scene → scene.waiting ≡ command ∷ later
    → ((number : ℕ) → command ≢ Fence number) → scene.fence_snapshot ≡ fence_snapshot → scene.fence_snapshot ≡ None
snapshot_none scene command later None facts waiting other is = is
snapshot_none scene command later (Some taken) facts waiting other is =
    let head = (facts.order.snapshot_taken taken.fence taken.accepted is).head in
    absurd (other taken.fence (first_same command (Fence taken.fence) later head.0 (sym waiting ∙ head.1)))
  where
    first_same : (a b : QueuedCommand) (xs ys : List QueuedCommand) → a ∷ xs ≡ b ∷ ys → a ≡ b
    first_same a b xs ys same = cc

-- where no snapshot was taken, none was counted
counted_none : (counted : Option ℕ) (taken : Option FenceSnapshot) → IsSnapshotOf counted taken → taken ≡ None → counted ≡ None
counted_none None taken is none = refl
counted_none (Some n) None is none = absurd is
counted_none (Some n) (Some fence_snapshot) is none = cc

-- where no command waits, none was counted
pub empty_counted : {walks : List Walk} (values : Values) → values.waiting ≡ [] → HasSceneWith values walks → values.fence_snapshot ≡ None
empty_counted values none (scene, shows, facts) = by scene.fence_snapshot refl
  where
    by : (fence_snapshot : Option FenceSnapshot) → scene.fence_snapshot ≡ fence_snapshot → values.fence_snapshot ≡ None
    by None is = counted_none values.fence_snapshot scene.fence_snapshot shows.fence_snapshot is
    by (Some taken) is =
        let head = (facts.copies.order.snapshot_taken taken.fence taken.accepted is).head in
        let queued : AreQueuedAs values.address values.space_of [] (Fence taken.fence ∷ head.0) =
        subst (λ entries. AreQueuedAs values.address values.space_of entries (Fence taken.fence ∷ head.0)) none (subst (AreQueuedAs values.address values.space_of values.waiting) head.1 shows.waiting) in
        absurd queued

-- a scene of values that differ in what was counted is one of these, where nothing was
pub scene_uncounted : {walks : List Walk} (values : Values) → values.waiting ≡ [] → HasSceneWith values walks → HasSceneWith (record values { fence_snapshot = None }) walks
scene_uncounted {walks = walks} values none has = subst (λ fence_snapshot. HasSceneWith (record values { fence_snapshot = fence_snapshot }) walks) (empty_counted values none has) has

-- what the fence counted is what the snapshot says
counted_as : (counted : Option ℕ) (so_far : ℕ) (taken : FenceSnapshot) → IsSnapshotOf counted (Some taken) → accepted_before counted so_far ≡ taken.accepted
counted_as None so_far taken is = absurd is
counted_as (Some n) so_far taken is = sym is

fence_same : (a b : ℕ) (xs ys : List QueuedCommand) → Fence a ∷ xs ≡ Fence b ∷ ys → a ≡ b
fence_same a b xs ys same = cc

-- who leaves still does so in order, once the first command is done
goes_later : (fence_of : ℕ → ℕ) (d : ℕ) (a : Attachment) (command : QueuedCommand) (later : List QueuedCommand) → GoesInOrder fence_of d a (command ∷ later)
    → GoesInOrder fence_of d a later
goes_later fence_of d Detached command later goes = tt
goes_later fence_of d (Attached mode ats) command later goes = tt
goes_later fence_of d (Quarantined ticket mode ats) command later goes = tt
goes_later fence_of d (Leaving ticket mode ats) command later goes = come_after d (fence_of ticket) command later goes

module _ (old new : Values) (scene : Scene) (shows : IsSceneOf old scene) (walks : List Walk) (facts : FactsHold scene walks) (left : List Walk) where
  -- a command that is no fence leaves the snapshot, of which there is none
  drops_translations : (device : ℕ) (extent : Extent) (later : List QueuedCommand) (command : Commanded) → DropsAlone old new command
      → scene.waiting ≡ DropTranslations device extent ∷ later → IsInvalidation old.space_of device extent command → AreQueuedAs old.address old.space_of new.waiting later
      → AreBegunAnew left walks → HasSceneWith new left
  drops_translations device extent later command effect waiting is queued anew =
      let outside : Copy → Bool = λ copy. not ((device == copy.device) && extent_covers extent copy.page) in
      let others = filter outside scene.translations in
      let next : Scene = record scene { waiting = later; translations = others } in
      let none = snapshot_none scene (DropTranslations device extent) later scene.fence_snapshot facts.copies waiting (λ number same. cc) refl in (
        next,
        scene_from old new scene next effect.keeps shows refl (record {
          waiting = queued;
          completed = shows.completed ∙ sym effect.completed;
          accepted = shows.accepted ∙ sym effect.so_far;
          in_flight = shows.in_flight ∙ sym effect.in_flight;
          contexts = λ d is. shows.contexts d (effect.contexts d is);
          translations = somebodys;
          fence_snapshot = rw (effect.fence_snapshot, none) tt;
          leaving = λ d. goes_later old.fence_of d (old.attachment_of d) (DropTranslations device extent) later (subst (GoesInOrder old.fence_of d (old.attachment_of d)) waiting (shows.leaving d));
          traffic = shows.traffic ∙ sym effect.traffic;
        }),
        facts_kept (FetchIotinval device extent) scene next walks left anew facts (
          later,
          others,
          waiting,
          (λ copy there. let kept = contains_from_filter outside scene.translations copy there in (kept.0, not_true ((device == copy.device) && extent_covers extent copy.page) kept.1)),
          refl,
        ),
      )
    where
      outside_kept : (d p : ℕ) → (device ≡ d → extent_covers extent p ≡ true → ⊥) → not ((device == d) && extent_covers extent p) ≡ true
      outside_kept d p apart = by (device == d) (extent_covers extent p) refl refl
        where
          by : (a b : Bool) → (device == d) ≡ a → extent_covers extent p ≡ b → not (a && b) ≡ true
          by false b own covered = refl
          by true false own covered = refl
          by true true own covered = absurd (apart (eqb-true device d own) covered)

      somebodys : (key : Key) (translation : Translation) → new.translations key ≡ Some translation
          → IsSomebodys old.space_of (filter (λ copy. not ((device == copy.device) && extent_covers extent copy.page)) scene.translations) key translation
      somebodys key translation at =
          let before = effect.translations key translation at in
          let was = shows.translations key translation before.0 in record {
            device = was.device;
            own = was.own;
            there = contains_filter (λ (copy : Copy). not ((device == copy.device) && extent_covers extent copy.page)) scene.translations (copy_of was.device key.1 translation) was.there
                (outside_kept was.device key.1 (λ same covered.
                let spaces : key.0 ≡ is.space = some_of key.0 is.space (sym was.own ∙ ap old.space_of (sym same) ∙ is.own) in
                let key_is : key ≡ (is.space, key.1) = ap (λ (s : Space). (s, key.1)) spaces in
                false≢true (sym (ap (λ (k : Key). are_covering (covers_of (invalidation_in is.space is.page)) k translation) (sym key_is) ∙ named before.1)
                ∙ covered_there is.space is.page key.1 translation (subst (λ e. extent_covers e key.1 ≡ true) is.about covered))));
          }
        where
          some_of : (x y : Space) → Some x ≡ Some y → x ≡ y
          some_of x y e = cc

          named : are_covering (covers_of command) key translation ≡ false → are_covering (covers_of (invalidation_in is.space is.page)) key translation ≡ false
          named it = ap (λ (c : Commanded). are_covering (covers_of c) key translation) (sym is.named) ∙ it

  drops_context : (device : ℕ) (later : List QueuedCommand) → FirstEffect old new (IodirInvalDdt (Some device)) → scene.waiting ≡ DropContext device ∷ later
      → AreQueuedAs old.address old.space_of new.waiting later → AreBegunAnew left walks → HasSceneWith new left
  drops_context device later effect waiting queued anew =
      let others = filter (λ d. not (device == d)) scene.contexts in
      let next : Scene = record scene { waiting = later; contexts = others } in
      let none = snapshot_none scene (DropContext device) later scene.fence_snapshot facts.copies waiting (λ number same. cc) refl in (
        next,
        scene_from old new scene next effect.keeps shows refl (record {
          waiting = queued;
          completed = shows.completed ∙ sym effect.completed;
          accepted = shows.accepted ∙ sym effect.so_far;
          in_flight = shows.in_flight ∙ sym effect.in_flight;
          contexts = λ d is. contains_filter (λ e. not (device == e)) scene.contexts d (shows.contexts d (effect.contexts d is).0) (ap not (differs device d (λ same. (effect.contexts d is).1 (sym same))));
          translations = λ key translation at. shows.translations key translation (effect.translations key translation at).0;
          fence_snapshot = rw (effect.fence_snapshot, none) tt;
          leaving = λ d. goes_later old.fence_of d (old.attachment_of d) (DropContext device) later (subst (GoesInOrder old.fence_of d (old.attachment_of d)) waiting (shows.leaving d));
          traffic = shows.traffic ∙ sym effect.traffic;
        }),
        facts_kept (FetchIodir device) scene next walks left anew facts (
          later,
          others,
          waiting,
          (λ d there. let kept = contains_from_filter (λ e. not (device == e)) scene.contexts d there in (kept.0, not_true (device == d) kept.1)),
          refl,
        ),
      )

  -- a slot is opened, and its request is sent or lost
  opens : (device id : ℕ) (range : AtsRange) (extent : Extent) (later : List QueuedCommand) → FirstEffect old new (AtsInval id range) → scene.waiting ≡ Invalidate device extent ∷ later
      → (id ≡ device) × (extent ≡ extent_of_range (range_of range)) → AreQueuedAs old.address old.space_of new.waiting later → left ≡ walks → HasSceneWith new left
  opens device id range extent later effect waiting is queued same =
      let opened : OpensSlot device extent old.traffic new.traffic =
      subst (λ e. OpensSlot device e old.traffic new.traffic) (sym is.1) (subst (λ d. OpensSlot d (extent_of_range (range_of range)) old.traffic new.traffic) is.0 effect.traffic) in
      let serial : scene.last_serial ≡ old.traffic.last_serial = ap (λ (t : Traffic). t.last_serial) shows.traffic in
      let next : Scene = record scene {
        waiting = later;
        slots = scene.slots ++ next_invalidation scene device ∷ [];
        last_serial = scene.last_serial + 1;
        messages = new.traffic.messages;
      } in
      let none = snapshot_none scene (Invalidate device extent) later scene.fence_snapshot facts.copies waiting (λ number same. cc) refl in (
        next,
        scene_from old new scene next effect.keeps shows refl (record {
          waiting = queued;
          completed = shows.completed ∙ sym effect.completed;
          accepted = shows.accepted ∙ sym effect.so_far;
          in_flight = shows.in_flight ∙ sym effect.in_flight;
          contexts = λ d cached. shows.contexts d (effect.contexts d cached);
          translations = λ key translation at. shows.translations key translation (effect.translations key translation at).0;
          fence_snapshot = rw (effect.fence_snapshot, none) tt;
          leaving = λ d. goes_later old.fence_of d (old.attachment_of d) (Invalidate device extent) later (subst (GoesInOrder old.fence_of d (old.attachment_of d)) waiting (shows.leaving d));
          traffic = same_traffic (under_way next) new.traffic (ap (λ (t : Traffic). t.entries) shows.traffic ∙ sym opened.entries) (ap (λ (t : Traffic). t.epoch_of) shows.traffic ∙ sym opened.epochs)
              refl
              (ap (λ (t : Traffic). t.slots ++ invalidation_by (t.last_serial + 1) device ∷ []) shows.traffic ∙ sym opened.slots)
              (ap (λ (t : Traffic). t.last_serial + 1) shows.traffic ∙ sym opened.last_serial);
        }),
        facts_kept (FetchAtsInval device extent) scene next walks left same facts (
          later,
          new.traffic.messages,
          waiting,
          subst (λ n. AreAmongWith new.traffic.messages (InvalidateRequest (invalidation_by (n + 1) device) extent) scene.messages) (sym serial)
              (subst (λ ms. AreAmongWith new.traffic.messages (InvalidateRequest (invalidation_by (old.traffic.last_serial + 1) device) extent) ms) (sym (ap (λ (t : Traffic). t.messages) shows.traffic)) opened.messages),
          refl,
        ),
      )

  -- a fence that counted before is done, or it counts now
  completes : (number : ℕ) (later : List QueuedCommand) (store : Option FenceStore) (wsi pr pw : Bool) → FirstEffect old new (IofenceC store wsi pr pw)
      → scene.waiting ≡ Fence number ∷ later → IofenceC store wsi pr pw ≡ fence old.address number → AreQueuedAs old.address old.space_of new.waiting later → left ≡ walks
      → HasSceneWith new left
  completes number later store wsi pr pw effect waiting is queued same = by scene.fence_snapshot refl
    where
      next : Scene
      next = record scene { waiting = later; completed = number; fence_snapshot = None }

      none_open : scene.slots ≡ []
      none_open = slots_as old scene shows effect.closed

      none_before : NoneBefore (accepted_before old.fence_snapshot old.so_far) scene.in_flight
      none_before = rw shows.in_flight (effect.done old.address number is)

      shows_next : IsSceneOf new (record scene { waiting = later; completed = number; fence_snapshot = None })
      shows_next = scene_from old new scene next effect.keeps shows refl (record {
        waiting = queued;
        completed = sym (effect.completed old.address number is);
        accepted = shows.accepted ∙ sym effect.so_far;
        in_flight = shows.in_flight ∙ sym effect.in_flight;
        contexts = λ d is. shows.contexts d (effect.contexts d is);
        translations = λ key translation at. shows.translations key translation (effect.translations key translation at).0;
        fence_snapshot = rw effect.fence_snapshot tt;
        leaving = λ d. goes_later old.fence_of d (old.attachment_of d) (Fence number) later (subst (GoesInOrder old.fence_of d (old.attachment_of d)) waiting (shows.leaving d));
        traffic = shows.traffic ∙ sym effect.traffic;
      })

      by : (fence_snapshot : Option FenceSnapshot) → scene.fence_snapshot ≡ fence_snapshot → HasSceneWith new left
      by None none =
          let snapshot_taken : Scene = record scene { fence_snapshot = Some (record { fence = number; accepted = scene.accepted }) } in
          let counted : old.fence_snapshot ≡ None = counted_none old.fence_snapshot scene.fence_snapshot shows.fence_snapshot none in
          let before : accepted_before old.fence_snapshot old.so_far ≡ scene.accepted = ap (λ s. accepted_before s old.so_far) counted ∙ sym shows.accepted in
          let snapshot_facts = facts_kept (TakeSnapshot number) scene snapshot_taken walks walks refl facts
          (later, waiting, (λ slot there. none_there scene.slots slot none_open there), shows.stopped ∙ effect.going, refl) in (
            next,
            shows_next,
            facts_kept (CompleteFence number) snapshot_taken next walks left same snapshot_facts
                (later, scene.accepted, waiting, refl, subst (λ n. NoneBefore n scene.in_flight) before none_before, refl),
          )
      by (Some taken) at =
          let head = (facts.copies.order.snapshot_taken taken.fence taken.accepted at).head in
          let own : taken.fence ≡ number = fence_same taken.fence number head.0 later (sym head.1 ∙ waiting) in
          let before : accepted_before old.fence_snapshot old.so_far ≡ taken.accepted = counted_as old.fence_snapshot old.so_far taken (subst (IsSnapshotOf old.fence_snapshot) at shows.fence_snapshot) in (
            next,
            shows_next,
            facts_kept (CompleteFence number) scene next walks left same facts
                (later, taken.accepted, waiting, at ∙ ap (λ n. Some (record { fence = n; accepted = taken.accepted })) own, subst (λ n. NoneBefore n scene.in_flight) before none_before, refl),
          )

  -- by what stands first in the scene's queue
  done_first : (command : Commanded) → FirstEffect old new command → (queued : QueuedCommand) (later : List QueuedCommand) → scene.waiting ≡ queued ∷ later
      → IsQueuedAs old.address old.space_of (Command command) queued → AreQueuedAs old.address old.space_of new.waiting later → WalksAfter command walks left → HasSceneWith new left
  done_first (IotinvalVma gscid pscid page) effect (DropTranslations device extent) later waiting is rest after =
      drops_translations device extent later (IotinvalVma gscid pscid page) (record { keeps = effect.keeps; so_far = effect.so_far; in_flight = effect.in_flight; completed = effect.completed; contexts = effect.contexts; translations = effect.translations; fence_snapshot = effect.fence_snapshot; traffic = effect.traffic }) waiting is rest after
  done_first (IotinvalGvma gscid page) effect (DropTranslations device extent) later waiting is rest after =
      drops_translations device extent later (IotinvalGvma gscid page) (record { keeps = effect.keeps; so_far = effect.so_far; in_flight = effect.in_flight; completed = effect.completed; contexts = effect.contexts; translations = effect.translations; fence_snapshot = effect.fence_snapshot; traffic = effect.traffic }) waiting is rest after
  done_first (IofenceC store wsi pr pw) effect (Fence number) later waiting is rest after = completes number later store wsi pr pw effect waiting is rest after
  done_first (IodirInvalDdt (Some id)) effect (DropContext device) later waiting is rest after = by is effect
    where
      by : id ≡ device → FirstEffect old new (IodirInvalDdt (Some id)) → HasSceneWith new left
      by same it = drops_context device later (subst (λ d. FirstEffect old new (IodirInvalDdt (Some d))) same it) waiting rest after
  done_first (AtsInval id range) effect (Invalidate device extent) later waiting is rest after = opens device id range extent later effect waiting is rest after
  done_first command effect queued later waiting is rest after = absurd is

-- A COMMAND IS DONE: it stood first in the scene's queue
pub fetch_scene : (old new : Values) (command : Commanded) → FirstEffect old new command → (walks left : List Walk) → WalksAfter command walks left
    → HasSceneWith old walks → HasSceneWith new left
fetch_scene old new command effect walks left after (scene, shows, facts) =
    let first = queued_first old.address old.space_of (Command command) new.waiting scene.waiting
    (subst (λ l. AreQueuedAs old.address old.space_of l scene.waiting) effect.first shows.waiting) in
    done_first old new scene shows walks facts left command effect first.0 first.1 first.2 first.3 first.4 after

-- A FENCE WAITS: it counts, if it didn't before
pub record CountsAtHead (old new : Values) : Type 0 where
  pub keeps : KeepsGrants old new
  pub going : old.is_stopped ≡ false
  pub waiting : new.waiting ≡ old.waiting
  pub head : (number : ℕ) × (later : List QueueEntry) × (old.waiting ≡ Command (fence old.address number) ∷ later)
  pub completed : new.completed ≡ old.completed
  pub so_far : new.so_far ≡ old.so_far
  pub in_flight : new.in_flight ≡ old.in_flight
  pub contexts : (d : ℕ) → new.is_cached d ≡ true → old.is_cached d ≡ true
  pub translations : CachesNoMore old new
  pub fence_snapshot : new.fence_snapshot ≡ Some (accepted_before old.fence_snapshot old.so_far)
  pub closed : old.traffic.slots ≡ []
  pub traffic : new.traffic ≡ old.traffic

-- what a fence stands for in a scene
fence_queued : (address number : ℕ) (spaces : ℕ → Option Space) (command : QueuedCommand) → IsQueuedAs address spaces (Command (fence address number)) command → (n : ℕ) × (command ≡ Fence n)
fence_queued address number spaces (Fence n) is = (n, refl)
fence_queued address number spaces (DropTranslations d extent) is = absurd is
fence_queued address number spaces (DropContext d) is = absurd is
fence_queued address number spaces (Invalidate d extent) is = absurd is

pub count_scene : (old new : Values) → CountsAtHead old new → (walks : List Walk) → HasSceneWith old walks → HasSceneWith new walks
count_scene old new counts walks (scene, shows, facts) = by scene.fence_snapshot refl
  where
    first : (command : QueuedCommand) × (later : List QueuedCommand) × (scene.waiting ≡ command ∷ later)
        × IsQueuedAs old.address old.space_of (Command (fence old.address counts.head.0)) command × AreQueuedAs old.address old.space_of counts.head.1 later
    first = queued_first old.address old.space_of (Command (fence old.address counts.head.0)) counts.head.1 scene.waiting
        (subst (λ l. AreQueuedAs old.address old.space_of l scene.waiting) counts.head.2 shows.waiting)

    own : (n : ℕ) × (first.0 ≡ Fence n)
    own = fence_queued old.address counts.head.0 old.space_of first.0 first.3

    by : (fence_snapshot : Option FenceSnapshot) → scene.fence_snapshot ≡ fence_snapshot → HasSceneWith new walks
    by None none =
        let next : Scene = record scene { fence_snapshot = Some (record { fence = own.0; accepted = scene.accepted }) } in
        let counted : old.fence_snapshot ≡ None = counted_none old.fence_snapshot scene.fence_snapshot shows.fence_snapshot none in (
          next,
          scene_from old new scene next counts.keeps shows refl (record {
            waiting = rw counts.waiting shows.waiting;
            completed = shows.completed ∙ sym counts.completed;
            accepted = shows.accepted ∙ sym counts.so_far;
            in_flight = shows.in_flight ∙ sym counts.in_flight;
            contexts = λ d is. shows.contexts d (counts.contexts d is);
            translations = λ key translation at. shows.translations key translation (counts.translations key translation at);
            fence_snapshot = rw (counts.fence_snapshot, counted) shows.accepted;
            leaving = shows.leaving;
            traffic = shows.traffic ∙ sym counts.traffic;
          }),
          facts_kept (TakeSnapshot own.0) scene next walks walks refl facts
              (first.1, first.2 ∙ ap (λ c. c ∷ first.1) own.1, (λ slot there. none_there scene.slots slot (slots_as old scene shows counts.closed) there), shows.stopped ∙ counts.going, refl),
        )
    by (Some taken) at =
        let was : IsSnapshotOf old.fence_snapshot (Some taken) = subst (IsSnapshotOf old.fence_snapshot) at shows.fence_snapshot in (
          scene,
          scene_from old new scene scene counts.keeps shows refl (record {
            waiting = rw counts.waiting shows.waiting;
            completed = shows.completed ∙ sym counts.completed;
            accepted = shows.accepted ∙ sym counts.so_far;
            in_flight = shows.in_flight ∙ sym counts.in_flight;
            contexts = λ d is. shows.contexts d (counts.contexts d is);
            translations = λ key translation at. shows.translations key translation (counts.translations key translation at);
            fence_snapshot = rw (counts.fence_snapshot, at) (sym (counted_as old.fence_snapshot old.so_far taken was));
            leaving = shows.leaving;
            traffic = shows.traffic ∙ sym counts.traffic;
          }),
          facts,
        )
