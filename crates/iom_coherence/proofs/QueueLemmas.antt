-- What the IOMMU fetches.
use Rattle.std.proofs.Common.{◌≡◌, ℕ, ◌+◌, ◌<◌, ◌≤◌, ◌⊎◌, inl, inr, true, false, ◌==◌, ◌&&◌, List, [], ◌∷◌, ◌++◌, Contains, Option, None, Some, refl, sym, ap, ◌∙◌, subst, arith}
use Rattle.std.specs.Prelude.{⊤}
use Rattle.std.proofs.lemmas.Bool.{false≢true, eqb-true, and_parts}
use Rattle.std.proofs.lemmas.List.Elements.{Contains-append_left, Contains-push, Contains-push_cases}
use Rattle.iom_coherence.specs.Among.{AreAmong}
use Rattle.iom_coherence.specs.Attachments.{IsQuarantined, in_both_stages, may_forge}
use Rattle.iom_coherence.specs.Copies.{AccessGoes, ContextFits, EntryGoes, IsFaithfulEntry, IsUnderway, TranslationGoes}
use Rattle.iom_coherence.specs.Faithful.{IsFaithful, IsOrdered}
use Rattle.iom_coherence.specs.Queue.{DropContext, DropTranslations, Extent, Fence, Invalidate, QueuedCommand, extent_covers}
use Rattle.iom_coherence.specs.Scene.{AccessInFlight, Answer, AtsMessage, Copy, InvalidateCompletion, InvalidateRequest, Invalidation, Question, Scene, FenceSnapshot}
use Rattle.iom_coherence.specs.ToCome.{AreToCome, FencesRise, InOrder, QueuedStep, drops_context, drops_translation, invalidates, is_fence}
use Rattle.iom_machine.specs.declared.state.Attachment.{Attachment}
use Rattle.iom_machine.specs.declared.state.Attachment.TheVariants.{Attached, Detached, Leaving, Quarantined}
use Rattle.iom_coherence.proofs.KindLemmas.{honest}
use Rattle.iom_coherence.proofs.ToComeLemmas.{in_order-fetched, Snapshotted}
use Rattle.iom_coherence.proofs.LedgerLemmas.{backed-still, still}
use Rattle.iom_coherence.proofs.TicketLemmas.{same_number}

-- The head is fetched.

-- what is to come behind a step that the head doesn't do
pub to_come-fetched : (s : Scene) (command : QueuedCommand) (later : List QueuedCommand) → s.waiting ≡ command ∷ later → (t : ℕ) (step : QueuedStep) (steps : List QueuedStep) → step command ≡ false
    → AreToCome s t (step ∷ steps) → AreToCome (record s { waiting = later }) t (step ∷ steps)
to_come-fetched s command later head t step steps not_it (fence, there, order) =
    (fence, there, in_order-fetched step (steps ++ is_fence fence ∷ []) command later not_it (subst (λ q. InOrder (step ∷ (steps ++ is_fence fence ∷ [])) q) head order))

-- a fence that isn't the head
pub fence-fetched : (s : Scene) (command : QueuedCommand) (later : List QueuedCommand) → s.waiting ≡ command ∷ later → (t : ℕ) → ((fence : ℕ) → is_fence fence command ≡ false)
    → AreToCome s t [] → AreToCome (record s { waiting = later }) t []
fence-fetched s command later head t not_it (fence, there, order) =
    (fence, there, in_order-fetched (is_fence fence) [] command later (not_it fence) (subst (λ q. InOrder (is_fence fence ∷ []) q) head order))

pub translation-fetched : (s : Scene) (command : QueuedCommand) (later : List QueuedCommand) (contexts : List ℕ) → s.waiting ≡ command ∷ later → AreAmong contexts s.contexts
    → (d a t : ℕ) → drops_translation d a command ≡ false → (Contains contexts d → drops_context d command ≡ false)
    → TranslationGoes s d a t → TranslationGoes (record s { waiting = later; contexts = contexts }) d a t
translation-fetched s command later contexts head among d a t not_it not_context (drop, goes) = (
  to_come-fetched s command later head t (drops_translation d a) [] not_it drop,
  λ ats. elim (goes ats) [
    | inl reply ↦ inl (to_come-fetched s command later head t (drops_translation d a) (invalidates d a ∷ []) not_it reply)
    | inr (quarantined, cut) ↦ inr (quarantined, λ c. to_come-fetched s command later head t (drops_context d) [] (not_context c) (cut (among d c)))
  ],
)

pub access-fetched : (s : Scene) (command : QueuedCommand) (later : List QueuedCommand) → s.waiting ≡ command ∷ later → (n t : ℕ) → ((fence : ℕ) → is_fence fence command ≡ false)
    → AccessGoes s n t → AccessGoes (record s { waiting = later }) n t
access-fetched s command later head n t not_it (fence, there, order, snapshot_taken) =
    (fence, there, in_order-fetched (is_fence fence) [] command later (not_it fence) (subst (λ q. InOrder (is_fence fence ∷ []) q) head order), snapshot_taken)

pub context-fetched : (s : Scene) (command : QueuedCommand) (later : List QueuedCommand) → s.waiting ≡ command ∷ later → (d : ℕ) (attachment : Attachment) → drops_context d command ≡ false
    → ContextFits s d attachment → ContextFits (record s { waiting = later }) d attachment
context-fetched s command later head d Detached not_it fits = fits
context-fetched s command later head d (Attached mode ats) not_it fits = tt
context-fetched s command later head d (Quarantined t mode ats) not_it fits = to_come-fetched s command later head t (drops_context d) [] not_it fits
context-fetched s command later head d (Leaving t mode ats) not_it fits = to_come-fetched s command later head t (drops_context d) [] not_it fits

pub entry-fetched : (s : Scene) (command : QueuedCommand) (later : List QueuedCommand) → s.waiting ≡ command ∷ later → (d a t : ℕ) → invalidates d a command ≡ false
    → ((fence : ℕ) → is_fence fence command ≡ false) → (IsQuarantined (s.attachment_of d) → drops_context d command ≡ false)
    → EntryGoes s d a t → EntryGoes (record s { waiting = later }) d a t
entry-fetched s command later head d a t not_it no_fence no_drop (inl reply) = inl (to_come-fetched s command later head t (invalidates d a) [] not_it reply)
entry-fetched s command later head d a t not_it no_fence no_drop (inr (inl (fence, underway))) = inr (inl (fence-fetched s command later head t no_fence fence, underway))
entry-fetched s command later head d a t not_it no_fence no_drop (inr (inr (inl (fence, stopped)))) = inr (inr (inl (fence-fetched s command later head t no_fence fence, stopped)))
entry-fetched s command later head d a t not_it no_fence no_drop (inr (inr (inr (drop, quarantined)))) =
    inr (inr (inr (to_come-fetched s command later head t (drops_context d) [] (no_drop quarantined) drop, quarantined)))

-- no snapshot is taken where the head is no fence
no_snapshot : (s : Scene) (command : QueuedCommand) (later : List QueuedCommand) → IsOrdered s → s.waiting ≡ command ∷ later → ((fence : ℕ) → is_fence fence command ≡ false)
    → (fence fence_snapshot : ℕ) → s.fence_snapshot ≡ Some (Snapshotted fence fence_snapshot) → ⊥
no_snapshot s command later ordered head no_fence fence fence_snapshot is =
    let first = (ordered.snapshot_taken fence fence_snapshot is).head in
    let both : ◌≡◌ {A = List QueuedCommand} (Fence fence ∷ first.0) (command ∷ later) = sym first.1 ∙ head in
    let same : Fence fence ≡ command = cc in
    absurd (false≢true (sym (no_fence fence) ∙ ap (is_fence fence) (sym same) ∙ same_number fence))

-- the order, when a command that is no fence is fetched
pub order-fetched : (s : Scene) (command : QueuedCommand) (later : List QueuedCommand) (translations : List Copy) (contexts : List ℕ) (slots : List Invalidation) (last_serial : ℕ) (messages : List AtsMessage)
    → IsOrdered s → s.waiting ≡ command ∷ later → ((fence : ℕ) → is_fence fence command ≡ false)
    → FencesRise s.completed later s.last_fence
    → IsOrdered (record s { waiting = later; translations = translations; contexts = contexts; slots = slots; last_serial = last_serial; messages = messages })
order-fetched s command later translations contexts slots last_serial messages ordered head no_fence rise = record {
  fences = rise;
  tickets = ordered.tickets;
  confirmed = ordered.confirmed;
  lingering = ordered.lingering;
  apart = ordered.apart;
  counted = ordered.counted;
  snapshot_taken = λ fence fence_snapshot is. absurd (no_snapshot s command later ordered head no_fence fence fence_snapshot is);
  grants = ordered.grants;
  cached = ordered.cached;
}

-- IOTINVAL.
pub faithful_translations_dropped : (s : Scene) (device : ℕ) (extent : Extent) (later : List QueuedCommand) (left : List Copy) → IsFaithful s → s.waiting ≡ DropTranslations device extent ∷ later
    → ((copy : Copy) → Contains left copy → Contains s.translations copy × (((device == copy.device) && extent_covers extent copy.page) ≡ false))
    → IsFaithful (record s { waiting = later; translations = left })
faithful_translations_dropped s device extent later left faithful head dropped = record {
  order = order-fetched s (DropTranslations device extent) later left s.contexts s.slots s.last_serial s.messages faithful.order head (λ fence. refl)
      (subst (λ q. FencesRise s.completed q s.last_fence) head faithful.order.fences);
  numbers = faithful.numbers;
  translations = λ copy there.
      backed-still (in_both_stages (s.attachment_of copy.device)) s.history (TranslationGoes s copy.device copy.page) (TranslationGoes (record s { waiting = later; translations = left }) copy.device copy.page) copy
      (λ t goes. translation-fetched s (DropTranslations device extent) later s.contexts head (λ x c. c) copy.device copy.page t (dropped copy there).1 (λ c. refl) goes)
      (faithful.translations copy (dropped copy there).0);
  accesses = λ flight there. let old = faithful.accesses flight there in (
    old.0,
    old.1,
    still s.history (AccessGoes s flight.number) (AccessGoes (record s { waiting = later; translations = left }) flight.number) flight.device old.0 (flight.frame, old.1)
        (λ t goes. access-fetched s (DropTranslations device extent) later head flight.number t (λ fence. refl) goes) old.2,
    old.3,
  );
  contexts = λ d there. context-fetched s (DropTranslations device extent) later head d (s.attachment_of d) refl (faithful.contexts d there);
  entries = λ copy there. entry copy (faithful.entries copy there);
  answers = λ epoch copy there now. entry copy (faithful.answers epoch copy there now);
}
  where
    entry : (copy : Copy) → IsFaithfulEntry s copy → IsFaithfulEntry (record s { waiting = later; translations = left }) copy
    entry copy old in_use = (
      (old in_use).0,
      backed-still (in_both_stages (s.attachment_of copy.device)) s.history (EntryGoes s copy.device copy.page) (EntryGoes (record s { waiting = later; translations = left }) copy.device copy.page) copy
          (λ t goes. entry-fetched s (DropTranslations device extent) later head copy.device copy.page t refl (λ fence. refl) (λ q. refl) goes) (old in_use).1,
    )

-- A fence that has taken its snapshot is done.
pub faithful_fence_done : (s : Scene) (own fence_snapshot : ℕ) (later : List QueuedCommand) → IsFaithful s → s.waiting ≡ Fence own ∷ later → s.fence_snapshot ≡ Some (Snapshotted own fence_snapshot)
    → ((flight : AccessInFlight) → Contains s.in_flight flight → fence_snapshot < flight.number)
    → IsFaithful (record s { waiting = later; completed = own; fence_snapshot = None })
faithful_fence_done s own fence_snapshot later faithful head taken made = record {
  order = record {
    fences = (subst (λ q. FencesRise s.completed q s.last_fence) head faithful.order.fences).1;
    tickets = faithful.order.tickets;
    confirmed = faithful.order.confirmed;
    lingering = faithful.order.lingering;
    apart = faithful.order.apart;
    counted = faithful.order.counted;
    snapshot_taken = λ fence n is. let none : ◌≡◌ {A = Option FenceSnapshot} None (Some (Snapshotted fence n)) = is in cc;
    grants = faithful.order.grants;
    cached = faithful.order.cached;
  };
  numbers = faithful.numbers;
  translations = λ copy there.
      backed-still (in_both_stages (s.attachment_of copy.device)) s.history (TranslationGoes s copy.device copy.page) (TranslationGoes New copy.device copy.page) copy
      (λ t goes. translation-fetched s (Fence own) later s.contexts head (λ x c. c) copy.device copy.page t refl (λ c. refl) goes)
      (faithful.translations copy there);
  accesses = λ flight there. let old = faithful.accesses flight there in (
    old.0,
    old.1,
    still s.history (AccessGoes s flight.number) (AccessGoes New flight.number) flight.device old.0 (flight.frame, old.1)
        (λ t goes. access flight.number t (made flight there) goes) old.2,
    old.3,
  );
  contexts = λ d there. context-fetched s (Fence own) later head d (s.attachment_of d) refl (faithful.contexts d there);
  entries = λ copy there. entry copy (faithful.entries copy there);
  answers = λ epoch copy there now. entry copy (faithful.answers epoch copy there now);
}
  where
    New : Scene
    New = record s { waiting = later; completed = own; fence_snapshot = None }

    access : (n t : ℕ) → fence_snapshot < n → AccessGoes s n t → AccessGoes (record s { waiting = later; completed = own; fence_snapshot = None }) n t
    access n t after (fence, there, order, within) = by (subst (λ q. InOrder (is_fence fence ∷ []) q) head order)
      where
        by : ((own == fence) ≡ true) × ⊤ ⊎ InOrder (is_fence fence ∷ []) later → AccessGoes (record s { waiting = later; completed = own; fence_snapshot = None }) n t
        by (inl (it, rest)) = let low = within fence_snapshot (taken ∙ ap (λ f. Some (Snapshotted f fence_snapshot)) (eqb-true own fence it)) in absurd (omega (arith, low, after))
        by (inr next) = (fence, there, next, λ m is. let none : ◌≡◌ {A = Option FenceSnapshot} None (Some (Snapshotted fence m)) = is in cc)

    goes_on : (d a t : ℕ) → EntryGoes s d a t → EntryGoes (record s { waiting = later; completed = own; fence_snapshot = None }) d a t
    goes_on d a t (inl reply) = inl (to_come-fetched s (Fence own) later head t (invalidates d a) [] refl reply)
    goes_on d a t (inr (inl (fence, (serial, opened, undone, covered)))) = absurd ((faithful.order.snapshot_taken own fence_snapshot taken).closed (record { serial = serial; device = d }) opened)
    goes_on d a t (inr (inr (inl (fence, stopped)))) = absurd (false≢true (sym (faithful.order.snapshot_taken own fence_snapshot taken).goes_on ∙ stopped))
    goes_on d a t (inr (inr (inr (drop, quarantined)))) = inr (inr (inr (to_come-fetched s (Fence own) later head t (drops_context d) [] refl drop, quarantined)))

    entry : (copy : Copy) → IsFaithfulEntry s copy → IsFaithfulEntry (record s { waiting = later; completed = own; fence_snapshot = None }) copy
    entry copy old in_use = (
      (old in_use).0,
      backed-still (in_both_stages (s.attachment_of copy.device)) s.history (EntryGoes s copy.device copy.page) (EntryGoes (record s { waiting = later; completed = own; fence_snapshot = None }) copy.device copy.page) copy
          (λ t goes. goes_on copy.device copy.page t goes) (old in_use).1,
    )

-- A fence takes its snapshot.
pub faithful_snapshot : (s : Scene) (own : ℕ) (later : List QueuedCommand) → IsFaithful s → s.waiting ≡ Fence own ∷ later → ((slot : Invalidation) → ¬ Contains s.slots slot) → s.is_stopped ≡ false
    → IsFaithful (record s { fence_snapshot = Some (Snapshotted own s.accepted) })
faithful_snapshot s own later faithful head closed fetches = record {
  order = record {
    fences = faithful.order.fences;
    tickets = faithful.order.tickets;
    confirmed = faithful.order.confirmed;
    lingering = faithful.order.lingering;
    apart = faithful.order.apart;
    counted = faithful.order.counted;
    snapshot_taken = λ fence n is.
        let both : ◌≡◌ {A = Option FenceSnapshot} (Some (Snapshotted own s.accepted)) (Some (Snapshotted fence n)) = is in
        let snapshots : Snapshotted own s.accepted ≡ Snapshotted fence n = cc in
        let same : own ≡ fence = ap (λ (x : FenceSnapshot). x.fence) snapshots in
        record { head = (later, subst (λ f. s.waiting ≡ Fence f ∷ later) same head); closed = closed; goes_on = fetches };
    grants = faithful.order.grants;
    cached = faithful.order.cached;
  };
  numbers = faithful.numbers;
  translations = faithful.translations;
  accesses = λ flight there. let old = faithful.accesses flight there in (
    old.0,
    old.1,
    still s.history (AccessGoes s flight.number) (AccessGoes (record s { fence_snapshot = Some (Snapshotted own s.accepted) }) flight.number) flight.device old.0 (flight.frame, old.1)
        (λ t goes. (goes.0, goes.1, goes.2, λ n is. within flight (faithful.order.counted flight there) goes.0 n is)) old.2,
    old.3,
  );
  contexts = faithful.contexts;
  entries = faithful.entries;
  answers = faithful.answers;
}
  where
    within : (flight : AccessInFlight) → flight.number ≤ s.accepted → (fence n : ℕ) → ◌≡◌ {A = Option FenceSnapshot} (Some (Snapshotted own s.accepted)) (Some (Snapshotted fence n)) → flight.number ≤ n
    within flight low fence n is =
        let both : Snapshotted own s.accepted ≡ Snapshotted fence n = cc in
        let all : s.accepted ≡ n = ap (λ (x : FenceSnapshot). x.accepted) both in omega (arith, low, all)

-- IODIR.
pub faithful_context_dropped : (s : Scene) (device : ℕ) (later : List QueuedCommand) (left : List ℕ) → IsFaithful s → s.waiting ≡ DropContext device ∷ later
    → ((d : ℕ) → Contains left d → Contains s.contexts d × ((device == d) ≡ false))
    → IsFaithful (record s { waiting = later; contexts = left })
faithful_context_dropped s device later left faithful head dropped = record {
  order = order-fetched s (DropContext device) later s.translations left s.slots s.last_serial s.messages faithful.order head (λ fence. refl)
      (subst (λ q. FencesRise s.completed q s.last_fence) head faithful.order.fences);
  numbers = faithful.numbers;
  translations = λ copy there.
      backed-still (in_both_stages (s.attachment_of copy.device)) s.history (TranslationGoes s copy.device copy.page) (TranslationGoes (record s { waiting = later; contexts = left }) copy.device copy.page) copy
      (λ t goes. translation-fetched s (DropContext device) later left head (λ x c. (dropped x c).0) copy.device copy.page t refl (λ c. (dropped copy.device c).1) goes)
      (faithful.translations copy there);
  accesses = λ flight there. let old = faithful.accesses flight there in (
    old.0,
    old.1,
    still s.history (AccessGoes s flight.number) (AccessGoes (record s { waiting = later; contexts = left }) flight.number) flight.device old.0 (flight.frame, old.1)
        (λ t goes. access-fetched s (DropContext device) later head flight.number t (λ fence. refl) goes) old.2,
    old.3,
  );
  contexts = λ d there. context-fetched s (DropContext device) later head d (s.attachment_of d) (dropped d there).1 (faithful.contexts d (dropped d there).0);
  entries = λ copy there. entry copy (faithful.entries copy there);
  answers = λ epoch copy there now. entry copy (faithful.answers epoch copy there now);
}
  where
    entry : (copy : Copy) → IsFaithfulEntry s copy → IsFaithfulEntry (record s { waiting = later; contexts = left }) copy
    entry copy fact in_use =
        let old = fact (λ q. (dropped copy.device (in_use q)).0) in (
          old.0,
          backed-still (in_both_stages (s.attachment_of copy.device)) s.history (EntryGoes s copy.device copy.page) (EntryGoes (record s { waiting = later; contexts = left }) copy.device copy.page) copy
              (λ t goes. entry-fetched s (DropContext device) later head copy.device copy.page t refl (λ fence. refl) (λ q. (dropped copy.device (in_use q)).1) goes) old.1,
        )

-- ATS.INVAL: a slot is opened, and its invalidation is sent, or lost.
pub faithful_slot_opened : (s : Scene) (device : ℕ) (extent : Extent) (later : List QueuedCommand) (slots : List Invalidation) (messages : List AtsMessage) → IsFaithful s → s.waiting ≡ Invalidate device extent ∷ later
    → slots ≡ s.slots ++ record { serial = s.last_serial + 1; device = device } ∷ []
    → ((message : AtsMessage) → Contains messages message → (message ≡ InvalidateRequest (record { serial = s.last_serial + 1; device = device }) extent) ⊎ Contains s.messages message)
    → IsFaithful (record s { waiting = later; slots = slots; last_serial = s.last_serial + 1; messages = messages })
faithful_slot_opened s device extent later slots messages faithful head opens sent = record {
  order = order-fetched s (Invalidate device extent) later s.translations s.contexts slots (s.last_serial + 1) messages faithful.order head (λ fence. refl)
      (subst (λ q. FencesRise s.completed q s.last_fence) head faithful.order.fences);
  numbers = record {
    asked = λ d epoch page there. elim (sent (Question d epoch page) there) [ inl same ↦ (let never : Question d epoch page ≡ InvalidateRequest slot extent = same in cc) | inr old ↦ faithful.numbers.asked d epoch page old ];
    answered = λ epoch copy there. elim (sent (Answer epoch copy) there) [ inl same ↦ (let never : Answer epoch copy ≡ InvalidateRequest slot extent = same in cc) | inr old ↦ faithful.numbers.answered epoch copy old ];
    opened = λ one there. elim (Contains-push_cases s.slots slot one (subst (λ l. Contains l one) opens there)) [
      | inl old ↦ (let low = faithful.numbers.opened one old in omega (arith, low))
      | inr same ↦ (let is : s.last_serial + 1 ≡ one.serial = ap (λ (x : Invalidation). x.serial) same in omega (arith, is))
    ];
    requested = λ one r there. elim (sent (InvalidateRequest one r) there) [
      | inl same ↦ (let is : one ≡ slot = cc in let its : one.serial ≡ s.last_serial + 1 = ap (λ (x : Invalidation). x.serial) is in omega (arith, its))
      | inr old ↦ (let low = faithful.numbers.requested one r old in omega (arith, low))
    ];
    done = λ one there trusted. elim (sent (InvalidateCompletion one) there) [
      | inl same ↦ (let never : InvalidateCompletion one ≡ InvalidateRequest slot extent = same in cc)
      | inr old ↦ (let low = faithful.numbers.done one old trusted in omega (arith, low))
    ];
  };
  translations = λ copy there.
      backed-still (in_both_stages (s.attachment_of copy.device)) s.history (TranslationGoes s copy.device copy.page) (TranslationGoes New copy.device copy.page) copy
      (λ t goes. translation-fetched s (Invalidate device extent) later s.contexts head (λ x c. c) copy.device copy.page t refl (λ c. refl) goes)
      (faithful.translations copy there);
  accesses = λ flight there. let old = faithful.accesses flight there in (
    old.0,
    old.1,
    still s.history (AccessGoes s flight.number) (AccessGoes New flight.number) flight.device old.0 (flight.frame, old.1)
        (λ t goes. access-fetched s (Invalidate device extent) later head flight.number t (λ fence. refl) goes) old.2,
    old.3,
  );
  contexts = λ d there. context-fetched s (Invalidate device extent) later head d (s.attachment_of d) refl (faithful.contexts d there);
  entries = λ copy there. entry copy (faithful.entries copy there);
  answers = λ epoch copy there now. elim (sent (Answer epoch copy) there) [
    | inl same ↦ (let never : Answer epoch copy ≡ InvalidateRequest slot extent = same in cc)
    | inr old ↦ entry copy (faithful.answers epoch copy old now)
  ];
}
  where
    slot : Invalidation
    slot = record { serial = s.last_serial + 1; device = device }

    New : Scene
    New = record s { waiting = later; slots = slots; last_serial = s.last_serial + 1; messages = messages }

    -- a slot that is underway stays so
    unchanged : (d a : ℕ) → may_forge (s.kind_of d) ≡ false → IsUnderway s d a → IsUnderway New d a
    unchanged d a trusted (serial, opened, undone, covered) = (
      serial,
      subst (λ l. Contains l (record { serial = serial; device = d })) (sym opens) (Contains-append_left s.slots (slot ∷ []) _ opened),
      (λ there. elim (sent (InvalidateCompletion (record { serial = serial; device = d })) there) [
        | inl same ↦ (let never : InvalidateCompletion (record { serial = serial; device = d }) ≡ InvalidateRequest slot extent = same in cc)
        | inr old ↦ undone old
      ]),
      (λ r there. elim (sent (InvalidateRequest (record { serial = serial; device = d }) r) there) [
        | inl same ↦ (
            let is : record { serial = serial; device = d } ≡ slot = cc in
            let its : serial ≡ s.last_serial + 1 = ap (λ (x : Invalidation). x.serial) is in
            let low = faithful.numbers.opened (record { serial = serial; device = d }) opened in absurd (omega (arith, its, low))
            )
        | inr old ↦ covered r old
      ]),
    )

    -- the slot that is opened now
    begins : (d a : ℕ) → device ≡ d → extent_covers extent a ≡ true → may_forge (s.kind_of d) ≡ false → IsUnderway New d a
    begins d a its in_extent trusted = (
      s.last_serial + 1,
      subst (λ x. Contains slots (record { serial = s.last_serial + 1; device = x })) its (subst (λ l. Contains l slot) (sym opens) (Contains-push s.slots slot)),
      (λ there. elim (sent (InvalidateCompletion (record { serial = s.last_serial + 1; device = d })) there) [
        | inl same ↦ (let never : InvalidateCompletion (record { serial = s.last_serial + 1; device = d }) ≡ InvalidateRequest slot extent = same in cc)
        | inr old ↦ (let low = faithful.numbers.done (record { serial = s.last_serial + 1; device = d }) old trusted in absurd (omega (arith, low)))
      ]),
      (λ r there. elim (sent (InvalidateRequest (record { serial = s.last_serial + 1; device = d }) r) there) [
        | inl same ↦ (let is : r ≡ extent = cc in subst (λ x. extent_covers x a ≡ true) (sym is) in_extent)
        | inr old ↦ (let low = faithful.numbers.requested (record { serial = s.last_serial + 1; device = d }) r old in absurd (omega (arith, low)))
      ]),
    )

    goes_on : (d a t : ℕ) → may_forge (s.kind_of d) ≡ false → EntryGoes s d a t → EntryGoes New d a t
    goes_on d a t trusted (inl (fence, there, order)) = by (subst (λ q. InOrder (invalidates d a ∷ is_fence fence ∷ []) q) head order)
      where
        by : (((device == d) && extent_covers extent a) ≡ true) × InOrder (is_fence fence ∷ []) later ⊎ InOrder (invalidates d a ∷ is_fence fence ∷ []) later → EntryGoes New d a t
        by (inl (it, rest)) =
            let parts = and_parts (device == d) (extent_covers extent a) it in
            inr (inl ((fence, there, rest), begins d a (eqb-true device d parts.0) parts.1 trusted))
        by (inr next) = inl (fence, there, next)
    goes_on d a t trusted (inr (inl (fence, underway))) = inr (inl (fence-fetched s (Invalidate device extent) later head t (λ f. refl) fence, unchanged d a trusted underway))
    goes_on d a t trusted (inr (inr (inl (fence, stopped)))) = inr (inr (inl (fence-fetched s (Invalidate device extent) later head t (λ f. refl) fence, stopped)))
    goes_on d a t trusted (inr (inr (inr (drop, quarantined)))) = inr (inr (inr (to_come-fetched s (Invalidate device extent) later head t (drops_context d) [] refl drop, quarantined)))

    entry : (copy : Copy) → IsFaithfulEntry s copy → IsFaithfulEntry New copy
    entry copy fact in_use =
        let old = fact in_use in (
          old.0,
          backed-still (in_both_stages (s.attachment_of copy.device)) s.history (EntryGoes s copy.device copy.page) (EntryGoes New copy.device copy.page) copy
              (λ t goes. goes_on copy.device copy.page t (honest (s.kind_of copy.device) (faithful.order.cached copy.device old.0)) goes) old.1,
        )
