-- Restart and timeout, and a slot that is closed.
use Rattle.std.proofs.Common.{◌≡◌, ℕ, ◌+◌, ◌≤◌, ◌⊎◌, inl, inr, true, false, List, [], ◌∷◌, ◌++◌, Contains, Option, None, Some, refl, sym, ap, ◌∙◌, subst}
use Rattle.std.proofs.lemmas.Bool.{false≢true}
use Rattle.iom_ledger.specs.History.{Pair}
use Rattle.iom_coherence.specs.Among.{AreAmong}
use Rattle.iom_coherence.specs.Attachments.{IsKnown, IsQuarantined, has_ats, in_both_stages}
use Rattle.iom_coherence.specs.Backing.{IsBacked}
use Rattle.iom_coherence.specs.Copies.{AccessGoes, ContextFits, EntryGoes, IsFaithfulEntry, IsFaithfulTranslation, TranslationGoes}
use Rattle.iom_coherence.specs.DriverCalls.{all_queued_again, queued_again, restarted}
use Rattle.iom_coherence.specs.Faithful.{GrantsFit, IsFaithful, IsOrdered}
use Rattle.iom_coherence.specs.Holdings.{HoldsNoPage, LingersOnNothing}
use Rattle.iom_coherence.specs.Queue.{Fence, QueuedCommand}
use Rattle.iom_coherence.specs.Scene.{Answer, AtsMessage, Copy, InvalidateCompletion, InvalidateRequest, Invalidation, Question, Scene, PendingTicket, FenceSnapshot}
use Rattle.iom_coherence.specs.ToCome.{AreToCome, FencesRise, InOrder, QueuedStep, drops_context, drops_translation, invalidates, is_fence, WaitsForFence}
use Rattle.iom_machine.specs.declared.state.Attachment.{Attachment}
use Rattle.iom_machine.specs.declared.state.Attachment.TheVariants.{Attached, Detached, Leaving, Quarantined}
use Rattle.iom_coherence.proofs.ListLemmas.{in_none, cons_cases, contains_map}
use Rattle.iom_coherence.proofs.ToComeLemmas.{in_order-more, in_order-last, in_order-rest, rise_le, rise-fence, tickets-waiting_for, Waits, Snapshotted}
use Rattle.iom_coherence.proofs.LedgerLemmas.{backed-still, backed-never, still}
use Rattle.iom_coherence.proofs.TicketLemmas.{same_number}

-- some steps, and others behind them
in_order-both : (first second : List QueuedStep) (commands more : List QueuedCommand) → InOrder first commands → InOrder second more → InOrder (first ++ second) (commands ++ more)
in_order-both [] second commands more a b = in_order-last second commands more b
in_order-both (step ∷ steps) second [] more a b = absurd a
in_order-both (step ∷ steps) second (command ∷ later) more (inl (effect, a)) b = inl (effect, in_order-both steps second later more a b)
in_order-both (step ∷ steps) second (command ∷ later) more (inr a) b = inr (in_order-both (step ∷ steps) second later more a b)

-- the commands for a device are among all
in_requeued : (of : ℕ → Attachment) (devices : List ℕ) (d : ℕ) (steps : List QueuedStep) → Contains devices d → InOrder steps (queued_again d (of d)) → InOrder steps (all_queued_again of devices)
in_requeued of [] d steps there order = absurd (in_none d there)
in_requeued of (device ∷ others) d steps there order = by (in_requeued of others d steps) (cons_cases device others d there)
  where
    by : (Contains others d → InOrder steps (queued_again d (of d)) → InOrder steps (all_queued_again of others)) → (device ≡ d) ⊎ Contains others d
        → InOrder steps (queued_again device (of device) ++ all_queued_again of others)
    by rest (inl same) = in_order-more steps (queued_again device (of device)) (all_queued_again of others) (subst (λ x. InOrder steps (queued_again x (of x))) (sym same) order)
    by rest (inr later) = in_order-last steps (queued_again device (of device)) (all_queued_again of others) (rest later order)

-- no fence is among them
no_fence : (of : ℕ → Attachment) (devices : List ℕ) (low high : ℕ) → low ≤ high → FencesRise low (all_queued_again of devices) high
no_fence of [] low high within = within
no_fence of (device ∷ others) low high within = by (of device) (no_fence of others low high within)
  where
    by : (attachment : Attachment) → FencesRise low (all_queued_again of others) high → FencesRise low (queued_again device attachment ++ all_queued_again of others) high
    by Detached rest = rest
    by (Attached mode false) rest = rest
    by (Attached mode true) rest = rest
    by (Quarantined t mode ats) rest = rest
    by (Leaving t mode ats) rest = rest

-- A restart keeps all facts: every ticket that was pending waits for everything again.
pub faithful_restarted : (s : Scene) (devices : List ℕ) → IsFaithful s → ((d : ℕ) → IsKnown (s.attachment_of d) → Contains devices d) → IsFaithful (restarted s devices)
faithful_restarted s devices faithful known = record {
  order = record {
    fences = rise-fence s.completed (all_queued_again s.attachment_of devices) s.last_fence (no_fence s.attachment_of devices s.completed s.last_fence (rise_le s.completed s.waiting s.last_fence faithful.order.fences));
    tickets = tickets-waiting_for s.confirmed s.pending s.given (s.last_fence + 1) faithful.order.tickets;
    confirmed = faithful.order.confirmed;
    lingering = faithful.order.lingering;
    apart = faithful.order.apart;
    counted = faithful.order.counted;
    snapshot_taken = λ fence n is. let none : ◌≡◌ {A = Option FenceSnapshot} None (Some (Snapshotted fence n)) = is in cc;
    grants = faithful.order.grants;
    cached = faithful.order.cached;
  };
  numbers = record {
    asked = faithful.numbers.asked;
    answered = faithful.numbers.answered;
    opened = λ slot there. absurd (in_none slot there);
    requested = faithful.numbers.requested;
    done = faithful.numbers.done;
  };
  translations = λ copy there. translation copy.device copy.page copy.pair (s.attachment_of copy.device) refl (faithful.translations copy there);
  accesses = λ flight there. let old = faithful.accesses flight there in (
    old.0,
    old.1,
    still s.history (AccessGoes s flight.number) (AccessGoes (restarted s devices) flight.number) flight.device old.0 (flight.frame, old.1)
        (λ t goes. (
          s.last_fence + 1,
          contains_map (λ (p : PendingTicket). Waits p.ticket (s.last_fence + 1)) s.pending (Waits t goes.0) goes.1,
          in_order-last (is_fence (s.last_fence + 1) ∷ []) (all_queued_again s.attachment_of devices) (Fence (s.last_fence + 1) ∷ []) (inl (same_number (s.last_fence + 1), tt)),
          (λ n is. let none : ◌≡◌ {A = Option FenceSnapshot} None (Some (Snapshotted (s.last_fence + 1) n)) = is in cc),
        )) old.2,
    old.3,
  );
  contexts = λ d there. context d (s.attachment_of d) refl (faithful.contexts d there);
  entries = λ copy there. entry copy.device copy.page copy.pair (s.attachment_of copy.device) refl (faithful.entries copy there);
  answers = λ epoch copy there now. entry copy.device copy.page copy.pair (s.attachment_of copy.device) refl (faithful.answers epoch copy there now);
}
  where
    New : Scene
    New = restarted s devices

    -- what is requeued for the device is to come for each pending ticket
    to_come : (d : ℕ) (attachment : Attachment) → s.attachment_of d ≡ attachment → IsKnown attachment → (t : ℕ) (before steps : List QueuedStep) → AreToCome s t before → InOrder steps (queued_again d attachment) → AreToCome New t steps
    to_come d attachment at is_known t before steps (fence, there, order) requeues = (
      s.last_fence + 1,
      contains_map (λ (p : PendingTicket). Waits p.ticket (s.last_fence + 1)) s.pending (Waits t fence) there,
      in_order-both steps (is_fence (s.last_fence + 1) ∷ []) (all_queued_again s.attachment_of devices) (Fence (s.last_fence + 1) ∷ [])
          (in_requeued s.attachment_of devices d steps (known d (subst IsKnown (sym at) is_known)) (subst (λ x. InOrder steps (queued_again d x)) (sym at) requeues))
          (inl (same_number (s.last_fence + 1), tt)),
    )

    nothing : (S : ℕ → Type 0) (d a : ℕ) (pair : Pair) → HoldsNoPage s.history d × LingersOnNothing s.history d → IsBacked (in_both_stages (s.attachment_of d)) s.history S (record { device = d; page = a; pair = pair }) → ⊥
    nothing S d a pair none old = backed-never (in_both_stages (s.attachment_of d)) s.history S (record { device = d; page = a; pair = pair }) none.0 none.1 old

    translation : (d a : ℕ) (pair : Pair) (attachment : Attachment) → s.attachment_of d ≡ attachment → IsFaithfulTranslation s (record { device = d; page = a; pair = pair }) → IsFaithfulTranslation New (record { device = d; page = a; pair = pair })
    translation d a pair Detached at old = absurd (nothing (TranslationGoes s d a) d a pair (subst (GrantsFit s.history d) at (faithful.order.grants d)) old)
    translation d a pair (Leaving x mode ats) at old = absurd (nothing (TranslationGoes s d a) d a pair (subst (GrantsFit s.history d) at (faithful.order.grants d)) old)
    translation d a pair (Attached mode false) at old = backed-still (in_both_stages (s.attachment_of d)) s.history (TranslationGoes s d a) (TranslationGoes New d a) (record { device = d; page = a; pair = pair }) (λ t goes. (
      to_come d (Attached mode false) at refl t (drops_translation d a ∷ []) (drops_translation d a ∷ []) goes.0 (inr (inl (rw (same_number d) refl, tt))),
      λ has. absurd (false≢true (sym (ap has_ats at) ∙ has)),
    )) old
    translation d a pair (Attached mode true) at old = backed-still (in_both_stages (s.attachment_of d)) s.history (TranslationGoes s d a) (TranslationGoes New d a) (record { device = d; page = a; pair = pair }) (λ t goes. (
      to_come d (Attached mode true) at refl t (drops_translation d a ∷ []) (drops_translation d a ∷ []) goes.0 (inr (inl (rw (same_number d) refl, tt))),
      λ has. inl (to_come d (Attached mode true) at refl t (drops_translation d a ∷ []) (drops_translation d a ∷ invalidates d a ∷ []) goes.0
          (inr (inl (rw (same_number d) refl, inl (rw (same_number d) refl, tt))))),
    )) old
    translation d a pair (Quarantined x mode ats) at old = backed-still (in_both_stages (s.attachment_of d)) s.history (TranslationGoes s d a) (TranslationGoes New d a) (record { device = d; page = a; pair = pair }) (λ t goes. (
      to_come d (Quarantined x mode ats) at refl t (drops_translation d a ∷ []) (drops_translation d a ∷ []) goes.0 (inr (inl (rw (same_number d) refl, tt))),
      λ has. inr (subst IsQuarantined (sym at) refl, λ c. to_come d (Quarantined x mode ats) at refl t (drops_translation d a ∷ []) (drops_context d ∷ []) goes.0 (inl (same_number d, tt))),
    )) old

    context : (d : ℕ) (attachment : Attachment) → s.attachment_of d ≡ attachment → ContextFits s d (s.attachment_of d) → ContextFits New d (s.attachment_of d)
    context d attachment at fits = subst (ContextFits New d) (sym at) (by attachment at (subst (ContextFits s d) at fits))
      where
        by : (x : Attachment) → s.attachment_of d ≡ x → ContextFits s d x → ContextFits New d x
        by Detached is old = old
        by (Attached mode ats) is old = tt
        by (Quarantined t mode ats) is old = to_come d (Quarantined t mode ats) is refl t (drops_context d ∷ []) (drops_context d ∷ []) old (inl (same_number d, tt))
        by (Leaving t mode ats) is old = to_come d (Leaving t mode ats) is refl t (drops_context d ∷ []) (drops_context d ∷ []) old (inl (same_number d, tt))

    -- an entry's ticket is pending
    pending : (d a t : ℕ) → EntryGoes s d a t → (fence : ℕ) × WaitsForFence s t fence
    pending d a t (inl (fence, there, order)) = (fence, there)
    pending d a t (inr (inl ((fence, there, order), underway))) = (fence, there)
    pending d a t (inr (inr (inl ((fence, there, order), stopped)))) = (fence, there)
    pending d a t (inr (inr (inr ((fence, there, order), q)))) = (fence, there)

    again : (d : ℕ) (attachment : Attachment) → s.attachment_of d ≡ attachment → IsKnown attachment → (t : ℕ) (steps : List QueuedStep) → ((fence : ℕ) × WaitsForFence s t fence) → InOrder steps (queued_again d attachment) → AreToCome New t steps
    again d attachment at is_known t steps (fence, there) requeues = (
      s.last_fence + 1,
      contains_map (λ (p : PendingTicket). Waits p.ticket (s.last_fence + 1)) s.pending (Waits t fence) there,
      in_order-both steps (is_fence (s.last_fence + 1) ∷ []) (all_queued_again s.attachment_of devices) (Fence (s.last_fence + 1) ∷ [])
          (in_requeued s.attachment_of devices d steps (known d (subst IsKnown (sym at) is_known)) (subst (λ x. InOrder steps (queued_again d x)) (sym at) requeues))
          (inl (same_number (s.last_fence + 1), tt)),
    )

    entry : (d a : ℕ) (pair : Pair) (attachment : Attachment) → s.attachment_of d ≡ attachment → IsFaithfulEntry s (record { device = d; page = a; pair = pair }) → IsFaithfulEntry New (record { device = d; page = a; pair = pair })
    entry d a pair Detached at fact in_use = let old = fact in_use in absurd (false≢true (sym (ap has_ats at) ∙ old.0))
    entry d a pair (Leaving x mode ats) at fact in_use = let old = fact in_use in absurd (nothing (EntryGoes s d a) d a pair (subst (GrantsFit s.history d) at (faithful.order.grants d)) old.1)
    entry d a pair (Attached mode false) at fact in_use = let old = fact in_use in absurd (false≢true (sym (ap has_ats at) ∙ old.0))
    entry d a pair (Attached mode true) at fact in_use =
        let old = fact in_use in (
          old.0,
          backed-still (in_both_stages (s.attachment_of d)) s.history (EntryGoes s d a) (EntryGoes New d a) (record { device = d; page = a; pair = pair })
              (λ t goes. inl (again d (Attached mode true) at refl t (invalidates d a ∷ []) (pending d a t goes) (inr (inr (inl (rw (same_number d) refl, tt)))))) old.1,
        )
    entry d a pair (Quarantined x mode ats) at fact in_use =
        let old = fact in_use in (
          old.0,
          backed-still (in_both_stages (s.attachment_of d)) s.history (EntryGoes s d a) (EntryGoes New d a) (record { device = d; page = a; pair = pair })
              (λ t goes. inr (inr (inr (again d (Quarantined x mode ats) at refl t (drops_context d ∷ []) (pending d a t goes) (inl (same_number d, tt)), subst IsQuarantined (sym at) refl)))) old.1,
        )

-- the order, with other slots
order-slots : (s : Scene) (slots : List Invalidation) (messages : List AtsMessage) → IsOrdered s → ((slot : Invalidation) → Contains slots slot → Contains s.slots slot) → IsOrdered (record s { slots = slots; messages = messages })
order-slots s slots messages ordered among = record {
  fences = ordered.fences;
  tickets = ordered.tickets;
  confirmed = ordered.confirmed;
  lingering = ordered.lingering;
  apart = ordered.apart;
  counted = ordered.counted;
  snapshot_taken = λ fence fence_snapshot is. let old = ordered.snapshot_taken fence fence_snapshot is in record { head = old.head; closed = λ slot there. old.closed slot (among slot there); goes_on = old.goes_on };
  grants = ordered.grants;
  cached = ordered.cached;
}

-- A completion is delivered: its slot is closed.
pub faithful_closed : (s : Scene) (slot : Invalidation) (slots : List Invalidation) (messages : List AtsMessage) → IsFaithful s → Contains s.messages (InvalidateCompletion slot)
    → AreAmong slots s.slots → ((one : Invalidation) → Contains s.slots one → (one ≡ slot) ⊎ Contains slots one) → AreAmong messages s.messages
    → IsFaithful (record s { slots = slots; messages = messages })
faithful_closed s slot slots messages faithful sent among others fewer = record {
  order = order-slots s slots messages faithful.order among;
  numbers = record {
    asked = λ d epoch page there. faithful.numbers.asked d epoch page (fewer (Question d epoch page) there);
    answered = λ epoch copy there. faithful.numbers.answered epoch copy (fewer (Answer epoch copy) there);
    opened = λ one there. faithful.numbers.opened one (among one there);
    requested = λ one extent there. faithful.numbers.requested one extent (fewer (InvalidateRequest one extent) there);
    done = λ one there trusted. faithful.numbers.done one (fewer (InvalidateCompletion one) there) trusted;
  };
  translations = faithful.translations;
  accesses = faithful.accesses;
  contexts = faithful.contexts;
  entries = λ copy there. entry copy (faithful.entries copy there);
  answers = λ epoch copy there now. entry copy (faithful.answers epoch copy (fewer (Answer epoch copy) there) now);
}
  where
    New : Scene
    New = record s { slots = slots; messages = messages }

    goes_on : (d a t : ℕ) → EntryGoes s d a t → EntryGoes New d a t
    goes_on d a t (inl reply) = inl reply
    goes_on d a t (inr (inl (fence, (serial, opened, undone, covered)))) = by (others (record { serial = serial; device = d }) opened)
      where
        by : (record { serial = serial; device = d } ≡ slot) ⊎ Contains slots (record { serial = serial; device = d }) → EntryGoes New d a t
        by (inl same) = absurd (undone (subst (λ x. Contains s.messages (InvalidateCompletion x)) (sym same) sent))
        by (inr unchanged) = inr (inl (fence, (serial, unchanged, (λ there. undone (fewer (InvalidateCompletion (record { serial = serial; device = d })) there)), λ extent there. covered extent (fewer (InvalidateRequest (record { serial = serial; device = d }) extent) there))))
    goes_on d a t (inr (inr (inl stopped))) = inr (inr (inl stopped))
    goes_on d a t (inr (inr (inr cut))) = inr (inr (inr cut))

    entry : (copy : Copy) → IsFaithfulEntry s copy → IsFaithfulEntry New copy
    entry copy fact in_use =
        let old = fact in_use in (
          old.0,
          backed-still (in_both_stages (s.attachment_of copy.device)) s.history (EntryGoes s copy.device copy.page) (EntryGoes New copy.device copy.page) copy
              (λ t goes. goes_on copy.device copy.page t goes) old.1,
        )

-- A fence times out: the slots are closed, and nothing is fetched until a restart.
pub faithful_timed_out : (s : Scene) → IsFaithful s → IsFaithful (record s { slots = []; fence_snapshot = None; is_stopped = true })
faithful_timed_out s faithful = record {
  order = record {
    fences = faithful.order.fences;
    tickets = faithful.order.tickets;
    confirmed = faithful.order.confirmed;
    lingering = faithful.order.lingering;
    apart = faithful.order.apart;
    counted = faithful.order.counted;
    snapshot_taken = λ fence n is. let none : ◌≡◌ {A = Option FenceSnapshot} None (Some (Snapshotted fence n)) = is in cc;
    grants = faithful.order.grants;
    cached = faithful.order.cached;
  };
  numbers = record {
    asked = faithful.numbers.asked;
    answered = faithful.numbers.answered;
    opened = λ slot there. absurd (in_none slot there);
    requested = faithful.numbers.requested;
    done = faithful.numbers.done;
  };
  translations = faithful.translations;
  accesses = λ flight there. let old = faithful.accesses flight there in (
    old.0,
    old.1,
    still s.history (AccessGoes s flight.number) (AccessGoes New flight.number) flight.device old.0 (flight.frame, old.1)
        (λ t goes. (goes.0, goes.1, goes.2, λ n is. let none : ◌≡◌ {A = Option FenceSnapshot} None (Some (Snapshotted goes.0 n)) = is in cc)) old.2,
    old.3,
  );
  contexts = faithful.contexts;
  entries = λ copy there. entry copy (faithful.entries copy there);
  answers = λ epoch copy there now. entry copy (faithful.answers epoch copy there now);
}
  where
    New : Scene
    New = record s { slots = []; fence_snapshot = None; is_stopped = true }

    goes_on : (d a t : ℕ) → EntryGoes s d a t → EntryGoes New d a t
    goes_on d a t (inl reply) = inr (inr (inl ((reply.0, reply.1, in_order-rest (invalidates d a) (is_fence reply.0 ∷ []) s.waiting reply.2), refl)))
    goes_on d a t (inr (inl (fence, underway))) = inr (inr (inl (fence, refl)))
    goes_on d a t (inr (inr (inl (fence, stopped)))) = inr (inr (inl (fence, refl)))
    goes_on d a t (inr (inr (inr cut))) = inr (inr (inr cut))

    entry : (copy : Copy) → IsFaithfulEntry s copy → IsFaithfulEntry New copy
    entry copy fact in_use =
        let old = fact in_use in (
          old.0,
          backed-still (in_both_stages (s.attachment_of copy.device)) s.history (EntryGoes s copy.device copy.page) (EntryGoes New copy.device copy.page) copy
              (λ t goes. goes_on copy.device copy.page t goes) old.1,
        )
