-- The oldest pending ticket, whose fence is done, is confirmed.
use Rattle.std.proofs.Common.{◌≡◌, ◌≢◌, ℕ, ◌≤◌, ◌⊎◌, inl, inr, Bool, true, false, ◌==◌, ◌||◌, List, [], ◌∷◌, ◌++◌, Contains, if◌then◌else◌, refl, sym, ap, ◌∙◌, subst, arith}
use Rattle.std.proofs.lemmas.Bool.{false≢true, eqb-true}
use Rattle.iom_ledger.specs.declared.entry.HistoryEntry.TheVariants.{Confirmed}
use Rattle.iom_ledger.specs.History.{confirms}
use Rattle.iom_coherence.specs.Attachments.{IsQuarantined, has_ats, in_both_stages}
use Rattle.iom_coherence.specs.Copies.{AccessGoes, ContextFits, EntryGoes, IsFaithfulEntry, TranslationGoes, NamesGrant, IsFaithfulTranslation}
use Rattle.iom_coherence.specs.DriverCalls.{attachment_once_confirmed}
use Rattle.iom_coherence.specs.Faithful.{GrantsFit, IsFaithful, IsOrdered}
use Rattle.iom_coherence.specs.Queue.{QueuedCommand}
use Rattle.iom_coherence.specs.Scene.{Copy, Scene, PendingTicket}
use Rattle.iom_coherence.specs.ToCome.{AreToCome, InOrder, QueuedStep, TicketsRise, drops_context, drops_translation, invalidates, is_fence}
use Rattle.iom_machine.specs.declared.state.Attachment.{Attachment}
use Rattle.iom_machine.specs.declared.state.Attachment.TheVariants.{Attached, Detached, Leaving, Quarantined}
use Rattle.iom_base.specs.declared.mode.Mode.{Mode}
use Rattle.iom_coherence.proofs.ListLemmas.{cons_cases}
use Rattle.iom_coherence.proofs.ToComeLemmas.{in_order-rest, fence_above, ticket_within, Waits}
use Rattle.iom_coherence.proofs.LedgerLemmas.{backed, backed-never, confirmed, lingers_confirmed, apart-confirmed, backed-as}

-- behind all steps stands the fence
fence_of : (steps fence : List QueuedStep) (commands : List QueuedCommand) → InOrder (steps ++ fence) commands → InOrder fence commands
fence_of [] fence commands order = order
fence_of (step ∷ steps) fence commands order = fence_of steps fence commands (in_order-rest step (steps ++ fence) commands order)

-- the scene where the ticket is confirmed
abbrev pub ConfirmedScene : Scene → ℕ → List PendingTicket → Scene
ConfirmedScene s ticket later = record s {
  history = Confirmed ticket ∷ s.history;
  pending = later;
  confirmed = ticket;
  attachment_of = λ d. attachment_once_confirmed ticket (s.attachment_of d);
}

-- what is still to come for a ticket is to come for another one than this
other_ticket : (s : Scene) (ticket fence : ℕ) (later : List PendingTicket) → IsOrdered s → s.pending ≡ Waits ticket fence ∷ later → fence ≤ s.completed
    → (t f : ℕ) → Contains s.pending (Waits t f) → InOrder (is_fence f ∷ []) s.waiting → (ticket ≢ t) × Contains later (Waits t f)
other_ticket s ticket fence later ordered oldest done t f there order = by (cons_cases (Waits ticket fence) later (Waits t f) (subst (λ l. Contains l (Waits t f)) oldest there))
  where
    rise : TicketsRise s.confirmed (Waits ticket fence ∷ later) s.given
    rise = subst (λ l. TicketsRise s.confirmed l s.given) oldest ordered.tickets

    by : (Waits ticket fence ≡ Waits t f) ⊎ Contains later (Waits t f) → (ticket ≢ t) × Contains later (Waits t f)
    by (inl same) =
        let its : fence ≡ f = ap (λ (p : PendingTicket). p.fence) same in
        let above = fence_above f s.completed s.waiting s.last_fence ordered.fences order in
        absurd (omega (arith, its, above, done))
    by (inr next) = ((λ same. let above = (ticket_within ticket later s.given t f rise.1 next).0 in absurd (omega (arith, same, above))), next)

to_come-confirmed : (s : Scene) (ticket fence : ℕ) (later : List PendingTicket) → IsOrdered s → s.pending ≡ Waits ticket fence ∷ later → fence ≤ s.completed
    → (t : ℕ) (steps : List QueuedStep) → AreToCome s t steps → (ticket ≢ t) × AreToCome (ConfirmedScene s ticket later) t steps
to_come-confirmed s ticket fence later ordered oldest done t steps (f, there, order) =
    let other = other_ticket s ticket fence later ordered oldest done t f there (fence_of steps (is_fence f ∷ []) s.waiting order) in
    (other.0, (f, other.1, order))

-- an attachment isn't one with ATS because a ticket is confirmed
ats_before : (ticket : ℕ) (attachment : Attachment) → has_ats (attachment_once_confirmed ticket attachment) ≡ true → has_ats attachment ≡ true
ats_before ticket Detached has = has
ats_before ticket (Attached mode ats) has = has
ats_before ticket (Quarantined t mode ats) has = has
ats_before ticket (Leaving t mode ats) has = by (ticket == t) has
  where
    by : (b : Bool) → has_ats (if b then Detached else Leaving t mode ats) ≡ true → ats ≡ true
    by true x = absurd (false≢true x)
    by false x = x

quarantined_after : (ticket : ℕ) (attachment : Attachment) → IsQuarantined attachment → IsQuarantined (attachment_once_confirmed ticket attachment)
quarantined_after ticket Detached q = q
quarantined_after ticket (Attached mode ats) q = q
quarantined_after ticket (Quarantined t mode ats) q = q
quarantined_after ticket (Leaving t mode ats) q = absurd (false≢true q)

grants-confirmed : (s : Scene) (ticket : ℕ) (later : List PendingTicket) (d : ℕ) (attachment : Attachment) → GrantsFit s.history d attachment
    → GrantsFit (Confirmed ticket ∷ s.history) d (attachment_once_confirmed ticket attachment)
grants-confirmed s ticket later d Detached (holds, lingers) = (holds, λ a t pair c. lingers a t pair (lingers_confirmed s.history ticket d a t pair c))
grants-confirmed s ticket later d (Attached mode ats) fits = tt
grants-confirmed s ticket later d (Quarantined x mode ats) (holds, lingers) = (holds, λ a t pair c. lingers a t pair (lingers_confirmed s.history ticket d a t pair c))
grants-confirmed s ticket later d (Leaving x mode ats) (holds, lingers) = by (ticket == x)
  where
    by : (b : Bool) → GrantsFit (Confirmed ticket ∷ s.history) d (if b then Detached else Leaving x mode ats)
    by true = (holds, λ a t pair c. lingers a t pair (lingers_confirmed s.history ticket d a t pair c))
    by false = (holds, λ a t pair c. lingers a t pair (lingers_confirmed s.history ticket d a t pair c))

-- A confirmed ticket leaves all facts: no copy still waits for it.
pub faithful_confirmed : (s : Scene) (ticket fence : ℕ) (later : List PendingTicket) → IsFaithful s → s.pending ≡ Waits ticket fence ∷ later → fence ≤ s.completed
    → IsFaithful (ConfirmedScene s ticket later)
faithful_confirmed s ticket fence later faithful oldest done = record {
  order = record {
    fences = faithful.order.fences;
    tickets = rise.1;
    confirmed = λ t e. low t (ticket == t) (confirms s.history t) refl refl e;
    lingering = λ d a t pair c. faithful.order.lingering d a t pair (lingers_confirmed s.history ticket d a t pair c);
    apart = apart-confirmed s.history ticket faithful.order.apart;
    counted = faithful.order.counted;
    snapshot_taken = faithful.order.snapshot_taken;
    grants = λ d. grants-confirmed s ticket later d (s.attachment_of d) (faithful.order.grants d);
    cached = λ d has. faithful.order.cached d (ats_before ticket (s.attachment_of d) has);
  };
  numbers = faithful.numbers;
  translations = λ copy there. translation_stays copy (s.attachment_of copy.device) refl (faithful.translations copy there);
  accesses = λ flight there. let old = faithful.accesses flight there in (
    old.0,
    old.1,
    confirmed s.history (AccessGoes s flight.number) (AccessGoes (ConfirmedScene s ticket later) flight.number) ticket flight.device old.0 (flight.frame, old.1)
        (λ t goes. access flight.number t goes) old.2,
    old.3,
  );
  contexts = λ d there. context d (s.attachment_of d) (faithful.contexts d there);
  entries = λ copy there. entry copy (s.attachment_of copy.device) refl (faithful.entries copy there);
  answers = λ epoch copy there now. entry copy (s.attachment_of copy.device) refl (faithful.answers epoch copy there now);
}
  where
    rise : TicketsRise s.confirmed (Waits ticket fence ∷ later) s.given
    rise = subst (λ l. TicketsRise s.confirmed l s.given) oldest faithful.order.tickets

    low : (t : ℕ) (b c : Bool) → (ticket == t) ≡ b → confirms s.history t ≡ c → (b || c) ≡ true → t ≤ ticket
    low t true c e f x = let same = eqb-true ticket t e in omega (arith, same)
    low t false true e f x = let within = faithful.order.confirmed t f in let first = rise.0 in omega (arith, within, first)
    low t false false e f x = absurd (false≢true x)

    still_to_come : (t : ℕ) (steps : List QueuedStep) → AreToCome s t steps → (ticket ≢ t) × AreToCome (ConfirmedScene s ticket later) t steps
    still_to_come t steps come = to_come-confirmed s ticket fence later faithful.order oldest done t steps come

    translation : (d a t : ℕ) → TranslationGoes s d a t → (ticket ≢ t) × TranslationGoes (ConfirmedScene s ticket later) d a t
    translation d a t (drop, goes) =
        let first = still_to_come t (drops_translation d a ∷ []) drop in (
          first.0,
          (
            first.1,
            λ has. elim (goes (ats_before ticket (s.attachment_of d) has)) [
              | inl reply ↦ inl (still_to_come t (drops_translation d a ∷ invalidates d a ∷ []) reply).1
              | inr (q, cut) ↦ inr (quarantined_after ticket (s.attachment_of d) q, λ c. (still_to_come t (drops_context d ∷ []) (cut c)).1)
            ],
          ),
        )

    access : (n t : ℕ) → AccessGoes s n t → (ticket ≢ t) × AccessGoes (ConfirmedScene s ticket later) n t
    access n t (f, there, order, snapshot_taken) =
        let other = other_ticket s ticket fence later faithful.order oldest done t f there order in
        (other.0, (f, other.1, order, snapshot_taken))

    context : (d : ℕ) (attachment : Attachment) → ContextFits s d attachment → ContextFits (ConfirmedScene s ticket later) d (attachment_once_confirmed ticket attachment)
    context d Detached fits = fits
    context d (Attached mode ats) fits = tt
    context d (Quarantined x mode ats) fits = (still_to_come x (drops_context d ∷ []) fits).1
    context d (Leaving x mode ats) fits = by (ticket == x) refl
      where
        by : (b : Bool) → (ticket == x) ≡ b → ContextFits (ConfirmedScene s ticket later) d (if b then Detached else Leaving x mode ats)
        by true e = absurd ((still_to_come x (drops_context d ∷ []) fits).0 (eqb-true ticket x e))
        by false e = (still_to_come x (drops_context d ∷ []) fits).1

    entry_goes : (d a t : ℕ) → EntryGoes s d a t → (ticket ≢ t) × EntryGoes (ConfirmedScene s ticket later) d a t
    entry_goes d a t (inl reply) = let next = still_to_come t (invalidates d a ∷ []) reply in (next.0, inl next.1)
    entry_goes d a t (inr (inl (f, underway))) = let next = still_to_come t [] f in (next.0, inr (inl (next.1, underway)))
    entry_goes d a t (inr (inr (inl (f, stopped)))) = let next = still_to_come t [] f in (next.0, inr (inr (inl (next.1, stopped))))
    entry_goes d a t (inr (inr (inr (drop, q)))) =
        let next = still_to_come t (drops_context d ∷ []) drop in (next.0, inr (inr (inr (next.1, quarantined_after ticket (s.attachment_of d) q))))

    none : (copy : Copy) (x : ℕ) (mode : Mode) (ats : Bool) (S : ℕ → Type 0) → s.attachment_of copy.device ≡ Leaving x mode ats → NamesGrant s S copy → ⊥
    none copy x mode ats S at old =
        let nothing = subst (GrantsFit s.history copy.device) at (faithful.order.grants copy.device) in
        backed-never (in_both_stages (s.attachment_of copy.device)) s.history S copy nothing.0 nothing.1 old

    -- what the copy names it still names
    names : (copy : Copy) (S T : ℕ → Type 0) → in_both_stages (attachment_once_confirmed ticket (s.attachment_of copy.device)) ≡ in_both_stages (s.attachment_of copy.device)
        → ((t : ℕ) → S t → (ticket ≢ t) × T t) → NamesGrant s S copy → NamesGrant (ConfirmedScene s ticket later) T copy
    names copy S T same go old =
        backed-as (in_both_stages (attachment_once_confirmed ticket (s.attachment_of copy.device))) (in_both_stages (s.attachment_of copy.device)) (Confirmed ticket ∷ s.history) T copy same
        (backed (in_both_stages (s.attachment_of copy.device)) s.history (Confirmed ticket ∷ s.history) S T copy
        (λ a r comes was. confirmed s.history S T ticket copy.device a (copy.pair.0, r) go was) old)

    translation_as : (copy : Copy) → in_both_stages (attachment_once_confirmed ticket (s.attachment_of copy.device)) ≡ in_both_stages (s.attachment_of copy.device)
        → IsFaithfulTranslation s copy → IsFaithfulTranslation (ConfirmedScene s ticket later) copy
    translation_as copy same old =
        names copy (TranslationGoes s copy.device copy.page) (TranslationGoes (ConfirmedScene s ticket later) copy.device copy.page) same (λ t goes. translation copy.device copy.page t goes) old

    entry_as : (copy : Copy) → in_both_stages (attachment_once_confirmed ticket (s.attachment_of copy.device)) ≡ in_both_stages (s.attachment_of copy.device)
        → NamesGrant s (EntryGoes s copy.device copy.page) copy → NamesGrant (ConfirmedScene s ticket later) (EntryGoes (ConfirmedScene s ticket later) copy.device copy.page) copy
    entry_as copy same old =
        names copy (EntryGoes s copy.device copy.page) (EntryGoes (ConfirmedScene s ticket later) copy.device copy.page) same (λ t goes. entry_goes copy.device copy.page t goes) old

    translation_stays : (copy : Copy) (attachment : Attachment) → s.attachment_of copy.device ≡ attachment → IsFaithfulTranslation s copy → IsFaithfulTranslation (ConfirmedScene s ticket later) copy
    translation_stays copy Detached at old = translation_as copy (rw at refl) old
    translation_stays copy (Attached mode ats) at old = translation_as copy (rw at refl) old
    translation_stays copy (Quarantined x mode ats) at old = translation_as copy (rw at refl) old
    translation_stays copy (Leaving x mode ats) at old = absurd (none copy x mode ats (TranslationGoes s copy.device copy.page) at old)

    entry : (copy : Copy) (attachment : Attachment) → s.attachment_of copy.device ≡ attachment → IsFaithfulEntry s copy → IsFaithfulEntry (ConfirmedScene s ticket later) copy
    entry copy Detached at fact in_use =
        let old = fact (λ q. absurd (false≢true (subst IsQuarantined at q))) in absurd (false≢true (sym (ap has_ats at) ∙ old.0))
    entry copy (Attached mode ats) at fact in_use =
        let old = fact (λ q. absurd (false≢true (subst IsQuarantined at q))) in (rw at (sym (ap has_ats at) ∙ old.0), entry_as copy (rw at refl) old.1)
    entry copy (Quarantined x mode ats) at fact in_use =
        let old = fact (λ q. in_use (quarantined_after ticket (s.attachment_of copy.device) q)) in (rw at (sym (ap has_ats at) ∙ old.0), entry_as copy (rw at refl) old.1)
    entry copy (Leaving x mode ats) at fact in_use =
        let old = fact (λ q. absurd (false≢true (subst IsQuarantined at q))) in absurd (none copy x mode ats (EntryGoes s copy.device copy.page) at old.1)
