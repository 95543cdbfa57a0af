-- A grant, an acceptance, an access that is made.
use Rattle.std.proofs.Common.{◌≡◌, ℕ, ◌+◌, ◌≤◌, ◌⊎◌, inl, inr, Bool, true, false, ◌==◌, List, [], ◌∷◌, Contains, None, Some, refl, sym, ap, ◌∙◌, subst, arith}
use Rattle.std.proofs.lemmas.Bool.{false≢true, eqb-true}
use Rattle.iom_base.specs.declared.access.AccessKind.{AccessKind}
use Rattle.iom_base.specs.declared.rights.Rights.{Rights}
use Rattle.iom_base.specs.Rights.{allows}
use Rattle.iom_ledger.specs.declared.entry.HistoryEntry.TheVariants.{Granted}
use Rattle.iom_ledger.specs.History.{Pair, held_at, lingering_at, May, History}
use Rattle.iom_coherence.specs.Among.{AreAmong, AreAmongWith}
use Rattle.iom_coherence.specs.Attachments.{IsAttached, in_both_stages}
use Rattle.iom_coherence.specs.Backing.{ComesFrom, IsBacked}
use Rattle.iom_coherence.specs.Copies.{AccessGoes, EntryGoes, IsFaithfulAccess, TranslationGoes}
use Rattle.iom_coherence.specs.Faithful.{GrantsFit, IsFaithful, IsOrdered}
use Rattle.iom_coherence.specs.Holdings.{HoldsNoPage}
use Rattle.iom_coherence.specs.Laws.{AccessesMay}
use Rattle.iom_coherence.specs.Queue.{Fence}
use Rattle.iom_coherence.specs.Requests.{IsSource, next_access}
use Rattle.iom_coherence.specs.Scene.{AccessInFlight, Copy, Scene}
use Rattle.iom_coherence.specs.ToCome.{AreToCome, FencesRise, InOrder, QueuedStep, drops_context, drops_translation, invalidates, is_fence}
use Rattle.iom_machine.specs.declared.state.Attachment.{Attachment}
use Rattle.iom_machine.specs.declared.state.Attachment.TheVariants.{Attached, Detached, Leaving, Quarantined}
use Rattle.iom_coherence.proofs.ToComeLemmas.{in_order-rest, in_order-fetched, fence_above, Snapshotted}
use Rattle.iom_coherence.proofs.LedgerLemmas.{backed, backed-still, granted, lingers_granted, apart-granted}

-- The grant.

-- another device than one that is attached
away : (s : Scene) (device d : ℕ) → IsAttached (s.attachment_of device) → (IsAttached (s.attachment_of d) → ⊥) → (device == d) ≡ false
away s device d attached isnt = by (device == d) refl
  where
    by : (b : Bool) → (device == d) ≡ b → (device == d) ≡ false
    by false e = e
    by true e = absurd (isnt (subst (λ x. IsAttached (s.attachment_of x)) (eqb-true device d e) attached))

granted_elsewhere : (s : Scene) (device page frame : ℕ) (rights : Rights) (d : ℕ) → (device == d) ≡ false → HoldsNoPage s.history d
    → HoldsNoPage (Granted device page frame rights ∷ s.history) d
granted_elsewhere s device page frame rights d other holds a = rw other (holds a)

grants-granted : (s : Scene) (device page frame : ℕ) (rights : Rights) → IsAttached (s.attachment_of device) → (d : ℕ) (attachment : Attachment) → s.attachment_of d ≡ attachment
    → GrantsFit s.history d attachment → GrantsFit (Granted device page frame rights ∷ s.history) d attachment
grants-granted s device page frame rights attached d Detached at (holds, lingers) =
    (granted_elsewhere s device page frame rights d (away s device d attached (λ x. false≢true (subst IsAttached at x))) holds, λ a t pair c. lingers a t pair (lingers_granted s.history device page frame rights d a t pair c))
grants-granted s device page frame rights attached d (Attached mode ats) at fits = tt
grants-granted s device page frame rights attached d (Quarantined ticket mode ats) at (holds, lingers) =
    (granted_elsewhere s device page frame rights d (away s device d attached (λ x. false≢true (subst IsAttached at x))) holds, λ a t pair c. lingers a t pair (lingers_granted s.history device page frame rights d a t pair c))
grants-granted s device page frame rights attached d (Leaving ticket mode ats) at (holds, lingers) =
    (granted_elsewhere s device page frame rights d (away s device d attached (λ x. false≢true (subst IsAttached at x))) holds, λ a t pair c. lingers a t pair (lingers_granted s.history device page frame rights d a t pair c))

-- A grant keeps all facts.
pub faithful_granted : (s : Scene) (device page frame : ℕ) (rights : Rights) → IsFaithful s → IsAttached (s.attachment_of device) → held_at s.history device page ≡ None
    → ((released : ℕ × Pair) → ¬ Contains (lingering_at s.history device page) released)
    → IsFaithful (record s { history = Granted device page frame rights ∷ s.history })
faithful_granted s device page frame rights faithful attached empty free = record {
  order = record {
    fences = faithful.order.fences;
    tickets = faithful.order.tickets;
    confirmed = faithful.order.confirmed;
    lingering = λ d a t pair c. faithful.order.lingering d a t pair (lingers_granted s.history device page frame rights d a t pair c);
    apart = apart-granted s.history device page frame rights faithful.order.apart free;
    counted = faithful.order.counted;
    snapshot_taken = faithful.order.snapshot_taken;
    grants = λ d. grants-granted s device page frame rights attached d (s.attachment_of d) refl (faithful.order.grants d);
    cached = faithful.order.cached;
  };
  numbers = faithful.numbers;
  translations = λ copy there.
      backed (in_both_stages (s.attachment_of copy.device)) s.history H (TranslationGoes s copy.device copy.page) (TranslationGoes s copy.device copy.page) copy
      (λ a r comes was. granted s.history (TranslationGoes s copy.device copy.page) device page frame rights empty copy.device a (copy.pair.0, r) was) (faithful.translations copy there);
  accesses = λ flight there. let old = faithful.accesses flight there in
      (old.0, old.1, granted s.history (AccessGoes s flight.number) device page frame rights empty flight.device old.0 (flight.frame, old.1) old.2, old.3);
  contexts = λ d there. faithful.contexts d there;
  entries = λ copy there in_use. let old = faithful.entries copy there in_use in (
    old.0,
    backed (in_both_stages (s.attachment_of copy.device)) s.history H (EntryGoes s copy.device copy.page) (EntryGoes s copy.device copy.page) copy
        (λ a r comes was. granted s.history (EntryGoes s copy.device copy.page) device page frame rights empty copy.device a (copy.pair.0, r) was) old.1,
  );
  answers = λ epoch copy there now in_use. let old = faithful.answers epoch copy there now in_use in (
    old.0,
    backed (in_both_stages (s.attachment_of copy.device)) s.history H (EntryGoes s copy.device copy.page) (EntryGoes s copy.device copy.page) copy
        (λ a r comes was. granted s.history (EntryGoes s copy.device copy.page) device page frame rights empty copy.device a (copy.pair.0, r) was) old.1,
  );
}
  where
    H : History
    H = Granted device page frame rights ∷ s.history

-- The acceptance.

-- what is to come behind another step isn't the fence that has taken its snapshot
no_snapshot_taken : (s : Scene) (step : QueuedStep) (fence fence_snapshot : ℕ) → IsOrdered s → step (Fence fence) ≡ false → InOrder (step ∷ is_fence fence ∷ []) s.waiting → s.fence_snapshot ≡ Some (Snapshotted fence fence_snapshot) → ⊥
no_snapshot_taken s step fence fence_snapshot ordered not_it order is =
    let head = (ordered.snapshot_taken fence fence_snapshot is).head in
    let later = in_order-fetched step (is_fence fence ∷ []) (Fence fence) head.0 not_it (subst (λ q. InOrder (step ∷ is_fence fence ∷ []) q) head.1 order) in
    let rise = subst (λ q. FencesRise s.completed q s.last_fence) head.1 ordered.fences in
    let above = fence_above fence fence head.0 s.last_fence rise.1 (in_order-rest step (is_fence fence ∷ []) head.0 later) in
    absurd (omega (arith, above))

-- an access that is accepted behind another step
behind : (s : Scene) (step : QueuedStep) (n t : ℕ) → IsOrdered s → ((fence : ℕ) → step (Fence fence) ≡ false) → AreToCome s t (step ∷ []) → AccessGoes s n t
behind s step n t ordered not_it (fence, there, order) =
    (fence, there, in_order-rest step (is_fence fence ∷ []) s.waiting order, λ fence_snapshot is. absurd (no_snapshot_taken s step fence fence_snapshot ordered (not_it fence) order is))

access-translation : (s : Scene) (n d a t : ℕ) → IsOrdered s → TranslationGoes s d a t → AccessGoes s n t
access-translation s n d a t ordered (drop, goes) = behind s (drops_translation d a) n t ordered (λ fence. refl) drop

access-entry : (s : Scene) (n d a t : ℕ) → IsOrdered s → EntryGoes s d a t → AccessGoes s n t
access-entry s n d a t ordered (inl reply) = behind s (invalidates d a) n t ordered (λ fence. refl) reply
access-entry s n d a t ordered (inr (inl ((fence, there, order), (serial, opened, undone, covered)))) =
    (fence, there, order, λ fence_snapshot is. absurd ((ordered.snapshot_taken fence fence_snapshot is).closed (record { serial = serial; device = d }) opened))
access-entry s n d a t ordered (inr (inr (inl ((fence, there, order), stopped)))) =
    (fence, there, order, λ fence_snapshot is. absurd (false≢true (sym (ordered.snapshot_taken fence fence_snapshot is).goes_on ∙ stopped)))
access-entry s n d a t ordered (inr (inr (inr (drop, quarantined)))) = behind s (drops_context d) n t ordered (λ fence. refl) drop

-- what a copy gives an access is held or lingers
source-reach : (s : Scene) (copy : Copy) (n : ℕ) → IsFaithful s → IsSource s copy → IsBacked (in_both_stages (s.attachment_of copy.device)) s.history (AccessGoes s n) copy
source-reach s copy n faithful (inl (a, r, comes, holds)) = (a, r, comes, inl holds)
source-reach s copy n faithful (inr (inl there)) =
    backed-still (in_both_stages (s.attachment_of copy.device)) s.history (TranslationGoes s copy.device copy.page) (AccessGoes s n) copy (λ t goes. access-translation s n copy.device copy.page t faithful.order goes)
    (faithful.translations copy there)
source-reach s copy n faithful (inr (inr (there, in_use))) =
    backed-still (in_both_stages (s.attachment_of copy.device)) s.history (EntryGoes s copy.device copy.page) (AccessGoes s n) copy (λ t goes. access-entry s n copy.device copy.page t faithful.order goes)
    (faithful.entries copy there in_use).1

-- the order does not speak of who accepted what
order-accesses : (s : Scene) (accepted : ℕ) (flights : List AccessInFlight) → IsOrdered s → ((flight : AccessInFlight) → Contains flights flight → flight.number ≤ accepted)
    → IsOrdered (record s { accepted = accepted; in_flight = flights })
order-accesses s accepted flights ordered counted = record {
  fences = ordered.fences;
  tickets = ordered.tickets;
  confirmed = ordered.confirmed;
  lingering = ordered.lingering;
  apart = ordered.apart;
  counted = counted;
  snapshot_taken = ordered.snapshot_taken;
  grants = ordered.grants;
  cached = ordered.cached;
}

-- An acceptance keeps all facts.
pub faithful_accepted : (s : Scene) (copy : Copy) (kind : AccessKind) (flights : List AccessInFlight) → IsFaithful s → IsSource s copy → allows copy.pair.1 kind ≡ true
    → AreAmongWith flights (next_access s copy kind) s.in_flight → IsFaithful (record s { accepted = s.accepted + 1; in_flight = flights })
faithful_accepted s copy kind flights faithful source allowed among = record {
  order = order-accesses s (s.accepted + 1) flights faithful.order (λ flight there. number flight (among flight there));
  numbers = faithful.numbers;
  translations = faithful.translations;
  accesses = λ flight there. flies flight (among flight there);
  contexts = faithful.contexts;
  entries = faithful.entries;
  answers = faithful.answers;
}
  where
    allows_it : (two : Bool) (a : ℕ) (r : Rights) → ComesFrom two a r copy.page copy.pair.1 → allows r kind ≡ true
    allows_it true a r comes = comes kind allowed
    allows_it false a r comes = subst (λ x. allows x kind ≡ true) (sym comes.1) allowed

    from : IsBacked (in_both_stages (s.attachment_of copy.device)) s.history (AccessGoes s (s.accepted + 1)) copy → IsFaithfulAccess s (next_access s copy kind)
    from (a, r, comes, reach) = (a, r, reach, allows_it (in_both_stages (s.attachment_of copy.device)) a r comes)

    number : (flight : AccessInFlight) → (flight ≡ next_access s copy kind) ⊎ Contains s.in_flight flight → flight.number ≤ s.accepted + 1
    number flight (inl same) = let its : flight.number ≡ s.accepted + 1 = ap (λ (f : AccessInFlight). f.number) same in omega (arith, its)
    number flight (inr there) = let within = faithful.order.counted flight there in omega (arith, within)

    flies : (flight : AccessInFlight) → (flight ≡ next_access s copy kind) ⊎ Contains s.in_flight flight → IsFaithfulAccess s flight
    flies flight (inr there) = faithful.accesses flight there
    flies flight (inl same) = subst (IsFaithfulAccess s) (sym same) (from (source-reach s copy (s.accepted + 1) faithful source))

-- An access that is made leaves all facts.
pub faithful_made : (s : Scene) (left : List AccessInFlight) → IsFaithful s → AreAmong left s.in_flight → IsFaithful (record s { in_flight = left })
faithful_made s left faithful among = record {
  order = order-accesses s s.accepted left faithful.order (λ flight there. faithful.order.counted flight (among flight there));
  numbers = faithful.numbers;
  translations = faithful.translations;
  accesses = λ flight there. faithful.accesses flight (among flight there);
  contexts = faithful.contexts;
  entries = faithful.entries;
  answers = faithful.answers;
}

-- Each access in flight may still reach its frame.
pub accesses_may : (s : Scene) → IsFaithful s → AccessesMay s
accesses_may s faithful flight there = by (faithful.accesses flight there)
  where
    by : IsFaithfulAccess s flight → May s.history flight.device flight.frame flight.kind
    by (page, rights, inl holds, allowed) = (page, rights, inl holds, allowed)
    by (page, rights, inr (t, lingers, goes), allowed) = (page, rights, inr (t, lingers), allowed)
