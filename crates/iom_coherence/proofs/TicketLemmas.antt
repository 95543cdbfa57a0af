-- One more ticket, with its commands.
use Rattle.iom_base.specs.declared.rights.Rights.{Rights}
use Rattle.std.proofs.Common.{if◌then◌else◌, ◌≡◌, ℕ, ◌+◌, ◌≤◌, ◌⊎◌, inl, inr, Bool, true, false, ◌==◌, List, [], ◌∷◌, ◌++◌, Option, None, Some, refl, sym, ap, ◌∙◌, subst, arith}
use Rattle.std.proofs.lemmas.Bool.{false≢true}
use Rattle.std.proofs.lemmas.List.Elements.{Contains-append_left, Contains-push}
use Rattle.iom_ledger.specs.declared.entry.HistoryEntry.TheVariants.{Released}
use Rattle.iom_ledger.specs.History.{History, Pair, Holds, held_at, confirms}
use Rattle.iom_base.specs.Modes.{is_both}
use Rattle.iom_coherence.specs.Attachments.{IsQuarantined, has_ats, in_both_stages, caches_translations}
use Rattle.iom_coherence.specs.Backing.{ComesFrom}
use Rattle.iom_coherence.specs.Copies.{AccessGoes, ContextFits, EntryGoes, IsFaithfulEntry, TranslationGoes}
use Rattle.iom_coherence.specs.DriverCalls.{queued_by_release, released_extent, with_ticket}
use Rattle.iom_coherence.specs.Faithful.{GrantsFit, IsFaithful, IsOrdered}
use Rattle.iom_coherence.specs.Holdings.{AreApart}
use Rattle.iom_coherence.specs.Queue.{Extent, Fence, QueuedCommand, extent_covers, WholeSpace, OnePage}
use Rattle.iom_coherence.specs.Scene.{Copy, Scene}
use Rattle.iom_coherence.specs.ToCome.{AreToCome, FencesRise, InOrder, QueuedStep, drops_context, drops_translation, invalidates, is_fence}
use Rattle.iom_machine.specs.declared.state.Attachment.{Attachment}
use Rattle.iom_machine.specs.declared.state.Attachment.TheVariants.{Attached, Detached, Leaving, Quarantined}
use Rattle.iom_base.specs.declared.mode.Mode.{Mode}
use Rattle.iom_coherence.proofs.ToComeLemmas.{in_order-more, in_order-last, rise_le, rise-fence, rise-more, tickets-push, Waits, tickets_le}
use Rattle.iom_coherence.proofs.LedgerLemmas.{backed, Lingering, released, lingers_released, none_after_release, apart-released}

-- a number is itself
pub same_number : (n : ℕ) → (n == n) ≡ true
same_number n = by (n == n) refl
  where
    by : (b : Bool) → (n == n) ≡ b → (n == n) ≡ true
    by true e = e
    by false e = grind (arith, e)

-- the scene with one more ticket, another history and other attachments
abbrev pub Ticketed : Scene → List QueuedCommand → History → (ℕ → Attachment) → Scene
Ticketed s commands h attachment_of = record (with_ticket s commands) { history = h; attachment_of = attachment_of }

-- what was to come still is
pub to_come-ticket : (s : Scene) (commands : List QueuedCommand) (h : History) (of : ℕ → Attachment) (t : ℕ) (steps : List QueuedStep)
    → AreToCome s t steps → AreToCome (Ticketed s commands h of) t steps
to_come-ticket s commands h of t steps (fence, there, order) =
    (fence, Contains-append_left s.pending _ (Waits t fence) there, in_order-more (steps ++ is_fence fence ∷ []) s.waiting _ order)

-- what is to come for the new ticket
pub to_come-new : (s : Scene) (commands : List QueuedCommand) (h : History) (of : ℕ → Attachment) (steps : List QueuedStep)
    → InOrder (steps ++ is_fence (s.last_fence + 1) ∷ []) (commands ++ Fence (s.last_fence + 1) ∷ []) → AreToCome (Ticketed s commands h of) (s.given + 1) steps
to_come-new s commands h of steps order = (s.last_fence + 1, Contains-push s.pending _, in_order-last (steps ++ is_fence (s.last_fence + 1) ∷ []) s.waiting _ order)

pub translation-ticket : (s : Scene) (commands : List QueuedCommand) (h : History) (of : ℕ → Attachment) (d a t : ℕ) → of d ≡ s.attachment_of d
    → TranslationGoes s d a t → TranslationGoes (Ticketed s commands h of) d a t
translation-ticket s commands h of d a t same (drop, goes) = (
  to_come-ticket s commands h of t (drops_translation d a ∷ []) drop,
  λ ats. elim (goes (ap has_ats (sym same) ∙ ats)) [
    | inl reply ↦ inl (to_come-ticket s commands h of t (drops_translation d a ∷ invalidates d a ∷ []) reply)
    | inr (quarantined, cut) ↦ inr (subst IsQuarantined (sym same) quarantined, λ c. to_come-ticket s commands h of t (drops_context d ∷ []) (cut c))
  ],
)

pub access-ticket : (s : Scene) (commands : List QueuedCommand) (h : History) (of : ℕ → Attachment) (n t : ℕ) → AccessGoes s n t → AccessGoes (Ticketed s commands h of) n t
access-ticket s commands h of n t (fence, there, order, snapshot_taken) =
    (fence, Contains-append_left s.pending _ (Waits t fence) there, in_order-more (is_fence fence ∷ []) s.waiting _ order, snapshot_taken)

pub access-new : (s : Scene) (commands : List QueuedCommand) (h : History) (of : ℕ → Attachment) (n : ℕ) → IsOrdered s
    → InOrder (is_fence (s.last_fence + 1) ∷ []) (commands ++ Fence (s.last_fence + 1) ∷ []) → AccessGoes (Ticketed s commands h of) n (s.given + 1)
access-new s commands h of n ordered order = (
  s.last_fence + 1,
  Contains-push s.pending _,
  in_order-last (is_fence (s.last_fence + 1) ∷ []) s.waiting _ order,
  λ fence_snapshot is.
      let head = (ordered.snapshot_taken (s.last_fence + 1) fence_snapshot is).head in
      let rise = subst (λ q. FencesRise s.completed q s.last_fence) head.1 ordered.fences in
      let above = rise_le (s.last_fence + 1) head.0 s.last_fence rise.1 in absurd (omega (arith, above)),
)

pub context-ticket : (s : Scene) (commands : List QueuedCommand) (h : History) (of : ℕ → Attachment) (d : ℕ) (attachment : Attachment)
    → ContextFits s d attachment → ContextFits (Ticketed s commands h of) d attachment
context-ticket s commands h of d Detached fits = fits
context-ticket s commands h of d (Attached mode ats) fits = tt
context-ticket s commands h of d (Quarantined t mode ats) fits = to_come-ticket s commands h of t (drops_context d ∷ []) fits
context-ticket s commands h of d (Leaving t mode ats) fits = to_come-ticket s commands h of t (drops_context d ∷ []) fits

pub entry-ticket : (s : Scene) (commands : List QueuedCommand) (h : History) (of : ℕ → Attachment) (d a t : ℕ) → of d ≡ s.attachment_of d
    → EntryGoes s d a t → EntryGoes (Ticketed s commands h of) d a t
entry-ticket s commands h of d a t same (inl reply) = inl (to_come-ticket s commands h of t (invalidates d a ∷ []) reply)
entry-ticket s commands h of d a t same (inr (inl (fence, underway))) = inr (inl (to_come-ticket s commands h of t [] fence, underway))
entry-ticket s commands h of d a t same (inr (inr (inl (fence, stopped)))) = inr (inr (inl (to_come-ticket s commands h of t [] fence, stopped)))
entry-ticket s commands h of d a t same (inr (inr (inr (drop, quarantined)))) =
    inr (inr (inr (to_come-ticket s commands h of t (drops_context d ∷ []) drop, subst IsQuarantined (sym same) quarantined)))

-- the next ticket isn't confirmed
pub fresh : (s : Scene) → IsOrdered s → confirms s.history (s.given + 1) ≡ false
fresh s ordered = by (confirms s.history (s.given + 1)) refl
  where
    by : (b : Bool) → confirms s.history (s.given + 1) ≡ b → confirms s.history (s.given + 1) ≡ false
    by false e = e
    by true e =
        let low = ordered.confirmed (s.given + 1) e in
        let within = tickets_le s.confirmed s.pending s.given ordered.tickets in
        absurd (omega (arith, low, within))

-- the order, with one more ticket
pub ordered-ticket : (s : Scene) (commands : List QueuedCommand) (h : History) (of : ℕ → Attachment) → IsOrdered s
    → ((low : ℕ) → low ≤ s.last_fence → FencesRise low commands s.last_fence)
    → ((t : ℕ) → confirms h t ≡ confirms s.history t)
    → ((d a t : ℕ) (pair : Pair) → Lingering h d a t pair → t ≤ s.given + 1)
    → AreApart h
    → ((d : ℕ) → GrantsFit h d (of d))
    → ((d : ℕ) → has_ats (of d) ≡ true → caches_translations (s.kind_of d) ≡ true)
    → IsOrdered (Ticketed s commands h of)
ordered-ticket s commands h of ordered no_fence as_confirmed lingering apart grants cached = record {
  fences = rise-more s.completed s.waiting _ s.last_fence (s.last_fence + 1) ordered.fences (λ low within. rise-fence low commands s.last_fence (no_fence low within));
  tickets = tickets-push s.confirmed s.pending s.given (s.last_fence + 1) ordered.tickets;
  confirmed = λ t e. ordered.confirmed t (sym (as_confirmed t) ∙ e);
  lingering = lingering;
  apart = apart;
  counted = ordered.counted;
  snapshot_taken = λ fence fence_snapshot is. let old = ordered.snapshot_taken fence fence_snapshot is in record {
    head = (old.head.0 ++ (commands ++ Fence (s.last_fence + 1) ∷ []), ap (λ q. q ++ (commands ++ Fence (s.last_fence + 1) ∷ [])) old.head.1);
    closed = old.closed;
    goes_on = old.goes_on;
  };
  grants = grants;
  cached = cached;
}

-- The release of a page.

abbrev pub ReleasedScene : Scene → ℕ → ℕ → Mode → Bool → Scene
ReleasedScene s device page mode ats = Ticketed s (queued_by_release device (released_extent mode page) ats) (Released device page (s.given + 1) ∷ s.history) s.attachment_of

grants-released : (s : Scene) (device page : ℕ) (mode : Mode) (ats : Bool) (d : ℕ) (attachment : Attachment) → GrantsFit s.history d attachment → GrantsFit (Released device page (s.given + 1) ∷ s.history) d attachment
grants-released s device page mode ats d attachment = by attachment
  where
    none : ((a : ℕ) → held_at s.history d a ≡ None) → (a : ℕ) → held_at (Released device page (s.given + 1) ∷ s.history) d a ≡ None
    none holds a = none_after_release s.history device page (s.given + 1) d a (holds a)

    lingered : ((a : ℕ) → held_at s.history d a ≡ None) → (a t : ℕ) (pair : Pair) → Lingering (Released device page (s.given + 1) ∷ s.history) d a t pair → Lingering s.history d a t pair
    lingered holds a t pair c = elim (lingers_released s.history device page (s.given + 1) d a t pair c) [
      | inl (new, held) ↦ (let both : ◌≡◌ {A = Option Pair} None (Some pair) = sym (holds a) ∙ held in cc)
      | inr old ↦ old
    ]

    by : (att : Attachment) → GrantsFit s.history d att → GrantsFit (Released device page (s.given + 1) ∷ s.history) d att
    by Detached (holds, lingers) = (none holds, λ a t pair c. lingers a t pair (lingered holds a t pair c))
    by (Attached m x) fits = tt
    by (Quarantined t m x) (holds, lingers) = (none holds, λ a u pair c. lingers a u pair (lingered holds a u pair c))
    by (Leaving t m x) (holds, lingers) = (none holds, λ a u pair c. lingers a u pair (lingered holds a u pair c))

-- what is to come for a page that the release covers
release-steps : (s : Scene) (device : ℕ) (extent : Extent) (a : ℕ) (ats : Bool) (h : History) → extent_covers extent a ≡ true
    → AreToCome (Ticketed s (queued_by_release device extent ats) h s.attachment_of) (s.given + 1) (drops_translation device a ∷ [])
    × (ats ≡ true → AreToCome (Ticketed s (queued_by_release device extent ats) h s.attachment_of) (s.given + 1) (drops_translation device a ∷ invalidates device a ∷ []))
    × (ats ≡ true → AreToCome (Ticketed s (queued_by_release device extent ats) h s.attachment_of) (s.given + 1) (invalidates device a ∷ []))
release-steps s device extent a false h in_extent =
    let dev = same_number device in
    let fen = same_number (s.last_fence + 1) in (
      to_come-new s (queued_by_release device extent false) h s.attachment_of (drops_translation device a ∷ []) (inl (rw (dev, in_extent) refl, inl (fen, tt))),
      (λ never. absurd (false≢true never)),
      (λ never. absurd (false≢true never)),
    )
release-steps s device extent a true h in_extent =
    let dev = same_number device in
    let fen = same_number (s.last_fence + 1) in (
      to_come-new s (queued_by_release device extent true) h s.attachment_of (drops_translation device a ∷ []) (inl (rw (dev, in_extent) refl, inr (inl (fen, tt)))),
      (λ yes. to_come-new s (queued_by_release device extent true) h s.attachment_of (drops_translation device a ∷ invalidates device a ∷ []) (inl (rw (dev, in_extent) refl, inl (rw (dev, in_extent) refl, inl (fen, tt))))),
      (λ yes. to_come-new s (queued_by_release device extent true) h s.attachment_of (invalidates device a ∷ []) (inr (inl (rw (dev, in_extent) refl, inl (fen, tt))))),
    )

-- a device that is attached so is in both stages where the mode is
both_stages : (s : Scene) (device d : ℕ) (mode : Mode) (ats : Bool) → s.attachment_of device ≡ Attached mode ats → device ≡ d → in_both_stages (s.attachment_of d) ≡ is_both mode
both_stages s device d mode ats at its = ap (λ x. in_both_stages (s.attachment_of x)) (sym its) ∙ ap in_both_stages at

-- a release covers what comes from the page
covered : (both : Bool) (mode : Mode) (page granted : ℕ) (rights : Rights) (a : ℕ) (remembered : Rights) → both ≡ is_both mode → page ≡ granted
    → ComesFrom both granted rights a remembered → extent_covers (released_extent mode page) a ≡ true
covered both mode page granted rights a remembered as_mode here comes = by (is_both mode) (subst (λ b. ComesFrom b granted rights a remembered) as_mode comes)
  where
    by : (b : Bool) → ComesFrom b granted rights a remembered → extent_covers (if b then WholeSpace else OnePage page) a ≡ true
    by true all = refl
    by false same = subst (λ x. (page == x) ≡ true) (here ∙ same.0) (same_number page)

release-fence : (s : Scene) (device : ℕ) (extent : Extent) (ats : Bool) → InOrder (is_fence (s.last_fence + 1) ∷ []) (queued_by_release device extent ats ++ Fence (s.last_fence + 1) ∷ [])
release-fence s device extent false = inr (inl (same_number (s.last_fence + 1), tt))
release-fence s device extent true = inr (inr (inl (same_number (s.last_fence + 1), tt)))

release-no_fence : (s : Scene) (device : ℕ) (extent : Extent) (ats : Bool) (low : ℕ) → low ≤ s.last_fence → FencesRise low (queued_by_release device extent ats) s.last_fence
release-no_fence s device extent false low within = within
release-no_fence s device extent true low within = within

lingering-released : (s : Scene) (device page : ℕ) → IsOrdered s → (d a t : ℕ) (pair : Pair) → ((t ≡ s.given + 1) × Holds s.history d a pair) ⊎ Lingering s.history d a t pair → t ≤ s.given + 1
lingering-released s device page ordered d a t pair (inl (new, held)) = omega (arith, new)
lingering-released s device page ordered d a t pair (inr old) = let within = ordered.lingering d a t pair old in omega (arith, within)

entry-released : (s : Scene) (device page : ℕ) (mode : Mode) (ats : Bool) → IsOrdered s → s.attachment_of device ≡ Attached mode ats
    → (copy : Copy) → IsFaithfulEntry s copy → IsFaithfulEntry (ReleasedScene s device page mode ats) copy
entry-released s device page mode ats ordered at copy faithful in_use =
    let old = faithful in_use in (
      old.0,
      backed (in_both_stages (s.attachment_of copy.device)) s.history (Released device page (s.given + 1) ∷ s.history) (EntryGoes s copy.device copy.page) (EntryGoes (ReleasedScene s device page mode ats) copy.device copy.page) copy (λ granted rights comes was.
          released s.history (EntryGoes s copy.device copy.page) (EntryGoes (ReleasedScene s device page mode ats) copy.device copy.page) device page (s.given + 1) (fresh s ordered)
          copy.device granted (copy.pair.0, rights)
          (λ t goes. entry-ticket s (queued_by_release device (released_extent mode page) ats) (Released device page (s.given + 1) ∷ s.history) s.attachment_of copy.device copy.page t refl goes)
          (λ its here.
          let with_ats : ats ≡ true = sym (ap has_ats at) ∙ ap (λ d. has_ats (s.attachment_of d)) its ∙ old.0 in
          let in_extent = covered (in_both_stages (s.attachment_of copy.device)) mode page granted rights copy.page copy.pair.1 (both_stages s device copy.device mode ats at its) here comes in
          subst (λ d. EntryGoes (ReleasedScene s device page mode ats) d copy.page (s.given + 1)) its (inl ((release-steps s device (released_extent mode page) copy.page ats (Released device page (s.given + 1) ∷ s.history) in_extent).2 with_ats)))
          was)
          old.1,
    )

-- A release keeps all facts.
pub faithful_released : (s : Scene) (device page : ℕ) (mode : Mode) (ats : Bool) → IsFaithful s → s.attachment_of device ≡ Attached mode ats → IsFaithful (ReleasedScene s device page mode ats)
faithful_released s device page mode ats faithful at = record {
  order = ordered-ticket s (queued_by_release device (released_extent mode page) ats) (Released device page (s.given + 1) ∷ s.history) s.attachment_of faithful.order (release-no_fence s device (released_extent mode page) ats) (λ t. refl)
      (λ d a t pair c. lingering-released s device page faithful.order d a t pair (lingers_released s.history device page (s.given + 1) d a t pair c))
      (apart-released s.history device page (s.given + 1) faithful.order.apart)
      (λ d. grants-released s device page mode ats d (s.attachment_of d) (faithful.order.grants d)) faithful.order.cached;
  numbers = faithful.numbers;
  translations = λ copy there.
      backed (in_both_stages (s.attachment_of copy.device)) s.history (Released device page (s.given + 1) ∷ s.history) (TranslationGoes s copy.device copy.page) (TranslationGoes (ReleasedScene s device page mode ats) copy.device copy.page) copy (λ granted rights comes was.
      released s.history (TranslationGoes s copy.device copy.page) (TranslationGoes (ReleasedScene s device page mode ats) copy.device copy.page) device page (s.given + 1)
      (fresh s faithful.order) copy.device granted (copy.pair.0, rights)
      (λ t goes. translation-ticket s (queued_by_release device (released_extent mode page) ats) (Released device page (s.given + 1) ∷ s.history) s.attachment_of copy.device copy.page t refl goes)
      (λ its here.
      let in_extent = covered (in_both_stages (s.attachment_of copy.device)) mode page granted rights copy.page copy.pair.1 (both_stages s device copy.device mode ats at its) here comes in
      let steps = release-steps s device (released_extent mode page) copy.page ats (Released device page (s.given + 1) ∷ s.history) in_extent in
      subst (λ d. TranslationGoes (ReleasedScene s device page mode ats) d copy.page (s.given + 1)) its (steps.0, λ has. inl (steps.1 (sym (ap has_ats at) ∙ has))))
      was)
      (faithful.translations copy there);
  accesses = λ flight there.
      let old = faithful.accesses flight there in (
        old.0,
        old.1,
        released s.history (AccessGoes s flight.number) (AccessGoes (ReleasedScene s device page mode ats) flight.number) device page (s.given + 1)
            (fresh s faithful.order) flight.device old.0 (flight.frame, old.1)
            (λ t goes. access-ticket s (queued_by_release device (released_extent mode page) ats) (Released device page (s.given + 1) ∷ s.history) s.attachment_of flight.number t goes)
            (λ its here. access-new s (queued_by_release device (released_extent mode page) ats) (Released device page (s.given + 1) ∷ s.history) s.attachment_of flight.number faithful.order (release-fence s device (released_extent mode page) ats))
            old.2,
        old.3,
      );
  contexts = λ d there. context-ticket s (queued_by_release device (released_extent mode page) ats) (Released device page (s.given + 1) ∷ s.history) s.attachment_of d (s.attachment_of d) (faithful.contexts d there);
  entries = λ copy there. entry-released s device page mode ats faithful.order at copy (faithful.entries copy there);
  answers = λ epoch copy there now. entry-released s device page mode ats faithful.order at copy (faithful.answers epoch copy there now);
}
