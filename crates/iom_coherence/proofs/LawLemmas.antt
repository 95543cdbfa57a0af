-- What follows from the facts.
use Rattle.std.proofs.Common.{◌≡◌, ℕ, ◌⊎◌, inl, inr, Bool, true, false, List, [], ◌∷◌, refl, subst, arith, sym, ◌∙◌}
use Rattle.std.proofs.lemmas.Bool.{false≢true}
use Rattle.iom_ledger.specs.History.{History, Holds, Lingers, confirms}
use Rattle.iom_coherence.proofs.LedgerLemmas.{backed-never, current, never}
use Rattle.iom_coherence.proofs.ToComeLemmas.{fence_above, ticket_within}
use Rattle.iom_coherence.specs.Attachments.{IsKnown, in_both_stages}
use Rattle.iom_coherence.specs.Backing.{IsBacked}
use Rattle.iom_coherence.specs.Copies.{AccessGoes, ContextFits, EntryGoes, IsFaithfulAccess, NamesGrant, TranslationGoes}
use Rattle.iom_coherence.specs.Faithful.{GrantsFit, IsFaithful}
use Rattle.iom_coherence.specs.Holdings.{AreApart, HoldsNoPage, HoldsOrLingers, LingersOnNothing}
use Rattle.iom_coherence.specs.Laws.{AccessesAreKnown, ContextsAreNotOver, DoneFencesAreGone, IsNotOver, IsOfKnown, IsReachable, NamesHeld, NamesReachable, OfAnswers, OfEntries, OfTranslations, OpenSlotsHoldFences, StoppedQueuesHoldFences, IsUnconfirmed}
use Rattle.iom_coherence.specs.Scene.{Copy, Scene}
use Rattle.iom_coherence.specs.ToCome.{AreToCome, QueuedStep, drops_context}
use Rattle.iom_machine.specs.declared.state.Attachment.{Attachment}
use Rattle.iom_machine.specs.declared.state.Attachment.TheVariants.{Attached, Detached, Leaving, Quarantined}

-- What a copy names.

-- what backs a copy is held or lingers
reachable : (both : Bool) (h : History) (S : ℕ → Type 0) (copy : Copy) → IsBacked both h S copy → IsReachable both h copy
reachable true h S copy (a, r, comes, inl holds) = λ kind allowed. (a, r, inl holds, comes kind allowed)
reachable true h S copy (a, r, comes, inr (t, lingers, goes)) = λ kind allowed. (a, r, inr (t, lingers), comes kind allowed)
reachable false h S copy (a, r, comes, was) = by (subst (λ x. HoldsOrLingers h S copy.device x copy.pair) comes.0 (subst (λ x. HoldsOrLingers h S copy.device a (copy.pair.0, x)) comes.1 was))
  where
    by : HoldsOrLingers h S copy.device copy.page copy.pair → Holds h copy.device copy.page copy.pair ⊎ Lingers h copy.device copy.page copy.pair
    by (inl holds) = inl holds
    by (inr (t, lingers, goes)) = inr (t, lingers)

pub translations_reachable : OfTranslations NamesReachable
translations_reachable scene copy faithful there =
    reachable (in_both_stages (scene.attachment_of copy.device)) scene.history (TranslationGoes scene copy.device copy.page) copy (faithful.translations copy there)

pub entries_reachable : OfEntries NamesReachable
entries_reachable scene copy faithful there in_use =
    reachable (in_both_stages (scene.attachment_of copy.device)) scene.history (EntryGoes scene copy.device copy.page) copy (faithful.entries copy there in_use).1

pub answers_reachable : OfAnswers NamesReachable
answers_reachable scene epoch copy faithful there now in_use =
    reachable (in_both_stages (scene.attachment_of copy.device)) scene.history (EntryGoes scene copy.device copy.page) copy (faithful.answers epoch copy there now in_use).1

-- in one stage a copy of a page that is held is what is held
held : (scene : Scene) (S : ℕ → Type 0) (copy : Copy) → AreApart scene.history → NamesGrant scene S copy → NamesHeld scene copy
held scene S copy apart named one pair holds = by (subst (λ b. IsBacked b scene.history S copy) one named)
  where
    by : IsBacked false scene.history S copy → copy.pair ≡ pair
    by (a, r, comes, was) =
        current scene.history S copy.device copy.page copy.pair pair apart holds
        (subst (λ x. HoldsOrLingers scene.history S copy.device x copy.pair) comes.0 (subst (λ x. HoldsOrLingers scene.history S copy.device a (copy.pair.0, x)) comes.1 was))

pub translations_held : OfTranslations NamesHeld
translations_held scene copy faithful there = held scene (TranslationGoes scene copy.device copy.page) copy faithful.order.apart (faithful.translations copy there)

pub entries_held : OfEntries NamesHeld
entries_held scene copy faithful there in_use = held scene (EntryGoes scene copy.device copy.page) copy faithful.order.apart (faithful.entries copy there in_use).1

pub answers_held : OfAnswers NamesHeld
answers_held scene epoch copy faithful there now in_use = held scene (EntryGoes scene copy.device copy.page) copy faithful.order.apart (faithful.answers epoch copy there now in_use).1

-- What is forgotten.

pub contexts_are_not_over : ContextsAreNotOver
contexts_are_not_over scene device faithful there = by (scene.attachment_of device) (faithful.contexts device there)
  where
    pending : (ticket : ℕ) (steps : List QueuedStep) → AreToCome scene ticket steps → (b : Bool) → confirms scene.history ticket ≡ b → IsUnconfirmed scene ticket
    pending ticket steps (fence, waits, order) false e = (e, (ticket_within scene.confirmed scene.pending scene.given ticket fence faithful.order.tickets waits).0)
    pending ticket steps (fence, waits, order) true e =
        let low = faithful.order.confirmed ticket e in
        let above = (ticket_within scene.confirmed scene.pending scene.given ticket fence faithful.order.tickets waits).0 in absurd (omega (arith, low, above))

    by : (attachment : Attachment) → ContextFits scene device attachment → IsNotOver scene attachment
    by Detached fits = fits
    by (Attached mode ats) fits = tt
    by (Quarantined t mode ats) fits = pending t (drops_context device ∷ []) fits (confirms scene.history t) refl
    by (Leaving t mode ats) fits = pending t (drops_context device ∷ []) fits (confirms scene.history t) refl

-- for a detached device nothing is held and nothing lingers
known : (scene : Scene) (device : ℕ) → IsFaithful scene → (HoldsNoPage scene.history device → LingersOnNothing scene.history device → ⊥) → IsKnown (scene.attachment_of device)
known scene device faithful something = by (scene.attachment_of device) (faithful.order.grants device)
  where
    by : (attachment : Attachment) → GrantsFit scene.history device attachment → IsKnown attachment
    by Detached (holds, lingers) = absurd (something holds lingers)
    by (Attached mode ats) fits = refl
    by (Quarantined t mode ats) fits = refl
    by (Leaving t mode ats) fits = refl

known_copy : (scene : Scene) (S : ℕ → Type 0) (copy : Copy) → IsFaithful scene → NamesGrant scene S copy → IsOfKnown scene copy
known_copy scene S copy faithful named =
    known scene copy.device faithful (λ holds lingers. backed-never (in_both_stages (scene.attachment_of copy.device)) scene.history S copy holds lingers named)

pub translations_known : OfTranslations IsOfKnown
translations_known scene copy faithful there = known_copy scene (TranslationGoes scene copy.device copy.page) copy faithful (faithful.translations copy there)

pub entries_known : OfEntries IsOfKnown
entries_known scene copy faithful there in_use = known_copy scene (EntryGoes scene copy.device copy.page) copy faithful (faithful.entries copy there in_use).1

pub answers_known : OfAnswers IsOfKnown
answers_known scene epoch copy faithful there now in_use = known_copy scene (EntryGoes scene copy.device copy.page) copy faithful (faithful.answers epoch copy there now in_use).1

pub accesses_are_known : AccessesAreKnown
accesses_are_known scene access faithful there = by (faithful.accesses access there)
  where
    by : IsFaithfulAccess scene access → IsKnown (scene.attachment_of access.device)
    by (page, rights, reach, allowed) = known scene access.device faithful
        (λ holds lingers. never scene.history (AccessGoes scene access.number) access.device page (access.frame, rights) (holds page) (λ t c. lingers page t (access.frame, rights) c) reach)

-- What a fence waits for.

pub open_slots_hold_fences : OpenSlotsHoldFences
open_slots_hold_fences scene new slot fence faithful there (later, accepted, head, taken, made, is) = (faithful.order.snapshot_taken fence accepted taken).closed slot there

pub stopped_queues_hold_fences : StoppedQueuesHoldFences
stopped_queues_hold_fences scene new fence faithful stopped (later, accepted, head, taken, made, is) = false≢true (sym (faithful.order.snapshot_taken fence accepted taken).goes_on ∙ stopped)

pub done_fences_are_gone : DoneFencesAreGone
done_fences_are_gone scene fence faithful done order =
    let above = fence_above fence scene.completed scene.waiting scene.last_fence faithful.order.fences order in
    omega (arith, above, done)
