-- Attach and revive.
use Rattle.std.proofs.Common.{◌≤◌, ◌≡◌, ℕ, inl, inr, Bool, true, false, ◌==◌, List, Contains, Option, None, Some, refl, sym, ap, ◌∙◌, subst, arith}
use Rattle.std.proofs.lemmas.Bool.{false≢true, eqb-true}
use Rattle.iom_ledger.specs.History.{Pair, held_at}
use Rattle.iom_coherence.specs.Attachments.{IsQuarantined, has_ats, in_both_stages, caches_translations}
use Rattle.iom_coherence.specs.Copies.{ContextFits, EntryGoes, IsFaithfulEntry, IsFaithfulTranslation, TranslationGoes}
use Rattle.iom_coherence.specs.Deliveries.{raised}
use Rattle.iom_coherence.specs.DriverCalls.{attachments_with}
use Rattle.iom_coherence.specs.Faithful.{GrantsFit, IsFaithful}
use Rattle.iom_coherence.specs.Holdings.{HoldsNoPage, LingersUpTo}
use Rattle.iom_coherence.specs.Scene.{Answer, Copy, Scene}
use Rattle.iom_machine.specs.declared.state.Attachment.TheVariants.{Attached, Detached, Quarantined}
use Rattle.iom_base.specs.declared.mode.Mode.{Mode}
use Rattle.iom_coherence.proofs.ToComeLemmas.{ticket_within}
use Rattle.iom_coherence.proofs.LedgerLemmas.{backed-still, backed-never, Lingering, backed-as}
use Rattle.iom_coherence.proofs.TicketLemmas.{same_number}
use Rattle.iom_coherence.proofs.LeaveLemmas.{other_attachment, own_attachment}
use Rattle.iom_coherence.proofs.CacheLemmas.{raised_other, faithful_reset}

-- no copy of the device is there but its context
pub record IsBare (s : Scene) (device : ℕ) : Type 0 where
  pub translations : (copy : Copy) → Contains s.translations copy → device ≡ copy.device → ⊥
  pub entries : (copy : Copy) → Contains s.entries copy → device ≡ copy.device → ⊥
  pub answers : (epoch : ℕ) (copy : Copy) → Contains s.messages (Answer epoch copy) → epoch ≡ s.epoch_of copy.device → device ≡ copy.device → ⊥

-- The device is attached, where no copy of it is there but its context.
pub faithful_attached_bare : (s : Scene) (device : ℕ) (mode : Mode) (ats : Bool) → IsFaithful s → IsBare s device
    → (ats ≡ true → caches_translations (s.kind_of device) ≡ true)
    → IsFaithful (record s { attachment_of = attachments_with s.attachment_of device (Attached mode ats) })
faithful_attached_bare s device mode ats faithful bare caches = record {
  order = record {
    fences = faithful.order.fences;
    tickets = faithful.order.tickets;
    confirmed = faithful.order.confirmed;
    lingering = faithful.order.lingering;
    apart = faithful.order.apart;
    counted = faithful.order.counted;
    snapshot_taken = faithful.order.snapshot_taken;
    grants = λ d. grants d (device == d) refl;
    cached = λ d has. cached d (device == d) refl has;
  };
  numbers = faithful.numbers;
  translations = λ copy there. translation copy there (device == copy.device) refl;
  accesses = faithful.accesses;
  contexts = λ d there. context d (device == d) refl (faithful.contexts d there);
  entries = λ copy there. entry copy (device == copy.device) refl (bare.entries copy there) (faithful.entries copy there);
  answers = λ epoch copy there now. entry copy (device == copy.device) refl (bare.answers epoch copy there now) (faithful.answers epoch copy there now);
}
  where
    New : Scene
    New = record s { attachment_of = attachments_with s.attachment_of device (Attached mode ats) }

    grants : (d : ℕ) (b : Bool) → (device == d) ≡ b → GrantsFit New.history d (attachments_with s.attachment_of device (Attached mode ats) d)
    grants d true e = subst (GrantsFit New.history d) (sym (own_attachment s.attachment_of device (Attached mode ats) d e)) tt
    grants d false e = subst (GrantsFit New.history d) (sym (other_attachment s.attachment_of device (Attached mode ats) d e)) (faithful.order.grants d)

    cached : (d : ℕ) (b : Bool) → (device == d) ≡ b → has_ats (attachments_with s.attachment_of device (Attached mode ats) d) ≡ true → caches_translations (s.kind_of d) ≡ true
    cached d true e has = subst (λ x. caches_translations (s.kind_of x) ≡ true) (eqb-true device d e) (caches (sym (ap has_ats (own_attachment s.attachment_of device (Attached mode ats) d e)) ∙ has))
    cached d false e has = faithful.order.cached d (sym (ap has_ats (other_attachment s.attachment_of device (Attached mode ats) d e)) ∙ has)

    context : (d : ℕ) (b : Bool) → (device == d) ≡ b → ContextFits s d (s.attachment_of d) → ContextFits New d (attachments_with s.attachment_of device (Attached mode ats) d)
    context d true e fits = subst (ContextFits New d) (sym (own_attachment s.attachment_of device (Attached mode ats) d e)) tt
    context d false e fits = subst (ContextFits New d) (sym (other_attachment s.attachment_of device (Attached mode ats) d e)) fits

    translation : (copy : Copy) → Contains s.translations copy → (b : Bool) → (device == copy.device) ≡ b → IsFaithfulTranslation New copy
    translation copy there true e = absurd (bare.translations copy there (eqb-true device copy.device e))
    translation copy there false e =
        let is = other_attachment s.attachment_of device (Attached mode ats) copy.device e in
        backed-as (in_both_stages (New.attachment_of copy.device)) (in_both_stages (s.attachment_of copy.device)) s.history (TranslationGoes New copy.device copy.page) copy (ap in_both_stages is)
        (backed-still (in_both_stages (s.attachment_of copy.device)) s.history (TranslationGoes s copy.device copy.page) (TranslationGoes New copy.device copy.page) copy
        (λ t goes. (goes.0, λ has. elim (goes.1 (sym (ap has_ats is) ∙ has)) [ inl reply ↦ inl reply | inr (q, cut) ↦ inr (subst IsQuarantined (sym is) q, cut) ]))
        (faithful.translations copy there))

    goes_on : (d a t : ℕ) → attachments_with s.attachment_of device (Attached mode ats) d ≡ s.attachment_of d → EntryGoes s d a t → EntryGoes New d a t
    goes_on d a t is (inl reply) = inl reply
    goes_on d a t is (inr (inl underway)) = inr (inl underway)
    goes_on d a t is (inr (inr (inl stopped))) = inr (inr (inl stopped))
    goes_on d a t is (inr (inr (inr (drop, q)))) = inr (inr (inr (drop, subst IsQuarantined (sym is) q)))

    entry : (copy : Copy) (b : Bool) → (device == copy.device) ≡ b → (device ≡ copy.device → ⊥) → IsFaithfulEntry s copy → IsFaithfulEntry New copy
    entry copy true e not_there fact in_use = absurd (not_there (eqb-true device copy.device e))
    entry copy false e not_there fact in_use =
        let is = other_attachment s.attachment_of device (Attached mode ats) copy.device e in
        let old = fact (λ q. in_use (subst IsQuarantined (sym is) q)) in (
          ap has_ats is ∙ old.0,
          backed-as (in_both_stages (New.attachment_of copy.device)) (in_both_stages (s.attachment_of copy.device)) s.history (EntryGoes New copy.device copy.page) copy (ap in_both_stages is)
              (backed-still (in_both_stages (s.attachment_of copy.device)) s.history (EntryGoes s copy.device copy.page) (EntryGoes New copy.device copy.page) copy (λ t goes. goes_on copy.device copy.page t is goes) old.1),
        )

-- An attach keeps all facts: of a detached device there are no copies.
pub faithful_attached : (s : Scene) (device : ℕ) (mode : Mode) (ats : Bool) → IsFaithful s → s.attachment_of device ≡ Detached
    → (ats ≡ true → caches_translations (s.kind_of device) ≡ true)
    → IsFaithful (record s { attachment_of = attachments_with s.attachment_of device (Attached mode ats) })
faithful_attached s device mode ats faithful at caches = faithful_attached_bare s device mode ats faithful (record {
  translations = λ copy there its.
      let none = subst (GrantsFit s.history device) at (faithful.order.grants device) in
      backed-never (in_both_stages (s.attachment_of copy.device)) s.history (TranslationGoes s copy.device copy.page) copy
      (λ from. subst (λ x. held_at s.history x from ≡ None) its (none.0 from))
      (λ from t p c. none.1 from t p (subst (λ x. Lingering s.history x from t p) (sym its) c))
      (faithful.translations copy there);
  entries = λ copy there its. no_ats copy its (faithful.entries copy there);
  answers = λ epoch copy there now its. no_ats copy its (faithful.answers epoch copy there now);
}) caches
  where
    no_ats : (copy : Copy) → device ≡ copy.device → IsFaithfulEntry s copy → ⊥
    no_ats copy its fact =
        let is : s.attachment_of copy.device ≡ Detached = subst (λ x. s.attachment_of x ≡ Detached) its at in
        let old = fact (λ q. absurd (false≢true (subst IsQuarantined is q))) in
        false≢true (sym (ap has_ats is) ∙ old.0)

-- A revive keeps all facts: it resets the device, so that nothing is left that was quarantined.
pub faithful_revived : (s : Scene) (device ticket : ℕ) (mode : Mode) (ats : Bool) (left : List Copy) → IsFaithful s → s.attachment_of device ≡ Quarantined ticket mode ats → ticket ≤ s.confirmed
    → ((copy : Copy) → Contains left copy → Contains s.entries copy × ((device == copy.device) ≡ false))
    → IsFaithful (record s { entries = left; epoch_of = raised s.kind_of s.epoch_of device; attachment_of = attachments_with s.attachment_of device (Attached mode ats) })
faithful_revived s device ticket mode ats left faithful at confirmed kept =
    faithful_attached_bare (record s { entries = left; epoch_of = raised s.kind_of s.epoch_of device }) device mode ats (faithful_reset s device left faithful kept)
    (record {
      translations = λ copy there its. none copy its (faithful.translations copy there);
      entries = λ copy there its. false≢true (sym (kept copy there).1 ∙ own copy its);
      answers = λ epoch copy there now its.
          false≢true (sym (raised_other s.kind_of s.epoch_of device copy.device epoch (faithful.numbers.answered epoch copy there) now).0 ∙ own copy its);
    })
    (λ yes. faithful.order.cached device (ap has_ats at ∙ yes))
  where
    own : (copy : Copy) → device ≡ copy.device → (device == copy.device) ≡ true
    own copy its = subst (λ x. (device == x) ≡ true) its (same_number device)

    fits : HoldsNoPage s.history device × LingersUpTo s.history device ticket
    fits = subst (GrantsFit s.history device) at (faithful.order.grants device)

    none : (copy : Copy) → device ≡ copy.device → IsFaithfulTranslation s copy → ⊥
    none copy its (from, r, comes, inl holds) =
        let nothing : held_at s.history copy.device from ≡ None = subst (λ x. held_at s.history x from ≡ None) its (fits.0 from) in
        let both : ◌≡◌ {A = Option Pair} None (Some (copy.pair.0, r)) = sym nothing ∙ holds in cc
    none copy its (from, r, comes, inr (t, lingers, ((fence, there, order), goes))) =
        let up_to = fits.1 from t (copy.pair.0, r) (subst (λ x. Lingering s.history x from t (copy.pair.0, r)) (sym its) lingers) in
        let above = (ticket_within s.confirmed s.pending s.given t fence faithful.order.tickets there).0 in
        absurd (omega (arith, up_to, confirmed, above))
