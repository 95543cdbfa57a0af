-- Quarantine and detach.
use Rattle.std.proofs.Common.{◌≡◌, ℕ, ◌+◌, ◌≤◌, ◌⊎◌, inl, inr, Bool, true, false, ◌==◌, [], ◌∷◌, ◌++◌, Option, None, Some, refl, sym, ap, ◌∙◌, subst, arith}
use Rattle.std.proofs.lemmas.Bool.{false≢true, eqb-true}
use Rattle.iom_ledger.specs.declared.entry.HistoryEntry.TheVariants.{AllReleased}
use Rattle.iom_ledger.specs.History.{History, Pair, Holds, held_at}
use Rattle.iom_coherence.specs.Attachments.{IsQuarantined, has_ats, in_both_stages, caches_translations}
use Rattle.iom_coherence.specs.Backing.{IsBacked}
use Rattle.iom_coherence.specs.Copies.{AccessGoes, ContextFits, EntryGoes, IsFaithfulContext, IsFaithfulEntry, IsFaithfulTranslation, TranslationGoes}
use Rattle.iom_coherence.specs.DriverCalls.{leave_commands, attachments_with}
use Rattle.iom_coherence.specs.Faithful.{GrantsFit, IsFaithful, IsOrdered}
use Rattle.iom_coherence.specs.Holdings.{HoldsNoPage, LingersOnNothing}
use Rattle.iom_coherence.specs.Queue.{Fence}
use Rattle.iom_coherence.specs.Scene.{Scene}
use Rattle.iom_coherence.specs.ToCome.{AreToCome, InOrder, drops_context, drops_translation, invalidates, is_fence}
use Rattle.iom_machine.specs.declared.state.Attachment.{Attachment}
use Rattle.iom_machine.specs.declared.state.Attachment.TheVariants.{Attached, Detached, Leaving, Quarantined}
use Rattle.iom_base.specs.declared.mode.Mode.{Mode}
use Rattle.iom_coherence.proofs.LedgerLemmas.{backed, backed-still, backed-never, Lingering, still, all_released, lingers_all_released, none_held, none_after_all_released, apart-all_released, backed-as}
use Rattle.iom_coherence.proofs.TicketLemmas.{same_number, Ticketed, to_come-ticket, to_come-new, translation-ticket, access-ticket, access-new, context-ticket, entry-ticket, fresh, ordered-ticket}

-- the attachment of another device
pub other_attachment : (of : ℕ → Attachment) (device : ℕ) (now : Attachment) (d : ℕ) → (device == d) ≡ false → attachments_with of device now d ≡ of d
other_attachment of device now d e = rw e refl

pub own_attachment : (of : ℕ → Attachment) (device : ℕ) (now : Attachment) (d : ℕ) → (device == d) ≡ true → attachments_with of device now d ≡ now
own_attachment of device now d e = rw e refl

-- the scene where the device leaves, or is quarantined
abbrev pub LeftScene : Scene → ℕ → History → Attachment → Scene
LeftScene s device h now = Ticketed s (leave_commands device) h (attachments_with s.attachment_of device now)

leave-translation : (s : Scene) (device : ℕ) (h : History) (of : ℕ → Attachment) (a : ℕ) → AreToCome (Ticketed s (leave_commands device) h of) (s.given + 1) (drops_translation device a ∷ [])
leave-translation s device h of a =
    let dev = same_number device in
    let fen = same_number (s.last_fence + 1) in
    to_come-new s (leave_commands device) h of (drops_translation device a ∷ []) (inr (inl (rw dev refl, inl (fen, tt))))

leave-context : (s : Scene) (device : ℕ) (h : History) (of : ℕ → Attachment) → AreToCome (Ticketed s (leave_commands device) h of) (s.given + 1) (drops_context device ∷ [])
leave-context s device h of =
    let dev = same_number device in
    let fen = same_number (s.last_fence + 1) in
    to_come-new s (leave_commands device) h of (drops_context device ∷ []) (inl (dev, inr (inl (fen, tt))))

leave-fence : (s : Scene) (device : ℕ) → InOrder (is_fence (s.last_fence + 1) ∷ []) (leave_commands device ++ Fence (s.last_fence + 1) ∷ [])
leave-fence s device = inr (inr (inl (same_number (s.last_fence + 1), tt)))

-- contexts, where one device leaves under the new ticket
contexts-left : (s : Scene) (device : ℕ) (h : History) (now : Attachment) → ContextFits (LeftScene s device h now) device now
    → (d : ℕ) → IsFaithfulContext s d → IsFaithfulContext (LeftScene s device h now) d
contexts-left s device h now own d fits = by (device == d) refl
  where
    by : (b : Bool) → (device == d) ≡ b → IsFaithfulContext (LeftScene s device h now) d
    by true e = subst (ContextFits (LeftScene s device h now) d) (sym (own_attachment s.attachment_of device now d e))
        (subst (λ x. ContextFits (LeftScene s device h now) x now) (eqb-true device d e) own)
    by false e = subst (ContextFits (LeftScene s device h now) d) (sym (other_attachment s.attachment_of device now d e))
        (context-ticket s (leave_commands device) h (attachments_with s.attachment_of device now) d (s.attachment_of d) fits)

-- a device that leaves so has a cache if it is one with ATS
cached-left : (s : Scene) (device : ℕ) (now : Attachment) → IsOrdered s → (has_ats now ≡ true → caches_translations (s.kind_of device) ≡ true)
    → (d : ℕ) → has_ats (attachments_with s.attachment_of device now d) ≡ true → caches_translations (s.kind_of d) ≡ true
cached-left s device now ordered own d has = by (device == d) refl
  where
    by : (b : Bool) → (device == d) ≡ b → caches_translations (s.kind_of d) ≡ true
    by true e = subst (λ x. caches_translations (s.kind_of x) ≡ true) (eqb-true device d e) (own (sym (ap has_ats (own_attachment s.attachment_of device now d e)) ∙ has))
    by false e = ordered.cached d (sym (ap has_ats (other_attachment s.attachment_of device now d e)) ∙ has)

-- The quarantine.

abbrev pub QuarantinedScene : Scene → ℕ → Mode → Bool → Scene
QuarantinedScene s device mode ats = LeftScene s device (AllReleased device (s.given + 1) ∷ s.history) (Quarantined (s.given + 1) mode ats)

-- A quarantine keeps all facts.
pub faithful_quarantined : (s : Scene) (device : ℕ) (mode : Mode) (ats : Bool) → IsFaithful s → s.attachment_of device ≡ Attached mode ats → IsFaithful (QuarantinedScene s device mode ats)
faithful_quarantined s device mode ats faithful at = record {
  order = ordered-ticket s (leave_commands device) H Of faithful.order (λ l within. within) (λ t. refl) lingering (apart-all_released s.history device (s.given + 1) faithful.order.apart)
      (λ d. grants d (device == d) refl)
      (cached-left s device Now faithful.order (λ has. faithful.order.cached device (ap has_ats at ∙ has)));
  numbers = faithful.numbers;
  translations = λ copy there. translation copy.device copy.page copy.pair (device == copy.device) refl (faithful.translations copy there);
  accesses = λ flight there. let old = faithful.accesses flight there in (
    old.0,
    old.1,
    all_released s.history (AccessGoes s flight.number) (AccessGoes New flight.number) device (s.given + 1) (fresh s faithful.order) flight.device old.0 (flight.frame, old.1)
        (λ t goes. access-ticket s (leave_commands device) H Of flight.number t goes)
        (λ its. access-new s (leave_commands device) H Of flight.number faithful.order (leave-fence s device))
        old.2,
    old.3,
  );
  contexts = λ d there. contexts-left s device H Now (leave-context s device H Of) d (faithful.contexts d there);
  entries = λ copy there. entry copy.device copy.page copy.pair (device == copy.device) refl (faithful.entries copy there);
  answers = λ epoch copy there now. entry copy.device copy.page copy.pair (device == copy.device) refl (faithful.answers epoch copy there now);
}
  where
    Now : Attachment
    Now = Quarantined (s.given + 1) mode ats

    H : History
    H = AllReleased device (s.given + 1) ∷ s.history

    Of : ℕ → Attachment
    Of = attachments_with s.attachment_of device (Quarantined (s.given + 1) mode ats)

    New : Scene
    New = QuarantinedScene s device mode ats

    lingering : (d a t : ℕ) (pair : Pair) → Lingering H d a t pair → t ≤ s.given + 1
    lingering d a t pair c = up_to (lingers_all_released s.history device (s.given + 1) d a t pair c)
      where
        up_to : ((t ≡ s.given + 1) × Holds s.history d a pair) ⊎ Lingering s.history d a t pair → t ≤ s.given + 1
        up_to (inl (new, held)) = omega (arith, new)
        up_to (inr old) = let within = faithful.order.lingering d a t pair old in omega (arith, within)

    elsewhere : (d : ℕ) → (device == d) ≡ false → (a t : ℕ) (pair : Pair) → HoldsNoPage s.history d → Lingering H d a t pair → Lingering s.history d a t pair
    elsewhere d e a t pair holds c = old (lingers_all_released s.history device (s.given + 1) d a t pair c)
      where
        old : ((t ≡ s.given + 1) × Holds s.history d a pair) ⊎ Lingering s.history d a t pair → Lingering s.history d a t pair
        old (inl (new, held)) = let both : ◌≡◌ {A = Option Pair} None (Some pair) = sym (holds a) ∙ held in cc
        old (inr before) = before

    others : (d : ℕ) → (device == d) ≡ false → (attachment : Attachment) → GrantsFit s.history d attachment → GrantsFit New.history d attachment
    others d e Detached (holds, lingers) = ((λ a. none_after_all_released s.history device (s.given + 1) d a (holds a)), λ a t pair c. lingers a t pair (elsewhere d e a t pair holds c))
    others d e (Attached m x) fits = tt
    others d e (Quarantined x m y) (holds, lingers) =
        ((λ a. none_after_all_released s.history device (s.given + 1) d a (holds a)), λ a t pair c. lingers a t pair (elsewhere d e a t pair holds c))
    others d e (Leaving x m y) (holds, lingers) = ((λ a. none_after_all_released s.history device (s.given + 1) d a (holds a)), λ a t pair c. lingers a t pair (elsewhere d e a t pair holds c))

    own : GrantsFit New.history device (Quarantined (s.given + 1) mode ats)
    own = ((λ a. none_held s.history device (s.given + 1) a), λ a t pair c. lingering device a t pair c)

    grants : (d : ℕ) (b : Bool) → (device == d) ≡ b → GrantsFit New.history d (attachments_with s.attachment_of device (Quarantined (s.given + 1) mode ats) d)
    grants d true e = subst (GrantsFit New.history d) (sym (own_attachment s.attachment_of device Now d e)) (subst (λ x. GrantsFit New.history x Now) (eqb-true device d e) own)
    grants d false e = subst (GrantsFit New.history d) (sym (other_attachment s.attachment_of device Now d e)) (others d e (s.attachment_of d) (faithful.order.grants d))

    differs : (d : ℕ) → (device == d) ≡ false → device ≡ d → ⊥
    differs d e same = false≢true (sym e ∙ subst (λ x. (device == x) ≡ true) same (same_number device))

    not_quarantined : IsQuarantined (s.attachment_of device) → ⊥
    not_quarantined q = false≢true (subst IsQuarantined at q)

    is_quarantined : IsQuarantined (attachments_with s.attachment_of device (Quarantined (s.given + 1) mode ats) device)
    is_quarantined = subst IsQuarantined (sym (own_attachment s.attachment_of device Now device (same_number device))) refl

    own_has : has_ats (attachments_with s.attachment_of device (Quarantined (s.given + 1) mode ats) device) ≡ has_ats (s.attachment_of device)
    own_has = ap has_ats (own_attachment s.attachment_of device Now device (same_number device)) ∙ sym (ap has_ats at)

    own_stages : in_both_stages (Of device) ≡ in_both_stages (s.attachment_of device)
    own_stages = ap in_both_stages (own_attachment s.attachment_of device Now device (same_number device)) ∙ sym (ap in_both_stages at)

    own_translation : (a t : ℕ) → TranslationGoes s device a t → TranslationGoes New device a t
    own_translation a t (drop, goes) = (
      to_come-ticket s (leave_commands device) H Of t (drops_translation device a ∷ []) drop,
      λ has. elim (goes (sym own_has ∙ has)) [
        | inl reply ↦ inl (to_come-ticket s (leave_commands device) H Of t (drops_translation device a ∷ invalidates device a ∷ []) reply)
        | inr (q, cut) ↦ absurd (not_quarantined q)
      ],
    )

    translation : (d a : ℕ) (pair : Pair) (b : Bool) → (device == d) ≡ b → IsFaithfulTranslation s (record { device = d; page = a; pair = pair }) → IsFaithfulTranslation New (record { device = d; page = a; pair = pair })
    translation d a pair false e old =
        backed-as (in_both_stages (Of d)) (in_both_stages (s.attachment_of d)) H (TranslationGoes New d a) (record { device = d; page = a; pair = pair }) (ap in_both_stages (other_attachment s.attachment_of device Now d e))
        (backed (in_both_stages (s.attachment_of d)) s.history H (TranslationGoes s d a) (TranslationGoes New d a) (record { device = d; page = a; pair = pair }) (λ from r comes was.
        all_released s.history (TranslationGoes s d a) (TranslationGoes New d a) device (s.given + 1) (fresh s faithful.order) d from (pair.0, r)
        (λ t goes. translation-ticket s (leave_commands device) H Of d a t (other_attachment s.attachment_of device Now d e) goes)
        (λ its. absurd (differs d e its)) was) old)
    translation d a pair true e old =
        subst (λ x. IsFaithfulTranslation s (record { device = x; page = a; pair = pair }) → IsFaithfulTranslation New (record { device = x; page = a; pair = pair })) (eqb-true device d e)
        (λ own. backed-as (in_both_stages (Of device)) (in_both_stages (s.attachment_of device)) H (TranslationGoes New device a) (record { device = device; page = a; pair = pair }) own_stages
        (backed (in_both_stages (s.attachment_of device)) s.history H (TranslationGoes s device a) (TranslationGoes New device a) (record { device = device; page = a; pair = pair }) (λ from r comes was.
        all_released s.history (TranslationGoes s device a) (TranslationGoes New device a) device (s.given + 1) (fresh s faithful.order) device from (pair.0, r)
        (λ t goes. own_translation a t goes)
        (λ its. (leave-translation s device H Of a, λ has. inr (is_quarantined, λ c. leave-context s device H Of))) was) own))
        old

    own_entry : (a t : ℕ) → EntryGoes s device a t → EntryGoes New device a t
    own_entry a t (inl reply) = inl (to_come-ticket s (leave_commands device) H Of t (invalidates device a ∷ []) reply)
    own_entry a t (inr (inl (fence, underway))) = inr (inl (to_come-ticket s (leave_commands device) H Of t [] fence, underway))
    own_entry a t (inr (inr (inl (fence, stopped)))) = inr (inr (inl (to_come-ticket s (leave_commands device) H Of t [] fence, stopped)))
    own_entry a t (inr (inr (inr (drop, q)))) = absurd (not_quarantined q)

    entry : (d a : ℕ) (pair : Pair) (b : Bool) → (device == d) ≡ b → IsFaithfulEntry s (record { device = d; page = a; pair = pair }) → IsFaithfulEntry New (record { device = d; page = a; pair = pair })
    entry d a pair false e fact in_use =
        let same = other_attachment s.attachment_of device Now d e in
        let old = fact (λ q. in_use (subst IsQuarantined (sym same) q)) in (
          ap has_ats same ∙ old.0,
          backed-as (in_both_stages (Of d)) (in_both_stages (s.attachment_of d)) H (EntryGoes New d a) (record { device = d; page = a; pair = pair }) (ap in_both_stages same)
              (backed (in_both_stages (s.attachment_of d)) s.history H (EntryGoes s d a) (EntryGoes New d a) (record { device = d; page = a; pair = pair }) (λ from r comes was.
              all_released s.history (EntryGoes s d a) (EntryGoes New d a) device (s.given + 1) (fresh s faithful.order) d from (pair.0, r)
              (λ t goes. entry-ticket s (leave_commands device) H Of d a t same goes)
              (λ its. absurd (differs d e its)) was) old.1),
        )
    entry d a pair true e fact in_use = subst (λ x. IsFaithfulEntry s (record { device = x; page = a; pair = pair }) → IsFaithfulEntry New (record { device = x; page = a; pair = pair })) (eqb-true device d e) at_own fact in_use
      where
        at_own : IsFaithfulEntry s (record { device = device; page = a; pair = pair }) → IsFaithfulEntry New (record { device = device; page = a; pair = pair })
        at_own was in_use =
            let old = was (λ q. absurd (not_quarantined q)) in (
              own_has ∙ old.0,
              backed-as (in_both_stages (Of device)) (in_both_stages (s.attachment_of device)) H (EntryGoes New device a) (record { device = device; page = a; pair = pair }) own_stages
                  (backed (in_both_stages (s.attachment_of device)) s.history H (EntryGoes s device a) (EntryGoes New device a) (record { device = device; page = a; pair = pair }) (λ from r comes was.
                  all_released s.history (EntryGoes s device a) (EntryGoes New device a) device (s.given + 1) (fresh s faithful.order) device from (pair.0, r)
                  (λ t goes. own_entry a t goes)
                  (λ its. inr (inr (inr (leave-context s device H Of, is_quarantined)))) was) old.1),
            )

-- The detach.

abbrev pub LeavingScene : Scene → ℕ → Mode → Bool → Scene
LeavingScene s device mode ats = LeftScene s device s.history (Leaving (s.given + 1) mode ats)

-- A detach keeps all facts: there are no copies of the device but its context.
pub faithful_detached : (s : Scene) (device : ℕ) (mode : Mode) (ats : Bool) → IsFaithful s → s.attachment_of device ≡ Attached mode ats → HoldsNoPage s.history device → LingersOnNothing s.history device
    → IsFaithful (LeavingScene s device mode ats)
faithful_detached s device mode ats faithful at holds lingers = record {
  order = ordered-ticket s (leave_commands device) s.history Of faithful.order (λ l within. within) (λ t. refl)
      (λ d a t pair c. let within = faithful.order.lingering d a t pair c in omega (arith, within)) faithful.order.apart
      (λ d. grants d (device == d) refl)
      (cached-left s device Now faithful.order (λ has. faithful.order.cached device (ap has_ats at ∙ has)));
  numbers = faithful.numbers;
  translations = λ copy there. translation copy.device copy.page copy.pair (device == copy.device) refl (faithful.translations copy there);
  accesses = λ flight there. let old = faithful.accesses flight there in (
    old.0,
    old.1,
    still s.history (AccessGoes s flight.number) (AccessGoes New flight.number) flight.device old.0 (flight.frame, old.1)
        (λ t goes. access-ticket s (leave_commands device) s.history Of flight.number t goes) old.2,
    old.3,
  );
  contexts = λ d there. contexts-left s device s.history Now (leave-context s device s.history Of) d (faithful.contexts d there);
  entries = λ copy there. entry copy.device copy.page copy.pair (device == copy.device) refl (faithful.entries copy there);
  answers = λ epoch copy there now. entry copy.device copy.page copy.pair (device == copy.device) refl (faithful.answers epoch copy there now);
}
  where
    Now : Attachment
    Now = Leaving (s.given + 1) mode ats

    Of : ℕ → Attachment
    Of = attachments_with s.attachment_of device (Leaving (s.given + 1) mode ats)

    New : Scene
    New = LeavingScene s device mode ats

    grants : (d : ℕ) (b : Bool) → (device == d) ≡ b → GrantsFit New.history d (attachments_with s.attachment_of device (Leaving (s.given + 1) mode ats) d)
    grants d true e = subst (GrantsFit New.history d) (sym (own_attachment s.attachment_of device Now d e)) (subst (λ x. HoldsNoPage s.history x × LingersOnNothing s.history x) (eqb-true device d e) (holds, lingers))
    grants d false e = subst (GrantsFit New.history d) (sym (other_attachment s.attachment_of device Now d e)) (faithful.order.grants d)

    none : (S : ℕ → Type 0) (d a : ℕ) (pair : Pair) → device ≡ d → IsBacked (in_both_stages (s.attachment_of d)) s.history S (record { device = d; page = a; pair = pair }) → ⊥
    none S d a pair same old =
        backed-never (in_both_stages (s.attachment_of d)) s.history S (record { device = d; page = a; pair = pair }) (λ from. subst (λ x. held_at s.history x from ≡ None) same (holds from))
        (λ from t p c. lingers from t p (subst (λ x. Lingering s.history x from t p) (sym same) c)) old

    translation : (d a : ℕ) (pair : Pair) (b : Bool) → (device == d) ≡ b → IsFaithfulTranslation s (record { device = d; page = a; pair = pair }) → IsFaithfulTranslation New (record { device = d; page = a; pair = pair })
    translation d a pair false e old =
        backed-as (in_both_stages (Of d)) (in_both_stages (s.attachment_of d)) s.history (TranslationGoes New d a) (record { device = d; page = a; pair = pair }) (ap in_both_stages (other_attachment s.attachment_of device Now d e))
        (backed-still (in_both_stages (s.attachment_of d)) s.history (TranslationGoes s d a) (TranslationGoes New d a) (record { device = d; page = a; pair = pair })
        (λ t goes. translation-ticket s (leave_commands device) s.history Of d a t (other_attachment s.attachment_of device Now d e) goes) old)
    translation d a pair true e old = absurd (none (TranslationGoes s d a) d a pair (eqb-true device d e) old)

    entry : (d a : ℕ) (pair : Pair) (b : Bool) → (device == d) ≡ b → IsFaithfulEntry s (record { device = d; page = a; pair = pair }) → IsFaithfulEntry New (record { device = d; page = a; pair = pair })
    entry d a pair false e fact in_use =
        let same = other_attachment s.attachment_of device Now d e in
        let old = fact (λ q. in_use (subst IsQuarantined (sym same) q)) in (
          ap has_ats same ∙ old.0,
          backed-as (in_both_stages (Of d)) (in_both_stages (s.attachment_of d)) s.history (EntryGoes New d a) (record { device = d; page = a; pair = pair }) (ap in_both_stages same)
              (backed-still (in_both_stages (s.attachment_of d)) s.history (EntryGoes s d a) (EntryGoes New d a) (record { device = d; page = a; pair = pair })
              (λ t goes. entry-ticket s (leave_commands device) s.history Of d a t same goes) old.1),
        )
    entry d a pair true e fact in_use =
        let same = eqb-true device d e in
        let old = fact (λ q. absurd (false≢true (subst IsQuarantined at (subst (λ x. IsQuarantined (s.attachment_of x)) (sym same) q)))) in
        absurd (none (EntryGoes s d a) d a pair same old.1)
