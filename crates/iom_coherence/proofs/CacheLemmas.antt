-- Caches, devices and messages.
use Rattle.std.proofs.Common.{◌≡◌, ℕ, ◌+◌, ◌≤◌, ◌⊎◌, inl, inr, Bool, true, false, ◌==◌, ◌&&◌, List, [], ◌∷◌, Contains, if◌then◌else◌, refl, sym, ap, ◌∙◌, subst, arith, Option}
use Rattle.std.proofs.lemmas.Bool.{false≢true}
use Rattle.iom_coherence.specs.Among.{AreAmongWith}
use Rattle.iom_coherence.specs.Attachments.{IsAttached, IsQuarantined, has_ats, in_both_stages, caches_translations, may_forge}
use Rattle.iom_coherence.specs.Copies.{ContextFits, EntryGoes, IsQuarantinedBefore, IsFaithfulEntry, IsFaithfulTranslation, IsInUse, IsUnderway, TranslationGoes}
use Rattle.iom_coherence.specs.Deliveries.{MayBeSent, raised}
use Rattle.iom_coherence.specs.Faithful.{IsFaithful, IsOrdered}
use Rattle.iom_coherence.specs.Queue.{Extent, extent_covers}
use Rattle.iom_coherence.specs.Requests.{IsWalked}
use Rattle.iom_coherence.specs.Scene.{Answer, AtsMessage, Copy, InvalidateCompletion, InvalidateRequest, Invalidation, Question, Scene}
use Rattle.iom_coherence.specs.ToCome.{AreToCome, drops_translation, invalidates, is_fence}
use Rattle.iom_machine.specs.declared.state.Attachment.{Attachment}
use Rattle.iom_machine.specs.declared.state.Attachment.TheVariants.{Attached, Detached, Leaving, Quarantined}
use Rattle.iom_coherence.proofs.LedgerLemmas.{backed-still}
use Rattle.iom_coherence.proofs.ToComeLemmas.{in_order-rest}
use Rattle.iom_coherence.proofs.TicketLemmas.{same_number}
use Rattle.iom_coherence.proofs.KindLemmas.{honest}
use Rattle.iom_base.specs.declared.device_kind.DeviceKind.{DeviceKind}

-- the order does not speak of copies and messages
pub order-copies : (s : Scene) (translations : List Copy) (contexts : List ℕ) (entries : List Copy) (epoch_of : ℕ → ℕ) (messages : List AtsMessage) → IsOrdered s
    → IsOrdered (record s { translations = translations; contexts = contexts; entries = entries; epoch_of = epoch_of; messages = messages })
order-copies s translations contexts entries epoch_of messages ordered = record {
  fences = ordered.fences;
  tickets = ordered.tickets;
  confirmed = ordered.confirmed;
  lingering = ordered.lingering;
  apart = ordered.apart;
  counted = ordered.counted;
  snapshot_taken = ordered.snapshot_taken;
  grants = ordered.grants;
  cached = ordered.cached;
}

-- A translation that a walk gave is kept, and others may go.
pub faithful_translation_kept : (s : Scene) (copy : Copy) (kept : List Copy) → IsFaithful s → IsWalked s copy → AreAmongWith kept copy s.translations
    → IsFaithful (record s { translations = kept })
faithful_translation_kept s copy kept faithful walked among = record {
  order = order-copies s kept s.contexts s.entries s.epoch_of s.messages faithful.order;
  numbers = faithful.numbers;
  translations = λ one there. by one (among one there);
  accesses = faithful.accesses;
  contexts = faithful.contexts;
  entries = faithful.entries;
  answers = faithful.answers;
}
  where
    by : (one : Copy) → (one ≡ copy) ⊎ Contains s.translations one → IsFaithfulTranslation s one
    by one (inl same) = subst (IsFaithfulTranslation s) (sym same) (walked.0, walked.1, walked.2, inl walked.3)
    by one (inr old) = faithful.translations one old

-- The context of an attached device is kept, and others may go.
pub faithful_context_kept : (s : Scene) (device : ℕ) (kept : List ℕ) → IsFaithful s → IsAttached (s.attachment_of device) → AreAmongWith kept device s.contexts
    → IsFaithful (record s { contexts = kept })
faithful_context_kept s device kept faithful attached among = record {
  order = order-copies s s.translations kept s.entries s.epoch_of s.messages faithful.order;
  numbers = faithful.numbers;
  translations = λ copy there.
      backed-still (in_both_stages (s.attachment_of copy.device)) s.history (TranslationGoes s copy.device copy.page) (TranslationGoes (record s { contexts = kept }) copy.device copy.page) copy
      (λ t goes. (goes.0, λ has. elim (goes.1 has) [ inl reply ↦ inl reply | inr (q, cut) ↦ inr (q, λ c. cut (before copy.device q (among copy.device c))) ]))
      (faithful.translations copy there);
  accesses = faithful.accesses;
  contexts = λ d there. context d (s.attachment_of d) refl (among d there);
  entries = λ copy there. entry copy (faithful.entries copy there);
  answers = λ epoch copy there now. entry copy (faithful.answers epoch copy there now);
}
  where
    apart : (attachment : Attachment) → IsAttached attachment → IsQuarantined attachment → ⊥
    apart Detached a q = false≢true a
    apart (Attached mode ats) a q = false≢true q
    apart (Quarantined t mode ats) a q = false≢true a
    apart (Leaving t mode ats) a q = false≢true a

    before : (d : ℕ) → IsQuarantined (s.attachment_of d) → (d ≡ device) ⊎ Contains s.contexts d → Contains s.contexts d
    before d q (inl same) = absurd (apart (s.attachment_of device) attached (subst (λ x. IsQuarantined (s.attachment_of x)) same q))
    before d q (inr old) = old

    attached_fits : (d : ℕ) (attachment : Attachment) → IsAttached attachment → ContextFits (record s { contexts = kept }) d attachment
    attached_fits d Detached a = absurd (false≢true a)
    attached_fits d (Attached mode ats) a = tt
    attached_fits d (Quarantined t mode ats) a = absurd (false≢true a)
    attached_fits d (Leaving t mode ats) a = absurd (false≢true a)

    context : (d : ℕ) (attachment : Attachment) → s.attachment_of d ≡ attachment → (d ≡ device) ⊎ Contains s.contexts d → ContextFits (record s { contexts = kept }) d (s.attachment_of d)
    context d attachment at (inl same) = attached_fits d (s.attachment_of d) (subst (λ x. IsAttached (s.attachment_of x)) (sym same) attached)
    context d attachment at (inr old) = faithful.contexts d old

    entry : (copy : Copy) → IsFaithfulEntry s copy → IsFaithfulEntry (record s { contexts = kept }) copy
    entry copy fact in_use = let old = fact (λ q. before copy.device q (among copy.device (in_use q))) in (old.0, old.1)

-- Messages.

-- an entry behind a cached translation
entry-translation : (s : Scene) (d a t : ℕ) → IsInUse s d → has_ats (s.attachment_of d) ≡ true → TranslationGoes s d a t → EntryGoes s d a t
entry-translation s d a t in_use has (drop, goes) = by (goes has)
  where
    by : AreToCome s t (drops_translation d a ∷ invalidates d a ∷ []) ⊎ IsQuarantinedBefore s d t → EntryGoes s d a t
    by (inl (fence, there, order)) = inl (fence, there, in_order-rest (drops_translation d a) (invalidates d a ∷ is_fence fence ∷ []) s.waiting order)
    by (inr (q, cut)) = inr (inr (inr (cut (in_use q), q)))

-- Messages are lost, repeated, reordered, and sent.
pub faithful_messages : (s : Scene) (messages : List AtsMessage) → IsFaithful s → ((message : AtsMessage) → Contains messages message → MayBeSent s message ⊎ Contains s.messages message)
    → IsFaithful (record s { messages = messages })
faithful_messages s messages faithful from = record {
  order = order-copies s s.translations s.contexts s.entries s.epoch_of messages faithful.order;
  numbers = record {
    asked = λ d epoch page there honesty. elim (from (Question d epoch page) there) [ inl within ↦ within honesty | inr old ↦ faithful.numbers.asked d epoch page old honesty ];
    answered = λ epoch copy there. elim (from (Answer epoch copy) there) [ inl may ↦ in_epoch epoch copy may.0 may.1 | inr old ↦ faithful.numbers.answered epoch copy old ];
    opened = faithful.numbers.opened;
    requested = λ slot extent there. elim (from (InvalidateRequest slot extent) there) [ inl never ↦ absurd never | inr old ↦ faithful.numbers.requested slot extent old ];
    done = λ slot there honesty. elim (from (InvalidateCompletion slot) there) [ inl forged ↦ absurd (false≢true (sym honesty ∙ forged)) | inr old ↦ faithful.numbers.done slot old honesty ];
  };
  translations = faithful.translations;
  accesses = faithful.accesses;
  contexts = faithful.contexts;
  entries = λ copy there. entry copy (faithful.entries copy there);
  answers = λ epoch copy there now. by copy epoch now (from (Answer epoch copy) there);
}
  where
    -- the answer to a question is of its epoch, and of a device that asks in its own
    in_epoch : (epoch : ℕ) (copy : Copy) → Contains s.messages (Question copy.device epoch copy.page) → has_ats (s.attachment_of copy.device) ≡ true
        → (epoch ≤ s.epoch_of copy.device) × (caches_translations (s.kind_of copy.device) ≡ true)
    in_epoch epoch copy asked has =
        let caches = faithful.order.cached copy.device has in
        (faithful.numbers.asked copy.device epoch copy.page asked (honest (s.kind_of copy.device) caches), caches)

    underway : (d a : ℕ) → may_forge (s.kind_of d) ≡ false → IsUnderway s d a → IsUnderway (record s { messages = messages }) d a
    underway d a honesty (serial, opened, undone, covered) = (
      serial,
      opened,
      (λ there. elim (from (InvalidateCompletion (record { serial = serial; device = d })) there) [ inl forged ↦ absurd (false≢true (sym honesty ∙ forged)) | inr old ↦ undone old ]),
      (λ extent there. elim (from (InvalidateRequest (record { serial = serial; device = d }) extent) there) [ inl never ↦ absurd never | inr old ↦ covered extent old ]),
    )

    goes_on : (d a t : ℕ) → may_forge (s.kind_of d) ≡ false → EntryGoes s d a t → EntryGoes (record s { messages = messages }) d a t
    goes_on d a t honesty (inl reply) = inl reply
    goes_on d a t honesty (inr (inl (fence, on_its_way))) = inr (inl (fence, underway d a honesty on_its_way))
    goes_on d a t honesty (inr (inr (inl stopped))) = inr (inr (inl stopped))
    goes_on d a t honesty (inr (inr (inr cut))) = inr (inr (inr cut))

    entry : (copy : Copy) → IsFaithfulEntry s copy → IsFaithfulEntry (record s { messages = messages }) copy
    entry copy fact in_use =
        let old = fact in_use in (
          old.0,
          backed-still (in_both_stages (s.attachment_of copy.device)) s.history (EntryGoes s copy.device copy.page) (EntryGoes (record s { messages = messages }) copy.device copy.page) copy
              (λ t goes. goes_on copy.device copy.page t (honest (s.kind_of copy.device) (faithful.order.cached copy.device old.0)) goes) old.1,
        )

    by : (copy : Copy) (epoch : ℕ) → epoch ≡ s.epoch_of copy.device → MayBeSent s (Answer epoch copy) ⊎ Contains s.messages (Answer epoch copy) → IsFaithfulEntry (record s { messages = messages }) copy
    by copy epoch now (inr old) = entry copy (faithful.answers epoch copy old now)
    by copy epoch now (inl (asked, has, inl walked)) = λ in_use. (has, (walked.0, walked.1, walked.2, inl walked.3))
    by copy epoch now (inl (asked, has, inr there)) = entry copy (λ in_use. (
      has,
      backed-still (in_both_stages (s.attachment_of copy.device)) s.history (TranslationGoes s copy.device copy.page) (EntryGoes s copy.device copy.page) copy
          (λ t goes. entry-translation s copy.device copy.page t in_use has goes) (faithful.translations copy there),
    ))

-- An answer of the device's epoch is delivered, and its page is kept; others may go.
pub faithful_answer_kept : (s : Scene) (epoch : ℕ) (copy : Copy) (kept : List Copy) → IsFaithful s → Contains s.messages (Answer epoch copy) → epoch ≡ s.epoch_of copy.device
    → AreAmongWith kept copy s.entries → IsFaithful (record s { entries = kept })
faithful_answer_kept s epoch copy kept faithful there now among = record {
  order = order-copies s s.translations s.contexts kept s.epoch_of s.messages faithful.order;
  numbers = faithful.numbers;
  translations = faithful.translations;
  accesses = faithful.accesses;
  contexts = faithful.contexts;
  entries = λ one is. by one (among one is);
  answers = faithful.answers;
}
  where
    by : (one : Copy) → (one ≡ copy) ⊎ Contains s.entries one → IsFaithfulEntry s one
    by one (inl same) = subst (IsFaithfulEntry s) (sym same) (faithful.answers epoch copy there now)
    by one (inr old) = faithful.entries one old

raised_le : (kind_of : ℕ → Option DeviceKind) (epoch_of : ℕ → ℕ) (device d n : ℕ) → n ≤ epoch_of d → n ≤ raised kind_of epoch_of device d
raised_le kind_of epoch_of device d n within = by ((device == d) && caches_translations (kind_of d))
  where
    by : (b : Bool) → n ≤ (if b then epoch_of d + 1 else epoch_of d)
    by true = omega (arith, within)
    by false = within

-- an answer of the raised epoch is another device's
pub raised_other : (kind_of : ℕ → Option DeviceKind) (epoch_of : ℕ → ℕ) (device d n : ℕ) → (n ≤ epoch_of d) × (caches_translations (kind_of d) ≡ true)
    → n ≡ raised kind_of epoch_of device d → ((device == d) ≡ false) × (n ≡ epoch_of d)
raised_other kind_of epoch_of device d n (within, caches) now = by (device == d) refl (subst (λ b. n ≡ (if (device == d) && b then epoch_of d + 1 else epoch_of d)) caches now)
  where
    by : (b : Bool) → (device == d) ≡ b → n ≡ (if b && true then epoch_of d + 1 else epoch_of d) → ((device == d) ≡ false) × (n ≡ epoch_of d)
    by true e x = absurd (omega (arith, within, x))
    by false e x = (e, x)

-- A device is reset: its cache is empty, and its epoch raised.
pub faithful_reset : (s : Scene) (device : ℕ) (left : List Copy) → IsFaithful s → ((copy : Copy) → Contains left copy → Contains s.entries copy × ((device == copy.device) ≡ false))
    → IsFaithful (record s { entries = left; epoch_of = raised s.kind_of s.epoch_of device })
faithful_reset s device left faithful kept = record {
  order = order-copies s s.translations s.contexts left (raised s.kind_of s.epoch_of device) s.messages faithful.order;
  numbers = record {
    asked = λ d epoch page there honesty. raised_le s.kind_of s.epoch_of device d epoch (faithful.numbers.asked d epoch page there honesty);
    answered = λ epoch copy there. let old = faithful.numbers.answered epoch copy there in (raised_le s.kind_of s.epoch_of device copy.device epoch old.0, old.1);
    opened = faithful.numbers.opened;
    requested = faithful.numbers.requested;
    done = faithful.numbers.done;
  };
  translations = faithful.translations;
  accesses = faithful.accesses;
  contexts = faithful.contexts;
  entries = λ copy there. faithful.entries copy (kept copy there).0;
  answers = λ epoch copy there now.
      faithful.answers epoch copy there (raised_other s.kind_of s.epoch_of device copy.device epoch (faithful.numbers.answered epoch copy there) now).1;
}

-- An invalidation is delivered: the device drops what it covers, raises its epoch, and says that it is done.
pub faithful_invalidated : (s : Scene) (slot : Invalidation) (extent : Extent) (left : List Copy) (messages : List AtsMessage) → IsFaithful s → Contains s.messages (InvalidateRequest slot extent)
    → ((copy : Copy) → Contains left copy → Contains s.entries copy × (((slot.device == copy.device) && extent_covers extent copy.page) ≡ false))
    → ((message : AtsMessage) → Contains messages message → (message ≡ InvalidateCompletion slot) ⊎ Contains s.messages message)
    → IsFaithful (record s { entries = left; epoch_of = raised s.kind_of s.epoch_of slot.device; messages = messages })
faithful_invalidated s slot extent left messages faithful sent kept from = record {
  order = order-copies s s.translations s.contexts left (raised s.kind_of s.epoch_of slot.device) messages faithful.order;
  numbers = record {
    asked = λ d epoch page there honesty. elim (from (Question d epoch page) there) [
      | inl same ↦ (let never : Question d epoch page ≡ InvalidateCompletion slot = same in cc)
      | inr old ↦ raised_le s.kind_of s.epoch_of slot.device d epoch (faithful.numbers.asked d epoch page old honesty)
    ];
    answered = λ epoch copy there. elim (from (Answer epoch copy) there) [
      | inl same ↦ (let never : Answer epoch copy ≡ InvalidateCompletion slot = same in cc)
      | inr old ↦ (let before = faithful.numbers.answered epoch copy old in (raised_le s.kind_of s.epoch_of slot.device copy.device epoch before.0, before.1))
    ];
    opened = faithful.numbers.opened;
    requested = λ one r there. elim (from (InvalidateRequest one r) there) [ inl same ↦ (let never : InvalidateRequest one r ≡ InvalidateCompletion slot = same in cc) | inr old ↦ faithful.numbers.requested one r old ];
    done = λ one there honesty. elim (from (InvalidateCompletion one) there) [
      | inl same ↦ (let is : one ≡ slot = cc in subst (λ (x : Invalidation). x.serial ≤ s.last_serial) (sym is) (faithful.numbers.requested slot extent sent))
      | inr old ↦ faithful.numbers.done one old honesty
    ];
  };
  translations = faithful.translations;
  accesses = faithful.accesses;
  contexts = faithful.contexts;
  entries = λ copy there. entry copy (kept copy there).1 (faithful.entries copy (kept copy there).0);
  answers = λ epoch copy there now. elim (from (Answer epoch copy) there) [
    | inl same ↦ (let never : Answer epoch copy ≡ InvalidateCompletion slot = same in cc)
    | inr old ↦ (
        let other = raised_other s.kind_of s.epoch_of slot.device copy.device epoch (faithful.numbers.answered epoch copy old) now in
        entry copy (rw other.0 refl) (faithful.answers epoch copy old other.1)
        )
  ];
}
  where
    New : Scene
    New = record s { entries = left; epoch_of = raised s.kind_of s.epoch_of slot.device; messages = messages }

    underway : (d a : ℕ) → ((slot.device == d) && extent_covers extent a) ≡ false → IsUnderway s d a → IsUnderway New d a
    underway d a uncovered (serial, opened, undone, covered) = (
      serial,
      opened,
      (λ there. elim (from (InvalidateCompletion (record { serial = serial; device = d })) there) [
        | inl same ↦ (
            let is : record { serial = serial; device = d } ≡ slot = cc in
            let in_extent : extent_covers extent a ≡ true = covered extent (subst (λ x. Contains s.messages (InvalidateRequest x extent)) (sym is) sent) in
            let its : d ≡ slot.device = ap (λ (x : Invalidation). x.device) is in
            let own : (slot.device == d) ≡ true = subst (λ x. (slot.device == x) ≡ true) (sym its) (same_number slot.device) in
            let none : ((slot.device == d) && extent_covers extent a) ≡ true = rw (own, in_extent) refl in
            absurd (false≢true (sym uncovered ∙ none))
            )
        | inr old ↦ undone old
      ]),
      (λ r there. elim (from (InvalidateRequest (record { serial = serial; device = d }) r) there) [
        | inl same ↦ (let never : InvalidateRequest (record { serial = serial; device = d }) r ≡ InvalidateCompletion slot = same in cc)
        | inr old ↦ covered r old
      ]),
    )

    goes_on : (d a t : ℕ) → ((slot.device == d) && extent_covers extent a) ≡ false → EntryGoes s d a t → EntryGoes New d a t
    goes_on d a t uncovered (inl reply) = inl reply
    goes_on d a t uncovered (inr (inl (fence, on_its_way))) = inr (inl (fence, underway d a uncovered on_its_way))
    goes_on d a t uncovered (inr (inr (inl stopped))) = inr (inr (inl stopped))
    goes_on d a t uncovered (inr (inr (inr cut))) = inr (inr (inr cut))

    entry : (copy : Copy) → ((slot.device == copy.device) && extent_covers extent copy.page) ≡ false → IsFaithfulEntry s copy → IsFaithfulEntry New copy
    entry copy uncovered fact in_use =
        let old = fact in_use in (
          old.0,
          backed-still (in_both_stages (s.attachment_of copy.device)) s.history (EntryGoes s copy.device copy.page) (EntryGoes New copy.device copy.page) copy
              (λ t goes. goes_on copy.device copy.page t uncovered goes) old.1,
        )
