-- Whatever occurs, all facts stay; and what follows from them.
use Rattle.std.proofs.Common.{◌≡◌, ℕ, Bool, true, false, ◌==◌, List, [], ◌∷◌, ◌++◌, Option, None, Some, if◌then◌else◌, refl, sym, ap, ◌∙◌, subst, arith}
use Rattle.std.proofs.lemmas.Bool.{false≢true, eqb-true}
use Rattle.iom_coherence.proofs.AttachLemmas.{faithful_attached, faithful_revived}
use Rattle.iom_coherence.proofs.CacheLemmas.{faithful_answer_kept, faithful_context_kept, faithful_invalidated, faithful_messages, faithful_reset, faithful_translation_kept}
use Rattle.iom_coherence.proofs.ConfirmLemmas.{faithful_confirmed}
use Rattle.iom_coherence.proofs.LeaveLemmas.{faithful_detached, faithful_quarantined}
use Rattle.iom_coherence.proofs.ListLemmas.{in_none}
use Rattle.iom_coherence.proofs.QueueLemmas.{faithful_context_dropped, faithful_fence_done, faithful_slot_opened, faithful_snapshot, faithful_translations_dropped}
use Rattle.iom_coherence.proofs.RestartLemmas.{faithful_closed, faithful_restarted, faithful_timed_out}
use Rattle.iom_coherence.proofs.SourceLemmas.{accesses_may, faithful_accepted, faithful_granted, faithful_made}
use Rattle.iom_coherence.proofs.TicketLemmas.{faithful_released}
use Rattle.iom_coherence.proofs.ToComeLemmas.{Snapshotted}
use Rattle.iom_coherence.specs.Attachments.{caches_translations, may_forge}
use Rattle.iom_coherence.specs.DriverCalls.{with_kind}
use Rattle.iom_coherence.specs.Faithful.{IsFaithful}
use Rattle.iom_coherence.specs.Fetches.{next_invalidation}
use Rattle.iom_coherence.specs.Laws.{AccessesAlwaysMay, scene_after_fence}
use Rattle.iom_coherence.specs.Transitions.{Accept, Attach, CarryMessages, CompleteFence, Confirm, DeliverAnswer, DeliverCompletion, DeliverRequest, Detach, FetchAtsInval, FetchIodir, FetchIotinval, Grant, KeepContext, KeepTranslation, Make, OccurInTurn, Transition, Occurs, Plug, Quarantine, Release, Reset, Restart, Revive, TakeSnapshot, TimeOut}
use Rattle.iom_coherence.specs.Scene.{Answer, InvalidateCompletion, InvalidateRequest, Question, Scene, FenceSnapshot}
use Rattle.iom_base.specs.declared.device_kind.DeviceKind.{DeviceKind}

-- power-on, with all numbers of fences up to one used up
pub faithful_after_fence : (number : ℕ) → IsFaithful (scene_after_fence number)
faithful_after_fence number = record {
  order = record {
    fences = omega arith;
    tickets = omega arith;
    confirmed = λ ticket never. absurd (false≢true never);
    lingering = λ device page ticket pair there. absurd (in_none (ticket, pair) there);
    apart = λ device page ticket held released holds there. in_none (ticket, released) there;
    counted = λ flight there. absurd (in_none flight there);
    snapshot_taken = λ fence fence_snapshot is. let none : ◌≡◌ {A = Option FenceSnapshot} None (Some (Snapshotted fence fence_snapshot)) = is in cc;
    grants = λ device. ((λ page. refl), λ page ticket pair there. in_none (ticket, pair) there);
    cached = λ device has. absurd (false≢true has);
  };
  numbers = record {
    asked = λ device epoch page there honesty. absurd (in_none (Question device epoch page) there);
    answered = λ epoch copy there. absurd (in_none (Answer epoch copy) there);
    opened = λ slot there. absurd (in_none slot there);
    requested = λ slot extent there. absurd (in_none (InvalidateRequest slot extent) there);
    done = λ slot there honesty. absurd (in_none (InvalidateCompletion slot) there);
  };
  translations = λ copy there. absurd (in_none copy there);
  accesses = λ flight there. absurd (in_none flight there);
  contexts = λ device there. absurd (in_none device there);
  entries = λ copy there. absurd (in_none copy there);
  answers = λ epoch copy there now. absurd (in_none (Answer epoch copy) there);
}

-- A device is plugged in, of which there was nothing.
faithful_plugged : (s : Scene) (device : ℕ) (kind : DeviceKind) → IsFaithful s → s.kind_of device ≡ None → IsFaithful (record s { kind_of = with_kind s.kind_of device kind })
faithful_plugged s device kind faithful none = record {
  order = record {
    fences = faithful.order.fences;
    tickets = faithful.order.tickets;
    confirmed = faithful.order.confirmed;
    lingering = faithful.order.lingering;
    apart = faithful.order.apart;
    counted = faithful.order.counted;
    snapshot_taken = faithful.order.snapshot_taken;
    grants = faithful.order.grants;
    cached = λ d has. caches d (faithful.order.cached d has);
  };
  numbers = record {
    asked = λ d epoch page there honesty. faithful.numbers.asked d epoch page there (honest_before d (device == d) refl honesty);
    answered = λ epoch copy there. let old = faithful.numbers.answered epoch copy there in (old.0, caches copy.device old.1);
    opened = faithful.numbers.opened;
    requested = faithful.numbers.requested;
    done = λ slot there honesty. faithful.numbers.done slot there (honest_before slot.device (device == slot.device) refl honesty);
  };
  contexts = faithful.contexts;
  translations = faithful.translations;
  entries = faithful.entries;
  answers = faithful.answers;
  accesses = faithful.accesses;
}
  where
    -- a device that has a cache was there before
    caches : (d : ℕ) → caches_translations (s.kind_of d) ≡ true → caches_translations (with_kind s.kind_of device kind d) ≡ true
    caches d has = by (device == d) refl
      where
        by : (b : Bool) → (device == d) ≡ b → caches_translations (if b then Some kind else s.kind_of d) ≡ true
        by true e = absurd (false≢true (sym (ap caches_translations (subst (λ x. s.kind_of x ≡ None) (eqb-true device d e) none)) ∙ has))
        by false e = has

    -- what isn't there forges nothing
    honest_before : (d : ℕ) (b : Bool) → (device == d) ≡ b → may_forge (if b then Some kind else s.kind_of d) ≡ false → may_forge (s.kind_of d) ≡ false
    honest_before d true e honesty = ap may_forge (subst (λ x. s.kind_of x ≡ None) (eqb-true device d e) none)
    honest_before d false e honesty = honesty

-- what is so of the one scene is so of the other
so : (new is : Scene) → new ≡ is → IsFaithful is → IsFaithful new
so new is same faithful = subst IsFaithful (sym same) faithful

pub transitions_keep_facts : (transition : Transition) (old new : Scene) → IsFaithful old → Occurs transition old new → IsFaithful new
transitions_keep_facts (Plug device kind) old new faithful (none, is) = so new _ is (faithful_plugged old device kind faithful none)
transitions_keep_facts (Attach device mode ats) old new faithful (at, caches, is) = so new _ is (faithful_attached old device mode ats faithful at caches)
transitions_keep_facts (Grant device page frame rights) old new faithful (at, none, free, is) = so new _ is (faithful_granted old device page frame rights faithful at none free)
transitions_keep_facts (Release device page) old new faithful (mode, ats, at, is) = so new _ is (faithful_released old device page mode ats faithful at)
transitions_keep_facts (Detach device) old new faithful (mode, ats, at, holds, lingers, is) = so new _ is (faithful_detached old device mode ats faithful at holds lingers)
transitions_keep_facts (Quarantine device) old new faithful (mode, ats, at, is) = so new _ is (faithful_quarantined old device mode ats faithful at)
transitions_keep_facts (Revive device) old new faithful (ticket, mode, ats, left, at, over, kept, is) = so new _ is (faithful_revived old device ticket mode ats left faithful at over kept)
transitions_keep_facts (Restart devices) old new faithful (known, is) = so new _ is (faithful_restarted old devices faithful known)
transitions_keep_facts (Confirm ticket) old new faithful (fence, later, oldest, done, is) = so new _ is (faithful_confirmed old ticket fence later faithful oldest done)
transitions_keep_facts (KeepContext device) old new faithful (kept, at, among, is) = so new _ is (faithful_context_kept old device kept faithful at among)
transitions_keep_facts (KeepTranslation copy) old new faithful (kept, holds, among, is) = so new _ is (faithful_translation_kept old copy kept faithful holds among)
transitions_keep_facts (Accept copy kind) old new faithful (in_flight, source, allowed, among, is) = so new _ is (faithful_accepted old copy kind in_flight faithful source allowed among)
transitions_keep_facts Make old new faithful (left, among, is) = so new _ is (faithful_made old left faithful among)
transitions_keep_facts (FetchIotinval device extent) old new faithful (later, left, head, dropped, is) = so new _ is (faithful_translations_dropped old device extent later left faithful head dropped)
transitions_keep_facts (FetchIodir device) old new faithful (later, left, head, dropped, is) = so new _ is (faithful_context_dropped old device later left faithful head dropped)
transitions_keep_facts (FetchAtsInval device extent) old new faithful (later, messages, head, sent, is) =
    so new _ is (faithful_slot_opened old device extent later (old.slots ++ next_invalidation old device ∷ []) messages faithful head refl sent)
transitions_keep_facts (TakeSnapshot fence) old new faithful (later, head, closed, fetches, is) = so new _ is (faithful_snapshot old fence later faithful head closed fetches)
transitions_keep_facts (CompleteFence fence) old new faithful (later, accepted, head, taken, made, is) = so new _ is (faithful_fence_done old fence accepted later faithful head taken made)
transitions_keep_facts TimeOut old new faithful is = so new _ is (faithful_timed_out old faithful)
transitions_keep_facts CarryMessages old new faithful (messages, sent, is) = so new _ is (faithful_messages old messages faithful sent)
transitions_keep_facts (DeliverAnswer copy) old new faithful (epoch, kept, there, now, among, is) = so new _ is (faithful_answer_kept old epoch copy kept faithful there now among)
transitions_keep_facts (DeliverRequest slot extent) old new faithful (left, messages, there, kept, sent, is) = so new _ is (faithful_invalidated old slot extent left messages faithful there kept sent)
transitions_keep_facts (DeliverCompletion slot) old new faithful (slots, messages, there, among, others, fewer, is) = so new _ is (faithful_closed old slot slots messages faithful there among others fewer)
transitions_keep_facts (Reset device) old new faithful (left, kept, is) = so new _ is (faithful_reset old device left faithful kept)

pub turns_keep_facts : (transitions : List Transition) (old new : Scene) → IsFaithful old → OccurInTurn old transitions new → IsFaithful new
turns_keep_facts [] old new faithful is = so new old is faithful
turns_keep_facts (first ∷ others) old new faithful (between, now, later) = turns_keep_facts others between new (transitions_keep_facts first old between faithful now) later

pub accesses_always_may : AccessesAlwaysMay
accesses_always_may number transitions scene run = accesses_may scene (turns_keep_facts transitions (scene_after_fence number) scene (faithful_after_fence number) run)
