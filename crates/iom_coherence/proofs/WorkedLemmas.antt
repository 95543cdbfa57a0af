-- The worked transitions, one after another.
use Rattle.std.proofs.Common.{◌≡◌, ◌+◌, inl, inr, true, [], ◌∷◌, ◌++◌, Contains, None, Some, refl, sym, subst, arith}
use Rattle.iom_base.specs.declared.access.AccessKind.TheVariants.{Write}
use Rattle.iom_ledger.specs.declared.entry.HistoryEntry.TheVariants.{Granted, Released, Confirmed}
use Rattle.iom_coherence.proofs.ListLemmas.{cons_cases, contains_head, in_none}
use Rattle.iom_coherence.specs.Deliveries.{MayBeSent, raised}
use Rattle.iom_coherence.specs.DriverCalls.{attachment_once_confirmed, queued_by_release, released_extent, attachments_with, with_kind, with_ticket}
use Rattle.iom_coherence.specs.Fetches.{next_invalidation}
use Rattle.iom_coherence.specs.Laws.{scene_at_power_on}
use Rattle.iom_coherence.specs.Transitions.{Accept, CarryMessages, CompleteFence, Confirm, DeliverAnswer, DeliverCompletion, DeliverRequest, FetchAtsInval, FetchIotinval, Grant, KeepContext, KeepTranslation, Make, OccurInTurn, Occurs, TakeSnapshot}
use Rattle.iom_coherence.specs.Queue.{Fence, Invalidate, OnePage}
use Rattle.iom_coherence.specs.Scene.{Answer, InvalidateCompletion, InvalidateRequest, Question, Scene}
use Rattle.iom_coherence.specs.Worked.{StaleWritesOccur, both_rights, first_invalidation, first_write, its_end, remembered, stale_write}
use Rattle.iom_machine.specs.declared.state.Attachment.TheVariants.{Attached}
use Rattle.iom_base.specs.declared.device_kind.DeviceKind.TheVariants.{Ats}
use Rattle.iom_base.specs.declared.mode.Mode.TheVariants.{First}
use Rattle.iom_base.specs.declared.size.Size.TheVariants.{Sv39}

-- the only element of a list
only : {X : Type 0} (x y : X) → Contains (x ∷ []) y → y ≡ x
only x y c = elim (cons_cases x [] y c) [ inl same ↦ sym same | inr none ↦ absurd (in_none y none) ]

abbrev plugged : Scene
plugged = record scene_at_power_on { kind_of = with_kind scene_at_power_on.kind_of 2 Ats }

abbrev attached : Scene
attached = record plugged { attachment_of = attachments_with plugged.attachment_of 2 (Attached (First Sv39) true) }

abbrev granted_page : Scene
granted_page = record attached { history = Granted 2 3 5 both_rights ∷ attached.history }

abbrev asked : Scene
asked = record granted_page { messages = Question 2 0 3 ∷ [] }

abbrev with_context : Scene
with_context = record asked { contexts = 2 ∷ [] }

abbrev with_translation : Scene
with_translation = record with_context { translations = remembered ∷ [] }

abbrev answered : Scene
answered = record with_translation { messages = Answer 0 remembered ∷ [] }

abbrev with_entry : Scene
with_entry = record answered { entries = remembered ∷ [] }

abbrev quiet : Scene
quiet = record with_entry { messages = [] }

abbrev released_page : Scene
released_page = record (with_ticket quiet (queued_by_release 2 (released_extent (First Sv39) 3) true)) { history = Released 2 3 (quiet.given + 1) ∷ quiet.history }

abbrev stale : Scene
stale = record released_page { accepted = released_page.accepted + 1; in_flight = first_write ∷ [] }

abbrev dropped : Scene
dropped = record stale { waiting = Invalidate 2 (OnePage 3) ∷ Fence 1 ∷ []; translations = [] }

abbrev requested : Scene
requested = record dropped {
  waiting = Fence 1 ∷ [];
  slots = dropped.slots ++ next_invalidation dropped 2 ∷ [];
  last_serial = dropped.last_serial + 1;
  messages = InvalidateRequest first_invalidation (OnePage 3) ∷ [];
}

abbrev invalidated : Scene
invalidated = record requested {
  entries = [];
  epoch_of = raised requested.kind_of requested.epoch_of 2;
  messages = InvalidateCompletion first_invalidation ∷ [];
}

abbrev closed : Scene
closed = record invalidated { slots = []; messages = [] }

abbrev counted : Scene
counted = record closed { fence_snapshot = Some (record { fence = 1; accepted = closed.accepted }) }

abbrev made : Scene
made = record counted { in_flight = [] }

abbrev done : Scene
done = record made { waiting = []; completed = 1; fence_snapshot = None }

abbrev over : Scene
over = record done {
  history = Confirmed 1 ∷ done.history;
  pending = [];
  confirmed = 1;
  attachment_of = λ d. attachment_once_confirmed 1 (done.attachment_of d);
}

ask_is_carried : Occurs CarryMessages granted_page asked
ask_is_carried = (
  Question 2 0 3 ∷ [],
  (λ message there. inl (subst (MayBeSent granted_page) (sym (only (Question 2 0 3) message there)) (λ honesty. omega arith))),
  refl,
)

answer_is_carried : Occurs CarryMessages with_translation answered
answer_is_carried = (
  Answer 0 remembered ∷ [],
  (λ message there. inl (subst (MayBeSent with_translation) (sym (only (Answer 0 remembered) message there))
      (contains_head (Question 2 0 3) [], refl, inr (contains_head remembered [])))),
  refl,
)

answer_goes : Occurs CarryMessages with_entry quiet
answer_goes = ([], (λ message there. absurd (in_none message there)), refl)

granting_occurs : Occurs (Grant 2 3 5 both_rights) attached granted_page
granting_occurs = (refl, refl, (λ released there. in_none released there), refl)

context_is_kept : Occurs (KeepContext 2) asked with_context
context_is_kept = (2 ∷ [], refl, (λ d there. inl (only 2 d there)), refl)

translation_is_kept : Occurs (KeepTranslation remembered) with_context with_translation
translation_is_kept = (remembered ∷ [], (3, both_rights, (refl, refl), refl), (λ copy there. inl (only remembered copy there)), refl)

entry_is_kept : Occurs (DeliverAnswer remembered) answered with_entry
entry_is_kept = (0, remembered ∷ [], contains_head (Answer 0 remembered) [], refl, (λ copy there. inl (only remembered copy there)), refl)

write_is_accepted : Occurs (Accept remembered Write) released_page stale
write_is_accepted =
    (first_write ∷ [], inr (inr (contains_head remembered [], λ q. contains_head 2 [])), refl, (λ access there. inl (only first_write access there)), refl)

stale_write_occurs : OccurInTurn scene_at_power_on stale_write stale
stale_write_occurs = (
  plugged,
  (refl, refl),
  (
    attached,
    (refl, (λ yes. refl), refl),
    (
      granted_page,
      granting_occurs,
      (
        asked,
        ask_is_carried,
        (
          with_context,
          context_is_kept,
          (
            with_translation,
            translation_is_kept,
            (
              answered,
              answer_is_carried,
              (
                with_entry,
                entry_is_kept,
                (
                  quiet,
                  answer_goes,
                  (released_page, (First Sv39, true, refl, refl), (stale, write_is_accepted, refl)),
                ),
              ),
            ),
          ),
        ),
      ),
    ),
  ),
)

iotinval_is_fetched : Occurs (FetchIotinval 2 (OnePage 3)) stale dropped
iotinval_is_fetched = (dropped.waiting, [], refl, (λ copy there. absurd (in_none copy there)), refl)

ats_inval_is_fetched : Occurs (FetchAtsInval 2 (OnePage 3)) dropped requested
ats_inval_is_fetched = (requested.waiting, requested.messages, refl, (λ message there. inl (only (InvalidateRequest first_invalidation (OnePage 3)) message there)), refl)

request_is_delivered : Occurs (DeliverRequest first_invalidation (OnePage 3)) requested invalidated
request_is_delivered = (
  [],
  invalidated.messages,
  contains_head (InvalidateRequest first_invalidation (OnePage 3)) [],
  (λ copy there. absurd (in_none copy there)),
  (λ message there. inl (only (InvalidateCompletion first_invalidation) message there)),
  refl,
)

completion_is_delivered : Occurs (DeliverCompletion first_invalidation) invalidated closed
completion_is_delivered = (
  [],
  [],
  contains_head (InvalidateCompletion first_invalidation) [],
  (λ slot there. absurd (in_none slot there)),
  (λ slot there. inl (only first_invalidation slot there)),
  (λ message there. absurd (in_none message there)),
  refl,
)

snapshot_is_taken : Occurs (TakeSnapshot 1) closed counted
snapshot_is_taken = ([], refl, (λ slot there. in_none slot there), refl, refl)

write_is_made : Occurs Make counted made
write_is_made = ([], (λ access there. absurd (in_none access there)), refl)

fence_is_done : Occurs (CompleteFence 1) made done
fence_is_done = ([], 1, refl, refl, (λ access there. absurd (in_none access there)), refl)

ticket_is_confirmed : Occurs (Confirm 1) done over
ticket_is_confirmed = (1, [], refl, omega arith, refl)

its_end_occurs : OccurInTurn stale its_end over
its_end_occurs = (
  dropped,
  iotinval_is_fetched,
  (
    requested,
    ats_inval_is_fetched,
    (
      invalidated,
      request_is_delivered,
      (
        closed,
        completion_is_delivered,
        (counted, snapshot_is_taken, (made, write_is_made, (done, fence_is_done, (over, ticket_is_confirmed, refl)))),
      ),
    ),
  ),
)

pub stale_writes_occur : StaleWritesOccur
stale_writes_occur = (stale, over, stale_write_occurs, (refl, contains_head first_write []), its_end_occurs, refl)
