-- The worked revival, one transition after another.
use Rattle.std.proofs.Common.{◌==◌, ◌∙◌, Bool, ◌≡◌, ℕ, ◌+◌, true, false, List, [], ◌∷◌, ◌++◌, Contains, None, Some, refl, sym, subst, arith}
use Rattle.std.proofs.lemmas.Bool.{false≢true, eqb-true}
use Rattle.iom_ledger.specs.declared.entry.HistoryEntry.TheVariants.{Granted, Released, AllReleased, Confirmed}
use Rattle.iom_coherence.proofs.ListLemmas.{contains_head, in_none}
use Rattle.iom_coherence.proofs.ToComeLemmas.{Waits}
use Rattle.iom_coherence.specs.Attachments.{IsKnown}
use Rattle.iom_coherence.specs.Deliveries.{raised}
use Rattle.iom_coherence.specs.DriverCalls.{leave_commands, attachment_once_confirmed, queued_by_release, released_extent, restarted, attachments_with, with_kind, with_ticket}
use Rattle.iom_coherence.specs.Fetches.{next_invalidation}
use Rattle.iom_coherence.specs.Laws.{scene_at_power_on}
use Rattle.iom_coherence.specs.Transitions.{CompleteFence, FetchIodir, FetchIotinval, OccurInTurn, Occurs, TakeSnapshot}
use Rattle.iom_coherence.specs.Queue.{DropContext, DropTranslations, Extent, Fence, Invalidate, QueuedCommand, WholeSpace}
use Rattle.iom_coherence.specs.Scene.{PendingTicket, Scene}
use Rattle.iom_coherence.specs.Worked.{RevivalsOccur, attach_and_detach, both_rights, quarantine, revival}
use Rattle.iom_machine.specs.declared.state.Attachment.TheVariants.{Attached, Leaving, Quarantined}
use Rattle.iom_base.specs.declared.device_kind.DeviceKind.TheVariants.{Ats}
use Rattle.iom_base.specs.declared.mode.Mode.TheVariants.{Both, Second}
use Rattle.iom_base.specs.declared.size.Size.TheVariants.{Sv39, Sv48}

-- a scene after its head is fetched
abbrev Fetched : Scene → List QueuedCommand → Scene
Fetched s later = record s { waiting = later }

-- a scene whose fence has taken its snapshot
abbrev WithSnapshot : Scene → ℕ → Scene
WithSnapshot s fence = record s { fence_snapshot = Some (record { fence = fence; accepted = s.accepted }) }

-- a scene whose only fence is done
abbrev Done : Scene → ℕ → Scene
Done s fence = record s { waiting = []; completed = fence; fence_snapshot = None }

-- a scene whose ticket is confirmed
abbrev Over : Scene → ℕ → List PendingTicket → Scene
Over s ticket later = record s {
  history = Confirmed ticket ∷ s.history;
  pending = later;
  confirmed = ticket;
  attachment_of = λ d. attachment_once_confirmed ticket (s.attachment_of d);
}

-- The detach.

abbrev plugged : Scene
plugged = record scene_at_power_on { kind_of = with_kind scene_at_power_on.kind_of 2 Ats }

abbrev attached : Scene
attached = record plugged { attachment_of = attachments_with plugged.attachment_of 2 (Attached (Second Sv39) false) }

abbrev leaving : Scene
leaving = record (with_ticket attached (leave_commands 2)) { attachment_of = attachments_with attached.attachment_of 2 (Leaving (attached.given + 1) (Second Sv39) false) }

abbrev reset : Scene
reset = record leaving { entries = []; epoch_of = raised leaving.kind_of leaving.epoch_of 2 }

abbrev without_context : Scene
without_context = Fetched reset (DropTranslations 2 WholeSpace ∷ Fence 1 ∷ [])

abbrev without_translations : Scene
without_translations = Fetched without_context (Fence 1 ∷ [])

abbrev counted : Scene
counted = WithSnapshot without_translations 1

abbrev done : Scene
done = Done counted 1

abbrev gone : Scene
gone = Over done 1 []

-- nothing is in a cache, so nothing is dropped
context_goes : (s : Scene) (device : ℕ) (later : List QueuedCommand) → s.waiting ≡ DropContext device ∷ later → s.contexts ≡ [] → Occurs (FetchIodir device) s (Fetched s later)
context_goes s device later head none = (later, s.contexts, head, (λ d there. absurd (in_none d (subst (λ l. Contains l d) none there))), refl)

translations_go : (s : Scene) (device : ℕ) (extent : Extent) (later : List QueuedCommand) → s.waiting ≡ DropTranslations device extent ∷ later → s.translations ≡ []
    → Occurs (FetchIotinval device extent) s (Fetched s later)
translations_go s device extent later head none = (later, s.translations, head, (λ copy there. absurd (in_none copy (subst (λ l. Contains l copy) none there))), refl)

-- nothing is in flight, so the fence is done
fence_is_done : (s : Scene) (fence : ℕ) → s.waiting ≡ Fence fence ∷ [] → s.in_flight ≡ [] → Occurs (CompleteFence fence) (WithSnapshot s fence) (Done (WithSnapshot s fence) fence)
fence_is_done s fence head none = ([], s.accepted, head, refl, (λ access there. absurd (in_none access (subst (λ l. Contains l access) none there))), refl)

snapshot_is_taken : (s : Scene) (fence : ℕ) → s.waiting ≡ Fence fence ∷ [] → s.slots ≡ [] → s.is_stopped ≡ false → Occurs (TakeSnapshot fence) s (WithSnapshot s fence)
snapshot_is_taken s fence head closed fetches = ([], head, (λ slot there. in_none slot (subst (λ l. Contains l slot) closed there)), fetches, refl)

detach_occurs : OccurInTurn scene_at_power_on attach_and_detach gone
detach_occurs = (
  plugged,
  (refl, refl),
  (
    attached,
    (refl, (λ yes. absurd (false≢true yes)), refl),
    (
      leaving,
      (Second Sv39, false, refl, (λ page. refl), (λ page ticket pair there. in_none (ticket, pair) there), refl),
      (
        reset,
        ([], (λ copy there. absurd (in_none copy there)), refl),
        (
          without_context,
          context_goes reset 2 (DropTranslations 2 WholeSpace ∷ Fence 1 ∷ []) refl refl,
          (
            without_translations,
            translations_go without_context 2 WholeSpace (Fence 1 ∷ []) refl refl,
            (
              counted,
              snapshot_is_taken without_translations 1 refl refl refl,
              (
                done,
                fence_is_done without_translations 1 refl refl,
                (gone, (1, [], refl, omega arith, refl), refl),
              ),
            ),
          ),
        ),
      ),
    ),
  ),
)

-- The quarantine.

abbrev attached_again : Scene
attached_again = record gone { attachment_of = attachments_with gone.attachment_of 2 (Attached (Both Sv48) true) }

abbrev granted_page : Scene
granted_page = record attached_again { history = Granted 2 3 5 both_rights ∷ attached_again.history }

abbrev released_page : Scene
released_page = record (with_ticket granted_page (queued_by_release 2 (released_extent (Both Sv48) 3) true)) { history = Released 2 3 (granted_page.given + 1) ∷ granted_page.history }

abbrev dropped : Scene
dropped = Fetched released_page (Invalidate 2 WholeSpace ∷ Fence 2 ∷ [])

-- the request is lost
abbrev requested : Scene
requested = record dropped { waiting = Fence 2 ∷ []; slots = dropped.slots ++ next_invalidation dropped 2 ∷ []; last_serial = dropped.last_serial + 1; messages = [] }

abbrev quarantined : Scene
quarantined = record (with_ticket requested (leave_commands 2)) {
  history = AllReleased 2 (requested.given + 1) ∷ requested.history;
  attachment_of = attachments_with requested.attachment_of 2 (Quarantined (requested.given + 1) (Both Sv48) true);
}

quarantine_occurs : OccurInTurn gone quarantine quarantined
quarantine_occurs = (
  attached_again,
  (refl, (λ yes. refl), refl),
  (
    granted_page,
    (refl, refl, (λ released there. in_none released there), refl),
    (
      released_page,
      (Both Sv48, true, refl, refl),
      (
        dropped,
        translations_go released_page 2 WholeSpace (Invalidate 2 WholeSpace ∷ Fence 2 ∷ []) refl refl,
        (requested, (Fence 2 ∷ [], [], refl, (λ message there. absurd (in_none message there)), refl), (quarantined, (Both Sv48, true, refl, refl), refl)),
      ),
    ),
  ),
)

-- The revival.

abbrev stopped : Scene
stopped = record quarantined { slots = []; fence_snapshot = None; is_stopped = true }

abbrev begun_anew : Scene
begun_anew = restarted stopped (2 ∷ [])

abbrev context_dropped : Scene
context_dropped = Fetched begun_anew (DropTranslations 2 WholeSpace ∷ Fence 4 ∷ [])

abbrev all_dropped : Scene
all_dropped = Fetched context_dropped (Fence 4 ∷ [])

abbrev all_done : Scene
all_done = Done (WithSnapshot all_dropped 4) 4

abbrev first_over : Scene
first_over = Over all_done 2 (Waits 3 4 ∷ [])

abbrev both_over : Scene
both_over = Over first_over 3 []

abbrev revived : Scene
revived = record both_over {
  entries = [];
  epoch_of = raised both_over.kind_of both_over.epoch_of 2;
  attachment_of = attachments_with both_over.attachment_of 2 (Attached (Both Sv48) true);
}

-- no other device is known
two_is_known : (d : ℕ) → IsKnown (stopped.attachment_of d) → Contains (2 ∷ []) d
two_is_known d is_known = by (2 == d) refl
  where
    by : (b : Bool) → (2 == d) ≡ b → Contains (2 ∷ []) d
    by true e = subst (λ x. Contains (2 ∷ []) x) (eqb-true 2 d e) (contains_head 2 [])
    by false e = absurd (false≢true (sym is_known ∙ rw e refl))

revival_occurs : OccurInTurn quarantined revival revived
revival_occurs = (
  stopped,
  refl,
  (
    begun_anew,
    (two_is_known, refl),
    (
      context_dropped,
      context_goes begun_anew 2 (DropTranslations 2 WholeSpace ∷ Fence 4 ∷ []) refl refl,
      (
        all_dropped,
        translations_go context_dropped 2 WholeSpace (Fence 4 ∷ []) refl refl,
        (
          WithSnapshot all_dropped 4,
          snapshot_is_taken all_dropped 4 refl refl refl,
          (
            all_done,
            fence_is_done all_dropped 4 refl refl,
            (
              first_over,
              (4, Waits 3 4 ∷ [], refl, omega arith, refl),
              (
                both_over,
                (4, [], refl, omega arith, refl),
                (revived, (3, Both Sv48, true, [], refl, omega arith, (λ copy there. absurd (in_none copy there)), refl), refl),
              ),
            ),
          ),
        ),
      ),
    ),
  ),
)

pub revivals_occur : RevivalsOccur
revivals_occur = (gone, quarantined, revived, detach_occurs, refl, quarantine_occurs, refl, revival_occurs, refl)
