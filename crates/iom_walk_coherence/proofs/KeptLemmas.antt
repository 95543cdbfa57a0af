-- What the driver and the command queue leave of the facts on walks.
use Rattle.std.proofs.Common.{◌≡◌, ◌≢◌, ℕ, ◌+◌, ◌≤◌, ◌⊎◌, inl, inr, Bool, true, false, ◌==◌, List, [], ◌∷◌, ◌++◌, Contains, None, if◌then◌else◌, refl, sym, ap, subst, arith}
use Rattle.std.proofs.lemmas.Bool.{false≢true, eqb-true}
use Rattle.std.proofs.lemmas.List.{append_assoc}
use Rattle.iom_base.specs.declared.mode.Mode.{Mode}
use Rattle.iom_base.specs.declared.rights.Rights.{Rights}
use Rattle.iom_ledger.specs.declared.entry.HistoryEntry.TheVariants.{AllReleased, Granted}
use Rattle.iom_ledger.specs.History.{History, held_at}
use Rattle.iom_coherence.proofs.ConfirmLemmas.{ConfirmedScene}
use Rattle.iom_coherence.proofs.LeaveLemmas.{LeftScene, QuarantinedScene, other_attachment, own_attachment}
use Rattle.iom_coherence.proofs.LedgerLemmas.{all_released, confirmed, granted, released, still}
use Rattle.iom_coherence.proofs.ListLemmas.{cons_cases, contains_map, in_none}
use Rattle.iom_coherence.proofs.QueueLemmas.{to_come-fetched}
use Rattle.iom_coherence.proofs.TicketLemmas.{ReleasedScene, Ticketed, fresh, same_number, to_come-new, to_come-ticket}
use Rattle.iom_coherence.proofs.ToComeLemmas.{Waits, fence_above, in_order-last, in_order-rest, ticket_within}
use Rattle.iom_coherence.specs.Attachments.{IsKnown}
use Rattle.iom_coherence.specs.DriverCalls.{all_queued_again, attachment_once_confirmed, attachments_with, leave_commands, queued_again, queued_by_release, released_extent, restarted}
use Rattle.iom_coherence.specs.Faithful.{IsOrdered}
use Rattle.iom_coherence.specs.Queue.{Extent, Fence, QueuedCommand}
use Rattle.iom_coherence.specs.Scene.{PendingTicket, Scene}
use Rattle.iom_coherence.specs.ToCome.{InOrder, TicketsRise, is_fence}
use Rattle.iom_machine.specs.declared.state.Attachment.{Attachment}
use Rattle.iom_machine.specs.declared.state.Attachment.TheVariants.{Attached, Detached, Leaving, Quarantined}
use Rattle.iom_walk_coherence.proofs.StandingLemmas.{queue-moved, stay-as, stay-known, still-stand}
use Rattle.iom_walk_coherence.specs.Faithful.{AreFaithfulWalks, TablesStay, WalksBeginAnew, begins_anew}
use Rattle.iom_walk_coherence.specs.Walks.{Walk}

-- The head is fetched, by which no walk begins anew.
pub walks_fetched : (s : Scene) (command : QueuedCommand) (later : List QueuedCommand) (walks : List Walk) → s.waiting ≡ command ∷ later → begins_anew command ≡ false
    → AreFaithfulWalks s walks → AreFaithfulWalks (record s { waiting = later }) walks
walks_fetched s command later walks head not_it faithful =
    queue-moved s (record s { waiting = later }) walks refl refl (λ t go. to_come-fetched s command later head t begins_anew [] not_it go) faithful

-- A page is granted.
pub walks_granted : (s : Scene) (device page frame : ℕ) (rights : Rights) (walks : List Walk) → held_at s.history device page ≡ None
    → AreFaithfulWalks s walks → AreFaithfulWalks (record s { history = Granted device page frame rights ∷ s.history }) walks
walks_granted s device page frame rights walks empty faithful = still-stand s New walks
    (λ d stays. stay-as s New (s.attachment_of d) (λ t go. go) stays)
    (λ d stays a pair was. granted s.history (WalksBeginAnew s) device page frame rights empty d a pair was)
    faithful
  where
    New : Scene
    New = record s { history = Granted device page frame rights ∷ s.history }

-- by the commands of a release walks begin anew
release-anew : (device : ℕ) (extent : Extent) (ats : Bool) (fence : ℕ) → InOrder (begins_anew ∷ is_fence fence ∷ []) (queued_by_release device extent ats ++ Fence fence ∷ [])
release-anew device extent false fence = inl (refl, inl (same_number fence, tt))
release-anew device extent true fence = inl (refl, inr (inl (same_number fence, tt)))

-- A page is released.
pub walks_released : (s : Scene) (device page : ℕ) (mode : Mode) (ats : Bool) (walks : List Walk) → IsOrdered s
    → AreFaithfulWalks s walks → AreFaithfulWalks (ReleasedScene s device page mode ats) walks
walks_released s device page mode ats walks ordered faithful = still-stand s New walks
    (λ d stays. stay-as s New (s.attachment_of d) goes_on stays)
    (λ d stays a pair was. released s.history (WalksBeginAnew s) (WalksBeginAnew New) device page (s.given + 1) (fresh s ordered) d a pair goes_on
    (λ its here. to_come-new s commands New.history s.attachment_of (begins_anew ∷ []) (release-anew device (released_extent mode page) ats (s.last_fence + 1))) was)
    faithful
  where
    New : Scene
    New = ReleasedScene s device page mode ats

    commands : List QueuedCommand
    commands = queued_by_release device (released_extent mode page) ats

    goes_on : (t : ℕ) → WalksBeginAnew s t → WalksBeginAnew New t
    goes_on t go = to_come-ticket s commands New.history s.attachment_of t (begins_anew ∷ []) go

-- by the commands of a detach and of a quarantine walks begin anew
leave-anew : (s : Scene) (device : ℕ) (h : History) (of : ℕ → Attachment) → WalksBeginAnew (Ticketed s (leave_commands device) h of) (s.given + 1)
leave-anew s device h of = to_come-new s (leave_commands device) h of (begins_anew ∷ []) (inl (refl, inr (inl (same_number (s.last_fence + 1), tt))))

-- the tables of a device that leaves, or is quarantined, under the new ticket stay
tables-left : (s : Scene) (device : ℕ) (h : History) (now : Attachment) → TablesStay (LeftScene s device h now) now
    → (d : ℕ) → TablesStay s (s.attachment_of d) → TablesStay (LeftScene s device h now) (attachments_with s.attachment_of device now d)
tables-left s device h now own d stays = by (device == d) refl
  where
    New : Scene
    New = LeftScene s device h now

    by : (b : Bool) → (device == d) ≡ b → TablesStay New (attachments_with s.attachment_of device now d)
    by true e = subst (TablesStay New) (sym (own_attachment s.attachment_of device now d e)) own
    by false e = subst (TablesStay New) (sym (other_attachment s.attachment_of device now d e))
        (stay-as s New (s.attachment_of d) (λ t go. to_come-ticket s (leave_commands device) h (attachments_with s.attachment_of device now) t (begins_anew ∷ []) go) stays)

-- A device is quarantined.
pub walks_quarantined : (s : Scene) (device : ℕ) (mode : Mode) (ats : Bool) (walks : List Walk) → IsOrdered s
    → AreFaithfulWalks s walks → AreFaithfulWalks (QuarantinedScene s device mode ats) walks
walks_quarantined s device mode ats walks ordered faithful = still-stand s New walks
    (tables-left s device H (Quarantined (s.given + 1) mode ats) anew)
    (λ d stays a pair was. all_released s.history (WalksBeginAnew s) (WalksBeginAnew New) device (s.given + 1) (fresh s ordered) d a pair
    (λ t go. to_come-ticket s (leave_commands device) H New.attachment_of t (begins_anew ∷ []) go) (λ its. anew) was)
    faithful
  where
    H : History
    H = AllReleased device (s.given + 1) ∷ s.history

    New : Scene
    New = QuarantinedScene s device mode ats

    anew : WalksBeginAnew New (s.given + 1)
    anew = leave-anew s device H (attachments_with s.attachment_of device (Quarantined (s.given + 1) mode ats))

-- A device is detached.
pub walks_detached : (s : Scene) (device : ℕ) (mode : Mode) (ats : Bool) (walks : List Walk)
    → AreFaithfulWalks s walks → AreFaithfulWalks (LeftScene s device s.history (Leaving (s.given + 1) mode ats)) walks
walks_detached s device mode ats walks faithful = still-stand s New walks
    (tables-left s device s.history (Leaving (s.given + 1) mode ats) (leave-anew s device s.history New.attachment_of))
    (λ d stays a pair was. still s.history (WalksBeginAnew s) (WalksBeginAnew New) d a pair
    (λ t go. to_come-ticket s (leave_commands device) s.history New.attachment_of t (begins_anew ∷ []) go) was)
    faithful
  where
    New : Scene
    New = LeftScene s device s.history (Leaving (s.given + 1) mode ats)

-- A device is attached, as it was before its quarantine or anew: its tables are its own.
pub walks_attached : (s : Scene) (device : ℕ) (mode : Mode) (ats : Bool) (walks : List Walk)
    → AreFaithfulWalks s walks → AreFaithfulWalks (record s { attachment_of = attachments_with s.attachment_of device (Attached mode ats) }) walks
walks_attached s device mode ats walks faithful = still-stand s New walks (λ d stays. by d stays (device == d) refl) (λ d stays a pair was. was) faithful
  where
    New : Scene
    New = record s { attachment_of = attachments_with s.attachment_of device (Attached mode ats) }

    by : (d : ℕ) → TablesStay s (s.attachment_of d) → (b : Bool) → (device == d) ≡ b → TablesStay New (attachments_with s.attachment_of device (Attached mode ats) d)
    by d stays true e = subst (TablesStay New) (sym (own_attachment s.attachment_of device (Attached mode ats) d e)) tt
    by d stays false e = subst (TablesStay New) (sym (other_attachment s.attachment_of device (Attached mode ats) d e)) (stay-as s New (s.attachment_of d) (λ t go. go) stays)

-- what is queued again for a known device begins walks anew, before the fence
queued-anew : (device fence : ℕ) (attachment : Attachment) (later : List QueuedCommand) → IsKnown attachment → InOrder (is_fence fence ∷ []) later
    → InOrder (begins_anew ∷ is_fence fence ∷ []) (queued_again device attachment ++ later)
queued-anew device fence Detached later known order = absurd (false≢true (sym known))
queued-anew device fence (Attached mode false) later known order = inl (refl, inr order)
queued-anew device fence (Attached mode true) later known order = inl (refl, inr (inr order))
queued-anew device fence (Quarantined t mode ats) later known order = inl (refl, inr order)
queued-anew device fence (Leaving t mode ats) later known order = inl (refl, inr order)

-- and so does what is queued again for all devices, if one of them is known
all-anew : (of : ℕ → Attachment) (devices : List ℕ) (d fence : ℕ) → Contains devices d → IsKnown (of d)
    → InOrder (begins_anew ∷ is_fence fence ∷ []) (all_queued_again of devices ++ Fence fence ∷ [])
all-anew of [] d fence there known = absurd (in_none d there)
all-anew of (device ∷ others) d fence there known = subst (InOrder (begins_anew ∷ is_fence fence ∷ []))
    (sym (append_assoc (queued_again device (of device)) (all_queued_again of others) (Fence fence ∷ [])))
    (by (λ later. all-anew of others d fence later known) (cons_cases device others d there))
  where
    rest : List QueuedCommand
    rest = all_queued_again of others ++ Fence fence ∷ []

    by : (Contains others d → InOrder (begins_anew ∷ is_fence fence ∷ []) rest) → (device ≡ d) ⊎ Contains others d
        → InOrder (begins_anew ∷ is_fence fence ∷ []) (queued_again device (of device) ++ rest)
    by among (inl same) = queued-anew device fence (of device) rest (subst (λ x. IsKnown (of x)) (sym same) known)
        (in_order-last (is_fence fence ∷ []) (all_queued_again of others) (Fence fence ∷ []) (inl (same_number fence, tt)))
    by among (inr later) = in_order-last (begins_anew ∷ is_fence fence ∷ []) (queued_again device (of device)) rest (among later)

-- The queue is restarted: every ticket that was pending waits for all known devices' commands again.
pub walks_restarted : (s : Scene) (devices : List ℕ) (walks : List Walk) → ((d : ℕ) → IsKnown (s.attachment_of d) → Contains devices d)
    → AreFaithfulWalks s walks → AreFaithfulWalks (restarted s devices) walks
walks_restarted s devices walks known faithful = still-stand s New walks
    (λ d stays. stay-as s New (s.attachment_of d) (goes_on d stays) stays)
    (λ d stays a pair was. still s.history (WalksBeginAnew s) (WalksBeginAnew New) d a pair (goes_on d stays) was)
    faithful
  where
    New : Scene
    New = restarted s devices

    goes_on : (d : ℕ) → TablesStay s (s.attachment_of d) → (t : ℕ) → WalksBeginAnew s t → WalksBeginAnew New t
    goes_on d stays t (fence, there, order) =
        let is_known = stay-known s (s.attachment_of d) stays in (
          s.last_fence + 1,
          contains_map (λ (p : PendingTicket). Waits p.ticket (s.last_fence + 1)) s.pending (Waits t fence) there,
          all-anew s.attachment_of devices d (s.last_fence + 1) (known d is_known) is_known,
        )

-- A ticket is confirmed: no walk waits for it to begin anew.
pub walks_confirmed : (s : Scene) (ticket fence : ℕ) (later : List PendingTicket) (walks : List Walk) → IsOrdered s → s.pending ≡ Waits ticket fence ∷ later → fence ≤ s.completed
    → AreFaithfulWalks s walks → AreFaithfulWalks (ConfirmedScene s ticket later) walks
walks_confirmed s ticket fence later walks ordered oldest done faithful = still-stand s New walks
    (λ d stays. tables (s.attachment_of d) stays)
    (λ d stays a pair was. confirmed s.history (WalksBeginAnew s) (WalksBeginAnew New) ticket d a pair goes_on was)
    faithful
  where
    New : Scene
    New = ConfirmedScene s ticket later

    rise : TicketsRise s.confirmed (Waits ticket fence ∷ later) s.given
    rise = subst (λ l. TicketsRise s.confirmed l s.given) oldest ordered.tickets

    other : (t f : ℕ) → (Waits ticket fence ≡ Waits t f) ⊎ Contains later (Waits t f) → InOrder (is_fence f ∷ []) s.waiting → (ticket ≢ t) × Contains later (Waits t f)
    other t f (inl same) order =
        let its : fence ≡ f = ap (λ (p : PendingTicket). p.fence) same in
        let above = fence_above f s.completed s.waiting s.last_fence ordered.fences order in
        absurd (omega (arith, its, above, done))
    other t f (inr next) order = ((λ same. let above = (ticket_within ticket later s.given t f rise.1 next).0 in absurd (omega (arith, same, above))), next)

    goes_on : (t : ℕ) → WalksBeginAnew s t → (ticket ≢ t) × WalksBeginAnew New t
    goes_on t (f, there, order) =
        let next = other t f (cons_cases (Waits ticket fence) later (Waits t f) (subst (λ l. Contains l (Waits t f)) oldest there)) (in_order-rest begins_anew (is_fence f ∷ []) s.waiting order) in
        (next.0, (f, next.1, order))

    tables : (attachment : Attachment) → TablesStay s attachment → TablesStay New (attachment_once_confirmed ticket attachment)
    tables Detached stays = stays
    tables (Attached mode ats) stays = tt
    tables (Quarantined t mode ats) stays = (goes_on t stays).1
    tables (Leaving t mode ats) stays = by (ticket == t) refl
      where
        by : (b : Bool) → (ticket == t) ≡ b → TablesStay New (if b then Detached else Leaving t mode ats)
        by true e = absurd ((goes_on t stays).0 (eqb-true ticket t e))
        by false e = (goes_on t stays).1
