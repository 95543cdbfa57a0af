-- What a quarantine does to a scene: the facts on copies stay.
use Rattle.std.proofs.Common.{◌≡◌, ◌≢◌, ◌+◌, ◌<◌, ◌==◌, ◌∙◌, ℕ, Bool, true, false, List, [], ◌∷◌, ◌++◌, inl, inr, refl, sym, ap, arith, if◌then◌else◌}
use Rattle.std.proofs.lemmas.Bool.Decides.{eqb_tells}
use Rattle.iom_base.specs.declared.mode.Mode.{Mode}
use Rattle.iom_command_queue.specs.declared.entry.QueueEntry.{QueueEntry}
use Rattle.iom_coherence.specs.DriverCalls.{attachments_with, with_ticket, leave_commands}
use Rattle.iom_coherence.specs.Faithful.{IsFaithful}
use Rattle.iom_coherence.specs.Transitions.{Quarantine}
use Rattle.iom_coherence.specs.Queue.{Fence}
use Rattle.iom_coherence.specs.Scene.{Scene}
use Rattle.iom_walk_coherence.specs.Walks.{Walk}
use Rattle.iom_world_effects.proofs.FactsKept.{facts_kept}
use Rattle.iom_ledger.specs.declared.entry.HistoryEntry.TheVariants.{AllReleased}
use Rattle.iom_ledger.specs.History.{History, confirms}
use Rattle.iom_ledger.specs.Shown.{Agrees}
use Rattle.iom_machine.specs.declared.state.Attachment.{Attachment}
use Rattle.iom_machine.specs.declared.state.Attachment.TheVariants.{Detached, Attached, Quarantined, Leaving}
use Rattle.iom_world_effects.specs.Scenes.{Values, GoesInOrder, IsSceneOf, HasSceneWith}
use Rattle.iom_world_effects.proofs.QueuedLemmas.{come_on}
use Rattle.iom_world_effects.proofs.SceneCalls.{AttachesOne, QueuesTicket, ticket_shows}

-- the next ticket isn't confirmed
not_confirmed : (old : Values) (scene : Scene) (ticket : ℕ) → IsSceneOf old scene → IsFaithful scene → old.confirmed < ticket → confirms scene.history ticket ≡ false
not_confirmed old scene ticket shows facts above = by (confirms scene.history ticket) refl
  where
    by : (b : Bool) → confirms scene.history ticket ≡ b → b ≡ false
    by false is = refl
    by true is = let low = facts.order.confirmed ticket is in let same = shows.confirmed in absurd (omega (arith, low, above, same))

-- another device leaves as before: no invalidation that is queued now is one of its own
other_leaves : (fence_of : ℕ → ℕ) (scene : Scene) (id number d : ℕ) (a : Attachment) → id ≢ d → GoesInOrder fence_of d a scene.waiting
    → GoesInOrder fence_of d a (scene.waiting ++ (leave_commands id ++ Fence number ∷ []))
other_leaves fence_of scene id number d Detached other goes = tt
other_leaves fence_of scene id number d (Attached mode ats) other goes = tt
other_leaves fence_of scene id number d (Quarantined ticket mode ats) other goes = tt
other_leaves fence_of scene id number d (Leaving ticket mode ats) other goes =
    come_on d (fence_of ticket) scene.waiting (leave_commands id ++ Fence number ∷ []) goes ((λ same. absurd (other same)), tt)

-- and the device that is quarantined doesn't leave
all_leave : (old new : Values) (scene : Scene) (id number : ℕ) (mode : Mode) (ats : Bool) → IsSceneOf old scene → AttachesOne old new id (Quarantined (old.given + 1) mode ats)
    → new.fence_of ≡ old.fence_of → (d : ℕ) → GoesInOrder new.fence_of d (new.attachment_of d) (scene.waiting ++ (leave_commands id ++ Fence number ∷ []))
all_leave old new scene id number mode ats shows cut fences d = elim (eqb_tells id d) [
  | inl e ↦ rw (fences, cut d, e.0) tt
  | inr ne ↦ rw (fences, cut d, ne.0) (other_leaves old.fence_of scene id number d (old.attachment_of d) ne.1 (shows.leaving d))
]

-- QUARANTINE
pub quarantine_scene : (old new : Values) (id : ℕ) (mode : Mode) (ats : Bool) (commands : List QueueEntry) → QueuesTicket old new commands (leave_commands id)
    → old.attachment_of id ≡ Attached mode ats → AttachesOne old new id (Quarantined (old.given + 1) mode ats)
    → ((h : History) → Agrees old.ledger h → confirms h (old.given + 1) ≡ false → Agrees new.ledger (AllReleased id (old.given + 1) ∷ h))
    → (walks : List Walk) → HasSceneWith old walks → HasSceneWith new walks
quarantine_scene old new id mode ats commands queues attached cut agrees walks (scene, shows, facts) =
    let ordered = queues.ordered in
    let ticket = scene.given + 1 in
    let now = attachments_with scene.attachment_of id (Quarantined ticket mode ats) in
    let next : Scene = record (with_ticket scene (leave_commands id)) { history = AllReleased id ticket ∷ scene.history; attachment_of = now } in
    let cut_so : AttachesOne old new id (Quarantined ticket mode ats) = rw shows.given cut in
    let agreed : Agrees new.ledger (AllReleased id ticket ∷ scene.history) =
    rw shows.given (agrees scene.history shows.ledger (not_confirmed old scene (old.given + 1) shows facts.copies (omega (arith, ordered)))) in (
      next,
      ticket_shows old new scene commands (leave_commands id) shows queues (AllReleased id ticket ∷ scene.history) now agreed
          (λ d. ap (λ before. if id == d then Quarantined ticket mode ats else before) (shows.attachments d) ∙ sym (cut_so d))
          (all_leave old new scene id (scene.last_fence + 1) mode ats shows cut queues.cached.fences),
      facts_kept (Quarantine id) scene next walks walks refl facts (mode, ats, shows.attachments id ∙ attached, refl),
    )
