-- What a restart of the command queue does to a scene: the facts on copies stay, and all tickets wait for one fence.
use Rattle.std.proofs.Common.{◌≡◌, ◌+◌, ◌-◌, ◌≤◌, ◌∙◌, ℕ, zero, suc, Bool, true, false, List, [], ◌∷◌, ◌++◌, Contains, None, Some, refl, sym, ap, subst, arith}
use Rattle.iom_base.specs.declared.mode.Mode.{Mode}
use Rattle.iom_command_queue.specs.declared.entry.QueueEntry.{QueueEntry}
use Rattle.iom_command_queue.specs.declared.entry.QueueEntry.TheVariants.{Command}
use Rattle.iom_coherence.specs.Attachments.{IsKnown}
use Rattle.iom_coherence.specs.DriverCalls.{all_queued_again, restarted, waiting_for}
use Rattle.iom_coherence.specs.Transitions.{Restart}
use Rattle.iom_coherence.specs.Queue.{QueuedCommand, Fence}
use Rattle.iom_coherence.specs.Scene.{Scene}
use Rattle.iom_coherence.proofs.ListLemmas.{contains_head, same_function}
use Rattle.iom_walk_coherence.specs.Walks.{Walk}
use Rattle.iom_world_effects.proofs.FactsKept.{facts_kept}
use Rattle.iom_driver.specs.Appends.{fence}
use Rattle.iom_ledger.specs.History.{History}
use Rattle.iom_ledger.specs.Shown.{Agrees}
use Rattle.iom_machine.specs.declared.state.Attachment.{Attachment}
use Rattle.iom_machine.specs.declared.state.Attachment.TheVariants.{Detached, Attached, Quarantined, Leaving}
use Rattle.iom_tlb.specs.declared.space.Space.{Space}
use Rattle.iom_tlb.specs.declared.trans_cache.Translation.{Translation}
use Rattle.iom_tlb.specs.Content.{Key}
use Rattle.iom_world_effects.specs.Queued.{AreQueuedAs, ComeBefore, pending_after}
use Rattle.iom_world_effects.specs.Scenes.{Values, IsSomebodys, GoesInOrder, IsSceneOf, HasSceneWith}
use Rattle.iom_world_effects.specs.Traffic.{Traffic}
use Rattle.iom_world_effects.proofs.QueuedLemmas.{queued_append, queued_still, come_up_to}

-- What becomes of queue and tickets when the queue is emptied, these commands are appended, and behind them the next fence: each ticket up to the last
-- waits for it. No slot is open, and commands are taken again.
pub record RestartsAll (old new : Values) (devices : List ℕ) (commands : List QueueEntry) : Type 0 where
  pub ordered : old.confirmed ≤ old.given
  pub known : (d : ℕ) → IsKnown (old.attachment_of d) → Contains devices d
  pub given_to : (d ticket : ℕ) (mode : Mode) (ats : Bool) → old.attachment_of d ≡ Leaving ticket mode ats → ticket ≤ old.given
  pub appended : AreQueuedAs old.address old.space_of commands (all_queued_again old.attachment_of devices)
  pub agrees : (h : History) → Agrees old.ledger h → Agrees new.ledger h
  pub waiting : new.waiting ≡ commands ++ Command (fence old.address (old.last_fence + 1)) ∷ []
  pub address : new.address ≡ old.address
  pub completed : new.completed ≡ old.completed
  pub last_fence : new.last_fence ≡ old.last_fence + 1
  pub fences : (ticket : ℕ) → ticket ≤ old.given → new.fence_of ticket ≡ old.last_fence + 1
  pub given : new.given ≡ old.given
  pub confirmed : new.confirmed ≡ old.confirmed
  pub so_far : new.so_far ≡ old.so_far
  pub in_flight : new.in_flight ≡ old.in_flight
  pub kinds : (d : ℕ) → new.kind_of d ≡ old.kind_of d
  pub attachments : (d : ℕ) → new.attachment_of d ≡ old.attachment_of d
  pub contexts : (d : ℕ) → new.is_cached d ≡ true → old.is_cached d ≡ true
  pub spaces : (d : ℕ) (space : Space) → old.space_of d ≡ Some space → new.space_of d ≡ Some space
  pub translations : (key : Key) (translation : Translation) → new.translations key ≡ Some translation → old.translations key ≡ Some translation
  pub fence_snapshot : new.fence_snapshot ≡ None
  pub stopped : new.is_stopped ≡ false
  pub traffic : new.traffic ≡ record old.traffic { slots = [] }

-- the tickets that are pending, all waiting for one fence
waiting_all : (before after : ℕ → ℕ) (first n fence : ℕ) → ((ticket : ℕ) → ticket ≤ first + n → after ticket ≡ fence)
    → waiting_for fence (pending_after before first n) ≡ pending_after after first n
waiting_all before after first zero fence same = refl
waiting_all before after first (suc n) fence same =
    ap (λ k. record { ticket = first + 1; fence = k } ∷ waiting_for fence (pending_after before (first + 1) n)) (sym (same (first + 1) (omega arith)))
    ∙ ap (λ l. record { ticket = first + 1; fence = after (first + 1) } ∷ l)
    (waiting_all before after (first + 1) n fence (λ ticket low. same ticket (omega (arith, low))))

module _ (old new : Values) (scene : Scene) (devices : List ℕ) (commands : List QueueEntry) (shows : IsSceneOf old scene) (all : RestartsAll old new devices commands) where
  abbrev queued : List QueuedCommand
  queued = all_queued_again scene.attachment_of devices

  abbrev last : List QueuedCommand
  last = Fence (scene.last_fence + 1) ∷ []

  waiting_now : AreQueuedAs new.address new.space_of new.waiting (queued ++ last)
  waiting_now =
      let alike : old.attachment_of ≡ scene.attachment_of = same_function old.attachment_of scene.attachment_of (λ d. sym (shows.attachments d)) in
      let these : AreQueuedAs old.address old.space_of commands queued = subst (λ f. AreQueuedAs old.address old.space_of commands (all_queued_again f devices)) alike all.appended in
      let number : fence old.address (old.last_fence + 1) ≡ fence old.address (scene.last_fence + 1) = ap (λ n. fence old.address (n + 1)) (sym shows.last_fence) in
      rw (all.address, all.waiting)
      (queued_still old.address old.space_of new.space_of (commands ++ Command (fence old.address (old.last_fence + 1)) ∷ []) (queued ++ last) (λ d space extent there own. all.spaces d space own)
      (queued_append old.address old.space_of commands (Command (fence old.address (old.last_fence + 1)) ∷ []) queued last these (number, tt)))

  pending_now : waiting_for (scene.last_fence + 1) scene.pending ≡ pending_after new.fence_of new.confirmed (new.given - new.confirmed)
  pending_now =
      rw (shows.pending, shows.last_fence, all.given, all.confirmed)
      (waiting_all old.fence_of new.fence_of old.confirmed (old.given - old.confirmed) (old.last_fence + 1) (λ ticket low. by ticket low))
    where
      by : (ticket : ℕ) → ticket ≤ old.confirmed + (old.given - old.confirmed) → new.fence_of ticket ≡ old.last_fence + 1
      by ticket low = let ordered = all.ordered in all.fences ticket (omega (arith, low, ordered))

  goes : (d : ℕ) (a : Attachment) → old.attachment_of d ≡ a → GoesInOrder new.fence_of d a (queued ++ last)
  goes d Detached is = tt
  goes d (Attached mode ats) is = tt
  goes d (Quarantined ticket mode ats) is = tt
  goes d (Leaving ticket mode ats) is =
      subst (λ n. ComeBefore d n (queued ++ last)) (ap (λ n. n + 1) shows.last_fence ∙ sym (all.fences ticket (all.given_to d ticket mode ats is)))
      (come_up_to d (scene.last_fence + 1) queued last (contains_head (Fence (scene.last_fence + 1)) []) tt)

  restarted_shows : IsSceneOf new (restarted scene devices)
  restarted_shows = record {
    ledger = all.agrees scene.history shows.ledger;
    waiting = waiting_now;
    completed = shows.completed ∙ sym all.completed;
    last_fence = ap (λ n. n + 1) shows.last_fence ∙ sym all.last_fence;
    pending = pending_now;
    given = shows.given ∙ sym all.given;
    confirmed = shows.confirmed ∙ sym all.confirmed;
    accepted = shows.accepted ∙ sym all.so_far;
    in_flight = shows.in_flight ∙ sym all.in_flight;
    kinds = λ d. shows.kinds d ∙ sym (all.kinds d);
    attachments = λ d. shows.attachments d ∙ sym (all.attachments d);
    contexts = λ d is. shows.contexts d (all.contexts d is);
    translations = still;
    fence_snapshot = rw all.fence_snapshot tt;
    leaving = λ d. rw (all.attachments d) (goes d (old.attachment_of d) refl);
    traffic = ap (λ (t : Traffic). record t { slots = [] }) shows.traffic ∙ sym all.traffic;
    stopped = sym all.stopped;
  }
    where
      still : (key : Key) (translation : Translation) → new.translations key ≡ Some translation → IsSomebodys new.space_of scene.translations key translation
      still key translation at =
          let was = shows.translations key translation (all.translations key translation at) in
          record { device = was.device; own = all.spaces was.device key.0 was.own; there = was.there }

-- THE QUEUE IS EMPTIED, and what is still needed is queued anew
pub restart_scene : (old new : Values) (devices : List ℕ) (commands : List QueueEntry) → RestartsAll old new devices commands → (walks : List Walk) → HasSceneWith old walks → HasSceneWith new walks
restart_scene old new devices commands all walks (scene, shows, facts) = (
  restarted scene devices,
  restarted_shows old new scene devices commands shows all,
  facts_kept (Restart devices) scene (restarted scene devices) walks walks refl facts ((λ d is. all.known d (subst IsKnown (shows.attachments d) is)), refl),
)
