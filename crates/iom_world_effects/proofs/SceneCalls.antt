-- What the driver's calls do to a scene: the facts on copies stay.
use Rattle.std.proofs.Common.{◌≡◌, ◌+◌, ◌-◌, ◌≤◌, ◌<◌, ◌==◌, ◌⊎◌, inl, inr, ◌∙◌, ℕ, zero, suc, Bool, true, false, List, [], ◌∷◌, ◌++◌, Contains, Option, None, Some, refl, sym, ap, subst, arith, if◌then◌else◌}
use Rattle.std.proofs.lemmas.Bool.{eqb-true}
use Rattle.std.specs.Option.{option_map, option_to_list}
use Rattle.iom_base.specs.declared.rights.Rights.{Rights}
use Rattle.iom_command_queue.specs.declared.entry.QueueEntry.{QueueEntry}
use Rattle.iom_command_queue.specs.declared.entry.QueueEntry.TheVariants.{Command}
use Rattle.iom_coherence.specs.Attachments.{IsAttached, caches_translations}
use Rattle.iom_coherence.specs.DriverCalls.{attachments_with, with_kind, with_ticket, released_extent, queued_by_release, leave_commands, attachment_once_confirmed}
use Rattle.iom_coherence.proofs.ListLemmas.{in_none, contains_head, contains_tail}
use Rattle.iom_ledger.specs.History.{confirmed_from, History, Pair, confirms, lingering_at}
use Rattle.iom_coherence.specs.Faithful.{GrantsFit, IsFaithful}
use Rattle.iom_coherence.specs.Queue.{Extent, WholeSpace, QueuedCommand, DropTranslations, DropContext, Fence}
use Rattle.iom_coherence.specs.Transitions.{Plug, Attach, Grant, Release, Detach}
use Rattle.iom_coherence.specs.Scene.{Copy, Scene}
use Rattle.iom_driver.specs.Appends.{fence}
use Rattle.iom_ledger.specs.declared.entry.HistoryEntry.TheVariants.{Granted, Released}
use Rattle.iom_ledger.specs.Shown.{Agrees, held_in, lingering_in, released_in}
use Rattle.iom_machine.specs.declared.state.Attachment.{Attachment}
use Rattle.iom_machine.specs.declared.state.Attachment.TheVariants.{Detached, Attached, Quarantined, Leaving}
use Rattle.iom_base.specs.declared.device_kind.DeviceKind.{DeviceKind}
use Rattle.iom_base.specs.declared.mode.Mode.{Mode}
use Rattle.iom_tlb.specs.declared.space.Space.{Space}
use Rattle.iom_tlb.specs.declared.trans_cache.Translation.{Translation}
use Rattle.iom_tlb.specs.Content.{Key}
use Rattle.iom_world_effects.specs.Queued.{AreQueuedAs, ComeBefore, pending_after}
use Rattle.iom_world_effects.specs.Scenes.{Values, copy_of, IsSomebodys, GoesInOrder, IsSceneOf, HasSceneWith}
use Rattle.iom_world_effects.proofs.QueuedLemmas.{SpacesStay, queued_append, queued_still, come_on, come_up_to, none_left, pending_next}
use Rattle.iom_world_effects.proofs.ConfirmScenes.{left_after, confirmed_scene, AreDone, confirm_all}
use Rattle.iom_walk_coherence.specs.Walks.{Walk}
use Rattle.iom_world_effects.proofs.FactsKept.{facts_kept}

-- what is cached of translations is as it was, or less; the fence at the head counted as many; who has a number keeps it; and the same is under way to
-- and from the devices' caches
pub record KeepsCached (old new : Values) : Type 0 where
  pub spaces : (device : ℕ) (space : Space) → old.space_of device ≡ Some space → new.space_of device ≡ Some space
  pub translations : (key : Key) (translation : Translation) → new.translations key ≡ Some translation → old.translations key ≡ Some translation
  pub fence_snapshot : new.fence_snapshot ≡ old.fence_snapshot
  pub fences : new.fence_of ≡ old.fence_of
  pub stopped : new.is_stopped ≡ old.is_stopped
  pub traffic : new.traffic ≡ old.traffic

-- each cached translation is still somebody's
somebodys_still : (old new : Values) (scene : Scene) → KeepsCached old new → IsSceneOf old scene
    → (key : Key) (translation : Translation) → new.translations key ≡ Some translation → IsSomebodys new.space_of scene.translations key translation
somebodys_still old new scene keeps shows key translation at =
    let was = shows.translations key translation (keeps.translations key translation at) in record {
      device = was.device;
      own = keeps.spaces was.device key.0 was.own;
      there = was.there;
    }

waits_still : (old new : Values) (scene : Scene) → KeepsCached old new → IsSceneOf old scene → new.address ≡ old.address → new.waiting ≡ old.waiting
    → AreQueuedAs new.address new.space_of new.waiting scene.waiting
waits_still old new scene keeps shows address waiting =
    rw (address, waiting) (queued_still old.address old.space_of new.space_of old.waiting scene.waiting (λ device space extent there own. keeps.spaces device space own) shows.waiting)

-- devices that are attached as before leave as before
leaves_still : (old new : Values) (scene : Scene) → IsSceneOf old scene → ((d : ℕ) → new.attachment_of d ≡ old.attachment_of d) → new.fence_of ≡ old.fence_of
    → (d : ℕ) → GoesInOrder new.fence_of d (new.attachment_of d) scene.waiting
leaves_still old new scene shows same fences d = rw (fences, same d) (shows.leaving d)

-- the values are the same, but perhaps for the room of the ledger; less may be cached
pub record AreSameValues (old new : Values) : Type 0 where
  pub agrees : (h : History) → Agrees old.ledger h → Agrees new.ledger h
  pub address : new.address ≡ old.address
  pub waiting : new.waiting ≡ old.waiting
  pub completed : new.completed ≡ old.completed
  pub last_fence : new.last_fence ≡ old.last_fence
  pub given : new.given ≡ old.given
  pub confirmed : new.confirmed ≡ old.confirmed
  pub so_far : new.so_far ≡ old.so_far
  pub in_flight : new.in_flight ≡ old.in_flight
  pub kinds : (id : ℕ) → new.kind_of id ≡ old.kind_of id
  pub attachments : (id : ℕ) → new.attachment_of id ≡ old.attachment_of id
  pub contexts : (id : ℕ) → new.is_cached id ≡ true → old.is_cached id ≡ true
  pub cached : KeepsCached old new

same_scene_of : (old new : Values) (scene : Scene) → AreSameValues old new → IsSceneOf old scene → IsSceneOf new scene
same_scene_of old new scene same shows = record {
  ledger = same.agrees scene.history shows.ledger;
  waiting = waits_still old new scene same.cached shows same.address same.waiting;
  completed = shows.completed ∙ sym same.completed;
  last_fence = shows.last_fence ∙ sym same.last_fence;
  pending = rw (same.given, same.confirmed, same.cached.fences) shows.pending;
  given = shows.given ∙ sym same.given;
  confirmed = shows.confirmed ∙ sym same.confirmed;
  accepted = shows.accepted ∙ sym same.so_far;
  in_flight = shows.in_flight ∙ sym same.in_flight;
  kinds = λ id. shows.kinds id ∙ sym (same.kinds id);
  attachments = λ id. shows.attachments id ∙ sym (same.attachments id);
  contexts = λ id is. shows.contexts id (same.contexts id is);
  translations = somebodys_still old new scene same.cached shows;
  fence_snapshot = rw same.cached.fence_snapshot shows.fence_snapshot;
  leaving = leaves_still old new scene shows same.attachments same.cached.fences;
  traffic = shows.traffic ∙ sym same.cached.traffic;
  stopped = shows.stopped ∙ sym same.cached.stopped;
}

pub same_scene : (old new : Values) → AreSameValues old new → (walks : List Walk) → HasSceneWith old walks → HasSceneWith new walks
same_scene old new same walks (scene, shows, facts) = (scene, same_scene_of old new scene same shows, facts)

-- what the history says of a page, where the ledger has nothing there
lingers_none : (released : Option (ℕ × Pair)) → option_map (λ (r : ℕ × Pair). r.1) released ≡ None → option_to_list released ≡ []
lingers_none None none = refl
lingers_none (Some r) none = cc

nothing_lingers : (values : Values) (scene : Scene) (device page : ℕ) → IsSceneOf values scene → lingering_in values.ledger device page ≡ None → lingering_at scene.history device page ≡ []
nothing_lingers values scene device page shows none = (shows.ledger.pages device page).lingers ∙ lingers_none (released_in values.ledger device page) none

-- PLUG
pub record PlugsOne (old new : Values) (id : ℕ) (kind : DeviceKind) : Type 0 where
  pub free : old.kind_of id ≡ None
  pub kinds : (d : ℕ) → new.kind_of d ≡ with_kind old.kind_of id kind d
  pub agrees : (h : History) → Agrees old.ledger h → Agrees new.ledger h
  pub address : new.address ≡ old.address
  pub waiting : new.waiting ≡ old.waiting
  pub completed : new.completed ≡ old.completed
  pub last_fence : new.last_fence ≡ old.last_fence
  pub given : new.given ≡ old.given
  pub confirmed : new.confirmed ≡ old.confirmed
  pub so_far : new.so_far ≡ old.so_far
  pub in_flight : new.in_flight ≡ old.in_flight
  pub attachments : (d : ℕ) → new.attachment_of d ≡ old.attachment_of d
  pub contexts : (d : ℕ) → new.is_cached d ≡ true → old.is_cached d ≡ true
  pub cached : KeepsCached old new

pub plug_scene : (old new : Values) (id : ℕ) (kind : DeviceKind) → PlugsOne old new id kind → (walks : List Walk) → HasSceneWith old walks → HasSceneWith new walks
plug_scene old new id kind plugs walks (scene, shows, facts) =
    let next : Scene = record scene { kind_of = with_kind scene.kind_of id kind } in (
      next,
      record {
        ledger = plugs.agrees scene.history shows.ledger;
        waiting = waits_still old new scene plugs.cached shows plugs.address plugs.waiting;
        completed = shows.completed ∙ sym plugs.completed;
        last_fence = shows.last_fence ∙ sym plugs.last_fence;
        pending = rw (plugs.given, plugs.confirmed, plugs.cached.fences) shows.pending;
        given = shows.given ∙ sym plugs.given;
        confirmed = shows.confirmed ∙ sym plugs.confirmed;
        accepted = shows.accepted ∙ sym plugs.so_far;
        in_flight = shows.in_flight ∙ sym plugs.in_flight;
        kinds = λ d. ap (λ k. if id == d then Some kind else k) (shows.kinds d) ∙ sym (plugs.kinds d);
        attachments = λ d. shows.attachments d ∙ sym (plugs.attachments d);
        contexts = λ d is. shows.contexts d (plugs.contexts d is);
        translations = somebodys_still old new scene plugs.cached shows;
        fence_snapshot = rw plugs.cached.fence_snapshot shows.fence_snapshot;
        leaving = leaves_still old new scene shows plugs.attachments plugs.cached.fences;
        traffic = shows.traffic ∙ sym plugs.cached.traffic;
        stopped = shows.stopped ∙ sym plugs.cached.stopped;
      },
      facts_kept (Plug id kind) scene next walks walks refl facts (shows.kinds id ∙ plugs.free, refl),
    )

-- the attachments, where this device is attached so now
abbrev pub AttachesOne : Values → Values → ℕ → Attachment → Type 0
AttachesOne old new id now = (d : ℕ) → new.attachment_of d ≡ (if id == d then now else old.attachment_of d)

attached_as : (old new : Values) (scene : Scene) (id : ℕ) (now : Attachment) → IsSceneOf old scene → AttachesOne old new id now
    → (d : ℕ) → attachments_with scene.attachment_of id now d ≡ new.attachment_of d
attached_as old new scene id now shows attaches d = ap (λ before. if id == d then now else before) (shows.attachments d) ∙ sym (attaches d)

-- a device that is attached leaves no more, and others leave as before
pub attached_leaves : (old new : Values) (scene : Scene) (id : ℕ) (mode : Mode) (ats : Bool) → IsSceneOf old scene → AttachesOne old new id (Attached mode ats)
    → new.fence_of ≡ old.fence_of → (d : ℕ) → GoesInOrder new.fence_of d (new.attachment_of d) scene.waiting
attached_leaves old new scene id mode ats shows attaches fences d = rw (fences, attaches d) (by (id == d))
  where
    by : (b : Bool) → GoesInOrder old.fence_of d (if b then Attached mode ats else old.attachment_of d) scene.waiting
    by true = tt
    by false = shows.leaving d

-- ATTACH, with ATS only a device with a cache of its own
pub record AttachesDetached (old new : Values) (id : ℕ) (mode : Mode) (ats : Bool) : Type 0 where
  pub detached : old.attachment_of id ≡ Detached
  pub trusted : ats ≡ true → caches_translations (old.kind_of id) ≡ true
  pub attached : AttachesOne old new id (Attached mode ats)
  pub agrees : (h : History) → Agrees old.ledger h → Agrees new.ledger h
  pub address : new.address ≡ old.address
  pub waiting : new.waiting ≡ old.waiting
  pub completed : new.completed ≡ old.completed
  pub last_fence : new.last_fence ≡ old.last_fence
  pub given : new.given ≡ old.given
  pub confirmed : new.confirmed ≡ old.confirmed
  pub so_far : new.so_far ≡ old.so_far
  pub in_flight : new.in_flight ≡ old.in_flight
  pub kinds : (d : ℕ) → new.kind_of d ≡ old.kind_of d
  pub contexts : (d : ℕ) → new.is_cached d ≡ true → old.is_cached d ≡ true
  pub cached : KeepsCached old new

pub attach_scene : (old new : Values) (id : ℕ) (mode : Mode) (ats : Bool) → AttachesDetached old new id mode ats → (walks : List Walk) → HasSceneWith old walks → HasSceneWith new walks
attach_scene old new id mode ats attaches walks (scene, shows, facts) =
    let next : Scene = record scene { attachment_of = attachments_with scene.attachment_of id (Attached mode ats) } in (
      next,
      record {
        ledger = attaches.agrees scene.history shows.ledger;
        waiting = waits_still old new scene attaches.cached shows attaches.address attaches.waiting;
        completed = shows.completed ∙ sym attaches.completed;
        last_fence = shows.last_fence ∙ sym attaches.last_fence;
        pending = rw (attaches.given, attaches.confirmed, attaches.cached.fences) shows.pending;
        given = shows.given ∙ sym attaches.given;
        confirmed = shows.confirmed ∙ sym attaches.confirmed;
        accepted = shows.accepted ∙ sym attaches.so_far;
        in_flight = shows.in_flight ∙ sym attaches.in_flight;
        kinds = λ d. shows.kinds d ∙ sym (attaches.kinds d);
        attachments = attached_as old new scene id (Attached mode ats) shows attaches.attached;
        contexts = λ d is. shows.contexts d (attaches.contexts d is);
        translations = somebodys_still old new scene attaches.cached shows;
        fence_snapshot = rw attaches.cached.fence_snapshot shows.fence_snapshot;
        leaving = attached_leaves old new scene id mode ats shows attaches.attached attaches.cached.fences;
        traffic = shows.traffic ∙ sym attaches.cached.traffic;
        stopped = shows.stopped ∙ sym attaches.cached.stopped;
      },
      facts_kept (Attach id mode ats) scene next walks walks refl facts
          (shows.attachments id ∙ attaches.detached, (λ with. ap caches_translations (shows.kinds id) ∙ attaches.trusted with), refl),
    )

-- GRANT
pub record GrantsOne (old new : Values) (id page frame : ℕ) (rights : Rights) : Type 0 where
  pub mode : Mode
  pub ats : Bool
  pub attached : old.attachment_of id ≡ Attached mode ats
  pub not_held : held_in old.ledger id page ≡ None
  pub not_lingering : lingering_in old.ledger id page ≡ None
  pub agrees : (h : History) → Agrees old.ledger h → Agrees new.ledger (Granted id page frame rights ∷ h)
  pub address : new.address ≡ old.address
  pub waiting : new.waiting ≡ old.waiting
  pub completed : new.completed ≡ old.completed
  pub last_fence : new.last_fence ≡ old.last_fence
  pub given : new.given ≡ old.given
  pub confirmed : new.confirmed ≡ old.confirmed
  pub so_far : new.so_far ≡ old.so_far
  pub in_flight : new.in_flight ≡ old.in_flight
  pub kinds : (d : ℕ) → new.kind_of d ≡ old.kind_of d
  pub attachments : (d : ℕ) → new.attachment_of d ≡ old.attachment_of d
  pub contexts : (d : ℕ) → new.is_cached d ≡ true → old.is_cached d ≡ true
  pub cached : KeepsCached old new

is_attached_so : (attachment : Attachment) (mode : Mode) (ats : Bool) → attachment ≡ Attached mode ats → IsAttached attachment
is_attached_so attachment mode ats is = rw is refl

none_in : {X : Type 0} (xs : List X) (x : X) → xs ≡ [] → ¬ Contains xs x
none_in xs x none there = in_none x (subst (λ l. Contains l x) none there)

pub grant_scene : (old new : Values) (id page frame : ℕ) (rights : Rights) → GrantsOne old new id page frame rights → (walks : List Walk) → HasSceneWith old walks → HasSceneWith new walks
grant_scene old new id page frame rights grants walks (scene, shows, facts) =
    let next : Scene = record scene { history = Granted id page frame rights ∷ scene.history } in (
      next,
      record {
        ledger = grants.agrees scene.history shows.ledger;
        waiting = waits_still old new scene grants.cached shows grants.address grants.waiting;
        completed = shows.completed ∙ sym grants.completed;
        last_fence = shows.last_fence ∙ sym grants.last_fence;
        pending = rw (grants.given, grants.confirmed, grants.cached.fences) shows.pending;
        given = shows.given ∙ sym grants.given;
        confirmed = shows.confirmed ∙ sym grants.confirmed;
        accepted = shows.accepted ∙ sym grants.so_far;
        in_flight = shows.in_flight ∙ sym grants.in_flight;
        kinds = λ d. shows.kinds d ∙ sym (grants.kinds d);
        attachments = λ d. shows.attachments d ∙ sym (grants.attachments d);
        contexts = λ d is. shows.contexts d (grants.contexts d is);
        translations = somebodys_still old new scene grants.cached shows;
        fence_snapshot = rw grants.cached.fence_snapshot shows.fence_snapshot;
        leaving = leaves_still old new scene shows grants.attachments grants.cached.fences;
        traffic = shows.traffic ∙ sym grants.cached.traffic;
        stopped = shows.stopped ∙ sym grants.cached.stopped;
      },
      facts_kept (Grant id page frame rights) scene next walks walks refl facts (
        is_attached_so (scene.attachment_of id) grants.mode grants.ats (shows.attachments id ∙ grants.attached),
        (shows.ledger.pages id page).holds ∙ grants.not_held,
        (λ released. none_in (lingering_at scene.history id page) released (nothing_lingers old scene id page shows grants.not_lingering)),
        refl,
      ),
    )

-- what becomes of queue and tickets when these commands are appended, and behind them the fence of the next ticket
pub record QueuesTicket (old new : Values) (commands : List QueueEntry) (queued : List QueuedCommand) : Type 0 where
  pub ordered : old.confirmed ≤ old.given
  pub appended : AreQueuedAs old.address old.space_of commands queued
  pub waiting : new.waiting ≡ old.waiting ++ (commands ++ Command (fence old.address (old.last_fence + 1)) ∷ [])
  pub address : new.address ≡ old.address
  pub completed : new.completed ≡ old.completed
  pub last_fence : new.last_fence ≡ old.last_fence + 1
  pub next_fence : old.fence_of (old.given + 1) ≡ old.last_fence + 1
  pub given : new.given ≡ old.given + 1
  pub confirmed : new.confirmed ≡ old.confirmed
  pub so_far : new.so_far ≡ old.so_far
  pub in_flight : new.in_flight ≡ old.in_flight
  pub kinds : (d : ℕ) → new.kind_of d ≡ old.kind_of d
  pub contexts : (d : ℕ) → new.is_cached d ≡ true → old.is_cached d ≡ true
  pub cached : KeepsCached old new

module _ (old new : Values) (scene : Scene) (commands : List QueueEntry) (queued : List QueuedCommand) (shows : IsSceneOf old scene) (queues : QueuesTicket old new commands queued) where
  fence_now : AreQueuedAs old.address old.space_of (Command (fence old.address (old.last_fence + 1)) ∷ []) (Fence (scene.last_fence + 1) ∷ [])
  fence_now = (ap (λ n. fence old.address (n + 1)) (sym shows.last_fence), tt)

  waiting_now : AreQueuedAs new.address new.space_of new.waiting (scene.waiting ++ (queued ++ Fence (scene.last_fence + 1) ∷ []))
  waiting_now =
      rw (queues.address, queues.waiting)
      (queued_still old.address old.space_of new.space_of _ (scene.waiting ++ (queued ++ Fence (scene.last_fence + 1) ∷ [])) (λ device space extent there own. queues.cached.spaces device space own)
      (queued_append old.address old.space_of old.waiting (commands ++ Command (fence old.address (old.last_fence + 1)) ∷ []) scene.waiting (queued ++ Fence (scene.last_fence + 1) ∷ []) shows.waiting
      (queued_append old.address old.space_of commands (Command (fence old.address (old.last_fence + 1)) ∷ []) queued (Fence (scene.last_fence + 1) ∷ []) queues.appended fence_now)))

  pending_now : (with_ticket scene queued).pending ≡ pending_after new.fence_of new.confirmed (new.given - new.confirmed)
  pending_now =
      rw (shows.pending, shows.given, shows.last_fence, queues.given, queues.confirmed, queues.cached.fences)
      (ap (λ n. pending_after old.fence_of old.confirmed (old.given - old.confirmed) ++ record { ticket = old.given + 1; fence = n } ∷ []) (sym queues.next_fence)
      ∙ pending_next old.fence_of old.confirmed old.given queues.ordered)

  pub ticket_shows : (history : History) (attachment_of : ℕ → Attachment) → Agrees new.ledger history → ((d : ℕ) → attachment_of d ≡ new.attachment_of d)
      → ((d : ℕ) → GoesInOrder new.fence_of d (new.attachment_of d) (scene.waiting ++ (queued ++ Fence (scene.last_fence + 1) ∷ [])))
      → IsSceneOf new (record (with_ticket scene queued) { history = history; attachment_of = attachment_of })
  ticket_shows history attachment_of agrees attachments leaving = record {
    ledger = agrees;
    waiting = waiting_now;
    completed = shows.completed ∙ sym queues.completed;
    last_fence = ap (λ n. n + 1) shows.last_fence ∙ sym queues.last_fence;
    pending = pending_now;
    given = ap (λ n. n + 1) shows.given ∙ sym queues.given;
    confirmed = shows.confirmed ∙ sym queues.confirmed;
    accepted = shows.accepted ∙ sym queues.so_far;
    in_flight = shows.in_flight ∙ sym queues.in_flight;
    kinds = λ d. shows.kinds d ∙ sym (queues.kinds d);
    attachments = attachments;
    contexts = λ d is. shows.contexts d (queues.contexts d is);
    translations = somebodys_still old new scene queues.cached shows;
    fence_snapshot = rw queues.cached.fence_snapshot shows.fence_snapshot;
    leaving = leaving;
    traffic = shows.traffic ∙ sym queues.cached.traffic;
    stopped = shows.stopped ∙ sym queues.cached.stopped;
  }

-- a ticket above the last that is confirmed isn't confirmed
unconfirmed_next : (values : Values) (scene : Scene) (ticket : ℕ) → IsSceneOf values scene → IsFaithful scene → values.confirmed < ticket → confirms scene.history ticket ≡ false
unconfirmed_next values scene ticket shows facts above = by (confirms scene.history ticket) refl
  where
    by : (b : Bool) → confirms scene.history ticket ≡ b → b ≡ false
    by false is = refl
    by true is = let low = facts.order.confirmed ticket is in let same = shows.confirmed in absurd (omega (arith, low, above, same))

-- no invalidation of an attached device is one of a leaving device
release_goes : (old : Values) (scene : Scene) (id number d : ℕ) (extent : Extent) (mode : Mode) (ats : Bool) (a : Attachment) → old.attachment_of id ≡ Attached mode ats → old.attachment_of d ≡ a → GoesInOrder old.fence_of d a scene.waiting
    → GoesInOrder old.fence_of d a (scene.waiting ++ (queued_by_release id extent ats ++ Fence number ∷ []))
release_goes old scene id number d extent mode with Detached attached is goes = tt
release_goes old scene id number d extent mode with (Attached own ats) attached is goes = tt
release_goes old scene id number d extent mode with (Quarantined ticket own ats) attached is goes = tt
release_goes old scene id number d extent mode with (Leaving ticket own ats) attached is goes =
    come_on d (old.fence_of ticket) scene.waiting (queued_by_release id extent with ++ Fence number ∷ []) goes (by with (λ same. let both = sym attached ∙ ap old.attachment_of same ∙ is in cc))
  where
    by : (b : Bool) → (id ≡ d → ⊥) → ComeBefore d (old.fence_of ticket) (queued_by_release id extent b ++ Fence number ∷ [])
    by true other = ((λ same. absurd (other same)), tt)
    by false other = ((λ same. absurd (other same)), tt)

detach_goes : (old : Values) (scene : Scene) (id number d : ℕ) (mode : Mode) (ats : Bool) (a : Attachment) → old.attachment_of id ≡ Attached mode ats → old.attachment_of d ≡ a → GoesInOrder old.fence_of d a scene.waiting
    → GoesInOrder old.fence_of d a (scene.waiting ++ (leave_commands id ++ Fence number ∷ []))
detach_goes old scene id number d mode with Detached attached is goes = tt
detach_goes old scene id number d mode with (Attached own ats) attached is goes = tt
detach_goes old scene id number d mode with (Quarantined ticket own ats) attached is goes = tt
detach_goes old scene id number d mode with (Leaving ticket own ats) attached is goes =
    come_on d (old.fence_of ticket) scene.waiting (leave_commands id ++ Fence number ∷ []) goes
    ((λ same. let both = sym attached ∙ ap old.attachment_of same ∙ is in cc), tt)

-- those of the device that leaves now come in front of its fence
detached_goes : (scene : Scene) (id number : ℕ) → ComeBefore id number (scene.waiting ++ (leave_commands id ++ Fence number ∷ []))
detached_goes scene id number =
    let last : Contains (Fence number ∷ []) (Fence number) = contains_head (Fence number) [] in
    let behind = contains_tail (DropTranslations id WholeSpace) (Fence number ∷ []) (Fence number) last in
    come_up_to id number scene.waiting (leave_commands id ++ Fence number ∷ []) (contains_tail (DropContext id) (DropTranslations id WholeSpace ∷ Fence number ∷ []) (Fence number) behind)
    ((λ same. last), tt)

-- RELEASE
pub release_scene : (old new : Values) (id page : ℕ) (mode : Mode) (ats : Bool) (commands : List QueueEntry)
    → QueuesTicket old new commands (queued_by_release id (released_extent mode page) ats)
    → old.attachment_of id ≡ Attached mode ats → ((d : ℕ) → new.attachment_of d ≡ old.attachment_of d)
    → ((h : History) → Agrees old.ledger h → confirms h (old.given + 1) ≡ false → Agrees new.ledger (Released id page (old.given + 1) ∷ h))
    → (walks : List Walk) → HasSceneWith old walks → HasSceneWith new walks
release_scene old new id page mode ats commands queues attached same agrees walks (scene, shows, facts) =
    let queued = queued_by_release id (released_extent mode page) ats in
    let ordered = queues.ordered in
    let next : Scene = record (with_ticket scene queued) { history = Released id page (scene.given + 1) ∷ scene.history } in
    let agreed : Agrees new.ledger (Released id page (scene.given + 1) ∷ scene.history) =
    rw shows.given (agrees scene.history shows.ledger (unconfirmed_next old scene (old.given + 1) shows facts.copies (omega (arith, ordered)))) in (
      next,
      ticket_shows old new scene commands queued shows queues (Released id page (scene.given + 1) ∷ scene.history) scene.attachment_of agreed (λ d. shows.attachments d ∙ sym (same d))
          (λ d. rw (queues.cached.fences, same d)
          (release_goes old scene id (scene.last_fence + 1) d (released_extent mode page) mode ats (old.attachment_of d) attached refl (shows.leaving d))),
      facts_kept (Release id page) scene next walks walks refl facts (mode, ats, shows.attachments id ∙ attached, refl),
    )

-- DETACH
pub detach_scene : (old new : Values) (id : ℕ) (mode : Mode) (ats : Bool) (commands : List QueueEntry) → QueuesTicket old new commands (leave_commands id)
    → old.attachment_of id ≡ Attached mode ats → AttachesOne old new id (Leaving (old.given + 1) mode ats)
    → ((page : ℕ) → (held_in old.ledger id page ≡ None) × (lingering_in old.ledger id page ≡ None))
    → ((h : History) → Agrees old.ledger h → Agrees new.ledger h) → (walks : List Walk) → HasSceneWith old walks → HasSceneWith new walks
detach_scene old new id mode ats commands queues attached leaves nothing agrees walks (scene, shows, facts) =
    let now = attachments_with scene.attachment_of id (Leaving (scene.given + 1) mode ats) in
    let next : Scene = record (with_ticket scene (leave_commands id)) { attachment_of = now } in
    let leaves_so : AttachesOne old new id (Leaving (scene.given + 1) mode ats) = rw shows.given leaves in (
      next,
      ticket_shows old new scene commands (leave_commands id) shows queues scene.history now (agrees scene.history shows.ledger) (attached_as old new scene id (Leaving (scene.given + 1) mode ats) shows leaves_so)
          (λ d. rw (queues.cached.fences, leaves d) (goes d (id == d) refl)),
      facts_kept (Detach id) scene next walks walks refl facts (
        mode,
        ats,
        shows.attachments id ∙ attached,
        (λ page. (shows.ledger.pages id page).holds ∙ (nothing page).0),
        (λ page ticket pair. none_in (lingering_at scene.history id page) (ticket, pair) (nothing_lingers old scene id page shows (nothing page).1)),
        refl,
      ),
    )
  where
    goes : (d : ℕ) (b : Bool) → (id == d) ≡ b
        → GoesInOrder old.fence_of d (if b then Leaving (old.given + 1) mode ats else old.attachment_of d) (scene.waiting ++ (leave_commands id ++ Fence (scene.last_fence + 1) ∷ []))
    goes d true is =
        let same : id ≡ d = eqb-true id d is in
        let ticket : scene.last_fence + 1 ≡ old.fence_of (old.given + 1) = ap (λ n. n + 1) shows.last_fence ∙ sym queues.next_fence in
        subst (λ n. ComeBefore d n (scene.waiting ++ (leave_commands id ++ Fence (scene.last_fence + 1) ∷ []))) ticket
        (subst (λ e. ComeBefore e (scene.last_fence + 1) (scene.waiting ++ (leave_commands id ++ Fence (scene.last_fence + 1) ∷ []))) same (detached_goes scene id (scene.last_fence + 1)))
    goes d false is = detach_goes old scene id (scene.last_fence + 1) d mode ats (old.attachment_of d) attached refl (shows.leaving d)

-- POLL, which confirms so many tickets

-- the device leaves, under a ticket after the first and up to the last
abbrev pub HasLeft : Attachment → ℕ → ℕ → Type 0
HasLeft Detached first last = ⊥
HasLeft (Attached mode ats) first last = ⊥
HasLeft (Quarantined ticket mode ats) first last = ⊥
HasLeft (Leaving ticket mode ats) first last = (first < ticket) × (ticket ≤ last)

-- no translation is cached of a device that leaves: it holds nothing, and nothing lingers for it
pub none_cached : (scene : Scene) (copy : Copy) (a : Attachment) (first last : ℕ) → IsFaithful scene → scene.attachment_of copy.device ≡ a → HasLeft a first last → ¬ Contains scene.translations copy
none_cached scene copy Detached first last facts is left there = left
none_cached scene copy (Attached mode ats) first last facts is left there = left
none_cached scene copy (Quarantined ticket mode ats) first last facts is left there = left
none_cached scene copy (Leaving ticket mode ats) first last facts is left there =
    let fits : GrantsFit scene.history copy.device (Leaving ticket mode ats) = subst (GrantsFit scene.history copy.device) is (facts.order.grants copy.device) in
    let backed = facts.translations copy there in
    elim backed.3 [
      | inl holds ↦ let none = fits.0 backed.0 in none_some copy.pair.0 backed.1 (sym none ∙ holds)
      | inr (under, released, still) ↦ fits.1 backed.0 under (copy.pair.0, backed.1) released
    ]
  where
    none_some : (frame : ℕ) (rights : Rights) → ◌≡◌ {A = Option Pair} None (Some (frame, rights)) → ⊥
    none_some frame rights same = cc

-- nor is an invalidation of its translations queued, once its fence is done
none_queued : (fence_of : ℕ → ℕ) (scene : Scene) (device : ℕ) (extent : Extent) (a : Attachment) (first n : ℕ) → IsFaithful scene → GoesInOrder fence_of device a scene.waiting
    → HasLeft a first (first + n) → AreDone fence_of first n scene.completed → ¬ Contains scene.waiting (DropTranslations device extent)
none_queued fence_of scene device extent Detached first n facts goes left done there = left
none_queued fence_of scene device extent (Attached mode ats) first n facts goes left done there = left
none_queued fence_of scene device extent (Quarantined ticket mode ats) first n facts goes left done there = left
none_queued fence_of scene device extent (Leaving ticket mode ats) first n facts goes left done there =
    none_left device (fence_of ticket) scene.completed scene.last_fence extent scene.waiting goes facts.order.fences (done ticket left.0 left.1) there

-- who leaves still does so in order, or has left
goes_once : (fence_of : ℕ → ℕ) (d ticket : ℕ) (a : Attachment) (waiting : List QueuedCommand) → GoesInOrder fence_of d a waiting
    → GoesInOrder fence_of d (attachment_once_confirmed ticket a) waiting
goes_once fence_of d ticket Detached waiting goes = tt
goes_once fence_of d ticket (Attached mode ats) waiting goes = tt
goes_once fence_of d ticket (Quarantined own mode ats) waiting goes = tt
goes_once fence_of d ticket (Leaving own mode ats) waiting goes = by (ticket == own)
  where
    by : (b : Bool) → GoesInOrder fence_of d (if b then Detached else Leaving own mode ats) waiting
    by true = tt
    by false = goes

goes_after : (fence_of : ℕ → ℕ) (first n d : ℕ) (attachment_of : ℕ → Attachment) (waiting : List QueuedCommand) → GoesInOrder fence_of d (attachment_of d) waiting
    → GoesInOrder fence_of d (left_after first n attachment_of d) waiting
goes_after fence_of first zero d attachment_of waiting goes = goes
goes_after fence_of first (suc n) d attachment_of waiting goes = goes_once fence_of d (first + n + 1) (left_after first n attachment_of d) waiting (goes_after fence_of first n d attachment_of waiting goes)

pub record ConfirmsSome (old new : Values) (n rest : ℕ) : Type 0 where
  pub many : old.given - old.confirmed ≡ n + rest
  pub done : AreDone old.fence_of old.confirmed n old.completed
  pub agrees : (h : History) → Agrees old.ledger h → Agrees new.ledger (confirmed_from (old.confirmed + 1) n h)
  pub attachments : (d : ℕ) → new.attachment_of d ≡ left_after old.confirmed n old.attachment_of d
  pub address : new.address ≡ old.address
  pub waiting : new.waiting ≡ old.waiting
  pub completed : new.completed ≡ old.completed
  pub last_fence : new.last_fence ≡ old.last_fence
  pub fences : new.fence_of ≡ old.fence_of
  pub stopped : new.is_stopped ≡ old.is_stopped
  pub given : new.given ≡ old.given
  pub confirmed : new.confirmed ≡ old.confirmed + n
  pub so_far : new.so_far ≡ old.so_far
  pub in_flight : new.in_flight ≡ old.in_flight
  pub kinds : (d : ℕ) → new.kind_of d ≡ old.kind_of d
  pub contexts : (d : ℕ) → new.is_cached d ≡ true → old.is_cached d ≡ true
  pub spaces : (device : ℕ) (space : Space) → old.space_of device ≡ Some space
      → (new.space_of device ≡ Some space) ⊎ HasLeft (old.attachment_of device) old.confirmed (old.confirmed + n)
  pub translations : new.translations ≡ old.translations
  pub fence_snapshot : new.fence_snapshot ≡ old.fence_snapshot
  pub traffic : new.traffic ≡ old.traffic

left_alike : (first n : ℕ) (one other : ℕ → Attachment) (d : ℕ) → ((e : ℕ) → one e ≡ other e) → left_after first n one d ≡ left_after first n other d
left_alike first zero one other d same = same d
left_alike first (suc n) one other d same = ap (attachment_once_confirmed (first + n + 1)) (left_alike first n one other d same)

pub poll_scene : (old new : Values) (n rest : ℕ) → ConfirmsSome old new n rest → (walks : List Walk) → HasSceneWith old walks → HasSceneWith new walks
poll_scene old new n rest confirms_some walks (scene, shows, facts) =
    let c = shows.confirmed in
    let pending : scene.pending ≡ pending_after old.fence_of scene.confirmed (n + rest) =
    shows.pending ∙ ap (pending_after old.fence_of old.confirmed) confirms_some.many ∙ ap (λ k. pending_after old.fence_of k (n + rest)) (sym c) in
    let done : AreDone old.fence_of scene.confirmed n scene.completed = rw (shows.confirmed, shows.completed) confirms_some.done in
    let left : new.given - new.confirmed ≡ rest = omega (arith, confirms_some.many, confirms_some.given, confirms_some.confirmed) in (
      confirmed_scene old.fence_of scene n rest,
      record {
        ledger = rw c (confirms_some.agrees scene.history shows.ledger);
        waiting = rw (confirms_some.address, confirms_some.waiting) (queued_still old.address old.space_of new.space_of old.waiting scene.waiting stay shows.waiting);
        completed = shows.completed ∙ sym confirms_some.completed;
        last_fence = shows.last_fence ∙ sym confirms_some.last_fence;
        pending = ap (λ k. pending_after old.fence_of k rest) (ap (λ k. k + n) c ∙ sym confirms_some.confirmed) ∙ ap (pending_after old.fence_of new.confirmed) (sym left)
            ∙ ap (λ f. pending_after f new.confirmed (new.given - new.confirmed)) (sym confirms_some.fences);
        given = shows.given ∙ sym confirms_some.given;
        confirmed = ap (λ k. k + n) c ∙ sym confirms_some.confirmed;
        accepted = shows.accepted ∙ sym confirms_some.so_far;
        in_flight = shows.in_flight ∙ sym confirms_some.in_flight;
        kinds = λ d. shows.kinds d ∙ sym (confirms_some.kinds d);
        attachments = λ d. ap (λ k. left_after k n scene.attachment_of d) c ∙ left_alike old.confirmed n scene.attachment_of old.attachment_of d shows.attachments ∙ sym (confirms_some.attachments d);
        contexts = λ d is. shows.contexts d (confirms_some.contexts d is);
        translations = still;
        fence_snapshot = rw confirms_some.fence_snapshot shows.fence_snapshot;
        leaving = λ d. rw (confirms_some.fences, confirms_some.attachments d) (goes_after old.fence_of old.confirmed n d old.attachment_of scene.waiting (shows.leaving d));
        traffic = shows.traffic ∙ sym confirms_some.traffic;
        stopped = shows.stopped ∙ sym confirms_some.stopped;
      },
      confirm_all old.fence_of scene n rest walks facts pending done,
    )
  where
    done_now : AreDone old.fence_of old.confirmed n scene.completed
    done_now = rw shows.completed confirms_some.done

    stay : SpacesStay old.space_of new.space_of scene.waiting
    stay device space extent there own = elim (confirms_some.spaces device space own) [
      | inl now ↦ now
      | inr left ↦ absurd (none_queued old.fence_of scene device extent (old.attachment_of device) old.confirmed n facts.copies (shows.leaving device) left done_now there)
    ]

    still : (key : Key) (translation : Translation) → new.translations key ≡ Some translation → IsSomebodys new.space_of scene.translations key translation
    still key translation at =
        let was = shows.translations key translation (sym (ap (λ c. c key) confirms_some.translations) ∙ at) in
        elim (confirms_some.spaces was.device key.0 was.own) [
          | inl now ↦ record { device = was.device; own = now; there = was.there }
          | inr left ↦ absurd (none_cached scene (copy_of was.device key.1 translation) (old.attachment_of was.device) old.confirmed (old.confirmed + n) facts.copies (shows.attachments was.device) left was.there)
        ]
