-- What the facts on copies give the layers above.
use Rattle.std.specs.Prelude.{◌≡◌, ℕ, ◌⊎◌, Bool, true, false, List, [], Contains, None, ⊤, ◌≤◌, ◌∷◌, ◌<◌}
use Rattle.iom_base.specs.declared.access.AccessKind.{AccessKind}
use Rattle.iom_base.specs.Rights.{allows}
use Rattle.iom_ledger.specs.History.{History, Pair, Holds, Lingers, May, confirms}
use Rattle.iom_machine.specs.declared.state.Attachment.{Attachment}
use Rattle.iom_machine.specs.declared.state.Attachment.TheVariants.{Detached, Attached, Quarantined, Leaving}
use Rattle.iom_coherence.specs.Scene.{Copy, AccessInFlight, Invalidation, Answer, Scene}
use Rattle.iom_coherence.specs.ToCome.{InOrder, is_fence}
use Rattle.iom_coherence.specs.Attachments.{in_both_stages, IsKnown}
use Rattle.iom_coherence.specs.Copies.{IsInUse}
use Rattle.iom_coherence.specs.Faithful.{IsFaithful}
use Rattle.iom_coherence.specs.Transitions.{Transition, CompleteFence, Occurs, OccurInTurn}
use Rattle.iom_coherence.specs.Holdings.{SayTheSame}

-- The facts, and what they are for.

-- power-on: nothing is plugged in, granted, queued, cached, sent or in flight
abbrev pub scene_at_power_on : Scene
scene_at_power_on = record {
  history = [];
  waiting = [];
  completed = 0;
  last_fence = 0;
  pending = [];
  given = 0;
  confirmed = 0;
  fence_snapshot = None;
  is_stopped = false;
  accepted = 0;
  in_flight = [];
  kind_of = λ device. None;
  attachment_of = λ device. Detached;
  contexts = [];
  translations = [];
  entries = [];
  epoch_of = λ device. 0;
  messages = [];
  slots = [];
  last_serial = 0;
}

-- the same, with all numbers of fences up to one used up
abbrev pub scene_after_fence : ℕ → Scene
scene_after_fence number = record scene_at_power_on { last_fence = number }

-- Whatever occurs, all facts stay.
abbrev pub TransitionsKeepFacts : Type 0
TransitionsKeepFacts = (transition : Transition) (old new : Scene) → IsFaithful old → Occurs transition old new → IsFaithful new

-- So they do where several things occur one after another, as in most events.
abbrev pub TurnsKeepFacts : Type 0
TurnsKeepFacts = (transitions : List Transition) (old new : Scene) → IsFaithful old → OccurInTurn old transitions new → IsFaithful new

-- A scene's facts are those of each history that says the same of what is held and what lingers, and confirms no later ticket: so they hold of each with
-- which a ledger agrees, if they do of one.
abbrev pub FactsAreOfAllHistories : Type 0
FactsAreOfAllHistories = (scene : Scene) (other : History) → IsFaithful scene → SayTheSame scene.history other
    → ((ticket : ℕ) → confirms other ticket ≡ true → ticket ≤ scene.confirmed) → IsFaithful (record scene { history = other })

-- each access in flight may still reach its frame
abbrev pub AccessesMay : Scene → Type 0
AccessesMay scene = (access : AccessInFlight) → Contains scene.in_flight access → May scene.history access.device access.frame access.kind

-- Where the facts hold, each access in flight may still reach its frame.
abbrev pub FaithfulAccessesMay : Type 0
FaithfulAccessesMay = (scene : Scene) → IsFaithful scene → AccessesMay scene

-- After any transitions from power-on, whatever numbers of fences are used up then, each access in flight may still reach its frame.
abbrev pub AccessesAlwaysMay : Type 0
AccessesAlwaysMay = (number : ℕ) (transitions : List Transition) (scene : Scene) → OccurInTurn (scene_after_fence number) transitions scene → AccessesMay scene

-- What a copy names.

-- in one stage the copy is what its device holds at its page, or what lingers there; in both stages its frame may be reached as its right says
abbrev pub IsReachable : Bool → History → Copy → Type 0
IsReachable false history copy = Holds history copy.device copy.page copy.pair ⊎ Lingers history copy.device copy.page copy.pair
IsReachable true history copy = (kind : AccessKind) → allows copy.pair.1 kind ≡ true → May history copy.device copy.pair.0 kind

-- this is so of the copy in the scene
abbrev pub NamesReachable : Scene → Copy → Type 0
NamesReachable scene copy = IsReachable (in_both_stages (scene.attachment_of copy.device)) scene.history copy

-- in one stage the copy, if its page is held, is what is held there
abbrev pub NamesHeld : Scene → Copy → Type 0
NamesHeld scene copy = in_both_stages (scene.attachment_of copy.device) ≡ false
    → (pair : Pair) → Holds scene.history copy.device copy.page pair → copy.pair ≡ pair

-- this is so of each cached translation
abbrev pub OfTranslations : (Scene → Copy → Type 0) → Type 0
OfTranslations Fact = (scene : Scene) (copy : Copy) → IsFaithful scene → Contains scene.translations copy → Fact scene copy

-- this is so of each entry of a device's cache that may be used
abbrev pub OfEntries : (Scene → Copy → Type 0) → Type 0
OfEntries Fact = (scene : Scene) (copy : Copy) → IsFaithful scene → Contains scene.entries copy → IsInUse scene copy.device → Fact scene copy

-- this is so of each answer that its device would take, and might then use
abbrev pub OfAnswers : (Scene → Copy → Type 0) → Type 0
OfAnswers Fact = (scene : Scene) (epoch : ℕ) (copy : Copy) → IsFaithful scene → Contains scene.messages (Answer epoch copy)
    → epoch ≡ scene.epoch_of copy.device → IsInUse scene copy.device → Fact scene copy

-- What is forgotten.

-- the ticket isn't confirmed, by the history and by the driver's last ticket
abbrev pub IsUnconfirmed : Scene → ℕ → Type 0
IsUnconfirmed scene ticket = (confirms scene.history ticket ≡ false) × (scene.confirmed < ticket)

-- the ticket under which a device leaves or is quarantined isn't confirmed
abbrev pub IsNotOver : Scene → Attachment → Type 0
IsNotOver scene Detached = ⊥
IsNotOver scene (Attached mode ats) = ⊤
IsNotOver scene (Quarantined ticket mode ats) = IsUnconfirmed scene ticket
IsNotOver scene (Leaving ticket mode ats) = IsUnconfirmed scene ticket

-- A cached context is of a device that is attached, or that is quarantined or leaving under a ticket that isn't confirmed: so a detach that is confirmed gives
-- back tables that no cached context names.
abbrev pub ContextsAreNotOver : Type 0
ContextsAreNotOver = (scene : Scene) (device : ℕ) → IsFaithful scene → Contains scene.contexts device → IsNotOver scene (scene.attachment_of device)

-- the copy's device is attached, quarantined or leaving
abbrev pub IsOfKnown : Scene → Copy → Type 0
IsOfKnown scene copy = IsKnown (scene.attachment_of copy.device)

-- Each access in flight is of a device that is attached, quarantined or leaving.
abbrev pub AccessesAreKnown : Type 0
AccessesAreKnown = (scene : Scene) (access : AccessInFlight) → IsFaithful scene → Contains scene.in_flight access → IsKnown (scene.attachment_of access.device)

-- What a fence waits for.

-- While a slot is open no fence is done.
abbrev pub OpenSlotsHoldFences : Type 0
OpenSlotsHoldFences = (scene new : Scene) (slot : Invalidation) (fence : ℕ) → IsFaithful scene → Contains scene.slots slot → ¬ Occurs (CompleteFence fence) scene new

-- From a timeout to the next restart no fence is done.
abbrev pub StoppedQueuesHoldFences : Type 0
StoppedQueuesHoldFences = (scene new : Scene) (fence : ℕ) → IsFaithful scene → scene.is_stopped ≡ true → ¬ Occurs (CompleteFence fence) scene new

-- No fence stands in the queue whose number the completion word has reached: what a poll confirms waits for no command any more.
abbrev pub DoneFencesAreGone : Type 0
DoneFencesAreGone = (scene : Scene) (fence : ℕ) → IsFaithful scene → fence ≤ scene.completed → ¬ InOrder (is_fence fence ∷ []) scene.waiting
