-- What the facts on walks give the layers above.
use Rattle.std.specs.Prelude.{◌≡◌, ℕ, List, map, Contains}
use Rattle.iom_base.specs.declared.access.AccessKind.TheVariants.{Read}
use Rattle.iom_ledger.specs.History.{History, May, NoneMayReach}
use Rattle.iom_machine.specs.declared.state.Attachment.TheVariants.{Detached}
use Rattle.iom_coherence.specs.Scene.{Scene}
use Rattle.iom_coherence.specs.Faithful.{IsFaithful}
use Rattle.iom_coherence.specs.Holdings.{SayTheSame}
use Rattle.iom_coherence.specs.Laws.{scene_after_fence, IsNotOver}
use Rattle.iom_coherence.specs.Transitions.{Transition, OccurInTurn}
use Rattle.iom_walk_coherence.specs.Walks.{Standing, InDirectory, InTables, InGuestTable, SteppedScene, walk_at, without_walks}
use Rattle.iom_walk_coherence.specs.Faithful.{AreFaithfulWalks}
use Rattle.iom_walk_coherence.specs.Transitions.{SteppedTransition, OfScene, SteppedOccurs, SteppedInTurn, of_scene}

-- all facts hold, of the scene and of its walks
abbrev pub IsFaithfulStepped : SteppedScene → Type 0
IsFaithfulStepped stepped = IsFaithful stepped.scene × AreFaithfulWalks stepped.scene stepped.walks

-- Whatever occurs, all facts stay.
abbrev pub SteppedTransitionsKeepFacts : Type 0
SteppedTransitionsKeepFacts = (transition : SteppedTransition) (old new : SteppedScene)
    → IsFaithfulStepped old → SteppedOccurs transition old new → IsFaithfulStepped new

-- So they do where several things occur one after another, as in most events.
abbrev pub SteppedTurnsKeepFacts : Type 0
SteppedTurnsKeepFacts = (transitions : List SteppedTransition) (old new : SteppedScene)
    → IsFaithfulStepped old → SteppedInTurn old transitions new → IsFaithfulStepped new

-- And so after any transitions from power-on, whatever numbers of fences are used up then.
abbrev pub SteppedScenesAreFaithful : Type 0
SteppedScenesAreFaithful = (number : ℕ) (transitions : List SteppedTransition) (stepped : SteppedScene)
    → SteppedInTurn (without_walks (scene_after_fence number)) transitions stepped → IsFaithfulStepped stepped

-- The facts on walks are those of each history that says the same of what is held and what lingers.
abbrev pub WalksAreOfAllHistories : Type 0
WalksAreOfAllHistories = (stepped : SteppedScene) (other : History) → AreFaithfulWalks stepped.scene stepped.walks
    → SayTheSame stepped.scene.history other → AreFaithfulWalks (record stepped.scene { history = other }) stepped.walks

-- What occurs to a scene beside walks is what iom_coherence says, so all its laws hold of it.
abbrev pub SteppedTurnsAreTurns : Type 0
SteppedTurnsAreTurns = (transitions : List SteppedTransition) (old new : SteppedScene)
    → SteppedInTurn old transitions new → OccurInTurn old.scene (of_scene transitions) new.scene

-- And whatever may occur there may occur here, where no walk is under way.
abbrev pub TurnsAreSteppedTurns : Type 0
TurnsAreSteppedTurns = (transitions : List Transition) (old new : Scene)
    → OccurInTurn old transitions new → SteppedInTurn (without_walks old) (map OfScene transitions) (without_walks new)

-- What a walk stands in.

-- a walk of the device stands there
abbrev pub StandsIn : SteppedScene → ℕ → Standing → Type 0
StandsIn stepped device standing = Contains stepped.walks (walk_at device standing)

-- A walk that stands in tables is of a device that is attached, or that is quarantined or leaving under a ticket that isn't confirmed.
abbrev pub WalksAreNotOver : Type 0
WalksAreNotOver = (stepped : SteppedScene) (device : ℕ) → IsFaithfulStepped stepped
    → StandsIn stepped device InTables → IsNotOver stepped.scene (stepped.scene.attachment_of device)

-- Neither is one that stands in a table of the guest's; and its device may read the frame where that lies: it holds it, or released it under a ticket that isn't
-- confirmed.
abbrev pub GuestTablesMayBeRead : Type 0
GuestTablesMayBeRead = (stepped : SteppedScene) (device frame : ℕ) → IsFaithfulStepped stepped
    → StandsIn stepped device (InGuestTable frame)
    → IsNotOver stepped.scene (stepped.scene.attachment_of device) × May stepped.scene.history device frame Read

-- So a detach that is confirmed gives back tables in which no walk stands: those of a detached device stand in the directory.
abbrev pub WalksOfDetachedAreInDirectory : Type 0
WalksOfDetachedAreInDirectory = (stepped : SteppedScene) (device : ℕ) (standing : Standing) → IsFaithfulStepped stepped
    → stepped.scene.attachment_of device ≡ Detached → StandsIn stepped device standing → standing ≡ InDirectory

-- And no walk loads from a frame that is free, whoever may get it next.
abbrev pub FreeFramesHaveNoWalks : Type 0
FreeFramesHaveNoWalks = (stepped : SteppedScene) (device frame : ℕ) → IsFaithfulStepped stepped
    → NoneMayReach stepped.scene.history frame → ¬ StandsIn stepped device (InGuestTable frame)
