-- All that hardware and driver do where walks take several events: what iom_coherence lists, and what becomes of a walk.
use Rattle.std.specs.Prelude.{◌≡◌, ℕ, true, false, ◌==◌, List, [], ◌∷◌, map, Contains, ⊤}
use Rattle.iom_base.specs.declared.access.AccessKind.TheVariants.{Read}
use Rattle.iom_base.specs.declared.rights.Rights.{Rights}
use Rattle.iom_base.specs.Rights.{allows}
use Rattle.iom_ledger.specs.History.{Holds}
use Rattle.iom_coherence.specs.Scene.{Scene}
use Rattle.iom_coherence.specs.Attachments.{IsAttached}
use Rattle.iom_coherence.specs.Among.{AreAmong, AreAmongWith}
use Rattle.iom_coherence.specs.Transitions.{Transition, Revive, FetchIotinval, FetchIodir, Reset, Occurs}
use Rattle.iom_walk_coherence.specs.Walks.{Walk, Standing, InDirectory, InTables, InGuestTable, SteppedScene, walk_at, begun_anew}

pub data SteppedTransition : Type 0 where
  -- what occurs to the scene
  OfScene : (transition : Transition) → SteppedTransition
  -- a request's walk begins, with its first load there
  BeginWalk : (device : ℕ) (standing : Standing) → SteppedTransition
  -- a walk makes a load that doesn't end it
  GoOn : (device : ℕ) (from to : Standing) → SteppedTransition
  -- a walk ends, with an answer or without, or is given up
  EndWalk : SteppedTransition

-- each of these is one of the walks, begun anew
abbrev pub AreBegunAnew : List Walk → List Walk → Type 0
AreBegunAnew left walks = AreAmong left (map begun_anew walks)

-- each of these is one of the walks, and none is this device's
abbrev pub AreOfOthers : List Walk → ℕ → List Walk → Type 0
AreOfOthers left device walks = (walk : Walk) → Contains left walk → Contains walks walk × ((device == walk.device) ≡ false)

-- what it leaves of the walks: by IOTINVAL and IODIR each begins anew, and a device that is reset has none
abbrev pub LeavesWalks : Transition → List Walk → List Walk → Type 0
LeavesWalks (FetchIotinval device extent) walks left = AreBegunAnew left walks
LeavesWalks (FetchIodir device) walks left = AreBegunAnew left walks
LeavesWalks (Revive device) walks left = AreOfOthers left device walks
LeavesWalks (Reset device) walks left = AreOfOthers left device walks
LeavesWalks transition walks left = left ≡ walks

-- where the first load may be: a cached context saves the loads of the directory
abbrev pub MayBegin : Scene → ℕ → Standing → Type 0
MayBegin scene device InDirectory = ⊤
MayBegin scene device InTables = Contains scene.contexts device
MayBegin scene device (InGuestTable frame) = ⊥

-- Where the next load may be, after one. The last load in the directory gives a context, which only an attached device has. In both stages the last load of
-- the second, for an entry of the guest's tables, gives the frame in which that lies: what the device holds then.
abbrev pub MayGoOn : Scene → ℕ → Standing → Standing → Type 0
MayGoOn scene device InDirectory InDirectory = ⊤
MayGoOn scene device InDirectory InTables = IsAttached (scene.attachment_of device)
MayGoOn scene device InDirectory (InGuestTable frame) = ⊥
MayGoOn scene device InTables InDirectory = ⊥
MayGoOn scene device InTables InTables = ⊤
MayGoOn scene device InTables (InGuestTable frame) =
    (page : ℕ) × (rights : Rights) × Holds scene.history device page (frame, rights) × (allows rights Read ≡ true)
MayGoOn scene device (InGuestTable frame) InDirectory = ⊥
MayGoOn scene device (InGuestTable frame) InTables = ⊤
MayGoOn scene device (InGuestTable frame) (InGuestTable other) = ⊥

-- it may occur in the one scene, and leaves the other
abbrev pub SteppedOccurs : SteppedTransition → SteppedScene → SteppedScene → Type 0
SteppedOccurs (OfScene transition) old new = Occurs transition old.scene new.scene × LeavesWalks transition old.walks new.walks
SteppedOccurs (BeginWalk device standing) old new =
    MayBegin old.scene device standing
    × AreAmongWith new.walks (walk_at device standing) old.walks × (new.scene ≡ old.scene)
SteppedOccurs (GoOn device from to) old new =
    Contains old.walks (walk_at device from) × MayGoOn old.scene device from to
    × AreAmongWith new.walks (walk_at device to) old.walks × (new.scene ≡ old.scene)
SteppedOccurs EndWalk old new = AreAmong new.walks old.walks × (new.scene ≡ old.scene)

-- these may occur one after another, and leave the scene
abbrev pub SteppedInTurn : SteppedScene → List SteppedTransition → SteppedScene → Type 0
SteppedInTurn old [] new = new ≡ old
SteppedInTurn old (first ∷ others) new = (between : SteppedScene) × SteppedOccurs first old between × SteppedInTurn between others new

-- those of them that occur to the scene
abbrev pub of_scene : List SteppedTransition → List Transition
of_scene [] = []
of_scene (OfScene transition ∷ others) = transition ∷ of_scene others
of_scene (BeginWalk device standing ∷ others) = of_scene others
of_scene (GoOn device from to ∷ others) = of_scene others
of_scene (EndWalk ∷ others) = of_scene others
