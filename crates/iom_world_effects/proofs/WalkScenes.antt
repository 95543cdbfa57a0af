-- What a request whose walk takes several events does to a scene, load by load: the facts on copies and on walks stay. No world has such walks yet.
use Rattle.std.proofs.Common.{◌≡◌, ◌∙◌, ℕ, Bool, true, List, Some, refl}
use Rattle.std.specs.Bool.{⊤}
use Rattle.std.specs.Prelude.{Contains}
use Rattle.iom_base.specs.declared.access.AccessKind.TheVariants.{Read}
use Rattle.iom_base.specs.declared.mode.Mode.{Mode}
use Rattle.iom_base.specs.declared.rights.Rights.{Rights}
use Rattle.iom_base.specs.Rights.{allows}
use Rattle.iom_coherence.specs.Among.{AreAmong, AreAmongWith}
use Rattle.iom_coherence.specs.Scene.{Scene}
use Rattle.iom_ledger.specs.Shown.{held_in}
use Rattle.iom_machine.specs.declared.state.Attachment.TheVariants.{Attached}
use Rattle.iom_walk_coherence.specs.Transitions.{SteppedTransition, BeginWalk, GoOn, EndWalk, SteppedOccurs, MayBegin, MayGoOn}
use Rattle.iom_walk_coherence.specs.Walks.{Walk, Standing, InDirectory, InTables, InGuestTable, walk_at}
use Rattle.iom_walk_coherence.proofs.TransitionLemmas.{transitions_keep_all_facts}
use Rattle.iom_world_effects.specs.Scenes.{Values, IsSceneOf, FactsHold, HasSceneWith}

-- of what is under way alone, nothing else of a scene changes
walks_kept : (transition : SteppedTransition) (values : Values) (scene : Scene) (walks left : List Walk)
    → SteppedOccurs transition (record { scene = scene; walks = walks }) (record { scene = scene; walks = left })
    → IsSceneOf values scene → FactsHold scene walks → HasSceneWith values left
walks_kept transition values scene walks left occurs shows facts =
    let both = transitions_keep_all_facts transition (record { scene = scene; walks = walks }) (record { scene = scene; walks = left }) (facts.copies, facts.standing) occurs in
    (scene, shows, record { copies = both.0; standing = both.1 })

-- where the first load may be: in tables where the device's context is cached
abbrev pub MayBeginThere : Values → ℕ → Standing → Type 0
MayBeginThere values id InDirectory = ⊤
MayBeginThere values id InTables = values.is_cached id ≡ true
MayBeginThere values id (InGuestTable frame) = ⊥

begins_there : (values : Values) (scene : Scene) (id : ℕ) (standing : Standing) → IsSceneOf values scene → MayBeginThere values id standing → MayBegin scene id standing
begins_there values scene id InDirectory shows may = may
begins_there values scene id InTables shows may = shows.contexts id may
begins_there values scene id (InGuestTable frame) shows may = may

-- A WALK BEGINS
pub begin_scene : (values : Values) (id : ℕ) (standing : Standing) (walks left : List Walk) → MayBeginThere values id standing
    → AreAmongWith left (walk_at id standing) walks → HasSceneWith values walks → HasSceneWith values left
begin_scene values id standing walks left may among (scene, shows, facts) =
    walks_kept (BeginWalk id standing) values scene walks left (begins_there values scene id standing shows may, among, refl) shows facts

-- Where the next load may be, after one. A load in the directory gives the context of an attached device. In both stages the last load of the second, for an
-- entry of the guest's tables, gives the frame in which that lies: one that the device holds, with a right to read.
abbrev pub MayGoOnThere : Values → ℕ → Standing → Standing → Type 0
MayGoOnThere values id InDirectory InDirectory = ⊤
MayGoOnThere values id InDirectory InTables = (mode : Mode) × (ats : Bool) × (values.attachment_of id ≡ Attached mode ats)
MayGoOnThere values id InDirectory (InGuestTable frame) = ⊥
MayGoOnThere values id InTables InDirectory = ⊥
MayGoOnThere values id InTables InTables = ⊤
MayGoOnThere values id InTables (InGuestTable frame) =
    (page : ℕ) × (rights : Rights) × (held_in values.ledger id page ≡ Some (frame, rights)) × (allows rights Read ≡ true)
MayGoOnThere values id (InGuestTable frame) InDirectory = ⊥
MayGoOnThere values id (InGuestTable frame) InTables = ⊤
MayGoOnThere values id (InGuestTable frame) (InGuestTable other) = ⊥

goes_there : (values : Values) (scene : Scene) (id : ℕ) (from to : Standing) → IsSceneOf values scene → MayGoOnThere values id from to → MayGoOn scene id from to
goes_there values scene id InDirectory InDirectory shows may = may
goes_there values scene id InDirectory InTables shows (mode, ats, attached) = rw (shows.attachments id ∙ attached) refl
goes_there values scene id InDirectory (InGuestTable frame) shows may = may
goes_there values scene id InTables InDirectory shows may = may
goes_there values scene id InTables InTables shows may = may
goes_there values scene id InTables (InGuestTable frame) shows (page, rights, held, allowed) = (page, rights, (shows.ledger.pages id page).holds ∙ held, allowed)
goes_there values scene id (InGuestTable frame) InDirectory shows may = may
goes_there values scene id (InGuestTable frame) InTables shows may = may
goes_there values scene id (InGuestTable frame) (InGuestTable other) shows may = may

-- A WALK MAKES A LOAD that doesn't end it
pub go_on_scene : (values : Values) (id : ℕ) (from to : Standing) (walks left : List Walk) → Contains walks (walk_at id from) → MayGoOnThere values id from to
    → AreAmongWith left (walk_at id to) walks → HasSceneWith values walks → HasSceneWith values left
go_on_scene values id from to walks left there may among (scene, shows, facts) =
    walks_kept (GoOn id from to) values scene walks left (there, goes_there values scene id from to shows may, among, refl) shows facts

-- A WALK ENDS, or is given up
pub end_scene : (values : Values) (walks left : List Walk) → AreAmong left walks → HasSceneWith values walks → HasSceneWith values left
end_scene values walks left among (scene, shows, facts) = walks_kept EndWalk values scene walks left (among, refl) shows facts
