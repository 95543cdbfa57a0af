-- Whatever occurs, all facts on walks stay.
use Rattle.std.proofs.Common.{◌≡◌, ℕ, ◌⊎◌, inl, inr, List, [], ◌∷◌, map, Contains, refl, sym, ap, subst}
use Rattle.iom_coherence.proofs.ListLemmas.{cons_cases, in_none}
use Rattle.iom_coherence.proofs.TransitionLemmas.{faithful_after_fence, transitions_keep_facts}
use Rattle.iom_coherence.specs.Among.{AreAmongWith}
use Rattle.iom_coherence.specs.DriverCalls.{attachments_with}
use Rattle.iom_coherence.specs.Faithful.{IsFaithful}
use Rattle.iom_coherence.specs.Laws.{scene_after_fence}
use Rattle.iom_coherence.specs.Queue.{Fence, Invalidate}
use Rattle.iom_coherence.specs.Scene.{Scene}
use Rattle.iom_coherence.specs.Transitions.{Accept, Attach, CarryMessages, CompleteFence, Confirm, DeliverAnswer, DeliverCompletion, DeliverRequest, Detach, FetchAtsInval, FetchIodir, FetchIotinval, Grant, KeepContext, KeepTranslation, Make, OccurInTurn, Occurs, Plug, Quarantine, Release, Reset, Restart, Revive, TakeSnapshot, TimeOut, Transition}
use Rattle.iom_machine.specs.declared.state.Attachment.TheVariants.{Attached}
use Rattle.iom_walk_coherence.proofs.KeptLemmas.{walks_attached, walks_confirmed, walks_detached, walks_fetched, walks_granted, walks_quarantined, walks_released, walks_restarted}
use Rattle.iom_walk_coherence.proofs.StandingLemmas.{attached-stay, context-stays, spoken_of, unmoved}
use Rattle.iom_walk_coherence.specs.Faithful.{AreFaithfulWalks, IsFaithfulWalk, MayStand}
use Rattle.iom_walk_coherence.specs.Laws.{IsFaithfulStepped, SteppedScenesAreFaithful, SteppedTransitionsKeepFacts, SteppedTurnsAreTurns, SteppedTurnsKeepFacts, TurnsAreSteppedTurns}
use Rattle.iom_walk_coherence.specs.Transitions.{AreBegunAnew, AreOfOthers, BeginWalk, EndWalk, GoOn, LeavesWalks, MayBegin, MayGoOn, OfScene, of_scene}
use Rattle.iom_walk_coherence.specs.Walks.{InDirectory, InGuestTable, InTables, Standing, SteppedScene, Walk, begun_anew, walk_at, without_walks}

-- a walk that is begun anew stands in the directory
stands_in_directory : (walks : List Walk) (one : Walk) → Contains (map begun_anew walks) one → one.standing ≡ InDirectory
stands_in_directory [] one there = absurd (in_none one there)
stands_in_directory (walk ∷ walks) one there = elim (cons_cases (begun_anew walk) (map begun_anew walks) one there) [
  | inl same ↦ ap (λ (w : Walk). w.standing) (sym same)
  | inr later ↦ stands_in_directory walks one later
]

-- walks that are begun anew stand where they may
anew_stand : (s : Scene) (walks left : List Walk) → AreBegunAnew left walks → AreFaithfulWalks s left
anew_stand s walks left anew walk there = subst (MayStand s walk.device) (sym (stands_in_directory walks walk (anew walk there))) tt

-- fewer walks
fewer : (s : Scene) (device : ℕ) (walks left : List Walk) → AreOfOthers left device walks → AreFaithfulWalks s walks → AreFaithfulWalks s left
fewer s device walks left others fit walk there = fit walk (others walk there).0

-- what is so of one scene and its walks is so of the same
so : (new is : Scene) (left walks : List Walk) → new ≡ is → left ≡ walks → AreFaithfulWalks is walks → AreFaithfulWalks new left
so new is left walks same as_were fit = subst (λ x. AreFaithfulWalks x left) (sym same) (subst (AreFaithfulWalks is) (sym as_were) fit)

-- what the facts on walks speak of is as it was, and so are the walks
beside : (old new : Scene) (walks left : List Walk) → spoken_of new ≡ spoken_of old → left ≡ walks → AreFaithfulWalks old walks → AreFaithfulWalks new left
beside old new walks left same as_were fit = subst (AreFaithfulWalks new) (sym as_were) (unmoved old new walks same fit)

-- What occurs to the scene keeps the facts on walks.
scene_keeps_walks : (transition : Transition) (old new : Scene) (walks left : List Walk) → IsFaithful old → Occurs transition old new → LeavesWalks transition walks left
    → AreFaithfulWalks old walks → AreFaithfulWalks new left
scene_keeps_walks (Plug device kind) old new walks left faithful (none, is) same fit = beside old new walks left (ap spoken_of is) same fit
scene_keeps_walks (Attach device mode ats) old new walks left faithful (at, caches, is) same fit = so new _ left walks is same (walks_attached old device mode ats walks fit)
scene_keeps_walks (Grant device page frame rights) old new walks left faithful (at, none, free, is) same fit = so new _ left walks is same (walks_granted old device page frame rights walks none fit)
scene_keeps_walks (Release device page) old new walks left faithful (mode, ats, at, is) same fit = so new _ left walks is same (walks_released old device page mode ats walks faithful.order fit)
scene_keeps_walks (Detach device) old new walks left faithful (mode, ats, at, holds, lingers, is) same fit = so new _ left walks is same (walks_detached old device mode ats walks fit)
scene_keeps_walks (Quarantine device) old new walks left faithful (mode, ats, at, is) same fit = so new _ left walks is same (walks_quarantined old device mode ats walks faithful.order fit)
scene_keeps_walks (Revive device) old new walks left faithful (ticket, mode, ats, entries, at, over, kept, is) others fit =
    let revived : Scene = record old { attachment_of = attachments_with old.attachment_of device (Attached mode ats) } in
    unmoved revived new left (ap spoken_of is) (fewer revived device walks left others (walks_attached old device mode ats walks fit))
scene_keeps_walks (Restart devices) old new walks left faithful (known, is) same fit = so new _ left walks is same (walks_restarted old devices walks known fit)
scene_keeps_walks (Confirm ticket) old new walks left faithful (fence, later, oldest, done, is) same fit = so new _ left walks is same (walks_confirmed old ticket fence later walks faithful.order oldest done fit)
scene_keeps_walks (KeepContext device) old new walks left faithful (kept, at, among, is) same fit = beside old new walks left (ap spoken_of is) same fit
scene_keeps_walks (KeepTranslation copy) old new walks left faithful (kept, holds, among, is) same fit = beside old new walks left (ap spoken_of is) same fit
scene_keeps_walks (Accept copy kind) old new walks left faithful (in_flight, source, allowed, among, is) same fit = beside old new walks left (ap spoken_of is) same fit
scene_keeps_walks Make old new walks left faithful (made, among, is) same fit = beside old new walks left (ap spoken_of is) same fit
scene_keeps_walks (FetchIotinval device extent) old new walks left faithful occurs anew fit = anew_stand new walks left anew
scene_keeps_walks (FetchIodir device) old new walks left faithful occurs anew fit = anew_stand new walks left anew
scene_keeps_walks (FetchAtsInval device extent) old new walks left faithful (later, messages, head, sent, is) same fit =
    beside (record old { waiting = later }) new walks left (ap spoken_of is) same (walks_fetched old (Invalidate device extent) later walks head refl fit)
scene_keeps_walks (TakeSnapshot fence) old new walks left faithful (later, head, closed, fetches, is) same fit = beside old new walks left (ap spoken_of is) same fit
scene_keeps_walks (CompleteFence fence) old new walks left faithful (later, accepted, head, taken, made, is) same fit =
    beside (record old { waiting = later }) new walks left (ap spoken_of is) same (walks_fetched old (Fence fence) later walks head refl fit)
scene_keeps_walks TimeOut old new walks left faithful is same fit = beside old new walks left (ap spoken_of is) same fit
scene_keeps_walks CarryMessages old new walks left faithful (messages, sent, is) same fit = beside old new walks left (ap spoken_of is) same fit
scene_keeps_walks (DeliverAnswer copy) old new walks left faithful (epoch, kept, there, now, among, is) same fit = beside old new walks left (ap spoken_of is) same fit
scene_keeps_walks (DeliverRequest slot extent) old new walks left faithful (entries, messages, there, kept, sent, is) same fit = beside old new walks left (ap spoken_of is) same fit
scene_keeps_walks (DeliverCompletion slot) old new walks left faithful (slots, messages, there, among, others, sent, is) same fit = beside old new walks left (ap spoken_of is) same fit
scene_keeps_walks (Reset device) old new walks left faithful (entries, kept, is) others fit = unmoved old new left (ap spoken_of is) (fewer old device walks left others fit)

-- one walk stands where it may, and the others are those that were there
with_walk : (s : Scene) (device : ℕ) (standing : Standing) (walks left : List Walk) → MayStand s device standing → AreAmongWith left (walk_at device standing) walks
    → AreFaithfulWalks s walks → AreFaithfulWalks s left
with_walk s device standing walks left may among fit walk there = by (among walk there)
  where
    by : (walk ≡ walk_at device standing) ⊎ Contains walks walk → IsFaithfulWalk s walk
    by (inl same) = subst (IsFaithfulWalk s) (sym same) may
    by (inr old) = fit walk old

-- a walk begins where it may stand
begins : (s : Scene) (device : ℕ) (standing : Standing) → IsFaithful s → MayBegin s device standing → MayStand s device standing
begins s device InDirectory faithful may = tt
begins s device InTables faithful cached = context-stays s device (s.attachment_of device) (faithful.contexts device cached)
begins s device (InGuestTable frame) faithful never = absurd never

-- a walk goes on to where it may stand
goes_on : (s : Scene) (device : ℕ) (from to : Standing) → MayGoOn s device from to → MayStand s device from → MayStand s device to
goes_on s device InDirectory InDirectory may stood = tt
goes_on s device InDirectory InTables attached stood = attached-stay s (s.attachment_of device) attached
goes_on s device InDirectory (InGuestTable frame) never stood = absurd never
goes_on s device InTables InDirectory never stood = absurd never
goes_on s device InTables InTables may stood = stood
goes_on s device InTables (InGuestTable frame) (page, rights, holds, allowed) stood = (stood, (page, rights, inl holds, allowed))
goes_on s device (InGuestTable frame) InDirectory never stood = absurd never
goes_on s device (InGuestTable frame) InTables may stood = stood.0
goes_on s device (InGuestTable frame) (InGuestTable other) never stood = absurd never

-- the scene is as it was, and its walks fit
as_was : (old new : SteppedScene) → new.scene ≡ old.scene → IsFaithful old.scene → AreFaithfulWalks old.scene new.walks → IsFaithfulStepped new
as_was old new same faithful fit = (subst IsFaithful (sym same) faithful, subst (λ x. AreFaithfulWalks x new.walks) (sym same) fit)

pub transitions_keep_all_facts : SteppedTransitionsKeepFacts
transitions_keep_all_facts (OfScene transition) old new (faithful, fit) (occurs, left) =
    (transitions_keep_facts transition old.scene new.scene faithful occurs, scene_keeps_walks transition old.scene new.scene old.walks new.walks faithful occurs left fit)
transitions_keep_all_facts (BeginWalk device standing) old new (faithful, fit) (may, among, same) =
    as_was old new same faithful (with_walk old.scene device standing old.walks new.walks (begins old.scene device standing faithful may) among fit)
transitions_keep_all_facts (GoOn device from to) old new (faithful, fit) (there, may, among, same) =
    as_was old new same faithful (with_walk old.scene device to old.walks new.walks (goes_on old.scene device from to may (fit (walk_at device from) there)) among fit)
transitions_keep_all_facts EndWalk old new (faithful, fit) (among, same) = as_was old new same faithful (λ walk there. fit walk (among walk there))

pub turns_keep_all_facts : SteppedTurnsKeepFacts
turns_keep_all_facts [] old new facts is = subst IsFaithfulStepped (sym is) facts
turns_keep_all_facts (first ∷ others) old new facts (between, now, later) = turns_keep_all_facts others between new (transitions_keep_all_facts first old between facts now) later

pub faithful_without_walks : (number : ℕ) → IsFaithfulStepped (without_walks (scene_after_fence number))
faithful_without_walks number = (faithful_after_fence number, λ walk there. absurd (in_none walk there))

pub stepped_scenes_are_faithful : SteppedScenesAreFaithful
stepped_scenes_are_faithful number transitions stepped run =
    turns_keep_all_facts transitions (without_walks (scene_after_fence number)) stepped (faithful_without_walks number) run

-- What occurs to a scene beside walks is what iom_coherence says.

-- where the scene is as it was, what occurs from there occurs from here
from_there : (old between new : Scene) (transitions : List Transition) → between ≡ old → OccurInTurn between transitions new → OccurInTurn old transitions new
from_there old between new transitions same later = subst (λ x. OccurInTurn x transitions new) same later

pub stepped_turns_are_turns : SteppedTurnsAreTurns
stepped_turns_are_turns [] old new is = ap (λ (x : SteppedScene). x.scene) is
stepped_turns_are_turns (OfScene transition ∷ others) old new (between, now, later) = (between.scene, now.0, stepped_turns_are_turns others between new later)
stepped_turns_are_turns (BeginWalk device standing ∷ others) old new (between, (may, among, same), later) =
    from_there old.scene between.scene new.scene (of_scene others) same (stepped_turns_are_turns others between new later)
stepped_turns_are_turns (GoOn device from to ∷ others) old new (between, (there, may, among, same), later) =
    from_there old.scene between.scene new.scene (of_scene others) same (stepped_turns_are_turns others between new later)
stepped_turns_are_turns (EndWalk ∷ others) old new (between, (among, same), later) =
    from_there old.scene between.scene new.scene (of_scene others) same (stepped_turns_are_turns others between new later)

-- where there are no walks, none are left
leaves_none : (transition : Transition) → LeavesWalks transition [] []
leaves_none (Plug device kind) = refl
leaves_none (Attach device mode ats) = refl
leaves_none (Grant device page frame rights) = refl
leaves_none (Release device page) = refl
leaves_none (Detach device) = refl
leaves_none (Quarantine device) = refl
leaves_none (Revive device) = λ walk there. absurd (in_none walk there)
leaves_none (Restart devices) = refl
leaves_none (Confirm ticket) = refl
leaves_none (KeepContext device) = refl
leaves_none (KeepTranslation copy) = refl
leaves_none (Accept copy kind) = refl
leaves_none Make = refl
leaves_none (FetchIotinval device extent) = λ walk there. there
leaves_none (FetchIodir device) = λ walk there. there
leaves_none (FetchAtsInval device extent) = refl
leaves_none (TakeSnapshot fence) = refl
leaves_none (CompleteFence fence) = refl
leaves_none TimeOut = refl
leaves_none CarryMessages = refl
leaves_none (DeliverAnswer copy) = refl
leaves_none (DeliverRequest slot extent) = refl
leaves_none (DeliverCompletion slot) = refl
leaves_none (Reset device) = λ walk there. absurd (in_none walk there)

pub turns_are_stepped_turns : TurnsAreSteppedTurns
turns_are_stepped_turns [] old new is = ap without_walks is
turns_are_stepped_turns (first ∷ others) old new (between, now, later) = (without_walks between, (now, leaves_none first), turns_are_stepped_turns others between new later)
