-- Whatever may occur in a scene may occur beside what is under way, and leaves that.
use Rattle.std.proofs.Common.{inl, inr, ℕ, ◌++◌, List, [], ◌∷◌, Option, Some, ap}
use Rattle.std.proofs.lemmas.List.Elements.{Contains-append_left, Contains-append_right, Contains-append_cases}
use Rattle.iom_base.specs.declared.access.AccessKind.{AccessKind}
use Rattle.iom_reach.specs.Memory.{WalkStep}
use Rattle.iom_reach.specs.Scene.{AddressSpace, Mapping, Context, PendingAccess, Message, Question, Answer, Other, PartialWalk, DirectoryWalk, HardwareScene}
use Rattle.iom_reach.specs.Transitions.{AreSomeOf, AreAmongWithOf, IsContinued, IsOwned, IsSoughtOn, IsSendable, TranslatesTo, ToItself, ByCache, ByWalk, IsAdmitted, InModeBare, Requested, FromEntry, Forged, Walked, Transition, Forget, KeepContext, GoOn, KeepTranslation, Accept, Make, RecordFault, DoCommand, CarryMessages, DeliverAnswer, DropEntries, ComesAbout, ComeInTurn}
use Rattle.iom_reach.specs.Ways.{IsSought, MayFind, WalkBegins, AtRoot, PartWay}
use Rattle.iom_hardware_ways.proofs.Turns.{IsQuiet, AreQuiet, Comes}
use Rattle.iom_stepped_ways.specs.Scenes.{Added, with_added}

-- WHAT IS THERE IS THERE BESIDE MORE

pub sought_beside : (s : HardwareScene) (a : Added) (device : ℕ) (context : Context) → IsSought s device context → IsSought (with_added s a) device context
sought_beside s a device context (table, steps, there, ends) = (table, steps, Contains-append_left s.directory_walks a.directory_walks (walk_at table steps) there, ends)
  where
    walk_at : ℕ → List WalkStep → DirectoryWalk
    walk_at table steps = record { device = device; table = table; steps = steps }

pub found_beside : (s : HardwareScene) (a : Added) (device : ℕ) (context : Context) → MayFind s device context → MayFind (with_added s a) device context
found_beside s a device context (plugged, inl looked) = (plugged, inl looked)
found_beside s a device context (plugged, inr sought) = (plugged, inr (sought_beside s a device context sought))

part_of : Option ℕ → AddressSpace → ℕ → (ℕ → List WalkStep) → PartialWalk
part_of device space table steps_to = record { device = device; space = space; table = table; steps_to = steps_to }

pub begins_beside : (s : HardwareScene) (a : Added) (space : AddressSpace) (table : ℕ) (steps_to : ℕ → List WalkStep) → WalkBegins s space table steps_to
    → WalkBegins (with_added s a) space table steps_to
begins_beside s a space table steps_to (AtRoot device context tables find is decide root all) =
    AtRoot device context tables (found_beside s a device context find) is decide root all
begins_beside s a space table steps_to (PartWay device there) =
    PartWay device (Contains-append_left s.partial_walks a.partial_walks (record { device = device; space = space; table = table; steps_to = steps_to }) there)

translates_beside : (s : HardwareScene) (a : Added) (context : Context) (page : ℕ) (mapping : Mapping) → TranslatesTo s context page mapping
    → TranslatesTo (with_added s a) context page mapping
translates_beside s a context page mapping (ToItself none) = ToItself none
translates_beside s a context page mapping (ByCache space is there) = ByCache space is there
translates_beside s a context page mapping (ByWalk space table steps_to is begins gives) = ByWalk space table steps_to is (begins_beside s a space table steps_to begins) gives

pub admitted_beside : (s : HardwareScene) (a : Added) (device frame : ℕ) (kind : AccessKind) → IsAdmitted s device frame kind → IsAdmitted (with_added s a) device frame kind
admitted_beside s a device frame kind (InModeBare plugged bare) = InModeBare plugged bare
admitted_beside s a device frame kind (Requested context page mapping find translates serves) =
    Requested context page mapping (found_beside s a device context find) (translates_beside s a context page mapping translates) serves
admitted_beside s a device frame kind (FromEntry context page mapping find lets caches there serves) =
    FromEntry context page mapping (found_beside s a device context find) lets caches there serves
admitted_beside s a device frame kind (Forged context find lets forges) = Forged context (found_beside s a device context find) lets forges
admitted_beside s a device frame kind (Walked space table steps_to mapping there gives serves) =
    Walked space table steps_to mapping
    (Contains-append_left s.partial_walks a.partial_walks (record { device = Some device; space = space; table = table; steps_to = steps_to }) there) gives serves

sendable_beside : (s : HardwareScene) (a : Added) (message : Message) → IsSendable s message → IsSendable (with_added s a) message
sendable_beside s a (Question device epoch page) within = within
sendable_beside s a (Answer device epoch page mapping) (asked, (context, find, lets, translates)) =
    (asked, (context, found_beside s a device context find, lets, translates_beside s a context page mapping translates))
sendable_beside s a Other is = tt

owned_beside : (s : HardwareScene) (a : Added) (device : ℕ) (space : AddressSpace) (table : ℕ) (steps_to : ℕ → List WalkStep) → IsOwned s device space table steps_to
    → IsOwned (with_added s a) device space table steps_to
owned_beside s a device space table steps_to (inl (context, find, is)) = inl (context, found_beside s a device context find, is)
owned_beside s a device space table steps_to (inr there) =
    inr (Contains-append_left s.partial_walks a.partial_walks (record { device = Some device; space = space; table = table; steps_to = steps_to }) there)

continued_beside : (s : HardwareScene) (a : Added) (walk : PartialWalk) → IsContinued s walk → IsContinued (with_added s a) walk
continued_beside s a walk (table, steps_to, begins, owned, passes) = (
  table,
  steps_to,
  begins_beside s a walk.space table steps_to begins,
  (λ device is. owned_beside s a device walk.space table steps_to (owned device is)),
  passes,
)

sought_on_beside : (s : HardwareScene) (a : Added) (walk : DirectoryWalk) → IsSoughtOn s walk → IsSoughtOn (with_added s a) walk
sought_on_beside s a walk (inl at) = inl at
sought_on_beside s a walk (inr (table, steps, there, passes)) =
    inr (table, steps, Contains-append_left s.directory_walks a.directory_walks (record { device = walk.device; table = table; steps = steps }) there, passes)

-- SO WHAT OCCURS

pub accepted_beside : (s : HardwareScene) (a : Added) (flights : ℕ → List PendingAccess) (device : ℕ) (access : PendingAccess) → AreAmongWithOf flights device access s.in_flight
    → AreAmongWithOf (λ d. flights d ++ a.let_through d) device access (with_added s a).in_flight
accepted_beside s a flights device access among d x there = elim (Contains-append_cases (flights d) (a.let_through d) x there) [
  | inl one ↦ elim (among d x one) [ inl own ↦ inl own | inr old ↦ inr (Contains-append_left (s.in_flight d) (a.let_through d) x old) ]
  | inr through ↦ inr (Contains-append_right (s.in_flight d) (a.let_through d) x through)
]

pub left_beside : (s : HardwareScene) (a : Added) (left : ℕ → List PendingAccess) → AreSomeOf left s.in_flight
    → AreSomeOf (λ d. left d ++ a.let_through d) (with_added s a).in_flight
left_beside s a left among d x there = elim (Contains-append_cases (left d) (a.let_through d) x there) [
  | inl one ↦ Contains-append_left (s.in_flight d) (a.let_through d) x (among d x one)
  | inr through ↦ Contains-append_right (s.in_flight d) (a.let_through d) x through
]

occurs_beside : (transition : Transition) (s n : HardwareScene) (a : Added) → IsQuiet transition → ComesAbout transition s n → ComesAbout transition (with_added s a) (with_added n a)
occurs_beside Forget s n a quiet (contexts, translations, fewer, others, is) = (contexts, translations, fewer, others, ap (λ x. with_added x a) is)
occurs_beside (KeepContext device) s n a quiet (context, kept, plugged, inl stored, part, is) = (context, kept, plugged, inl stored, part, ap (λ x. with_added x a) is)
occurs_beside (KeepContext device) s n a quiet (context, kept, plugged, inr sought, part, is) =
    (context, kept, plugged, inr (sought_beside s a device context sought), part, ap (λ x. with_added x a) is)
occurs_beside GoOn s n a quiet (kept, sought, left, from, on, among, is) = (
  kept ++ a.partial_walks,
  sought ++ a.directory_walks,
  (λ d. left d ++ a.let_through d),
  (λ walk there. elim (Contains-append_cases kept a.partial_walks walk there) [
    | inl one ↦ elim (from walk one) [
      | inl continues ↦ inl (continued_beside s a walk continues)
      | inr old ↦ inr (Contains-append_left s.partial_walks a.partial_walks walk old)
    ]
    | inr added ↦ inr (Contains-append_right s.partial_walks a.partial_walks walk added)
  ]),
  (λ walk there. elim (Contains-append_cases sought a.directory_walks walk there) [
    | inl one ↦ elim (on walk one) [
      | inl continues ↦ inl (sought_on_beside s a walk continues)
      | inr old ↦ inr (Contains-append_left s.directory_walks a.directory_walks walk old)
    ]
    | inr added ↦ inr (Contains-append_right s.directory_walks a.directory_walks walk added)
  ]),
  left_beside s a left among,
  ap (λ x. with_added x a) is,
)
occurs_beside KeepTranslation s n a quiet (space, table, steps_to, page, mapping, kept, begins, gives, part, is) =
    (space, table, steps_to, page, mapping, kept, begins_beside s a space table steps_to begins, gives, part, ap (λ x. with_added x a) is)
occurs_beside (Accept device access) s n a quiet (flights, why, among, is) = (
  (λ d. flights d ++ a.let_through d),
  admitted_beside s a device access.frame access.kind why,
  accepted_beside s a flights device access among,
  ap (λ x. with_added x a) is,
)
occurs_beside (Make device access) s n a quiet occurs = absurd quiet
occurs_beside RecordFault s n a quiet (frame, memory, there, differs, is) = (frame, memory, there, differs, ap (λ x. with_added x a) is)
occurs_beside DoCommand s n a quiet (place, later, memory, contexts, translations, messages, head, after, fewer, others, among, is) =
    (place, later, memory, contexts, translations, messages, head, after, fewer, others, among, ap (λ x. with_added x a) is)
occurs_beside CarryMessages s n a quiet (messages, from, is) = (
  messages,
  (λ message there. elim (from message there) [ inl may ↦ inl (sendable_beside s a message may) | inr old ↦ inr old ]),
  ap (λ x. with_added x a) is,
)
occurs_beside DeliverAnswer s n a quiet (device, epoch, page, mapping, kept, there, now, among, is) =
    (device, epoch, page, mapping, kept, there, now, among, ap (λ x. with_added x a) is)
occurs_beside (DropEntries device) s n a quiet (left, among, is) = (left, among, ap (λ x. with_added x a) is)

turns_beside : (transitions : List Transition) (s n : HardwareScene) (a : Added) → AreQuiet transitions → ComeInTurn s transitions n → ComeInTurn (with_added s a) transitions (with_added n a)
turns_beside [] s n a quiet is = ap (λ x. with_added x a) is
turns_beside (first ∷ others) s n a (quiet, silent) (between, now, later) =
    (with_added between a, occurs_beside first s between a quiet now, turns_beside others between n a silent later)

pub comes_beside : (s n : HardwareScene) (a : Added) → Comes s n → Comes (with_added s a) (with_added n a)
comes_beside s n a (transitions, quiet, turns) = (transitions, quiet, turns_beside transitions s n a quiet turns)
