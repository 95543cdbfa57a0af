-- Occurrences one after another.
use Rattle.std.proofs.Common.{◌≡◌, ◌++◌, List, [], ◌∷◌, refl, sym, subst}
use Rattle.std.specs.Bool.{⊤}
use Rattle.iom_reach.specs.Transitions.{Transition, Forget, KeepContext, GoOn, KeepTranslation, Accept, Make, RecordFault, DoCommand, CarryMessages, DeliverAnswer, DropEntries, ComesAbout, ComeInTurn}
use Rattle.iom_reach.specs.Scene.{HardwareScene}

-- no access is made
abbrev pub IsQuiet : Transition → Type 0
IsQuiet Forget = ⊤
IsQuiet (KeepContext device) = ⊤
IsQuiet GoOn = ⊤
IsQuiet KeepTranslation = ⊤
IsQuiet (Accept device access) = ⊤
IsQuiet (Make device access) = ⊥
IsQuiet RecordFault = ⊤
IsQuiet DoCommand = ⊤
IsQuiet CarryMessages = ⊤
IsQuiet DeliverAnswer = ⊤
IsQuiet (DropEntries device) = ⊤

abbrev pub AreQuiet : List Transition → Type 0
AreQuiet [] = ⊤
AreQuiet (first ∷ others) = IsQuiet first × AreQuiet others

-- the one scene comes of the other by some transitions that make no access
abbrev pub Comes : HardwareScene → HardwareScene → Type 0
Comes old new = (transitions : List Transition) × AreQuiet transitions × ComeInTurn old transitions new

pub nothing : (old new : HardwareScene) → new ≡ old → Comes old new
nothing old new same = ([], tt, same)

pub one : (transition : Transition) → IsQuiet transition → (old new : HardwareScene) → ComesAbout transition old new → Comes old new
one transition quiet old new occurs = (transition ∷ [], (quiet, tt), (new, occurs, refl))

pub in_turn : (some others : List Transition) (old between new : HardwareScene) → ComeInTurn old some between → ComeInTurn between others new → ComeInTurn old (some ++ others) new
in_turn [] others old between new same later = subst (λ s. ComeInTurn s others new) same later
in_turn (first ∷ some) others old between new (next, now, rest) later = (next, now, in_turn some others next between new rest later)

both_quiet : (some others : List Transition) → AreQuiet some → AreQuiet others → AreQuiet (some ++ others)
both_quiet [] others quiet later = later
both_quiet (first ∷ some) others (quiet, rest) later = (quiet, both_quiet some others rest later)

pub in_succession : (old between new : HardwareScene) → Comes old between → Comes between new → Comes old new
in_succession old between new (some, quiet, first) (others, silent, later) =
    (some ++ others, both_quiet some others quiet silent, in_turn some others old between new first later)

pub ends_as : (old new other : HardwareScene) → other ≡ new → Comes old new → Comes old other
ends_as old new other same comes = subst (Comes old) (sym same) comes
