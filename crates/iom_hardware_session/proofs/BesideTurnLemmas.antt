-- What may come, whatever hardware keeps beside it: with fewer devices trusted, and with something done before it.
use Rattle.std.proofs.Common.{◌≡◌, ℕ, Bool, List, ◌∷◌, subst}
use Rattle.iom_board.specs.BoardParts.{BoardParts}
use Rattle.iom_board.specs.Invariant.{BoardInvariant}
use Rattle.iom_hardware_session.proofs.PointedEventLemmas.{DoesByPointers}
use Rattle.iom_hardware_session.proofs.PointedTurnLemmas.{came_by_pointers, turns_fewer as pointed_fewer}
use Rattle.iom_hardware_session.proofs.SteppedTurnLemmas.{comes_after, turns_fewer}
use Rattle.iom_hardware_session.proofs.TurnLemmas.{AreFewer, comes_fewer, comes_before}
use Rattle.iom_hardware_session.specs.Laws.{Comes}
use Rattle.iom_hardware_session.specs.declared.beside.Beside.{Beside}
use Rattle.iom_hardware_session.specs.declared.beside.Beside.TheVariants.{Nothing, UnderWay, Pointers}
use Rattle.iom_hardware_ways.specs.Calls.{HardwareCall, CallEffect, HarmlessEffect}
use Rattle.iom_inflight.specs.declared.made.MadeAt.{MadeAt}
use Rattle.iom_pointers.specs.declared.pointer.Pointer.{Pointer}
use Rattle.iom_stepped_ways.specs.Calls.{SteppedCall, SteppedEffect, IsByHardware, SteppedInvariant}
use Rattle.iom_walks.specs.Walks.{WalkRow}

-- what may come with more devices trusted may come with fewer
pub fewer_come : (fewer more : ℕ → Bool) (parts : BoardParts) (beside : Beside) (id : ℕ) (made : MadeAt) → AreFewer fewer more → Comes more parts beside id made
    → Comes fewer parts beside id made
fewer_come fewer more parts Nothing id made are (calls, comes) = (calls, comes_fewer fewer more parts calls id made are comes)
fewer_come fewer more parts (UnderWay rows) id made are (calls, (events, between, between_rows, new, turns, commits)) =
    (calls, (events, between, between_rows, new, turns_fewer fewer more calls events parts between rows between_rows are turns, commits))
fewer_come fewer more parts (Pointers features pointers) id made are (calls, (events, between, between_pointers, new, turns, commits)) =
    (calls, (events, between, between_pointers, new, pointed_fewer features.napot fewer more calls events parts between pointers between_pointers are turns, commits))

-- hardware does something by a call; in whole hardware what a trusted device writes isn't what hardware reads, and where something is beside it writes nothing
abbrev pub DoesByCall : (ℕ → Bool) → BoardParts → Beside → BoardParts → Beside → Type 0
DoesByCall trusted old Nothing new new_beside = (new_beside ≡ Nothing) × ((done : HardwareCall) × CallEffect done old new × HarmlessEffect trusted done old)
DoesByCall trusted old (UnderWay rows) new new_beside =
    (new_rows : List WalkRow) × (new_beside ≡ UnderWay new_rows) × ((done : SteppedCall) × SteppedEffect done old rows new new_rows × IsByHardware trusted done)
DoesByCall trusted old (Pointers features pointers) new new_beside =
    (new_pointers : List Pointer) × (new_beside ≡ Pointers features new_pointers) × DoesByPointers features trusted old pointers new new_pointers

-- what stays true of hardware
abbrev pub InvariantBy : BoardParts → Beside → ℕ → Type 0
InvariantBy parts Nothing events = BoardInvariant parts events
InvariantBy parts (UnderWay rows) events = SteppedInvariant parts rows events
InvariantBy parts (Pointers features pointers) events = BoardInvariant parts events

-- what may come after that might have come before
pub came_before : (trusted : ℕ → Bool) (events more id : ℕ) (made : MadeAt) (old new : BoardParts) (beside new_beside : Beside) → InvariantBy old beside events
    → BoardInvariant new more → DoesByCall trusted old beside new new_beside → Comes trusted new new_beside id made → Comes trusted old beside id made
came_before trusted events more id made old new Nothing new_beside invariants after (same, (done, effect, harmless)) comes =
    let (later, came) = subst (λ (beside : Beside). Comes trusted new beside id made) same comes in
    (done ∷ later, comes_before trusted done later events id made old new invariants harmless effect came)
came_before trusted events more id made old new (UnderWay rows) new_beside invariants after (new_rows, same, (done, effect, own)) comes =
    let (later, came) = subst (λ (beside : Beside). Comes trusted new beside id made) same comes in
    (done ∷ later, comes_after trusted done later events id made old new rows new_rows invariants own effect came)
came_before trusted events more id made old new (Pointers features pointers) new_beside invariants after (new_pointers, same, does) comes =
    came_by_pointers features trusted id made events more old new pointers new_pointers invariants after does (subst (λ (beside : Beside). Comes trusted new beside id made) same comes)
