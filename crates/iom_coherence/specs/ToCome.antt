-- What is still to come before a ticket is confirmed: steps of the command queue, the ticket's fence the last of them.
use Rattle.std.specs.Prelude.{◌≡◌, ℕ, ◌<◌, ◌≤◌, ◌⊎◌, Bool, true, false, ◌==◌, ◌&&◌, List, [], ◌∷◌, ◌++◌, Contains, ⊤}
use Rattle.iom_coherence.specs.Queue.{extent_covers, QueuedCommand, DropTranslations, DropContext, Invalidate, Fence}
use Rattle.iom_coherence.specs.Scene.{PendingTicket, Scene}

-- a step, by the test that tells the commands that take it
abbrev pub QueuedStep : Type 0
QueuedStep = QueuedCommand → Bool

-- the cached translation of the device's page is dropped
abbrev pub drops_translation : ℕ → ℕ → QueuedStep
drops_translation device page (DropTranslations d extent) = (d == device) && extent_covers extent page
drops_translation device page (DropContext d) = false
drops_translation device page (Invalidate d extent) = false
drops_translation device page (Fence number) = false

-- the cached context of the device is dropped
abbrev pub drops_context : ℕ → QueuedStep
drops_context device (DropTranslations d extent) = false
drops_context device (DropContext d) = d == device
drops_context device (Invalidate d extent) = false
drops_context device (Fence number) = false

-- the device is asked to drop its entry of the page
abbrev pub invalidates : ℕ → ℕ → QueuedStep
invalidates device page (DropTranslations d extent) = false
invalidates device page (DropContext d) = false
invalidates device page (Invalidate d extent) = (d == device) && extent_covers extent page
invalidates device page (Fence number) = false

-- the fence of this number is done
abbrev pub is_fence : ℕ → QueuedStep
is_fence fence (DropTranslations d extent) = false
is_fence fence (DropContext d) = false
is_fence fence (Invalidate d extent) = false
is_fence fence (Fence number) = number == fence

-- commands that take these steps stand in the list in this order, perhaps with others between them
abbrev pub InOrder : List QueuedStep → List QueuedCommand → Type 0
InOrder [] commands = ⊤
InOrder (step ∷ steps) [] = ⊥
InOrder (step ∷ steps) (command ∷ later) = ((step command ≡ true) × InOrder steps later) ⊎ InOrder (step ∷ steps) later

-- the ticket is pending, and waits for the fence
abbrev pub WaitsForFence : Scene → ℕ → ℕ → Type 0
WaitsForFence scene ticket fence = Contains scene.pending (record { ticket = ticket; fence = fence })

-- the ticket is pending, and these steps are still to come in front of the fence that it waits for
abbrev pub AreToCome : Scene → ℕ → List QueuedStep → Type 0
AreToCome scene ticket steps =
    (fence : ℕ) × WaitsForFence scene ticket fence × InOrder (steps ++ is_fence fence ∷ []) scene.waiting

-- the fences rise, from above the one number up to the other
abbrev pub FencesRise : ℕ → List QueuedCommand → ℕ → Type 0
FencesRise low [] high = low ≤ high
FencesRise low (DropTranslations d extent ∷ later) high = FencesRise low later high
FencesRise low (DropContext d ∷ later) high = FencesRise low later high
FencesRise low (Invalidate d extent ∷ later) high = FencesRise low later high
FencesRise low (Fence number ∷ later) high = (low < number) × FencesRise number later high

-- the tickets rise, from above the one number up to the other
abbrev pub TicketsRise : ℕ → List PendingTicket → ℕ → Type 0
TicketsRise low [] high = low ≤ high
TicketsRise low (pending ∷ later) high = (low < pending.ticket) × TicketsRise pending.ticket later high
