use Rattle.std.proofs.Common.{◌≡◌, ℕ, List, [], ◌++◌, length}
use Rattle.iom_hardware_runner.specs.Parts.{HasArrived, IsRoomFor}
use Rattle.iom_hardware_runner.proofs.arriving.Arriving.take_lines.Given as goal

-- the lines so far were taken, and behind the first no piece of one is left
abbrev pub invariant-loop-line : goal.invariant-loop-line
invariant-loop-line g l =
    (front : List ℕ) × (l.bytes ≡ front ++ l.rest) × ((most : ℕ) (before : List ℕ) → IsRoomFor most l.bytes → HasArrived most before l.fn.self → HasArrived most (before ++ front) l.self)
    × (l.fn.self.piece.items ≡ [] → l.self.piece.items ≡ [])

abbrev pub decreases-loop-line : goal.decreases-loop-line
decreases-loop-line g l = length l.rest
