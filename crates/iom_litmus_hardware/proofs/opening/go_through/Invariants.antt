-- The session went through the lines so far, and its walks stay whole.
use Rattle.std.proofs.Common.{take}
use Rattle.iom_litmus_hardware.specs.Openings.{GoesThrough}
use Rattle.iom_litmus_hardware.specs.Places.{IsWhole}
use Rattle.iom_litmus_hardware.proofs.opening.go_through.Given as goal

abbrev pub invariant-loop-line : goal.invariant-loop-line
invariant-loop-line l = GoesThrough l.fn.session (take l.line-index l.lines) l.session × (IsWhole l.fn.session → IsWhole l.session)
