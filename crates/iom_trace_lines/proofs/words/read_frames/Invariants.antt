use Rattle.std.proofs.Common.{◌≡◌, ◌++◌, length}
use Rattle.std.specs.Prelude.{codes}
use Rattle.iom_trace_lines.specs.TraceLines.{frames_text}
use Rattle.iom_trace_lines.proofs.words.read_frames.Given as goal

-- the text of the frames so far, and the words behind them
abbrev pub invariant-loop-frame : goal.invariant-loop-frame
invariant-loop-frame l = l.text ≡ frames_text l.frames.items ++ (codes " " ++ l.rest)

abbrev pub decreases-loop-frame : goal.decreases-loop-frame
decreases-loop-frame l = length l.rest
