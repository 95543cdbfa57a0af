use Rattle.std.proofs.Common.{◌+◌, ◌*◌, ◌≤◌, length}
use Rattle.iom_explain.specs.Notes.{AddsNotes}
use Rattle.iom_explain.proofs.notes.append_notes.Given as goal

-- notes were added so far, and no more bytes than so many have
abbrev pub invariant-loop-place : goal.invariant-loop-place
invariant-loop-place l =
    record {
      added : AddsNotes l.fn.out l.out;
      short : length l.out ≤ length l.fn.out + 250 * l.place;
    }
