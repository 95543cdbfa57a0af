use Rattle.std.proofs.Common.{◌≡◌, ◌<◌, ℕ, false, get_or}
use Rattle.iom_world.specs.Shown.{shown_of}
use Rattle.iom_tell.specs.Told.{is_reserved_in}
use Rattle.iom_tell.proofs.reserved.note_each.Given as goal

-- the frames below this one are noted
abbrev pub invariant-loop-frame : goal.invariant-loop-frame
invariant-loop-frame g l = (k : ℕ) → k < l.frame → get_or l.are_reserved k false ≡ is_reserved_in (shown_of g.D.Disk.shown l.world) k
