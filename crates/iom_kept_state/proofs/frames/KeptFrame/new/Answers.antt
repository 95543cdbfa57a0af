use Rattle.std.proofs.Common.{List, ℕ, None, ap}
use Rattle.iom_machine.specs.declared.state.Frame.{Frame}
use Rattle.iom_kept_state.specs.Frames.{bytes_kept}
use Rattle.iom_kept_state.proofs.frames.KeptFrame.new.Goals as goal

abbrev of_nobody : List ℕ → Frame
of_nobody bytes = record { owner = None; bytes = bytes_kept bytes }

pub returns : goal.returns
returns c = ap of_nobody c.new.ensures.items
