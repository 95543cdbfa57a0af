-- What holds when the loop stands at an index: the path from the table in hand ends as the path from the root does.
use Rattle.std.proofs.Common.{◌≡◌, ℕ, drop}
use Rattle.iom_base.specs.declared.cause.Cause.{Cause}
use Rattle.iom_base.specs.declared.rights.Rights.{Rights}
use Rattle.iom_stage_walk.specs.Entries.{entries}
use Rattle.iom_stage_walk.specs.Paths.{Reaches, leaf_level, StopsAs}
use Rattle.iom_stage_walk.proofs.walk.walk.Given as goal

abbrev pub invariant-loop-k : goal.invariant-loop-k
invariant-loop-k g l =
    let e = entries (g.B.Bytes.frames_of l.memory) in
    record {
      reach : (frame : ℕ) (given : Rights) → Reaches e l.kind l.table (drop l.k l.indices) frame given → Reaches e l.kind l.root l.indices frame given;
      level : leaf_level e l.root l.indices ≡ leaf_level e l.table (drop l.k l.indices);
      stop : (cause : Cause) → StopsAs e l.kind l.faults.page l.faults.access l.table (drop l.k l.indices) cause → StopsAs e l.kind l.faults.page l.faults.access l.root l.indices cause;
    }
