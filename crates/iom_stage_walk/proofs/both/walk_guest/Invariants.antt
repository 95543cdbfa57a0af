-- What holds when the loop stands at an index: the path from the table in hand ends as the path from the root does, and
-- the frames read so far stand first.
use Rattle.std.proofs.Common.{◌≡◌, ◌<◌, ◌^◌, ℕ, ◌++◌, List, length, drop}
use Rattle.iom_base.specs.declared.rights.Rights.{Rights}
use Rattle.iom_base.specs.Sizes.{levels_of}
use Rattle.iom_stage_walk.specs.Both.{ReachesGuest, StopsGuest, padded}
use Rattle.iom_stage_walk.specs.declared.walked.WalkFault.{WalkFault}
use Rattle.iom_stage_walk.proofs.both.walk_guest.Given as goal

abbrev pub invariant-loop-k : goal.invariant-loop-k
invariant-loop-k g l =
    let frames = g.B.Bytes.frames_of l.memory in
    record {
      range : l.table < 2 ^ 44;
      loaded : (so_far : List ℕ) × (length so_far ≡ l.k) × (l.frames ≡ padded 4 so_far)
          × ((rest : List ℕ) (page : ℕ) (given : Rights) → ReachesGuest (levels_of l.size) frames l.second l.kind l.table (drop l.k l.indices) rest page given → ReachesGuest (levels_of l.size) frames l.second l.kind l.root l.indices (so_far ++ rest) page given);
      stop : (fault : WalkFault) → StopsGuest (levels_of l.size) frames l.second l.kind l.table (drop l.k l.indices) fault → StopsGuest (levels_of l.size) frames l.second l.kind l.root l.indices fault;
    }
