use Rattle.iom_walk_coherence.proofs.LawLemmas.{free_frames_have_no_walks, guest_tables_may_be_read, walks_are_not_over, walks_of_detached_are_in_directory}
use Rattle.iom_walk_coherence.proofs.laws.standing_law.Goals as goal

pub returns : goal.returns
returns c = record {
  tables = walks_are_not_over;
  guest_tables = guest_tables_may_be_read;
  detached = walks_of_detached_are_in_directory;
  free = free_frames_have_no_walks;
}
