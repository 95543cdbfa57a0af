-- Word by word.
use Rattle.std.proofs.lemmas.Slice.Eq.{bytes_eq-Decides}
use Rattle.std.proofs.lemmas.Bool.Decides.{Decides-at}
use Rattle.std.proofs.Common.{bytes_eq}
use Rattle.iom_tlb.proofs.lanes.are_same_lanes.Goals as goal

pub returns : goal.returns
returns c = Decides-at c.eq.result (bytes_eq c.args.one.now c.args.other.now) c.eq.ensures (bytes_eq-Decides c.args.one.now c.args.other.now)
