-- The cache that the IOMMU of a world has: as what it is seen, and what it says of itself. The layers above name no other.
use Rattle.std.specs.Prelude.{List, true}
use Rattle.iom_tlb.specs.declared.trans_cache.TransCache.{Ghosts}
use Rattle.iom_tlb.specs.Ways.{Ways, content_of_sets}

abbrev pub Ioatc : Type 0
Ioatc = List Ways

abbrev pub ioatc : Ghosts Ioatc
ioatc = record { SURE = true; content = content_of_sets }
