-- The IOMMU over the cache of translations that is chosen for it: the one that hardware and the world have.
use Rattle.iom_iommu.specs.declared.iommu.Iommu.{Iommu as AnyIommu}
use Rattle.iom_tlb.specs.Chosen.{Ioatc, ioatc}

abbrev pub Iommu : Type 0
Iommu = AnyIommu Ioatc ioatc
