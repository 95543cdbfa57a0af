-- What the invalidation commands take out of the cache (IOMMU specification, section 3.1.1: the operands of IOTINVAL.VMA, and those of
-- IOTINVAL.GVMA). A field is there where its valid bit is 1: GSCID by GV, PSCID by PSCV, the page of ADDR by AV.
use Rattle.std.specs.Prelude.{ℕ, List, [], ◌∷◌, Option, Some, None}
use Rattle.iom_command_queue.specs.declared.command.Command.{Command}
use Rattle.iom_command_queue.specs.declared.command.Command.TheVariants.{IotinvalVma, IotinvalGvma, IofenceC, IodirInvalDdt, AtsInval}
use Rattle.iom_tlb.specs.declared.cover.Cover.{Cover}
use Rattle.iom_tlb.specs.declared.cover.Cover.TheVariants.{First, Second, Both}

-- IOTINVAL.VMA, by its GSCID, PSCID and page. It is about first-stage leaves: a field that is absent stands for each PSCID, or for each page
abbrev pub vma_covers : Option ℕ → Option ℕ → Option ℕ → List Cover
-- GV 0: of host address spaces
vma_covers None pscid page = First pscid page ∷ []
-- GV 1: of address spaces within the VM with GSCID, whose first stage is the guest's
vma_covers (Some gscid) pscid page = Both (Some gscid) pscid page ∷ []

-- IOTINVAL.GVMA, by its GSCID and page, which is one of guest physical addresses. A translation through both stages doesn't tell which guest
-- physical pages it was made from: all of the VM's go, whichever page is named
abbrev pub gvma_covers : Option ℕ → Option ℕ → List Cover
-- GV 0: all that was made from a second stage, of all VMs. AV is ignored
gvma_covers None page = Both None None None ∷ Second None None ∷ []
-- GV 1, AV 0: the same, of the VM with GSCID
gvma_covers (Some gscid) None = Both (Some gscid) None None ∷ Second (Some gscid) None ∷ []
-- GV 1, AV 1: what was made from the second-stage leaf of the page, of the VM with GSCID
gvma_covers (Some gscid) (Some page) = Both (Some gscid) None None ∷ Second (Some gscid) (Some page) ∷ []

-- each command: those that aren't IOTINVAL take no translation out
abbrev pub covers_of : Command → List Cover
covers_of (IotinvalVma gscid pscid page) = vma_covers gscid pscid page
covers_of (IotinvalGvma gscid page) = gvma_covers gscid page
covers_of (IofenceC store wsi pr pw) = []
covers_of (IodirInvalDdt device) = []
covers_of (AtsInval device range) = []
