-- What software writes leaves hardware sound, and what is under way beside it.
use Rattle.std.proofs.Common.{◌≡◌, ℕ, List, Result, Ok, Err, sym, subst}
use Rattle.iom_block_devices.specs.Shown.{ShownBlock}
use Rattle.iom_board.specs.BoardParts.{BoardParts}
use Rattle.iom_board.specs.Invariant.{BoardInvariant}
use Rattle.iom_board.specs.Software.{SoftwareKeepsInvariant, WritesAreSoftware}
use Rattle.iom_iommu.specs.OwnIommu.{Iommu}
use Rattle.iom_iommu.specs.Parts.{after_write}
use Rattle.iom_registers.specs.Places.{changed_by}
use Rattle.iom_registers.specs.declared.register.RegFault.{RegFault}
use Rattle.iom_registers.specs.declared.register.Register.{Register}
use Rattle.iom_stepped_hardware.specs.Beside.{AreBesideHardware}
use Rattle.iom_stepped_hardware.specs.Laws.{SoftwareStaysBeside}
use Rattle.iom_walks.specs.Walks.{WalkRow}

pub written_sound : SoftwareKeepsInvariant → WritesAreSoftware → (old : BoardParts) (events value : ℕ) (register : Result Register RegFault) (new : Iommu) → BoardInvariant old events
    → new ≡ changed_by (after_write old.iommu) old.iommu value register → BoardInvariant (record old { iommu = new }) events
written_sound keeps writes old events value (Ok register) new invariants is =
    let after : BoardParts = record old { iommu = after_write old.iommu register value } in
    subst (λ (i : Iommu). BoardInvariant (record old { iommu = i }) events) (sym is) (keeps old after events invariants (writes old register value))
written_sound keeps writes old events value (Err fault) new invariants is = subst (λ (i : Iommu). BoardInvariant (record old { iommu = i }) events) (sym is) invariants

pub written_beside : SoftwareStaysBeside → WritesAreSoftware → (old : BoardParts) (blocks : List ShownBlock) (rows : List WalkRow) (value : ℕ) (register : Result Register RegFault) (new : Iommu)
    → AreBesideHardware old blocks rows → new ≡ changed_by (after_write old.iommu) old.iommu value register → AreBesideHardware (record old { iommu = new }) blocks rows
written_beside stays writes old blocks rows value (Ok register) new beside is =
    let after : BoardParts = record old { iommu = after_write old.iommu register value } in
    subst (λ (i : Iommu). AreBesideHardware (record old { iommu = i }) blocks rows) (sym is) (stays old after blocks rows beside (writes old register value))
written_beside stays writes old blocks rows value (Err fault) new beside is = subst (λ (i : Iommu). AreBesideHardware (record old { iommu = i }) blocks rows) (sym is) beside
