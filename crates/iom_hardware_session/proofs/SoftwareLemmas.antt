-- A write of a register is a change that software makes.
use Rattle.std.proofs.Common.{◌≡◌, ℕ, List, Result, Ok, Err, refl, sym, subst}
use Rattle.iom_block_devices.specs.Shown.{ShownBlock}
use Rattle.iom_board.specs.BoardParts.{BoardParts}
use Rattle.iom_iommu.specs.OwnIommu.{Iommu}
use Rattle.iom_board.specs.Software.{ChangesAsSoftware, WritesAreSoftware}
use Rattle.iom_iommu.specs.Parts.{after_write}
use Rattle.iom_registers.specs.Places.{changed_by}
use Rattle.iom_registers.specs.declared.register.RegFault.{RegFault}
use Rattle.iom_registers.specs.declared.register.Register.{Register}
use Rattle.iom_hardware_session.specs.Beside.{WalksAreSound}
use Rattle.iom_hardware_session.specs.declared.beside.Beside.{Beside}
use Rattle.iom_hardware_session.specs.declared.beside.Beside.TheVariants.{Nothing, UnderWay, Pointers}
use Rattle.iom_stepped_hardware.specs.Laws.{SoftwareStaysBeside}

pub after_writes : WritesAreSoftware → (parts : BoardParts) (value : ℕ) (at : Result Register RegFault) (new : Iommu)
    → new ≡ changed_by (after_write parts.iommu) parts.iommu value at → ChangesAsSoftware parts (record parts { iommu = new })
after_writes writes parts value (Ok register) new is = subst (λ (i : Iommu). ChangesAsSoftware parts (record parts { iommu = i })) (sym is) (writes parts register value)
after_writes writes parts value (Err why) new is =
    subst (λ (i : Iommu). ChangesAsSoftware parts (record parts { iommu = i })) (sym is)
    (record { size = refl; frames = refl; flights = refl; last = refl; devices = refl; fabric = refl })

-- and leaves what is under way
pub walks_stay : SoftwareStaysBeside → (old new : BoardParts) (blocks : List ShownBlock) (beside : Beside) → WalksAreSound old blocks beside → ChangesAsSoftware old new
    → WalksAreSound new blocks beside
walks_stay stays old new blocks Nothing sound changes = tt
walks_stay stays old new blocks (Pointers features pointers) sound changes = tt
walks_stay stays old new blocks (UnderWay rows) sound changes = record { walks = sound.walks; beside = stays old new blocks rows sound.beside changes; kinds = sound.kinds }
