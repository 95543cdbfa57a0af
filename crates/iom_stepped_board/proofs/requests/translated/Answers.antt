use Rattle.std.proofs.Common.{Option, subst, refl}
use Rattle.iom_base.specs.DeviceKinds.{forges}
use Rattle.iom_base.specs.declared.device_kind.DeviceKind.{DeviceKind}
use Rattle.iom_board.specs.BoardParts.{BoardParts, board_parts}
use Rattle.iom_board.specs.Permits.{IsPermitted}
use Rattle.iom_board.proofs.Permitted.{added}
use Rattle.iom_iommu.specs.Parts.{flights_of}
use Rattle.iom_iommu.specs.Requests.{access_of}
use Rattle.iom_stepped_board.proofs.SoundBeside as sound
use Rattle.iom_stepped_board.proofs.requests.translated.Goals as goal

pub translated_beside-requires-clause-added : goal.translated_beside-requires-clause-added
translated_beside-requires-clause-added c =
    let h = c.args.board.now in
    added forges (flights_of h.iommu).rows h.devices.items c.args.id c.why_not_forging.result c.requires.invariants.rows
    (subst (λ (known : Option DeviceKind). IsPermitted forges known c.why_not_forging.result) c.kind_of.ensures c.why_not_forging.ensures) c.in_default.is

pub returns-clause-invariants : goal.returns-clause-invariants
returns-clause-invariants c =
    let h = c.args.board.now in
    let old : BoardParts = board_parts h in
    let new : BoardParts = record old { memory = c.translated_beside.new.memory; iommu = c.translated_beside.new.self } in
    sound.translated_sound old new c.args.walks.now h.events c.args.id (access_of c.args.address c.args.len c.args.kind c.args.bytes.now) c.translated_beside.result c.requires.invariants
    c.translated_beside.ensures.answered c.translated_beside.ensures.frames refl refl

pub returns-clause-beside : goal.returns-clause-beside
returns-clause-beside c =
    let h = c.args.board.now in
    let old : BoardParts = board_parts h in
    let new : BoardParts = record old { memory = c.translated_beside.new.memory; iommu = c.translated_beside.new.self } in
    sound.translated_beside old new c.args.walks.now c.args.id (access_of c.args.address c.args.len c.args.kind c.args.bytes.now) c.translated_beside.result c.requires.beside
    c.translated_beside.ensures.answered refl
