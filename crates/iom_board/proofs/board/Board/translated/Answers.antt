use Rattle.std.proofs.Common.{refl}
use Rattle.iom_base.specs.declared.access.Access.{Access}
use Rattle.iom_base.specs.DeviceKinds.{forges}
use Rattle.iom_fault_queue.specs.Fields.{translated_of}
use Rattle.iom_iommu.specs.Parts.{flights_of}
use Rattle.iom_iommu.specs.Requests.{access_of}
use Rattle.iom_iommu.specs.Translated.{ServesTranslated}
use Rattle.iom_board.specs.BoardParts.{BoardParts, board_parts}
use Rattle.iom_board.proofs.Permitted.{added}
use Rattle.iom_board.proofs.SoundReplies.{replied_sound}
use Rattle.iom_board.proofs.board.Board.translated.Goals as goal

pub translated-requires-clause-added : goal.translated-requires-clause-added
translated-requires-clause-added c =
    let h = c.args.self.now in
    added forges (flights_of h.iommu).rows h.devices.items c.args.id c.refusal.result c.requires.invariants.rows c.refusal.ensures c.in_default.is

pub returns-clause-invariants : goal.returns-clause-invariants
returns-clause-invariants c =
    let h = c.args.self.now in
    let old : BoardParts = board_parts h in
    let new : BoardParts = record old { memory = c.translated.new.memory; iommu = c.translated.new.self } in
    let access : Access = access_of c.args.address c.args.len c.args.kind c.args.bytes.now in
    replied_sound (ServesTranslated old.memory old.iommu c.args.id access) (translated_of c.args.kind) old new h.events c.args.id access c.translated.result c.requires.invariants c.translated.ensures.answered
    c.translated.ensures.frames refl refl
