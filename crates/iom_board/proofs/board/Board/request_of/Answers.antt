use Rattle.std.proofs.Common.{◌≡◌, Option, subst, refl}
use Rattle.iom_base.specs.declared.access.Access.{Access}
use Rattle.iom_base.specs.declared.device_kind.DeviceKind.{DeviceKind}
use Rattle.iom_board.specs.Permits.{IsPermitted}
use Rattle.iom_board.specs.Senders.{untranslated_by}
use Rattle.iom_fault_queue.specs.Fields.{untranslated_of}
use Rattle.iom_iommu.specs.Parts.{flights_of}
use Rattle.iom_iommu.specs.Requests.{ServesRequest, access_of}
use Rattle.iom_board.specs.BoardParts.{BoardParts, board_parts}
use Rattle.iom_board.proofs.Permitted.{added}
use Rattle.iom_board.proofs.SoundReplies.{replied_sound}
use Rattle.iom_board.proofs.board.Board.request_of.Goals as goal

pub request-requires-clause-added : goal.request-requires-clause-added
request-requires-clause-added c =
    let h = c.args.self.now in
    added (untranslated_by c.args.sender) (flights_of h.iommu).rows h.devices.items c.args.id c.refusal.result c.requires.invariants.rows
    (subst (λ (known : Option DeviceKind). IsPermitted (untranslated_by c.args.sender) known c.refusal.result) c.requires.known c.refusal.ensures) c.in_default.is

pub returns-clause-invariants : goal.returns-clause-invariants
returns-clause-invariants c =
    let h = c.args.self.now in
    let old : BoardParts = board_parts h in
    let new : BoardParts = record old { memory = c.request.new.memory; iommu = c.request.new.self } in
    let access : Access = access_of c.args.address c.args.len c.args.kind c.args.bytes.now in
    replied_sound (ServesRequest old.memory old.iommu c.args.id access) (untranslated_of c.args.kind) old new h.events c.args.id access c.request.result c.requires.invariants c.request.ensures.answered
    c.request.ensures.frames refl refl
