use Rattle.std.proofs.Common.{Option, subst, refl}
use Rattle.iom_base.specs.declared.device_kind.DeviceKind.{DeviceKind}
use Rattle.iom_board.specs.BoardParts.{BoardParts, board_parts}
use Rattle.iom_board.specs.Permits.{IsPermitted}
use Rattle.iom_board.specs.Senders.{untranslated_by}
use Rattle.iom_board.proofs.Permitted.{added}
use Rattle.iom_iommu.specs.Parts.{flights_of}
use Rattle.iom_iommu.specs.Requests.{access_of}
use Rattle.iom_stepped_board.proofs.BesideLemmas.{walked}
use Rattle.iom_stepped_board.proofs.SoundBeside.{begun_beside, begun_sound}
use Rattle.iom_stepped_board.proofs.requests.begin.Goals as goal

pub begin-requires-clause-added : goal.begin-requires-clause-added
begin-requires-clause-added c =
    let h = c.args.board.now in
    added (untranslated_by c.args.sender) (flights_of h.iommu).rows h.devices.items c.args.id c.why_not_asking.result c.requires.invariants.rows
    (subst (λ (known : Option DeviceKind). IsPermitted (untranslated_by c.args.sender) known c.why_not_asking.result) c.kind_of.ensures c.why_not_asking.ensures) c.in_default.is

pub begin-requires-clause-walked : goal.begin-requires-clause-walked
begin-requires-clause-walked c =
    let h = c.args.board.now in
    walked (untranslated_by c.args.sender) c.args.walks.now h.devices.items c.args.id c.why_not_asking.result c.requires.beside.ids
    (subst (λ (known : Option DeviceKind). IsPermitted (untranslated_by c.args.sender) known c.why_not_asking.result) c.kind_of.ensures c.why_not_asking.ensures) c.in_default.is

pub returns-clause-invariants : goal.returns-clause-invariants
returns-clause-invariants c =
    let h = c.args.board.now in
    let old : BoardParts = board_parts h in
    let new : BoardParts = record old { memory = c.begin.new.memory; iommu = c.begin.new.self } in
    begun_sound old new c.args.walks.now c.begin.new.walks h.events c.args.id (access_of c.args.address c.args.len c.args.kind c.args.bytes.now) c.begin.result c.requires.invariants
    (record { call = c.begin.ensures.begun; devices = refl; fabric = refl }) c.begin.ensures.frames

pub returns-clause-beside : goal.returns-clause-beside
returns-clause-beside c =
    let h = c.args.board.now in
    let old : BoardParts = board_parts h in
    let new : BoardParts = record old { memory = c.begin.new.memory; iommu = c.begin.new.self } in
    begun_beside old new c.args.walks.now c.begin.new.walks c.args.id (access_of c.args.address c.args.len c.args.kind c.args.bytes.now) c.begin.result c.requires.beside
    (record { call = c.begin.ensures.begun; devices = refl; fabric = refl })
