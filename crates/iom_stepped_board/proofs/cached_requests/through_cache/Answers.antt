use Rattle.std.proofs.Common.{ℕ, Option, subst, sym}
use Rattle.iom_base.specs.declared.device_kind.DeviceKind.{DeviceKind}
use Rattle.iom_board.specs.BoardParts.{BoardParts, board_parts}
use Rattle.iom_board.specs.Invariant.{BoardInvariant}
use Rattle.iom_board.specs.Permits.{IsPermitted}
use Rattle.iom_board.specs.Senders.{cached_by}
use Rattle.iom_board.proofs.Permitted.{added}
use Rattle.iom_iommu.specs.Parts.{flights_of}
use Rattle.iom_iommu.specs.Requests.{access_of}
use Rattle.iom_stepped_board.proofs.SoundBeside.{goes_beside, goes_sound}
use Rattle.iom_stepped_board.proofs.cached_requests.through_cache.Goals as goal

pub go_by_cache-requires-clause-added : goal.go_by_cache-requires-clause-added
go_by_cache-requires-clause-added c =
    let h = c.args.board.now in
    added (cached_by c.args.sender) (flights_of h.iommu).rows h.devices.items c.args.id c.why_not_cached.result c.requires.invariants.rows
    (subst (λ (known : Option DeviceKind). IsPermitted (cached_by c.args.sender) known c.why_not_cached.result) c.kind_of.ensures c.why_not_cached.ensures) c.in_default.is

pub returns-clause-invariants : goal.returns-clause-invariants
returns-clause-invariants c =
    let h = c.args.board.now in
    let new : BoardParts = board_parts c.go_by_cache.new.board in
    subst (λ (n : ℕ). BoardInvariant new n) (sym c.go_by_cache.ensures.events)
    (goes_sound (board_parts h) new c.args.walks.now h.events c.args.id (access_of c.args.address c.args.len c.args.kind c.args.bytes.now) c.go_by_cache.result c.requires.invariants
    c.go_by_cache.ensures.effect c.go_by_cache.ensures.frames)

pub returns-clause-beside : goal.returns-clause-beside
returns-clause-beside c =
    let h = c.args.board.now in
    goes_beside (board_parts h) (board_parts c.go_by_cache.new.board) c.args.walks.now c.args.id (access_of c.args.address c.args.len c.args.kind c.args.bytes.now) c.go_by_cache.result
    c.requires.beside c.go_by_cache.ensures.effect
