use Rattle.std.proofs.Common.{sym, subst}
use Rattle.iom_iommu.specs.Parts.{flights_of}
use Rattle.iom_iommu.specs.Requests.{access_of}
use Rattle.iom_board.specs.BoardParts.{BoardParts, board_parts}
use Rattle.iom_board.specs.Senders.{cached_by}
use Rattle.iom_board.specs.Invariant.{BoardInvariant}
use Rattle.iom_board.proofs.Permitted.{added}
use Rattle.iom_board.proofs.SoundReplies.{goes_sound}
use Rattle.iom_board.proofs.board.Board.through_cache.Goals as goal

pub go_by_cache-requires-clause-added : goal.go_by_cache-requires-clause-added
go_by_cache-requires-clause-added c =
    let h = c.args.self.now in
    added (cached_by c.args.sender) (flights_of h.iommu).rows h.devices.items c.args.id c.refusal.result c.requires.invariants.rows c.refusal.ensures c.in_default.is

pub returns-clause-invariants : goal.returns-clause-invariants
returns-clause-invariants c =
    let h = c.args.self.now in
    let new : BoardParts = board_parts c.go_by_cache.new.self in
    subst (λ n. BoardInvariant new n) (sym c.go_by_cache.ensures.events)
    (goes_sound (board_parts h) new h.events c.args.id (access_of c.args.address c.args.len c.args.kind c.args.bytes.now) c.go_by_cache.result c.requires.invariants c.go_by_cache.ensures.effect
    c.go_by_cache.ensures.frames)
