use Rattle.std.proofs.Common.{refl}
use Rattle.iom_base.specs.DeviceKinds.{is_any_kind}
use Rattle.iom_iommu.specs.Parts.{flights_of}
use Rattle.iom_board.specs.BoardParts.{BoardParts, board_parts}
use Rattle.iom_board.proofs.Permitted.{added}
use Rattle.iom_board.proofs.SoundReplies.{made_sound}
use Rattle.iom_board.proofs.board.Board.commit.Goals as goal

pub commit-requires-clause-added : goal.commit-requires-clause-added
commit-requires-clause-added c =
    let h = c.args.self.now in
    added is_any_kind (flights_of h.iommu).rows h.devices.items c.args.id c.refusal.result c.requires.invariants.rows c.refusal.ensures c.in_default.is

pub returns-clause-invariants : goal.returns-clause-invariants
returns-clause-invariants c =
    let h = c.args.self.now in
    let old : BoardParts = board_parts h in
    let new : BoardParts = record old { memory = c.commit.new.memory; iommu = c.commit.new.self } in
    made_sound old new h.events c.args.id c.commit.result c.requires.invariants c.commit.ensures.effect refl refl
