use Rattle.std.proofs.Common.{◌≡◌, ◌∙◌, List, None, slice_get, refl, sym, ap, subst}
use Rattle.std.specs.List.{All}
use Rattle.iom_fabric.specs.declared.fabric.OnLink.{OnLink}
use Rattle.iom_board.specs.BoardParts.{BoardParts, board_parts}
use Rattle.iom_board.specs.Invariant.{IsMessageOf}
use Rattle.iom_board.proofs.Sent.{messages_left, removed_none}
use Rattle.iom_board.proofs.SoundDeliveries.{arrives_sound}
use Rattle.iom_board.proofs.SoundThen.{fabric_sound}
use Rattle.iom_board.proofs.board.Board.deliver.Goals as goal

pub returns-in_default-clause-effect : goal.returns-in_default-clause-effect
returns-in_default-clause-effect c =
    let h = c.args.self.now in
    let none : slice_get h.fabric c.args.place ≡ None = sym c.take.ensures.taken ∙ c.in_default.is in
    rw none (refl, ap (λ (f : List OnLink). record (board_parts h) { fabric = f }) (c.take.ensures.rest ∙ removed_none h.fabric c.args.place none))

pub returns-in_default-clause-invariants : goal.returns-in_default-clause-invariants
returns-in_default-clause-invariants c =
    let h = c.args.self.now in
    fabric_sound (board_parts h) c.take.new.self h.events c.requires.invariants
    (subst (λ (f : List OnLink). All (IsMessageOf h.devices.items) f) (sym c.take.ensures.rest) (messages_left h.devices.items h.fabric c.args.place c.requires.invariants.askers))

pub returns-clause-invariants : goal.returns-clause-invariants
returns-clause-invariants c =
    let h = c.args.self.now in
    let old : BoardParts = board_parts h in
    let new : BoardParts = record { memory = c.arrive.new.memory; iommu = c.arrive.new.iommu; devices = c.arrive.new.devices.items; fabric = c.arrive.new.fabric } in
    arrives_sound old new h.events c.in-Some.on.device c.in-Some.on.message c.take.new.self c.arrive.result c.requires.invariants
    (subst (λ (f : List OnLink). All (IsMessageOf h.devices.items) f) (sym c.take.ensures.rest) (messages_left h.devices.items h.fabric c.args.place c.requires.invariants.askers))
    c.arrive.ensures.frames (c.arrive.ensures.effect h.fabric)
