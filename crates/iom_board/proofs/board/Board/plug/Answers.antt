use Rattle.std.proofs.Common.{rules, ◌≡◌, ◌+◌, ◌∙◌, ◌++◌, ◌∷◌, [], ℕ, List, sym, ap, subst}
use Rattle.iom_base.specs.DeviceKinds.{disk_of}
use Rattle.iom_base.specs.Disks.{without_disk}
use Rattle.iom_board.specs.BoardParts.{BoardParts, board_parts, disks_at_hand}
use Rattle.iom_board.specs.Invariant.{BoardInvariant}
use Rattle.iom_board.specs.Plugging.{StandsBehindOthers, newly_plugged}
use Rattle.iom_board.proofs.SoundPlugging.{added_new, adds_sound}
use Rattle.iom_board.proofs.board.Board.plug.Goals as goal
use Rattle.iom_iommu.specs.Parts.{AddsDevice}

-- the board afterwards
abbrev plugged : goal.After-unwrap → BoardParts
plugged c = record { memory = c.prepare_plug.new.self.memory; iommu = c.add.new.self; devices = c.push.new.self.items; fabric = c.prepare_plug.new.self.fabric }

stands_behind : (c : goal.After-unwrap) → StandsBehindOthers (disks_at_hand c.args.self.now) (board_parts c.args.self.now) c.args.id c.args.what (plugged c) c.take_out.new.disks.items
stands_behind c =
    let h = c.args.self.now in
    let old : BoardParts = board_parts h in
    let disks : List ℕ = disks_at_hand h in
    let admitted = c.in_ok-prepare_plug.ensures.answer in
    let same : board_parts c.prepare_plug.new.self ≡ old = c.prepare_plug.ensures.parts in
    let pushed : c.push.new.self.items ≡ c.prepare_plug.new.self.devices.items ++ newly_plugged c.args.id c.args.what ∷ [] = search rules in
    let adds = subst (λ (parts : BoardParts). AddsDevice parts.iommu c.args.id c.add.result c.add.new.self) same c.add.ensures in
    record {
      admitted = admitted;
      row = added_new disks old h.events c.args.id c.args.what c.add.result c.add.new.self c.requires.invariants admitted adds;
      devices = pushed ∙ ap (λ (parts : BoardParts). parts.devices ++ newly_plugged c.args.id c.args.what ∷ []) same;
      memory = ap (λ (parts : BoardParts). parts.memory) same;
      fabric = ap (λ (parts : BoardParts). parts.fabric) same;
      taken = c.take_out.ensures ∙ ap (λ named. without_disk named c.prepare_plug.new.self.disks.items) c.disk.ensures ∙ ap (λ (left : List ℕ). without_disk (disk_of c.args.what) left) c.prepare_plug.ensures.disks;
    }

pub returns-clause-effect : goal.returns-clause-effect
returns-clause-effect c = stands_behind c

pub returns-clause-invariants : goal.returns-clause-invariants
returns-clause-invariants c =
    let h = c.args.self.now in
    subst (λ (events : ℕ). BoardInvariant (plugged c) events) (sym c.prepare_plug.ensures.events)
    (adds_sound (disks_at_hand h) (board_parts h) (plugged c) h.events c.args.id c.args.what c.take_out.new.disks.items c.requires.invariants (stands_behind c))
