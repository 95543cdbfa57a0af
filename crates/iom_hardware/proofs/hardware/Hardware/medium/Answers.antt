use Rattle.std.proofs.Common.{◌≡◌, ◌≤◌, ◌∙◌, ℕ, true, false, List, Some, ap, sym, subst}
use Rattle.iom_base.specs.Disks.{without_disk}
use Rattle.iom_base.specs.Sizes.{device_limit}
use Rattle.iom_block_devices.specs.Entries.{DiskEntry}
use Rattle.iom_block_devices.specs.Places.{has_in, with_has}
use Rattle.iom_board.specs.BoardParts.{BoardParts, board_parts}
use Rattle.iom_hardware.specs.Agreement.{known_blocks}
use Rattle.iom_hardware.proofs.KnownBlocks.{known_has}
use Rattle.iom_hardware.proofs.PlugLemmas.{disk_taken, has_none}
use Rattle.iom_hardware.proofs.hardware.Hardware.medium.Goals as goal

pub put_in-requires-clause-empty : goal.put_in-requires-clause-empty
put_in-requires-clause-empty g c =
    let old = c.args.self.now in
    let takes = disk_taken old.board.disks.items c.medium.new.self.disks.items (board_parts old.board) (board_parts c.medium.new.self) c.args.id c.args.disk c.medium.result c.medium.ensures.effect c.in_ok-medium.was in
    subst (λ (entries : List DiskEntry). has_in entries c.args.id ≡ Some false) (sym c.requires.invariants.agrees.known)
    (has_none old.board.devices.items c.args.id takes.able takes.can.0)

pub returns-clause-invariants : goal.returns-clause-invariants
returns-clause-invariants g c =
    let old = c.args.self.now in
    let takes = disk_taken old.board.disks.items c.medium.new.self.disks.items (board_parts old.board) (board_parts c.medium.new.self) c.args.id c.args.disk c.medium.result c.medium.ensures.effect c.in_ok-medium.was in
    record {
      board = c.medium.ensures.invariants;
      agrees = record {
        known = c.put_in.ensures.entries ∙ ap (λ (l : List DiskEntry). with_has l c.args.id true) c.requires.invariants.agrees.known
            ∙ sym (ap (λ (parts : BoardParts). known_blocks parts.devices) takes.put ∙ known_has old.board.devices.items c.args.id true c.requires.invariants.board.own_ids);
        numbers = c.put_in.ensures.numbers ∙ ap (without_disk (Some c.args.disk)) c.requires.invariants.agrees.numbers ∙ sym takes.taken;
      };
      room = subst (λ (n : ℕ). device_limit ≤ n) (sym c.put_in.ensures.room) c.requires.invariants.room;
    }
