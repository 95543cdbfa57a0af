use Rattle.std.proofs.Common.{◌≤◌, ◌∙◌, ℕ, false, List, ap, sym, subst}
use Rattle.iom_base.specs.Sizes.{device_limit}
use Rattle.iom_block_devices.specs.Entries.{DiskEntry}
use Rattle.iom_block_devices.specs.Places.{with_has}
use Rattle.iom_board.specs.BoardParts.{BoardParts, board_parts}
use Rattle.iom_hardware.specs.Agreement.{known_blocks}
use Rattle.iom_hardware.proofs.PlugLemmas.{disk_gone, known_left}
use Rattle.iom_hardware.proofs.hardware.Hardware.remove_disk.Goals as goal

pub returns-clause-invariants : goal.returns-clause-invariants
returns-clause-invariants g c =
    let old = c.args.self.now in
    let goes = disk_gone (board_parts old.board) (board_parts c.remove_disk.new.self) c.args.id c.remove_disk.result c.remove_disk.ensures.effect c.in_ok-remove_disk.was in
    record {
      board = c.remove_disk.ensures.invariants;
      agrees = record {
        known = c.leave.ensures.entries ∙ ap (λ (l : List DiskEntry). with_has l c.args.id false) c.requires.invariants.agrees.known
            ∙ sym (ap (λ (parts : BoardParts). known_blocks parts.devices) goes.gone ∙ known_left old.board.devices.items c.args.id c.requires.invariants.board.own_ids);
        numbers = c.requires.invariants.agrees.numbers ∙ sym c.remove_disk.ensures.counted.disks;
      };
      room = subst (λ (n : ℕ). device_limit ≤ n) (sym c.leave.ensures.room) c.requires.invariants.room;
    }
