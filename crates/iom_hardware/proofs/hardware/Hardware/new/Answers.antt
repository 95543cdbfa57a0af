use Rattle.std.proofs.Common.{◌≡◌, ◌∙◌, ℕ, List, map, sym, ap, subst}
use Rattle.iom_block_devices.specs.Numbered.{disk_number_of, numbered}
use Rattle.iom_block_devices.specs.Shown.{shown_blocks, states_of}
use Rattle.iom_block_devices.proofs.NumberLemmas.{numbers_seen}
use Rattle.iom_board.specs.PowerOn.{IsBoardAtPowerOn}
use Rattle.iom_hardware.specs.Agreement.{known_blocks}
use Rattle.iom_block_devices.specs.Entries.{disk_entries_of, numbers_of}
use Rattle.iom_hardware.proofs.hardware.Hardware.new.Goals as goal

pub returns-clause-power_on : goal.returns-clause-power_on
returns-clause-power_on g c =
    let begins = c.in_ok-board.ensures.power_on in
    let numbers : c.deref-2.result.now ≡ map disk_number_of (numbered 0 (states_of g.D.Disk.shown c.args.disks.items)) =
    c.deref-2.ensures.value ∙ c.in-Ok-numbers_of.ensures ∙ ap numbers_of c.deref.ensures.value ∙ numbers_seen g.D.Disk.shown c.in-Ok.at_hand.items ∙ ap (map disk_number_of) c.in-Ok.ensures in
    record {
      begins = subst (λ (disks : List ℕ). IsBoardAtPowerOn c.args.frames disks c.in_ok-board.board) numbers begins;
      blocks = ap (shown_blocks g.D.Disk.shown) c.in-Ok-with_capacity.ensures.items;
      at_hand = c.in-Ok.ensures;
    }

pub returns-clause-invariants : goal.returns-clause-invariants
returns-clause-invariants g c =
    let begins = c.in_ok-board.ensures.power_on in
    record {
      board = c.in_ok-board.ensures.invariants;
      agrees = record {
        known = ap disk_entries_of c.in-Ok-with_capacity.ensures.items ∙ sym (ap known_blocks begins.devices);
        numbers = sym (ap numbers_of c.deref.ensures.value) ∙ sym c.in-Ok-numbers_of.ensures ∙ sym c.deref-2.ensures.value ∙ sym begins.at_hand;
      };
      room = c.in-Ok-with_capacity.ensures.capacity;
    }
