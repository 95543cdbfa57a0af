use Rattle.std.proofs.Common.{◌∙◌, ◌++◌, ◌∷◌, [], ℕ, true, List, Option, Some, ap, sym, refl}
use Rattle.iom_base.specs.Disks.{without_disk}
use Rattle.iom_block_devices.specs.Entries.{DiskEntry}
use Rattle.iom_board.specs.BoardParts.{board_parts}
use Rattle.iom_hardware.specs.Agreement.{known_blocks}
use Rattle.iom_hardware.proofs.AgreementLemmas.{sound_after}
use Rattle.iom_hardware.proofs.PlugLemmas.{few_blocks, few_devices, plugged_block, plugged_none}
use Rattle.iom_hardware.proofs.hardware.Hardware.plug.Goals as goal

pub plug_in-requires-clause-few : goal.plug_in-requires-clause-few
plug_in-requires-clause-few g c =
    let old = c.args.self.now in
    few_blocks old.blocks.items old.board.devices.items c.requires.invariants.agrees.known
    (few_devices old.board.disks.items (board_parts old.board) c.args.id c.args.what c.in_ok-plug.ensures.effect.admitted)

pub returns-in-Some-clause-invariants : goal.returns-in-Some-clause-invariants
returns-in-Some-clause-invariants g c =
    let old = c.args.self.now in
    let stands = c.in_ok-plug.ensures.effect in
    let has = sym c.disk.ensures ∙ c.in-Some.is in
    record {
      board = c.plug.ensures.invariants;
      agrees = record {
        known = c.plug_in.ensures.entries ∙ ap (λ (l : List DiskEntry). l ++ (c.args.id, true) ∷ []) c.requires.invariants.agrees.known
            ∙ sym (ap known_blocks stands.devices ∙ plugged_block old.board.devices.items c.args.id c.in-Some.number c.args.what has);
        numbers = c.plug_in.ensures.numbers ∙ ap (without_disk (Some c.in-Some.number)) c.requires.invariants.agrees.numbers
            ∙ sym (stands.taken ∙ ap (λ (named : Option ℕ). without_disk named old.board.disks.items) has);
      };
      room = c.plug_in.ensures.room;
    }

pub returns-in_default-clause-invariants : goal.returns-in_default-clause-invariants
returns-in_default-clause-invariants g c =
    let old = c.args.self.now in
    let stands = c.in_ok-plug.ensures.effect in
    let none = sym c.disk.ensures ∙ c.in_default.is in
    sound_after old (record { board = c.plug.new.self; blocks = old.blocks; at_hand = old.at_hand }) c.requires.invariants c.plug.ensures.invariants
    (ap known_blocks stands.devices ∙ plugged_none old.board.devices.items c.args.id c.args.what none)
    (stands.taken ∙ ap (λ (named : Option ℕ). without_disk named old.board.disks.items) none) refl refl refl
