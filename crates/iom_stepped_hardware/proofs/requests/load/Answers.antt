use Rattle.std.proofs.Common.{◌∙◌, List, Ok, Result, ap, refl, subst, sym}
use Rattle.iom_base.specs.declared.refusal.Refusal.{Refusal}
use Rattle.iom_block_devices.specs.Shown.{shown_blocks}
use Rattle.iom_board.specs.BoardParts.{board_parts}
use Rattle.iom_device.specs.declared.device.Device.{Device}
use Rattle.iom_hardware.specs.Agreement.{known_blocks}
use Rattle.iom_hardware.specs.Inside.{inside}
use Rattle.iom_hardware.proofs.AgreementLemmas.{sound_after}
use Rattle.iom_iommu.specs.declared.begun.Load.{Load}
use Rattle.iom_stepped_hardware.specs.Requests.{HearsLoad}
use Rattle.iom_stepped_hardware.proofs.AskEvents.{asking_at_end, loaded_asks, loaded_devices, unheard}
use Rattle.iom_stepped_hardware.proofs.requests.load.Goals as goal

pub hear_reply-requires : goal.hear_reply-requires
hear_reply-requires g c =
    let old = c.args.hardware.now in
    record {
      asking = asking_at_end (board_parts old.board) (board_parts c.load.new.board) (shown_blocks g.D.Disk.shown old.blocks.items) c.args.walks.now c.load.new.walks c.args.id c.load.result
          c.in-Ended.reply c.requires.beside.asking c.load.ensures.effect (c.in_ok-load.was ∙ ap (λ (l : Load). Ok l) c.in-Ended.is);
    }

pub returns-in-Ended-clause-beside : goal.returns-in-Ended-clause-beside
returns-in-Ended-clause-beside g c =
    let old = c.args.hardware.now in
    let before = inside g.D.Disk.shown old in
    let after = record before { blocks = shown_blocks g.D.Disk.shown c.hear_reply.new.blocks.items } in
    record {
      board = c.load.ensures.beside;
      asking = loaded_asks (board_parts old.board) (board_parts c.load.new.board) before after c.args.walks.now c.load.new.walks c.args.id c.load.result c.requires.beside.asking c.load.ensures.effect
          (subst (λ (answer : Result Load Refusal). HearsLoad answer before c.args.id after) (sym (c.in_ok-load.was ∙ ap (λ (l : Load). Ok l) c.in-Ended.is)) (c.hear_reply.ensures.shown, refl));
    }

pub returns-in-Loaded : goal.returns-in-Loaded
returns-in-Loaded g c =
    let old = c.args.hardware.now in
    let blocks = inside g.D.Disk.shown old in
    let heard = unheard blocks c.args.id c.in_ok-load.load c.in-Loaded.is in
    let devices = loaded_devices (board_parts old.board) (board_parts c.load.new.board) c.args.walks.now c.load.new.walks c.args.id c.load.result c.load.ensures.effect in
    record {
      effect = c.in_ok-load.ensures.effect;
      inside = heard;
      invariants = sound_after old (record { board = c.load.new.board; blocks = old.blocks; at_hand = old.at_hand }) c.requires.invariants c.load.ensures.invariants
          (ap (λ (ds : List Device). known_blocks ds) devices) c.load.ensures.counted.disks refl refl refl;
      beside = record {
        board = c.load.ensures.beside;
        asking = loaded_asks (board_parts old.board) (board_parts c.load.new.board) blocks blocks c.args.walks.now c.load.new.walks c.args.id (Ok c.in_ok-load.load) c.requires.beside.asking
            c.in_ok-load.ensures.effect heard;
      };
      counted = c.load.ensures.counted;
    }
