use Rattle.std.proofs.Common.{◌≡◌, Err, Option, None, sym, subst, refl, arith}
use Rattle.iom_block_devices.specs.declared.block.Block.{Block}
use Rattle.iom_block_devices.specs.Places.{IsBlockPlace}
use Rattle.iom_block_devices.specs.Changes.{block_with}
use Rattle.iom_block_devices.specs.Shown.{ShownBlock, shown_blocks}
use Rattle.iom_block_devices.proofs.Lists.{get_lt}
use Rattle.iom_block_devices.proofs.PlaceLemmas.{at_place, changed_from, changed_none, entries_from}
use Rattle.iom_board.specs.BoardParts.{board_parts}
use Rattle.iom_device.specs.Caches.{kind_in}
use Rattle.iom_hardware.specs.Permits.{IsBlockOrRefused}
use Rattle.iom_hardware.specs.Steps.{IsRefusedIfNone, TakesOneStep}
use Rattle.iom_hardware.proofs.AgreementLemmas.{sound_after}
use Rattle.iom_hardware.proofs.BlockThere.{able_there, is_refused, no_block}
use Rattle.iom_hardware.proofs.StepLemmas.{disk_stays, stepped_known}
use Rattle.iom_hardware.proofs.hardware.Hardware.step.Goals as goal

pub index_mut-requires : goal.index_mut-requires
index_mut-requires g c =
    let lt = get_lt c.deref.result.now c.in-Some.place c.in-Some.ensures.block c.in-Some.ensures.there in
    let len = c.deref.ensures.len in
    omega (arith, lt, len)

pub returns-in-Some-clause-refused : goal.returns-in-Some-clause-refused
returns-in-Some-clause-refused g c =
    let self = c.args.self.now in
    let here = subst (λ blocks. IsBlockPlace g.D.Disk.shown blocks c.args.id c.in-Some.place) c.deref.ensures.value c.in-Some.ensures in
    let able = able_there g.D.Disk.shown self c.requires.invariants c.args.id _ here.found in
    subst (λ (found : Option ShownBlock). IsRefusedIfNone found (board_parts self.board) c.args.id c.step_once.result (board_parts c.step_once.new.board)) (sym here.found) able

pub returns-in-Some-clause-steps : goal.returns-in-Some-clause-steps
returns-in-Some-clause-steps g c =
    let self = c.args.self.now in
    let here = subst (λ blocks. IsBlockPlace g.D.Disk.shown blocks c.args.id c.in-Some.place) c.deref.ensures.value c.in-Some.ensures in
    let is = at_place g.D.Disk.shown self.blocks.items c.args.id c.in-Some.place c.index_mut.result.now here c.index_mut.ensures.value in (
      changed_from g.D.Disk.shown (TakesOneStep (board_parts self.board) c.args.id c.step_once.result (board_parts c.step_once.new.board)) self.blocks.items c.args.id c.in-Some.place c.index_mut.result.now
          (record { id = c.index_mut.result.now.id; blk = c.step_once.new.blk }) here is refl c.step_once.ensures.steps,
      refl,
    )

pub returns-in-Some-clause-invariants : goal.returns-in-Some-clause-invariants
returns-in-Some-clause-invariants g c =
    let self = c.args.self.now in
    let here = subst (λ blocks. IsBlockPlace g.D.Disk.shown blocks c.args.id c.in-Some.place) c.deref.ensures.value c.in-Some.ensures in
    let is = at_place g.D.Disk.shown self.blocks.items c.args.id c.in-Some.place c.index_mut.result.now here c.index_mut.ensures.value in
    let other : Block _ _ = record { id = c.index_mut.result.now.id; blk = c.step_once.new.blk } in
    let unchanged = disk_stays (board_parts self.board) (board_parts c.step_once.new.board) c.args.id c.step_once.result _ _ c.step_once.ensures.steps in
    sound_after self (record { board = c.step_once.new.board; blocks = _; at_hand = self.at_hand }) c.requires.invariants c.step_once.ensures.invariants
    (stepped_known (board_parts self.board) (board_parts c.step_once.new.board) c.args.id c.step_once.result _ _ c.step_once.ensures.steps) c.step_once.ensures.counted.disks
    (entries_from g.D.Disk.shown self.blocks.items c.args.id c.in-Some.place c.index_mut.result.now other here is refl unchanged) refl refl

pub unwrap-requires : goal.unwrap-requires
unwrap-requires g c =
    let self = c.args.self.now in
    let none = subst (λ blocks. block_with (shown_blocks g.D.Disk.shown blocks) c.args.id ≡ None) c.deref.ensures.value c.in-None.ensures in
    is_refused g.D.Disk.shown self c.requires.invariants c.args.id none c.why_no_block.result c.why_no_block.ensures

pub returns-in-None-clause-refused : goal.returns-in-None-clause-refused
returns-in-None-clause-refused g c =
    let self = c.args.self.now in
    let none = subst (λ blocks. block_with (shown_blocks g.D.Disk.shown blocks) c.args.id ≡ None) c.deref.ensures.value c.in-None.ensures in
    let refuses = subst (IsBlockOrRefused (kind_in self.board.devices.items c.args.id)) c.unwrap.ensures c.why_no_block.ensures in
    subst (λ (found : Option ShownBlock). IsRefusedIfNone found (board_parts self.board) c.args.id (Err c.unwrap.result) (board_parts self.board)) (sym none)
    (no_block self.board.devices.items (board_parts self.board) c.args.id c.unwrap.result refl refuses)

pub returns-in-None-clause-steps : goal.returns-in-None-clause-steps
returns-in-None-clause-steps g c =
    let self = c.args.self.now in
    let none = subst (λ blocks. block_with (shown_blocks g.D.Disk.shown blocks) c.args.id ≡ None) c.deref.ensures.value c.in-None.ensures in
    (changed_none (TakesOneStep (board_parts self.board) c.args.id (Err c.unwrap.result) (board_parts self.board)) (shown_blocks g.D.Disk.shown self.blocks.items) c.args.id none, refl)
