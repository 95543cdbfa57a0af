use Rattle.std.proofs.Common.{◌∙◌, Bool, List, Ok, Err, slice_set, ap, refl, sym, subst, arith}
use Rattle.iom_block_devices.specs.declared.block.Block.{Block}
use Rattle.iom_block_devices.specs.Shown.{shown_block, shown_blocks}
use Rattle.iom_block_devices.proofs.Lists.{get_lt}
use Rattle.iom_block_devices.proofs.PlaceLemmas.{at_place, changed_from, entries_from}
use Rattle.iom_board.specs.BoardParts.{board_parts}
use Rattle.iom_device.specs.Caches.{kind_in}
use Rattle.iom_hardware.specs.Agreement.{known_blocks}
use Rattle.iom_hardware.specs.Inside.{inside}
use Rattle.iom_hardware.proofs.AgreementLemmas.{sound_after}
use Rattle.iom_device.specs.declared.device.Device.{Device}
use Rattle.iom_walks.specs.Walks.{under_way_of}
use Rattle.iom_stepped_hardware.specs.Steps.{TakesOneStep, TakesStepBy, TakesStepUnless, walks_itself}
use Rattle.iom_stepped_hardware.proofs.AskSteps.{disk_stays, step_leaves, stepped_asks}
use Rattle.iom_stepped_hardware.proofs.WholeSteps.{block_kind, found_there, none_walking, place_there, whole_beside}
use Rattle.iom_stepped_hardware.proofs.steps.step.Goals as goal

pub returns-in-Ok-clause-beside : goal.returns-in-Ok-clause-beside
returns-in-Ok-clause-beside g c =
    let old = c.args.hardware.now in
    whole_beside (board_parts old.board) (board_parts c.step.new.self.board) (inside g.D.Disk.shown old) (inside g.D.Disk.shown c.step.new.self) c.args.walks.now c.args.id (Ok c.in-Ok.taken)
    c.requires.beside (sym (ap walks_itself c.kind_of.ensures) ∙ sym c.if-not-walks_itself.ensures) c.in-Ok.ensures.refused c.in-Ok.ensures.steps

pub returns-in-Err-clause-beside : goal.returns-in-Err-clause-beside
returns-in-Err-clause-beside g c =
    let old = c.args.hardware.now in
    whole_beside (board_parts old.board) (board_parts c.step.new.self.board) (inside g.D.Disk.shown old) (inside g.D.Disk.shown c.step.new.self) c.args.walks.now c.args.id (Err c.in-Err.why)
    c.requires.beside (sym (ap walks_itself c.kind_of.ensures) ∙ sym c.if-not-walks_itself.ensures) c.in-Err.ensures.refused c.in-Err.ensures.steps

pub unwrap-place-requires : goal.unwrap-place-requires
unwrap-place-requires g c =
    let old = c.args.hardware.now in
    let kind = block_kind (kind_in old.board.devices.items c.args.id) (sym (ap walks_itself c.kind_of.ensures) ∙ sym c.if-not-walks_itself.ensures) in
    place_there g.D.Disk.shown old c.requires.invariants c.args.id kind c.deref.result.now c.deref.ensures.value c.place_of.result c.place_of.ensures

pub index_mut-requires : goal.index_mut-requires
index_mut-requires g c =
    let blocks = c.deref.result.now in
    let here = found_there g.D.Disk.shown blocks blocks c.args.id c.unwrap-place.result refl c.place_of.result c.unwrap-place.ensures c.place_of.ensures in
    let lt = get_lt blocks c.unwrap-place.result here.block here.there in
    let len = c.deref.ensures.len in
    omega (arith, lt, len)

pub returns-clause-steps : goal.returns-clause-steps
returns-clause-steps g c =
    let old = c.args.hardware.now in
    let items = old.blocks.items in
    let here = found_there g.D.Disk.shown items c.deref.result.now c.args.id c.unwrap-place.result c.deref.ensures.value c.place_of.result c.unwrap-place.ensures c.place_of.ensures in
    let at = c.index_mut.result.now in
    let other : Block _ _ = record { id = at.id; blk = c.step_once.new.blk } in
    let is = at_place g.D.Disk.shown items c.args.id c.unwrap-place.result at here c.index_mut.ensures.value in
    let before = inside g.D.Disk.shown old in
    let after = record before { blocks = shown_blocks g.D.Disk.shown (slice_set items c.unwrap-place.result other) } in
    let new = board_parts c.step_once.new.board in
    let walks = sym (ap walks_itself c.kind_of.ensures) ∙ sym c.if-not-walks_itself.ensures in
    subst (λ (b : Bool). TakesStepBy b (board_parts old.board) c.args.walks.now before c.args.id c.step_once.result new c.step_once.new.walks after) (sym walks)
    (subst (λ (b : Bool). TakesStepUnless b (board_parts old.board) c.args.walks.now before c.args.id c.step_once.result new c.step_once.new.walks after) c.if-is_walking.ensures (
      changed_from g.D.Disk.shown (TakesOneStep (board_parts old.board) c.args.walks.now c.args.id c.step_once.result new c.step_once.new.walks) items c.args.id c.unwrap-place.result at other here is
          refl c.step_once.ensures.steps,
      refl,
    ))

pub returns-clause-invariants : goal.returns-clause-invariants
returns-clause-invariants g c =
    let old = c.args.hardware.now in
    let items = old.blocks.items in
    let here = found_there g.D.Disk.shown items c.deref.result.now c.args.id c.unwrap-place.result c.deref.ensures.value c.place_of.result c.unwrap-place.ensures c.place_of.ensures in
    let at = c.index_mut.result.now in
    let other : Block _ _ = record { id = at.id; blk = c.step_once.new.blk } in
    let is = at_place g.D.Disk.shown items c.args.id c.unwrap-place.result at here c.index_mut.ensures.value in
    let rows = c.args.walks.now in
    let unchanged = disk_stays (board_parts old.board) (board_parts c.step_once.new.board) rows c.step_once.new.walks c.args.id c.step_once.result (shown_block g.D.Disk.shown at).device (shown_block g.D.Disk.shown other).device c.step_once.ensures.steps in
    let leaves = step_leaves (board_parts old.board) (board_parts c.step_once.new.board) rows c.step_once.new.walks c.args.id c.step_once.result (shown_block g.D.Disk.shown at).device (shown_block g.D.Disk.shown other).device c.step_once.ensures.steps in
    sound_after old (record { board = c.step_once.new.board; blocks = _; at_hand = old.at_hand }) c.requires.invariants c.step_once.ensures.invariants
    (ap (λ (ds : List Device). known_blocks ds) leaves.devices) c.step_once.ensures.counted.disks
    (entries_from g.D.Disk.shown items c.args.id c.unwrap-place.result at other here is refl unchanged) refl refl

pub returns-clause-beside : goal.returns-clause-beside
returns-clause-beside g c =
    let old = c.args.hardware.now in
    let items = old.blocks.items in
    let here = found_there g.D.Disk.shown items c.deref.result.now c.args.id c.unwrap-place.result c.deref.ensures.value c.place_of.result c.unwrap-place.ensures c.place_of.ensures in
    let at = c.index_mut.result.now in
    let other : Block _ _ = record { id = at.id; blk = c.step_once.new.blk } in
    let is = at_place g.D.Disk.shown items c.args.id c.unwrap-place.result at here c.index_mut.ensures.value in
    let rows = c.args.walks.now in
    let new = board_parts c.step_once.new.board in
    let kind = block_kind (kind_in old.board.devices.items c.args.id) (sym (ap walks_itself c.kind_of.ensures) ∙ sym c.if-not-walks_itself.ensures) in
    let idle = none_walking (under_way_of rows c.args.id) (sym c.if-is_walking.ensures) in
    record {
      board = c.step_once.ensures.beside;
      asking = stepped_asks (board_parts old.board) new (shown_blocks g.D.Disk.shown items) (shown_blocks g.D.Disk.shown (slice_set items c.unwrap-place.result other)) rows c.step_once.new.walks
          c.args.id c.step_once.result c.requires.beside.asking kind idle (shown_block g.D.Disk.shown at).device (shown_block g.D.Disk.shown other).device c.step_once.ensures.steps
          (changed_from g.D.Disk.shown (TakesOneStep (board_parts old.board) rows c.args.id c.step_once.result new c.step_once.new.walks) items c.args.id c.unwrap-place.result at other here is refl
          c.step_once.ensures.steps);
    }
