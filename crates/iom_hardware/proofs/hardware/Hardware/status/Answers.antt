use Rattle.std.proofs.Common.{◌≡◌, ◌∙◌, ℕ, Ok, Err, Option, None, ap, sym, subst, refl, arith}
use Rattle.iom_block_devices.specs.Places.{IsBlockPlace}
use Rattle.iom_block_devices.specs.Changes.{block_with}
use Rattle.iom_block_devices.specs.Shown.{ShownBlock, shown_block, shown_blocks}
use Rattle.iom_block_devices.proofs.Lists.{get_lt}
use Rattle.iom_block_devices.proofs.PlaceLemmas.{at_place}
use Rattle.iom_board.specs.BoardParts.{board_parts}
use Rattle.iom_device.specs.Caches.{kind_in}
use Rattle.iom_virtio_blk.specs.Stages.{device_status}
use Rattle.iom_hardware.specs.Permits.{IsBlockOrRefused}
use Rattle.iom_hardware.specs.Status.{TellsStatus}
use Rattle.iom_hardware.proofs.BlockThere.{is_able, no_block, none_there, there_able}
use Rattle.iom_hardware.proofs.hardware.Hardware.status.Goals as goal

pub returns-in-Some : goal.returns-in-Some
returns-in-Some g c =
    let self = c.args.self.now in
    let refuses = subst (IsBlockOrRefused (kind_in self.board.devices.items c.args.id)) c.in-Some.is c.why_no_block.ensures in
    subst (λ (found : Option ShownBlock). TellsStatus found (board_parts self.board) c.args.id (Err c.in-Some.why)) (sym (none_there g.D.Disk.shown self c.requires.invariants c.args.id c.in-Some.why refuses))
    (no_block self.board.devices.items (board_parts self.board) c.args.id c.in-Some.why refl refuses)

pub index-requires : goal.index-requires
index-requires g c =
    let lt = get_lt c.deref.result.now c.in-Some-place_of.place c.in-Some-place_of.ensures.block c.in-Some-place_of.ensures.there in
    let len = c.deref.ensures.len in
    omega (arith, lt, len)

pub returns-in-Some-place_of : goal.returns-in-Some-place_of
returns-in-Some-place_of g c =
    let self = c.args.self.now in
    let shown = g.D.Disk.shown in
    let here = subst (λ blocks. IsBlockPlace shown blocks c.args.id c.in-Some-place_of.place) c.deref.ensures.value c.in-Some-place_of.ensures in
    let is = at_place shown self.blocks.items c.args.id c.in-Some-place_of.place c.index.result.now here c.index.ensures in
    let able = is_able self.board.devices.items c.args.id (subst (IsBlockOrRefused (kind_in self.board.devices.items c.args.id)) c.in_default.is c.why_no_block.ensures) in
    let status = c.status.ensures ∙ ap (λ block. device_status (shown_block shown block).device.front.stage) is in
    subst (λ (found : Option ShownBlock). TellsStatus found (board_parts self.board) c.args.id (Ok c.status.result)) (sym here.found)
    (able, ap (λ (n : ℕ). Ok n) status)

pub returns-in-None : goal.returns-in-None
returns-in-None g c =
    let self = c.args.self.now in
    let able = is_able self.board.devices.items c.args.id (subst (IsBlockOrRefused (kind_in self.board.devices.items c.args.id)) c.in_default.is c.why_no_block.ensures) in
    absurd (there_able g.D.Disk.shown self c.requires.invariants c.args.id able (subst (λ blocks. block_with (shown_blocks g.D.Disk.shown blocks) c.args.id ≡ None) c.deref.ensures.value c.in-None.ensures))
