use Rattle.std.proofs.Common.{◌≡◌, ◌∙◌, None, refl, subst, arith}
use Rattle.iom_block_devices.specs.Changes.{block_with, SetsUp}
use Rattle.iom_block_devices.specs.Places.{IsBlockPlace}
use Rattle.iom_block_devices.specs.Shown.{shown_blocks}
use Rattle.iom_block_devices.proofs.BlockLemmas.{sets_up, entries_kept}
use Rattle.iom_block_devices.proofs.PlaceLemmas.{at_place, changed_from, changed_none}
use Rattle.iom_block_devices.proofs.Lists.{get_lt}
use Rattle.iom_block_devices.proofs.blocks.set_up.Goals as goal

pub index_mut-requires : goal.index_mut-requires
index_mut-requires g c =
    let lt = get_lt c.deref.result.now c.in-Some.place c.in-Some.ensures.block c.in-Some.ensures.there in
    let len = c.deref.ensures.len in
    omega (arith, lt, len)

pub returns-in_default-clause-shown : goal.returns-in_default-clause-shown
returns-in_default-clause-shown g c =
    changed_none (SetsUp c.args.layout) (shown_blocks g.D.Disk.shown c.args.blocks.now.items) c.args.id
    (subst (λ blocks. block_with (shown_blocks g.D.Disk.shown blocks) c.args.id ≡ None) c.deref.ensures.value c.in_default.ensures)

pub returns-in-Some-clause-shown : goal.returns-in-Some-clause-shown
returns-in-Some-clause-shown g c =
    let here = subst (λ blocks. IsBlockPlace g.D.Disk.shown blocks c.args.id c.in-Some.place) c.deref.ensures.value c.in-Some.ensures in
    let at = c.index_mut.result.now in
    let is = at_place g.D.Disk.shown c.args.blocks.now.items c.args.id c.in-Some.place at here c.index_mut.ensures.value in
    changed_from g.D.Disk.shown (SetsUp c.args.layout) c.args.blocks.now.items c.args.id c.in-Some.place at (record { id = at.id; blk = c.set_queue.new.self }) here is refl
    (sets_up g.D.Disk.shown at (record { id = at.id; blk = c.set_queue.new.self }) c.args.layout c.reset.new.self.front c.negotiate.new.self.front c.reset.ensures.front c.negotiate.ensures.front c.set_queue.ensures.front (c.set_queue.ensures.disk ∙ c.negotiate.ensures.disk ∙ c.reset.ensures.disk))

pub returns-in-Some-clause-entries : goal.returns-in-Some-clause-entries
returns-in-Some-clause-entries g c =
    let here = subst (λ blocks. IsBlockPlace g.D.Disk.shown blocks c.args.id c.in-Some.place) c.deref.ensures.value c.in-Some.ensures in
    let at = c.index_mut.result.now in
    let is = at_place g.D.Disk.shown c.args.blocks.now.items c.args.id c.in-Some.place at here c.index_mut.ensures.value in
    entries_kept g.D.Disk.shown c.args.blocks.now.items c.args.id c.in-Some.place at (record { id = at.id; blk = c.set_queue.new.self }) here is refl (c.set_queue.ensures.disk ∙ c.negotiate.ensures.disk ∙ c.reset.ensures.disk)
