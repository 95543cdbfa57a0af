use Rattle.std.proofs.Common.{◌≡◌, ◌∙◌, false, ap, subst, arith}
use Rattle.std.proofs.lemmas.Option.{get_or_from_slice_get}
use Rattle.iom_base.specs.Disks.{is_among}
use Rattle.iom_block_devices.specs.Entries.{numbers_of}
use Rattle.iom_block_devices.specs.Places.{IsDiskAt, others_than}
use Rattle.iom_block_devices.proofs.DiskLemmas.{takes_out}
use Rattle.iom_block_devices.proofs.Lists.{get_lt}
use Rattle.iom_block_devices.proofs.at_hand.take_disk.Goals as goal

pub returns-in_default : goal.returns-in_default
returns-in_default g c = subst (λ at_hand. is_among (numbers_of at_hand) c.args.number ≡ false) c.deref.ensures.value c.in_default.ensures

pub remove-taken-requires : goal.remove-taken-requires
remove-taken-requires g c =
    let lt = get_lt c.deref.result.now c.in-Some.place c.in-Some.ensures.one c.in-Some.ensures.there in
    let len = c.deref.ensures.len in
    omega (arith, lt, len)

pub returns : goal.returns
returns g c =
    let is = subst (λ at_hand. IsDiskAt g.D.Disk.shown at_hand c.args.number c.in-Some.place) c.deref.ensures.value c.in-Some.ensures in
    let taken = c.remove-taken.ensures.value ∙ get_or_from_slice_get c.args.at_hand.now.items c.in-Some.place is.one c.remove-taken.result is.there in
    takes_out g.D.Disk.shown c.args.at_hand.now.items c.leave_out.new.at_hand.items c.args.number c.in-Some.place c.remove-taken.result is taken
    (c.leave_out.ensures ∙ ap (others_than c.args.number) c.remove-taken.ensures.items)
