use Rattle.std.proofs.Common.{◌<◌, refl, arith}
use Rattle.iom_stage_walk.specs.Entries.{entries}
use Rattle.iom_stage_walk.specs.declared.entry.Entry.TheVariants.{Pointer}
use Rattle.iom_pointers.proofs.FollowLemmas.{follows_pointer, pointer_below}
use Rattle.iom_pointers.proofs.LeadLemmas.{number_of, read_there}
use Rattle.iom_pointers.proofs.pointers.Pointers.+follow.Goals as goal

pub returns-in-Pointer : goal.returns-in-Pointer
returns-in-Pointer t c =
    let memory = c.args.memory.now in
    let hand = c.args.hand in
    let is = read_there (entries memory) hand (Pointer c.in-Pointer.next) c.number.result c.index_in-index.result c.number.ensures.value c.index_in-index.ensures.value c.in-Pointer.ensures.value in
    let some : 0 < hand.level = omega arith in
    let named = number_of c.new.result c.in-Pointer.next c.unwrap.result c.new.ensures.value c.unwrap.ensures in
    follows_pointer memory c.args.space hand c.hand.result c.in-Pointer.next _ c.args.self.now c.keep.new.self c.follow.new.self some is
    (pointer_below c.args.space hand.page hand.level c.in-Pointer.next c.span.result _ refl refl refl named some c.span.ensures.value) c.keep.ensures c.hand.ensures c.follow.ensures
