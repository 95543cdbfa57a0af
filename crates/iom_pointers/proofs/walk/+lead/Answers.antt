use Rattle.std.proofs.Common.{◌≡◌, ◌∙◌, ◌-◌, ◌<◌, false, refl, sym, arith}
use Rattle.iom_napot.specs.Entries.{entries_in, order_in}
use Rattle.iom_stage_walk.specs.declared.entry.Entry.TheVariants.{Leaf, Pointer}
use Rattle.iom_stepped_walk.specs.declared.hand.TableInHand.{TableInHand}
use Rattle.iom_pointers.proofs.LeadLemmas.{leaf_leads, leaf_leads_nowhere, lowest_leads_nowhere, none_leads_nowhere, number_of, pointer_leads, pointer_leads_nowhere, read_there}
use Rattle.iom_pointers.proofs.walk.+lead.Goals as goal

pub returns-then-hand-eq0-clause-none : goal.returns-then-hand-eq0-clause-none
returns-then-hand-eq0-clause-none t c =
    let memory = c.args.memory.now in
    let hand = c.args.hand in
    let own = entries_in c.args.napot memory hand.level in
    let is = read_there own hand (Pointer c.in-Pointer.next) c.number.result c.index_in.result c.number.ensures.value c.index_in.ensures.value (sym c.in-Pointer.is ∙ c.entry_in-found.ensures.entry) in
    let lowest : hand.level ≡ 0 = omega arith in
    lowest_leads_nowhere c.args.napot memory hand c.args.kind c.in-Pointer.next is lowest

pub returns-in-Leaf-clause-some : goal.returns-in-Leaf-clause-some
returns-in-Leaf-clause-some t c =
    let memory = c.args.memory.now in
    let hand = c.args.hand in
    let own = entries_in c.args.napot memory hand.level in
    let is = read_there own hand (Leaf c.in-Leaf.base c.in-Leaf.rights) c.number.result c.index_in.result c.number.ensures.value c.index_in.ensures.value (sym c.in-Leaf.is ∙ c.entry_in-found.ensures.entry) in
    let ordered = read_there (order_in c.args.napot memory hand.level) hand c.entry_in-found.result.order c.number.result c.index_in.result c.number.ensures.value c.index_in.ensures.value c.entry_in-found.ensures.order in
    leaf_leads c.args.napot memory hand c.in-Leaf.base c.in-Leaf.rights c.entry_in-found.result.order c.args.kind c.frames.result c.requires is ordered c.frames.ensures c.leaf_of.result c.leaf_of.ensures.some

pub returns-in-Leaf-clause-none : goal.returns-in-Leaf-clause-none
returns-in-Leaf-clause-none t c =
    let memory = c.args.memory.now in
    let hand = c.args.hand in
    let own = entries_in c.args.napot memory hand.level in
    let is = read_there own hand (Leaf c.in-Leaf.base c.in-Leaf.rights) c.number.result c.index_in.result c.number.ensures.value c.index_in.ensures.value (sym c.in-Leaf.is ∙ c.entry_in-found.ensures.entry) in
    let ordered = read_there (order_in c.args.napot memory hand.level) hand c.entry_in-found.result.order c.number.result c.index_in.result c.number.ensures.value c.index_in.ensures.value c.entry_in-found.ensures.order in
    leaf_leads_nowhere c.args.napot memory hand c.in-Leaf.base c.in-Leaf.rights c.entry_in-found.result.order c.args.kind c.frames.result c.requires is ordered c.frames.ensures c.leaf_of.result c.leaf_of.ensures.none

pub returns-else-hand-eq0-clause-some : goal.returns-else-hand-eq0-clause-some
returns-else-hand-eq0-clause-some t c =
    let memory = c.args.memory.now in
    let hand = c.args.hand in
    let own = entries_in c.args.napot memory hand.level in
    let is = read_there own hand (Pointer c.in-Pointer.next) c.number.result c.index_in.result c.number.ensures.value c.index_in.ensures.value (sym c.in-Pointer.is ∙ c.entry_in-found.ensures.entry) in
    let named = number_of c.new.result c.in-Pointer.next c.unwrap.result c.new.ensures.value c.unwrap.ensures in
    let below : TableInHand = record { table = c.unwrap.result; level = hand.level - 1; is_wide = false; page = hand.page } in
    let some : 0 < hand.level = omega arith in
    pointer_leads c.args.napot memory hand c.args.kind c.in-Pointer.next is below named refl refl refl some c.lead.result c.lead.ensures.some

pub returns-else-hand-eq0-clause-none : goal.returns-else-hand-eq0-clause-none
returns-else-hand-eq0-clause-none t c =
    let memory = c.args.memory.now in
    let hand = c.args.hand in
    let own = entries_in c.args.napot memory hand.level in
    let is = read_there own hand (Pointer c.in-Pointer.next) c.number.result c.index_in.result c.number.ensures.value c.index_in.ensures.value (sym c.in-Pointer.is ∙ c.entry_in-found.ensures.entry) in
    let named = number_of c.new.result c.in-Pointer.next c.unwrap.result c.new.ensures.value c.unwrap.ensures in
    let below : TableInHand = record { table = c.unwrap.result; level = hand.level - 1; is_wide = false; page = hand.page } in
    let some : 0 < hand.level = omega arith in
    pointer_leads_nowhere c.args.napot memory hand c.args.kind c.in-Pointer.next is below named refl refl refl some c.lead.result c.lead.ensures.none

pub returns-in-Invalid-clause-none : goal.returns-in-Invalid-clause-none
returns-in-Invalid-clause-none t c =
    let memory = c.args.memory.now in
    let hand = c.args.hand in
    let own = entries_in c.args.napot memory hand.level in
    let is = read_there own hand c.entry_in-found.result.entry c.number.result c.index_in.result c.number.ensures.value c.index_in.ensures.value c.entry_in-found.ensures.entry in
    none_leads_nowhere c.args.napot memory hand c.args.kind c.entry_in-found.result.entry is c.in-Invalid.is
