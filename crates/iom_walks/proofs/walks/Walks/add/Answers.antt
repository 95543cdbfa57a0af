-- A spare row becomes the device's.
use Rattle.std.proofs.Common.{◌≡◌, List, None, arith, subst}
use Rattle.iom_walks.specs.Walks.{WalkRow, row_of}
use Rattle.iom_walks.proofs.Added.{none_found, pushed_items, added}
use Rattle.iom_walks.proofs.walks.Walks.add.Goals as goal

pub invariant_of-self : goal.invariant_of-self
invariant_of-self c =
    let none = none_found c.deref.result.now c.args.device c.find.result c.if-is_some.ensures c.find.ensures in
    let absent = subst (λ (rs : List WalkRow). row_of rs c.args.device ≡ None) c.deref.ensures.value none in
    let items = pushed_items _ _ _ c.push.result c.unwrap.result c.unwrap.ensures c.push.ensures.items in
    let all = added c.self.inside.rows.items c.push.new.self.items c.self.inside.spare.items c.pop.new.self.items c.args.device c.start.new.self c.in-Some.row
    items c.start.ensures c.in-Some.ensures.items c.self.invariant.1 absent c.self.invariant.2 in
    (omega (arith, c.self.invariant.0, c.push.ensures.capacity), all.0, all.1)
