use Rattle.std.proofs.Common.{◌≡◌, ◌<◌, ◌≤◌, ◌∙◌, true, false, length, Option, Some, None, IsSome, is_some, slice_get, sym, ap, arith}
use Rattle.iom_ledger.specs.History.{Pair}
use Rattle.iom_ledger.specs.Shown.{held_in, pages_listed}
use Rattle.iom_driver.proofs.Lists.{get_there}
use Rattle.iom_driver.proofs.Unmaps.{unmaps_next, unmaps_past, loses_leaves, held_contained}
use Rattle.iom_driver.proofs.quarantining.clear_leaves.Goals.{in-Some+then-is_some, in-Some+else-is_some, in_default}
use Rattle.iom_driver.proofs.quarantining.clear_leaves.Goals as goal

-- a value that is there
there : (o : Option Pair) → is_some o ≡ true → IsSome o
there None held = cc
there (Some pair) held = cc

pub unmap-requires-clause-page : goal.unmap-requires-clause-page
unmap-requires-clause-page c =
    c.requires.pages c.in-Some.page
    (there (held_in c.args.ledger.now c.args.id c.in-Some.page) (ap is_some (sym c.holds.ensures.shown) ∙ sym c.is_some.ensures ∙ c.if-is_some.true))

pub loop-index-preserved : goal.loop-index-preserved
loop-index-preserved c =
    let ledger = c.args.ledger.now in
    let id = c.args.id in
    let size = c.args.size in
    let root = c.args.root in
    let old = c.args.memory.now in
    let index = c.loop-index.index in
    let before = c.loop-index.invariant.unmaps in
    elim c.match-page_at.branch [
      | in-Some+then-is_some w ↦
          let at : slice_get (pages_listed ledger id) index ≡ Some w.in-Some.page = sym c.page_at.ensures ∙ w.in-Some.is in
          let held : is_some (held_in ledger id w.in-Some.page) ≡ true = ap is_some (sym w.holds.ensures.shown) ∙ sym w.is_some.ensures ∙ w.if-is_some.true in
          rw w.memory-is record {
            unmaps = unmaps_next size ledger id root old c.loop-index.memory w.unmap.new.memory index w.in-Some.page before at held record {
              tree = w.unmap.ensures.tree;
              tables = w.unmap.ensures.tables;
              leaf = w.unmap.ensures.leaf;
              outside = w.unmap.ensures.outside;
              keeps = w.unmap.ensures.keeps;
              long = w.unmap.ensures.size;
            } w.unmap.ensures.whole;
          }
      | in-Some+else-is_some w ↦
          let at : slice_get (pages_listed ledger id) index ≡ Some w.in-Some.page = sym c.page_at.ensures ∙ w.in-Some.is in
          let held : is_some (held_in ledger id w.in-Some.page) ≡ false = ap is_some (sym w.holds.ensures.shown) ∙ sym w.is_some.ensures ∙ w.if-is_some.false in
          rw w.memory-is record { unmaps = unmaps_past size ledger id root old c.loop-index.memory index w.in-Some.page before at held }
      | in_default w ↦
          let inside : index < length (pages_listed ledger id) = omega (arith, c.page_count-index-end.ensures.count, c.loop-index-test.true) in
          let found = get_there (pages_listed ledger id) index inside in
          absurd (w.in_default.not-Some found.0 (c.page_at.ensures ∙ found.1))
    ]

pub returns-clause-leaves : goal.returns-clause-leaves
returns-clause-leaves c =
    let end : length (pages_listed c.args.ledger.now c.args.id) ≤ c.loop-index.index = omega (arith, c.page_count-index-end.ensures.count, c.loop-index-test.false) in
    loses_leaves c.args.size c.args.ledger.now c.args.id c.args.root c.args.memory.now c.loop-index.memory c.loop-index.index c.loop-index.invariant.unmaps end c.page_count-index-end.ensures.held

pub returns-clause-all : goal.returns-clause-all
returns-clause-all c = λ page held. held_contained c.args.ledger.now c.args.id page (pages_listed c.args.ledger.now c.args.id) held (c.page_count-index-end.ensures.held page held)
