-- The frames handed to `map` are fresh, and those below them stay spare.
use Rattle.std.proofs.Common.{◌-◌, arith}
use Rattle.iom_memory_tests.proofs.Spare.{highest, highest_fresh, below_highest, spare_stays}
use Rattle.iom_memory_tests.proofs.page_table.map_page.Goals as goal

pub map-requires-clause-fresh : goal.map-requires-clause-fresh
map-requires-clause-fresh g c =
    highest_fresh c.args.size c.args.memory.now c.args.top c.missing-tables.result c.requires.spare (omega arith) (omega arith)

pub returns-clause-spare : goal.returns-clause-spare
returns-clause-spare g c =
    spare_stays c.args.size c.args.memory.now c.map.new.memory c.args.top (c.args.top - c.missing-tables.result) (highest c.args.top c.missing-tables.result)
    c.requires.spare (omega arith) c.map.ensures.tables c.map.ensures.outside (λ f lt. below_highest c.args.top c.missing-tables.result f (omega arith) (omega arith) lt)
