-- The shape of the tables that are built: as many levels as there are indices, and one.
use Rattle.std.proofs.Common.{◌+◌, length}
use Rattle.iom_stage_walk.specs.Paths.{first_widths}
use Rattle.iom_page_table.proofs.above_last.build.Given as goal

abbrev pub ghost-build_along : goal.ghost-build_along
ghost-build_along g a = first_widths (length a.upper.now + 1)
