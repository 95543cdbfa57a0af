-- The indices of a page are one for each level, each below its width.
use Rattle.iom_page_table.proofs.KeptTables.{first_in_shape, second_in_shape}
use Rattle.iom_page_table.proofs.laws.paths_in_shape.Goals as goal

pub returns : goal.returns
returns c = record { first = first_in_shape; second = second_in_shape }
