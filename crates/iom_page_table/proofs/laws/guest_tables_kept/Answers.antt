-- The tables of a second stage are where they were where those of its first frame are.
use Rattle.iom_page_table.proofs.KeptTables.{guest_tables_kept}
use Rattle.iom_page_table.proofs.laws.guest_tables_kept.Goals as goal

pub returns : goal.returns
returns c = guest_tables_kept
