use Rattle.iom_stepped_walk.proofs.LawLemmas.{directory_walks_load, table_walks_load}
use Rattle.iom_stepped_walk.proofs.laws.load_law.Goals as goal

pub returns : goal.returns
returns c = record { tables = table_walks_load; directory = directory_walks_load }
