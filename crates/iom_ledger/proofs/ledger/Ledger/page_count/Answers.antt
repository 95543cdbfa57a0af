use Rattle.std.proofs.Common.{sym, ◌∙◌}
use Rattle.std.proofs.lemmas.List.{length-map}
use Rattle.iom_ledger.specs.Rows.{entries_of}
use Rattle.iom_ledger.specs.Shown.{pages_listed, held_in}
use Rattle.iom_ledger.proofs.ReleaseLemmas.{held_listed}
use Rattle.iom_ledger.proofs.ledger.Ledger.page_count.Goals as goal

pub returns-clause-count : goal.returns-clause-count
unfolding pages_listed
returns-clause-count c = c.row_count.ensures ∙ sym (length-map (entries_of c.args.self.now.devices c.args.device) (λ entry. entry.0))

pub returns-clause-held : goal.returns-clause-held
unfolding pages_listed held_in
returns-clause-held c page held = held_listed c.args.self.now.devices c.args.device page held
