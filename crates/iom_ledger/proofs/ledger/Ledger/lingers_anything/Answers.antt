use Rattle.iom_ledger.specs.Rows.{pair_in_row}
use Rattle.iom_ledger.proofs.AgreementLemmas.{lingers_from_row, row_from_lingers}
use Rattle.iom_ledger.proofs.ledger.Ledger.lingers_anything.Goals as goal

pub returns-clause-lingering : goal.returns-clause-lingering
returns-clause-lingering c h agrees = (
  (λ some.
      let (page, row, at, released) = c.lingers_anything_in.ensures.0 some in
      (page, pair_in_row row, lingers_from_row c.args.self.now h agrees c.args.device page row at released)),
  (λ (page, pair, lingers).
      let (row, at, released) = row_from_lingers c.args.self.now h agrees c.args.device page pair lingers in
      c.lingers_anything_in.ensures.1 (page, row, at, released)),
)
