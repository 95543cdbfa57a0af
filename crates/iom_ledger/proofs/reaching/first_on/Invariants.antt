use Rattle.iom_ledger.specs.RowsReaching.{NoneNamesWithin}
use Rattle.iom_ledger.proofs.reaching.first_on.Given as goal

-- none of those so far names the frame
abbrev pub invariant-loop-index : goal.invariant-loop-index
invariant-loop-index l = NoneNamesWithin l.pages.entries l.frame l.from l.index
