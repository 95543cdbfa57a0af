use Rattle.std.proofs.Common.{◌≡◌, length}
use Rattle.iom_walks.proofs.walks.spare_rows.Given as goal

-- as many rows as were made
abbrev pub invariant-loop-made : goal.invariant-loop-made
invariant-loop-made l = length l.rows.items ≡ l.made
