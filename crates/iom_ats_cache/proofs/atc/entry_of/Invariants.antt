use Rattle.std.proofs.Common.{◌≡◌, ◌≤◌, ◌<◌, ℕ, false, nat_eq, length, get_or}
use Rattle.iom_ats_cache.specs.declared.entry.Entry.{Entry}
use Rattle.iom_ats_cache.proofs.atc.entry_of.Given as goal

-- from the place on no entry is of the page
abbrev pub invariant-loop-place : goal.invariant-loop-place
invariant-loop-place l = (k : ℕ) (d : Entry) → l.place ≤ k → k < length l.entries → nat_eq (get_or l.entries k d).page l.page ≡ false
