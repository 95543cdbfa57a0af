use Rattle.std.specs.Prelude.{◌≡◌, ◌<◌, ℕ, Some, slice_get}
use Rattle.iom_kept_state.specs.Grants.{held_by, pages_by}
use Rattle.iom_kept_state.proofs.grants.KeptGrants.agree_at_pages.Given as goal

-- they agree at the pages so far
abbrev pub invariant-loop-index : goal.invariant-loop-index
invariant-loop-index l =
    (k page : ℕ) → k < l.index → slice_get (pages_by l.fn.self l.fn.of) k ≡ Some page → held_by l.fn.self l.fn.one page ≡ held_by l.fn.self l.fn.other page
