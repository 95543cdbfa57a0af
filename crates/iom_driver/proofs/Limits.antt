-- The limits of pages.
use Rattle.std.proofs.Common.{◌≡◌, ◌<◌, ◌^◌, inl, inr, ℕ, List, Option, Some, None, IsSome, arith}
use Rattle.std.proofs.lemmas.Bool.{cases_lt}
use Rattle.iom_base.specs.declared.mode.Mode.{Mode}
use Rattle.iom_base.specs.Modes.{size_in}
use Rattle.iom_base.specs.declared.owner.Owner.{Owner}
use Rattle.iom_base.specs.declared.size.Size.{Size}
use Rattle.iom_base.specs.declared.size.Size.TheVariants.{Sv39, Sv48}
use Rattle.iom_base.specs.Sizes.{page_limit_of}
use Rattle.iom_ledger.specs.declared.ledger.Ledger.{Ledger}
use Rattle.iom_ledger.specs.History.{Pair}
use Rattle.iom_ledger.specs.Shown.{held_in}
use Rattle.iom_driver.specs.Tables.{AreTablesOf}

-- what is below the limit of a size is below the larger one
pub low_in_any : (size : Size) (page : ℕ) → page < page_limit_of size → page < page_limit_of Sv48
low_in_any Sv39 page low = omega arith
low_in_any Sv48 page low = low

-- and so the number of a page
pub low_page : (size : Size) (page : ℕ) → page < page_limit_of size → page < 2 ^ 52
low_page Sv39 page low = omega arith
low_page Sv48 page low = omega arith

-- what a device holds is below the limit of its tables' size
pub held_low : (memory : List (List ℕ)) (owners : List (Option Owner)) (ledger : Ledger) (id : ℕ) (mode : Mode) (root page : ℕ) → AreTablesOf memory owners ledger id mode root
    → IsSome (held_in ledger id page) → page < page_limit_of (size_in mode)
held_low memory owners ledger id mode root page tables held = elim (cases_lt page (page_limit_of (size_in mode))) [
  | inl low ↦ low
  | inr high ↦ absurd (not_there (held_in ledger id page) (tables.low page high) held)
]
  where
    not_there : (o : Option Pair) → o ≡ None → IsSome o → ⊥
    not_there None none there = cc
    not_there (Some pair) none there = cc
