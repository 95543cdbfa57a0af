-- The frames that become tables, or pages of the directory.
use Rattle.std.specs.Prelude.{ℕ, zero, suc, ⊤, List, [], ◌∷◌, Option, Some, slice_set}
use Rattle.iom_base.specs.declared.owner.Owner.{Owner}
use Rattle.iom_ledger.specs.declared.ledger.Ledger.{Ledger}
use Rattle.iom_phys_mem.specs.Words.{zeroed}
use Rattle.iom_table_frames.specs.Owners.{IsHighestFree}

-- so many frames below the limit, the named one passed over: each is the highest free one below that before it
abbrev pub AreHighestFree : List (Option Owner) → Ledger → Option ℕ → ℕ → ℕ → List ℕ → Type 0
AreHighestFree owners ledger named limit zero [] = ⊤
AreHighestFree owners ledger named limit zero (frame ∷ frames) = ⊥
AreHighestFree owners ledger named limit (suc count) [] = ⊥
AreHighestFree owners ledger named limit (suc count) (frame ∷ frames) =
    IsHighestFree owners ledger named limit frame × AreHighestFree owners ledger named frame count frames

-- the owners, where the frames are the owner's
abbrev pub owned_by : Owner → List ℕ → List (Option Owner) → List (Option Owner)
owned_by owner [] owners = owners
owned_by owner (frame ∷ frames) owners = owned_by owner frames (slice_set owners frame (Some owner))

-- the memory, where the frames are zero
abbrev pub cleared : List ℕ → List (List ℕ) → List (List ℕ)
cleared [] memory = memory
cleared (frame ∷ frames) memory = cleared frames (slice_set memory frame zeroed)
