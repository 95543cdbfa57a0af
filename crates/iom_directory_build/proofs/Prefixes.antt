-- Ids that agree above an index.
use Rattle.std.proofs.Common.{zero, suc, ◌≡◌, ◌<◌, ◌≤◌, ℕ, arith}
use Rattle.iom_device_dir.specs.Paths.{ddi, ids_below}
use Rattle.iom_directory_build.specs.Pages.{IsSamePrefix}

-- they agree above the next level too
pub same_above : (level id other : ℕ) → suc level ≤ 2 → IsSamePrefix level id other → IsSamePrefix (suc level) id other
same_above zero id other le same = omega (arith, same)
same_above (suc zero) id other le same = omega (arith, same)
same_above (suc (suc level)) id other le same = absurd (omega arith)

-- and have the same index there
pub same_index : (level id other : ℕ) → suc level ≤ 2 → IsSamePrefix level id other → ddi (suc level) id ≡ ddi (suc level) other
same_index zero id other le same = omega (arith, same)
same_index (suc zero) id other le same = omega (arith, same)
same_index (suc (suc level)) id other le same = absurd (omega arith)

-- and where they have, they agree above this level
pub same_below : (level id other : ℕ) → suc level ≤ 2 → IsSamePrefix (suc level) id other → ddi (suc level) id ≡ ddi (suc level) other → IsSamePrefix level id other
same_below zero id other le same index = omega (arith, same, index)
same_below (suc zero) id other le same index = omega (arith, same, index)
same_below (suc (suc level)) id other le same index = absurd (omega arith)

-- ids of a directory agree above its root's level
pub same_at_root : (top id other : ℕ) → top ≤ 2 → id < ids_below top → other < ids_below top → IsSamePrefix top id other
same_at_root zero id other le in_range other_in_range = omega (arith, in_range, other_in_range)
same_at_root (suc zero) id other le in_range other_in_range = omega (arith, in_range, other_in_range)
same_at_root (suc (suc zero)) id other le in_range other_in_range = omega (arith, in_range, other_in_range)
same_at_root (suc (suc (suc top))) id other le in_range other_in_range = absurd (omega arith)

-- ids that agree above the lowest index, and have the same there, are one
pub same_id : (id other : ℕ) → IsSamePrefix 0 id other → ddi 0 id ≡ ddi 0 other → id ≡ other
same_id id other same index = omega (arith, same, index)

-- indices fit in a page
pub index_fits : (level id : ℕ) → ddi level id < 512
index_fits zero id = omega arith
index_fits (suc zero) id = omega arith
index_fits (suc (suc level)) id = omega arith

pub context_index_fits : (id : ℕ) → ddi 0 id < 128
context_index_fits id = omega arith

-- there are ids
pub some_id : (top : ℕ) → 0 < ids_below top
some_id zero = omega arith
some_id (suc zero) = omega arith
some_id (suc (suc top)) = omega arith
