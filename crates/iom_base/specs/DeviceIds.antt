-- The ids of devices, as far as a device directory can name them (IOMMU specification, section 2.1).
use Rattle.std.specs.Prelude.{ℕ, ◌^◌, ◌==◌, if◌then◌else◌}

-- the ids that a directory of so many levels can name are below this: 7, 16 or 24 bits
abbrev pub id_limit : ℕ → ℕ
id_limit levels = if levels == 1 then 2 ^ 7 else if levels == 2 then 2 ^ 16 else 2 ^ 24
