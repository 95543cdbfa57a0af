-- What a mode says of how a device's addresses are translated.
use Rattle.std.specs.Prelude.{Bool, true, false}
use Rattle.iom_base.specs.declared.mode.Mode.{Mode}
use Rattle.iom_base.specs.declared.mode.Mode.TheVariants.{First, Second, Both}
use Rattle.iom_base.specs.declared.size.Size.{Size}

-- the size of the tables
abbrev pub size_in : Mode → Size
size_in (First size) = size
size_in (Second size) = size
size_in (Both size) = size

-- whether the guest's own tables stand in front of those of the grants
abbrev pub is_both : Mode → Bool
is_both (First size) = false
is_both (Second size) = false
is_both (Both size) = true
