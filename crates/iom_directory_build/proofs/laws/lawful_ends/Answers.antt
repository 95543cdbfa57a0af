-- An id is located by its path.
use Rattle.std.proofs.Common.{◌≡◌, ℕ, List, sym, ap}
use Rattle.iom_registers.specs.declared.directory.DirectoryMode.{DirectoryMode}
use Rattle.iom_registers.specs.declared.directory.DirectoryMode.TheVariants.{Off, Bare, OneLevel, TwoLevels, ThreeLevels}
use Rattle.iom_device_dir.specs.Located.{located_from_level, located_by_mode}
use Rattle.iom_directory_build.specs.Laws.{IsModeOf}
use Rattle.iom_directory_build.proofs.laws.lawful_ends.Goals as goal

by_mode : (mode : DirectoryMode) (memory : List (List ℕ)) (root top id : ℕ) → IsModeOf mode top → located_by_mode mode memory root id ≡ located_from_level top memory root id
unfolding located_by_mode
by_mode Off memory root top id is = absurd is
by_mode Bare memory root top id is = absurd is
by_mode OneLevel memory root top id is = ap (λ level. located_from_level level memory root id) (sym is)
by_mode TwoLevels memory root top id is = ap (λ level. located_from_level level memory root id) (sym is)
by_mode ThreeLevels memory root top id is = ap (λ level. located_from_level level memory root id) (sym is)

pub returns : goal.returns
returns c = λ memory ddtp top id is. by_mode ddtp.mode memory ddtp.ppn top id is
