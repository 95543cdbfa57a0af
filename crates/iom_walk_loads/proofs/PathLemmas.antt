-- As many indices of an address as levels.
use Rattle.std.proofs.Common.{◌≡◌, ℕ, zero, suc, ◌/◌, List, [], ◌∷◌, length, refl, ap, ◌∙◌}
use Rattle.std.proofs.lemmas.List.{length-replicate}
use Rattle.iom_stage_walk.specs.Paths.{first_path, first_widths, path_of}
use Rattle.iom_stage_walk.specs.Second.{second_path, second_widths}

pub path_length : (widths : List ℕ) (page : ℕ) → length (path_of widths page) ≡ length widths
path_length [] page = refl
path_length (width ∷ widths) page = ap suc (path_length widths page)

pub first_length : (levels address : ℕ) → length (first_path levels address) ≡ levels
first_length levels address = path_length (first_widths levels) (address / 4096) ∙ length-replicate {A = ℕ} levels 512

pub second_length : (levels address : ℕ) → length (second_path levels address) ≡ levels
second_length levels address = path_length (second_widths levels) (address / 4096) ∙ widths levels
  where
    widths : (n : ℕ) → length (second_widths n) ≡ n
    widths zero = refl
    widths (suc n) = ap suc (length-replicate {A = ℕ} n 512)
