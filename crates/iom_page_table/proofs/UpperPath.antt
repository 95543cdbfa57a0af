-- The indices above the last level, in tables of a size.
use Rattle.std.proofs.Common.{◌≡◌, ◌/◌, ◌%◌, ℕ, List, [], ◌∷◌, ◌++◌, refl, subst, sym, arith}
use Rattle.iom_base.specs.declared.size.Size.{Size}
use Rattle.iom_base.specs.declared.size.Size.TheVariants.{Sv39, Sv48}
use Rattle.iom_stage_walk.specs.Paths.{path_of, first_widths}
use Rattle.iom_page_table.specs.Building.{upper_in}
use Rattle.iom_page_table.specs.Trees.{shape_of}

one : (page : ℕ) → page / 1 ≡ page
one page = omega arith

upper_of_page : (size : Size) (page : ℕ) → upper_in size (path_of (first_widths 4) page) ++ page % 512 ∷ [] ≡ path_of (shape_of size) page
upper_of_page Sv39 page = subst (λ n. upper_in Sv39 (path_of (first_widths 4) page) ++ n % 512 ∷ [] ≡ path_of (shape_of Sv39) page) (one page) refl
upper_of_page Sv48 page = subst (λ n. upper_in Sv48 (path_of (first_widths 4) page) ++ n % 512 ∷ [] ≡ path_of (shape_of Sv48) page) (one page) refl

-- with the last they are the page's
pub upper_path : (size : Size) (page : ℕ) (all : List ℕ) → all ≡ path_of (first_widths 4) page → upper_in size all ++ page % 512 ∷ [] ≡ path_of (shape_of size) page
upper_path size page all is = subst (λ l. upper_in size l ++ page % 512 ∷ [] ≡ path_of (shape_of size) page) (sym is) (upper_of_page size page)
