-- Lists that are the same place by place.
use Rattle.std.proofs.Common.{◌≡◌, ◌<◌, ◌==◌, ◌&&◌, ℕ, suc, zero, Bool, List, [], ◌∷◌, length, map, Option, None, Some, slice_get, nat_eq, refl, ap, arith}
use Rattle.std.specs.Bool.{Decides}
use Rattle.std.specs.Option.{option_eq}
use Rattle.std.proofs.lemmas.Bool.Decides.{Decides-like, Decides-and, Decides-eqb}
use Rattle.iom_ledger.specs.declared.page_row.PageRow.{PageRow}
use Rattle.iom_ledger.specs.declared.row.Row.{Row}

-- lists of one length that have the same at each place are equal
pub same_by_place : {X : Type 0} (xs ys : List X) → length xs ≡ length ys → ((j : ℕ) → j < length xs → slice_get xs j ≡ slice_get ys j) → xs ≡ ys
same_by_place [] [] long same = refl
same_by_place [] (y ∷ ys) long same = absurd (omega arith)
same_by_place (x ∷ xs) [] long same = absurd (omega arith)
same_by_place (x ∷ xs) (y ∷ ys) long same =
    let first : Some x ≡ Some y = same 0 (omega arith) in
    let rest : xs ≡ ys = same_by_place xs ys (omega arith) (λ j lt. same (suc j) (omega arith)) in
    cc

-- the same of what a function shows of them
pub shown_by_place : {X Y : Type 0} (f : X → Y) (xs ys : List X) → length xs ≡ length ys
    → ((j : ℕ) (x y : X) → j < length xs → slice_get xs j ≡ Some x → slice_get ys j ≡ Some y → f x ≡ f y) → map f xs ≡ map f ys
shown_by_place f [] [] long same = refl
shown_by_place f [] (y ∷ ys) long same = absurd (omega arith)
shown_by_place f (x ∷ xs) [] long same = absurd (omega arith)
shown_by_place f (x ∷ xs) (y ∷ ys) long same =
    let first : f x ≡ f y = same 0 x y (omega arith) refl refl in
    let rest : map f xs ≡ map f ys = shown_by_place f xs ys (omega arith) (λ j v w lt. same (suc j) v w (omega arith)) in
    cc

-- where lists show the same, they do at each place
pub same_at_place : {X Y : Type 0} (f : X → Y) (xs ys : List X) (k : ℕ) (x y : X) → map f xs ≡ map f ys → slice_get xs k ≡ Some x → slice_get ys k ≡ Some y → f x ≡ f y
same_at_place f [] ys k x y same at at_other = absurd (cc at)
same_at_place f (v ∷ xs) [] k x y same at at_other = absurd (cc at_other)
same_at_place f (v ∷ xs) (w ∷ ys) zero x y same at at_other = let first : f v ≡ f w = cc same in cc
same_at_place f (v ∷ xs) (w ∷ ys) (suc k) x y same at at_other = same_at_place f xs ys k x y (cc same) at at_other

-- what `==` says of two optional values
pub option_decides : {X : Type 0} {E : X → X → Bool} → ((a b : X) → Decides (E a b) (a ≡ b)) → (a b : Option X) → Decides (option_eq E a b) (a ≡ b)
option_decides decides None None = (λ yes. refl, λ same. refl)
option_decides decides None (Some b) = (λ yes. absurd (cc yes), λ same. absurd (cc same))
option_decides decides (Some a) None = (λ yes. absurd (cc yes), λ same. absurd (cc same))
option_decides decides (Some a) (Some b) = (λ yes. ap Some ((decides a b).0 yes), λ same. (decides a b).1 (cc same))

-- two pairs with the same parts are equal
pub pair_is : {X Y : Type 0} (x v : X) (y w : Y) → x ≡ v → y ≡ w → ◌≡◌ {A = X × Y} (x, y) (v, w)
pair_is x v y w first second = cc

-- two rows with the same counts are equal
row_is : (grants other pending other_pending : ℕ) → grants ≡ other → pending ≡ other_pending
    → ◌≡◌ {A = Row} (record { grants = grants; pending = pending }) (record { grants = other; pending = other_pending })
row_is grants other pending other_pending same same_pending = cc

-- what it says of two rows of frames
pub row_decides : (a b : Row) → Decides ((a.grants == b.grants) && (a.pending == b.pending)) (a ≡ b)
row_decides a b =
    Decides-like _ (λ parts. row_is a.grants b.grants a.pending b.pending parts.0 parts.1) (λ same. (ap (λ (r : Row). r.grants) same, ap (λ (r : Row). r.pending) same))
    (Decides-and _ _ (Decides-eqb a.grants b.grants) (Decides-eqb a.pending b.pending))

-- two rows of pages with the same parts are equal
page_row_is : (frame other rights other_rights : ℕ) (ticket other_ticket : Option ℕ) → frame ≡ other → rights ≡ other_rights → ticket ≡ other_ticket
    → ◌≡◌ {A = PageRow} (record { frame = frame; rights = record { 0 = rights }; ticket = ticket }) (record { frame = other; rights = record { 0 = other_rights }; ticket = other_ticket })
page_row_is frame other rights other_rights ticket other_ticket same same_rights same_ticket = cc

-- what it says of two rows of pages
page_row_decides : (a b : PageRow)
    → Decides ((a.frame == b.frame) && ((a.rights.0 == b.rights.0) && option_eq nat_eq a.ticket b.ticket)) (a ≡ b)
page_row_decides a b =
    Decides-like _ (λ parts. page_row_is a.frame b.frame a.rights.0 b.rights.0 a.ticket b.ticket parts.0 parts.1.0 parts.1.1)
    (λ same. (ap (λ (r : PageRow). r.frame) same, (ap (λ (r : PageRow). r.rights.0) same, ap (λ (r : PageRow). r.ticket) same)))
    (Decides-and _ _ (Decides-eqb a.frame b.frame) (Decides-and _ _ (Decides-eqb a.rights.0 b.rights.0) (option_decides Decides-eqb a.ticket b.ticket)))

-- what it says of two pages, each with its row
pub entry_decides : (a b : ℕ × PageRow)
    → Decides ((a.0 == b.0) && ((a.1.frame == b.1.frame) && ((a.1.rights.0 == b.1.rights.0) && option_eq nat_eq a.1.ticket b.1.ticket))) (a ≡ b)
entry_decides a b =
    Decides-like _ (λ parts. pair_is a.0 b.0 a.1 b.1 parts.0 parts.1) (λ same. (ap (λ (e : ℕ × PageRow). e.0) same, ap (λ (e : ℕ × PageRow). e.1) same))
    (Decides-and _ _ (Decides-eqb a.0 b.0) (page_row_decides a.1 b.1))
