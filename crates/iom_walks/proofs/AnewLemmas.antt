-- The rows begin anew one after another.
use Rattle.std.proofs.Common.{◌≡◌, ◌∙◌, ◌++◌, ℕ, zero, suc, ◌<◌, ◌≤◌, List, [], ◌∷◌, length, take, drop, get_or, set, refl, arith, subst, sym, inl, inr}
use Rattle.std.proofs.lemmas.Bool.Decides.{eqb_tells}
use Rattle.std.proofs.lemmas.Bool.{eq-eqb}
use Rattle.std.proofs.lemmas.List.{take-append-le, take_all}
use Rattle.iom_registers.specs.declared.directory.DirectoryPointer.{DirectoryPointer}
use Rattle.iom_walks.proofs.Rows.{differs}
use Rattle.iom_walks.specs.Calls.{AllBeginAnew, RowBeginsAnew, WhatBeginsAnew}
use Rattle.iom_walks.specs.Walks.{WalkRow, under_way_of}

-- so many of the rows begin anew, and the others are as they were
abbrev pub BegunTo : DirectoryPointer → ℕ → List WalkRow → List WalkRow → Type 0
BegunTo ddtp place [] [] = Unit {0}
BegunTo ddtp place [] (new ∷ news) = ⊥
BegunTo ddtp place (old ∷ olds) [] = ⊥
BegunTo ddtp zero (old ∷ olds) (new ∷ news) = (new ≡ old) × BegunTo ddtp zero olds news
BegunTo ddtp (suc place) (old ∷ olds) (new ∷ news) = RowBeginsAnew ddtp old new × BegunTo ddtp place olds news

-- at first none
pub none_yet : (ddtp : DirectoryPointer) (rows : List WalkRow) → BegunTo ddtp 0 rows rows
none_yet ddtp [] = tt
none_yet ddtp (row ∷ rows) = (refl, none_yet ddtp rows)

-- one more
pub one_more : (ddtp : DirectoryPointer) (place : ℕ) (old now : List WalkRow) (row new : WalkRow) → place < length now → RowBeginsAnew ddtp (get_or now place row) new
    → BegunTo ddtp place old now → BegunTo ddtp (suc place) old (set now place new)
one_more ddtp place old [] row new lt anew begun = absurd (omega (arith, lt))
one_more ddtp place [] (first ∷ others) row new lt anew begun = absurd begun
one_more ddtp zero (was ∷ olds) (first ∷ others) row new lt anew begun =
    (subst (λ (r : WalkRow). RowBeginsAnew ddtp r new) begun.0 anew, begun.1)
one_more ddtp (suc place) (was ∷ olds) (first ∷ others) row new lt anew begun =
    (begun.0, one_more ddtp place olds others row new (omega (arith, lt)) anew begun.1)

-- at the end all
pub all_begun : (ddtp : DirectoryPointer) (place : ℕ) (old now : List WalkRow) → length now ≤ place → BegunTo ddtp place old now → AllBeginAnew ddtp old now
all_begun ddtp place [] [] le begun = tt
all_begun ddtp place [] (new ∷ news) le begun = absurd begun
all_begun ddtp place (old ∷ olds) [] le begun = absurd begun
all_begun ddtp zero (old ∷ olds) (new ∷ news) le begun = absurd (omega (arith, le))
all_begun ddtp (suc place) (old ∷ olds) (new ∷ news) le begun = (begun.0, all_begun ddtp place olds news (omega (arith, le)) begun.1)

-- what is written back over as many rows
pub written_back : (new items : List WalkRow) (len : ℕ) → length new ≡ len → take len (new ++ drop (length new) items) ≡ new
written_back new items len long =
    let le : len ≤ length new = omega (arith, long) in
    let ge : length new ≤ len = omega (arith, long) in
    take-append-le len new (drop (length new) items) le ∙ take_all len new ge

-- WHAT IS UNDER WAY of each device has begun anew
pub each_begins_anew : (ddtp : DirectoryPointer) (old new : List WalkRow) (device : ℕ) → AllBeginAnew ddtp old new
    → WhatBeginsAnew ddtp (under_way_of old device) (under_way_of new device)
each_begins_anew ddtp [] [] device anew = tt
each_begins_anew ddtp [] (new ∷ news) device anew = absurd anew
each_begins_anew ddtp (old ∷ olds) [] device anew = absurd anew
each_begins_anew ddtp (old ∷ olds) (new ∷ news) device anew = elim (eqb_tells old.device device) [
  | inl e ↦ rw (e.0, eq-eqb new.device device (anew.0.device ∙ e.1)) anew.0.under_way
  | inr ne ↦ rw (ne.0, differs new.device device (λ same. ne.1 (sym anew.0.device ∙ same))) (each_begins_anew ddtp olds news device anew.1)
]
