-- Where two memories are the same in all frames that a walk reads, it is the same walk.
use Rattle.std.proofs.Common.{◌≡◌, inl, inr, ℕ, ◌+◌, List, [], ◌∷◌, refl, sym, subst}
use Rattle.iom_reach.specs.Memory.{Memory, Found, Nothing, Pointer, Leaf, Format, WalkStep, Goes, Ends, ReadsFrame, Passes}

goes : {X : Type 0} (found : Found X) (R : ℕ → ℕ → Type 0) (Same : ℕ → Type 0) (On Before : ℕ → Type 0) (Over : X → Type 0)
    → ((frame : ℕ) → Goes found (R frame) (λ said. ⊥) → Same frame)
    → ((next : ℕ) → ((frame : ℕ) → R frame next → Same frame) → On next → Before next)
    → Goes found On Over → Goes found Before Over
goes Nothing R Same On Before Over agree later e = e
goes (Pointer next) R Same On Before Over agree later e = later next agree e
goes (Leaf what) R Same On Before Over agree later e = e

pub alike_ends : {X : Type 0} (format : Format X) (old new : Memory) (table : ℕ) (steps : List WalkStep) (what : X)
    → ((frame : ℕ) → ReadsFrame format old table steps frame → new frame ≡ old frame)
    → Ends format new table steps what → Ends format old table steps what
alike_ends format old new table [] what same e = e
alike_ends {X} format old new table (step ∷ steps) what same e =
    goes (format (old (table + step.frame)) step.place steps) (λ frame next. ReadsFrame format old next steps frame) (λ frame. new frame ≡ old frame)
    (λ next. Ends format new next steps what) (λ next. Ends format old next steps what) (λ said. said ≡ what)
    (λ frame reads. same frame (inr reads))
    (λ next agree ends. alike_ends format old new next steps what agree ends)
    (subst (λ f. Goes (format f step.place steps) (λ next. Ends format new next steps what) (λ said. said ≡ what)) (same (table + step.frame) (inl refl)) e)

pub alike_reads : {X : Type 0} (format : Format X) (old new : Memory) (table : ℕ) (steps : List WalkStep) (frame : ℕ)
    → ((f : ℕ) → ReadsFrame format old table steps f → new f ≡ old f)
    → ReadsFrame format new table steps frame → ReadsFrame format old table steps frame
alike_reads format old new table [] frame same e = e
alike_reads format old new table (step ∷ steps) frame same (inl is) = inl is
alike_reads {X} format old new table (step ∷ steps) frame same (inr e) =
    inr (goes (format (old (table + step.frame)) step.place steps) (λ f next. ReadsFrame format old next steps f) (λ f. new f ≡ old f)
    (λ next. ReadsFrame format new next steps frame) (λ next. ReadsFrame format old next steps frame) (λ said. ⊥)
    (λ f reads. same f (inr reads))
    (λ next agree reads. alike_reads format old new next steps frame agree reads)
    (subst (λ f. Goes (format f step.place steps) (λ next. ReadsFrame format new next steps frame) (λ said. ⊥)) (same (table + step.frame) (inl refl)) e))

goes_on : {X : Type 0} (found : Found X) (On Before : ℕ → Type 0) (Over : X → Type 0) → ((next : ℕ) → On next → Before next)
    → Goes found On (λ said. ⊥) → Goes found Before Over
goes_on Nothing On Before Over later e = absurd e
goes_on (Pointer next) On Before Over later e = later next e
goes_on (Leaf what) On Before Over later e = absurd e

-- a walk is where it begins
pub passes_here : {X : Type 0} (format : Format X) (memory : Memory) (table : ℕ) (steps : List WalkStep) → Passes format memory table steps table steps
passes_here format memory table [] = (refl, refl)
passes_here format memory table (step ∷ steps) = inl (refl, refl)

-- what the rest of a walk ends at, the walk does
pub passes_ends : {X : Type 0} (format : Format X) (memory : Memory) (table : ℕ) (steps : List WalkStep) (next : ℕ) (rest : List WalkStep) (what : X)
    → Passes format memory table steps next rest → Ends format memory next rest what → Ends format memory table steps what
passes_ends format memory table [] next rest what (same, none) e =
    subst (λ r. Ends format memory table r what) (sym none) (subst (λ t. Ends format memory t rest what) (sym same) e)
passes_ends format memory table (step ∷ steps) next rest what (inl (same, all)) e =
    subst (λ r. Ends format memory table r what) (sym all) (subst (λ t. Ends format memory t rest what) (sym same) e)
passes_ends format memory table (step ∷ steps) next rest what (inr later) e =
    goes_on (format (memory (table + step.frame)) step.place steps) (λ t. Passes format memory t steps next rest) (λ t. Ends format memory t steps what)
    (λ said. said ≡ what) (λ t passes. passes_ends format memory t steps next rest what passes e) later

-- what the rest of a walk reads, the walk does
pub passes_reads : {X : Type 0} (format : Format X) (memory : Memory) (table : ℕ) (steps : List WalkStep) (next : ℕ) (rest : List WalkStep) (frame : ℕ)
    → Passes format memory table steps next rest → ReadsFrame format memory next rest frame → ReadsFrame format memory table steps frame
passes_reads format memory table [] next rest frame (same, none) e =
    subst (λ r. ReadsFrame format memory table r frame) (sym none) (subst (λ t. ReadsFrame format memory t rest frame) (sym same) e)
passes_reads format memory table (step ∷ steps) next rest frame (inl (same, all)) e =
    subst (λ r. ReadsFrame format memory table r frame) (sym all) (subst (λ t. ReadsFrame format memory t rest frame) (sym same) e)
passes_reads format memory table (step ∷ steps) next rest frame (inr later) e =
    inr (goes_on (format (memory (table + step.frame)) step.place steps) (λ t. Passes format memory t steps next rest) (λ t. ReadsFrame format memory t steps frame)
    (λ said. ⊥) (λ t passes. passes_reads format memory t steps next rest frame passes e) later)
