-- What a fault of both stages tells.
use Rattle.std.proofs.Common.{◌≡◌, ◌⊎◌, ◌%◌, ◌*◌, ◌+◌, ◌/◌, ◌^◌, ◌<◌, ◌∙◌, inl, inr, ℕ, Bool, true, false, List, [], ◌∷◌, sym, refl, ap, subst, arith}
use Rattle.iom_base.specs.Causes.{page_fault_of, guest_page_fault_of}
use Rattle.iom_base.specs.Tables.{access_fault_of}
use Rattle.iom_base.specs.declared.access.AccessKind.{AccessKind}
use Rattle.iom_base.specs.declared.access.AccessKind.TheVariants.{Read, Write}
use Rattle.iom_base.specs.declared.cause.Cause.{Cause}
use Rattle.iom_stage_walk.specs.Entries.{Entries, entries, slot}
use Rattle.iom_stage_walk.specs.Paths.{StopsAs, StopsIn, path_of, first_widths}
use Rattle.iom_stage_walk.specs.Second.{second_widths, reported, LeadsToFault}
use Rattle.iom_stage_walk.specs.Both.{StopsGuest, StopsBoth, plain}
use Rattle.iom_stage_walk.specs.Laws.{IsReported}
use Rattle.iom_stage_walk.specs.declared.walked.WalkFault.{WalkFault}

-- a path stops with one of the two causes
of_two : (e : Entries) (kind : AccessKind) (page access : Cause) (table : ℕ) (is : List ℕ) (c : Cause) → StopsAs e kind page access table is c → (c ≡ page) ⊎ (c ≡ access)
of_two e kind page access table [] c h = inl h
of_two e kind page access table (i ∷ is) c (inl x) = of_two e kind page access x.0 is c x.2
of_two e kind page access table (i ∷ is) c (inr (inl x)) = inr x.1
of_two e kind page access table (i ∷ is) c (inr (inr (inl x))) = inl x.1
of_two e kind page access table (i ∷ is) c (inr (inr (inr x))) = inl x.3

two_in : (IsLawful : Type 0) (frames : List (List ℕ)) (kind : AccessKind) (page access : Cause) (root : ℕ) (is : List ℕ) (c : Cause) → StopsIn IsLawful frames kind page access root is c → (c ≡ page) ⊎ (c ≡ access)
two_in IsLawful frames kind page access root is c (inl x) = inl x.1
two_in IsLawful frames kind page access root is c (inr (inl x)) = of_two (entries frames) kind page access root is c x.1
two_in IsLawful frames kind page access root is c (inr (inr x)) = inr x.1.4

guest_told : (kind : AccessKind) (address : ℕ) (implicit : Bool) → (implicit ≡ true → address % 8 ≡ 0) → IsReported kind (reported (guest_page_fault_of kind) address implicit)
guest_told Read address implicit whole = inl (refl, whole)
guest_told Write address implicit whole = inl (refl, whole)

access_told : (kind : AccessKind) (address : ℕ) (implicit : Bool) → IsReported kind (reported (access_fault_of kind) address implicit)
access_told Read address implicit = inr (inr refl, refl, refl)
access_told Write address implicit = inr (inr refl, refl, refl)

leading_told : (levels : ℕ) (frames : List (List ℕ)) (root address : ℕ) (kind original : AccessKind) (implicit : Bool) (fault : WalkFault) → (implicit ≡ true → address % 8 ≡ 0)
    → LeadsToFault levels frames root address kind original implicit fault → IsReported original fault
leading_told levels frames root address kind original implicit fault whole h =
    let causes = two_in (address < 2 ^ (9 * levels + 14)) frames kind (guest_page_fault_of original) (access_fault_of original) root (path_of (second_widths levels) (address / 4096)) h.0 h.1 in
    elim causes [
      | inl x ↦ subst (IsReported original) (sym (h.2 ∙ ap (λ c. reported c address implicit) x)) (guest_told original address implicit whole)
      | inr x ↦ subst (IsReported original) (sym (h.2 ∙ ap (λ c. reported c address implicit) x)) (access_told original address implicit)
    ]

plain_told : (kind : AccessKind) (fault : WalkFault) → fault ≡ plain (page_fault_of kind) → IsReported kind fault
plain_told kind fault is = subst (IsReported kind) (sym is) (inr (inl refl, refl, refl))

guest_stop_told : (levels : ℕ) (frames : List (List ℕ)) (second : ℕ) (kind : AccessKind) (table : ℕ) (is : List ℕ) (fault : WalkFault) → StopsGuest levels frames second kind table is fault → IsReported kind fault
guest_stop_told levels frames second kind table [] fault h = plain_told kind fault h
guest_stop_told levels frames second kind table (i ∷ is) fault (inl h) =
    leading_told levels frames second (8 * slot table i) Read kind true fault (λ _. omega arith) h
guest_stop_told levels frames second kind table (i ∷ is) fault (inr h) =
    elim (h.3) [ inl x ↦ guest_stop_told levels frames second kind x.0 is fault x.2 | inr x ↦ plain_told kind fault x.1 ]

pub both_told : (levels levels' : ℕ) (frames : List (List ℕ)) (first second address : ℕ) (kind : AccessKind) (fault : WalkFault) → StopsBoth levels levels' frames first second address kind fault → IsReported kind fault
both_told levels levels' frames first second address kind fault (inl h) = plain_told kind fault h.1
both_told levels levels' frames first second address kind fault (inr (inl h)) =
    guest_stop_told levels' frames second kind first (path_of (first_widths levels) (address / 4096)) fault h.1
both_told levels levels' frames first second address kind fault (inr (inr h)) =
    leading_told levels' frames second (4096 * h.1.0 + address % 4096) kind kind false fault (λ e. let no : ⊥ = cc in absurd no) h.1.4
