-- What is followed from a table at which a walk may begin is passed by such a walk.
use Rattle.std.proofs.Common.{◌≡◌, ◌⊎◌, ◌∙◌, inl, inr, ℕ, zero, suc, ◌+◌, ◌*◌, ◌/◌, ◌%◌, ◌^◌, ◌<◌, ◌==◌, Bool, true, false, not, List, [], ◌∷◌, length, map, replicate, Contains, slice_get, if◌then◌else◌, refl, sym, ap, subst, arith}
use Rattle.std.proofs.lemmas.List.{length-replicate}
use Rattle.std.proofs.lemmas.List.Elements.{Contains-push_cases}
use Rattle.std.proofs.lemmas.Option.{none-some}
use Rattle.iom_base.specs.Tables.{table_entries}
use Rattle.iom_board.specs.BoardParts.{BoardParts}
use Rattle.iom_pointers.specs.Pointers.{FollowsEntry, FollowsFrom, IsPointerTo, has_key_of, others_of, pointer_limit, with_pointer, with_room}
use Rattle.iom_pointers.specs.declared.pointer.Pointer.{Pointer as Kept}
use Rattle.iom_reach.proofs.WalkLemmas.{passes_here}
use Rattle.iom_reach.proofs.WiderLemmas.{passes_wider}
use Rattle.iom_reach.specs.Memory.{Found, Nothing, Pointer, Leaf, Format, Goes, Memory, Passes, WalkStep}
use Rattle.iom_reach.specs.Transitions.{IsContinued}
use Rattle.iom_reach.specs.Ways.{WalkBegins}
use Rattle.iom_hardware_ways.proofs.FormatLemmas.{entry_there}
use Rattle.iom_hardware_ways.proofs.ListLemmas.{filter_among, in_none}
use Rattle.iom_hardware_ways.proofs.NapotLemmas.{reads_more}
use Rattle.iom_hardware_ways.proofs.PageIndices.{three}
use Rattle.iom_hardware_ways.specs.Formats.{entry_format, format_of, found_entry, step_at, steps_along}
use Rattle.iom_stage_walk.specs.Entries.{entries, slot}
use Rattle.iom_stage_walk.specs.Paths.{path_of}
use Rattle.iom_stage_walk.specs.declared.entry.Entry.{Entry}
use Rattle.iom_stage_walk.specs.declared.entry.Entry.TheVariants as entry
use Rattle.iom_stepped_walk.specs.Indices.{index_at, width_of}
use Rattle.iom_stepped_ways.specs.Scenes.{address_space}
use Rattle.iom_tlb.specs.declared.space.Space.{Space}
use Rattle.iom_pointer_ways.specs.Calls.{ArePassed}
use Rattle.iom_pointer_ways.specs.Laws.{FollowedArePassed}
use Rattle.iom_pointer_ways.specs.Scenes.{pointed_scene, walk_from, widths_below}

-- A WALK GOES ONE STEP FURTHER than where it passes, if a pointer stands there

goes_on : {X : Type 0} (found : Found X) (On Next : ℕ → Type 0) → ((table : ℕ) → On table → Next table) → Goes found On (λ said. ⊥) → Goes found Next (λ said. ⊥)
goes_on Nothing On Next later goes = goes
goes_on (Pointer table) On Next later goes = later table goes
goes_on (Leaf what) On Next later goes = goes

steps_end : (step : WalkStep) (rest : List WalkStep) → [] ≡ step ∷ rest → ⊥
steps_end step rest is = cc

passes_further : {X : Type 0} (format : Format X) (memory : Memory) (table : ℕ) (steps : List WalkStep) (there : ℕ) (step : WalkStep) (rest : List WalkStep) (next : ℕ)
    → format (memory (there + step.frame)) step.place rest ≡ Pointer next → Passes format memory table steps there (step ∷ rest)
    → Passes format memory table steps next rest
passes_further format memory table [] there step rest next stands (same, none) = absurd (steps_end step rest none)
passes_further format memory table (first ∷ others) there step rest next stands (inl (same, all)) =
    subst (λ t. Passes format memory t (first ∷ others) next rest) (sym same) (subst (λ steps. Passes format memory there steps next rest) (sym all)
    (inr (subst (λ found. Goes found (λ t. Passes format memory t rest next rest) (λ said. ⊥)) (sym stands) (passes_here format memory next rest))))
passes_further format memory table (first ∷ others) there step rest next stands (inr later) =
    inr (goes_on (format (memory (table + first.frame)) first.place others) (λ t. Passes format memory t others there (step ∷ rest)) (λ t. Passes format memory t others next rest)
    (λ t passes. passes_further format memory t others there step rest next stands passes) later)

-- THE PAGE THAT HAS the index of one page at a level, and those of another below it

abbrev joined : (below page other : ℕ) → ℕ
joined below page other = page / table_entries ^ suc below * table_entries ^ suc below + other % table_entries ^ suc below

-- the widths of a table of this level and of those below it
abbrev widths_from : Bool → ℕ → List ℕ
widths_from is_wide level = width_of is_wide ∷ replicate level table_entries

two : (a b c d : ℕ) → a ≡ c → b ≡ d → a ∷ b ∷ [] ≡ c ∷ d ∷ []
two a b c d i j = rw (i, j) refl

upper_part : (below page other : ℕ) → below < 3 → joined below page other / table_entries ^ suc below ≡ page / table_entries ^ suc below
upper_part zero page other small = omega arith
upper_part (suc zero) page other small = omega arith
upper_part (suc (suc zero)) page other small = omega arith
upper_part (suc (suc (suc below))) page other small = absurd (omega (arith, small))

lower_indices : (below page other : ℕ) → below < 3 → path_of (widths_below below) (joined below page other) ≡ path_of (widths_below below) other
lower_indices zero page other small = ap (λ i. i ∷ []) (let e : (page / 512 * 512 + other % 512) / 1 % 512 ≡ other / 1 % 512 = omega arith in e)
lower_indices (suc zero) page other small =
    let q = page / 262144 * 262144 + other % 262144 in
    two (q / 512 % 512) (q / 1 % 512) (other / 512 % 512) (other / 1 % 512) (omega arith) (omega arith)
lower_indices (suc (suc zero)) page other small =
    let q = page / 134217728 * 134217728 + other % 134217728 in
    three (q / 262144 % 512) (q / 512 % 512) (q / 1 % 512) (other / 262144 % 512) (other / 512 % 512) (other / 1 % 512)
    (omega arith) (omega arith) (omega arith)
lower_indices (suc (suc (suc below))) page other small = absurd (omega (arith, small))

joined_path : (is_wide : Bool) (below page other : ℕ) → below < 3
    → path_of (widths_from is_wide (suc below)) (joined below page other) ≡ index_at is_wide (suc below) page ∷ path_of (widths_below below) other
joined_path is_wide below page other small =
    let q = joined below page other in
    ap (λ n. q / table_entries ^ n % width_of is_wide ∷ path_of (widths_below below) q) (length-replicate {A = ℕ} (suc below) table_entries)
    ∙ ap (λ n. n % width_of is_wide ∷ path_of (widths_below below) q) (upper_part below page other small)
    ∙ ap (λ is. index_at is_wide (suc below) page ∷ is) (lower_indices below page other small)

-- WHAT IS KEPT: some of what was, and one more

in_room : (b : Bool) (kept : List Kept) (other : Kept) → Contains (if b then [] else kept) other → Contains kept other
in_room true kept other there = absurd (in_none other there)
in_room false kept other there = there

kept_cases : (pointer : Kept) (kept : List Kept) (other : Kept) → Contains (with_pointer pointer kept) other → Contains kept other ⊎ (pointer ≡ other)
kept_cases pointer kept other there = elim (Contains-push_cases (with_room (others_of pointer kept)) pointer other there) [
  | inl room ↦ inl (filter_among (λ o. not (has_key_of pointer o)) kept other
      (in_room (length (others_of pointer kept) == pointer_limit) (others_of pointer kept) other room))
  | inr same ↦ inr same
]

-- an entry names a table, or is followed nowhere
entry_cases : (found : Entry) (On : ℕ → Type 0) (old new : List Kept) → FollowsEntry found On old new
    → (new ≡ old) ⊎ ((next : ℕ) × (found ≡ entry.Pointer next) × On next)
entry_cases entry.Outside On old new same = inl same
entry_cases entry.Invalid On old new same = inl same
entry_cases (entry.Pointer next) On old new on = inr (next, refl, on)
entry_cases (entry.Leaf base rights) On old new same = inl same

module _ (napot : Bool) (trusted : ℕ → Bool) (parts : BoardParts) (pointers : List Kept) (space : Space) (start : ℕ) (steps_to : ℕ → List WalkStep)
    (begins : WalkBegins (pointed_scene napot trusted parts pointers) (address_space space) start steps_to) where
  -- a walk passes the table with these steps left
  abbrev PassesBy : ℕ → List WalkStep → Type 0
  PassesBy table rest = (to : ℕ) × Passes entry_format (slice_get parts.memory) start (steps_to to) table rest

  -- so does one that knows leaves of 64 KiB, or doesn't
  known : (table : ℕ) (rest : List WalkStep) → PassesBy table rest → (to : ℕ) × Passes (format_of napot) (slice_get parts.memory) start (steps_to to) table rest
  known table rest (to, passes) =
      (to, passes_wider entry_format (format_of napot) (reads_more napot) (slice_get parts.memory) start (steps_to to) table rest passes)

  -- for each page some walk passes the table, with the steps left that the page has there
  abbrev LeadsBy : Bool → ℕ → ℕ → Type 0
  LeadsBy is_wide level table = (page : ℕ) → PassesBy table (steps_along (widths_from is_wide level) page)

  one_lower : (is_wide : Bool) (below table page next : ℕ) → below < 3 → entries parts.memory (slot table (index_at is_wide (suc below) page)) ≡ entry.Pointer next
      → LeadsBy is_wide (suc below) table → LeadsBy false below next
  one_lower is_wide below table page next small stands leads other =
      let index = index_at is_wide (suc below) page in
      let rest = steps_along (widths_below below) other in
      let (to, passes) = leads (joined below page other) in (
        to,
        passes_further entry_format (slice_get parts.memory) start (steps_to to) table (step_at index) rest next
            (ap (λ e. found_entry e rest) (sym (entry_there parts.memory table index) ∙ stands))
            (subst (Passes entry_format (slice_get parts.memory) start (steps_to to) table) (ap (map step_at) (joined_path is_wide below page other small)) passes),
      )

  -- so a walk passes by a pointer to such a table
  passed_by : (page level table : ℕ) (pointer : Kept) → IsPointerTo space page level table pointer → LeadsBy false level table
      → IsContinued (pointed_scene napot trusted parts pointers) (walk_from pointer)
  passed_by page level table pointer is leads = (
    start,
    steps_to,
    subst (λ s. WalkBegins (pointed_scene napot trusted parts pointers) (address_space s) start steps_to) (sym is.space_is) begins,
    (λ device own. absurd (none-some device own)),
    (λ other. known pointer.table.number (steps_along (widths_below pointer.level) other)
        (subst (λ t. PassesBy t (steps_along (widths_below pointer.level) other)) (sym is.table_is)
        (subst (λ l. PassesBy table (steps_along (widths_below l) other)) (sym is.level_is) (leads other)))),
  )

  followed : (level page : ℕ) (is_wide : Bool) (table : ℕ) (kept new : List Kept) → level < 4 → LeadsBy is_wide level table → ArePassed napot trusted parts pointers kept
      → FollowsFrom parts.memory space page level is_wide table kept new → ArePassed napot trusted parts pointers new
  followed zero page is_wide table kept new small leads are same = subst (ArePassed napot trusted parts pointers) (sym same) are
  followed (suc below) page is_wide table kept new small leads are follows =
      elim (entry_cases (entries parts.memory (slot table (index_at is_wide (suc below) page)))
      (λ next. (pointer : Kept) × IsPointerTo space page below next pointer × FollowsFrom parts.memory space page below false next (with_pointer pointer kept) new)
      kept new follows) [
        | inl same ↦ subst (ArePassed napot trusted parts pointers) (sym same) are
        | inr (next, stands, (pointer, is, later)) ↦
            let lower = one_lower is_wide below table page next (omega (arith, small)) stands leads in
            followed below page false next (with_pointer pointer kept) new (omega (arith, small)) lower
            (λ other there. elim (kept_cases pointer kept other there) [
              | inl old ↦ are other old
              | inr same ↦ inr (subst (λ p. IsContinued (pointed_scene napot trusted parts pointers) (walk_from p)) same (passed_by page below next pointer is lower))
            ]) later
      ]

pub followed_are_passed : FollowedArePassed
followed_are_passed napot trusted parts pointers new_pointers space hand small begins follows =
    let steps_to = steps_along (widths_from hand.is_wide hand.level) in
    followed napot trusted parts pointers space hand.table.number steps_to begins hand.level hand.page hand.is_wide hand.table.number pointers new_pointers small
    (λ page. (page, passes_here entry_format (slice_get parts.memory) hand.table.number (steps_to page))) (λ pointer there. inl there) follows
