-- The accesses in flight, device by device: one more is accepted, or the oldest is made.
use Rattle.std.proofs.Common.{zero, suc, ◌≡◌, ◌⊎◌, ◌∙◌, inl, inr, ℕ, Bool, List, [], ◌∷◌, ◌++◌, map, slice_get, slice_set, Contains, Option, None, Some, IsSome, Result, Ok, refl, sym, ap, subst}
use Rattle.std.proofs.lemmas.Bool.Decides.{eqb_tells}
use Rattle.std.proofs.lemmas.List.Elements.{Contains-push_cases}
use Rattle.iom_base.specs.Accesses.{offset_of}
use Rattle.iom_base.specs.Bytes.{with_bytes}
use Rattle.iom_base.specs.declared.access.AcceptedAccess.{AcceptedAccess}
use Rattle.iom_base.specs.declared.access.AccessKind.{AccessKind}
use Rattle.iom_base.specs.declared.access.AccessKind.TheVariants.{Read, Write}
use Rattle.iom_base.specs.declared.refusal.Refusal.{Refusal}
use Rattle.iom_device_dir.specs.Cached.{cached_contexts}
use Rattle.iom_tlb.specs.Chosen.{ioatc}
use Rattle.iom_board.specs.Commits.{CommitsOldestAccess, MakesAccess}
use Rattle.iom_board.specs.BoardParts.{BoardParts}
use Rattle.iom_inflight.specs.Calls.{Performs, with_access}
use Rattle.iom_inflight.specs.Flights.{NumberedAccess, FlightRow, Flights, row_of, with_row}
use Rattle.iom_inflight.specs.declared.made.MadeAt.{MadeAt}
use Rattle.iom_inflight.proofs.Rows.{row_is_own, row_of_own, row_of_other}
use Rattle.iom_iommu.specs.Parts.{registers_of, contexts_of, translations_of, flights_of}
use Rattle.iom_reach.specs.Memory.{DiffersAt}
use Rattle.iom_reach.specs.Transitions.{AreSomeOf, AreAmongWithOf, IsMemoryAfter, IsHarmless, Make, ComesAbout}
use Rattle.iom_reach.specs.Scene.{PendingAccess}
use Rattle.iom_reach.proofs.TransitionLemmas.{contains_head, contains_tail}
use Rattle.iom_hardware_ways.specs.Scenes.{flight_of, flights_in, scene_of}
use Rattle.iom_hardware_ways.proofs.SceneParts.{scene_is}

-- the rows, where one is another: that device's is the one, and the others' are as they were
row_cases : (rows : List FlightRow) (id : ℕ) (row own : FlightRow) → row_of rows id ≡ Some row → own.device ≡ row.device → (d : ℕ)
    → ((d ≡ id) × (row_of (with_row rows own) d ≡ Some own)) ⊎ (row_of (with_row rows own) d ≡ row_of rows d)
row_cases rows id row own at same d =
    let own_id : own.device ≡ id = same ∙ row_is_own rows id row at in
    elim (eqb_tells d id) [
      | inl e ↦ inl (
        e.1,
        ap (λ k. row_of (with_row rows own) k) (e.1 ∙ sym own_id)
            ∙ row_of_own rows own (subst (λ k. IsSome (row_of rows k)) (sym own_id) (subst (λ o. IsSome o) (sym at) refl)),
      )
      | inr ne ↦ inr (row_of_other rows own d (λ e. ne.1 (e ∙ own_id)))
    ]

-- the oldest is made: each other was there
pub made_among : (rows : List FlightRow) (id : ℕ) (row : FlightRow) (oldest : NumberedAccess) (later : List NumberedAccess) → row_of rows id ≡ Some row → row.waiting ≡ oldest ∷ later
    → AreSomeOf (λ d. flights_in (row_of (with_row rows (record row { waiting = later })) d)) (λ d. flights_in (row_of rows d))
made_among rows id row oldest later at waiting d x there = elim (row_cases rows id row (record row { waiting = later }) at refl d) [
  | inl (own, is) ↦
      let mine : Contains (map flight_of later) x = subst (λ o. Contains (flights_in o) x) is there in
      let all : Contains (map flight_of row.waiting) x = subst (λ w. Contains (map flight_of w) x) (sym waiting) (contains_tail (flight_of oldest) (map flight_of later) x mine) in
      subst (λ k. Contains (flights_in (row_of rows k)) x) (sym own) (subst (λ o. Contains (flights_in o) x) (sym at) all)
  | inr is ↦ subst (λ o. Contains (flights_in o) x) is there
]

-- it was there itself
pub made_there : (rows : List FlightRow) (id : ℕ) (row : FlightRow) (oldest : NumberedAccess) (later : List NumberedAccess) → row_of rows id ≡ Some row → row.waiting ≡ oldest ∷ later
    → Contains (flights_in (row_of rows id)) (flight_of oldest)
made_there rows id row oldest later at waiting =
    subst (λ o. Contains (flights_in o) (flight_of oldest)) (sym at)
    (subst (λ w. Contains (map flight_of w) (flight_of oldest)) (sym waiting) (contains_head (flight_of oldest) (map flight_of later)))

map_push : {X Y : Type 0} (f : X → Y) (xs : List X) (x : X) → map f (xs ++ x ∷ []) ≡ map f xs ++ f x ∷ []
map_push f [] x = refl
map_push f (y ∷ xs) x = ap (λ ys. f y ∷ ys) (map_push f xs x)

-- one more is accepted: each other was there
pub accepted_among : (rows : List FlightRow) (id : ℕ) (row : FlightRow) (accepted : AcceptedAccess) (number : ℕ) → row_of rows id ≡ Some row
    → AreAmongWithOf (λ d. flights_in (row_of (with_row rows (with_access row accepted number)) d)) id (record { frame = accepted.frame; kind = accepted.access.kind }) (λ d. flights_in (row_of rows d))
accepted_among rows id row accepted number at d x there = elim (row_cases rows id row (with_access row accepted number) at refl d) [
  | inl (own, is) ↦
      let mine : Contains (map flight_of (row.waiting ++ record { accepted = accepted; number = number } ∷ [])) x = subst (λ o. Contains (flights_in o) x) is there in
      elim (Contains-push_cases (map flight_of row.waiting) last x (subst (λ l. Contains l x) (map_push flight_of row.waiting (record { accepted = accepted; number = number })) mine)) [
        | inl before ↦ inr (subst (λ k. Contains (flights_in (row_of rows k)) x) (sym own) (subst (λ o. Contains (flights_in o) x) (sym at) before))
        | inr same ↦ inl (own, sym same)
      ]
  | inr is ↦ inr (subst (λ o. Contains (flights_in o) x) is there)
]
  where
    last : PendingAccess
    last = flight_of (record { accepted = accepted; number = number })

-- a frame that is written: the others stay
pub set_differs : (memory : List (List ℕ)) (frame : ℕ) (bytes : List ℕ) → DiffersAt frame (slice_get memory) (slice_get (slice_set memory frame bytes))
set_differs [] frame bytes f apart = refl
set_differs (first ∷ others) zero bytes zero apart = absurd (apart refl)
set_differs (first ∷ others) zero bytes (suc f) apart = refl
set_differs (first ∷ others) (suc frame) bytes zero apart = refl
set_differs (first ∷ others) (suc frame) bytes (suc f) apart = set_differs others frame bytes f (λ same. apart (ap suc same))

performed : (kind : AccessKind) (memory : List (List ℕ)) (made : AcceptedAccess) (new : List (List ℕ)) → Performs kind memory made new
    → IsMemoryAfter kind made.frame (slice_get memory) (slice_get new)
performed Read memory made new same = ap slice_get same
performed Write memory made new (bytes, there, is) =
    subst (λ m. DiffersAt made.frame (slice_get memory) (slice_get m)) (sym is) (set_differs memory made.frame (with_bytes bytes (offset_of made.access) made.access.bytes))

-- the oldest access of the device is made
pub makes : (trusted : ℕ → Bool) (old : BoardParts) (id : ℕ) (made : MadeAt) (new : BoardParts) → MakesAccess id old (Some made) new
    → IsHarmless (scene_of trusted old) id (record { frame = made.frame; kind = made.kind })
    → ComesAbout (Make id (record { frame = made.frame; kind = made.kind })) (scene_of trusted old) (scene_of trusted new)
makes trusted old id made new effect harmless =
    let is = effect.call.makes in
    let rows = (flights_of old.iommu).rows in
    let own : record { frame = made.frame; kind = made.kind } ≡ flight_of is.oldest = ap (λ (m : MadeAt). as_flight m) is.reply in
    let left : ℕ → List PendingAccess = λ d. flights_in (row_of (with_row rows (record is.row { waiting = is.later })) d) in (
      left,
      slice_get new.memory,
      subst (Contains (flights_in (row_of rows id))) (sym own) (made_there rows id is.row is.oldest is.later is.stands is.waiting),
      made_among rows id is.row is.oldest is.later is.stands is.waiting,
      harmless,
      subst (λ (x : PendingAccess). IsMemoryAfter x.kind x.frame (slice_get old.memory) (slice_get new.memory)) (sym own)
          (performed is.oldest.accepted.access.kind old.memory is.oldest.accepted new.memory is.performed),
      scene_is trusted new new.memory (registers_of old.iommu) (contexts_of old.iommu) (translations_of old.iommu)
          (with_row rows (record is.row { waiting = is.later })) old.devices old.fabric
          refl (ap (λ parts. parts.registers) effect.call.rest) (ap cached_contexts (ap (λ parts. parts.contexts) effect.call.rest)) (ap ioatc.content (ap (λ parts. parts.translations) effect.call.rest)) (ap (λ (f : Flights). f.rows) is.after) effect.devices effect.fabric,
    )
  where
    as_flight : MadeAt → PendingAccess
    as_flight m = record { frame = m.frame; kind = m.kind }

-- a commit makes the oldest access of its device, or nothing changes
abbrev pub MakesOrNothing : (ℕ → Bool) → BoardParts → ℕ → Result (Option MadeAt) Refusal → BoardParts → Type 0
MakesOrNothing trusted old id answer new =
    (scene_of trusted new ≡ scene_of trusted old) ⊎ ((made : MadeAt) × (answer ≡ Ok (Some made)) × MakesAccess id old (Some made) new)

pub commits : (trusted : ℕ → Bool) (old : BoardParts) (id : ℕ) (answer : Result (Option MadeAt) Refusal) (new : BoardParts) → CommitsOldestAccess old id answer new
    → MakesOrNothing trusted old id answer new
commits trusted old id answer new (inl absent) = inl (ap (scene_of trusted) absent.same)
commits trusted old id answer new (inr (inl other)) = inl (ap (scene_of trusted) other.same)
commits trusted old id answer new (inr (inr so)) = by so.given so.answered so.call
  where
    by : (given : Option MadeAt) → answer ≡ Ok given → MakesAccess id old given new → MakesOrNothing trusted old id answer new
    by None reply effect = inl
        (scene_is trusted new old.memory (registers_of old.iommu) (contexts_of old.iommu) (translations_of old.iommu) (flights_of old.iommu).rows old.devices old.fabric
        effect.call.makes.1 (ap (λ parts. parts.registers) effect.call.rest) (ap cached_contexts (ap (λ parts. parts.contexts) effect.call.rest)) (ap ioatc.content (ap (λ parts. parts.translations) effect.call.rest)) (ap (λ (f : Flights). f.rows) effect.call.makes.2)
        effect.devices effect.fabric)
    by (Some made) reply effect = inr (made, reply, effect)
