-- ALL STAYS TRUE of a world in which requests are under way, at each event.
use Rattle.std.proofs.Common.{◌+◌, ◌≡◌, ◌≢◌, ℕ, ◌∙◌, inl, inr, List, [], ◌∷◌, length, Contains, Some, None, sym, ap, subst}
use Rattle.std.proofs.lemmas.Bool.Decides.{eqb_tells}
use Rattle.iom_coherence.proofs.ListLemmas.{cons_cases, in_none}
use Rattle.iom_machine.specs.declared.event.Event.{Event}
use Rattle.iom_machine.specs.declared.event.Event.TheVariants as happens
use Rattle.iom_machine.specs.declared.outcome.Outcome.{Outcome}
use Rattle.iom_stepped_machine.specs.Machine.{Load, SteppedEvent, SteppedOutcome, Whole}
use Rattle.iom_stepped_machine.specs.Walks.{Asking, access_of}
use Rattle.iom_stepped_refinement.specs.Effect.{AllStays, BeginsSo, HappensSo, LoadsSo, OthersStay, SteppedEffect, WholeEffect}
use Rattle.iom_stepped_refinement.specs.Laws.{LeavesRows}
use Rattle.iom_stepped_refinement.specs.Runs.{EventNamesFit, EventsKeepFacts, IsSound, Moment, IsOfCode}
use Rattle.iom_walks.specs.Invariant.{AreDistinct, AreWalks}
use Rattle.iom_walks.specs.Walks.{UnderWay, WalkRow, row_of, under_way_in, under_way_of}
use Rattle.iom_world_effects.specs.Parts.{Parts}
use Rattle.iom_world_refinement.proofs.EventLemmas.{below_counted, epochs_counted, serials_counted, sound_counted}
use Rattle.iom_world_walks.specs.Events.{GivesUp, IsCounted, LeavesRequests, NamesFit}
use Rattle.iom_world_walks.specs.Invariant.{SteppedInvariant}
use Rattle.iom_world_walks.specs.Laws.{BeginsKeepInvariant, EventsKeepInvariant, FetchesKeepInvariant, IsOfRequest, LoadsKeepInvariant}
use Rattle.iom_world_walks.proofs.LawLemmas.{row_is_own}
use Rattle.iom_world_walks.proofs.RowLoads.{row_there}

-- one more event is counted: fewer accesses were accepted, serials given and epochs begun than that
pub now_counted : (parts : Parts) (rows : List WalkRow) (events : ℕ) → SteppedInvariant parts rows events → SteppedInvariant parts rows (events + 1) × IsCounted parts (events + 1)
now_counted parts rows events (walks, invariants, stand) = (
  (walks, sound_counted parts events invariants, stand),
  record { accepted = below_counted parts events invariants; serials = serials_counted parts events invariants; epochs = epochs_counted parts events invariants },
)

-- the laws of each
pub record KeepLaws : Type 0 where
  pub begins : BeginsKeepInvariant
  pub loads : LoadsKeepInvariant
  pub fetches : FetchesKeepInvariant
  pub others : EventsKeepInvariant

pub keep_laws : BeginsKeepInvariant → LoadsKeepInvariant → FetchesKeepInvariant → EventsKeepInvariant → KeepLaws
keep_laws begins loads fetches others = record { begins = begins; loads = loads; fetches = fetches; others = others }

-- where no device has two rows, each row is the first of its device
first_of : (rows : List WalkRow) (row : WalkRow) → AreDistinct rows → Contains rows row → row_of rows row.device ≡ Some row
first_of [] row distinct there = absurd (in_none row there)
first_of (first ∷ others) row (alone, rest) there = elim (cons_cases first others row there) [
  | inl same ↦ elim (eqb_tells first.device row.device) [
    | inl e ↦ rw e.0 (ap (λ (r : WalkRow). Some r) same)
    | inr ne ↦ absurd (ne.1 (ap (λ (r : WalkRow). r.device) same))
  ]
  | inr later ↦ elim (eqb_tells first.device row.device) [
    | inl e ↦
        let found : row_of others row.device ≡ Some row = first_of others row rest later in
        let both : None ≡ Some row = sym (subst (λ n. row_of others n ≡ None) e.1 alone) ∙ found in cc
    | inr ne ↦ rw ne.0 (first_of others row rest later)
  ]
]

-- what is left is as far as it was
requests_left : (old : Parts) (event : Event) (answered : Outcome) (rows new_rows : List WalkRow) → AreWalks new_rows → LeavesRows old event answered rows new_rows
    → LeavesRequests old event answered rows new_rows
requests_left old event answered rows new_rows sound leaves = record { still = still; gone = gone }
  where
    under_way : (row : WalkRow) (own : UnderWay) → Contains new_rows row → row.under_way ≡ Some own → under_way_of new_rows row.device ≡ Some own
    under_way row own there is = ap under_way_in (first_of new_rows row sound.distinct there) ∙ is

    none_some : (id : ℕ) (own : UnderWay) → under_way_of new_rows id ≡ Some own → under_way_of new_rows id ≡ None → ⊥
    none_some id own some none = let both : Some own ≡ None = sym some ∙ none in cc

    gone : (id : ℕ) → GivesUp old event answered id → (row : WalkRow) (own : UnderWay) → Contains new_rows row → row.under_way ≡ Some own → own.request.device ≢ id
    gone id gives row own there is same =
        let found = first_of new_rows row sound.distinct there in
        let device : row.device ≡ id = sym (row_is_own new_rows row.device sound.rows_are row own found is) ∙ same in
        none_some id own (subst (λ n. under_way_of new_rows n ≡ Some own) device (under_way row own there is)) (leaves.gone id gives)

    still : (row : WalkRow) (own : UnderWay) → Contains new_rows row → row.under_way ≡ Some own → (before : WalkRow) × Contains rows before × (before.under_way ≡ Some own)
    still row own there is =
        elim (leaves.left row.device (λ gives. none_some row.device own (under_way row own there is) (leaves.gone row.device gives))) [
          | inl same ↦ (row, row_there rows row.device row (sym same ∙ first_of new_rows row sound.distinct there), is)
          | inr idle ↦ absurd (none_some row.device own (under_way row own there is) idle.1)
        ]

module _ (laws : KeepLaws) (old new : Moment) (sound : IsSound old) (code : IsOfCode new)
    (size : length new.parts.memory ≡ length old.parts.memory) where
  abbrev events : ℕ
  events = old.events + 1

  abbrev Kept : Type 0
  Kept = SteppedInvariant new.parts new.rows events

  counted : SteppedInvariant old.parts old.rows events × IsCounted old.parts events
  counted = now_counted old.parts old.rows old.events sound.invariants

  same_kept : AllStays old.parts old.rows new.parts new.rows → Kept
  same_kept (parts, rows) =
      subst (λ p. SteppedInvariant p new.rows events) (sym parts) (subst (λ rs. SteppedInvariant old.parts rs events) (sym rows) counted.0)

  of_request : OthersStay old.parts new.parts → IsOfRequest old.parts new.parts events
  of_request stays = record { driver = stays.driver; devices = stays.devices; fabric = stays.fabric; below = counted.1.accepted }

  begins : (id : ℕ) (asking : Asking) (told : SteppedOutcome) → BeginsSo old.parts old.rows id asking told new.parts new.rows → Kept
  begins id asking told so =
      laws.begins sound.code.driver old.parts new.parts events id old.rows new.rows (access_of asking) so.begun sound.code.state counted.0 (of_request so.stays) so.fits so.call

  happens_so : (event : Event) (told : SteppedOutcome) → (event ≡ happens.Fetch → ⊥) → NamesFit event → HappensSo old.disks old.parts old.rows event told new.parts new.rows → Kept
  happens_so event told other fits so =
      laws.others sound.code.driver old.disks old.parts new.parts events event so.answered old.rows new.rows sound.code.state counted.0 counted.1 other fits code.ready size so.effect
      (requests_left old.parts event so.answered old.rows new.rows code.walks so.leaves)

  loads : (id : ℕ) (told : SteppedOutcome) → LoadsSo old.parts old.rows id told new.parts new.rows → Kept
  loads id told so = laws.loads sound.code.driver old.parts new.parts events id old.rows new.rows so.load sound.code.state sound.code.walks counted.0 (of_request so.stays) so.call

  whole : (event : Event) (told : SteppedOutcome) → NamesFit event → WholeEffect old.disks old.parts old.rows event told new.parts new.rows → Kept
  whole (happens.Read id address len) told fits effect = elim effect [ inl so ↦ begins id _ told so | inr so ↦ happens_so (happens.Read id address len) told (λ is. cc) fits so.0 ]
  whole (happens.Write id address bytes) told fits effect = elim effect [ inl so ↦ begins id _ told so | inr so ↦ happens_so (happens.Write id address bytes) told (λ is. cc) fits so.0 ]
  whole (happens.Step id) told fits effect = elim effect [
    | inl (access, so) ↦ begins id _ told so
    | inr (inl so) ↦ same_kept so.same
    | inr (inr so) ↦ happens_so (happens.Step id) told (λ is. cc) fits so.happens
  ]
  whole happens.Fetch told fits effect =
      laws.fetches sound.code.driver old.parts new.parts events effect.answered old.rows new.rows sound.code.state counted.0 counted.1.serials effect.fetches size effect.anew
  whole (happens.ReadTranslated id address len) told fits effect = elim effect [ inl so ↦ same_kept so.same | inr so ↦ happens_so (happens.ReadTranslated id address len) told (λ is. cc) fits so ]
  whole (happens.WriteTranslated id address bytes) told fits effect = elim effect [ inl so ↦ same_kept so.same | inr so ↦ happens_so (happens.WriteTranslated id address bytes) told (λ is. cc) fits so ]
  whole (happens.ReadThroughCache id address len) told fits effect = elim effect [ inl so ↦ same_kept so.same | inr so ↦ happens_so (happens.ReadThroughCache id address len) told (λ is. cc) fits so ]
  whole (happens.WriteThroughCache id address bytes) told fits effect = elim effect [
    | inl so ↦ same_kept so.same
    | inr so ↦ happens_so (happens.WriteThroughCache id address bytes) told (λ is. cc) fits so
  ]
  whole _ told fits effect = happens_so _ told (λ is. cc) fits effect

pub events_keep_facts : KeepLaws → EventsKeepFacts
events_keep_facts laws old new event told sound code fits leads =
    record { code = code; invariants = subst (SteppedInvariant new.parts new.rows) (sym leads.counted) (by event fits leads.effect) }
  where
    by : (event : SteppedEvent) → EventNamesFit event → SteppedEffect old.disks old.parts old.rows event told new.parts new.rows → SteppedInvariant new.parts new.rows (old.events + 1)
    by (Whole event) names effect = whole laws old new sound code leads.size event told names effect
    by (Load id) names effect = elim effect [ inl so ↦ loads laws old new sound code leads.size id told so | inr so ↦ same_kept laws old new sound code leads.size so.same ]
