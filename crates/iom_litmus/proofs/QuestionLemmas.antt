-- What rows say of schedules.
use Rattle.std.proofs.Common.{◌≡◌, ◌↔◌, ◌⊎◌, inl, inr, ℕ, ◌+◌, ◌<◌, Bool, true, false, not, IsTrue, List, [], ◌∷◌, length, take, get_or, refl, sym, ap, ◌∙◌, subst, arith}
use Rattle.std.proofs.lemmas.Bool.{false≢true}
use Rattle.iom_litmus_test.specs.declared.observable.Value.{Value}
use Rattle.iom_litmus_test.specs.declared.proposition.Proposition.{Proposition}
use Rattle.iom_litmus_test.specs.declared.test.QuestionKind.{QuestionKind}
use Rattle.iom_litmus_test.specs.declared.test.QuestionKind.TheVariants as Kinds
use Rattle.iom_litmus_test.specs.declared.test.Test.{Test}
use Rattle.iom_litmus_test.specs.Propositions.{HoldsOfOutcome}
use Rattle.iom_litmus.specs.declared.histogram.Row.{Row}
use Rattle.iom_litmus.specs.declared.step.Step.{Step}
use Rattle.iom_litmus.specs.Behaviours.{Behaviour}
use Rattle.iom_litmus.specs.Readings.{Readings}
use Rattle.iom_litmus.specs.Histograms.{IsHistogram, outcomes}
use Rattle.iom_litmus.specs.Listed.{IsListed}
use Rattle.iom_litmus.specs.Questions.{IsSoAs, HoldsOfSome, HoldsOfEach}
use Rattle.iom_litmus.specs.Seen.{outcome_after}
use Rattle.iom_litmus.specs.Steps.{IsScheduleOf}
use Rattle.iom_litmus.proofs.ListedLemmas.{more_taken_cases}

row_with : (rows : List Row) (outcome : List Value) → IsListed (outcomes rows) outcome → (row : Row) × IsListed rows row × (row.outcome ≡ outcome)
row_with [] outcome listed = absurd listed
row_with (first ∷ rest) outcome (inl same) = (first, inl refl, same)
row_with (first ∷ rest) outcome (inr listed) = let (row, there, same) = row_with rest outcome listed in (row, inr there, same)

schedule_from_row : {S : Type 0} (r : Readings S) (b : Behaviour S) (test : Test) (system : S) (rows : List Row) (asked : Proposition) → IsHistogram r b test system rows
    → HoldsOfSome rows asked → IsSoAs r b test system Kinds.Exists asked
schedule_from_row r b test system rows asked h (row, listed, holds) =
    (row.schedule, (h.told row listed).0, subst (λ o. HoldsOfOutcome asked o) (sym (h.told row listed).1) holds)

row_from_schedule : {S : Type 0} (r : Readings S) (b : Behaviour S) (test : Test) (system : S) (rows : List Row) (asked : Proposition) → IsHistogram r b test system rows
    → IsSoAs r b test system Kinds.Exists asked → HoldsOfSome rows asked
row_from_schedule r b test system rows asked h (schedule, is, holds) =
    let (row, listed, same) = row_with rows (outcome_after r b test system schedule) (h.complete schedule is) in
    (row, listed, subst (λ o. HoldsOfOutcome asked o) (sym same) holds)

-- by the rows that are shown
pub exists_is_told : {S : Type 0} (r : Readings S) (b : Behaviour S) (test : Test) (system : S) (rows shown : List Row) (kind : QuestionKind) (asked : Proposition) (result : Bool)
    → kind ≡ Kinds.Exists → shown ≡ rows → IsHistogram r b test system rows → (IsTrue result ↔ HoldsOfSome shown asked) → IsTrue result ↔ IsSoAs r b test system kind asked
exists_is_told r b test system rows shown kind asked result kind_is shows h (there, back) =
    subst (λ k. IsTrue result ↔ IsSoAs r b test system k asked) (sym kind_is) (
      (λ holds. schedule_from_row r b test system rows asked h (subst (λ rs. HoldsOfSome rs asked) shows (there holds))),
      (λ so. back (subst (λ rs. HoldsOfSome rs asked) (sym shows) (row_from_schedule r b test system rows asked h so))),
    )

pub not_exists_is_told : {S : Type 0} (r : Readings S) (b : Behaviour S) (test : Test) (system : S) (rows shown : List Row) (kind : QuestionKind) (asked : Proposition) (result : Bool)
    → kind ≡ Kinds.NotExists → shown ≡ rows → IsHistogram r b test system rows → (IsTrue result ↔ HoldsOfSome shown asked) → IsTrue (not result) ↔ IsSoAs r b test system kind asked
not_exists_is_told r b test system rows shown kind asked false kind_is shows h (there, back) =
    subst (λ k. IsTrue true ↔ IsSoAs r b test system k asked) (sym kind_is) (
      (λ _ schedule is holds. false≢true (back (subst (λ rs. HoldsOfSome rs asked) (sym shows) (row_from_schedule r b test system rows asked h (schedule, is, holds))))),
      (λ _. refl),
    )
not_exists_is_told r b test system rows shown kind asked true kind_is shows h (there, back) =
    subst (λ k. IsTrue false ↔ IsSoAs r b test system k asked) (sym kind_is) (
      (λ no. absurd (false≢true no)),
      (λ none. let (schedule, is, holds) = schedule_from_row r b test system rows asked h (subst (λ rs. HoldsOfSome rs asked) shows (there refl)) in absurd (none schedule is holds)),
    )

pub for_all_is_told : {S : Type 0} (r : Readings S) (b : Behaviour S) (test : Test) (system : S) (rows shown : List Row) (kind : QuestionKind) (asked : Proposition) (result : Bool)
    → kind ≡ Kinds.ForAll → shown ≡ rows → IsHistogram r b test system rows → (IsTrue result ↔ HoldsOfEach shown asked) → IsTrue result ↔ IsSoAs r b test system kind asked
for_all_is_told r b test system rows shown kind asked result kind_is shows h (there, back) =
    subst (λ k. IsTrue result ↔ IsSoAs r b test system k asked) (sym kind_is) (
      (λ holds schedule is.
          let (row, listed, same) = row_with rows (outcome_after r b test system schedule) (h.complete schedule is) in
          subst (λ o. HoldsOfOutcome asked o) same (there holds row (subst (λ rs. IsListed rs row) (sym shows) listed))),
      (λ each. back (λ row listed.
          let was = subst (λ rs. IsListed rs row) shows listed in
          subst (λ o. HoldsOfOutcome asked o) (h.told row was).1 (each row.schedule (h.told row was).0))),
    )

-- of the first rows, one more
pub none_more : (rows : List Row) (k : ℕ) (d : Row) (asked : Proposition) → k < length rows → ¬ HoldsOfSome (take k rows) asked → ¬ HoldsOfOutcome asked (get_or rows k d).outcome
    → ¬ HoldsOfSome (take (k + 1) rows) asked
none_more rows k d asked within none other (row, listed, holds) = elim (more_taken_cases rows k d row within listed) [
  | inl there ↦ none (row, there, holds)
  | inr same ↦ other (subst (λ r. HoldsOfOutcome asked r.outcome) (sym same) holds)
]

pub each_more : (rows : List Row) (k : ℕ) (d : Row) (asked : Proposition) → k < length rows → HoldsOfEach (take k rows) asked → HoldsOfOutcome asked (get_or rows k d).outcome
    → HoldsOfEach (take (k + 1) rows) asked
each_more rows k d asked within each next row listed = elim (more_taken_cases rows k d row within listed) [
  | inl there ↦ each row there
  | inr same ↦ subst (λ r. HoldsOfOutcome asked r.outcome) same next
]
