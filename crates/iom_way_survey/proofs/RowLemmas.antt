-- Rows of devices, one after another.
use Rattle.std.proofs.Common.{◌≡◌, ◌⊎◌, ◌∙◌, inl, inr, ℕ, ◌+◌, List, [], ◌∷◌, ◌++◌, length, slice_get, Some, Result, Ok, Err, is_ok, if◌then◌else◌, subst, refl, sym, ap}
use Rattle.std.proofs.lemmas.List.{length_push}
use Rattle.iom_device.specs.declared.device.Device.{Device}
use Rattle.iom_board.specs.BoardParts.{BoardParts}
use Rattle.iom_walks.specs.Walks.{WalkRow}
use Rattle.iom_way_survey.specs.Surveys.{IsReachRow, HaveRows}
use Rattle.iom_way_survey.specs.declared.findings.DeviceReach.{DeviceReach}
use Rattle.iom_way_survey.proofs.StepLemmas.{push_get}

-- a row that is pushed
pub pushed_items : {U E : Type 0} (xs ys new : List DeviceReach) (r : Result U E) (u : U) → r ≡ Ok u → new ≡ (if is_ok r then xs else ys) → new ≡ xs
pushed_items xs ys new (Ok v) u e is = is
pushed_items xs ys new (Err x) u e is = cc

none_there : (row : DeviceReach) (k : ℕ) → slice_get [] k ≡ Some row → ⊥
none_there row k is = cc

pub no_rows : (parts : BoardParts) (walks : List WalkRow) (trusted : List ℕ) (rows : List DeviceReach) → rows ≡ [] → HaveRows parts walks trusted rows 0
no_rows parts walks trusted rows empty = subst (λ rs. HaveRows parts walks trusted rs 0) (sym empty)
    (record { long = refl; each = λ k row device at here. absurd (none_there row k at) })

pub one_more_row : (parts : BoardParts) (walks : List WalkRow) (trusted : List ℕ) (old new : List DeviceReach) (count : ℕ) (row : DeviceReach) (device : Device) → HaveRows parts walks trusted old count
    → slice_get parts.devices count ≡ Some device → IsReachRow parts walks trusted row device → new ≡ old ++ row ∷ [] → HaveRows parts walks trusted new (count + 1)
one_more_row parts walks trusted old new count row device have there is_of is = subst (λ rs. HaveRows parts walks trusted rs (count + 1)) (sym is) (record {
  long = length_push old row ∙ ap (λ n. n + 1) have.long;
  each = λ k own other at here. by k own other (push_get old row k own at) here;
})
  where
    by : (k : ℕ) (own : DeviceReach) (other : Device) → (slice_get old k ≡ Some own) ⊎ ((k ≡ length old) × (row ≡ own)) → slice_get parts.devices k ≡ Some other → IsReachRow parts walks trusted own other
    by k own other (inl before) here = have.each k own other before here
    by k own other (inr (end, same)) here =
        let at : k ≡ count = end ∙ have.long in
        let e : Some device ≡ Some other = sym there ∙ ap (λ j. slice_get parts.devices j) (sym at) ∙ here in
        let f : device ≡ other = cc in
        subst (λ (r : DeviceReach). IsReachRow parts walks trusted r other) same (subst (λ (d : Device). IsReachRow parts walks trusted row d) f is_of)
