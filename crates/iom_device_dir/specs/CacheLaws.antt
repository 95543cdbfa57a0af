-- A cache that only ever looks, keeps and drops is *sound*: at a key it answers nothing but the value that it was last handed for it, where
-- no drop has covered the key since.
use Rattle.std.specs.Prelude.{◌≡◌, ◌≢◌, ◌⊎◌, ℕ, Bool, false, List, [], ◌∷◌, Option, Some}
use Rattle.iom_device_dir.specs.Contents.{Content, IsEmptyContent, LooksUp, KeepsOne, DropsCovered}

-- what may be done to a cache whose keys are numbers
pub data CacheCall (V : Type 0) : Type 0 where
  looked : ℕ → Option V → CacheCall V
  kept : ℕ → V → CacheCall V
  dropped : (ℕ → Bool) → CacheCall V

abbrev pub IsCacheCall : {V : Type 0} → CacheCall V → Content ℕ V → Content ℕ V → Type 0
IsCacheCall (looked key found) old new = LooksUp old key found new
IsCacheCall (kept key value) old new = KeepsOne old key value new
IsCacheCall (dropped covers) old new = DropsCovered old covers new

-- the calls, the last one first, led from an empty content to this one
abbrev pub CallsLeadTo : {V : Type 0} → List (CacheCall V) → Content ℕ V → Type 0
CallsLeadTo [] content = IsEmptyContent content
CallsLeadTo {V = V} (call ∷ calls) content = (before : Content ℕ V) × CallsLeadTo calls before × IsCacheCall call before content

-- of the values that were handed for the key this is the last, and no drop since covered it
abbrev pub WasLastHanded : {V : Type 0} → List (CacheCall V) → ℕ → V → Type 0
WasLastHanded [] key value = ⊥
WasLastHanded (looked other found ∷ calls) key value = WasLastHanded calls key value
WasLastHanded (kept other handed ∷ calls) key value = ((other ≡ key) × (handed ≡ value)) ⊎ ((other ≢ key) × WasLastHanded calls key value)
WasLastHanded (dropped covers ∷ calls) key value = (covers key ≡ false) × WasLastHanded calls key value

-- THE LAW
abbrev pub AnswersWhatWasLastHanded : Type 0 → Type 0
AnswersWhatWasLastHanded V =
    (calls : List (CacheCall V)) (content : Content ℕ V) → CallsLeadTo calls content
    → (key : ℕ) (value : V) → content key ≡ Some value → WasLastHanded calls key value
