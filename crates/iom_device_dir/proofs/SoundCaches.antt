-- What a cache answers was handed to it: by induction over the calls.
use Rattle.std.proofs.Common.{◌≡◌, ◌≢◌, ◌∙◌, ◌⊎◌, inl, inr, ℕ, Bool, true, false, List, [], ◌∷◌, Option, Some, None, refl, sym, ap, if◌then◌else◌}
use Rattle.std.proofs.lemmas.Bool.Decides.{eqb_tells}
use Rattle.iom_device_dir.specs.Contents.{Content, SetsOne, KeepsOne}
use Rattle.iom_device_dir.specs.CacheLaws.{CacheCall, looked, kept, dropped, CallsLeadTo, WasLastHanded, AnswersWhatWasLastHanded}

module _ {V : Type 0} where
  value_is : (o : Option V) (one other : V) → o ≡ Some one → o ≡ Some other → one ≡ other
  value_is o one other a b = let e : Some one ≡ Some other = sym a ∙ b in cc

  -- what is answered after a keep is what was kept, or was answered before at another key
  set_tells : (old new : Content ℕ V) (other key : ℕ) (handed value : V) → SetsOne old other handed new → new key ≡ Some value
      → ((other ≡ key) × (handed ≡ value)) ⊎ ((other ≢ key) × (old key ≡ Some value))
  set_tells old new other key handed value sets answers = elim (eqb_tells key other) [
    | inl same ↦ inl (sym same.1, value_is (new other) handed value sets.0 (ap new (sym same.1) ∙ answers))
    | inr apart ↦ elim (sets.2 key apart.1) [
      | inl as_before ↦ inr (λ e. apart.1 (sym e), sym as_before ∙ answers)
      | inr lost ↦ absurd (let e : None ≡ Some value = sym lost.1 ∙ answers in cc)
    ]
  ]

  keep_tells : (old new : Content ℕ V) (other key : ℕ) (handed value : V) → KeepsOne old other handed new → new key ≡ Some value
      → ((other ≡ key) × (handed ≡ value)) ⊎ ((other ≢ key) × (old key ≡ Some value))
  keep_tells old new other key handed value (inl sets) answers = set_tells old new other key handed value sets answers
  keep_tells old new other key handed value (inr same) answers =
      inr (λ e. let none : None ≡ Some value = sym same.0 ∙ ap old e ∙ sym (same.1 key) ∙ answers in cc, sym (same.1 key) ∙ answers)

  uncovered : (old : Option V) (value : V) (b : Bool) → (if b then None else old) ≡ Some value → (b ≡ false) × (old ≡ Some value)
  uncovered old value true e = absurd (cc)
  uncovered old value false e = (refl, e)

  last_handed : (calls : List (CacheCall V)) (content : Content ℕ V) → CallsLeadTo calls content
      → (key : ℕ) (value : V) → content key ≡ Some value → WasLastHanded calls key value
  last_handed [] content empty key value answers = absurd (let e : None ≡ Some value = sym (empty key) ∙ answers in cc)
  last_handed (looked other found ∷ calls) content led key value answers =
      last_handed calls led.0 led.1 key value (sym (led.2.1 key) ∙ answers)
  last_handed (kept other handed ∷ calls) content led key value answers =
      elim (keep_tells led.0 content other key handed value led.2 answers) [
        | inl now ↦ inl now
        | inr before ↦ inr (before.0, last_handed calls led.0 led.1 key value before.1)
      ]
  last_handed (dropped covers ∷ calls) content led key value answers =
      let since = uncovered (led.0 key) value (covers key) (sym (led.2 key) ∙ answers) in
      (since.0, last_handed calls led.0 led.1 key value since.1)

pub answers_what_was_last_handed : (V : Type 0) → AnswersWhatWasLastHanded V
answers_what_was_last_handed V = λ calls content led key value answers. last_handed calls content led key value answers
