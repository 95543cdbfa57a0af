-- Claims that are watched: one after another is judged, and what they claim stays.
use Rattle.std.proofs.Common.{◌≡◌, ◌∙◌, ◌⊎◌, inl, inr, ℕ, zero, suc, ◌+◌, ◌<◌, List, [], ◌∷◌, length, slice_get, slice_set, Option, Some, subst, refl, sym, ap, arith}
use Rattle.std.proofs.lemmas.Bool.Decides.{eqb_tells}
use Rattle.std.proofs.lemmas.Option.{slice_get_within}
use Rattle.iom_claims.specs.Claimed.{Claimed, IsOpen}
use Rattle.iom_claims.specs.declared.grant.Grant.{Grant}
use Rattle.iom_hardware_session.specs.declared.answer.ClaimAnswer.{ClaimAnswer}
use Rattle.iom_hardware_session.specs.declared.answer.ClaimAnswer.TheVariants as found
use Rattle.iom_hardware_session.specs.declared.answer.Wrong.{Wrong}
use Rattle.iom_hardware_session.specs.declared.watched.GoodClaim.TheVariants as good
use Rattle.iom_hardware_session.specs.declared.watched.Watched.{Watched}
use Rattle.iom_hardware_session.specs.Shown.{ShownHardware}
use Rattle.iom_hardware_session.specs.Watching.{claims_of, with_claim, with_if_good, IsVerdictOf, AreJudgedAgain, WatchesDone}

-- where one place is written, what stands there is that, and all else stays
pub set_get : (list : List Watched) (place k : ℕ) (new own : Watched) → slice_get (slice_set list place new) k ≡ Some own → ((k ≡ place) × (new ≡ own)) ⊎ (¬ (k ≡ place) × (slice_get list k ≡ Some own))
set_get [] place k new own at = absurd (cc)
set_get (first ∷ others) zero zero new own at = inl (refl, inside at)
  where
    inside : Some new ≡ Some own → new ≡ own
    inside e = cc
set_get (first ∷ others) zero (suc k) new own at = inr ((λ e. absurd (omega (arith, e))), at)
set_get (first ∷ others) (suc place) zero new own at = inr ((λ e. absurd (omega (arith, e))), at)
set_get (first ∷ others) (suc place) (suc k) new own at = by (set_get others place k new own at)
  where
    by : ((k ≡ place) × (new ≡ own)) ⊎ (¬ (k ≡ place) × (slice_get others k ≡ Some own)) → ((suc k ≡ suc place) × (new ≡ own)) ⊎ (¬ (suc k ≡ suc place) × (slice_get (first ∷ others) (suc k) ≡ Some own))
    by (inl (same, is)) = inl (ap suc same, is)
    by (inr (apart, there)) = inr ((λ e. apart (omega (arith, e))), there)

-- a claim that stands in its own place stays
pub set_claims : (list : List Watched) (place : ℕ) (own : Watched) (why : Option Wrong) → slice_get list place ≡ Some own → claims_of (slice_set list place (record { claim = own.claim; why = why })) ≡ claims_of list
set_claims [] place own why at = refl
set_claims (first ∷ others) zero own why at = ap (λ (w : Watched). w.claim ∷ claims_of others) (sym (inside at))
  where
    inside : Some first ≡ Some own → first ≡ own
    inside e = cc
set_claims (first ∷ others) (suc place) own why at = ap (λ claims. first.claim ∷ claims) (set_claims others place own why at)

-- those before the place are judged
abbrev pub AreJudgedBelow : ℕ → List Watched → ShownHardware → List ℕ → Claimed → Type 0
AreJudgedBelow place list hardware trusted claimed = (k : ℕ) (own : Watched) → k < place → slice_get list k ≡ Some own → IsVerdictOf own.why own.claim hardware trusted claimed

pub one_more_judged : (list : List Watched) (place : ℕ) (new : Watched) (hardware : ShownHardware) (trusted : List ℕ) (claimed : Claimed) → AreJudgedBelow place list hardware trusted claimed
    → IsVerdictOf new.why new.claim hardware trusted claimed → AreJudgedBelow (place + 1) (slice_set list place new) hardware trusted claimed
one_more_judged list place new hardware trusted claimed before reply k own less at = elim (set_get list place k new own at) [
  | inl (same, is) ↦ subst (λ (w : Watched). IsVerdictOf w.why w.claim hardware trusted claimed) is reply
  | inr (apart, there) ↦ before k own (below k place less apart) there
]
  where
    below : (a b : ℕ) → a < b + 1 → (a ≡ b → ⊥) → a < b
    below a b less differ = elim (eqb_tells a b) [ inl is ↦ absurd (differ is.1) | inr ne ↦ omega (arith, less, ne.1) ]

pub all_judged : (old list : List Watched) (place : ℕ) (hardware : ShownHardware) (trusted : List ℕ) (claimed : Claimed) → claims_of list ≡ claims_of old → length list < place + 1
    → AreJudgedBelow place list hardware trusted claimed → AreJudgedAgain old list hardware trusted claimed
all_judged old list place hardware trusted claimed same long below = record {
  same = same;
  reply = λ k own at. let within = slice_get_within list k own at in below k own (omega (arith, within, long)) at;
}

-- what a claim that is done withdrew is watched, where it is good
pub watches_done : (number short : ℕ) (own : Grant) (answer : ClaimAnswer) (claimed : Claimed) (old new : List Watched) → short ≡ number
    → IsOpen claimed.history (record { number = short; grant = own }) → new ≡ with_if_good answer (good.Done short own.device own.frame) old → WatchesDone number answer claimed old new
watches_done number short own found.Good claimed old new same opened is = (
  own,
  subst (λ (n : ℕ). IsOpen claimed.history (record { number = n; grant = own })) same opened,
  is ∙ ap (λ (n : ℕ). with_claim (good.Done n own.device own.frame) old) same,
)
watches_done number short own (found.Wrong why) claimed old new same opened is = is
watches_done number short own (found.Released n) claimed old new same opened is = is
watches_done number short own found.Trusted claimed old new same opened is = is
watches_done number short own (found.Refused why) claimed old new same opened is = is
watches_done number short own found.NoSuchClaim claimed old new same opened is = is

-- as many as claim so
pub same_count : (old new : List Watched) → claims_of new ≡ claims_of old → length new ≡ length old
same_count [] [] same = refl
same_count [] (first ∷ others) same = absurd (cc)
same_count (first ∷ others) [] same = absurd (cc)
same_count (first ∷ others) (own ∷ rest) same = ap suc (same_count others rest (inside same))
  where
    inside : own.claim ∷ claims_of rest ≡ first.claim ∷ claims_of others → claims_of rest ≡ claims_of others
    inside e = cc
