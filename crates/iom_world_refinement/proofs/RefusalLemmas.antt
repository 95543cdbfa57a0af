-- Which refusal a call answers.
use Rattle.std.proofs.Common.{◌≡◌, true, false, Option, Some, None, sym, subst, is_some, MatchOption, IsSomeAnd}
use Rattle.std.proofs.lemmas.Bool.{false≢true}

-- what is known of a value that is there, and of one that isn't
pub when_some : {A : Type 0} (o : Option A) (P : Type 0) (Q : A → Type 0) → is_some o ≡ true → MatchOption o P Q → (x : A) × Q x
when_some None P Q there known = absurd (false≢true there)
when_some (Some x) P Q there known = (x, known)

pub when_none : {A : Type 0} (o : Option A) (P : Type 0) (Q : A → Type 0) → is_some o ≡ false → MatchOption o P Q → P
when_none None P Q none known = known
when_none (Some x) P Q none known = absurd (false≢true (sym none))

-- a value that is there, with a fact
pub some_and : {A : Type 0} (P : A → Type 0) (o : Option A) (x : A) → o ≡ Some x → P x → IsSomeAnd o P
some_and P o x is holds = subst (λ v. IsSomeAnd v P) (sym is) holds
