-- What a commit would make.
use Rattle.std.proofs.Common.{◌≡◌, ◌∙◌, inl, inr, ℕ, Option, Result, Ok, Err}
use Rattle.iom_base.specs.declared.refusal.Refusal.{Refusal}
use Rattle.iom_inflight.specs.Calls.{WouldMakeOldest}
use Rattle.iom_inflight.specs.declared.made.MadeAt.{MadeAt}
use Rattle.iom_iommu.specs.Parts.{flights_of}
use Rattle.iom_board.specs.Commits.{WouldMake}
use Rattle.iom_board.specs.BoardParts.{BoardParts}

pub would_make : (parts : BoardParts) (id : ℕ) (made : Option MadeAt) → WouldMakeOldest (flights_of parts.iommu) id made → WouldMake parts id made
would_make parts id made says answer new commits = elim commits [
  | inl none ↦ absurd (ok_err none.answered)
  | inr (inl unable) ↦ absurd (ok_err unable.answered)
  | inr (inr effect) ↦
      same_ok answer effect.given effect.answered
      ∙ says parts.memory effect.given new.memory (flights_of new.iommu) effect.call.call.makes
]
  where
    ok_err : {why : Refusal} → ◌≡◌ {A = Result (Option MadeAt) Refusal} (Ok answer) (Err why) → ⊥
    ok_err same = cc

    same_ok : (x y : Option MadeAt) → ◌≡◌ {A = Result (Option MadeAt) Refusal} (Ok x) (Ok y) → x ≡ y
    same_ok x y same = cc
