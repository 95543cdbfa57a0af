use Rattle.std.proofs.Common.{◌<◌, ◌*◌, ◌+◌, ◌≤◌, ℕ, sym, subst, arith}
use Rattle.iom_table_survey.specs.Rows.{StandInBoth}
use Rattle.iom_table_survey.proofs.RowLemmas.{common_at, no_common_at, none_below}
use Rattle.iom_table_survey.proofs.frame_row.FrameRow.first_common.Goals as goal

pub loop-index-preserved : goal.loop-index-preserved
loop-index-preserved c =
    subst (λ o. (f : ℕ) → f < 64 * (c.loop-index.index + 1) → ¬ StandInBoth c.args.self.now o f) c.other.view_is
    (subst (λ s. (f : ℕ) → f < 64 * (c.loop-index.index + 1) → ¬ StandInBoth s c.other.inside.words f) c.self.view_is
    (no_common_at c.self.inside.words c.other.inside.words c.loop-index.index c.loop-index-test.true c.in_default.ensures.none
    (subst (λ o. (f : ℕ) → f < 64 * c.loop-index.index → ¬ StandInBoth c.self.inside.words o f) (sym c.other.view_is)
    (subst (λ s. (f : ℕ) → f < 64 * c.loop-index.index → ¬ StandInBoth s c.args.other.now f) (sym c.self.view_is) c.loop-index.invariant))))

pub returns-in-Some-clause-some : goal.returns-in-Some-clause-some
returns-in-Some-clause-some c =
    let index = c.loop-index.index in
    let (within, mine, its) = c.in-Some.ensures.some in
    let k = c.in-Some.bit in
    subst (λ (p : ℕ). StandInBoth c.args.self.now c.args.other.now p × (p ≤ 4096)) (omega arith)
    (subst (λ o. StandInBoth c.args.self.now o (64 * index + k) × (64 * index + k ≤ 4096)) c.other.view_is
    (subst (λ s. StandInBoth s c.other.inside.words (64 * index + k) × (64 * index + k ≤ 4096)) c.self.view_is
    (common_at c.self.inside.words c.other.inside.words index k c.loop-index-test.true within mine its)))

pub returns-in-Some-clause-first : goal.returns-in-Some-clause-first
returns-in-Some-clause-first c =
    let index = c.loop-index.index in
    let (within, mine, its) = c.in-Some.ensures.some in
    let k = c.in-Some.bit in
    subst (λ (p : ℕ). (g : ℕ) → g < p → ¬ StandInBoth c.args.self.now c.args.other.now g) (omega arith)
    (subst (λ o. (g : ℕ) → g < 64 * index + k → ¬ StandInBoth c.args.self.now o g) c.other.view_is
    (subst (λ s. (g : ℕ) → g < 64 * index + k → ¬ StandInBoth s c.other.inside.words g) c.self.view_is
    (none_below c.self.inside.words c.other.inside.words index k c.loop-index-test.true within c.in-Some.ensures.lowest
    (subst (λ o. (f : ℕ) → f < 64 * index → ¬ StandInBoth c.self.inside.words o f) (sym c.other.view_is)
    (subst (λ s. (f : ℕ) → f < 64 * index → ¬ StandInBoth s c.args.other.now f) (sym c.self.view_is) c.loop-index.invariant)))))
