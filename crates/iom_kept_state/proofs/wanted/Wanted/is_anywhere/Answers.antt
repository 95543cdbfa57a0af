use Rattle.std.proofs.Common.{◌≤◌, length, refl, sym, ◌∙◌, arith}
use Rattle.std.proofs.lemmas.Bool.{false≢true}
use Rattle.iom_ledger.specs.Shown.{pages_listed}
use Rattle.iom_kept_state.proofs.ReachLemmas.{reached_nowhere, none_from, none_past, reached_by, within_list}
use Rattle.iom_kept_state.proofs.wanted.Wanted.is_anywhere.Goals as goal

pub returns-in_default : goal.returns-in_default
returns-in_default c =
    let pages = length (pages_listed c.args.ledger.now c.args.self.now.device) in (
      λ none. absurd (false≢true none),
      λ reached. absurd (reached_nowhere c.args.self.now c.args.ledger.now pages
          (none_from c.args.self.now c.args.ledger.now c.loop-index.from pages c.loop-index.invariant.1 c.in_default.ensures) (omega arith) reached),
    )

pub returns-then-is : goal.returns-then-is
returns-then-is c = (λ some. reached_by c.args.self.now c.args.ledger.now c.loop-index.from c.in-Some.reach c.in-Some.ensures (c.is.ensures.0 c.if-is.true), λ reached. refl)

pub overflow_add-from : goal.overflow_add-from
overflow_add-from c =
    let below = within_list c.args.self.now c.args.ledger.now c.loop-index.from c.in-Some.reach c.in-Some.ensures in
    let count = c.page_count-index-end.ensures.count in
    let most = c.page_count-index-end.type_inv in
    omega (arith, below, count, most)

pub loop-index-preserved : goal.loop-index-preserved
loop-index-preserved c =
    let low : c.loop-index._index ≤ c.loop-index.from = c.loop-index.invariant.0 in
    let from : c.loop-index.from ≤ c.in-Some.reach.index = c.in-Some.ensures.from_there in (
      omega (arith, low, from),
      none_past c.args.self.now c.args.ledger.now c.loop-index.from c.in-Some.reach c.loop-index.invariant.1 c.in-Some.ensures (λ is. absurd (false≢true (sym c.if-is.false ∙ c.is.ensures.1 is))),
    )

pub returns : goal.returns
returns c =
    let count = c.page_count-index-end.ensures.count in
    let end = c.loop-index-test.false in
    let low : c.loop-index._index ≤ c.loop-index.from = c.loop-index.invariant.0 in
    let past : length (pages_listed c.args.ledger.now c.args.self.now.device) ≤ c.loop-index.from = omega (arith, count, end, low) in
    (λ none. absurd (false≢true none), λ reached. absurd (reached_nowhere c.args.self.now c.args.ledger.now c.loop-index.from c.loop-index.invariant.1 past reached))
