use Rattle.std.proofs.Common.{arith, ◌≡◌, ◌-◌, ◌∙◌, true, nat_eq, Some, get_or, sym, ap}
use Rattle.std.proofs.lemmas.List.{get_or_default}
use Rattle.iom_ats_cache.proofs.EntryLemmas.{finds_none, finds_one}
use Rattle.iom_ats_cache.proofs.atc.entry_of.Goals as goal

pub returns-then-eq : goal.returns-then-eq
returns-then-eq c =
    let place = c.loop-place.place - 1 in
    let entry = c.index-entries-place.result in
    let own : nat_eq (get_or c.args.entries.now place entry).page c.args.page ≡ true = sym c.eq.ensures ∙ c.if-eq.true in
    ap Some (c.index-entries-place-then-eq.is ∙ get_or_default c.args.entries.now place c.index-entries-place-then-eq.result entry (omega (arith, c.loop-place.auto.place, c.loop-place-test.true)))
    ∙ sym (finds_one c.args.page c.args.entries.now place entry c.requires (omega (arith, c.loop-place.auto.place, c.loop-place-test.true)) own)

pub returns : goal.returns
returns c = sym (finds_none c.args.page c.args.entries.now (λ k d below. c.loop-place.invariant k d (omega (arith, c.loop-place-test.false)) below))
