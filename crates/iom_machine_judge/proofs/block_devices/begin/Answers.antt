use Rattle.std.proofs.Common.{true, false, sym, ◌∙◌}
use Rattle.iom_machine_judge.proofs.BlockLemmas.{begins_if_ok}
use Rattle.iom_machine_judge.proofs.block_devices.begin.Goals as goal

pub returns-then-has_cache : goal.returns-then-has_cache
returns-then-has_cache c =
    begins_if_ok c.answer_at.result true c.args.kept.now c.answer_at.new.kept c.args.place c.index-as_slice-place.result c.args.access.now c.in_ok-wanted.wanted c.args.frame c.args.outcome.now
    (c.may_want.ensures.0 c.if-not-may_want.false) (rw c.as_slice-bytes.ensures at c.in_ok-wanted.ensures) (rw c.as_slice.ensures at c.index-as_slice-place.is)
    (sym c.has_cache.ensures ∙ c.if-has_cache.true) c.answer_at.ensures

pub returns-else-has_cache : goal.returns-else-has_cache
returns-else-has_cache c =
    begins_if_ok c.answer_at-else-has_cache.result false c.args.kept.now c.answer_at-else-has_cache.new.kept c.args.place c.index-as_slice-place.result c.args.access.now c.in_ok-wanted.wanted c.args.frame c.args.outcome.now
    (c.may_want.ensures.0 c.if-not-may_want.false) (rw c.as_slice-bytes.ensures at c.in_ok-wanted.ensures) (rw c.as_slice.ensures at c.index-as_slice-place.is)
    (sym c.has_cache.ensures ∙ c.if-has_cache.false) c.answer_at-else-has_cache.ensures
