use Rattle.std.proofs.Common.{Some, None, sym, ◌∙◌}
use Rattle.std.proofs.lemmas.Bool.{false≢true}
use Rattle.iom_script.proofs.KindLemmas.{kind_raw, kind_ats, kind_block, kind_cached, kind_none}
use Rattle.iom_script.proofs.words.kind_of.Goals as goal

pub returns-then-is_word : goal.returns-then-is_word
returns-then-is_word c = kind_raw c.args.text.now (c.is_word.ensures.0 c.if-is_word.true)

pub returns-then-is_word-2 : goal.returns-then-is_word-2
returns-then-is_word-2 c = kind_ats c.args.text.now (c.is_word-2.ensures.0 c.if-is_word-2.true)

pub returns-in_err-disk : goal.returns-in_err-disk
returns-in_err-disk c = rw c.from_residual.ensures (kind_block c.args.text.now c.in-Some.number.now c.in-Some.ensures None c.in_err-disk.ensures)

pub returns-in-Some : goal.returns-in-Some
returns-in-Some c = kind_block c.args.text.now c.in-Some.number.now c.in-Some.ensures (Some c.in_ok-disk.disk) c.in_ok-disk.ensures

pub returns-in_err-number : goal.returns-in_err-number
returns-in_err-number c =
    rw c.from_residual-in_err-number.ensures (kind_none c.args.text.now
    (λ raw. false≢true (sym c.if-is_word.false ∙ c.is_word.ensures.1 raw))
    (λ ats. false≢true (sym c.if-is_word-2.false ∙ c.is_word-2.ensures.1 ats))
    c.in_default.ensures c.in_err-number.ensures)

pub returns-in_err-disk-2 : goal.returns-in_err-disk-2
returns-in_err-disk-2 c =
    rw c.from_residual-in_err-disk-2.ensures (kind_cached c.args.text.now c.in_ok-number.number.now c.in_ok-number.ensures None c.in_err-disk-2.ensures)

pub returns : goal.returns
returns c = kind_cached c.args.text.now c.in_ok-number.number.now c.in_ok-number.ensures (Some c.in_ok-disk-2.disk) c.in_ok-disk-2.ensures
