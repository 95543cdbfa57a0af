use Rattle.std.proofs.Common.{refl}
use Rattle.iom_script.proofs.ArgumentLemmas.{mode_alone, uncut_attaching, other_behind, no_mode_before, mode_with_ats}
use Rattle.iom_script.proofs.words.attaching_of.Goals as goal

pub returns-in-Some : goal.returns-in-Some
returns-in-Some c = mode_alone c.args.text.now c.in-Some.mode c.in-Some.ensures

pub returns-in_err-word : goal.returns-in_err-word
returns-in_err-word c = rw c.from_residual.ensures (uncut_attaching c.args.text.now c.in_default.ensures c.in_err-word.ensures)

pub returns-then-not-is_word : goal.returns-then-not-is_word
returns-then-not-is_word c =
    other_behind c.args.text.now c.in_ok-word.word.now c.in_ok-word.rest.now c.in_default.ensures c.in_ok-word.ensures
    (λ ats. let is = c.if-not-is_word.ensures.1 ats in cc)

pub returns-in_err-mode : goal.returns-in_err-mode
returns-in_err-mode c =
    rw c.from_residual-in_err-mode.ensures (no_mode_before c.args.text.now c.in_ok-word.word.now c.in_ok-word.rest.now c.in_default.ensures c.in_ok-word.ensures c.in_err-mode.ensures)

pub returns : goal.returns
returns c =
    mode_with_ats c.args.text.now c.in_ok-word.word.now c.in_ok-word.rest.now c.in_ok-mode.mode c.in_ok-word.ensures (c.if-not-is_word.ensures.0 refl) c.in_ok-mode.ensures
