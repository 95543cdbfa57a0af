use Rattle.std.proofs.Common.{arith, get_or}
use Rattle.std.proofs.lemmas.Bool.{eq-eqb, eqb-true}
use Rattle.iom_script.proofs.CutLemmas.{cut_at, no_cut}
use Rattle.iom_script.proofs.words.first_word.Goals as goal

pub returns-in_err-place : goal.returns-in_err-place
returns-in_err-place c = rw c.from_residual.ensures (no_cut 32 c.args.text.now (λ k lt e. c.in_err-place.ensures k (omega arith) lt (eq-eqb (get_or c.args.text.now k 0) 32 e)))

pub returns : goal.returns
returns c =
    let found = c.in_ok-place.ensures in
    cut_at 32 c.in_ok-place.place c.args.text.now found.0.high (eqb-true (get_or c.args.text.now c.in_ok-place.place 0) 32 found.1)
    (λ k lt e. found.0.before k (omega arith) lt (eq-eqb (get_or c.args.text.now k 0) 32 e))
