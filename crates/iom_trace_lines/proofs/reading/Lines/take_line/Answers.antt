use Rattle.std.proofs.Common.{◌≡◌, ◌≢◌, ◌+◌, ◌∙◌, ◌<◌, ℕ, List, length, get_or, subst, ap, arith}
use Rattle.std.specs.List.{slice_range}
use Rattle.std.proofs.lemmas.Bool.{eq-eqb, eqb-true}
use Rattle.iom_trace_lines.proofs.ReadingLemmas.{line_taken, ends_at}
use Rattle.iom_trace_lines.proofs.reading.Lines.take_line.Goals as goal

pub returns : goal.returns
returns c lines first now has =
    let buffer = c.args.self.now.buffer.items in
    let start = c.args.self.now.start in
    let end = c.args.self.now.end in
    let k = c.in_ok-length.length in
    let found = c.in_ok-length.ensures in
    let lookup = c.in_ok-rest.ensures.lookup in
    let rest : c.in_ok-rest.rest.now ≡ slice_range buffer start end =
    lookup.0.2 ∙ ap (λ (l : List ℕ). slice_range l start end) c.deref.ensures.value in
    let here : get_or (slice_range buffer start end) k 0 ≡ 10 =
    subst (λ (l : List ℕ). get_or l k 0 ≡ 10) rest (eqb-true (get_or c.in_ok-rest.rest.now k 0) 10 found.1) in
    let apart : (j : ℕ) → j < k → get_or (slice_range buffer start end) j 0 ≢ 10 =
    λ j low. subst (λ (l : List ℕ). get_or l j 0 ≢ 10) rest (λ e. found.0.before j (omega arith) low (eq-eqb (get_or c.in_ok-rest.rest.now j 0) 10 e)) in
    let low : k < length (slice_range buffer start end) = subst (λ (l : List ℕ). k < length l) rest found.0.high in
    let inside : start + k < end = omega (arith, found.0.high, lookup.0.3) in
    let place : c.saturating_add-end.result ≡ start + k = omega (arith, inside, c.saturating_add-end.ensures) in
    let behind : c.saturating_add-self.result ≡ start + k + 1 = omega (arith, inside, place, c.saturating_add-self.ensures) in
    ends_at lines buffer start (start + k) (start + k + 1) c.saturating_add-end.result c.saturating_add-self.result end first now place behind
    (line_taken lines buffer start end k first now has low here apart)
