use Rattle.std.proofs.Common.{◌≡◌, ◌+◌, ◌-◌, ◌∙◌, ◌≤◌, ℕ, List, ◌++◌, length, take, drop, take_at, subst, sym, ap, arith}
use Rattle.std.proofs.lemmas.List.{length-drop}
use Rattle.iom_trace_lines.specs.Taken.{HasTaken}
use Rattle.iom_trace_lines.proofs.ReadingLemmas.{bytes_read}
use Rattle.iom_trace_lines.proofs.reading.Lines.read_more.Goals as goal

pub returns : goal.returns
returns g c lines first has at_front few =
    let old = c.args.self.now.buffer.items in
    let after = c.read_behind.new.buffer in
    let end = c.args.self.now.end in
    let reads = c.in_ok-count.ensures in
    let value = c.as_mut_slice.ensures.value in
    let long : length after ≡ length old = reads.len ∙ ap (λ (l : List ℕ). length l) value in
    let sized : length after ≡ c.args.self.now.buffer.len = reads.len ∙ c.as_mut_slice.ensures.len in
    let whole : take c.args.self.now.buffer.len (after ++ drop (length after) old) ≡ after = take_at after (drop (length after) old) c.args.self.now.buffer.len sized in
    let room : c.in_ok-count.count ≤ length after - end = omega (arith, reads.bound.0, length-drop end after) in
    let place : c.saturating_add-self.result ≡ end + c.in_ok-count.count = omega (arith, room, long, has.holds.1, c.saturating_add-self.ensures) in (
      subst (λ (l : List ℕ). HasTaken lines l c.args.self.now.start c.saturating_add-self.result first (g.R.Read.remaining c.read_behind.new.reader)) (sym whole)
          (subst (λ (e : ℕ). HasTaken lines after c.args.self.now.start e first (g.R.Read.remaining c.read_behind.new.reader)) (sym place)
          (bytes_read lines old after c.args.self.now.start end c.in_ok-count.count first (g.R.Read.remaining c.args.reader.now) (g.R.Read.remaining c.read_behind.new.reader) has at_front
          (reads.front ∙ ap (λ (l : List ℕ). take end l) value) long reads.bound.0 reads.bytes.0)),
      λ none. reads.bytes.1 none (omega (arith, few, long, has.holds.2, length-drop end after)),
    )
