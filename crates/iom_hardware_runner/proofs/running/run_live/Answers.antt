use Rattle.std.proofs.Common.{◌++◌, IfSome, take, arith, subst, sym}
use Rattle.std.proofs.KnownBytes.{Consumes-trans}
use Rattle.iom_hardware_runner.proofs.ReadLemmas.{live_ran, live_bad, live_unended, names_no_line}
use Rattle.iom_hardware_runner.proofs.BadLineLemmas.{passes_on}
use Rattle.iom_hardware_runner.specs.Parts.{HasArrived, IsRoomFor}
use Rattle.iom_hardware_runner.specs.Runs.{NamesLine, IsFirstBadSessionLine}
use Rattle.iom_hardware_runner.proofs.running.run_live.Goals as goal

pub returns-then-count-eq0 : goal.returns-then-count-eq0
returns-then-count-eq0 g c =
    let (taken, consumed, arrived) = c.loop.invariant in
    let known = g.R.Read.remaining c.args.reader.now in
    let before = g.R.Read.remaining c.loop.reader in
    let end = g.R.Read.remaining c.read_piece.new.reader in
    let ended = subst (HasArrived 65536 taken) (sym c.deref.ensures) arrived in
    record {
      ran = live_ran c.end.result known before end taken c.read_piece.new.chunk c.in_ok-count.count consumed c.in_ok-count.ensures.taken c.if-count-eq0.true (c.end.ensures.ran 65536 taken ended);
      bad = live_unended c.end.result known before end taken c.read_piece.new.chunk c.in_ok-count.count consumed c.in_ok-count.ensures.taken c.if-count-eq0.true (c.end.ensures.named 65536 taken ended);
    }

pub returns-in_err-arriving-clause-bad : goal.returns-in_err-arriving-clause-bad
returns-in_err-arriving-clause-bad g c =
    let known = g.R.Read.remaining c.args.reader.now in
    passes_on c.from_residual.result (λ fault. IfSome known (λ input. NamesLine (IsFirstBadSessionLine input) fault)) _ c.from_residual.ensures.1
    (names_no_line known IsFirstBadSessionLine _ c.in_err-arriving.ensures.named)

pub returns-in_err-count-clause-bad : goal.returns-in_err-count-clause-bad
returns-in_err-count-clause-bad g c =
    let known = g.R.Read.remaining c.args.reader.now in
    passes_on c.from_residual-in_err-count.result (λ fault. IfSome known (λ input. NamesLine (IsFirstBadSessionLine input) fault)) _ c.from_residual-in_err-count.ensures.1
    (names_no_line known IsFirstBadSessionLine _ c.in_err-count.ensures.named)

pub returns-in_err-take-clause-bad : goal.returns-in_err-take-clause-bad
returns-in_err-take-clause-bad g c =
    let (taken, consumed, arrived) = c.loop.invariant in
    let known = g.R.Read.remaining c.args.reader.now in
    let now = g.R.Read.remaining c.read_piece.new.reader in
    let piece = take c.in_ok-count.count c.read_piece.new.chunk in
    let room : IsRoomFor 65536 piece = (omega arith, c.in_ok-count.ensures.few) in
    passes_on c.from_residual-in_err-take.result (λ fault. IfSome known (λ input. NamesLine (IsFirstBadSessionLine input) fault)) _ c.from_residual-in_err-take.ensures.1
    (live_bad _ known now (taken ++ piece) _ (Consumes-trans known (g.R.Read.remaining c.loop.reader) now taken piece consumed c.in_ok-count.ensures.taken.0)
    (c.in_err-take.ensures.named 65536 taken room (subst (HasArrived 65536 taken) (sym c.deref_mut.ensures.value) arrived)))

pub loop-preserved : goal.loop-preserved
loop-preserved g c =
    let (taken, consumed, arrived) = c.loop.invariant in
    let piece = take c.in_ok-count.count c.read_piece.new.chunk in (
      taken ++ piece,
      Consumes-trans (g.R.Read.remaining c.args.reader.now) (g.R.Read.remaining c.loop.reader) (g.R.Read.remaining c.read_piece.new.reader) taken piece consumed c.in_ok-count.ensures.taken.0,
      c.in_ok-take.ensures.taken 65536 taken (omega arith, c.in_ok-count.ensures.few) (subst (HasArrived 65536 taken) (sym c.deref_mut.ensures.value) arrived),
    )
