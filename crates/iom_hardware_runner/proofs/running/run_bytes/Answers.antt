use Rattle.std.proofs.Common.{◌≡◌, ℕ, [], arith, subst, sym}
use Rattle.std.proofs.KnownBytes.{Keeps-refl}
use Rattle.std.specs.Io.KnownBytes.{Keeps}
use Rattle.iom_hardware_runner.proofs.BadLineLemmas.{names_any, names_nothing, passes_on}
use Rattle.iom_hardware_runner.proofs.ReadLemmas.{script_explains, script_is_short, script_is_good, script_has_none, script_bad, end_has_none, end_bad}
use Rattle.iom_hardware_runner.proofs.RunLemmas.{on_ok}
use Rattle.iom_hardware_runner.specs.Parts.{HasArrived, IsRoomFor}
use Rattle.iom_hardware_runner.specs.Runs.{NamesLine}
use Rattle.iom_hardware_runner.specs.declared.arriving.Arriving.{Arriving}
use Rattle.iom_hardware_script.specs.Grammar.{IsFirstBadHardwareLine}
use Rattle.iom_hardware_runner.proofs.running.run_bytes.Goals as goal

pub returns-in_err-parse-clause-bad : goal.returns-in_err-parse-clause-bad
returns-in_err-parse-clause-bad g c =
    let bytes = c.args.bytes.now in
    passes_on c.from_residual.result (NamesLine (IsFirstBadHardwareLine bytes)) _ c.from_residual.ensures.1 (script_explains bytes _ c.in_err-parse.ensures.fault)

pub returns-in_err-parse-clause-unwritten : goal.returns-in_err-parse-clause-unwritten
returns-in_err-parse-clause-unwritten g c =
    let writer = g.W.Write.contents c.args.writer.now in
    let log = g.L.Write.contents c.args.log.now in
    passes_on c.from_residual.result (NamesLine (λ (number : ℕ). Keeps writer writer × Keeps log log)) _ c.from_residual.ensures.1
    (names_any (Keeps writer writer × Keeps log log) _ (Keeps-refl writer, Keeps-refl log))

pub returns-in_err-arriving-clause-bad : goal.returns-in_err-arriving-clause-bad
returns-in_err-arriving-clause-bad g c =
    let bytes = c.args.bytes.now in
    passes_on c.from_residual-in_err-arriving.result (NamesLine (IsFirstBadHardwareLine bytes)) _ c.from_residual-in_err-arriving.ensures.1
    (names_nothing (IsFirstBadHardwareLine bytes) _ c.in_err-arriving.ensures.named)

pub returns-in_err-arriving-clause-unwritten : goal.returns-in_err-arriving-clause-unwritten
returns-in_err-arriving-clause-unwritten g c =
    let writer = g.W.Write.contents c.args.writer.now in
    let log = g.L.Write.contents c.args.log.now in
    passes_on c.from_residual-in_err-arriving.result (NamesLine (λ (number : ℕ). Keeps writer writer × Keeps log log)) _ c.from_residual-in_err-arriving.ensures.1
    (names_any (Keeps writer writer × Keeps log log) _ (Keeps-refl writer, Keeps-refl log))

pub returns-in_err-take-clause-bad : goal.returns-in_err-take-clause-bad
returns-in_err-take-clause-bad g c =
    let bytes = c.args.bytes.now in
    let few = script_is_short bytes _ c.in_ok-parse.ensures.script in
    let room : IsRoomFor 1048576 bytes = (omega arith, few) in
    let arrived = subst (HasArrived 1048576 []) (sym c.deref_mut.ensures.value) (c.in_ok-arriving.ensures.arrived 1048576) in
    let empty = subst (λ (arriving : Arriving). arriving.piece.items ≡ []) (sym c.deref_mut.ensures.value) c.in_ok-arriving.ensures.empty in
    passes_on c.from_residual-in_err-take.result (NamesLine (IsFirstBadHardwareLine bytes)) _ c.from_residual-in_err-take.ensures.1
    (script_bad bytes _ _ empty few (c.in_err-take.ensures.named 1048576 [] room arrived))

pub returns-in_err-take-clause-unwritten : goal.returns-in_err-take-clause-unwritten
returns-in_err-take-clause-unwritten g c =
    let bytes = c.args.bytes.now in
    let kept = λ (number : ℕ). Keeps (g.W.Write.contents c.args.writer.now) (g.W.Write.contents c.take.new.writer) × Keeps (g.L.Write.contents c.args.log.now) (g.L.Write.contents c.take.new.log) in
    let few = script_is_short bytes _ c.in_ok-parse.ensures.script in
    let room : IsRoomFor 1048576 bytes = (omega arith, few) in
    let arrived = subst (HasArrived 1048576 []) (sym c.deref_mut.ensures.value) (c.in_ok-arriving.ensures.arrived 1048576) in
    let empty = subst (λ (arriving : Arriving). arriving.piece.items ≡ []) (sym c.deref_mut.ensures.value) c.in_ok-arriving.ensures.empty in
    passes_on c.from_residual-in_err-take.result (NamesLine kept) _ c.from_residual-in_err-take.ensures.1
    (script_has_none kept bytes _ (script_is_good bytes _ c.in_ok-parse.ensures.first)
    (script_bad bytes _ _ empty few (c.in_err-take.ensures.named 1048576 [] room arrived)))

pub returns-clause-ran : goal.returns-clause-ran
returns-clause-ran g c =
    let bytes = c.args.bytes.now in
    let room : IsRoomFor 1048576 bytes = (omega arith, script_is_short bytes _ c.in_ok-parse.ensures.script) in
    let arrived = subst (HasArrived 1048576 []) (sym c.deref_mut.ensures.value) (c.in_ok-arriving.ensures.arrived 1048576) in
    c.end.ensures.ran 1048576 bytes (subst (HasArrived 1048576 bytes) (sym c.deref.ensures) (c.in_ok-take.ensures.taken 1048576 [] room arrived))

pub returns-clause-bad : goal.returns-clause-bad
returns-clause-bad g c =
    let bytes = c.args.bytes.now in
    let few = script_is_short bytes _ c.in_ok-parse.ensures.script in
    let room : IsRoomFor 1048576 bytes = (omega arith, few) in
    let arrived = subst (HasArrived 1048576 []) (sym c.deref_mut.ensures.value) (c.in_ok-arriving.ensures.arrived 1048576) in
    end_bad c.end.result bytes few (c.end.ensures.named 1048576 bytes (subst (HasArrived 1048576 bytes) (sym c.deref.ensures) (c.in_ok-take.ensures.taken 1048576 [] room arrived)))

pub returns-clause-unwritten : goal.returns-clause-unwritten
returns-clause-unwritten g c =
    let kept = λ (number : ℕ). Keeps (g.W.Write.contents c.args.writer.now) (g.W.Write.contents c.take.new.writer) × Keeps (g.L.Write.contents c.args.log.now) (g.L.Write.contents c.take.new.log) in
    end_has_none kept c.end.result c.args.bytes.now (script_is_good c.args.bytes.now _ c.in_ok-parse.ensures.first) (returns-clause-bad g c)

pub returns-clause-short : goal.returns-clause-short
returns-clause-short g c = on_ok c.end.result (script_is_short c.args.bytes.now _ c.in_ok-parse.ensures.script)
