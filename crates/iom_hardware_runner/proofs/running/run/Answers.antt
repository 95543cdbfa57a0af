use Rattle.std.proofs.Common.{◌<◌, ◌≤◌, ℕ, List, IfOk, IfErr, IfSome, OnOk, arith, length, subst}
use Rattle.std.proofs.KnownBytes.{Keeps-refl}
use Rattle.std.specs.Io.KnownBytes.{Keeps}
use Rattle.iom_hardware_runner.specs.Runs.{ScriptRuns, NamesLine}
use Rattle.iom_hardware_runner.proofs.BadLineLemmas.{names_any, passes_on}
use Rattle.iom_hardware_runner.proofs.ReadLemmas.{whole_ran, whole_bad, read_names_none, names_no_line}
use Rattle.iom_hardware_script.specs.Grammar.{IsFirstBadHardwareLine}
use Rattle.iom_hardware_runner.proofs.running.run.Goals as goal

pub returns-in_err-bytes-clause-bad : goal.returns-in_err-bytes-clause-bad
returns-in_err-bytes-clause-bad g c =
    let known = g.R.Read.remaining c.args.reader.now in
    passes_on c.from_residual.result (λ fault. IfSome known (λ input. NamesLine (IsFirstBadHardwareLine input) fault)) _ c.from_residual.ensures.1
    (names_no_line known IsFirstBadHardwareLine _ (read_names_none (λ number. ⊥) _))

pub returns-in_err-bytes-clause-unwritten : goal.returns-in_err-bytes-clause-unwritten
returns-in_err-bytes-clause-unwritten g c =
    let writer = g.W.Write.contents c.args.writer.now in
    let log = g.L.Write.contents c.args.log.now in
    passes_on c.from_residual.result (NamesLine (λ (number : ℕ). Keeps writer writer × Keeps log log)) _ c.from_residual.ensures.1
    (names_any (Keeps writer writer × Keeps log log) _ (Keeps-refl writer, Keeps-refl log))

pub returns-clause-ran : goal.returns-clause-ran
returns-clause-ran g c =
    let less : 1048576 < 1048577 = omega arith in
    whole_ran c.run_bytes.result (g.R.Read.remaining c.args.reader.now) c.in_ok-bytes.bytes.items 1048577 1048576 c.in_ok-bytes.ensures.bytes less
    (subst (λ (l : List ℕ). IfOk c.run_bytes.result (ScriptRuns l)) c.deref.ensures.value c.run_bytes.ensures.ran)
    (subst (λ (l : List ℕ). OnOk c.run_bytes.result (length l ≤ 1048576)) c.deref.ensures.value c.run_bytes.ensures.short)

pub returns-clause-bad : goal.returns-clause-bad
returns-clause-bad g c =
    let less : 1048576 < 1048577 = omega arith in
    whole_bad c.run_bytes.result (g.R.Read.remaining c.args.reader.now) c.in_ok-bytes.bytes.items 1048577 c.in_ok-bytes.ensures.bytes less
    (subst (λ (l : List ℕ). IfErr c.run_bytes.result (NamesLine (IsFirstBadHardwareLine l))) c.deref.ensures.value c.run_bytes.ensures.bad)
