use Rattle.std.proofs.Common.{ℕ, refl}
use Rattle.iom_script.specs.Words.{IsDevice}
use Rattle.iom_script.proofs.ReadsLemmas.{read_holds}
use Rattle.iom_trace_lines.proofs.TraceLemmas.{joins_line, joins_say}
use Rattle.iom_trace_lines.proofs.others.read_joins.Goals as goal

pub returns : goal.returns
returns c answered tables done =
    let how = c.in_ok-device.how.now in
    let word = c.in_ok-word.word.now in
    let device = (c.in_ok-device.ensures (c.in_ok-device.device, how)).0 refl in
    joins_say c.args.said.now answered c.in_ok-device.device c.in_ok-with.with c.in_ok-word.ats c.args.has_tables tables
    (joins_line c.args.said.now c.in_ok-words.words.now how c.in_ok-other.other.now word device.0 c.in_ok-device.device c.in_ok-with.with c.in_ok-word.ats
    c.in_ok-words.ensures device.1 device.2 c.in_ok-other.ensures
    (read_holds (λ (id : ℕ). IsDevice word id) c.in_ok-with.with c.in_ok-with.ensures) c.in_ok-word.ensures)
    done
