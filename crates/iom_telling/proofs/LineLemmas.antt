-- Lines of a script that are told, one after another, and what of them is written in the end.
use Rattle.std.proofs.Common.{◌≡◌, ◌+◌, ◌<◌, ◌++◌, ◌∙◌, ℕ, List, [], ◌∷◌, length, take, get_or, Option, None, Some, Result, refl, sym, ap, subst, subst₂, take_all, arith}
use Rattle.std.proofs.lemmas.List.{take_more}
use Rattle.std.specs.Io.KnownBytes.{Appends}
use Rattle.std.proofs.KnownBytes.{Appends-nil}
use Rattle.iom_base.specs.declared.refusal.Refusal.{Refusal}
use Rattle.iom_line_writer.specs.declared.writing.LineWriter.{LineWriter}
use Rattle.iom_line_writer.specs.Writing.{AppendsFront, AppendsPart, KeepsWriter, TakesText}
use Rattle.iom_line_writer.proofs.WritingLemmas.{all_written, part-front, part_written}
use Rattle.iom_machine.specs.declared.event.Event.{Event}
use Rattle.iom_machine.specs.declared.outcome.Outcome.{Outcome}
use Rattle.iom_script.specs.declared.script.ScriptLine.{ScriptLine}
use Rattle.iom_script.specs.declared.script.ScriptLine.TheVariants as says
use Rattle.iom_settling.specs.Stages.{Settled}
use Rattle.iom_virtio_blk.specs.declared.disk.Disk.{Ghosts}
use Rattle.iom_virtio_blk.specs.DiskStates.{DiskState}
use Rattle.iom_world.specs.Shown.{parts_of, shown_of}
use Rattle.iom_telling.specs.declared.fault.TellingFault.{TellingFault}
use Rattle.iom_telling.specs.declared.teller.Teller.{Teller}
use Rattle.iom_telling.specs.Scripts.{Telling, TellsLine, TellsLines}
use Rattle.iom_telling.specs.Tellers.{BeginsAll, BeginsRun, BeginsText, GoesByLine, GoesByLines, HasTold, TellerTakes, telling_of, WritesAll, WritesRun}
use Rattle.iom_telling.proofs.TellingLemmas.{settled_told, told_more}

-- AN EVENT is told
pub event_told : {W D : Type 0} {d : Ghosts D} (contents : W → Option (List ℕ)) (shown : D → DiskState) (old new : Teller W D d) (event : Event) (outcome : Outcome)
    → TellerTakes contents shown old event outcome new → GoesByLine contents shown old (says.Event event) new
event_told {W} contents shown old new event outcome takes = λ (first : LineWriter W) (text : List ℕ) told. (
  text ++ takes.line,
  (outcome, record { happens = takes.happens; line = takes.line; told = takes.told; text = refl; explains = takes.explains }),
  told_more contents first old.lines new.lines text takes.line old.fault new.fault told takes.goes,
)

-- A SETTLING is told
pub settling_told : {W D : Type 0} {d : Ghosts D} (contents : W → Option (List ℕ)) (shown : D → DiskState) (old new : Teller W D d) (answer : Result ℕ Refusal)
    → Settled (λ (t : Teller W D d). parts_of t.world) (TellerTakes contents shown) old answer new → GoesByLine contents shown old says.Settle new
settling_told {W} contents shown old new answer settled = λ (first : LineWriter W) (text : List ℕ) told.
    let all = settled_told contents shown first old new answer text told settled in (all.0, (answer, all.1), all.2)

-- one line more
lines_more : (old mid new : Telling) (lines : List ScriptLine) (line : ScriptLine) → TellsLines old lines mid → TellsLine mid line new → TellsLines old (lines ++ line ∷ []) new
lines_more old mid new [] line same tells = (new, subst (λ (t : Telling). TellsLine t line new) same tells, refl)
lines_more old mid new (first ∷ lines) line (next, told, rest) tells = (next, told, lines_more next mid new lines line rest tells)

-- the lines up to one and it are the first lines with one more
first_lines : (lines : List ScriptLine) (i : ℕ) (line : ScriptLine) → line ≡ get_or lines i line → i < length lines → take i lines ++ line ∷ [] ≡ take (i + 1) lines
first_lines lines i line is lt = ap (λ (l : ScriptLine). take i lines ++ l ∷ []) is ∙ sym (take_more lines i line lt)

-- no line yet
pub goes_none : {W D : Type 0} {d : Ghosts D} (contents : W → Option (List ℕ)) (shown : D → DiskState) (old : Teller W D d) → GoesByLines contents shown old [] old
goes_none contents shown old = λ first text told. (text, refl, told)

-- the teller goes on by one more
pub goes_more : {W D : Type 0} {d : Ghosts D} (contents : W → Option (List ℕ)) (shown : D → DiskState) (old mid new : Teller W D d) (lines : List ScriptLine) (i : ℕ) (line : ScriptLine)
    → GoesByLines contents shown old (take i lines) mid → line ≡ get_or lines i line → i < length lines → GoesByLine contents shown mid line new
    → GoesByLines contents shown old (take (i + 1) lines) new
goes_more {W} contents shown old mid new lines i line so_far is lt goes = λ (first : LineWriter W) (text : List ℕ) told.
    let here = so_far first text told in
    let next = goes first here.0 here.2 in (
      next.0,
      subst (λ (l : List ScriptLine). TellsLines (telling_of shown old text) l (telling_of shown new next.0)) (first_lines lines i line is lt)
          (lines_more (telling_of shown old text) (telling_of shown mid here.0) (telling_of shown new next.0) (take i lines) line here.1 next.1),
      next.2,
    )

-- ALL THAT WAS TOLD IS WRITTEN OUT
pub writes_all : {W D : Type 0} {d : Ghosts D} (contents : W → Option (List ℕ)) (shown : D → DiskState) (old mid : Teller W D d) (after : LineWriter W) (lines : List ScriptLine)
    → old.fault ≡ None → mid.fault ≡ None → GoesByLines contents shown old lines mid → KeepsWriter mid.lines after
    → Appends (contents mid.lines.writer.now) (contents after.writer.now) mid.lines.buffer → WritesAll contents shown old lines (record mid { lines = after })
writes_all {W} contents shown old mid after lines fresh still goes same wrote = λ (first : LineWriter W) (text : List ℕ) empty took.
    let here = goes first text (subst (λ (f : Option TellingFault). HasTold contents first text f old.lines) (sym fresh) took) in
    let all : TakesText contents first here.0 mid.lines = subst (λ (f : Option TellingFault). HasTold contents first here.0 f mid.lines) still here.2 in
    ((same.0 ∙ all.0.0, same.1 ∙ all.0.1), here.0, here.1, all_written contents first mid.lines (contents after.writer.now) here.0 empty all wrote)

-- or a part
pub begins_part : {W D : Type 0} {d : Ghosts D} (contents : W → Option (List ℕ)) (shown : D → DiskState) (old mid : Teller W D d) (after : LineWriter W) (lines : List ScriptLine)
    → old.fault ≡ None → mid.fault ≡ None → GoesByLines contents shown old lines mid → KeepsWriter mid.lines after
    → AppendsPart (contents mid.lines.writer.now) (contents after.writer.now) mid.lines.buffer → BeginsAll contents shown old lines (record mid { lines = after })
begins_part {W} contents shown old mid after lines fresh still goes same wrote = λ (first : LineWriter W) (text : List ℕ) empty took.
    let here = goes first text (subst (λ (f : Option TellingFault). HasTold contents first text f old.lines) (sym fresh) took) in
    let all : TakesText contents first here.0 mid.lines = subst (λ (f : Option TellingFault). HasTold contents first here.0 f mid.lines) still here.2 in (
      (same.0 ∙ all.0.0, same.1 ∙ all.0.1),
      length lines,
      here.0,
      subst (λ (l : List ScriptLine). TellsLines (telling_of shown old text) l (telling_of shown mid here.0)) (sym (take_all (length lines) lines (omega arith))) here.1,
      part-front _ _ here.0 (part_written contents first mid.lines (contents after.writer.now) here.0 empty all wrote),
    )

-- something failed at one of the first lines
pub begins_first : {W D : Type 0} {d : Ghosts D} (contents : W → Option (List ℕ)) (shown : D → DiskState) (old new : Teller W D d) (lines : List ScriptLine) (fault : TellingFault) (count : ℕ)
    → old.fault ≡ None → new.fault ≡ Some fault → GoesByLines contents shown old (take count lines) new → BeginsAll contents shown old lines new
begins_first {W} contents shown old new lines fault count fresh failed goes = λ (first : LineWriter W) (text : List ℕ) empty took.
    let here = goes first text (subst (λ (f : Option TellingFault). HasTold contents first text f old.lines) (sym fresh) took) in
    let began : BeginsText contents first here.0 new.lines = subst (λ (f : Option TellingFault). HasTold contents first here.0 f new.lines) failed here.2 in (
      began.0,
      count,
      here.0,
      here.1,
      subst (λ (b : List ℕ). AppendsFront (contents first.writer.now) (contents new.lines.writer.now) (b ++ here.0)) empty began.1,
    )

-- a sink with an empty buffer took what stands in the buffer
pub starts : {W : Type 0} (contents : W → Option (List ℕ)) (lines : LineWriter W) → TakesText contents (record lines { buffer = [] }) lines.buffer lines
starts contents lines = ((refl, refl), [], Appends-nil (contents lines.writer.now), refl)

-- the same without the teller; and the writer is the same
pub run_writes : {W D : Type 0} {d : Ghosts D} (contents : W → Option (List ℕ)) (shown : D → DiskState) (old new : Teller W D d) (lines : List ScriptLine) → WritesAll contents shown old lines new
    → KeepsWriter old.lines new.lines × WritesRun (shown_of shown old.world) old.explains old.lines.buffer lines (contents old.lines.writer.now) (contents new.lines.writer.now)
run_writes contents shown old new lines all =
    let here = all (record old.lines { buffer = [] }) old.lines.buffer refl (starts contents old.lines) in
    (here.0, (telling_of shown new here.1, here.2, here.3))

pub run_begins : {W D : Type 0} {d : Ghosts D} (contents : W → Option (List ℕ)) (shown : D → DiskState) (old new : Teller W D d) (lines : List ScriptLine) → BeginsAll contents shown old lines new
    → KeepsWriter old.lines new.lines × BeginsRun (shown_of shown old.world) old.explains old.lines.buffer lines (contents old.lines.writer.now) (contents new.lines.writer.now)
run_begins contents shown old new lines all =
    let here = all (record old.lines { buffer = [] }) old.lines.buffer refl (starts contents old.lines) in
    (here.0, (here.1, telling_of shown new here.2, here.3, here.4))

-- what is told by way of a writer, where the writer began and ended so
pub told_by : {W : Type 0} (contents : W → Option (List ℕ)) (Tells : Option (List ℕ) → Option (List ℕ) → Type 0) (old start end new : W) → start ≡ old → end ≡ new
    → Tells (contents start) (contents end) → Tells (contents old) (contents new)
told_by contents Tells old start end new from to told = subst₂ (λ a b. Tells (contents a) (contents b)) from to told
