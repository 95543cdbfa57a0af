-- What a verdict says of a trace: that its text is the lines of a run of the ledger machine from power-on, or those before the line that it names are.
use Rattle.std.specs.Prelude.{◌≡◌, ℕ, ◌+◌, false, List, [], ◌∷◌, ◌++◌, All, Option, None, Some, MatchOption, length, ⊤}
use Rattle.iom_machine.specs.Machine.{Run}
use Rattle.iom_machine.specs.PowerOn.{opening}
use Rattle.iom_machine.specs.Reclaim.{Reclaims}
use Rattle.iom_script.specs.declared.script.WorldSize.{WorldSize}
use Rattle.iom_script.specs.Grammar.{spoken, bytes_of_lines}
use Rattle.iom_script.specs.Words.{IsWithout}
use Rattle.iom_trace_lines.specs.TraceLines.{Said, SaysLine, World}
use Rattle.iom_trace_lines.specs.WorldLimits.{limits_of}
use Rattle.iom_trace_lines.specs.declared.trace.WorldLimits.{WorldLimits}
use Rattle.iom_judge.specs.Happenings.{Happening, HappenInTurn, Tells, events_of, outcomes_of}
use Rattle.iom_judge.specs.TraceStates.{TraceState}
use Rattle.iom_judge.specs.declared.verdict.Verdict.{Verdict}
use Rattle.iom_judge.specs.declared.verdict.Verdict.TheVariants.{Lawful, Stops}

-- the line that it names, if it names one: the first that isn't certified to be lawful
abbrev pub named_line : Verdict → Option ℕ
named_line Lawful = None
named_line (Stops line finding) = Some line

-- the numbers of the disks that a world has at power-on
abbrev pub four_disks : List ℕ
four_disks = 0 ∷ 1 ∷ 2 ∷ 3 ∷ []

-- power-on of a world of this size, with these limits, when nothing was given away, and no domain is shared
abbrev pub opening_of : WorldSize → WorldLimits → TraceState
opening_of size limits =
    record {
      machine = opening (limits_of limits) size.frames size.levels four_disks;
      is_given = λ frame. false;
      takes_back = false;
      first_with = λ device. None;
    }

-- the line says that this happened
abbrev pub SaysHappened : List ℕ → List Happening → Type 0
SaysHappened line happened = (said : Said) × (tables : List ℕ) × SaysLine line said tables × Tells said tables happened

-- the lines say that this happened, each its own part
abbrev pub SayHappened : List (List ℕ) → List Happening → Type 0
SayHappened [] happened = happened ≡ []
SayHappened (line ∷ lines) happened =
    (own later : List Happening) × (happened ≡ own ++ later) × SaysHappened line own × SayHappened lines later

-- The lines say what happened in a trace from power-on of a world of this size, with these limits: with what they show chosen so, its events are a run of
-- the ledger machine, and the sentences of the headline hold of it.
pub record AreOfRun (size : WorldSize) (limits : WorldLimits) (lines : List (List ℕ)) : Type 0 where
  pub happened : List Happening
  pub say : SayHappened lines happened
  pub last : TraceState
  pub happen : HappenInTurn (opening_of size limits) happened last
  pub run : Run (opening_of size limits).machine (events_of happened) (outcomes_of happened) last.machine
  pub reclaims : Reclaims (opening_of size limits).machine (events_of happened) (outcomes_of happened) last.machine run

-- Lines that all say something are lawful: none of them, or one that says how large the world is and which limits it has, and then those of a run.
abbrev pub AreLawfulLines : List (List ℕ) → Type 0
AreLawfulLines [] = ⊤
AreLawfulLines (line ∷ lines) = (size : WorldSize) × (limits : WorldLimits) × SaysLine line (World size limits) [] × AreOfRun size limits lines

-- The text is lines, each ended by its line feed, and those that say something are lawful.
pub record IsLawfulTrace (text : List ℕ) : Type 0 where
  pub lines : List (List ℕ)
  pub whole : All (IsWithout 10) lines
  pub is_text : text ≡ bytes_of_lines lines
  pub lawful : AreLawfulLines (spoken lines)

-- The text begins with the lines before the one with this number, counted from 1, and they are a lawful trace of their own.
pub record IsLawfulBefore (line : ℕ) (text : List ℕ) : Type 0 where
  pub lines : List (List ℕ)
  pub rest : List ℕ
  pub is_text : text ≡ bytes_of_lines lines ++ rest
  pub next : line ≡ length lines + 1
  pub before : IsLawfulTrace (bytes_of_lines lines)

-- What the verdict says of the text is so: that it is a lawful trace, or that the lines before the one that it names are.
abbrev pub IsSoOf : Verdict → List ℕ → Type 0
IsSoOf verdict text = MatchOption (named_line verdict) (IsLawfulTrace text) (λ line. IsLawfulBefore line text)
