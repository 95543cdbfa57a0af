-- What is certified of a trace before its end, line after line.
-- For the judge's own functions alone; no public contract cites these.
use Rattle.std.specs.Prelude.{◌≡◌, ◌≢◌, ◌<◌, ℕ, Bool, true, false, List, [], ◌∷◌, map, Option, None, Some, IfSome, IsSomeAnd, IsTrue, length, is_some, nat_eq, ⊤}
use Rattle.std.specs.Option.{option_copied, option_map_or}
use Rattle.indexmap.specs.IndexMap.{get}
use Rattle.iom_base.specs.declared.grant_rights.GrantRights.{GrantRights}
use Rattle.iom_kept_state.specs.Grants.{IsPastOf}
use Rattle.iom_kept_state.specs.States.{state_of}
use Rattle.iom_ledger.specs.History.{History}
use Rattle.iom_machine.specs.declared.choice.Choice.{Choice}
use Rattle.iom_machine.specs.declared.event.Event.{Event}
use Rattle.iom_machine.specs.declared.event.Event.TheVariants as events
use Rattle.iom_machine.specs.declared.outcome.Outcome.{Outcome}
use Rattle.iom_machine.specs.declared.outcome.Outcome.TheVariants as outcomes
use Rattle.iom_script.specs.declared.script.WorldSize.{WorldSize}
use Rattle.iom_script.specs.Grammar.{is_spoken, spoken}
use Rattle.iom_trace_lines.specs.Taken.{HasTaken}
use Rattle.iom_trace_lines.specs.TraceLines.{Said, SaysLine, Nothing, World}
use Rattle.iom_trace_lines.specs.declared.trace.WorldLimits.{WorldLimits}
use Rattle.iom_judge.specs.Certificates.{named_line, opening_of, SayHappened}
use Rattle.iom_judge.specs.Happenings.{Happening, Comes, CameAtEach, CameInTurn, HappenInTurn, Tells, tables_chosen}
use Rattle.iom_judge.specs.TraceStates.{TraceState}
use Rattle.iom_judge.specs.declared.changes.Change.{Change}
use Rattle.iom_judge.specs.declared.choosing.Shown.{Shown}
use Rattle.iom_judge.specs.declared.choosing.Tables.{Tables}
use Rattle.iom_judge.specs.declared.choosing.Tables.TheVariants.{Own, OfAnother}
use Rattle.iom_judge.specs.declared.domains.Domains.{Domains}
use Rattle.iom_judge.specs.declared.handed.Handed.{Handed}
use Rattle.iom_judge.specs.declared.judging.Judge.{Judge}
use Rattle.iom_judge.specs.declared.machine.TraceMachine.{TraceMachine}
use Rattle.iom_judge.specs.declared.verdict.Verdict.{Verdict}

-- whether the frame was given to somebody else, and isn't taken back
abbrev pub is_given : Handed → ℕ → Bool
is_given handed frame = is_some (get nat_eq handed.frames frame)

-- the first device of the domain that the device has, where that is another device
abbrev pub first_in : Domains → ℕ → Option ℕ
first_in domains device = get nat_eq domains.firsts device

-- the state of the machine of a trace that has this history
abbrev pub trace_state : TraceMachine → History → TraceState
trace_state machine history = record {
  machine = state_of machine.kept history;
  is_given = is_given machine.handed;
  takes_back = machine.handed.takes_back;
  first_with = first_in machine.domains;
}

-- It is the machine at power-on of a world of this size, with these limits.
pub record IsOpened (size : WorldSize) (limits : WorldLimits) (machine : TraceMachine) : Type 0 where
  pub is_past : IsPastOf machine.kept.grants []
  pub state : state_of machine.kept [] ≡ (opening_of size limits).machine
  pub given : (frame : ℕ) → is_given machine.handed frame ≡ false
  pub takes_back : machine.handed.takes_back ≡ false
  pub own : (device : ℕ) → first_in machine.domains device ≡ None

-- There is a past of what is kept, and the state that has it is where what the lines say leads from power-on.
pub record IsCertifiedBy (machine : TraceMachine) (size : WorldSize) (limits : WorldLimits) (lines : List (List ℕ)) : Type 0 where
  pub happened : List Happening
  pub say : SayHappened lines happened
  pub past : History
  pub is_past : IsPastOf machine.kept.grants past
  pub happen : HappenInTurn (opening_of size limits) happened (trace_state machine past)

-- Lines that all say something certify the machine that is kept: none of them, where there is none yet, or one that says how large the world is and which
-- limits it has, and then others.
abbrev pub Certify : Option TraceMachine → List (List ℕ) → Type 0
Certify None [] = ⊤
Certify (Some machine) (line ∷ lines) =
    (size : WorldSize) × (limits : WorldLimits) × SaysLine line (World size limits) [] × IsCertifiedBy machine size limits lines
Certify _ _ = ⊥

-- The judge has taken the lines, and counted them: what it keeps is certified by them.
pub record HasTakenAll (judge : Judge) (lines : List (List ℕ)) : Type 0 where
  pub certified : Certify judge.machine (spoken lines)
  pub counted : judge.line ≡ length lines

-- What is kept after this happened is what the machine of the trace comes to by it, from each past of what was kept before.
abbrev pub Continues : TraceMachine → List Happening → TraceMachine → Type 0
Continues old happened new =
    (history : History) → IsPastOf old.kept.grants history
    → (now : History) × IsPastOf new.kept.grants now × HappenInTurn (trace_state old history) happened (trace_state new now)

-- it goes on by what is told by who says this, with these frames of tables beside
abbrev pub ContinuesAs : TraceMachine → Said → List ℕ → TraceMachine → Type 0
ContinuesAs old said tables new = (happened : List Happening) × Tells said tables happened × Continues old happened new

-- it goes on by that, or stays as it is where nothing is said
abbrev pub Follows : TraceMachine → Said → List ℕ → TraceMachine → Type 0
Follows old Nothing tables new = new ≡ old
Follows old said tables new = ContinuesAs old said tables new

-- it begins with the world of which this is said, or there is none yet, and nothing is said
abbrev pub Begins : Said → Option TraceMachine → Option TraceMachine → Type 0
Begins Nothing old new = new ≡ old
Begins (World size limits) old new = IsSomeAnd new (IsOpened size limits)
Begins _ old new = ⊥

-- it goes on by an event, of which this came, where what the outcome doesn't show was chosen so
abbrev pub ContinuesBy : TraceMachine → Event → Outcome → Choice → TraceMachine → Type 0
ContinuesBy old event outcome choice new = (happened : List Happening) × Comes event outcome choice happened × Continues old happened new

-- it goes on by so many changes at so many pages, and they took these tables, where they are shown
abbrev pub ContinuesAtEach : TraceMachine → ℕ → Change → Outcome → ℕ → Bool → List ℕ → TraceMachine → Type 0
ContinuesAtEach old device first outcome count has_tables tables new =
    (taken : List ℕ) × (happened : List Happening) × CameAtEach device first outcome count taken happened
    × (0 < count → IsTrue has_tables → taken ≡ tables) × Continues old happened new

-- it goes on by grants to the device, which take no tables
abbrev pub ContinuesByHeld : TraceMachine → ℕ → TraceMachine → Type 0
ContinuesByHeld old device new =
    (pages : List (ℕ × ℕ × GrantRights)) × (grants : List Happening)
    × CameInTurn (map (λ page. events.Grant device page.0 page.1 page.2) pages) outcomes.Done grants × Continues old grants new

-- It names the line with this number.
abbrev pub Names : ℕ → Verdict → Type 0
Names line verdict = named_line verdict ≡ Some line

-- The judge has taken some lines of the text that there was first, and this is left.
abbrev pub HasJudged : Judge → Option (List ℕ) → Option (List ℕ) → Type 0
HasJudged judge first now =
    (lines : List (List ℕ)) × HasTaken lines judge.lines.buffer.items judge.lines.start judge.lines.end first now × HasTakenAll judge lines

-- This is what the line says, with the frames of its tables beside; and where it says something, it is one of those that do.
abbrev pub IsReadOf : List ℕ → Said → List ℕ → Type 0
IsReadOf line said tables = SaysLine line said tables × (said ≢ Nothing → is_spoken line ≡ true)

-- which frames are shown as tables are those that were chosen; a device with another's tables takes none of its own
abbrev pub ShowsTables : Tables → Event → Choice → Type 0
ShowsTables (Own tables) event choice = IfSome tables (λ it. tables_chosen event choice ≡ it.now)
ShowsTables (OfAnother pages) event choice = (choice.taken ≡ []) × IfSome pages (λ it. choice.directory ≡ it.now)

-- with the access that a step began for the chosen one, where it is shown
abbrev pub with_begun : Shown → Choice → Choice
with_begun shown choice = record choice { access = option_map_or (λ access. access) (option_copied shown.began) choice.access }

-- what is shown is what was chosen, but for an access
pub record ShowsRest (shown : Shown) (event : Event) (choice : Choice) : Type 0 where
  pub tables_taken : ShowsTables shown.tables event choice
  pub frame : IfSome shown.on (λ frame. choice.frame ≡ frame)
  pub returned : choice.returned ≡ shown.freed.now

-- what is shown is what was chosen
pub record ShowsChoice (shown : Shown) (event : Event) (choice : Choice) : Type 0 where
  pub tables_taken : ShowsTables shown.tables event choice
  pub frame : IfSome shown.on (λ frame. choice.frame ≡ frame)
  pub access : IfSome (option_copied shown.began) (λ access. choice.access ≡ access)
  pub returned : choice.returned ≡ shown.freed.now
