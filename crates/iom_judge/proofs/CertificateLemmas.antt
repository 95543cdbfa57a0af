-- A run grows with each line, and what is certified with it.
use Rattle.std.proofs.Common.{◌≡◌, ◌≢◌, ◌∙◌, ◌<◌, ℕ, ◌+◌, ◌&&◌, ◌||◌, Bool, true, false, not, nat_eq, List, [], ◌∷◌, ◌++◌, if◌then◌else◌, Option, None, Some, Result, Ok, Err, IfSome, IsSomeAnd, OnOk, IsTrue, refl, sym, ap, subst, append-nil, append_assoc, length, suc, zero, arith}
use Rattle.std.specs.Option.{option_map_or}
use Rattle.iom_base.specs.declared.access.Access.{Access}
use Rattle.std.proofs.lemmas.List.Elements.{All-nil, filter-append}
use Rattle.std.proofs.KnownBytes.{Consumes-nil}
use Rattle.iom_kept_state.specs.Grants.{IsPastOf}
use Rattle.iom_kept_state.specs.States.{state_of, Leaves}
use Rattle.iom_kept_state.specs.declared.state.KeptState.{KeptState}
use Rattle.iom_machine.specs.declared.choice.Choice.{Choice}
use Rattle.iom_machine.specs.declared.event.Event.{Event}
use Rattle.iom_machine.specs.declared.event.Event.TheVariants as events
use Rattle.iom_machine.specs.declared.outcome.Outcome.TheVariants as outcomes
use Rattle.iom_machine.specs.declared.outcome.Outcome.{Outcome}
use Rattle.iom_machine.specs.declared.state.State.{State}
use Rattle.iom_machine.specs.Machine as machine
use Rattle.iom_machine.proofs.ReclaimLemmas.{reclaims}
use Rattle.iom_script.specs.declared.script.WorldSize.{WorldSize}
use Rattle.iom_script.specs.Grammar.{is_spoken, spoken, bytes_of_lines}
use Rattle.iom_script.specs.Words.{IsWithout}
use Rattle.iom_trace_lines.specs.Taken.{AreLines, BufferHolds, HasTaken}
use Rattle.iom_trace_lines.specs.TraceLines.{Said, SaysLine, Nothing, World, Step, Made, Grants, Joins, Releases, Handoff, Take, TablesFreed, Bad}
use Rattle.iom_trace_lines.specs.WorldLimits.{limits_of}
use Rattle.iom_trace_lines.specs.declared.trace.WorldLimits.{WorldLimits}
use Rattle.iom_judge.specs.Certificates.{four_disks, opening_of, SaysHappened, SayHappened, AreOfRun, AreLawfulLines, IsLawfulTrace, IsSoOf}
use Rattle.iom_judge.specs.Certified.{first_in, is_given, trace_state, Begins, IsCertifiedBy, IsOpened, IsReadOf, Certify, Continues, ContinuesAs, Follows, HasJudged, HasTakenAll, Names, with_begun, ShowsTables}
use Rattle.iom_judge.specs.declared.choosing.Shown.{Shown}
use Rattle.iom_judge.specs.declared.choosing.Tables.{Tables}
use Rattle.iom_judge.specs.declared.choosing.Tables.TheVariants.{Own, OfAnother}
use Rattle.iom_judge.specs.Happenings.{Happening, Came, GivenAway, TakenBack, Joined, Shared, Comes, CameAtEach, Happens, HappenInTurn, behind, event_of, events_of, outcomes_of, is_used, tables_chosen}
use Rattle.iom_judge.specs.Sharing.{is_this, own_domain, tables_end, NoneWalks}
use Rattle.iom_judge.specs.TraceStates.{TraceState}
use Rattle.iom_judge.specs.declared.changes.Change.{Change}
use Rattle.iom_judge.specs.declared.changes.Change.TheVariants.{Grant, Release}
use Rattle.iom_judge.specs.declared.domains.Domains.{Domains}
use Rattle.iom_judge.specs.declared.handed.Handed.{Handed}
use Rattle.iom_ledger.specs.History.{History}
use Rattle.iom_judge.specs.declared.judging.Judge.{Judge}
use Rattle.iom_judge.specs.declared.machine.TraceMachine.{TraceMachine}
use Rattle.iom_judge.specs.declared.verdict.Verdict.{Verdict}

-- what happened, and more behind it
happen_on : (old : TraceState) (happened : List Happening) (mid : TraceState) (later : List Happening) (new : TraceState)
    → HappenInTurn old happened mid → HappenInTurn mid later new → HappenInTurn old (happened ++ later) new
happen_on old [] mid later new first rest = subst (λ (s : TraceState). HappenInTurn s later new) first rest
happen_on old (h ∷ hs) mid later new (next, effect, others) rest = (next, effect, happen_on next hs mid later new others rest)

-- what happened is a run of the ledger machine
run_of : (old : TraceState) (happened : List Happening) (new : TraceState) → HappenInTurn old happened new
    → machine.Run old.machine (events_of happened) (outcomes_of happened) new.machine
run_of old [] new unchanged = ap (λ (s : TraceState). s.machine) unchanged
run_of old (Came event outcome choice ∷ others) new (mid, comes, rest) = (mid.machine, (choice, comes.step), run_of mid others new rest)
run_of old (GivenAway frame ∷ others) new (mid, given, rest) =
    subst (λ (s : State). machine.Run s (events_of others) (outcomes_of others) new.machine) given.0.0 (run_of mid others new rest)
run_of old (TakenBack frame ∷ others) new (mid, taken, rest) =
    subst (λ (s : State). machine.Run s (events_of others) (outcomes_of others) new.machine) taken.1.0 (run_of mid others new rest)
run_of old (Joined device with ∷ others) new (mid, joined, rest) =
    subst (λ (s : State). machine.Run s (events_of others) (outcomes_of others) new.machine) joined.machine (run_of mid others new rest)
run_of old (Shared device devices ∷ others) new (mid, shared, rest) =
    subst (λ (s : TraceState). machine.Run s.machine (events_of others) (outcomes_of others) new.machine) shared.1 (run_of mid others new rest)

-- more happened
pub continues_further : (old mid new : TraceMachine) (happened later : List Happening) → Continues old happened mid → Continues mid later new
    → Continues old (happened ++ later) new
continues_further old mid new happened later first rest =
    λ history past. let half = first history past in let whole = rest half.0 half.1 in
    (whole.0, whole.1, happen_on (trace_state old history) happened (trace_state mid half.0) later (trace_state new whole.0) half.2 whole.2)

-- one line more that says what happened
says_more : (lines : List (List ℕ)) (line : List ℕ) (happened own : List Happening) → SayHappened lines happened → SaysHappened line own
    → SayHappened (lines ++ line ∷ []) (happened ++ own)
says_more [] line happened own say says = (own, [], ap (λ (l : List Happening). l ++ own) say ∙ sym (append-nil own), says, refl)
says_more (l ∷ ls) line happened own (first, later, are, says_first, rest) says =
    (first, later ++ own, ap (λ (l : List Happening). l ++ own) are ∙ append_assoc first later own, says_first, says_more ls line later own rest says)

-- one line more that says something
spoken_more : (lines : List (List ℕ)) (line : List ℕ) → is_spoken line ≡ true → spoken (lines ++ line ∷ []) ≡ spoken lines ++ line ∷ []
spoken_more lines line says = filter-append is_spoken lines (line ∷ []) ∙ ap (λ (l : List (List ℕ)). spoken lines ++ l) (rw says refl)

-- one more that says nothing
spoken_same : (lines : List (List ℕ)) (line : List ℕ) → is_spoken line ≡ false → spoken (lines ++ line ∷ []) ≡ spoken lines
spoken_same lines line says = filter-append is_spoken lines (line ∷ []) ∙ ap (λ (l : List (List ℕ)). spoken lines ++ l) (rw says refl) ∙ append-nil (spoken lines)

-- what is certified goes on being so
certify_more : (old new : TraceMachine) (lines : List (List ℕ)) (line : List ℕ) (happened : List Happening) → Certify (Some old) lines
    → SaysHappened line happened → Continues old happened new → Certify (Some new) (lines ++ line ∷ [])
certify_more old new [] line happened never says goes = absurd never
certify_more old new (first ∷ rest) line happened (size, limits, opens, by) says goes =
    let next = goes by.past by.is_past in (
      size,
      limits,
      opens,
      record {
        happened = by.happened ++ happened;
        say = says_more rest line by.happened happened by.say says;
        past = next.0;
        is_past = next.1;
        happen = happen_on (opening_of size limits) by.happened (trace_state old by.past) happened (trace_state new next.0) by.happen next.2;
      },
    )

-- after a line that says nothing
nothing_said : (found : Option TraceMachine) (lines : List (List ℕ)) (line : List ℕ) → is_spoken line ≡ false → Certify found (spoken lines)
    → Certify found (spoken (lines ++ line ∷ []))
nothing_said found lines line says before = subst (λ (l : List (List ℕ)). Certify found l) (sym (spoken_same lines line says)) before

-- after one that says what happened
happened_said : (old new : TraceMachine) (lines : List (List ℕ)) (line tables : List ℕ) (said : Said) → said ≢ Nothing → IsReadOf line said tables
    → ContinuesAs old said tables new → Certify (Some old) (spoken lines) → Certify (Some new) (spoken (lines ++ line ∷ []))
happened_said old new lines line tables said something (says, spoken_line) (happened, tells, went) before =
    subst (λ (l : List (List ℕ)). Certify (Some new) l) (sym (spoken_more lines line (spoken_line something)))
    (certify_more old new (spoken lines) line happened before (said, tables, says, tells) went)

-- after one that the machine follows
pub followed : (old new : TraceMachine) (lines : List (List ℕ)) (line tables : List ℕ) (said : Said) → IsReadOf line said tables
    → Follows old said tables new → Certify (Some old) (spoken lines) → Certify (Some new) (spoken (lines ++ line ∷ []))
followed old new lines line tables Nothing read follows before =
    subst (λ (m : TraceMachine). Certify (Some m) (spoken (lines ++ line ∷ []))) (sym follows) (nothing_said (Some old) lines line read.0 before)
followed old new lines line tables (World size limits) read follows before = absurd follows.1
followed old new lines line tables (Step e o h n b) read follows before = happened_said old new lines line tables (Step e o h n b) (λ e. cc) read follows before
followed old new lines line tables (Made d r) read follows before = happened_said old new lines line tables (Made d r) (λ e. cc) read follows before
followed old new lines line tables (Grants d p c f r h) read follows before =
    happened_said old new lines line tables (Grants d p c f r h) (λ e. cc) read follows before
followed old new lines line tables (Joins d w a h) read follows before = happened_said old new lines line tables (Joins d w a h) (λ e. cc) read follows before
followed old new lines line tables (Releases d p c t) read follows before =
    happened_said old new lines line tables (Releases d p c t) (λ e. cc) read follows before
followed old new lines line tables (Handoff f) read follows before = happened_said old new lines line tables (Handoff f) (λ e. cc) read follows before
followed old new lines line tables (Take f) read follows before = happened_said old new lines line tables (Take f) (λ e. cc) read follows before
followed old new lines line tables TablesFreed read follows before = happened_said old new lines line tables TablesFreed (λ e. cc) read follows before
followed old new lines line tables Bad read follows before = absurd follows.1

-- the machine at power-on
opens : (size : WorldSize) (limits : WorldLimits) (machine : TraceMachine) → IsOpened size limits machine → trace_state machine [] ≡ opening_of size limits
opens size limits machine is =
    λ i. record { machine = is.state i; is_given = λ frame. is.given frame i; takes_back = is.takes_back i; first_with = λ device. is.own device i }

-- after the first line that says something
opened : (new : Option TraceMachine) (lines : List (List ℕ)) (line tables : List ℕ) (size : WorldSize) (limits : WorldLimits)
    → SaysLine line (World size limits) tables → IsSomeAnd new (IsOpened size limits) → Certify None lines → Certify new (lines ++ line ∷ [])
opened None lines line tables size limits says is before = absurd is
opened (Some machine) [] line tables size limits says is before =
    (size, limits, says, record { happened = []; say = refl; past = []; is_past = is.is_past; happen = opens size limits machine is })
opened (Some machine) (l ∷ ls) line tables size limits says is before = absurd before

-- after one that it begins with
pub begun : (new : Option TraceMachine) (lines : List (List ℕ)) (line tables : List ℕ) (said : Said) → IsReadOf line said tables → Begins said None new
    → Certify None (spoken lines) → Certify new (spoken (lines ++ line ∷ []))
begun new lines line tables Nothing read begins before =
    subst (λ (m : Option TraceMachine). Certify m (spoken (lines ++ line ∷ []))) (sym begins) (nothing_said None lines line read.0 before)
begun new lines line tables (World size limits) read begins before =
    subst (λ (l : List (List ℕ)). Certify new l) (sym (spoken_more lines line (read.1 (λ e. cc))))
    (opened new (spoken lines) line tables size limits read.0 begins before)
begun new lines line tables (Step e o h n b) read begins before = absurd begins
begun new lines line tables (Made d r) read begins before = absurd begins
begun new lines line tables (Grants d p c f r h) read begins before = absurd begins
begun new lines line tables (Joins d w a h) read begins before = absurd begins
begun new lines line tables (Releases d p c t) read begins before = absurd begins
begun new lines line tables (Handoff f) read begins before = absurd begins
begun new lines line tables (Take f) read begins before = absurd begins
begun new lines line tables TablesFreed read begins before = absurd begins
begun new lines line tables Bad read begins before = absurd begins

-- what is certified is of a run
of_run : (machine : TraceMachine) (size : WorldSize) (limits : WorldLimits) (lines : List (List ℕ)) → IsCertifiedBy machine size limits lines
    → AreOfRun size limits lines
of_run machine size limits lines by =
    let last = trace_state machine by.past in
    let run = run_of (opening_of size limits) by.happened last by.happen in
    record {
      happened = by.happened;
      say = by.say;
      last = last;
      happen = by.happen;
      run = run;
      reclaims = reclaims (opening_of size limits).machine (events_of by.happened) (outcomes_of by.happened) last.machine
          ([], [], (limits_of limits, size.frames, size.levels, four_disks, refl)) run;
    }

-- so the lines are lawful
lawful_lines : (found : Option TraceMachine) (lines : List (List ℕ)) → Certify found lines → AreLawfulLines lines
lawful_lines None [] reply = tt
lawful_lines None (l ∷ ls) never = absurd never
lawful_lines (Some machine) [] never = absurd never
lawful_lines (Some machine) (l ∷ ls) (size, limits, says, it) = (size, limits, says, of_run machine size limits ls it)

-- and their text, after the last of them
lawful_text : (judge : Judge) (lines : List (List ℕ)) (text : List ℕ) → HasTakenAll judge lines → AreLines lines text → IsLawfulTrace text
lawful_text judge lines text taken are = record { lines = lines; whole = are.0; is_text = are.1; lawful = lawful_lines judge.machine (spoken lines) taken.certified }

pub all_lawful : (judge : Judge) (lines : List (List ℕ)) (first : Option (List ℕ)) → HasTakenAll judge lines → IfSome first (AreLines lines) → IfSome first IsLawfulTrace
all_lawful judge lines None taken are = tt
all_lawful judge lines (Some text) taken are = lawful_text judge lines text taken are

-- what was read begins with the lines
begins_with : (lines : List (List ℕ)) (buffer : List ℕ) (start end : ℕ) (text : List ℕ) (now : Option (List ℕ)) → HasTaken lines buffer start end (Some text) now
    → (rest : List ℕ) × (text ≡ bytes_of_lines lines ++ rest)
begins_with lines buffer start end text None taken = absurd taken.consumed
begins_with lines buffer start end text (Some left) taken = (
  taken.waiting ++ left,
  taken.consumed ∙ ap (λ (l : List ℕ). l ++ left) taken.is_read ∙ append_assoc (bytes_of_lines lines) taken.waiting left,
)

-- What names the line behind those that were taken is so of the text.
pub named_is_so : (judge : Judge) (verdict : Verdict) (lines : List (List ℕ)) (buffer : List ℕ) (start end : ℕ) (first now : Option (List ℕ))
    → HasTaken lines buffer start end first now → HasTakenAll judge lines → Names (length lines + 1) verdict → IfSome first (IsSoOf verdict)
named_is_so judge verdict lines buffer start end None now read taken names = tt
named_is_so judge verdict lines buffer start end (Some text) now read taken names =
    let begins = begins_with lines buffer start end text now read in
    rw names (record {
      lines = lines;
      rest = begins.0;
      is_text = begins.1;
      next = refl;
      before = lawful_text judge lines (bytes_of_lines lines) taken (read.whole, refl);
    })

-- What goes on has more to tell.
pub if_ok : {T E : Type 0} (result : Result T E) (P Q : Type 0) → (P → Q) → OnOk result P → OnOk result Q
if_ok (Ok done) P Q so went = so went
if_ok (Err error) P Q so went = tt

-- before the first line
pub nothing_taken : (judge : Judge) (first : Option (List ℕ)) → BufferHolds judge.lines.buffer.items judge.lines.start judge.lines.end []
    → judge.machine ≡ None → judge.line ≡ 0 → HasJudged judge first first
nothing_taken judge first holds none first_line = (
  [],
  record { whole = All-nil (IsWithout 10); read = []; consumed = Consumes-nil first; waiting = []; holds = holds; is_read = refl },
  record { certified = subst (λ (m : Option TraceMachine). Certify m []) (sym none) tt; counted = first_line },
)

-- one change more, with the tables that it took
pub changed_more : (old mid new : TraceMachine) (device : ℕ) (change it : Change) (event : Event) (outcome : Outcome) (k : ℕ) (choice : Choice) (taken : List ℕ)
    (happened own : List Happening) → it ≡ behind k change → event ≡ event_of device it → CameAtEach device change outcome k taken happened
    → Continues old happened mid → Comes event outcome choice own → Continues mid own new
    → CameAtEach device change outcome (k + 1) (taken ++ choice.taken) (happened ++ own) × Continues old (happened ++ own) new
changed_more old mid new device change it event outcome k choice taken happened own is of are so_far comes goes =
    let next : suc k ≡ k + 1 = omega arith in
    let at : event ≡ event_of device (behind k change) = of ∙ ap (λ (c : Change). event_of device c) is in (
      subst (λ (n : ℕ). CameAtEach device change outcome n (taken ++ choice.taken) (happened ++ own)) next
          (taken, happened, own, choice, are, refl, subst (λ (e : Event). Comes e outcome choice own) at comes, refl),
      continues_further old mid new happened own so_far goes,
    )

-- One event is what the machine of the trace comes to by a step, where no frame is used that was given away, and no tables go back that are shared.
pub stepped_on : (old new : TraceMachine) (kept : KeptState) (event : Event) (outcome : Outcome) (choice : Choice)
    → Leaves old.kept kept (λ before after. machine.ChosenStep choice before event outcome after)
    → (IsTrue old.handed.takes_back → (frame : ℕ) → IsTrue (is_used event outcome choice frame) → is_given old.handed frame ≡ false)
    → ((h : History) → IsPastOf old.kept.grants h → IfSome (tables_end event outcome) (NoneWalks (first_in old.domains) h old.kept.devices))
    → new.kept ≡ kept → ((frame : ℕ) → is_given new.handed frame ≡ (is_given old.handed frame && not (is_used event outcome choice frame)))
    → new.handed.takes_back ≡ old.handed.takes_back
    → ((k : ℕ) → first_in new.domains k ≡ (if is_this (own_domain event outcome) k then None else first_in old.domains k))
    → Continues old (Came event outcome choice ∷ []) new
stepped_on old new kept event outcome choice leaves unused stay at_kept given takes domains = λ history past.
    let next = subst (λ (k : KeptState). Leaves old.kept k (λ before after. machine.ChosenStep choice before event outcome after)) (sym at_kept) leaves history past in (
      next.0,
      next.1,
      (
        trace_state new next.0,
        record {
          step = (next.2 (state_of new.kept next.0)).0 refl;
          unused = unused;
          given = given;
          takes_back = takes;
          tables_stay = stay history past;
          domains = domains;
        },
        refl,
      ),
    )

-- what happens beside the ledger machine
pub beside_it : (old : TraceMachine) (handed : Handed) (domains : Domains) (happening : Happening)
    → ((h : History) → IsPastOf old.kept.grants h → Happens (trace_state old h) happening (trace_state (record old { handed = handed; domains = domains }) h))
    → Continues old (happening ∷ []) (record old { handed = handed; domains = domains })
beside_it old handed domains happening happens =
    λ history past. (history, past, (trace_state (record old { handed = handed; domains = domains }) history, happens history past, refl))

-- what is told of a frame that is given to somebody else
pub given_away : (old mid : TraceMachine) (handed : Handed) (frame : ℕ) (choice : Choice)
    → Continues old (Came (events.Free frame) (outcomes.Free true) choice ∷ []) mid
    → ((f : ℕ) → is_given handed f ≡ (nat_eq frame f || is_given mid.handed f)) → handed.takes_back ≡ mid.handed.takes_back
    → ContinuesAs old (Handoff frame) [] (record mid { handed = handed })
given_away old mid handed frame choice goes given takes =
    let came = Came (events.Free frame) (outcomes.Free true) choice in (
      came ∷ GivenAway frame ∷ [],
      (choice, refl),
      continues_further old mid (record mid { handed = handed }) (came ∷ []) (GivenAway frame ∷ []) goes
          (beside_it mid handed mid.domains (GivenAway frame) (λ h past. ((refl, λ d. refl), given, takes))),
    )

-- and of one that is taken back
pub taken_back : (old : TraceMachine) (handed : Handed) (frame : ℕ) → is_given old.handed frame ≡ true
    → ((f : ℕ) → is_given handed f ≡ (is_given old.handed f && not (nat_eq frame f))) → handed.takes_back ≡ true
    → ContinuesAs old (Take frame) [] (record old { handed = handed })
taken_back old handed frame was given takes = (
  TakenBack frame ∷ [],
  refl,
  beside_it old handed old.domains (TakenBack frame) (λ h past. (was, (refl, λ d. refl), given, takes)),
)

-- what changes takes tables of its own alone
pub taken_alone : (device : ℕ) (change : Change) (event : Event) (choice : Choice) → event ≡ event_of device change → choice.taken ≡ tables_chosen event choice
taken_alone device (Grant page frame rights) event choice is = ap (λ (e : Event). tables_chosen e choice) (sym is)
taken_alone device (Release page) event choice is = ap (λ (e : Event). tables_chosen e choice) (sym is)

-- the tables that were taken so far, where they are shown: all of them by the first grant
pub tables_so_far : (device : ℕ) (change : Change) (outcome : Outcome) (k : ℕ) (has : Bool) (taken more tables : List ℕ) (happened : List Happening)
    → CameAtEach device change outcome k taken happened → (0 < k → IsTrue has → taken ≡ tables) → (IsTrue has → k ≡ 0 → more ≡ tables)
    → (IsTrue has → 0 < k → more ≡ []) → 0 < k + 1 → IsTrue has → taken ++ more ≡ tables
tables_so_far device change outcome zero has taken more tables happened are so_far first later some its =
    ap (λ (l : List ℕ). l ++ more) are.0 ∙ first its refl
tables_so_far device change outcome (suc k) has taken more tables happened are so_far first later some its =
    let before : 0 < suc k = omega arith in
    ap (λ (l : List ℕ). taken ++ l) (later its before) ∙ append-nil taken ∙ so_far before its

-- the access that is shown was begun
pub begun_is_shown : (shown : Option Access) (chosen : Access) → IfSome shown (λ access. option_map_or (λ begun. begun) shown chosen ≡ access)
begun_is_shown None chosen = tt
begun_is_shown (Some access) chosen = refl

-- which tables are shown doesn't hang on the access
pub tables_shown : (tables : Tables) (event : Event) (shown : Shown) (choice : Choice) → ShowsTables tables event choice → ShowsTables tables event (with_begun shown choice)
tables_shown (Own tables) event shown choice shows = shows
tables_shown (OfAnother pages) event shown choice shows = shows
