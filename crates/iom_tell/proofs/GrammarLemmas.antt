-- The line that tells an event is one of the grammar of traces, and says what is told.
use Rattle.std.specs.Bool.{⊤}
use Rattle.std.proofs.Common.{◌≡◌, ℕ, Bool, true, false, List, [], ◌∷◌, ◌++◌, Option, None, Some, codes, refl, sym, subst, append-nil, if◌then◌else◌}
use Rattle.std.proofs.lemmas.Bool.{false≢true}
use Rattle.iom_base.specs.declared.access.Access.{Access}
use Rattle.iom_base.specs.declared.access.AccessKind.{AccessKind}
use Rattle.iom_base.specs.declared.access.AccessKind.TheVariants as kinds
use Rattle.iom_block_devices.specs.Changes.{block_with}
use Rattle.iom_block_devices.specs.Wanted.{wanted_of}
use Rattle.iom_event_text.specs.Texts.{event_text}
use Rattle.iom_machine.specs.declared.event.Event.{Event}
use Rattle.iom_machine.specs.declared.event.Event.TheVariants as events
use Rattle.iom_machine.specs.declared.outcome.Outcome.{Outcome}
use Rattle.iom_script.specs.Grammar.{IsEventLine}
use Rattle.iom_script.specs.Lines.{outcome_text}
use Rattle.iom_trace_lines.specs.TraceLines.{is_accepted, takes_frames, tables_text, IsStepLine, SaysLine}
use Rattle.iom_world.specs.Shown.{Shown}
use Rattle.iom_tell.specs.declared.behind.Behind.{Behind}
use Rattle.iom_tell.specs.declared.behind.Behind.TheVariants.{Nothing, Tables, On, Began}
use Rattle.iom_tell.specs.Told.{asking, asking_so, behind_of, behind_accepted, behind_asked, began_by, behind_text, newest_frame, said_behind, told_line, told_said, taken_by, SaysBehind}

-- what is shown may be shown there
abbrev pub MayBeShown : Event → Outcome → Behind → Type 0
MayBeShown event outcome Nothing = ⊤
MayBeShown event outcome Tables = takes_frames event outcome ≡ true
MayBeShown event outcome (On frame) = is_accepted outcome ≡ true
MayBeShown event outcome (Began asks on) = (device : ℕ) × (access : Access) × (event ≡ events.Step device) × (is_accepted outcome ≡ true) × (asks ≡ asking device access)

asked_may : (event : Event) (outcome : Outcome) (frame : Option ℕ) → is_accepted outcome ≡ true → MayBeShown event outcome (behind_asked frame)
asked_may event outcome None accepted = tt
asked_may event outcome (Some frame) accepted = accepted

began_may : (outcome : Outcome) (device : ℕ) (frame : Option ℕ) (access : Option Access) → is_accepted outcome ≡ true
    → MayBeShown (events.Step device) outcome (began_by device frame access)
began_may outcome device frame None accepted = tt
began_may outcome device frame (Some access) accepted = (device, access, refl, accepted, refl)

accepted_may : (now : Shown) (event : Event) (outcome : Outcome) → is_accepted outcome ≡ true → MayBeShown event outcome (behind_accepted now event)
accepted_may now (events.Plug device new) outcome accepted = tt
accepted_may now (events.Medium device disk) outcome accepted = tt
accepted_may now (events.Attach device mode ats) outcome accepted = tt
accepted_may now (events.Detach device) outcome accepted = tt
accepted_may now (events.Grant device page frame rights) outcome accepted = tt
accepted_may now (events.Release device page) outcome accepted = tt
accepted_may now (events.Quarantine device) outcome accepted = tt
accepted_may now (events.Revive device) outcome accepted = tt
accepted_may now events.Restart outcome accepted = tt
accepted_may now events.Fetch outcome accepted = tt
accepted_may now events.Timeout outcome accepted = tt
accepted_may now events.Poll outcome accepted = tt
accepted_may now events.Faults outcome accepted = tt
accepted_may now (events.Read device address len) outcome accepted = asked_may (events.Read device address len) outcome (newest_frame now device) accepted
accepted_may now (events.Write device address bytes) outcome accepted = asked_may (events.Write device address bytes) outcome (newest_frame now device) accepted
accepted_may now (events.ReadTranslated device address len) outcome accepted = asked_may (events.ReadTranslated device address len) outcome (newest_frame now device) accepted
accepted_may now (events.WriteTranslated device address bytes) outcome accepted = asked_may (events.WriteTranslated device address bytes) outcome (newest_frame now device) accepted
accepted_may now (events.ReadThroughCache device address len) outcome accepted = asked_may (events.ReadThroughCache device address len) outcome (newest_frame now device) accepted
accepted_may now (events.WriteThroughCache device address bytes) outcome accepted = asked_may (events.WriteThroughCache device address bytes) outcome (newest_frame now device) accepted
accepted_may now (events.Ask device page) outcome accepted = tt
accepted_may now (events.Forge device serial) outcome accepted = tt
accepted_may now (events.Deliver place) outcome accepted = tt
accepted_may now (events.Drop place) outcome accepted = tt
accepted_may now (events.Repeat place) outcome accepted = tt
accepted_may now (events.Reset device) outcome accepted = tt
accepted_may now (events.Queue device size descriptors available used) outcome accepted = tt
accepted_may now (events.Step device) outcome accepted = began_may outcome device (newest_frame now device) (wanted_of (block_with now.inside.blocks device)) accepted
accepted_may now (events.Status device) outcome accepted = tt
accepted_may now (events.Commit device) outcome accepted = tt
accepted_may now (events.Poke address bytes) outcome accepted = tt
accepted_may now (events.Peek address len) outcome accepted = tt
accepted_may now (events.Free frame) outcome accepted = tt

may_by : (now : Shown) (event : Event) (outcome : Outcome) (takes accepts : Bool) → takes_frames event outcome ≡ takes → is_accepted outcome ≡ accepts
    → MayBeShown event outcome (if takes then Tables else (if accepts then behind_accepted now event else Nothing))
may_by now event outcome true accepts takes_is accepts_is = takes_is
may_by now event outcome false true takes_is accepts_is = accepted_may now event outcome accepts_is
may_by now event outcome false false takes_is accepts_is = tt

-- what a world shows may be shown there
may_be_shown : (now : Shown) (event : Event) (outcome : Outcome) → MayBeShown event outcome (behind_of now event outcome)
may_be_shown now event outcome = may_by now event outcome (takes_frames event outcome) (is_accepted outcome) refl refl

-- the line of an event with something behind its answer
step_line : (event : Event) (outcome : Outcome) (behind : List ℕ) → IsEventLine (event_text event) event
    → IsStepLine (event_text event ++ codes " => " ++ outcome_text outcome ++ behind) event outcome behind
step_line event outcome behind says = (event_text event, outcome_text outcome, says, refl, refl)

-- what is shown, with the event's line before it
abbrev behind_line : List ℕ → Event → Outcome → Behind → List ℕ
behind_line taken event outcome behind = event_text event ++ codes " => " ++ outcome_text outcome ++ behind_text taken behind

says_began : (taken : List ℕ) (event : Event) (outcome : Outcome) (device : ℕ) (access : Access) (kind : AccessKind) (on : Option ℕ) → IsEventLine (event_text event) event → event ≡ events.Step device
    → is_accepted outcome ≡ true → IsEventLine (event_text (asking_so kind device access)) (asking_so kind device access)
    → SaysLine (behind_line taken event outcome (Began (asking_so kind device access) on)) (said_behind taken event outcome (Began (asking_so kind device access) on)) taken
says_began taken event outcome device access kinds.Read on says is accepted asked =
    (device, is, accepted, event_text (events.Read device access.address access.len), events.Read device access.address access.len, asked, (refl, refl), step_line event outcome _ says)
says_began taken event outcome device access kinds.Write on says is accepted asked =
    (device, is, accepted, event_text (events.Write device access.address access.bytes), events.Write device access.address access.bytes, asked, (refl, refl), step_line event outcome _ says)

says_behind : (taken : List ℕ) (event : Event) (outcome : Outcome) (behind : Behind) → IsEventLine (event_text event) event → MayBeShown event outcome behind → SaysBehind behind
    → SaysLine (behind_line taken event outcome behind) (said_behind taken event outcome behind) taken
says_behind taken event outcome Nothing says may asked = (((λ shown. absurd (false≢true shown)), tt), step_line event outcome [] says)
says_behind [] event outcome Tables says may asked = (((λ shown. absurd (false≢true shown)), tt), step_line event outcome [] says)
says_behind (frame ∷ frames) event outcome Tables says may asked = (
  ((λ shown. may), tt),
  subst (λ (b : List ℕ). IsStepLine (behind_line (frame ∷ frames) event outcome Tables) event outcome b) (sym (append-nil (tables_text true (frame ∷ frames))))
      (step_line event outcome (tables_text true (frame ∷ frames)) says),
)
says_behind taken event outcome (On frame) says may asked = (((λ shown. absurd (false≢true shown)), may), step_line event outcome _ says)
says_behind taken event outcome (Began asks on) says (device, access, is, accepted, asks_is) asked =
    subst (λ (e : Event). SaysLine (behind_line taken event outcome (Began e on)) (said_behind taken event outcome (Began e on)) taken) (sym asks_is)
    (says_began taken event outcome device access access.kind on says is accepted (subst (λ (e : Event). IsEventLine (event_text e) e) asks_is asked))

-- THE LINE says what is told
pub says_told : (old new : Shown) (event : Event) (outcome : Outcome) → IsEventLine (event_text event) event → SaysBehind (behind_of new event outcome)
    → SaysLine (told_line old event outcome new) (told_said old event outcome new) (taken_by old new)
says_told old new event outcome says asked = says_behind (taken_by old new) event outcome (behind_of new event outcome) says (may_be_shown new event outcome) asked
