-- What is shown behind an answer, where the frames that were reserved before were noted.
use Rattle.std.specs.Bool.{⊤}
use Rattle.std.proofs.Common.{◌≡◌, ℕ, Bool, true, false, not, ◌&&◌, List, [], ◌∷◌, ◌++◌, codes, Option, None, Some, refl, ap, subst, if◌then◌else◌}
use Rattle.iom_base.specs.declared.access.Access.{Access}
use Rattle.iom_block_devices.specs.Changes.{block_with}
use Rattle.iom_block_devices.specs.Wanted.{wanted_of}
use Rattle.iom_event_text.specs.Texts.{event_text}
use Rattle.iom_machine.specs.declared.event.Event.{Event}
use Rattle.iom_machine.specs.declared.event.Event.TheVariants as events
use Rattle.iom_machine.specs.declared.outcome.Outcome.{Outcome}
use Rattle.iom_script.specs.Lines.{outcome_text}
use Rattle.iom_trace_lines.specs.TraceLines.{is_accepted, takes_frames}
use Rattle.iom_world.specs.Shown.{Shown}
use Rattle.iom_tell.specs.declared.behind.Behind.{Behind}
use Rattle.iom_tell.specs.declared.behind.Behind.TheVariants.{Nothing, Tables, On, Began}
use Rattle.iom_tell.specs.Told.{AreReservedOf, behind_of, behind_accepted, behind_asked, began_by, behind_text, is_reserved_in, may_take, newest_frame, shown_tables, is_taken_since, taken_below, taken_by, told_line}
use Rattle.iom_tell.proofs.TakenLemmas.{same_taken}

-- what was noted before is what was so before
pub taken_as_noted : (frames : List Bool) (old new : Shown) → AreReservedOf frames old → taken_below (is_taken_since frames new) 4096 ≡ taken_by old new
taken_as_noted frames old new noted =
    same_taken (is_taken_since frames new) (λ frame. is_reserved_in new frame && not (is_reserved_in old frame)) 4096
    (λ frame lt. ap (λ (b : Bool). is_reserved_in new frame && not b) (noted frame lt))

-- where no tables are shown, it is the same whatever was noted
abbrev pub ShowsNoTables : Behind → Type 0
ShowsNoTables Tables = ⊥
ShowsNoTables _ = ⊤

same_text : (these those : List ℕ) (behind : Behind) → ShowsNoTables behind → behind_text these behind ≡ behind_text those behind
same_text these those Nothing shown = refl
same_text these those Tables shown = absurd shown
same_text these those (On frame) shown = refl
same_text these those (Began asks on) shown = refl

asked_shows_none : (frame : Option ℕ) → ShowsNoTables (behind_asked frame)
asked_shows_none None = tt
asked_shows_none (Some frame) = tt

began_shows_none : (device : ℕ) (frame : Option ℕ) (access : Option Access) → ShowsNoTables (began_by device frame access)
began_shows_none device frame None = tt
began_shows_none device frame (Some access) = tt

-- behind an `accepted` no tables are shown
accepted_shows_none : (now : Shown) (event : Event) → ShowsNoTables (behind_accepted now event)
accepted_shows_none now (events.Plug device new) = tt
accepted_shows_none now (events.Medium device disk) = tt
accepted_shows_none now (events.Attach device mode ats) = tt
accepted_shows_none now (events.Detach device) = tt
accepted_shows_none now (events.Grant device page frame rights) = tt
accepted_shows_none now (events.Release device page) = tt
accepted_shows_none now (events.Quarantine device) = tt
accepted_shows_none now (events.Revive device) = tt
accepted_shows_none now events.Restart = tt
accepted_shows_none now events.Fetch = tt
accepted_shows_none now events.Timeout = tt
accepted_shows_none now events.Poll = tt
accepted_shows_none now events.Faults = tt
accepted_shows_none now (events.Read device address len) = asked_shows_none (newest_frame now device)
accepted_shows_none now (events.Write device address bytes) = asked_shows_none (newest_frame now device)
accepted_shows_none now (events.ReadTranslated device address len) = asked_shows_none (newest_frame now device)
accepted_shows_none now (events.WriteTranslated device address bytes) = asked_shows_none (newest_frame now device)
accepted_shows_none now (events.ReadThroughCache device address len) = asked_shows_none (newest_frame now device)
accepted_shows_none now (events.WriteThroughCache device address bytes) = asked_shows_none (newest_frame now device)
accepted_shows_none now (events.Ask device page) = tt
accepted_shows_none now (events.Forge device serial) = tt
accepted_shows_none now (events.Deliver place) = tt
accepted_shows_none now (events.Drop place) = tt
accepted_shows_none now (events.Repeat place) = tt
accepted_shows_none now (events.Reset device) = tt
accepted_shows_none now (events.Queue device size descriptors available used) = tt
accepted_shows_none now (events.Step device) = began_shows_none device (newest_frame now device) (wanted_of (block_with now.inside.blocks device))
accepted_shows_none now (events.Status device) = tt
accepted_shows_none now (events.Commit device) = tt
accepted_shows_none now (events.Poke address bytes) = tt
accepted_shows_none now (events.Peek address len) = tt
accepted_shows_none now (events.Free frame) = tt

same_behind_by : (these those : List ℕ) (now : Shown) (event : Event) (takes accepts : Bool) → (takes ≡ true → these ≡ those)
    → behind_text these (if takes then Tables else (if accepts then behind_accepted now event else Nothing))
    ≡ behind_text those (if takes then Tables else (if accepts then behind_accepted now event else Nothing))
same_behind_by these those now event true accepts same = ap shown_tables (same refl)
same_behind_by these those now event false true same = same_text these those (behind_accepted now event) (accepted_shows_none now event)
same_behind_by these those now event false false same = refl

-- what is shown is so, where the frames were noted before an event that takes some
pub told_as_noted : (frames : List Bool) (old new : Shown) (event : Event) (outcome : Outcome) → (takes_frames event outcome ≡ true → AreReservedOf frames old)
    → behind_text (taken_below (is_taken_since frames new) 4096) (behind_of new event outcome) ≡ behind_text (taken_by old new) (behind_of new event outcome)
told_as_noted frames old new event outcome noted =
    same_behind_by (taken_below (is_taken_since frames new) 4096) (taken_by old new) new event (takes_frames event outcome) (is_accepted outcome)
    (λ is. taken_as_noted frames old new (noted is))

-- an event that takes frames is one that may
pub takes_if_it_may : (event : Event) (outcome : Outcome) → takes_frames event outcome ≡ true → may_take event ≡ true
takes_if_it_may (events.Plug device new) outcome takes = takes
takes_if_it_may (events.Medium device disk) outcome takes = takes
takes_if_it_may (events.Attach device mode ats) outcome takes = refl
takes_if_it_may (events.Detach device) outcome takes = takes
takes_if_it_may (events.Grant device page frame rights) outcome takes = refl
takes_if_it_may (events.Release device page) outcome takes = takes
takes_if_it_may (events.Quarantine device) outcome takes = takes
takes_if_it_may (events.Revive device) outcome takes = takes
takes_if_it_may events.Restart outcome takes = takes
takes_if_it_may events.Fetch outcome takes = takes
takes_if_it_may events.Timeout outcome takes = takes
takes_if_it_may events.Poll outcome takes = takes
takes_if_it_may events.Faults outcome takes = takes
takes_if_it_may (events.Read device address len) outcome takes = takes
takes_if_it_may (events.Write device address bytes) outcome takes = takes
takes_if_it_may (events.ReadTranslated device address len) outcome takes = takes
takes_if_it_may (events.WriteTranslated device address bytes) outcome takes = takes
takes_if_it_may (events.ReadThroughCache device address len) outcome takes = takes
takes_if_it_may (events.WriteThroughCache device address bytes) outcome takes = takes
takes_if_it_may (events.Ask device page) outcome takes = takes
takes_if_it_may (events.Forge device serial) outcome takes = takes
takes_if_it_may (events.Deliver place) outcome takes = takes
takes_if_it_may (events.Drop place) outcome takes = takes
takes_if_it_may (events.Repeat place) outcome takes = takes
takes_if_it_may (events.Reset device) outcome takes = takes
takes_if_it_may (events.Queue device size descriptors available used) outcome takes = takes
takes_if_it_may (events.Step device) outcome takes = takes
takes_if_it_may (events.Status device) outcome takes = takes
takes_if_it_may (events.Commit device) outcome takes = takes
takes_if_it_may (events.Poke address bytes) outcome takes = takes
takes_if_it_may (events.Peek address len) outcome takes = takes
takes_if_it_may (events.Free frame) outcome takes = takes

-- the whole line
pub line_as_noted : (frames : List Bool) (old new : Shown) (event : Event) (outcome : Outcome) (before after : List ℕ) → (may_take event ≡ true → AreReservedOf frames old)
    → after ≡ before ++ (event_text event ++ codes " => " ++ outcome_text outcome ++ behind_text (taken_below (is_taken_since frames new) 4096) (behind_of new event outcome)) ++ 10 ∷ []
    → after ≡ before ++ told_line old event outcome new ++ 10 ∷ []
line_as_noted frames old new event outcome before after noted is =
    subst (λ (b : List ℕ). after ≡ before ++ (event_text event ++ codes " => " ++ outcome_text outcome ++ b) ++ 10 ∷ [])
    (told_as_noted frames old new event outcome (λ takes. noted (takes_if_it_may event outcome takes))) is
