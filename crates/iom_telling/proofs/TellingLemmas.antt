-- The text that a teller tells, event after event.
use Rattle.std.proofs.Common.{◌≡◌, ◌++◌, ◌∙◌, ℕ, Bool, true, false, List, [], ◌∷◌, Option, None, Some, Result, Ok, Err, OnOk, OnErr, refl, sym, ap, subst, append_assoc, append-nil}
use Rattle.std.specs.Io.KnownBytes.{Appends}
use Rattle.std.proofs.KnownBytes.{Appends-nil, Appends-trans}
use Rattle.iom_base.specs.declared.refusal.Refusal.{Refusal}
use Rattle.iom_line_writer.specs.declared.writing.LineWriter.{LineWriter}
use Rattle.iom_line_writer.specs.Writing.{AppendsFront, FailsAt, TakesText}
use Rattle.iom_line_writer.proofs.WritingLemmas.{front-longer, front-none, part-front, takes-more}
use Rattle.iom_machine.specs.declared.event.Event.{Event}
use Rattle.iom_machine.specs.declared.outcome.Outcome.{Outcome}
use Rattle.iom_settling.specs.Stages.{Settled}
use Rattle.iom_settling.specs.Went.{Takes}
use Rattle.iom_tell.specs.declared.tell_fault.TellFault.{TellFault}
use Rattle.iom_virtio_blk.specs.declared.disk.Disk.{Ghosts}
use Rattle.iom_virtio_blk.specs.DiskStates.{DiskState}
use Rattle.iom_world.specs.Shown.{parts_of}
use Rattle.iom_telling.specs.declared.fault.TellingFault.{TellingFault}
use Rattle.iom_telling.specs.declared.teller.Teller.{Teller}
use Rattle.iom_telling.specs.Faults.{fault_of}
use Rattle.iom_telling.specs.Scripts.{parts_in, IsToldLine, TellsOne}
use Rattle.iom_telling.specs.Tellers.{AddsIf, BeginsText, HasTold, HasToldLine, GoesOnTelling, TellerTakes, telling_of}

-- some is written, and then a beginning of the rest
pub front-after : (old mid new : Option (List ℕ)) (written text : List ℕ) → Appends old mid written → AppendsFront mid new text → AppendsFront old new (written ++ text)
front-after old mid new written text first (front, rest, is, wrote) =
    (written ++ front, rest, ap (λ l. written ++ l) is ∙ sym (append_assoc written front rest), Appends-trans old mid new written front first wrote)

-- a sink takes a text, and of another a beginning is written
pub begins_later : {W : Type 0} (contents : W → Option (List ℕ)) (old mid new : LineWriter W) (text more : List ℕ) → TakesText contents old text mid → BeginsText contents mid more new
    → BeginsText contents old (text ++ more) new
begins_later contents old mid new text more (same, written, wrote, is) (same_later, front) = (
  (same_later.0 ∙ same.0, same_later.1 ∙ same.1),
  subst (AppendsFront (contents old.writer.now) (contents new.writer.now))
      (sym (append_assoc written mid.buffer more) ∙ ap (λ l. l ++ more) (sym is) ∙ append_assoc old.buffer text more)
      (front-after _ _ _ written (mid.buffer ++ more) wrote front),
)

-- a beginning of a text is one of a longer text
pub begins_longer : {W : Type 0} (contents : W → Option (List ℕ)) (old new : LineWriter W) (text more : List ℕ) → BeginsText contents old text new → BeginsText contents old (text ++ more) new
begins_longer contents old new text more (same, front) =
    (same, subst (AppendsFront (contents old.writer.now) (contents new.writer.now)) (append_assoc old.buffer text more) (front-longer _ _ (old.buffer ++ text) more front))

-- a sink that fails at a text has written a beginning of it
pub fails_begins : {W : Type 0} (contents : W → Option (List ℕ)) (old new : LineWriter W) (text : List ℕ) → FailsAt contents old text new → BeginsText contents old text new
fails_begins contents old new text (same, part) = (same, part-front _ _ (old.buffer ++ text) part)

-- THE LINE OF AN EVENT is appended to the buffer, with its line feed, or nothing is
pub one_goes : {W : Type 0} (contents : W → Option (List ℕ)) (old : LineWriter W) (line after : List ℕ) (told : Result (Unit {0}) TellFault) → OnOk told (after ≡ old.buffer ++ line ++ 10 ∷ [])
    → OnErr told (after ≡ old.buffer) → HasTold contents old (line ++ 10 ∷ []) (fault_of told) (record old { buffer = after })
one_goes contents old line after (Ok done) text kept = ((refl, refl), [], Appends-nil (contents old.writer.now), sym (text ∙ append_assoc old.buffer line (10 ∷ [])))
one_goes contents old line after (Err fault) text kept = ((refl, refl), front-none (contents old.writer.now) (old.buffer ++ (line ++ 10 ∷ [])))

-- a line, and no notes
pub line_alone : (explains : Bool) (line : List ℕ) → IsToldLine explains line (line ++ 10 ∷ [])
line_alone false line = refl
line_alone true line = ([], ([], tt, refl), sym (append-nil (line ++ 10 ∷ [])))

-- a line, and what is added behind it
noted : (explains : Bool) (before line mid after : List ℕ) → mid ≡ before ++ line ++ 10 ∷ [] → AddsIf explains mid after
    → (text : List ℕ) × IsToldLine explains line text × (before ++ text ≡ after)
noted false before line mid after is same = (line ++ 10 ∷ [], refl, sym (same ∙ is ∙ append_assoc before line (10 ∷ [])))
noted true before line mid after is (notes, are, added) = (
  (line ++ 10 ∷ []) ++ notes,
  (notes, are, refl),
  sym (added ∙ ap (λ l. l ++ notes) (is ∙ append_assoc before line (10 ∷ [])) ∙ append_assoc before (line ++ 10 ∷ []) notes),
)

-- the line of an event is in the buffer, and what explains it behind that
pub one_noted : {W : Type 0} (contents : W → Option (List ℕ)) (old : LineWriter W) (explains : Bool) (line mid after : List ℕ) (told : Result (Unit {0}) TellFault)
    → OnOk told (mid ≡ old.buffer ++ line ++ 10 ∷ []) → fault_of told ≡ None → AddsIf explains mid after
    → HasToldLine contents old explains line (fault_of told) (record old { buffer = after })
one_noted contents old explains line mid after (Ok done) text none adds =
    let (all, is_line, is) = noted explains old.buffer line mid after text adds in
    record { text = all; told = is_line; has = ((refl, refl), [], Appends-nil (contents old.writer.now), is) }
one_noted contents old explains line mid after (Err fault) text none adds = cc

-- it isn't
pub one_failed : {W : Type 0} (contents : W → Option (List ℕ)) (old : LineWriter W) (explains : Bool) (line mid : List ℕ) (told : Result (Unit {0}) TellFault)
    → OnOk told (mid ≡ old.buffer ++ line ++ 10 ∷ []) → OnErr told (mid ≡ old.buffer) → HasToldLine contents old explains line (fault_of told) (record old { buffer = mid })
one_failed contents old explains line mid told text kept =
    record { text = line ++ 10 ∷ []; told = line_alone explains line; has = one_goes contents old line mid told text kept }

-- ONE TEXT MORE
pub told_more : {W : Type 0} (contents : W → Option (List ℕ)) (first old new : LineWriter W) (text more : List ℕ) (before after : Option TellingFault)
    → HasTold contents first text before old → GoesOnTelling contents before old more after new → HasTold contents first (text ++ more) after new
told_more contents first old new text more None None told goes = takes-more contents first old new text more told goes
told_more contents first old new text more None (Some fault) told goes = begins_later contents first old new text more told goes
told_more contents first old new text more (Some fault) after told (is, same) =
    subst (λ (f : Option TellingFault). HasTold contents first (text ++ more) f new) (sym is)
    (subst (λ (l : LineWriter _). BeginsText contents first (text ++ more) l) (sym same) (begins_longer contents first old text more told))

-- EVENTS, one after another
pub takes_told : {W D : Type 0} {d : Ghosts D} (contents : W → Option (List ℕ)) (shown : D → DiskState) (first : LineWriter W) (old new : Teller W D d) (events : List Event) (outcomes : List Outcome)
    (text : List ℕ) → HasTold contents first text old.fault old.lines → Takes (TellerTakes contents shown) old events outcomes new
    → (more : List ℕ) × Takes TellsOne (telling_of shown old text) events outcomes (telling_of shown new more) × HasTold contents first more new.fault new.lines
takes_told {W} {D} {d} contents shown first old new [] [] text told same = (
  text,
  ap (λ (t : Teller W D d). telling_of shown t text) same,
  subst (λ (t : Teller W D d). HasTold contents first text t.fault t.lines) (sym same) told,
)
takes_told contents shown first old new [] (outcome ∷ outcomes) text told takes = absurd takes
takes_told contents shown first old new (event ∷ events) [] text told takes = absurd takes
takes_told contents shown first old new (event ∷ events) (outcome ∷ outcomes) text told (mid, takes, rest) =
    let later = takes_told contents shown first mid new events outcomes (text ++ takes.line)
    (told_more contents first old.lines mid.lines text takes.line old.fault mid.fault told takes.goes) rest in
    let one : TellsOne (telling_of shown old text) event outcome (telling_of shown mid (text ++ takes.line)) =
    record { happens = takes.happens; line = takes.line; told = takes.told; text = refl; explains = takes.explains } in
    (later.0, (telling_of shown mid (text ++ takes.line), one, later.1), later.2)

-- A SETTLING
pub settled_told : {W D : Type 0} {d : Ghosts D} (contents : W → Option (List ℕ)) (shown : D → DiskState) (first : LineWriter W) (old new : Teller W D d) (answer : Result ℕ Refusal) (text : List ℕ)
    → HasTold contents first text old.fault old.lines → Settled (λ (t : Teller W D d). parts_of t.world) (TellerTakes contents shown) old answer new
    → (more : List ℕ) × Settled parts_in TellsOne (telling_of shown old text) answer (telling_of shown new more) × HasTold contents first more new.fault new.lines
settled_told contents shown first old new (Ok count) text told (went, few, idle, confirmed) =
    let all = takes_told contents shown first old new went.events went.outcomes text told went.takes in (
      all.0,
      (record { events = went.events; outcomes = went.outcomes; takes = all.1; order = went.order; counted = went.counted }, few, idle, confirmed),
      all.2,
    )
settled_told contents shown first old new (Err why) text told (used_up, (count, went), idle, unconfirmed, last) =
    let all = takes_told contents shown first old new went.events went.outcomes text told went.takes in (
      all.0,
      (used_up, (count, record { events = went.events; outcomes = went.outcomes; takes = all.1; order = went.order; counted = went.counted }), idle, unconfirmed, last),
      all.2,
    )
