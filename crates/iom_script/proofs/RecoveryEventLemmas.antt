-- The words behind a keyword are those of an event: those of quarantining devices, and of what follows where one doesn't answer.
use Rattle.std.proofs.Common.{◌≡◌, ℕ, List, [], ◌++◌, Option, Some, codes, sym, subst, refl}
use Rattle.std.specs.Option.{option_map}
use Rattle.std.proofs.lemmas.List.{append_cancel_left}
use Rattle.iom_machine.specs.declared.event.Event.{Event}
use Rattle.iom_machine.specs.declared.event.Event.TheVariants.{Quarantine, Revive, Restart, Timeout, Reset}
use Rattle.iom_script.specs.Words.{◌␣◌, IsDevice}
use Rattle.iom_script.specs.Reading.{Reads}
use Rattle.iom_script.specs.Cuts.{IsLineWith}
use Rattle.iom_script.specs.Grammar.{IsEventLine}
use Rattle.iom_script.proofs.EventLemmas.{event_reads, other_line}

-- quarantine

abbrev pub quarantine_event : ℕ → Event
quarantine_event words = Quarantine words

pub quarantine_from : (text : List ℕ) (event : Event) → IsEventLine (codes "quarantine" ␣ text) event → (words : ℕ) × IsDevice text words × (quarantine_event words ≡ event)
quarantine_from text (Quarantine device) q =
    (device, subst (λ t. IsDevice t device) (sym (append_cancel_left (codes "quarantine ") text q.0 q.2)) q.1, refl)
quarantine_from text event q = absurd (other_line (codes "quarantine ") text event refl q)

pub quarantine_reads : (line text : List ℕ) → Reads (Some text) (λ more. line ≡ codes "quarantine " ++ more) → (result : Option ℕ) → Reads result (IsDevice text)
    → Reads (option_map quarantine_event result) (IsLineWith (codes "quarantine ") line)
quarantine_reads line text begun result reads =
    event_reads quarantine_event (IsDevice text) (codes "quarantine ") line text result (λ v. refl) begun
    (λ words q. (text, q, refl))
    (quarantine_from text) reads

-- revive

abbrev pub revive_event : ℕ → Event
revive_event words = Revive words

pub revive_from : (text : List ℕ) (event : Event) → IsEventLine (codes "revive" ␣ text) event → (words : ℕ) × IsDevice text words × (revive_event words ≡ event)
revive_from text (Revive device) q =
    (device, subst (λ t. IsDevice t device) (sym (append_cancel_left (codes "revive ") text q.0 q.2)) q.1, refl)
revive_from text event q = absurd (other_line (codes "revive ") text event refl q)

pub revive_reads : (line text : List ℕ) → Reads (Some text) (λ more. line ≡ codes "revive " ++ more) → (result : Option ℕ) → Reads result (IsDevice text)
    → Reads (option_map revive_event result) (IsLineWith (codes "revive ") line)
revive_reads line text begun result reads =
    event_reads revive_event (IsDevice text) (codes "revive ") line text result (λ v. refl) begun
    (λ words q. (text, q, refl))
    (revive_from text) reads

-- reset

abbrev pub reset_event : ℕ → Event
reset_event words = Reset words

pub reset_from : (text : List ℕ) (event : Event) → IsEventLine (codes "reset" ␣ text) event → (words : ℕ) × IsDevice text words × (reset_event words ≡ event)
reset_from text (Reset device) q =
    (device, subst (λ t. IsDevice t device) (sym (append_cancel_left (codes "reset ") text q.0 q.2)) q.1, refl)
reset_from text event q = absurd (other_line (codes "reset ") text event refl q)

pub reset_reads : (line text : List ℕ) → Reads (Some text) (λ more. line ≡ codes "reset " ++ more) → (result : Option ℕ) → Reads result (IsDevice text)
    → Reads (option_map reset_event result) (IsLineWith (codes "reset ") line)
reset_reads line text begun result reads =
    event_reads reset_event (IsDevice text) (codes "reset ") line text result (λ v. refl) begun
    (λ words q. (text, q, refl))
    (reset_from text) reads

-- restart

-- the line says no other event
pub restart_only : (event : Event) → IsEventLine (codes "restart") event → Restart ≡ event
restart_only Restart q = refl
restart_only event q = absurd (other_line (codes "restart") [] event refl q)

-- timeout

-- the line says no other event
pub timeout_only : (event : Event) → IsEventLine (codes "timeout") event → Timeout ≡ event
timeout_only Timeout q = refl
timeout_only event q = absurd (other_line (codes "timeout") [] event refl q)
