use Rattle.std.proofs.Common.{◌≡◌, ℕ, codes, [], ◌∷◌, List, Option, Some, None, refl, subst}
use Rattle.std.proofs.lemmas.Result.{IfOk-weaker}
use Rattle.iom_machine.specs.declared.event.Event.{Event}
use Rattle.iom_script.specs.Reading.{Reads}
use Rattle.iom_script.specs.Cuts.{IsLineOf, IsLineWith, starts_under_a}
use Rattle.iom_script.proofs.LineLemmas.{either_line}
use Rattle.iom_script.proofs.events.under_a.Goals as goal
use Rattle.iom_script.proofs.events.under_a.Goals.{in-Some, in-None+in-Some-ask, in-None+in-None-ask}

-- the lines that are tried behind the first
abbrev from_ask : List (List ℕ)
from_ask = codes "ask " ∷ codes "attach " ∷ []

-- the lines without bytes
abbrev without_bytes : List (List ℕ)
without_bytes = codes "aread " ∷ from_ask

aread_first : (line : List ℕ) (event : Event) (first : Option Event) → Reads (Some event) (IsLineWith (codes "aread ") line) → first ≡ Some event → Reads first (IsLineOf without_bytes line)
aread_first line event first reads is = either_line line (codes "aread " ∷ []) from_ask (Some event) first reads is

ask_first : (line : List ℕ) (event : Event) (first : Option Event) → Reads None (IsLineWith (codes "aread ") line) → Reads (Some event) (IsLineWith (codes "ask ") line) → first ≡ Some event
    → Reads first (IsLineOf without_bytes line)
ask_first line event first none reads is =
    either_line line (codes "aread " ∷ []) from_ask None first none (either_line line (codes "ask " ∷ []) (codes "attach " ∷ []) (Some event) first reads is)

attach_first : (line : List ℕ) (attach first : Option Event) → Reads None (IsLineWith (codes "aread ") line) → Reads None (IsLineWith (codes "ask ") line)
    → Reads attach (IsLineWith (codes "attach ") line) → first ≡ attach → Reads first (IsLineOf without_bytes line)
attach_first line attach first none no_ask reads is =
    rw is (either_line line (codes "aread " ∷ []) from_ask None attach none (either_line line (codes "ask " ∷ []) (codes "attach " ∷ []) None attach no_ask reads))

pub returns-in-Some-first : goal.returns-in-Some-first
returns-in-Some-first c =
    let line = c.args.line.now in
    let reads : Reads c.match-read_through_cache.first (IsLineOf without_bytes line) = elim c.match-read_through_cache.branch [
      | in-Some w ↦ aread_first line w.in-Some.event c.match-read_through_cache.first w.in-Some.ensures w.first-is
      | in-None+in-Some-ask w ↦ ask_first line w.in-Some-ask.event c.match-read_through_cache.first w.in-None.ensures w.in-Some-ask.ensures w.first-is
      | in-None+in-None-ask w ↦ attach_first line w.attach.result c.match-read_through_cache.first w.in-None.ensures w.in-None-ask.ensures w.attach.ensures w.first-is
    ] in
    either_line line without_bytes (codes "awrite " ∷ []) (Some c.in-Some-first.event) (Some c.in-Some-first.event)
    (subst (λ first. Reads first (IsLineOf without_bytes line)) c.in-Some-first.is reads) refl

pub returns-in-None-first : goal.returns-in-None-first
returns-in-None-first c =
    let line = c.args.line.now in
    let reads : Reads c.match-read_through_cache.first (IsLineOf without_bytes line) = elim c.match-read_through_cache.branch [
      | in-Some w ↦ aread_first line w.in-Some.event c.match-read_through_cache.first w.in-Some.ensures w.first-is
      | in-None+in-Some-ask w ↦ ask_first line w.in-Some-ask.event c.match-read_through_cache.first w.in-None.ensures w.in-Some-ask.ensures w.first-is
      | in-None+in-None-ask w ↦ attach_first line w.attach.result c.match-read_through_cache.first w.in-None.ensures w.in-None-ask.ensures w.attach.ensures w.first-is
    ] in
    IfOk-weaker c.write_through_cache.result (λ event. Reads event (IsLineWith (codes "awrite ") line)) (λ event. Reads event (IsLineOf starts_under_a line))
    (λ event more. either_line line without_bytes (codes "awrite " ∷ []) None event (subst (λ first. Reads first (IsLineOf without_bytes line)) c.in-None-first.is reads) more)
    c.write_through_cache.ensures
