-- Steps that are still to come, when commands are queued and fetched.
use Rattle.std.proofs.Common.{◌≡◌, ℕ, ◌+◌, ◌<◌, ◌≤◌, inl, inr, false, List, [], ◌∷◌, ◌++◌, Contains, sym, ◌∙◌, subst, arith}
use Rattle.std.proofs.lemmas.Bool.{false≢true, eqb-true}
use Rattle.iom_coherence.specs.Queue.{DropContext, DropTranslations, Fence, Invalidate, QueuedCommand}
use Rattle.iom_coherence.specs.Scene.{PendingTicket, FenceSnapshot}
use Rattle.iom_coherence.specs.DriverCalls.{waiting_for}
use Rattle.iom_coherence.specs.ToCome.{FencesRise, InOrder, QueuedStep, TicketsRise, is_fence}
use Rattle.iom_coherence.proofs.ListLemmas.{in_none, cons_cases}

-- more commands behind
pub in_order-more : (steps : List QueuedStep) (commands more : List QueuedCommand) → InOrder steps commands → InOrder steps (commands ++ more)
in_order-more [] commands more o = tt
in_order-more (step ∷ steps) [] more o = absurd o
in_order-more (step ∷ steps) (command ∷ later) more (inl (effect, o)) = inl (effect, in_order-more steps later more o)
in_order-more (step ∷ steps) (command ∷ later) more (inr o) = inr (in_order-more (step ∷ steps) later more o)

-- the last of the commands
pub in_order-last : (steps : List QueuedStep) (commands more : List QueuedCommand) → InOrder steps more → InOrder steps (commands ++ more)
in_order-last [] commands more o = tt
in_order-last (step ∷ steps) [] more o = o
in_order-last (step ∷ steps) (command ∷ later) more o = inr (in_order-last (step ∷ steps) later more o)

-- without the first step
pub in_order-rest : (step : QueuedStep) (steps : List QueuedStep) (commands : List QueuedCommand) → InOrder (step ∷ steps) commands → InOrder steps commands
in_order-rest step [] commands o = tt
in_order-rest step (next ∷ steps) [] o = absurd o
in_order-rest step (next ∷ steps) (command ∷ later) (inl (effect, o)) = inr o
in_order-rest step (next ∷ steps) (command ∷ later) (inr o) = inr (in_order-rest step (next ∷ steps) later o)

-- the head isn't the first step
pub in_order-fetched : (step : QueuedStep) (steps : List QueuedStep) (command : QueuedCommand) (later : List QueuedCommand) → step command ≡ false → InOrder (step ∷ steps) (command ∷ later) → InOrder (step ∷ steps) later
in_order-fetched step steps command later not_it (inl (effect, o)) = absurd (false≢true (sym not_it ∙ effect))
in_order-fetched step steps command later not_it (inr o) = o

-- the last fence isn't before the number that they follow
pub rise_le : (low : ℕ) (commands : List QueuedCommand) (high : ℕ) → FencesRise low commands high → low ≤ high
rise_le low [] high r = r
rise_le low (DropTranslations d extent ∷ later) high r = rise_le low later high r
rise_le low (DropContext d ∷ later) high r = rise_le low later high r
rise_le low (Invalidate d extent ∷ later) high r = rise_le low later high r
rise_le low (Fence number ∷ later) high r = let rest = rise_le number later high r.1 in omega (arith, r.0, rest)

-- a fence in the queue is above the last that is done
pub fence_above : (fence low : ℕ) (commands : List QueuedCommand) (high : ℕ) → FencesRise low commands high → InOrder (is_fence fence ∷ []) commands → low < fence
fence_above fence low [] high r o = absurd o
fence_above fence low (DropTranslations d extent ∷ later) high r (inl (effect, o)) = absurd (false≢true effect)
fence_above fence low (DropTranslations d extent ∷ later) high r (inr o) = fence_above fence low later high r o
fence_above fence low (DropContext d ∷ later) high r (inl (effect, o)) = absurd (false≢true effect)
fence_above fence low (DropContext d ∷ later) high r (inr o) = fence_above fence low later high r o
fence_above fence low (Invalidate d extent ∷ later) high r (inl (effect, o)) = absurd (false≢true effect)
fence_above fence low (Invalidate d extent ∷ later) high r (inr o) = fence_above fence low later high r o
fence_above fence low (Fence number ∷ later) high r (inl (effect, o)) = subst (λ n. low < n) (eqb-true number fence effect) r.0
fence_above fence low (Fence number ∷ later) high r (inr o) = let rest = fence_above fence number later high r.1 o in omega (arith, r.0, rest)

-- one more fence at the end, behind commands that are none
pub rise-fence : (low : ℕ) (commands : List QueuedCommand) (high : ℕ) → FencesRise low commands high → FencesRise low (commands ++ Fence (high + 1) ∷ []) (high + 1)
rise-fence low [] high r = (omega (arith, r), omega arith)
rise-fence low (DropTranslations d extent ∷ later) high r = rise-fence low later high r
rise-fence low (DropContext d ∷ later) high r = rise-fence low later high r
rise-fence low (Invalidate d extent ∷ later) high r = rise-fence low later high r
rise-fence low (Fence number ∷ later) high r = (r.0, rise-fence number later high r.1)

-- more commands that rise from there
pub rise-more : (low : ℕ) (commands more : List QueuedCommand) (mid high : ℕ) → FencesRise low commands mid → ((l : ℕ) → l ≤ mid → FencesRise l more high) → FencesRise low (commands ++ more) high
rise-more low [] more mid high r next = next low r
rise-more low (DropTranslations d extent ∷ later) more mid high r next = rise-more low later more mid high r next
rise-more low (DropContext d ∷ later) more mid high r next = rise-more low later more mid high r next
rise-more low (Invalidate d extent ∷ later) more mid high r next = rise-more low later more mid high r next
rise-more low (Fence number ∷ later) more mid high r next = (r.0, rise-more number later more mid high r.1 next)

-- the ticket, waiting for the fence
abbrev pub Waits : ℕ → ℕ → PendingTicket
Waits ticket fence = record { ticket = ticket; fence = fence }

-- the last ticket isn't before the number that they follow
pub tickets_le : (low : ℕ) (pending : List PendingTicket) (high : ℕ) → TicketsRise low pending high → low ≤ high
tickets_le low [] high r = r
tickets_le low (first ∷ later) high r = let rest = tickets_le first.ticket later high r.1 in omega (arith, r.0, rest)

-- a pending ticket is above the last that is confirmed, and was given
pub ticket_within : (low : ℕ) (pending : List PendingTicket) (high ticket fence : ℕ) → TicketsRise low pending high → Contains pending (Waits ticket fence) → (low < ticket) × (ticket ≤ high)
ticket_within low [] high ticket fence r c = absurd (in_none (Waits ticket fence) c)
ticket_within low (first ∷ later) high ticket fence r c = elim (cons_cases first later (Waits ticket fence) c) [
  | inl same ↦ subst (λ (p : PendingTicket). (low < p.ticket) × (p.ticket ≤ high)) same (r.0, tickets_le first.ticket later high r.1)
  | inr there ↦ let rest = ticket_within first.ticket later high ticket fence r.1 there in (omega (arith, r.0, rest.0), rest.1)
]

-- one more ticket
pub tickets-push : (low : ℕ) (pending : List PendingTicket) (high fence : ℕ) → TicketsRise low pending high → TicketsRise low (pending ++ Waits (high + 1) fence ∷ []) (high + 1)
tickets-push low [] high fence r = (omega (arith, r), omega arith)
tickets-push low (first ∷ later) high fence r = (r.0, tickets-push first.ticket later high fence r.1)

-- the tickets wait for another fence
pub tickets-waiting_for : (low : ℕ) (pending : List PendingTicket) (high fence : ℕ) → TicketsRise low pending high → TicketsRise low (waiting_for fence pending) high
tickets-waiting_for low [] high fence r = r
tickets-waiting_for low (first ∷ later) high fence r = (r.0, tickets-waiting_for first.ticket later high fence r.1)

-- the snapshot of the fence
abbrev pub Snapshotted : ℕ → ℕ → FenceSnapshot
Snapshotted fence accepted = record { fence = fence; accepted = accepted }
