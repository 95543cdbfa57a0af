-- Calls of hardware whose walks make one load an event, one after another: after more events, with fewer devices trusted, with one call before them.
use Rattle.std.proofs.Common.{◌≡◌, ℕ, ◌+◌, Bool, List, [], ◌∷◌, Option, None, Some, Result, Ok, Err, subst, arith}
use Rattle.iom_base.specs.declared.refusal.Refusal.{Refusal}
use Rattle.iom_board.specs.BoardParts.{BoardParts}
use Rattle.iom_hardware_session.proofs.TurnLemmas.{AreFewer, sound_later}
use Rattle.iom_hardware_session.specs.Laws.{ComesFromWalks}
use Rattle.iom_hardware_ways.specs.Calls as whole
use Rattle.iom_hardware_ways.specs.Calls.{HardwareCall}
use Rattle.iom_inflight.specs.declared.made.MadeAt.{MadeAt}
use Rattle.iom_stepped_ways.specs.Calls.{SteppedCall, Alone, Begin, Load, TranslatedBeside, ThroughCacheBeside, FetchBeside, ResetBeside, SteppedEffect, IsNoTrustedWrite, WritesUntrusted, IsByHardware, SteppedInvariant, DoSteppedInTurn}
use Rattle.iom_walks.specs.Walks.{WalkRow}

-- what stays true after so many events does after more
later : (parts : BoardParts) (rows : List WalkRow) (events more : ℕ) → SteppedInvariant parts rows events → SteppedInvariant parts rows (events + more)
later parts rows events more invariants = record { board = sound_later parts events more invariants.board; beside = invariants.beside; walks = invariants.walks }

turns_later : (trusted : ℕ → Bool) (calls : List SteppedCall) (events more : ℕ) (old new : BoardParts) (rows new_rows : List WalkRow)
    → DoSteppedInTurn trusted events old rows calls new new_rows → DoSteppedInTurn trusted (events + more) old rows calls new new_rows
turns_later trusted [] events more old new rows new_rows turns = turns
turns_later trusted (first ∷ others) events more old new rows new_rows (invariants, own, (between, between_rows, effect, rest)) = (
  later old rows events more invariants,
  own,
  (
    between,
    between_rows,
    effect,
    subst (λ (n : ℕ). DoSteppedInTurn trusted n between between_rows others new new_rows) (swap events more)
        (turns_later trusted others (events + 1) more between new between_rows new_rows rest),
  ),
)
  where
    swap : (a b : ℕ) → a + 1 + b ≡ a + b + 1
    swap a b = omega arith

-- what may come after a call may come with the call before it
pub comes_after : (trusted : ℕ → Bool) (call : SteppedCall) (calls : List SteppedCall) (events id : ℕ) (made : MadeAt) (old new : BoardParts) (rows new_rows : List WalkRow)
    → SteppedInvariant old rows events → IsByHardware trusted call → SteppedEffect call old rows new new_rows → ComesFromWalks trusted new new_rows calls id made
    → ComesFromWalks trusted old rows (call ∷ calls) id made
comes_after trusted call calls events id made old new rows new_rows invariants own effect (more, between, between_rows, last, turns, commits) = (
  events + more,
  between,
  between_rows,
  last,
  (
    later old rows events more invariants,
    own,
    (
      new,
      new_rows,
      effect,
      subst (λ (n : ℕ). DoSteppedInTurn trusted n new new_rows calls between between_rows) (swap events more)
          (turns_later trusted calls more (events + 1) new between new_rows between_rows turns),
    ),
  ),
  commits,
)
  where
    swap : (a b : ℕ) → b + (a + 1) ≡ a + b + 1
    swap a b = omega arith

-- FEWER DEVICES ARE TRUSTED

no_write : (fewer more : ℕ → Bool) (id : ℕ) (answer : Result (Option MadeAt) Refusal) → AreFewer fewer more → IsNoTrustedWrite more id answer → IsNoTrustedWrite fewer id answer
no_write fewer more id (Ok (Some made)) are is = λ trusted. is (are id trusted)
no_write fewer more id (Ok None) are is = is
no_write fewer more id (Err why) are is = is

pub untrusted : (fewer more : ℕ → Bool) (call : HardwareCall) → AreFewer fewer more → WritesUntrusted more call → WritesUntrusted fewer call
untrusted fewer more (whole.Commit id answer) are is = no_write fewer more id answer are is
untrusted fewer more (whole.Request sender id access answer) are is = is
untrusted fewer more (whole.Translated id access answer) are is = is
untrusted fewer more (whole.ThroughCache sender id access answer) are is = is
untrusted fewer more (whole.Ask id page answer) are is = is
untrusted fewer more (whole.AskAtStep id page) are is = is
untrusted fewer more (whole.Forge id serial answer) are is = is
untrusted fewer more (whole.Fetch fetched) are is = is
untrusted fewer more (whole.Timeout has_effect) are is = is
untrusted fewer more (whole.Deliver place delivered) are is = is
untrusted fewer more (whole.Drop place found) are is = is
untrusted fewer more (whole.Repeat place again) are is = is
untrusted fewer more (whole.Reset id answer) are is = is

by_hardware : (fewer more : ℕ → Bool) (call : SteppedCall) → AreFewer fewer more → IsByHardware more call → IsByHardware fewer call
by_hardware fewer more (Alone call) are is = untrusted fewer more call are is
by_hardware fewer more (Begin sender id access answer) are is = is
by_hardware fewer more (Load id answer) are is = is
by_hardware fewer more (TranslatedBeside id access answer) are is = is
by_hardware fewer more (ThroughCacheBeside sender id access answer) are is = is
by_hardware fewer more (FetchBeside fetched) are is = is
by_hardware fewer more (ResetBeside id answer) are is = is

pub turns_fewer : (fewer more : ℕ → Bool) (calls : List SteppedCall) (events : ℕ) (old new : BoardParts) (rows new_rows : List WalkRow) → AreFewer fewer more
    → DoSteppedInTurn more events old rows calls new new_rows → DoSteppedInTurn fewer events old rows calls new new_rows
turns_fewer fewer more [] events old new rows new_rows are turns = turns
turns_fewer fewer more (first ∷ others) events old new rows new_rows are (invariants, own, (between, between_rows, effect, rest)) =
    (invariants, by_hardware fewer more first are own, (between, between_rows, effect, turns_fewer fewer more others (events + 1) between new between_rows new_rows are rest))
