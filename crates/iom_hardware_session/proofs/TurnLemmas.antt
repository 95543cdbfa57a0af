-- Calls of hardware one after another: after more events, with fewer devices trusted, with one call before them.
use Rattle.std.proofs.Common.{◌≡◌, inl, inr, ℕ, ◌+◌, Bool, true, List, [], ◌∷◌, Option, None, Some, Result, Ok, Err, subst, arith}
use Rattle.iom_base.specs.declared.refusal.Refusal.{Refusal}
use Rattle.iom_board.specs.BoardParts.{BoardParts}
use Rattle.iom_board.specs.Invariant.{BoardInvariant}
use Rattle.iom_hardware_ways.specs.Calls.{HardwareCall, Request, Translated, ThroughCache, Ask, AskAtStep, Forge, Fetch, Timeout, Deliver, Drop, Repeat, Commit, Reset, CallEffect, IsMadeHarmlessly, HarmlessEffect, DoInTurn}
use Rattle.iom_hardware_ways.specs.Scenes.{scene_of}
use Rattle.iom_hardware_session.specs.Laws.{ComesFromParts}
use Rattle.iom_inflight.specs.declared.made.MadeAt.{MadeAt}
use Rattle.iom_reach.specs.Memory.{WalkStep}
use Rattle.iom_reach.specs.Safe.{IsOfTables, IsRead}
use Rattle.iom_reach.specs.Scene.{AddressSpace}
use Rattle.iom_reach.specs.Ways.{WalkBegins, AtRoot, PartWay}

-- what is sound after so many events is after more
pub sound_later : (parts : BoardParts) (events more : ℕ) → BoardInvariant parts events → BoardInvariant parts (events + more)
sound_later parts events more invariants = record {
  size = invariants.size;
  own_ids = invariants.own_ids;
  rows = invariants.rows;
  caches = invariants.caches;
  askers = invariants.askers;
  accepted = let is = invariants.accepted in omega (arith, is);
  serials = let is = invariants.serials in omega (arith, is);
  epochs = λ id. let is = invariants.epochs id in omega (arith, is);
}

pub turns_later : (trusted : ℕ → Bool) (calls : List HardwareCall) (events more : ℕ) (old new : BoardParts) → DoInTurn trusted events old calls new
    → DoInTurn trusted (events + more) old calls new
turns_later trusted [] events more old new turns = turns
turns_later trusted (first ∷ others) events more old new (invariants, harmless, (between, effect, rest)) =
    (sound_later old events more invariants, harmless, (between, effect, subst (λ (n : ℕ). DoInTurn trusted n between others new) (swap events more) (turns_later trusted others (events + 1) more between new rest)))
  where
    swap : (a b : ℕ) → a + 1 + b ≡ a + b + 1
    swap a b = omega arith

-- what may come after a call may come with the call before it
pub comes_before : (trusted : ℕ → Bool) (call : HardwareCall) (calls : List HardwareCall) (events id : ℕ) (made : MadeAt) (old new : BoardParts) → BoardInvariant old events
    → HarmlessEffect trusted call old → CallEffect call old new → ComesFromParts trusted new calls id made → ComesFromParts trusted old (call ∷ calls) id made
comes_before trusted call calls events id made old new invariants harmless effect (more, between, last, turns, makes) = (
  events + more,
  between,
  last,
  (sound_later old events more invariants, harmless, (new, effect, subst (λ (n : ℕ). DoInTurn trusted n new calls between) (swap events more) (turns_later trusted calls more (events + 1) new between turns))),
  makes,
)
  where
    swap : (a b : ℕ) → b + (a + 1) ≡ a + b + 1
    swap a b = omega arith

-- FEWER DEVICES ARE TRUSTED
abbrev pub AreFewer : (ℕ → Bool) → (ℕ → Bool) → Type 0
AreFewer fewer more = (id : ℕ) → fewer id ≡ true → more id ≡ true

-- hardware reads the same, whoever is trusted
walk_begins : (fewer more : ℕ → Bool) (parts : BoardParts) (space : AddressSpace) (table : ℕ) (steps_to : ℕ → List WalkStep) → WalkBegins (scene_of fewer parts) space table steps_to
    → WalkBegins (scene_of more parts) space table steps_to
walk_begins fewer more parts space table steps_to (AtRoot device context tables find inside tables_are root steps) = AtRoot device context tables find inside tables_are root steps
walk_begins fewer more parts space table steps_to (PartWay device partial) = PartWay device partial

tables_either : (fewer more : ℕ → Bool) (parts : BoardParts) (frame : ℕ) → IsOfTables (scene_of fewer parts) frame → IsOfTables (scene_of more parts) frame
tables_either fewer more parts frame (space, table, steps_to, page, begins, reads) = (space, table, steps_to, page, walk_begins fewer more parts space table steps_to begins, reads)

read_either : (fewer more : ℕ → Bool) (parts : BoardParts) (frame : ℕ) → IsRead (scene_of fewer parts) frame → IsRead (scene_of more parts) frame
read_either fewer more parts frame (inl tables) = inl (tables_either fewer more parts frame tables)
read_either fewer more parts frame (inr others) = inr others

made_fewer : (fewer more : ℕ → Bool) (parts : BoardParts) (id : ℕ) (answer : Result (Option MadeAt) Refusal) → AreFewer fewer more → IsMadeHarmlessly more parts id answer
    → IsMadeHarmlessly fewer parts id answer
made_fewer fewer more parts id (Ok (Some made)) are is = λ trusted write read. is (are id trusted) write (read_either fewer more parts made.frame read)
made_fewer fewer more parts id (Ok None) are is = is
made_fewer fewer more parts id (Err why) are is = is

does_fewer : (fewer more : ℕ → Bool) (call : HardwareCall) (parts : BoardParts) → AreFewer fewer more → HarmlessEffect more call parts → HarmlessEffect fewer call parts
does_fewer fewer more (Commit id answer) parts are is = made_fewer fewer more parts id answer are is
does_fewer fewer more (Request sender id access answer) parts are is = is
does_fewer fewer more (Translated id access answer) parts are is = is
does_fewer fewer more (ThroughCache sender id access answer) parts are is = is
does_fewer fewer more (Ask id page answer) parts are is = is
does_fewer fewer more (AskAtStep id page) parts are is = is
does_fewer fewer more (Forge id serial answer) parts are is = is
does_fewer fewer more (Fetch fetched) parts are is = is
does_fewer fewer more (Timeout has_effect) parts are is = is
does_fewer fewer more (Deliver place delivered) parts are is = is
does_fewer fewer more (Drop place found) parts are is = is
does_fewer fewer more (Repeat place again) parts are is = is
does_fewer fewer more (Reset id answer) parts are is = is

turns_fewer : (fewer more : ℕ → Bool) (calls : List HardwareCall) (events : ℕ) (old new : BoardParts) → AreFewer fewer more → DoInTurn more events old calls new
    → DoInTurn fewer events old calls new
turns_fewer fewer more [] events old new are turns = turns
turns_fewer fewer more (first ∷ others) events old new are (invariants, harmless, (between, effect, rest)) =
    (invariants, does_fewer fewer more first old are harmless, (between, effect, turns_fewer fewer more others (events + 1) between new are rest))

pub comes_fewer : (fewer more : ℕ → Bool) (parts : BoardParts) (calls : List HardwareCall) (id : ℕ) (made : MadeAt) → AreFewer fewer more → ComesFromParts more parts calls id made
    → ComesFromParts fewer parts calls id made
comes_fewer fewer more parts calls id made are (events, between, new, turns, (commits, harmless)) =
    (events, between, new, turns_fewer fewer more calls events parts between are turns, (commits, made_fewer fewer more between id (Ok (Some made)) are harmless))
