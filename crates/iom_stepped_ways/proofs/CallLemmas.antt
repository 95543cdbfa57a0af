-- Each call of a stepped board comes to a scene that covers what it leaves.
use Rattle.std.proofs.Common.{◌≡◌, ◌⊎◌, ◌∙◌, inl, inr, ℕ, Bool, true, false, List, [], ◌∷◌, ◌++◌, length, Option, None, Some, Result, Ok, Err, refl, sym, ap, subst}
use Rattle.std.specs.Result.{OnErr, OnOk}
use Rattle.std.proofs.lemmas.List.Elements.{Contains-append_left}
use Rattle.iom_base.specs.Accesses.{at_frame}
use Rattle.iom_base.specs.declared.access.Access.{Access}
use Rattle.iom_base.specs.declared.access.AccessKind.TheVariants.{Write}
use Rattle.iom_base.specs.declared.refusal.Refusal.{Refusal}
use Rattle.iom_board.specs.BoardParts.{BoardParts}
use Rattle.iom_board.specs.Commits.{CommitsOldestAccess, MakesAccess, ResetsAnyDevice, TakesCommand}
use Rattle.iom_board.specs.Invariant.{BoardInvariant, device_ids}
use Rattle.iom_board.specs.Requests.{Replies}
use Rattle.iom_board.specs.Senders.{untranslated_by, cached_by}
use Rattle.iom_board.specs.ThroughCache.{GoesByCachedFrame, frame_in_cache}
use Rattle.iom_board.specs.declared.answers.CacheReply.{CacheReply}
use Rattle.iom_board.specs.declared.answers.CacheReply.TheVariants.{Miss, Replied}
use Rattle.iom_board.specs.declared.sender.Sender.{Sender}
use Rattle.iom_inflight.specs.Calls.{HasRoom}
use Rattle.iom_inflight.specs.declared.made.MadeAt.{MadeAt}
use Rattle.iom_iommu.specs.Parts.{registers_of, flights_of}
use Rattle.iom_iommu.specs.Stepped.{AnswersTranslatedBeside, BeginsAnewAfter, begins_anew}
use Rattle.iom_iommu.specs.Translated.{AnswersTranslated}
use Rattle.iom_iommu.specs.declared.fetched.Fetched.{Fetched}
use Rattle.iom_iommu.specs.declared.reply.Reply.{Reply}
use Rattle.iom_iommu.specs.declared.reply.Reply.TheVariants.{Accepted, Busy, Fault, BadSpan}
use Rattle.iom_stepped_board.specs.Requests.{RequestsTranslatedBeside}
use Rattle.iom_stepped_board.specs.ThroughCache.{GoesByCacheBeside, GoesByFrameBeside, RequestsThroughCacheBeside}
use Rattle.iom_stepped_board.specs.Beside.{walk_ids}
use Rattle.iom_walks.specs.Calls.{given_up}
use Rattle.iom_walks.specs.Invariant.{RowsInvariant}
use Rattle.iom_walks.specs.Walks.{WalkRow, row_of}
use Rattle.iom_reach.specs.Transitions.{Transition, Make, ComesAbout, ComeInTurn}
use Rattle.iom_hardware_ways.specs.Calls.{HardwareCall, Request, Translated, ThroughCache, Ask, AskAtStep, Forge, Fetch, Timeout, Deliver, Drop, Repeat, Commit, Reset, CallEffect}
use Rattle.iom_hardware_ways.specs.Scenes.{scene_of}
use Rattle.iom_hardware_ways.proofs.CallLemmas.{quiet_calls}
use Rattle.iom_hardware_ways.proofs.FlightLemmas.{commits, makes}
use Rattle.iom_hardware_ways.proofs.Turns.{Comes, in_succession}
use Rattle.iom_stepped_ways.proofs.AnewLemmas.{begin_anew}
use Rattle.iom_stepped_ways.proofs.FrameLemmas.{comes_beside, left_beside}
use Rattle.iom_stepped_ways.proofs.GrowLemmas.{AreAdded, given_up_added}
use Rattle.iom_stepped_ways.proofs.SizeLemmas.{stepped_keeps_size}
use Rattle.iom_stepped_ways.proofs.StepLemmas.{Covered, begin_covers, load_covers, same_scene, unchanged}
use Rattle.iom_stepped_ways.specs.Calls.{SteppedCall, Alone, Begin, Load, TranslatedBeside, ThroughCacheBeside, FetchBeside, ResetBeside, SteppedEffect, IsByHardware, WritesUntrusted, IsNoTrustedWrite, SteppedInvariant}
use Rattle.iom_stepped_ways.specs.Laws.{SteppedCallsAreTransitions}
use Rattle.iom_stepped_ways.specs.Scenes.{Added, access_on, with_added}

-- a call of the board that makes no access, and leaves what is under way
alone : (trusted : ℕ → Bool) (old new : BoardParts) (rows new_rows : List WalkRow) (a : Added) → Comes (scene_of trusted old) (scene_of trusted new) → new_rows ≡ rows
    → AreAdded (length old.memory) a rows → Covered trusted old a new new_rows
alone trusted old new rows new_rows a comes same all =
    (a, comes_beside (scene_of trusted old) (scene_of trusted new) a comes, subst (AreAdded (length old.memory) a) (sym same) all)

-- A TRANSLATED REQUEST is one of the board's, or changes nothing
translated_call : (trusted : ℕ → Bool) (old new : BoardParts) (rows : List WalkRow) (id : ℕ) (access : Access) (reply : Reply)
    → Replies (AnswersTranslatedBeside old.memory old.iommu rows id access) old reply new
    → (scene_of trusted new ≡ scene_of trusted old) ⊎ (Replies (AnswersTranslated old.memory old.iommu id access) old reply new × HasRoom (flights_of old.iommu) id)
translated_call trusted old new rows id access BadSpan replies =
    let (out, iommu, memory) = replies.call in inl (same_scene trusted old new memory iommu replies.devices replies.fabric)
translated_call trusted old new rows id access Busy replies =
    let (within, full, iommu, memory) = replies.call in inl (same_scene trusted old new memory iommu replies.devices replies.fabric)
translated_call trusted old new rows id access (Accepted number) replies =
    let is = replies.call.1.0.accepted in
    inr (record { call = replies.call.1; devices = replies.devices; fabric = replies.fabric }, record { row = is.row; stands = is.stands; room = is.room })
translated_call trusted old new rows id access (Fault cause) replies =
    inr (record { call = replies.call.1; devices = replies.devices; fabric = replies.fabric }, replies.call.1.room)

translated_covers : (trusted : ℕ → Bool) (old new : BoardParts) (rows new_rows : List WalkRow) (a : Added) (events id : ℕ) (access : Access) (answer : Result Reply Refusal) → BoardInvariant old events
    → AreAdded (length old.memory) a rows → new_rows ≡ rows → RequestsTranslatedBeside old rows id access answer new → Covered trusted old a new new_rows
translated_covers trusted old new rows new_rows a events id access answer invariants all same (inl absent) = unchanged trusted old new rows new_rows a (ap (scene_of trusted) absent.same) same all
translated_covers trusted old new rows new_rows a events id access answer invariants all same (inr (inl other)) = unchanged trusted old new rows new_rows a (ap (scene_of trusted) other.same) same all
translated_covers trusted old new rows new_rows a events id access answer invariants all same (inr (inr so)) = elim (translated_call trusted old new rows id access so.given so.call) [
  | inl is ↦ unchanged trusted old new rows new_rows a is same all
  | inr (call, room) ↦ alone trusted old new rows new_rows a
      (quiet_calls trusted (Translated id access answer) events old new tt invariants (inr (inr (record { able = so.able; given = so.given; answered = so.answered; call = call })))) same all
]

-- AN ACCESS THROUGH A CACHE: the same
cached_call : (trusted : ℕ → Bool) (old new : BoardParts) (rows : List WalkRow) (id : ℕ) (access : Access) (found : Option ℕ) (reply : CacheReply)
    → GoesByFrameBeside found rows id access old reply new
    → (scene_of trusted new ≡ scene_of trusted old) ⊎ (GoesByCachedFrame found id access old reply new × HasRoom (flights_of old.iommu) id)
cached_call trusted old new rows id access None Miss same = inl (ap (scene_of trusted) same)
cached_call trusted old new rows id access None (Replied reply) never = absurd never
cached_call trusted old new rows id access (Some frame) Miss never = absurd never
cached_call trusted old new rows id access (Some frame) (Replied reply) replies = translated_call trusted old new rows id (at_frame frame access) reply replies

module _ (trusted : ℕ → Bool) (old new : BoardParts) (rows new_rows : List WalkRow) (a : Added) (events : ℕ) (invariants : BoardInvariant old events)
    (all : AreAdded (length old.memory) a rows) where
  through_cache_covers : (sender : Sender) (id : ℕ) (access : Access) (answer : Result CacheReply Refusal) → new_rows ≡ rows
      → RequestsThroughCacheBeside (cached_by sender) old rows id access answer new → Covered trusted old a new new_rows
  through_cache_covers sender id access answer same (inl absent) = unchanged trusted old new rows new_rows a (ap (scene_of trusted) absent.same) same all
  through_cache_covers sender id access answer same (inr (inl other)) = unchanged trusted old new rows new_rows a (ap (scene_of trusted) other.same) same all
  through_cache_covers sender id access answer same (inr (inr so)) = by so.call
    where
      by : GoesByCacheBeside rows id access old so.given new → Covered trusted old a new new_rows
      by (inl (out, reply, is)) = unchanged trusted old new rows new_rows a (ap (scene_of trusted) is) same all
      by (inr (inl (within, full, reply, is))) = unchanged trusted old new rows new_rows a (ap (scene_of trusted) is) same all
      by (inr (inr (within, room, goes))) = elim (cached_call trusted old new rows id access (frame_in_cache old id access) so.given goes) [
        | inl is ↦ unchanged trusted old new rows new_rows a is same all
        | inr (call, has) ↦ alone trusted old new rows new_rows a
            (quiet_calls trusted (ThroughCache sender id access answer) events old new tt invariants
            (inr (inr (record { able = so.able; given = so.given; answered = so.answered; call = inr (inr (within, has, call)) })))) same all
      ]

  -- A COMMAND IS TAKEN: all that is under way may begin anew
  fetch_covers : (fetched : Fetched) → walk_ids rows ≡ device_ids old.devices → RowsInvariant rows → length new.memory ≡ length old.memory → TakesCommand old fetched new
      → BeginsAnewAfter (begins_anew fetched) (registers_of new.iommu).ddtp rows new_rows → Covered trusted old a new new_rows
  fetch_covers fetched ids holds size takes anew = by (begins_anew fetched) anew
    where
      comes : Comes (with_added (scene_of trusted old) a) (with_added (scene_of trusted new) a)
      comes = comes_beside (scene_of trusted old) (scene_of trusted new) a (quiet_calls trusted (Fetch fetched) events old new tt invariants takes)

      by : (b : Bool) → BeginsAnewAfter b (registers_of new.iommu).ddtp rows new_rows → Covered trusted old a new new_rows
      by true begin =
          let (b, grows, added) = begin_anew trusted new rows new_rows a begin holds (ids ∙ ap device_ids (sym takes.devices)) in (
            b,
            in_succession (with_added (scene_of trusted old) a) (with_added (scene_of trusted new) a) (with_added (scene_of trusted new) b) comes grows,
            subst (λ n. AreAdded n b new_rows) size added,
          )
      by false same = (a, comes, subst (AreAdded (length old.memory) a) (sym same) all)

  -- A DEVICE IS RESET: what is under way of it is given up
  reset_covers : (id : ℕ) (answer : Result (Unit {0}) Refusal) → ResetsAnyDevice old id answer new → OnOk answer (new_rows ≡ given_up rows (row_of rows id)) → OnErr answer (new_rows ≡ rows)
      → Covered trusted old a new new_rows
  reset_covers id answer resets given kept = (
    a,
    comes_beside (scene_of trusted old) (scene_of trusted new) a (quiet_calls trusted (Reset id answer) events old new tt invariants resets),
    by answer given kept,
  )
    where
      by : (reply : Result (Unit {0}) Refusal) → OnOk reply (new_rows ≡ given_up rows (row_of rows id)) → OnErr reply (new_rows ≡ rows) → AreAdded (length old.memory) a new_rows
      by (Ok done) is none = subst (AreAdded (length old.memory) a) (sym is) (given_up_added (length old.memory) a rows id (row_of rows id) refl all)
      by (Err why) none same = subst (AreAdded (length old.memory) a) (sym same) all

-- AN ACCESS IS MADE, of a device that isn't trusted where it writes
pub makes_beside : (trusted : ℕ → Bool) (old new : BoardParts) (a : Added) (id : ℕ) (made : MadeAt) → MakesAccess id old (Some made) new → (trusted id ≡ true → ¬ (made.kind ≡ Write))
    → ComesAbout (Make id (access_on made.frame made.kind)) (with_added (scene_of trusted old) a) (with_added (scene_of trusted new) a)
makes_beside trusted old new a id made effect untrusted =
    let (left, memory, there, among, harmless, after, is) = makes trusted old id made new effect (λ trusts writes read. untrusted trusts writes) in (
      (λ d. left d ++ a.let_through d),
      memory,
      Contains-append_left ((scene_of trusted old).in_flight id) (a.let_through id) (access_on made.frame made.kind) there,
      left_beside (scene_of trusted old) a left among,
      (λ trusts writes read. untrusted trusts writes),
      after,
      ap (λ s. with_added s a) is,
    )

-- EACH CALL
abbrev Reached : (ℕ → Bool) → BoardParts → Added → BoardParts → List WalkRow → Type 0
Reached trusted old a new new_rows =
    (transitions : List Transition) × (b : Added) × ComeInTurn (with_added (scene_of trusted old) a) transitions (with_added (scene_of trusted new) b) × AreAdded (length old.memory) b new_rows

quietly : (trusted : ℕ → Bool) (old : BoardParts) (a : Added) (new : BoardParts) (new_rows : List WalkRow) → Covered trusted old a new new_rows → Reached trusted old a new new_rows
quietly trusted old a new new_rows (b, (transitions, quiet, turns), added) = (transitions, b, turns, added)

commit_reaches : (trusted : ℕ → Bool) (old new : BoardParts) (rows new_rows : List WalkRow) (a : Added) (id : ℕ) (answer : Result (Option MadeAt) Refusal)
    → AreAdded (length old.memory) a rows → new_rows ≡ rows → IsNoTrustedWrite trusted id answer → CommitsOldestAccess old id answer new → Reached trusted old a new new_rows
commit_reaches trusted old new rows new_rows a id answer all same untrusted effect = elim (commits trusted old id answer new effect) [
  | inl is ↦ quietly trusted old a new new_rows (unchanged trusted old new rows new_rows a is same all)
  | inr (made, reply, makes) ↦ (
    Make id (access_on made.frame made.kind) ∷ [],
    a,
    (with_added (scene_of trusted new) a, makes_beside trusted old new a id made makes (subst (IsNoTrustedWrite trusted id) reply untrusted), refl),
    subst (AreAdded (length old.memory) a) (sym same) all,
  )
]

alone_reaches : (trusted : ℕ → Bool) (call : HardwareCall) (events : ℕ) (old new : BoardParts) (rows new_rows : List WalkRow) (a : Added) → BoardInvariant old events
    → AreAdded (length old.memory) a rows → new_rows ≡ rows → WritesUntrusted trusted call → CallEffect call old new → Reached trusted old a new new_rows
alone_reaches trusted (Request sender id access answer) events old new rows new_rows a invariants all same untrusted effect =
    quietly trusted old a new new_rows (alone trusted old new rows new_rows a (quiet_calls trusted (Request sender id access answer) events old new tt invariants effect) same all)
alone_reaches trusted (Translated id access answer) events old new rows new_rows a invariants all same untrusted effect =
    quietly trusted old a new new_rows (alone trusted old new rows new_rows a (quiet_calls trusted (Translated id access answer) events old new tt invariants effect) same all)
alone_reaches trusted (ThroughCache sender id access answer) events old new rows new_rows a invariants all same untrusted effect =
    quietly trusted old a new new_rows (alone trusted old new rows new_rows a (quiet_calls trusted (ThroughCache sender id access answer) events old new tt invariants effect) same all)
alone_reaches trusted (Ask id page answer) events old new rows new_rows a invariants all same untrusted effect =
    quietly trusted old a new new_rows (alone trusted old new rows new_rows a (quiet_calls trusted (Ask id page answer) events old new tt invariants effect) same all)
alone_reaches trusted (AskAtStep id page) events old new rows new_rows a invariants all same untrusted effect =
    quietly trusted old a new new_rows (alone trusted old new rows new_rows a (quiet_calls trusted (AskAtStep id page) events old new tt invariants effect) same all)
alone_reaches trusted (Forge id serial answer) events old new rows new_rows a invariants all same untrusted effect =
    quietly trusted old a new new_rows (alone trusted old new rows new_rows a (quiet_calls trusted (Forge id serial answer) events old new tt invariants effect) same all)
alone_reaches trusted (Fetch fetched) events old new rows new_rows a invariants all same untrusted effect =
    quietly trusted old a new new_rows (alone trusted old new rows new_rows a (quiet_calls trusted (Fetch fetched) events old new tt invariants effect) same all)
alone_reaches trusted (Timeout has_effect) events old new rows new_rows a invariants all same untrusted effect =
    quietly trusted old a new new_rows (alone trusted old new rows new_rows a (quiet_calls trusted (Timeout has_effect) events old new tt invariants effect) same all)
alone_reaches trusted (Deliver place delivered) events old new rows new_rows a invariants all same untrusted effect =
    quietly trusted old a new new_rows (alone trusted old new rows new_rows a (quiet_calls trusted (Deliver place delivered) events old new tt invariants effect) same all)
alone_reaches trusted (Drop place found) events old new rows new_rows a invariants all same untrusted effect =
    quietly trusted old a new new_rows (alone trusted old new rows new_rows a (quiet_calls trusted (Drop place found) events old new tt invariants effect) same all)
alone_reaches trusted (Repeat place repeated) events old new rows new_rows a invariants all same untrusted effect =
    quietly trusted old a new new_rows (alone trusted old new rows new_rows a (quiet_calls trusted (Repeat place repeated) events old new tt invariants effect) same all)
alone_reaches trusted (Reset id answer) events old new rows new_rows a invariants all same untrusted effect =
    quietly trusted old a new new_rows (alone trusted old new rows new_rows a (quiet_calls trusted (Reset id answer) events old new tt invariants effect) same all)
alone_reaches trusted (Commit id answer) events old new rows new_rows a invariants all same untrusted effect = commit_reaches trusted old new rows new_rows a id answer all same untrusted effect

reaches : (trusted : ℕ → Bool) (call : SteppedCall) (events : ℕ) (old new : BoardParts) (rows new_rows : List WalkRow) (a : Added) → SteppedInvariant old rows events
    → SteppedEffect call old rows new new_rows → IsByHardware trusted call → AreAdded (length old.memory) a rows → Reached trusted old a new new_rows
reaches trusted (Alone call) events old new rows new_rows a invariants effect by_hardware all =
    alone_reaches trusted call events old new rows new_rows a invariants.board all effect.1 by_hardware effect.0
reaches trusted (Begin sender id access answer) events old new rows new_rows a invariants effect by_hardware all =
    quietly trusted old a new new_rows (begin_covers trusted (untranslated_by sender) old new rows new_rows a id access answer invariants.walks all effect)
reaches trusted (Load id answer) events old new rows new_rows a invariants effect by_hardware all =
    quietly trusted old a new new_rows (load_covers trusted old new rows new_rows a id answer invariants.walks all effect)
reaches trusted (TranslatedBeside id access answer) events old new rows new_rows a invariants effect by_hardware all =
    quietly trusted old a new new_rows (translated_covers trusted old new rows new_rows a events id access answer invariants.board all effect.1 effect.0)
reaches trusted (ThroughCacheBeside sender id access answer) events old new rows new_rows a invariants effect by_hardware all =
    quietly trusted old a new new_rows (through_cache_covers trusted old new rows new_rows a events invariants.board all sender id access answer effect.1 effect.0)
reaches trusted (FetchBeside fetched) events old new rows new_rows a invariants effect by_hardware all =
    quietly trusted old a new new_rows
    (fetch_covers trusted old new rows new_rows a events invariants.board all fetched invariants.beside.ids invariants.walks.rows_are
    (stepped_keeps_size (FetchBeside fetched) old new rows new_rows effect) effect.0 effect.1)
reaches trusted (ResetBeside id answer) events old new rows new_rows a invariants effect by_hardware all =
    quietly trusted old a new new_rows (reset_covers trusted old new rows new_rows a events invariants.board all id answer effect.0 effect.1 effect.2)

pub stepped_calls_are_transitions : SteppedCallsAreTransitions
stepped_calls_are_transitions trusted call events old new rows new_rows scene invariants effect by_hardware covers =
    let (transitions, b, turns, added) = reaches trusted call events old new rows new_rows covers.added invariants effect by_hardware covers.walks in (
      transitions,
      with_added (scene_of trusted new) b,
      subst (λ s. ComeInTurn s transitions (with_added (scene_of trusted new) b)) (sym covers.is) turns,
      record { added = b; is = refl; walks = subst (λ n. AreAdded n b new_rows) (sym (stepped_keeps_size call old new rows new_rows effect)) added },
    )
