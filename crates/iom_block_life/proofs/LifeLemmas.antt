-- What follows from a whole life.
use Rattle.std.proofs.Common.{◌≡◌, inl, inr, ℕ, zero, suc, ◌+◌, ◌*◌, ◌%◌, ◌≤◌, List, [], ◌∷◌, ◌++◌, length, map, slice_get, Some, sym, ap, ◌∙◌, subst, arith, append-nil, append_assoc, length-append}
use Rattle.std.proofs.lemmas.List.{map-append}
use Rattle.std.proofs.lemmas.Option.{slice_get_within}
use Rattle.std.proofs.Math.Nat.{mod-add-mod}
use Rattle.iom_virtqueue.specs.declared.layout.Layout.{Layout}
use Rattle.iom_virtqueue.specs.Accesses.{Access, reads, wrapped}
use Rattle.iom_virtio_blk.specs.declared.stage.Stage.TheVariants.{NeedsReset}
use Rattle.iom_virtqueue.specs.declared.phase.Phase.TheVariants.{AvailableIndex}
use Rattle.iom_virtio_blk.specs.Steps.{Device}
use Rattle.iom_block_life.specs.Lives.{Turn, Lives, Taken, taken_at, finished_at, head_of, reads_entry, HasFreshQueue, UsesEachOnce}
use Rattle.iom_block_life.proofs.QueueTurns.{in_work, invariants, at_most_one}
use Rattle.iom_block_life.proofs.DeviceTurns.{Works, Follows, turns_on, stopped_turns}

-- the access that reads the entry at this place
abbrev at_place : Layout → ℕ → Access
at_place layout place = reads (wrapped (layout.available_ring + (4 + 2 * place))) 2

-- what is shown of a life that begins with any device that works
record LivesOn (layout : Layout) (old new : Device) (taken : List Taken) (finished : List ℕ) : Type 0 where
  rest : List ℕ
  heads : in_work old.front.queue ++ map head_of taken ≡ finished ++ rest
  few : length rest ≤ 1
  counted : new.front.queue.finished ≡ (old.front.queue.finished + length finished) % 65536
  places : (k : ℕ) (entry : Taken) → slice_get taken k ≡ Some entry
      → entry.access ≡ reads_entry layout (old.front.queue.finished + length (in_work old.front.queue) + k)

nothing_there : (taken : List Taken) → taken ≡ [] → (k : ℕ) (entry : Taken) → slice_get taken k ≡ Some entry → ⊥
nothing_there taken none k entry at =
    let within = slice_get_within taken k entry at in
    let short = ap length none in
    omega (arith, within, short)

-- a device that is to be reset takes and finishes nothing any more
record Rests (old new : Device) (taken : List Taken) (finished : List ℕ) : Type 0 where
  none_taken : taken ≡ []
  none_finished : finished ≡ []
  counted : new.front.queue.finished ≡ old.front.queue.finished

rests : (old new : Device) (turns : List Turn) (taken : List Taken) (finished : List ℕ)
    → old.front.stage ≡ NeedsReset → Lives old turns taken finished new → Rests old new taken finished
rests old new [] taken finished is lives =
    record { none_taken = lives.0; none_finished = lives.1; counted = ap (λ d. d.front.queue.finished) lives.2 }
rests old new (turn ∷ turns) taken finished is (next, later, ends, happens, took, done, lives) =
    let one = stopped_turns old next is turn happens in
    let more = rests next new turns later ends one.stage lives in
    record {
      none_taken = took ∙ ap (λ first. first ++ later) one.none_taken ∙ more.none_taken;
      none_finished = done ∙ ap (λ first. first ++ ends) one.none_finished ∙ more.none_finished;
      counted = more.counted ∙ one.counted;
    }

-- what holds of each of two lists, one behind the other
order_append : (P : ℕ → Taken → Type 0) (first later : List Taken)
    → ((k : ℕ) (entry : Taken) → slice_get first k ≡ Some entry → P k entry)
    → ((k : ℕ) (entry : Taken) → slice_get later k ≡ Some entry → P (length first + k) entry)
    → (k : ℕ) (entry : Taken) → slice_get (first ++ later) k ≡ Some entry → P k entry
order_append P [] later here there k entry at = subst (λ (n : ℕ). P n entry) (omega arith) (there k entry at)
order_append P (one ∷ first) later here there zero entry at = here zero entry at
order_append P (one ∷ first) later here there (suc k) entry at =
    order_append (λ n. P (suc n)) first later (λ n. here (suc n)) (λ n e found. subst (λ (m : ℕ). P m e) (omega arith) (there n e found)) k entry at

-- nothing is taken or finished any more
ended : (layout : Layout) (old new : Device) (taken : List Taken) (finished : List ℕ) → Works layout old
    → taken ≡ [] → finished ≡ [] → new.front.queue.finished ≡ old.front.queue.finished → LivesOn layout old new taken finished
ended layout old new taken finished works none_taken none_finished same = record {
  rest = in_work old.front.queue;
  heads = ap (λ t. in_work old.front.queue ++ map head_of t) none_taken ∙ append-nil (in_work old.front.queue)
      ∙ sym (ap (λ f. f ++ in_work old.front.queue) none_finished);
  few = at_most_one old.front.queue.phase old.front.queue.head;
  counted = let none = ap length none_finished in let small = works.small in omega (arith, none, small, same);
  places = λ k entry at. absurd (nothing_there taken none_taken k entry at);
}

-- a turn, and the life after it
joined : (layout : Layout) (old next new : Device) (first later : List Taken) (done ends : List ℕ) → Works layout old → Follows layout old next first done
    → (Works layout next → LivesOn layout next new later ends) → (next.front.stage ≡ NeedsReset → Rests next new later ends)
    → LivesOn layout old new (first ++ later) (done ++ ends)
joined layout old next new first later done ends works (inl (goes, stage)) more rest =
    let counted = goes.counted in
    let on = more (record { stage = stage; lies = goes.lies; power = works.power; small = omega (arith, counted); invariants = goes.invariants }) in
    record {
      rest = on.rest;
      heads = ap (λ l. in_work old.front.queue ++ l) (map-append head_of first later)
          ∙ sym (append_assoc (in_work old.front.queue) (map head_of first) (map head_of later))
          ∙ ap (λ l. l ++ map head_of later) goes.heads
          ∙ append_assoc done (in_work next.front.queue) (map head_of later)
          ∙ ap (λ l. done ++ l) on.heads
          ∙ sym (append_assoc done ends on.rest);
      few = on.few;
      counted = on.counted ∙ ap (λ n. (n + length ends) % 65536) goes.counted
          ∙ mod-add-mod (old.front.queue.finished + length done) 65536 (length ends)
          ∙ (let long = length-append done ends in ap (λ n. n % 65536) (omega (arith, long)));
      places = order_append (λ k entry. entry.access ≡ reads_entry layout (old.front.queue.finished + length (in_work old.front.queue) + k)) first later goes.places
          (λ k entry at. on.places k entry at ∙ ap (λ place. at_place layout place) (goes.begun k) ∙ ap (λ n. reads_entry layout n) (omega arith));
    }
joined layout old next new first later done ends works (inr stops) more rest =
    let none = rest stops.stage in
    ended layout old new (first ++ later) (done ++ ends) works (ap (λ l. l ++ later) stops.none_taken ∙ none.none_taken)
    (ap (λ l. l ++ ends) stops.none_finished ∙ none.none_finished) (none.counted ∙ stops.counted)

lives_on : (layout : Layout) (old new : Device) (turns : List Turn) (taken : List Taken) (finished : List ℕ)
    → Works layout old → Lives old turns taken finished new → LivesOn layout old new taken finished
lives_on layout old new [] taken finished works lives =
    ended layout old new taken finished works lives.0 lives.1 (ap (λ d. d.front.queue.finished) lives.2)
lives_on layout old new (turn ∷ turns) taken finished works (next, later, ends, happens, took, done, lives) =
    let whole = joined layout old next new (taken_at old turn) later (finished_at turn) ends works (turns_on layout old next works turn happens)
    (λ goes. lives_on layout next new turns later ends goes lives) (λ stops. rests next new turns later ends stops lives) in
    subst (λ (t : List Taken). LivesOn layout old new t finished) (sym took)
    (subst (λ (f : List ℕ). LivesOn layout old new (taken_at old turn ++ later) f) (sym done) whole)

pub uses_each_once : (layout : Layout) (old new : Device) (turns : List Turn) (taken : List Taken) (finished : List ℕ)
    → HasFreshQueue layout old → Lives old turns taken finished new → UsesEachOnce layout taken finished new
uses_each_once layout old new turns taken finished fresh lives =
    let none_finished = ap (λ q. q.finished) fresh.queue in
    let none_begun = ap in_work fresh.queue in
    let works : Works layout old = record {
      stage = fresh.stage;
      lies = ap (λ q. q.layout) fresh.queue;
      power = fresh.lawful.power;
      small = omega (arith, none_finished);
      invariants = λ fault. invariants AvailableIndex tt (sym (ap (λ q. q.phase) fresh.queue) ∙ fault);
    } in
    let on = lives_on layout old new turns taken finished works lives in
    record {
      order = λ k entry at. on.places k entry at ∙ (let none = ap length none_begun in ap (λ n. reads_entry layout n) (omega (arith, none_finished, none)));
      rest = on.rest;
      ends = sym (ap (λ work. work ++ map head_of taken) none_begun) ∙ on.heads;
      few = on.few;
      counted = on.counted ∙ ap (λ n. n % 65536) (omega (arith, none_finished));
    }
