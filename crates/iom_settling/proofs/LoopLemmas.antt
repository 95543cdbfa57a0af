-- The loops of settling, one event more: over whatever takes events as a world does.
use Rattle.std.proofs.Common.{◌≡◌, ◌+◌, ◌*◌, ◌^◌, ◌<◌, ◌≤◌, ◌∙◌, ◌==◌, ◌≢◌, inl, inr, ℕ, suc, Bool, true, false, not, nat_le, nat_lt, List, [], ◌∷◌, ◌++◌, length, map, append_assoc, Option, None, Some, Result, Ok, Err, refl, sym, ap, subst, arith}
use Rattle.std.proofs.lemmas.Bool.{false≢true, leb-true, leb-false}
use Rattle.std.proofs.lemmas.List.{append-nil}
use Rattle.iom_command_queue.specs.declared.command.Command.{Command}
use Rattle.iom_driver.specs.Fences.{last_fence}
use Rattle.iom_driver.specs.Restarts.{all_requeued, AnswersRestart}
use Rattle.iom_driver.specs.State.{DriverState}
use Rattle.iom_fabric.specs.declared.fabric.OnLink.{OnLink}
use Rattle.iom_fabric.specs.declared.message.Message.{Message}
use Rattle.iom_fabric.specs.declared.message.Message.TheVariants as sent
use Rattle.iom_inflight.specs.Flights.{count_all, first_busy}
use Rattle.iom_inflight.specs.Invariant.{AreFlights}
use Rattle.iom_iommu.specs.Parts.{flights_of, mmio}
use Rattle.iom_base.specs.declared.refusal.Refusal.{Refusal}
use Rattle.iom_base.specs.declared.refusal.Refusal.TheVariants.{NotStarted, NumbersUsedUp}
use Rattle.iom_base.specs.Refusals.{first_that_applies}
use Rattle.iom_machine.specs.declared.event.Event.{Event}
use Rattle.iom_machine.specs.declared.event.Event.TheVariants as events
use Rattle.iom_machine.specs.declared.outcome.CommandName.{CommandName}
use Rattle.iom_machine.specs.declared.outcome.CommandName.TheVariants as names
use Rattle.iom_machine.specs.declared.outcome.Fetched.TheVariants as tells
use Rattle.iom_machine.specs.declared.outcome.Outcome.{Outcome}
use Rattle.iom_machine.specs.declared.outcome.Outcome.TheVariants as outcome
use Rattle.iom_world_effects.specs.Answers.{outcome_of_done}
use Rattle.iom_world_effects.specs.Effect.{Effect, FetchesNext, name_of_command}
use Rattle.iom_world_effects.specs.Parts.{Parts}
use Rattle.iom_world_effects.specs.Recovery.{RestartsQueue}
use Rattle.iom_world_effects.specs.Invariant.{PartsInvariant}
use Rattle.iom_world_effects.specs.Unchanged.{KeepsCommands}
use Rattle.iom_world_effects.proofs.DriverLemmas.{DriverInvariant}
use Rattle.iom_settling.specs.declared.reply.FetchReply.{FetchReply}
use Rattle.iom_settling.specs.declared.reply.FetchReply.TheVariants.{Waits, Empty, Other}
use Rattle.iom_settling.specs.CatchingUp.{NothingIsInFlight, CatchesUp, HasCaughtUp}
use Rattle.iom_settling.specs.Commands.{requests_among}
use Rattle.iom_settling.specs.Kinds.{IsDelivery}
use Rattle.iom_settling.specs.Settles.{AreBehindCommits, AreInSettlingOrder}
use Rattle.iom_settling.specs.Went.{Went}
use Rattle.iom_settling.specs.Stages.{brief, flights_by, commits_of, AreCommitsOf, AreDeliveries, AreRound, AwaitFetch, AwaitPoll, IsInProgress, IsAfter, FollowsFetch, FetchedOnce, IsCommitting, IsDelivering, IsWorking, Settled}
use Rattle.iom_settling.specs.Weights.{weight, weights}
use Rattle.iom_settling.proofs.LawLemmas.{commits_make_one, at_most_128, deliveries_get_lighter, restarts_catch_up, few_are_requeued, fetches_do_one, fences_end, fetches_find_none, deliveries_catch_up, polls_confirm_all}
use Rattle.iom_settling.proofs.CommitLemmas.{commit_drives}
use Rattle.iom_settling.proofs.IdleLemmas.{count_some, none_waits}
use Rattle.iom_settling.proofs.OrderLemmas.{all_both, await_first, await_more, await_poll, are_settling}
use Rattle.iom_settling.proofs.WentLemmas.{went_none, went_once, went_first, went_more, went_both, went_as}

-- what a trait says of whatever takes events
pub record ActsAsWorld {S : Type 0} (parts : S → Parts) (counted : S → ℕ) (happens : S → Event → Outcome → S → Type 0) : Type 0 where
  pub effect : (x y : S) (event : Event) (reply : Outcome) → happens x event reply y → (disks : List ℕ) × Effect disks (parts x) event reply (parts y)
  pub commands : (x y : S) (event : Event) (reply : Outcome) → happens x event reply y → KeepsCommands event (parts x) (parts y)
  pub counts : (x y : S) (event : Event) (reply : Outcome) → happens x event reply y → counted y ≡ counted x + 1
  pub invariants : (x : S) → PartsInvariant (parts x) (counted x)
  pub own : (x : S) → DriverInvariant (parts x).driver

-- where a device has something in flight, something is
busy_some : (p : Parts) (device : ℕ) → AreFlights (flights_of p.iommu) → first_busy (flights_of p.iommu).rows ≡ Some device → 1 ≤ count_all (flights_of p.iommu).rows
busy_some p device flights found = count_some (flights_of p.iommu).rows device found

-- a message is under way where it isn't quiet
pub some_under_way : (fabric : List OnLink) (quiet : Bool) → quiet ≡ (length fabric == 0) → quiet ≡ false → (on : OnLink) × (others : List OnLink) × (fabric ≡ on ∷ others)
some_under_way [] quiet is some = absurd (false≢true (sym some ∙ is))
some_under_way (on ∷ others) quiet is some = (on, others, refl)

some_weight : (message : Message) → 1 ≤ weight message
some_weight (sent.Ask epoch page) = omega arith
some_weight (sent.Answer epoch page answer) = omega arith
some_weight (sent.InvReq serial range) = omega arith
some_weight (sent.InvDone serial) = omega arith

pub under_way_few : (p : Parts) (so_far : ℕ) → IsInProgress p so_far → so_far ≤ 82
under_way_few p so_far (inl queue) = let few = queue.few in omega (arith, few)
under_way_few p so_far (inr (inl fence)) = let few = fence.few in omega (arith, few)
under_way_few p so_far (inr (inr behind)) = behind.few

-- which outcome of a fetch tells this
abbrev pub IsTold : FetchReply → Outcome → Type 0
IsTold Waits reply = reply ≡ outcome.Fetched tells.Waiting
IsTold Empty reply = reply ≡ outcome.Fetched tells.Empty
IsTold Other reply = (name : CommandName) × (reply ≡ outcome.Fetched (tells.Did name))

module _ {S : Type 0} (parts : S → Parts) (counted : S → ℕ) (happens : S → Event → Outcome → S → Type 0) (acts : ActsAsWorld parts counted happens) where
  -- COMMITS
  pub commits_begin : (first : S) → AreFlights (flights_of (parts first).iommu) → IsCommitting parts counted happens first first 0
  commits_begin first flights =
      let few = at_most_128 (parts first) flights in
      record { went = went_none happens (λ all outcomes. all ++ commits_of (parts first) ≡ commits_of (parts first)) first refl; driver = refl; left = omega (arith, few); counted = omega arith }

  pub one_in_flight_less : (mid new : S) (device : ℕ) (reply : Outcome) → AreFlights (flights_of (parts mid).iommu) → first_busy (flights_of (parts mid).iommu).rows ≡ Some device
      → happens mid (events.Commit device) reply new
      → (flights_by (parts mid) ≡ device ∷ flights_by (parts new)) × (count_all (flights_of (parts new).iommu).rows + 1 ≡ count_all (flights_of (parts mid).iommu).rows)
  one_in_flight_less mid new device reply flights found happen =
      commits_make_one (parts mid) (parts new) (counted mid) device reply (acts.invariants mid) flights found (acts.effect mid new (events.Commit device) reply happen).1

  pub commits_more : (first mid new : S) (n device : ℕ) (reply : Outcome) → IsCommitting parts counted happens first mid n → AreFlights (flights_of (parts mid).iommu)
      → first_busy (flights_of (parts mid).iommu).rows ≡ Some device → happens mid (events.Commit device) reply new → IsCommitting parts counted happens first new (n + 1)
  commits_more first mid new n device reply so_far flights found happen =
      let one_less = one_in_flight_less mid new device reply flights found happen in
      let less = one_less.1 in
      let left = so_far.left in
      let before = so_far.counted in
      let one = acts.counts mid new (events.Commit device) reply happen in
      record {
        went = went_more happens (λ all outcomes. all ++ commits_of (parts mid) ≡ commits_of (parts first)) (λ all outcomes. all ++ commits_of (parts new) ≡ commits_of (parts first)) first mid new n (events.Commit device) reply
            (λ these outcomes are. append_assoc these (events.Commit device ∷ []) (commits_of (parts new)) ∙ ap (λ ids. these ++ map events.Commit ids) (sym one_less.0) ∙ are) so_far.went happen;
        driver = commit_drives (parts mid) (parts new) device reply (acts.effect mid new (events.Commit device) reply happen).1 ∙ so_far.driver;
        left = omega (arith, less, left);
        counted = omega (arith, before, one);
      }

  pub commits_room : (first mid : S) (n device : ℕ) → IsCommitting parts counted happens first mid n → counted first + 128 < 2 ^ 64 → AreFlights (flights_of (parts mid).iommu)
      → first_busy (flights_of (parts mid).iommu).rows ≡ Some device → counted mid + 1 < 2 ^ 64
  commits_room first mid n device so_far room flights found =
      let left = so_far.left in
      let before = so_far.counted in
      let some = busy_some (parts mid) device flights found in
      omega (arith, left, before, some, room)

  -- they are all, where nothing is in flight any more
  pub commits_end : (first last : S) (n : ℕ) → IsCommitting parts counted happens first last n → NothingIsInFlight (parts last) → Went happens (AreCommitsOf (parts first)) first n last
  commits_end first last n so_far idle =
      went_as happens (λ all outcomes. all ++ commits_of (parts last) ≡ commits_of (parts first)) (AreCommitsOf (parts first)) first last n
      (λ these outcomes are. sym (append-nil these) ∙ ap (λ ids. these ++ map events.Commit ids) (sym (none_waits (flights_of (parts last).iommu).rows idle)) ∙ are) so_far.went

  -- DELIVERIES
  pub deliveries_begin : (first : S) → IsDelivering parts counted happens first first 0
  deliveries_begin first = record { went = went_none happens AreDeliveries first tt; left = omega arith; idle = λ idle. idle; driver = refl; catches = λ number commands catches. catches; counted = omega arith }

  pub deliveries_more : (first mid new : S) (n : ℕ) (reply : Outcome) (on : OnLink) (others : List OnLink) → IsDelivering parts counted happens first mid n → (parts mid).fabric ≡ on ∷ others
      → happens mid (events.Deliver 0) reply new → IsDelivering parts counted happens first new (n + 1)
  deliveries_more first mid new n reply on others so_far is happen =
      let effect = (acts.effect mid new (events.Deliver 0) reply happen).1 in
      let by = deliveries_get_lighter (parts mid) (parts new) reply on others is effect in
      let lighter = by.lighter in
      let left = so_far.left in
      let before = so_far.counted in
      let one = acts.counts mid new (events.Deliver 0) reply happen in
      record {
        went = went_more happens AreDeliveries AreDeliveries first mid new n (events.Deliver 0) reply
            (λ these outcomes are. all_both IsDelivery these (events.Deliver 0 ∷ []) are (refl, tt)) so_far.went happen;
        left = omega (arith, lighter, left);
        idle = λ idle. by.idle (so_far.idle idle);
        driver = by.driver ∙ so_far.driver;
        catches = λ number commands catches. deliveries_catch_up (parts mid) (parts new) (counted mid) (counted new) number commands reply on others (acts.invariants mid) (acts.invariants new)
            (so_far.catches number commands catches) is effect (acts.commands mid new (events.Deliver 0) reply happen);
        counted = omega (arith, before, one);
      }

  pub one_message_less : (mid new : S) (reply : Outcome) (on : OnLink) (others : List OnLink) → (parts mid).fabric ≡ on ∷ others → happens mid (events.Deliver 0) reply new
      → weights (parts new).fabric + 1 ≤ weights (parts mid).fabric
  one_message_less mid new reply on others is happen = (deliveries_get_lighter (parts mid) (parts new) reply on others is (acts.effect mid new (events.Deliver 0) reply happen).1).lighter

  pub deliveries_room : (first mid : S) (n : ℕ) (on : OnLink) (others : List OnLink) → IsDelivering parts counted happens first mid n → counted first + weights (parts first).fabric < 2 ^ 64
      → (parts mid).fabric ≡ on ∷ others → counted mid + 1 < 2 ^ 64
  deliveries_room first mid n on others so_far room is =
      let left = so_far.left in
      let before = so_far.counted in
      let some = some_weight on.message in
      let all : weights (parts mid).fabric ≡ weight on.message + weights others = ap weights is in
      omega (arith, left, before, some, all, room)

  -- A FETCH, by what it told
  module _ (mid new : S) (so_far : ℕ) (reply : Outcome) (happen : happens mid events.Fetch reply new) where
    fetches : FetchesNext (parts mid) reply (parts new)
    fetches = (acts.effect mid new events.Fetch reply happen).1

    abbrev number : ℕ
    number = last_fence (parts mid).driver

    same_number : last_fence (parts new).driver ≡ last_fence (parts mid).driver
    same_number = ap (λ (d : DriverState). last_fence d) fetches.driver

    small : last_fence (parts mid).driver < 2 ^ 32
    small = let numbered = (acts.own mid).fences.numbered in omega (arith, numbered)

    catches_now : (commands : List Command) → CatchesUp (parts new) (last_fence (parts mid).driver) commands → CatchesUp (parts new) (last_fence (parts new).driver) commands
    catches_now commands catches = subst (λ n. CatchesUp (parts new) n commands) (sym same_number) catches

    caught_now : HasCaughtUp (parts new) (last_fence (parts mid).driver) → HasCaughtUp (parts new) (last_fence (parts new).driver)
    caught_now caught = subst (HasCaughtUp (parts new)) (sym same_number) caught

    -- it told this, and what is so then
    abbrev pub IsFetched : FetchReply → Type 0
    IsFetched t = IsTold t reply × IsAfter t (parts new) (so_far + 1)

    told_as : (t : FetchReply) → brief reply ≡ t → IsFetched t → IsFetched (brief reply)
    told_as t is after = subst IsFetched (sym is) after

    at_fence : CatchesUp (parts mid) (last_fence (parts mid).driver) [] → (so_far + weights (parts mid).fabric ≤ 81) → ((parts mid).fabric ≢ [] → so_far + weights (parts mid).fabric ≤ 80) → IsFetched (brief reply)
    at_fence catches few fewer = elim (fences_end (parts mid) (parts new) (counted mid) number reply small (acts.invariants mid) (acts.own mid) catches fetches) [
      | inl waits ↦
          let light = fewer waits.under_way in
          let same : weights (parts new).fabric ≡ weights (parts mid).fabric = ap weights waits.fabric in
          told_as Waits (ap brief waits.reply_is) (waits.reply_is, (catches_now [] waits.still, omega (arith, light, same), omega (arith, light, same)))
      | inr done ↦ told_as Other (ap brief done.reply_is) ((names.IofenceC, done.reply_is), inr (inr (record { done = caught_now done.done; few = omega (arith, few) })))
    ]

    in_queue : (commands : List Command) → CatchesUp (parts mid) (last_fence (parts mid).driver) commands → so_far + length commands + weights (parts mid).fabric + 2 * requests_among commands ≤ 80
        → IsFetched (brief reply)
    in_queue [] catches few = at_fence catches (omega (arith, few)) (λ some. omega (arith, few))
    in_queue (command ∷ commands) catches few =
        let one = fetches_do_one (parts mid) (parts new) (counted mid) number command commands reply (acts.invariants mid) (acts.own mid) catches fetches in
        let heavier = one.heavier in
        told_as Other (ap brief one.reply_is) ((name_of_command command, one.reply_is), inl (record { commands = commands; catches = catches_now commands one.rest; few = omega (arith, few, heavier) }))

    pub fetched : IsInProgress (parts mid) so_far → IsFetched (brief reply)
    fetched (inl queue) = in_queue queue.commands queue.catches queue.few
    fetched (inr (inl fence)) =
        let few = fence.few in
        let light : weights (parts mid).fabric ≡ 0 = ap weights fence.quiet in
        at_fence fence.catches (omega (arith, few, light)) (λ some. absurd (some fence.quiet))
    fetched (inr (inr behind)) =
        let none = fetches_find_none (parts mid) (parts new) (counted mid) number reply (acts.invariants mid) (acts.own mid) behind.done fetches in
        let few = behind.few in
        told_as Empty (ap brief none.0) (none.0, (caught_now none.1, omega (arith, few)))

  -- WHAT FOLLOWS IT, where the fence waits
  pub waited : (mid new : S) (so_far more : ℕ) → IsAfter Waits (parts mid) so_far → Went happens AreDeliveries mid more new → more ≤ weights (parts mid).fabric → (parts new).fabric ≡ []
      → (parts new).driver ≡ (parts mid).driver → ((number : ℕ) (commands : List Command) → CatchesUp (parts mid) number commands → CatchesUp (parts new) number commands)
      → counted new ≡ counted mid + more → FollowsFetch parts counted happens mid so_far Waits (Some (so_far + more)) new
  waited mid new so_far more after went few quiet driver catches count =
      let light = after.1 in (
        more,
        refl,
        went,
        count,
        inr (inl (record {
          catches = subst (λ n. CatchesUp (parts new) n []) (sym (ap (λ (d : DriverState). last_fence d) driver)) (catches (last_fence (parts mid).driver) [] after.0);
          quiet = quiet;
          few = omega (arith, few, light);
        })),
      )

  -- A FETCH AND WHAT FOLLOWS IT
  pub once : (old mid new : S) (so_far : ℕ) (reply : Outcome) (t : FetchReply) (answer : Option ℕ) → IsTold t reply → happens old events.Fetch reply mid
      → FollowsFetch parts counted happens mid (so_far + 1) t answer new → FetchedOnce parts counted happens old so_far answer new
  once old mid new so_far reply Waits (Some now) is happen follows =
      let one = acts.counts old mid events.Fetch reply happen in
      let more = follows.1 in
      let count = follows.3 in (
        1 + follows.0,
        omega (arith, more),
        omega arith,
        went_first happens AreDeliveries AreRound old mid new follows.0 events.Fetch reply
            (λ those others long delivered. subst (λ (o : Outcome). AreRound (events.Fetch ∷ those) (o ∷ others)) (sym is) delivered) happen follows.2,
        omega (arith, one, count),
        follows.4,
      )
  once old mid new so_far reply Waits None is happen follows = absurd follows
  once old mid new so_far reply Other (Some now) is happen follows =
      let one = acts.counts old mid events.Fetch reply happen in
      let count = ap counted follows.0 in
      let same = follows.1 in (
        1,
        same,
        omega arith,
        went_once happens AreRound old new events.Fetch reply (subst (λ (o : Outcome). AreRound (events.Fetch ∷ []) (o ∷ [])) (sym is.1) tt)
            (subst (λ s. happens old events.Fetch reply s) (sym follows.0) happen),
        omega (arith, one, count),
        follows.2,
      )
  once old mid new so_far reply Other None is happen follows = absurd follows
  once old mid new so_far reply Empty None is happen follows =
      let one = acts.counts old mid events.Fetch reply happen in
      let few = follows.2 in (
        subst (λ (o : Outcome). happens old events.Fetch o new) is (subst (λ s. happens old events.Fetch reply s) (sym follows.0) happen),
        ap counted follows.0 ∙ one,
        follows.1,
        omega (arith, few),
      )
  once old mid new so_far reply Empty (Some now) is happen follows = absurd follows

  -- THE QUEUE IS WORKED OFF
  pub work_begins : (first : S) → IsInProgress (parts first) 0 → IsWorking parts counted happens first first 0
  work_begins first stage = record { went = went_none happens AwaitFetch first await_first; stage = stage; counted = omega arith }

  pub work_more : (first mid new : S) (n now : ℕ) → IsWorking parts counted happens first mid n → FetchedOnce parts counted happens mid n (Some now) new → IsWorking parts counted happens first new now
  work_more first mid new n now so_far once =
      let is = once.1 in
      let before = so_far.counted in
      let count = once.4 in
      record {
        went = subst (λ k. Went happens AwaitFetch first k new) (sym is) (went_both happens AwaitFetch AreRound AwaitFetch first mid new n once.0
            (λ these those outcomes others one other await round. await_more these those outcomes others other await round) so_far.went once.3);
        stage = once.5;
        counted = omega (arith, is, before, count);
      }

  pub work_ends : (first mid new : S) (n : ℕ) → IsWorking parts counted happens first mid n → FetchedOnce parts counted happens mid n None new → Went happens AwaitPoll first (n + 1) new
  work_ends first mid new n so_far once = went_more happens AwaitFetch AwaitPoll first mid new n events.Fetch (outcome.Fetched tells.Empty) await_poll so_far.went once.0

  -- A RESTART
  restart_answers : (d : DriverState) (why : Refusal) → d.started ≡ true → nat_le 4294967295 (last_fence d) ≡ false
      → first_that_applies ((not d.started, NotStarted) ∷ (nat_le 4294967295 (last_fence d), NumbersUsedUp) ∷ []) ≡ Some why → ⊥
  restart_answers d why started left refused = by d.started (nat_le 4294967295 (last_fence d)) started left refused
    where
      by : (s u : Bool) → s ≡ true → u ≡ false → first_that_applies ((not s, NotStarted) ∷ (u, NumbersUsedUp) ∷ []) ≡ Some why → ⊥
      by false u started left is = false≢true started
      by true true started left is = false≢true (sym left)
      by true false started left is = cc

  pub restarts : (mid new : S) (reply : Outcome) → NothingIsInFlight (parts mid) → (parts mid).fabric ≡ [] → nat_le 4294967295 (last_fence (parts mid).driver) ≡ false → happens mid events.Restart reply new
      → (reply ≡ outcome.Done) × IsInProgress (parts new) 0
  restarts mid new reply idle quiet left happen = by effect.answer effect.reply_is effect.call
    where
      effect : RestartsQueue (parts mid) reply (parts new)
      effect = (acts.effect mid new events.Restart reply happen).1

      by : (answer : Result (Unit {0}) Refusal) → reply ≡ outcome_of_done answer
          → AnswersRestart mmio (parts mid).driver (parts mid).memory (parts mid).iommu answer (parts new).driver (parts new).memory (parts new).iommu
          → (reply ≡ outcome.Done) × IsInProgress (parts new) 0
      by (Ok done) is (admitted, queues) =
          let catches = restarts_catch_up (parts mid) (parts new) (counted mid) (counted new) (acts.invariants mid) (acts.invariants new) (acts.own mid) idle quiet queues effect.devices effect.fabric in
          let few = few_are_requeued (parts mid) (acts.own mid) in
          let long = few.0 in
          let requests = few.1 in
          let number : last_fence (parts new).driver ≡ last_fence (parts mid).driver + 1 = ap (λ (d : DriverState). last_fence d) queues.driver ∙ omega arith in
          let light : weights (parts new).fabric ≡ 0 = ap weights (effect.fabric ∙ quiet) in (
            is,
            inl (record {
              commands = all_requeued (parts mid).driver.devices;
              catches = subst (λ n. CatchesUp (parts new) n (all_requeued (parts mid).driver.devices)) (sym number) catches;
              few = omega (arith, long, requests, light);
            }),
          )
      by (Err why) is (refused, driver, memory, iommu) = absurd (restart_answers (parts mid).driver why (acts.invariants mid).started left refused)

  -- THE POLL
  pub polls : (mid new : S) (reply : Outcome) → HasCaughtUp (parts mid) (last_fence (parts mid).driver) → happens mid events.Poll reply new → (parts new).driver.confirmed ≡ (parts new).driver.given
  polls mid new reply caught happen =
      polls_confirm_all (parts mid) (parts new) (last_fence (parts mid).driver) reply caught (acts.own mid) (acts.own new) (acts.invariants mid).started (acts.effect mid new events.Poll reply happen).1

  pub polls_idle : (mid new : S) (reply : Outcome) → HasCaughtUp (parts mid) (last_fence (parts mid).driver) → happens mid events.Poll reply new → NothingIsInFlight (parts new)
  polls_idle mid new reply caught happen = rw ((acts.effect mid new events.Poll reply happen).1.iommu) caught.idle

  -- SETTLING
  pub caught_up : (old mid late new : S) (k : ℕ) (reply last : Outcome) → reply ≡ outcome.Done → happens old events.Restart reply mid → Went happens AwaitPoll mid k late
      → happens late events.Poll last new → Went happens (AreBehindCommits true) old (k + 2) new
  caught_up old mid late new k reply last done restart work poll =
      let polled = went_more happens AwaitPoll (λ all outcomes. AreBehindCommits true (events.Restart ∷ all) (reply ∷ outcomes)) mid late new k events.Poll last
      (λ these outcomes await. subst (λ (o : Outcome). AreBehindCommits true (events.Restart ∷ (these ++ events.Poll ∷ [])) (o ∷ (outcomes ++ last ∷ []))) (sym done) (await last)) work poll in
      let whole = went_first happens (λ all outcomes. AreBehindCommits true (events.Restart ∷ all) (reply ∷ outcomes)) (AreBehindCommits true) old mid new (k + 1) events.Restart reply
      (λ those others long are. are) restart polled in
      let same : 1 + (k + 1) ≡ k + 2 = omega arith in
      subst (λ c. Went happens (AreBehindCommits true) old c new) same whole

  -- whether a ticket was unconfirmed, which commits and deliveries leave
  pending_before : (old mid : S) (pending reply : Bool) → (parts mid).driver ≡ (parts old).driver → pending ≡ nat_lt (parts mid).driver.confirmed (parts mid).driver.given → pending ≡ reply
      → reply ≡ nat_lt (parts old).driver.confirmed (parts old).driver.given
  pending_before old mid pending reply driver is so = sym so ∙ is ∙ ap (λ (d : DriverState). nat_lt d.confirmed d.given) driver

  pub settled_at_once : (old new : S) (n : ℕ) (pending : Bool) → Went happens (AreInSettlingOrder false (flights_by (parts old))) old n new → n ≤ 256 → (parts new).driver ≡ (parts old).driver → NothingIsInFlight (parts new)
      → pending ≡ nat_lt (parts new).driver.confirmed (parts new).driver.given → pending ≡ false → Settled parts happens old (Ok n) new
  settled_at_once old new n pending went few driver idle is none =
      let all : (parts new).driver.given < suc (parts new).driver.confirmed = leb-false (suc (parts new).driver.confirmed) (parts new).driver.given (sym is ∙ none) in
      let high = (acts.own new).tickets.ordered in (
        subst (λ (b : Bool). Went happens (AreInSettlingOrder b (flights_by (parts old))) old n new) (pending_before old new pending false driver is none) went,
        omega (arith, few),
        idle,
        omega (arith, all, high),
      )

  pub settled_never : (old new : S) (n : ℕ) (pending used : Bool) → Went happens (AreInSettlingOrder false (flights_by (parts old))) old n new → NothingIsInFlight (parts new) → (parts new).fabric ≡ []
      → pending ≡ nat_lt (parts new).driver.confirmed (parts new).driver.given → pending ≡ true
      → used ≡ nat_le 4294967295 (last_fence (parts new).driver) → used ≡ true → Settled parts happens old (Err NumbersUsedUp) new
  settled_never old new n pending used went idle quiet is some at up = (
    refl,
    (n, went),
    (idle, quiet),
    leb-true (suc (parts new).driver.confirmed) (parts new).driver.given (sym is ∙ some),
    leb-true 4294967295 (last_fence (parts new).driver) (sym at ∙ up),
  )

  pub settled_then : (old mid new : S) (n k : ℕ) (pending : Bool) → Went happens (AreInSettlingOrder false (flights_by (parts old))) old n mid → n ≤ 256 → (parts mid).driver ≡ (parts old).driver
      → pending ≡ nat_lt (parts mid).driver.confirmed (parts mid).driver.given → pending ≡ true → Went happens (AreBehindCommits true) mid k new → k ≤ 85 → NothingIsInFlight (parts new)
      → (parts new).driver.confirmed ≡ (parts new).driver.given → Settled parts happens old (Ok (n + k)) new
  settled_then old mid new n k pending quiet few driver is some work short idle confirmed = (
    subst (λ (b : Bool). Went happens (AreInSettlingOrder b (flights_by (parts old))) old (n + k) new) (pending_before old mid pending true driver is some)
        (went_both happens (AreInSettlingOrder false (flights_by (parts old))) (AreBehindCommits true) (AreInSettlingOrder true (flights_by (parts old))) old mid new n k
        (λ these those outcomes others one other quieting catching. are_settling (flights_by (parts old)) these those outcomes others quieting catching) quiet work),
    omega (arith, few, short),
    idle,
    confirmed,
  )
