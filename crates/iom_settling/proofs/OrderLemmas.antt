-- The order of events: what stands behind what.
use Rattle.std.proofs.Common.{◌≡◌, ◌∙◌, Bool, true, false, ℕ, List, [], ◌∷◌, ◌++◌, length, map, refl, sym, ap, subst, arith, append_assoc}
use Rattle.std.proofs.lemmas.List.{append-nil}
use Rattle.iom_machine.specs.declared.event.Event.{Event}
use Rattle.iom_machine.specs.declared.event.Event.TheVariants as events
use Rattle.iom_machine.specs.declared.outcome.Fetched.{Fetched}
use Rattle.iom_machine.specs.declared.outcome.Fetched.TheVariants as tells
use Rattle.iom_machine.specs.declared.outcome.Outcome.{Outcome}
use Rattle.iom_machine.specs.declared.outcome.Outcome.TheVariants as outcome
use Rattle.iom_world_effects.specs.Parts.{Parts}
use Rattle.iom_settling.specs.Kinds.{AreAll, IsSettling}
use Rattle.iom_settling.specs.Settles.{AreBehindFetch, AreBehindCommits, AreInSettlingOrder}
use Rattle.iom_settling.specs.Stages.{flights_by, AreCommitsOf, AreDeliveries, AreRound, AwaitFetch, AwaitPoll}

-- EACH OF THEM IS SO
pub all_both : (Is : Event → Type 0) (these those : List Event) → AreAll Is these → AreAll Is those → AreAll Is (these ++ those)
all_both Is [] those first rest = rest
all_both Is (event ∷ these) those first rest = (first.0, all_both Is these those first.1 rest)

-- DELIVERIES behind the commits, and what stands behind them
deliveries_then : (pending : Bool) (these those : List Event) (outcomes others : List Outcome) → length these ≡ length outcomes → AreDeliveries these outcomes
    → AreBehindCommits pending those others → AreBehindCommits pending (these ++ those) (outcomes ++ others)
deliveries_then pending [] those [] others long delivered rest = rest
deliveries_then pending [] those (outcome ∷ outcomes) others long delivered rest = absurd (omega (arith, long))
deliveries_then pending (event ∷ these) those [] others long delivered rest = absurd (omega (arith, long))
deliveries_then pending (events.Deliver place ∷ these) those (outcome ∷ outcomes) others long delivered rest =
    (delivered.0, deliveries_then pending these those outcomes others (omega (arith, long)) delivered.1 rest)
deliveries_then pending (_ ∷ these) those (outcome ∷ outcomes) others long delivered rest = absurd delivered.0

-- COMMITS of these devices, and what stands behind them
commits_then : (pending : Bool) (ids : List ℕ) (those : List Event) (outcomes others : List Outcome) → length (map events.Commit ids) ≡ length outcomes
    → AreBehindCommits pending those others → AreInSettlingOrder pending ids (map events.Commit ids ++ those) (outcomes ++ others)
commits_then pending [] those [] others long rest = rest
commits_then pending [] those (outcome ∷ outcomes) others long rest = absurd (omega (arith, long))
commits_then pending (id ∷ ids) those [] others long rest = absurd (omega (arith, long))
commits_then pending (id ∷ ids) those (outcome ∷ outcomes) others long rest = (refl, commits_then pending ids those outcomes others (omega (arith, long)) rest)

-- both
pub are_quieting : (parts : Parts) (these those : List Event) (outcomes others : List Outcome) → length these ≡ length outcomes → length those ≡ length others
    → AreCommitsOf parts these outcomes → AreDeliveries those others → AreInSettlingOrder false (flights_by parts) (these ++ those) (outcomes ++ others)
are_quieting parts these those outcomes others one other committed delivered =
    let rest : AreBehindCommits false those others =
    subst (λ l. AreBehindCommits false l others) (append-nil those)
    (subst (λ l. AreBehindCommits false (those ++ []) l) (append-nil others) (deliveries_then false those [] others [] other delivered tt)) in
    subst (λ l. AreInSettlingOrder false (flights_by parts) (l ++ those) (outcomes ++ others)) (sym committed)
    (commits_then false (flights_by parts) those outcomes others (ap (λ (l : List Event). length l) (sym committed) ∙ one) rest)

-- where a ticket is unconfirmed, there is more behind them
deliveries_on : (these those : List Event) (outcomes others : List Outcome) → AreBehindCommits false these outcomes → AreBehindCommits true those others
    → AreBehindCommits true (these ++ those) (outcomes ++ others)
deliveries_on [] those [] others first rest = rest
deliveries_on (events.Deliver place ∷ these) those (reply ∷ outcomes) others first rest = (first.0, deliveries_on these those outcomes others first.1 rest)
deliveries_on _ those _ others first rest = absurd first

pub are_settling : (ids : List ℕ) (these those : List Event) (outcomes others : List Outcome) → AreInSettlingOrder false ids these outcomes → AreBehindCommits true those others
    → AreInSettlingOrder true ids (these ++ those) (outcomes ++ others)
are_settling [] these those outcomes others first rest = deliveries_on these those outcomes others first rest
are_settling (id ∷ ids) (events.Commit device ∷ these) those (reply ∷ outcomes) others first rest = (first.0, are_settling ids these those outcomes others first.1 rest)
are_settling (id ∷ ids) _ those _ others first rest = absurd first

-- FETCHES. Deliveries behind one that waits, and the next fetch
deliveries_between : (these later : List Event) (outcomes more : List Outcome) (next : Fetched) → length these ≡ length outcomes → AreDeliveries these outcomes
    → AreBehindFetch next later more → AreBehindFetch tells.Waiting (these ++ events.Fetch ∷ later) (outcomes ++ outcome.Fetched next ∷ more)
deliveries_between [] later [] more next long delivered rest = rest
deliveries_between [] later (reply ∷ outcomes) more next long delivered rest = absurd (omega (arith, long))
deliveries_between (event ∷ these) later [] more next long delivered rest = absurd (omega (arith, long))
deliveries_between (events.Deliver place ∷ these) later (reply ∷ outcomes) more next long delivered rest =
    (delivered.0, deliveries_between these later outcomes more next (omega (arith, long)) delivered.1 rest)
deliveries_between (_ ∷ these) later (reply ∷ outcomes) more next long delivered rest = absurd delivered.0

-- none yet
pub await_first : AwaitFetch [] []
await_first next later more behind = behind

-- one more, and what may stand between it and the next
await_after : (these those : List Event) (outcomes others : List Outcome) (reply : Fetched) → AwaitFetch these outcomes
    → ((next : Fetched) (later : List Event) (more : List Outcome) → AreBehindFetch next later more
    → AreBehindFetch reply (those ++ events.Fetch ∷ later) (others ++ outcome.Fetched next ∷ more))
    → AwaitFetch (these ++ events.Fetch ∷ those) (outcomes ++ outcome.Fetched reply ∷ others)
await_after these those outcomes others reply await behind next later more rest =
    rw (append_assoc these (events.Fetch ∷ those), append_assoc outcomes (outcome.Fetched reply ∷ others)) (await reply (those ++ events.Fetch ∷ later) (others ++ outcome.Fetched next ∷ more) (behind next later more rest))

pub await_more : (these those : List Event) (outcomes others : List Outcome) → length those ≡ length others → AwaitFetch these outcomes → AreRound those others
    → AwaitFetch (these ++ those) (outcomes ++ others)
await_more these (events.Fetch ∷ []) outcomes (outcome.Fetched (tells.Did name) ∷ []) long await round =
    await_after these [] outcomes [] (tells.Did name) await (λ next later more rest. rest)
await_more these (events.Fetch ∷ those) outcomes (outcome.Fetched tells.Waiting ∷ others) long await round =
    await_after these those outcomes others tells.Waiting await
    (λ next later more rest. deliveries_between those later others more next (omega (arith, long)) round rest)
await_more these _ outcomes _ long await round = absurd round

-- the last finds the queue empty
pub await_poll : (these : List Event) (outcomes : List Outcome) → AwaitFetch these outcomes → AwaitPoll (these ++ events.Fetch ∷ []) (outcomes ++ outcome.Fetched tells.Empty ∷ [])
await_poll these outcomes await polled =
    rw (append_assoc these (events.Fetch ∷ []), append_assoc outcomes (outcome.Fetched tells.Empty ∷ [])) (await tells.Empty (events.Poll ∷ []) (polled ∷ []) tt)

-- THEY ARE ALL OF SETTLING'S KINDS
fetching_settles : (reply : Fetched) (all : List Event) (outcomes : List Outcome) → AreBehindFetch reply all outcomes → AreAll IsSettling all
fetching_settles (tells.Did name) (events.Fetch ∷ later) (outcome.Fetched next ∷ outcomes) are = (tt, fetching_settles next later outcomes are)
fetching_settles tells.Waiting (events.Deliver place ∷ later) (reply ∷ outcomes) are = (are.0, fetching_settles tells.Waiting later outcomes are.1)
fetching_settles tells.Waiting (events.Fetch ∷ later) (outcome.Fetched next ∷ outcomes) are = (tt, fetching_settles next later outcomes are)
fetching_settles tells.Empty (events.Poll ∷ []) (reply ∷ []) are = (tt, tt)
fetching_settles _ _ _ are = absurd are

behind_settles : (pending : Bool) (all : List Event) (outcomes : List Outcome) → AreBehindCommits pending all outcomes → AreAll IsSettling all
behind_settles pending (events.Deliver place ∷ later) (reply ∷ outcomes) are = (are.0, behind_settles pending later outcomes are.1)
behind_settles true (events.Restart ∷ events.Fetch ∷ later) (outcome.Done ∷ outcome.Fetched first ∷ outcomes) are = (tt, (tt, fetching_settles first later outcomes are))
behind_settles false [] [] are = tt
behind_settles _ _ _ are = absurd are

pub all_settling : (pending : Bool) (ids : List ℕ) (all : List Event) (outcomes : List Outcome) → AreInSettlingOrder pending ids all outcomes → AreAll IsSettling all
all_settling pending [] all outcomes are = behind_settles pending all outcomes are
all_settling pending (id ∷ ids) (events.Commit device ∷ later) (reply ∷ outcomes) are = (tt, all_settling pending ids later outcomes are.1)
all_settling pending (id ∷ ids) _ _ are = absurd are
