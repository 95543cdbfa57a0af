-- A session goes on, line by line.
use Rattle.std.proofs.Common.{◌≡◌, ◌==◌, ◌∙◌, ℕ, ◌+◌, ◌≤◌, ◌||◌, ◌&&◌, inl, inr, not, Result, Ok, Err, OnOk, Bool, true, false, List, [], ◌∷◌, ◌++◌, arith, refl, sym, ap, subst}
use Rattle.std.specs.List.{AllPass}
use Rattle.std.proofs.lemmas.Bool.{false≢true}
use Rattle.std.proofs.lemmas.List.{map-append, length-append}
use Rattle.std.proofs.lemmas.List.Elements.{All-nil, All-cons, All-append}
use Rattle.std.proofs.lemmas.List.Folds.{list_any-append}
use Rattle.std.proofs.lemmas.List.Sums.{fold-append}
use Rattle.iom_claims.specs.Claimed.{Claimed, nothing_claimed}
use Rattle.iom_claims.specs.Shown.{ShowsClaimed}
use Rattle.iom_hardware_runner.specs.Runs.{Comes, Directs, IsStill, RestsBehind, PowerOn, Line, TurnedOn, Directed, Rested, command_waits, asks_in, is_help, is_own, is_stepped, is_of_software, brings_to_rest, acts_behind, acts, AreDrawn, HasRun, lines_of}
use Rattle.iom_hardware_runner.specs.Parts.{TellsLine, Does, DoesSo, Rests, RestsNow, AreFew, is_off, StaysOff, asks_at, does_itself, KeepsTraffic, CameBy, MachineTakesLine}
use Rattle.iom_hardware_runner.specs.declared.faults.RunFault.{RunFault}
use Rattle.iom_hardware_runner.specs.declared.helper.Helper.{Helper}
use Rattle.iom_hardware_runner.specs.declared.helper.Traffic.{Traffic}
use Rattle.iom_hardware_runner.specs.declared.machine.Machine.{Machine}
use Rattle.iom_hardware_runner.specs.declared.teller.Teller.{Teller}
use Rattle.iom_hardware_script.specs.declared.script.HardwareLine.{HardwareLine}
use Rattle.iom_hardware_script.specs.declared.script.HardwareLine.TheVariants as line
use Rattle.iom_hardware_script.specs.declared.script.Help.{Help}
use Rattle.iom_hardware_script.specs.declared.script.Help.TheVariants as helps
use Rattle.iom_hardware_script.specs.declared.script.Setup.{Setup}
use Rattle.iom_machine.specs.declared.event.Event.TheVariants.{Fetch}
use Rattle.iom_hardware_runner.proofs.PaceLemmas.{pace_stays}
use Rattle.iom_hardware_session.proofs.SessionLemmas.{through_more}
use Rattle.iom_hardware_session.specs.Shown.{walks_in}
use Rattle.iom_hardware_session.specs.Runs.{LineReply, claimed_then, LineGoesOn, GoThrough, is_wrong_by, is_wrong, is_any_reply_wrong, IsSessionAtPowerOn}
use Rattle.iom_hardware_session.specs.declared.watched.Watched.{Watched}
use Rattle.iom_iommu.specs.Parts.{registers_of}
use Rattle.iom_registers.specs.Queues.{command_head}
use Rattle.iom_hardware_session.specs.declared.session.Stepped.{Stepped}
use Rattle.iom_hardware_session.specs.declared.state.Session.{Session}

-- what is claimed is shown, line after line
shown_after : (all : List LineReply) (old new : Session) (before after : Claimed) → ShowsClaimed old.claims before → GoThrough old before all new after → ShowsClaimed new.claims after
shown_after [] old new before after shows (same, is) = subst (λ (s : Session). ShowsClaimed s.claims after) (sym same) (subst (λ (c : Claimed). ShowsClaimed old.claims c) (sym is) shows)
shown_after (first ∷ others) old new before after shows (between, goes, rest) = shown_after others between new (claimed_then first before) after goes.claimed rest

or_false : (b : Bool) → (b || false) ≡ b
or_false true = refl
or_false false = refl

abbrev told_of : HardwareLine → Stepped → Session → LineReply
told_of said stepped new = record { said = said; stepped = stepped; watched = new.watched.items }

-- A LINE MORE of a run
pub has_run_more : (setup : Setup) (ran : List HardwareLine) (old new : Session) (wrong : Bool) (said : HardwareLine) (stepped : Stepped)
    → ((c : Claimed) → ShowsClaimed old.claims c → LineGoesOn old c (record { said = said; stepped = stepped; watched = new.watched.items }) new)
    → HasRun setup ran old wrong → HasRun setup (ran ++ said ∷ []) new (wrong || is_wrong_by stepped new.watched.items)
has_run_more setup ran old new wrong said stepped goes has =
    let reply = told_of said stepped new in
    let shows = shown_after has.all has.first old nothing_claimed has.claimed has.begins.claims has.through in
    record {
      first = has.first;
      all = has.all ++ reply ∷ [];
      claimed = claimed_then reply has.claimed;
      begins = has.begins;
      same = map-append (λ (t : LineReply). t.said) has.all (reply ∷ []) ∙ ap (λ (l : List HardwareLine). l ++ said ∷ []) has.same;
      through = through_more has.all reply has.first old new nothing_claimed has.claimed has.through (goes has.claimed shows);
      tells = list_any-append is_wrong has.all (reply ∷ []) ∙ ap (λ (b : Bool). b || (is_wrong reply || false)) has.tells ∙ ap (λ (b : Bool). wrong || b) (or_false (is_wrong reply));
    }

-- lines one after another, and more of them
pub through_both : (one other : List LineReply) (old between new : Session) (before middle after : Claimed) → GoThrough old before one between middle → GoThrough between middle other new after
    → GoThrough old before (one ++ other) new after
through_both [] other old between new before middle after (same, is) then =
    subst (λ (s : Session). GoThrough s before other new after) same (subst (λ (c : Claimed). GoThrough between c other new after) is then)
through_both (first ∷ others) other old between new before middle after (next, goes, rest) then =
    (next, goes, through_both others other next between new (claimed_then first before) middle after rest then)

or_same : (a b c : Bool) → ((a || b) || c) ≡ (a || (b || c))
or_same true b c = refl
or_same false b c = refl

-- A LINE HAPPENS
pub tells_line : (old new : Session) (old_wrong new_wrong : Bool) (said : HardwareLine) (stepped : Stepped) (watched : List Watched)
    → ((c : Claimed) → ShowsClaimed old.claims c → LineGoesOn old c (record { said = said; stepped = stepped; watched = watched }) new)
    → new_wrong ≡ (old_wrong || is_wrong_by stepped watched) → (before : Claimed) → ShowsClaimed old.claims before
    → (reply : LineReply) × (reply.said ≡ said) × LineGoesOn old before reply new × (new_wrong ≡ (old_wrong || is_wrong reply))
tells_line old new old_wrong new_wrong said stepped watched goes is before shows = (record { said = said; stepped = stepped; watched = watched }, refl, goes before shows, is)

-- WHAT HARDWARE DOES BY ITSELF

-- nothing
pub does_nothing : (Are : List HardwareLine → Type 0) (old new : Teller) → new ≡ old → Are [] → Does Are old new
does_nothing Are old new same none before shows = (
  [],
  before,
  none,
  record { through = (ap (λ (t : Teller). t.session) same, refl); tells = ap (λ (t : Teller). t.is_wrong) same ∙ sym (or_false old.is_wrong) },
)

-- one thing
pub does_one : (Are : List HardwareLine → Type 0) (old new : Teller) (own : HardwareLine) → TellsLine old own new → Are (own ∷ []) → Does Are old new
does_one Are old new own tells are before shows =
    let (reply, said, goes, is) = tells before shows in (
      reply ∷ [],
      claimed_then reply before,
      subst (λ (l : HardwareLine). Are (l ∷ [])) (sym said) are,
      record { through = (new.session, goes, (refl, refl)); tells = is ∙ ap (λ (b : Bool). old.is_wrong || b) (sym (or_false (is_wrong reply))) },
    )

-- and more
pub does_both : (old between new : Teller) (before middle after : Claimed) (one other : List LineReply) → DoesSo old between before one middle → DoesSo between new middle other after
    → DoesSo old new before (one ++ other) after
does_both old between new before middle after one other first then = record {
  through = through_both one other old.session between.session new.session before middle after first.through then.through;
  tells = then.tells ∙ ap (λ (b : Bool). b || is_any_reply_wrong other) first.tells ∙ or_same old.is_wrong (is_any_reply_wrong one) (is_any_reply_wrong other)
      ∙ ap (λ (b : Bool). old.is_wrong || b) (sym (list_any-append is_wrong one other));
}

pub does_then : (Are Then Both : List HardwareLine → Type 0) (old between new : Teller) → ((one other : List HardwareLine) → Are one → Then other → Both (one ++ other))
    → Does Are old between → Does Then between new → Does Both old new
does_then Are Then Both old between new both first then before shows =
    let (one, middle, are, so) = first before shows in
    let (other, after, are_too, then_so) = then middle (shown_after one old.session between.session before middle shows so.through) in (
      one ++ other,
      after,
      subst (λ (l : List HardwareLine). Both l) (sym (map-append (λ (t : LineReply). t.said) one other)) (both (lines_of one) (lines_of other) are are_too),
      does_both old between new before middle after one other so then_so,
    )

pub all_none : (kind : HardwareLine → Bool) → AllPass kind []
all_none kind = All-nil (λ (l : HardwareLine). kind l ≡ true)

pub all_one : (kind : HardwareLine → Bool) (own : HardwareLine) → kind own ≡ true → AllPass kind (own ∷ [])
all_one kind own is = All-cons (λ (l : HardwareLine). kind l ≡ true) own [] is (all_none kind)

pub all_both : (kind : HardwareLine → Bool) (one other : List HardwareLine) → AllPass kind one → AllPass kind other → AllPass kind (one ++ other)
all_both kind one other are are_too = All-append (λ (l : HardwareLine). kind l ≡ true) one other are are_too

pub few_none : (can : HardwareLine → Bool) (most : ℕ) → AreFew can most []
few_none can most = (all_none can, omega arith)

pub few_one : (can : HardwareLine → Bool) (own : HardwareLine) → can own ≡ true → AreFew can 1 (own ∷ [])
few_one can own is = (all_one can own is, omega arith)

few_more : (can : HardwareLine → Bool) (most : ℕ) (one other : List HardwareLine) → AreFew can most one → AreFew can 1 other → AreFew can (most + 1) (one ++ other)
few_more can most one other (are, few) (are_too, single) = (all_both can one other are are_too, omega (arith, few, single, length-append one other))

-- what devices may do stays where their traffic does
few_kept : (old new : Helper) (most : ℕ) (before after : Teller) → KeepsTraffic old new → Does (AreFew (does_itself before new) most) before after
    → Does (AreFew (does_itself before old) most) before after
few_kept old new most before after same does =
    subst (λ (l : List Traffic). Does (AreFew (is_own (is_stepped before.session) (asks_in l)) most) before after) same does

pub few_kept_ok : (old new : Helper) (most : ℕ) (before after : Teller) (result : Result (Unit {0}) RunFault) → KeepsTraffic old new
    → OnOk result (Does (AreFew (does_itself before new) most) before after) → OnOk result (Does (AreFew (does_itself before old) most) before after)
few_kept_ok old new most before after (Ok done) same does = few_kept old new most before after same does
few_kept_ok old new most before after (Err why) same does = tt

-- and once more, from where it stands then
pub acts_once_more : (first now : Helper) (most : ℕ) (old between new : Teller) → KeepsTraffic first now → Does (AreFew (does_itself old first) most) old between
    → Does (AreFew (does_itself between now) 1) between new → Does (AreFew (does_itself old first) (most + 1)) old new
acts_once_more first now most old between new same does once before shows =
    let (one, middle, are, so) = does before shows in
    let (other, after, are_too, then_so) = few_kept first now 1 between new same once middle (shown_after one old.session between.session before middle shows so.through) in
    let as_before = subst (λ (b : Bool). AreFew (is_own b (asks_at first)) 1 (lines_of other)) (pace_stays one old.session between.session before middle so.through) are_too in (
      one ++ other,
      after,
      subst (λ (l : List HardwareLine). AreFew (does_itself old first) (most + 1) l) (sym (map-append (λ (t : LineReply). t.said) one other))
          (few_more (does_itself old first) most (lines_of one) (lines_of other) are as_before),
      does_both old between new before middle after one other so then_so,
    )

pub does_at_most : (can : HardwareLine → Bool) (few most : ℕ) (old new : Teller) → few ≤ most → Does (AreFew can few) old new → Does (AreFew can most) old new
does_at_most can few most old new below does before shows =
    let (own, after, are, so) = does before shows in
    (own, after, (are.0, omega (arith, are.1, below)), so)

pub rests_more : (old between new : Teller) → Does (AllPass (brings_to_rest (is_stepped old.session))) old between
    → Does (AllPass (brings_to_rest (is_stepped between.session))) between new → Does (AllPass (brings_to_rest (is_stepped old.session))) old new
rests_more old between new first then before shows =
    let (one, middle, are, so) = first before shows in
    let (other, after, are_too, then_so) = then middle (shown_after one old.session between.session before middle shows so.through) in
    let brings = brings_to_rest (is_stepped old.session) in
    let as_before = subst (λ (b : Bool). AllPass (brings_to_rest b) (lines_of other)) (pace_stays one old.session between.session before middle so.through) are_too in (
      one ++ other,
      after,
      subst (λ (l : List HardwareLine). AllPass brings l) (sym (map-append (λ (t : LineReply). t.said) one other)) (all_both brings (lines_of one) (lines_of other) are as_before),
      does_both old between new before middle after one other so then_so,
    )

-- it may do nothing
none_drawn : (can : HardwareLine → Bool) (acting : Bool) → AreDrawn can acting []
none_drawn can true = few_none can 3
none_drawn can false = refl

pub draws_nothing : (can : HardwareLine → Bool) (acting : Bool) (old new : Teller) → new ≡ old → Does (AreDrawn can acting) old new
draws_nothing can acting old new same = does_nothing (AreDrawn can acting) old new same (none_drawn can acting)

-- it acts by itself, and does so many things
draws_few : (can : HardwareLine → Bool) (acting : Bool) (most : ℕ) (old new : Teller) → acting ≡ true → most ≤ 3 → Does (AreFew can most) old new → Does (AreDrawn can acting) old new
draws_few can acting most old new is few does before shows =
    let (own, after, are, so) = does before shows in
    (own, after, subst (λ (b : Bool). AreDrawn can b (lines_of own)) (sym is) (are.0, omega (arith, are.1, few)), so)

pub draws_few_ok : (old new : Helper) (most : ℕ) (before after : Teller) (result : Result (Unit {0}) RunFault) → is_off old ≡ false → KeepsTraffic old new → most ≤ 3
    → OnOk result (Does (AreFew (does_itself before new) most) before after) → OnOk result (Does (AreDrawn (does_itself before old) (not (is_off old))) before after)
draws_few_ok old new most before after (Ok done) on same few does =
    draws_few (does_itself before old) (not (is_off old)) most before after (ap not on) few (few_kept old new most before after same does)
draws_few_ok old new most before after (Err why) on same few does = tt

-- so before a line of software
pub draws_before_ok : (can : HardwareLine → Bool) (acting soft : Bool) (old new : Teller) (result : Result (Unit {0}) RunFault) → soft ≡ true
    → OnOk result (Does (AreDrawn can acting) old new) → OnOk result (Does (AreDrawn can (acting && soft)) old new)
draws_before_ok can acting soft old new result is does = subst (λ (b : Bool). OnOk result (Does (AreDrawn can b) old new)) (same acting soft is) does
  where
    same : (a b : Bool) → b ≡ true → a ≡ (a && b)
    same true b e = sym e
    same false b e = refl

-- WHAT WAS SAID

-- one line more
acts_more : (said : List HardwareLine) (next : HardwareLine) → acts (said ++ next ∷ []) ≡ acts_behind next (acts said)
acts_more said next = fold-append (λ (before : Bool) (line : HardwareLine). acts_behind line before) false said (next ∷ [])

-- a line that isn't one that asks for help
pub not_help : (said : HardwareLine) → ((help : Help) → said ≡ line.Help help → ⊥) → is_help said ≡ false
not_help (line.Event event) none = refl
not_help (line.RegisterRead offset width) none = refl
not_help (line.RegisterWrite offset width value) none = refl
not_help (line.Claim claim) none = refl
not_help (line.Load device) none = refl
not_help (line.Help help) none = absurd (none help refl)

-- a line that asks for no help changes nothing
acts_still : (next : HardwareLine) (before : Bool) → is_help next ≡ false → acts_behind next before ≡ before
acts_still (line.Event event) before no_help = refl
acts_still (line.RegisterRead offset width) before no_help = refl
acts_still (line.RegisterWrite offset width value) before no_help = refl
acts_still (line.Claim claim) before no_help = refl
acts_still (line.Load device) before no_help = refl
acts_still (line.Help help) before no_help = absurd (false≢true (sym no_help))

-- what is claimed is shown where a script has come to
pub comes_shown : (setup : Setup) (said : List HardwareLine) (session : Session) (claimed : Claimed) (traffic : List Traffic) (wrong : Bool) → Comes setup said session claimed traffic wrong
    → ShowsClaimed session.claims claimed
comes_shown setup _ session _ _ _ (PowerOn _ begins) = begins.claims
comes_shown setup _ _ _ _ _ (Line said next old between new before middle own reply traffic wrong comes no_help are through is goes) = goes.claimed
comes_shown setup _ _ _ _ _ (TurnedOn said seed session claimed traffic wrong comes) = comes_shown setup said session claimed traffic wrong comes
comes_shown setup _ _ _ _ _ (Directed said device first last session claimed traffic directed wrong comes directs) = comes_shown setup said session claimed traffic wrong comes
comes_shown setup _ _ _ _ _ (Rested said old new before after own traffic wrong any comes rests) =
    shown_after rests.last rests.between new rests.middle after
    (shown_after rests.front old rests.between before rests.middle (comes_shown setup said old before traffic wrong comes) rests.through) rests.ends

-- the machine stands where a script has come to
stands : (setup : Setup) (said : List HardwareLine) (machine : Machine) (session : Session) (claimed : Claimed) (traffic : List Traffic) (wrong : Bool)
    → Comes setup said session claimed traffic wrong → machine.teller.session ≡ session → machine.helper.traffic.items ≡ traffic → machine.teller.is_wrong ≡ wrong
    → (is_off machine.helper ≡ false → acts said ≡ true) → CameBy setup said machine
stands setup said machine session claimed traffic wrong comes sessions rows wrongs on = record {
  claimed = claimed;
  comes = subst (λ (s : Session). Comes setup said s claimed machine.helper.traffic.items machine.teller.is_wrong) (sym sessions)
      (subst (λ (t : List Traffic). Comes setup said session claimed t machine.teller.is_wrong) (sym rows)
      (subst (λ (b : Bool). Comes setup said session claimed traffic b) (sym wrongs) comes));
  on = on;
}

-- whether hardware acts by itself behind a line that asks for help
on_behind : (said : List HardwareLine) (help : Help) (old new : Helper) → (is_off old ≡ false → acts said ≡ true)
    → ((before : Bool) → (is_off old ≡ false → before ≡ true) → is_off new ≡ false → acts_behind (line.Help help) before ≡ true)
    → is_off new ≡ false → acts (said ++ line.Help help ∷ []) ≡ true
on_behind said help old new was on is = acts_more said (line.Help help) ∙ on (acts said) was is

-- numbers are drawn from the seed, where it isn't 0
pub takes_auto : (old new : Machine) (seed : ℕ) → new.teller ≡ old.teller → is_off new.helper ≡ (seed == 0) → KeepsTraffic old.helper new.helper
    → MachineTakesLine old (line.Help (helps.Auto seed)) new
takes_auto old new seed same is traffic setup said came =
    stands setup (said ++ line.Help (helps.Auto seed) ∷ []) new old.teller.session came.claimed old.helper.traffic.items old.teller.is_wrong
    (TurnedOn said seed old.teller.session came.claimed old.helper.traffic.items old.teller.is_wrong came.comes) (ap (λ (t : Teller). t.session) same) traffic
    (ap (λ (t : Teller). t.is_wrong) same) (on_behind said (helps.Auto seed) old.helper new.helper came.on (λ before was on. ap not (sym is ∙ on)))

-- devices make requests elsewhere, or the line is refused
pub takes_traffic : (old new : Machine) (device first last : ℕ) → new.teller ≡ old.teller → is_off new.helper ≡ is_off old.helper
    → Directs old.teller.session.hardware.board device first last old.helper.traffic.items new.helper.traffic.items
    → MachineTakesLine old (line.Help (helps.Traffic device first last)) new
takes_traffic old new device first last same is directs setup said came =
    stands setup (said ++ line.Help (helps.Traffic device first last) ∷ []) new old.teller.session came.claimed new.helper.traffic.items old.teller.is_wrong
    (Directed said device first last old.teller.session came.claimed old.helper.traffic.items new.helper.traffic.items old.teller.is_wrong came.comes directs)
    (ap (λ (t : Teller). t.session) same) refl (ap (λ (t : Teller). t.is_wrong) same)
    (on_behind said (helps.Traffic device first last) old.helper new.helper came.on (λ before was on. was (sym is ∙ on)))

-- hardware comes to rest
pub takes_quiesce : (old new : Machine) → Rests old.teller new.teller → new.helper ≡ old.helper → MachineTakesLine old (line.Help helps.Quiesce) new
takes_quiesce old new rests same setup said came =
    let (own, after, any, comes, is) = rests came.claimed (comes_shown setup said old.teller.session came.claimed old.helper.traffic.items old.teller.is_wrong came.comes) in
    stands setup (said ++ line.Help helps.Quiesce ∷ []) new new.teller.session after old.helper.traffic.items (old.teller.is_wrong || any)
    (Rested said old.teller.session new.teller.session came.claimed after own old.helper.traffic.items old.teller.is_wrong any came.comes comes) refl
    (ap (λ (h : Helper). h.traffic.items) same) is
    (on_behind said helps.Quiesce old.helper new.helper came.on (λ before was on. was (sym (ap (λ (h : Helper). is_off h) same) ∙ on)))

-- what came before the line was drawn, where hardware acts by itself
drawn_by : (can : HardwareLine → Bool) (off acting soft : Bool) (own : List HardwareLine) → (off ≡ false → acting ≡ true) → AreDrawn can (not off && soft) own
    → AreDrawn can (acting && soft) own
drawn_by can true acting soft own on none = subst (λ (l : List HardwareLine). AreDrawn can (acting && soft) l) (sym none) (none_drawn can (acting && soft))
drawn_by can false acting soft own on are = subst (λ (b : Bool). AreDrawn can (b && soft) own) (sym (on refl)) are

-- a line ran that was said
pub takes_line : (old between new : Machine) (next : HardwareLine) → is_help next ≡ false
    → Does (AreDrawn (does_itself old.teller old.helper) (not (is_off old.helper) && is_of_software next)) old.teller between.teller → StaysOff old.helper between.helper
    → KeepsTraffic old.helper between.helper → TellsLine between.teller next new.teller → new.helper ≡ between.helper → MachineTakesLine old next new
takes_line old between new next no_help does off traffic tells same setup said came =
    let shows = comes_shown setup said old.teller.session came.claimed old.helper.traffic.items old.teller.is_wrong came.comes in
    let (own, middle, are, so) = does came.claimed shows in
    let (reply, is_said, goes, is) = tells middle (shown_after own old.teller.session between.teller.session came.claimed middle shows so.through) in
    stands setup (said ++ next ∷ []) new new.teller.session (claimed_then reply middle) old.helper.traffic.items ((old.teller.is_wrong || is_any_reply_wrong own) || is_wrong reply)
    (Line said next old.teller.session between.teller.session new.teller.session came.claimed middle own reply old.helper.traffic.items old.teller.is_wrong came.comes no_help
    (drawn_by (does_itself old.teller old.helper) (is_off old.helper) (acts said) (is_of_software next) (lines_of own) came.on are) so.through is_said goes) refl
    (ap (λ (h : Helper). h.traffic.items) same ∙ traffic) (is ∙ ap (λ (b : Bool). b || is_wrong reply) so.tells)
    (λ is_on. acts_more said next ∙ acts_still next (acts said) no_help ∙ came.on (off (sym (ap (λ (h : Helper). is_off h) same) ∙ is_on)))

-- nothing was said yet
pub came_by_nothing : (setup : Setup) (machine : Machine) (session : Session) → IsSessionAtPowerOn setup session → machine.teller.session ≡ session → machine.teller.is_wrong ≡ false
    → is_off machine.helper ≡ true → machine.helper.traffic.items ≡ [] → CameBy setup [] machine
came_by_nothing setup machine session begins sessions wrongs off none_asks =
    stands setup [] machine session nothing_claimed [] false (PowerOn session begins) sessions none_asks wrongs (λ on. absurd (false≢true (sym on ∙ off)))

-- ON THE WAY TO REST

-- it rests where it is still and no command waits
pub rests_now : (old new : Teller) → new ≡ old → IsStill old.session.hardware.board (walks_in old.session.beside) → command_waits old.session.hardware.board ≡ false → RestsNow old new
rests_now old new same still none before shows = (
  [],
  before,
  subst (λ (t : Teller). RestsBehind old.session [] t.session) (sym same) (still, inl (refl, none)),
  record { through = (ap (λ (t : Teller). t.session) same, refl); tells = ap (λ (t : Teller). t.is_wrong) same ∙ sym (or_false old.is_wrong) },
)

-- or where it is still, and a command was tried and not taken
pub rests_stuck : (old new : Teller) (tried : HardwareLine) → TellsLine old tried new → tried ≡ line.Event Fetch → IsStill new.session.hardware.board (walks_in new.session.beside)
    → command_head (registers_of new.session.hardware.board.iommu) ≡ command_head (registers_of old.session.hardware.board.iommu) → RestsNow old new
rests_stuck old new tried tells is still same before shows =
    let (reply, said, goes, wrong) = tells before shows in (
      reply ∷ [],
      claimed_then reply before,
      (still, inr (ap (λ (l : HardwareLine). l ∷ []) (said ∙ is), same)),
      record { through = (new.session, goes, (refl, refl)); tells = wrong ∙ ap (λ (b : Bool). old.is_wrong || b) (sym (or_false (is_wrong reply))) },
    )

-- it came closer to rest, and then rests
pub came_to_rest : (old between new : Teller) → Does (AllPass (brings_to_rest (is_stepped old.session))) old between → RestsNow between new → Rests old new
came_to_rest old between new does rests before shows =
    let (front, middle, settles, so) = does before shows in
    let (last, after, behind, then_so) = rests middle (shown_after front old.session between.session before middle shows so.through) in (
      front ++ last,
      after,
      is_any_reply_wrong (front ++ last),
      record {
        front = front;
        between = between.session;
        middle = middle;
        last = last;
        all = refl;
        settles = settles;
        through = so.through;
        ends = then_so.through;
        rests = behind;
        tells = refl;
      },
      (does_both old between new before middle after front last so then_so).tells,
    )

-- A SCRIPT COMES TO A RUN of a session
pub comes_run : (setup : Setup) (said : List HardwareLine) (session : Session) (claimed : Claimed) (traffic : List Traffic) (wrong : Bool) → Comes setup said session claimed traffic wrong
    → (ran : List HardwareLine) × HasRun setup ran session wrong
comes_run setup said session claimed traffic wrong comes = let (first, all, begins, through, tells) = run_of setup said session claimed traffic wrong comes in
    (lines_of all, record { first = first; all = all; claimed = claimed; begins = begins; same = refl; through = through; tells = tells })
  where
    run_of : (setup : Setup) (said : List HardwareLine) (session : Session) (claimed : Claimed) (traffic : List Traffic) (wrong : Bool) → Comes setup said session claimed traffic wrong
        → (first : Session) × (all : List LineReply) × IsSessionAtPowerOn setup first × GoThrough first nothing_claimed all session claimed × (is_any_reply_wrong all ≡ wrong)
    run_of setup _ _ _ _ _ (PowerOn session begins) = (session, [], begins, (refl, refl), refl)
    run_of setup _ _ _ _ _ (Line said next old between new before middle own reply traffic wrong comes no_help are through is goes) =
        let (first, all, begins, ran, tells) = run_of setup said old before traffic wrong comes in (
          first,
          (all ++ own) ++ reply ∷ [],
          begins,
          through_more (all ++ own) reply first between new nothing_claimed middle (through_both all own first old between nothing_claimed before middle ran through) goes,
          list_any-append is_wrong (all ++ own) (reply ∷ []) ∙ ap (λ (b : Bool). b || (is_wrong reply || false)) (list_any-append is_wrong all own)
              ∙ ap (λ (b : Bool). (is_any_reply_wrong all || is_any_reply_wrong own) || b) (or_false (is_wrong reply))
              ∙ ap (λ (b : Bool). (b || is_any_reply_wrong own) || is_wrong reply) tells,
        )
    run_of setup _ _ _ _ _ (TurnedOn said seed session claimed traffic wrong comes) = run_of setup said session claimed traffic wrong comes
    run_of setup _ _ _ _ _ (Directed said device first last session claimed traffic directed wrong comes directs) = run_of setup said session claimed traffic wrong comes
    run_of setup _ _ _ _ _ (Rested said old new before after own traffic wrong any comes rests) =
        let (first, all, begins, ran, tells) = run_of setup said old before traffic wrong comes in (
          first,
          all ++ (rests.front ++ rests.last),
          begins,
          through_both all (rests.front ++ rests.last) first old new nothing_claimed before after ran
              (through_both rests.front rests.last old rests.between new before rests.middle after rests.through rests.ends),
          list_any-append is_wrong all (rests.front ++ rests.last) ∙ ap (λ (b : Bool). b || is_any_reply_wrong (rests.front ++ rests.last)) tells
              ∙ ap (λ (b : Bool). wrong || b) (ap is_any_reply_wrong (sym rests.all) ∙ sym rests.tells),
        )

-- what holds holds where a result is Ok
pub on_ok : {X E : Type 0} {P : Type 0} (result : Result X E) → P → OnOk result P
on_ok (Ok x) holds = holds
on_ok (Err why) holds = tt
