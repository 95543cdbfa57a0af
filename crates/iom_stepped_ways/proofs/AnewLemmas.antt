-- All that is under way begins anew: of each it is added what remains then.
use Rattle.std.proofs.Common.{◌≡◌, ◌==◌, ◌/◌, ◌∙◌, inl, inr, ℕ, Bool, true, false, List, [], ◌∷◌, ◌++◌, length, Contains, Option, None, Some, option_map, if◌then◌else◌, refl, sym, ap, subst}
use Rattle.std.specs.Bool.{⊤}
use Rattle.std.proofs.lemmas.Bool.Decides.{eqb_tells}
use Rattle.std.proofs.lemmas.List.Elements.{Contains-append_left, Contains-append_right, Contains-append_cases}
use Rattle.iom_base.specs.declared.cause.Cause.TheVariants.{AllInboundDisallowed}
use Rattle.iom_base.specs.declared.device_kind.DeviceKind.{DeviceKind}
use Rattle.iom_board.specs.BoardParts.{BoardParts}
use Rattle.iom_board.specs.Invariant.{device_ids}
use Rattle.iom_device.specs.Caches.{device_with, kind_in}
use Rattle.iom_device.specs.declared.device.Device.{Device}
use Rattle.iom_iommu.specs.Parts.{registers_of}
use Rattle.iom_registers.specs.declared.directory.DirectoryMode.{DirectoryMode}
use Rattle.iom_registers.specs.declared.directory.DirectoryMode.TheVariants as mode
use Rattle.iom_registers.specs.declared.directory.DirectoryPointer.{DirectoryPointer}
use Rattle.iom_stage_walk.specs.Both.{plain}
use Rattle.iom_stepped_board.proofs.BesideLemmas.{first_same}
use Rattle.iom_stepped_board.specs.Beside.{walk_ids}
use Rattle.iom_stepped_requests.specs.Serving.{Remaining, Serves, begun_anew, in_directory, served_or, without_directory}
use Rattle.iom_stepped_requests.specs.Standing.{still_serving}
use Rattle.iom_stepped_requests.specs.declared.request.Answer.{Answer}
use Rattle.iom_stepped_requests.specs.declared.request.Answer.TheVariants.{AsItIs, Faults}
use Rattle.iom_stepped_requests.specs.declared.request.Request.{Request}
use Rattle.iom_walk_loads.specs.Directory.{locating}
use Rattle.iom_walks.specs.Calls.{AllBeginAnew, WhatBeginsAnew}
use Rattle.iom_walks.specs.Invariant.{RowsInvariant, RowInvariant}
use Rattle.iom_walks.specs.Walks.{UnderWay, WalkRow, row_of, under_way_in, under_way_of}
use Rattle.iom_reach.specs.Scene.{Bare, PendingAccess, HardwareScene, HasDevice}
use Rattle.iom_reach.specs.Transitions.{Accept, AreAmongWithOf, GoOn, InModeBare}
use Rattle.iom_hardware_ways.specs.Scenes.{ats_kind, directory_by, scene_of}
use Rattle.iom_hardware_ways.proofs.ListLemmas.{cons_cases, in_none}
use Rattle.iom_hardware_ways.proofs.Turns.{Comes, nothing, one, in_succession}
use Rattle.iom_reach.proofs.TransitionLemmas.{contains_head}
use Rattle.iom_stepped_ways.proofs.BeginLemmas.{IsAdded, search_begins}
use Rattle.iom_stepped_ways.proofs.DirectoryLemmas.{directory_begins}
use Rattle.iom_stepped_ways.proofs.GrowLemmas.{AreAdded, still_added, walks_grow}
use Rattle.iom_stepped_ways.specs.Scenes.{Added, HasAdded, access_on, added_and, with_added, with_one}

-- what is let through of one device alone
only_own : (owner : ℕ) (access : PendingAccess) (device : ℕ) (x : PendingAccess) → Contains ((with_one owner access).let_through device) x → (device ≡ owner) × (x ≡ access)
only_own owner access device x there = elim (eqb_tells owner device) [
  | inl e ↦ elim (cons_cases access [] x (subst (λ (b : Bool). Contains (if b then access ∷ [] else []) x) e.0 there)) [
    | inl same ↦ (sym e.1, sym same)
    | inr none ↦ absurd (in_none x none)
  ]
  | inr ne ↦ absurd (in_none x (subst (λ (b : Bool). Contains (if b then access ∷ [] else []) x) ne.0 there))
]

pub is_own : (owner : ℕ) (access : PendingAccess) → Contains ((with_one owner access).let_through owner) access
is_own owner access = elim (eqb_tells owner owner) [
  | inl e ↦ subst (λ (b : Bool). Contains (if b then access ∷ [] else []) access) (sym e.0) (contains_head access [])
  | inr ne ↦ absurd (ne.1 refl)
]

module _ (trusted : ℕ → Bool) (parts : BoardParts) (a : Added) (request : Request) (plugged : HasDevice (with_added (scene_of trusted parts) a) request.device) where
  abbrev S : HardwareScene
  S = with_added (scene_of trusted parts) a

  abbrev ddtp : DirectoryPointer
  ddtp = (registers_of parts.iommu).ddtp

  -- where ddtp is Bare the request is let through to its own address
  lets_through : directory_by ddtp.mode ddtp.ppn ≡ Bare → IsAdded trusted parts a request plugged (Serves AsItIs)
  lets_through bare =
      let own = access_on (request.asked.address / 4096) request.asked.kind in
      let b = with_one request.device own in
      let through : ℕ → List PendingAccess = λ d. (scene_of trusted parts).in_flight d ++ (a.let_through d ++ b.let_through d) in
      let t = record S { in_flight = through } in (
        b,
        in_succession S t (with_added (scene_of trusted parts) (added_and a b))
            (one (Accept request.device own) tt S t (through, InModeBare plugged bare, among through refl, refl))
            (one GoOn tt t (with_added (scene_of trusted parts) (added_and a b)) (
              a.partial_walks ++ [],
              a.directory_walks ++ [],
              through,
              (λ walk there. elim (Contains-append_cases a.partial_walks [] walk there) [ inl old ↦ inr old | inr none ↦ absurd (in_none walk none) ]),
              (λ walk there. elim (Contains-append_cases a.directory_walks [] walk there) [ inl old ↦ inr old | inr none ↦ absurd (in_none walk none) ]),
              (λ d access flies. flies),
              refl,
            )),
        Contains-append_right (a.let_through request.device) (b.let_through request.device) own (is_own request.device own),
      )
    where
      among : (through : ℕ → List PendingAccess)
          → through ≡ (λ d. (scene_of trusted parts).in_flight d ++ (a.let_through d ++ (with_one request.device (access_on (request.asked.address / 4096) request.asked.kind)).let_through d))
          → AreAmongWithOf through request.device (access_on (request.asked.address / 4096) request.asked.kind) S.in_flight
      among through is d x flies =
          let own = access_on (request.asked.address / 4096) request.asked.kind in
          let flights = (scene_of trusted parts).in_flight d in
          let mine = (with_one request.device own).let_through d in
          elim (Contains-append_cases flights (a.let_through d ++ mine) x (subst (λ (f : ℕ → List PendingAccess). Contains (f d) x) is flies)) [
            | inl old ↦ inr (Contains-append_left flights (a.let_through d) x old)
            | inr rest ↦ elim (Contains-append_cases (a.let_through d) mine x rest) [
              | inl before ↦ inr (Contains-append_right flights (a.let_through d) x before)
              | inr new ↦ inl (only_own request.device own d x new)
            ]
          ]

  -- nothing is added
  adds_nothing : (answer : Answer) → ((added : Added) → HasAdded (length parts.memory) added request (Serves answer)) → IsAdded trusted parts a request plugged (Serves answer)
  adds_nothing answer has = (
    record { partial_walks = []; directory_walks = []; let_through = λ device. [] },
    walks_grow trusted parts a [] [] (λ walk none. absurd (in_none walk none)) (λ walk none. absurd (in_none walk none)),
    has (added_and a (record { partial_walks = []; directory_walks = []; let_through = λ device. [] })),
  )

  abbrev on : Remaining
  on = in_directory (length parts.memory) true (λ key. None) request (locating ddtp request.device)

  searches : IsAdded trusted parts a request plugged on
  searches = elim (directory_begins ddtp.mode ddtp.ppn request.device) [
    | inl begins ↦ search_begins trusted parts a request plugged true on (λ key. None) begins refl
    | inr (cause, stops) ↦ subst (IsAdded trusted parts a request plugged) (sym (ap (in_directory (length parts.memory) true (λ key. None) request) stops))
        (adds_nothing (Faults (plain cause)) (λ added. tt))
  ]

  by_mode : (m : DirectoryMode) → ddtp.mode ≡ m → IsAdded trusted parts a request plugged (served_or (without_directory m) on)
  by_mode mode.Off is = adds_nothing (Faults (plain AllInboundDisallowed)) (λ added. tt)
  by_mode mode.Bare is = lets_through (ap (λ m. directory_by m ddtp.ppn) is)
  by_mode mode.OneLevel is = searches
  by_mode mode.TwoLevels is = searches
  by_mode mode.ThreeLevels is = searches

  -- ONE BEGINS ANEW
  pub one_anew : (remaining : Remaining) → remaining ≡ begun_anew (length parts.memory) ddtp request → IsAdded trusted parts a request plugged remaining
  one_anew remaining is = subst (IsAdded trusted parts a request plugged) (sym is) (by_mode ddtp.mode refl)

-- ROW BY ROW

-- all that is under way is added
abbrev pub AllAdded : ℕ → Added → List WalkRow → Type 0
AllAdded frames added [] = ⊤
AllAdded frames added (row ∷ rows) =
    ((under_way : UnderWay) → row.under_way ≡ Some under_way → HasAdded frames added under_way.request (still_serving frames under_way.serving)) × AllAdded frames added rows

all_still : (frames : ℕ) (a b : Added) (rows : List WalkRow) → AllAdded frames a rows → AllAdded frames (added_and a b) rows
all_still frames a b [] all = tt
all_still frames a b (row ∷ rows) (own, others) =
    ((λ under_way is. still_added frames a b under_way.request (still_serving frames under_way.serving) (own under_way is)), all_still frames a b rows others)

pub by_id : (frames : ℕ) (added : Added) (rows : List WalkRow) → AllAdded frames added rows → AreAdded frames added rows
by_id frames added [] all id under_way is = let no : ⊥ = cc in absurd no
by_id frames added (row ∷ rows) (own, others) id under_way is = by (row.device == id) (by_id frames added rows others id under_way) is
  where
    by : (b : Bool) → (under_way_of rows id ≡ Some under_way → HasAdded frames added under_way.request (still_serving frames under_way.serving))
        → under_way_in (if b then Some row else row_of rows id) ≡ Some under_way → HasAdded frames added under_way.request (still_serving frames under_way.serving)
    by true later here = own under_way here
    by false later there = later there

-- the device of each row is plugged in
abbrev ArePlugged : List Device → List WalkRow → Type 0
ArePlugged devices [] = ⊤
ArePlugged devices (row ∷ rows) = ((kind : DeviceKind) × (kind_in devices row.device ≡ Some kind)) × ArePlugged devices rows

kind_behind : (device : Device) (devices : List Device) (id : ℕ) (kind : DeviceKind) → kind_in devices id ≡ Some kind → (other : DeviceKind) × (kind_in (device ∷ devices) id ≡ Some other)
kind_behind device devices id kind there = by (device.id == id)
  where
    by : (b : Bool) → (other : DeviceKind) × (option_map (λ (d : Device). d.kind) (if b then Some device else device_with devices id) ≡ Some other)
    by true = (device.kind, refl)
    by false = (kind, there)

plugged_behind : (device : Device) (devices : List Device) (rows : List WalkRow) → ArePlugged devices rows → ArePlugged (device ∷ devices) rows
plugged_behind device devices [] all = tt
plugged_behind device devices (row ∷ rows) ((kind, there), others) = (kind_behind device devices row.device kind there, plugged_behind device devices rows others)

first_plugged : (device : Device) (devices : List Device) (id : ℕ) → id ≡ device.id → (kind : DeviceKind) × (kind_in (device ∷ devices) id ≡ Some kind)
first_plugged device devices id is = elim (eqb_tells device.id id) [
  | inl e ↦ (device.kind, ap (λ (b : Bool). option_map (λ (d : Device). d.kind) (if b then Some device else device_with devices id)) e.0)
  | inr ne ↦ absurd (ne.1 (sym is))
]

pub are_plugged : (rows : List WalkRow) (devices : List Device) → walk_ids rows ≡ device_ids devices → ArePlugged devices rows
are_plugged [] devices same = tt
are_plugged (row ∷ rows) [] same = let no : ⊥ = cc in absurd no
are_plugged (row ∷ rows) (device ∷ devices) same =
    let both = first_same row.device device.id (walk_ids rows) (device_ids devices) same in
    (first_plugged device devices row.device both.0, plugged_behind device devices rows (are_plugged rows devices both.1))

module _ (trusted : ℕ → Bool) (parts : BoardParts) where
  abbrev s : HardwareScene
  s = scene_of trusted parts

  abbrev Anew : Added → List WalkRow → Type 0
  Anew a new_rows = (b : Added) × Comes (with_added s a) (with_added s b) × AllAdded (length parts.memory) b new_rows

  abbrev root_now : DirectoryPointer
  root_now = (registers_of parts.iommu).ddtp

  some_same : (one other : UnderWay) → Some one ≡ Some other → one ≡ other
  some_same one other is = cc

  own_anew : (old new : WalkRow) (later : List WalkRow) (a : Added) (before now : Option UnderWay) → old.under_way ≡ before → new.under_way ≡ now → WhatBeginsAnew root_now before now
      → RowInvariant old.device old.bytes before → ((kind : DeviceKind) × (kind_in parts.devices old.device ≡ Some kind)) → Anew a later → Anew a (new ∷ later)
  own_anew old new later a before None was is begins holds there (b, comes, all) = (b, comes, ((λ under_way some. let no : ⊥ = cc in absurd no), all))
  own_anew old new later a None (Some now) was is begins holds there rest = absurd begins
  own_anew old new later a (Some before) (Some now) was is begins holds (kind, there) (b, comes, all) =
      let own : now.request.device ≡ old.device = ap (λ (r : Request). r.device) begins.request ∙ holds.own in
      let plugged : HasDevice (with_added s b) now.request.device = (ats_kind kind, ap (λ d. option_map ats_kind (kind_in parts.devices d)) own ∙ ap (option_map ats_kind) there) in
      let begun = begins.begun (length parts.memory) ∙ ap (begun_anew (length parts.memory) root_now) (sym begins.request) in
      let (more, grows, has) = one_anew trusted parts b now.request plugged (still_serving (length parts.memory) now.serving) begun in (
        added_and b more,
        in_succession (with_added s a) (with_added s b) (with_added s (added_and b more)) comes grows,
        (
          (λ under_way some.
              subst (λ (u : UnderWay). HasAdded (length parts.memory) (added_and b more) u.request (still_serving (length parts.memory) u.serving))
              (some_same now under_way (sym is ∙ some)) has),
          all_still (length parts.memory) b more later all,
        ),
      )

  all_anew : (rows new_rows : List WalkRow) (a : Added) → AllBeginAnew root_now rows new_rows → RowsInvariant rows → ArePlugged parts.devices rows → Anew a new_rows
  all_anew [] [] a begin holds plugged = (a, nothing (with_added s a) (with_added s a) refl, tt)
  all_anew [] (new ∷ news) a begin holds plugged = absurd begin
  all_anew (old ∷ olds) [] a begin holds plugged = absurd begin
  all_anew (old ∷ olds) (new ∷ news) a (first, others) (own, later) (there, rest) =
      own_anew old new news a old.under_way new.under_way refl refl first.under_way own there (all_anew olds news a others later rest)

  -- ALL BEGIN ANEW
  pub begin_anew : (rows new_rows : List WalkRow) (a : Added) → AllBeginAnew root_now rows new_rows → RowsInvariant rows → walk_ids rows ≡ device_ids parts.devices
      → (b : Added) × Comes (with_added s a) (with_added s b) × AreAdded (length parts.memory) b new_rows
  begin_anew rows new_rows a begin holds ids =
      let (b, comes, all) = all_anew rows new_rows a begin holds (are_plugged rows parts.devices ids) in
      (b, comes, by_id (length parts.memory) b new_rows all)
