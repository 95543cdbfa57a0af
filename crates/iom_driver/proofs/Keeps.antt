-- What stays true of a driver by itself at each of its calls.
use Rattle.std.proofs.Common.{◌≡◌, ◌≢◌, ◌+◌, ◌-◌, ◌<◌, ◌≤◌, ◌==◌, ◌&&◌, ◌⊎◌, inl, inr, ◌∙◌, ◌++◌, if◌then◌else◌, ℕ, Bool, true, false, List, [], ◌∷◌, length, map, Option, Some, None, option_map, slice_get, refl, sym, ap, subst, arith, length-append, All}
use Rattle.std.proofs.lemmas.Bool.{false≢true, and_parts, eqb-true, eq-eqb}
use Rattle.std.proofs.lemmas.Bool.Decides.{eqb_tells}
use Rattle.std.proofs.lemmas.List.{length-map}
use Rattle.iom_base.specs.declared.owner.Owner.{Owner}
use Rattle.iom_base.specs.declared.owner.Owner.TheVariants.{OneDevice, System}
use Rattle.iom_base.specs.declared.rights.Rights.{Rights}
use Rattle.iom_base.specs.declared.size.Size.TheVariants.{Sv48}
use Rattle.iom_base.specs.Sizes.{page_limit_of}
use Rattle.iom_ledger.specs.declared.ledger.Ledger.{Ledger}
use Rattle.iom_ledger.specs.Changes.{ShowsGrant, ShowsRelease, IsUnchanged, released_from}
use Rattle.iom_ledger.specs.Confirmations.{ConfirmsFrom, is_among_next, unless_among}
use Rattle.iom_ledger.specs.History.{Pair}
use Rattle.iom_ledger.specs.Shown.{held_in, released_in, pending_in}
use Rattle.iom_table_frames.specs.Owners.{IsFreeForTable}
use Rattle.iom_driver.specs.declared.device.Attachment.{Attachment}
use Rattle.iom_driver.specs.declared.device.Attachment.TheVariants.{Attached, Quarantined, Leaving}
use Rattle.iom_driver.specs.declared.device.Device.{Device}
use Rattle.iom_driver.specs.declared.device.Stages.{Stages}
use Rattle.iom_driver.specs.Choices.{owned_by}
use Rattle.iom_driver.specs.Confirmed.{driven_once_confirmed, owner_given_back}
use Rattle.iom_driver.specs.Devices.{device_by_id, attachment_by_id, attached_stages, owned_stages, stages_of, owned_stages_of, has_device, detached, with_attachment, IsLowestNumber}
use Rattle.iom_driver.specs.Layout.{AreFixed}
use Rattle.iom_base.specs.DeviceIds.{id_limit}
use Rattle.iom_driver.specs.Invariant.{IsGrant, AreGrants, AreFences, StateInvariant, RiseBetween}
use Rattle.iom_driver.proofs.Gone.{attachment_confirmed, stage_confirmed, still_owned, still_leaving, still_quarantined, detached_after, ids_confirmed, unmarked_back, marked_back}
use Rattle.iom_driver.proofs.Ids.{ids_with, ids_plugged}
use Rattle.iom_driver.proofs.Owners.{NotAmong, not_among, all_among, mark_stays, length-owned_by}
use Rattle.iom_driver.proofs.Numbers.{numbers_attached}
use Rattle.iom_driver.proofs.Places.{attachment_set, attachment_other, attachment_plugged, attached_there, attached_owns, length-with_attachment}
use Rattle.iom_driver.proofs.Taken.{unmarked, owned_differs, taken_owners, length-taken, taken_stays, AreTaken, owned_not_taken, taken_free}
use Rattle.iom_driver.proofs.Tickets.{rise_further, rise_more, rise_left}

-- PLUG

pub sound_plugged : (ledger : Ledger) (owners : List (Option Owner)) (devices : List Device) (frames levels : ℕ) (started : Bool) (given confirmed restarts restarted id : ℕ) (trusted : Bool)
    → StateInvariant ledger owners devices frames levels started given confirmed restarts restarted → device_by_id devices id ≡ None → length devices < 16
    → StateInvariant ledger owners (devices ++ detached id trusted ∷ []) frames levels started given confirmed restarts restarted
sound_plugged ledger owners devices frames levels started given confirmed restarts restarted id trusted invariants none few =
    let same : (other : ℕ) → attachment_by_id (devices ++ detached id trusted ∷ []) other ≡ attachment_by_id devices other = λ other. attachment_plugged devices id trusted other in
    record {
      sizes = invariants.sizes;
      fixed = invariants.fixed;
      grants = invariants.grants;
      holders = λ other page free. invariants.holders other page (sym (ap attached_stages (same other)) ∙ free);
      numbers = record {
        small = λ other stage at. invariants.numbers.small other stage (sym (ap owned_stages (same other)) ∙ at);
        own = λ one other a b at_one at_other equal. invariants.numbers.own one other a b (sym (ap owned_stages (same one)) ∙ at_one) (sym (ap owned_stages (same other)) ∙ at_other) equal;
      };
      named = λ other stage at. invariants.named other stage (sym (ap owned_stages (same other)) ∙ at);
      tickets = invariants.tickets;
      fences = invariants.fences;
      leaving = λ other ticket stage at. invariants.leaving other ticket stage (sym (same other) ∙ at);
      quarantined = λ other ticket stage at. invariants.quarantined other ticket stage (sym (same other) ∙ at);
      ids = ids_plugged devices id trusted none invariants.ids;
      few = omega (arith, length-append devices (detached id trusted ∷ []));
      idle = λ stopped other. same other ∙ invariants.idle stopped other;
    }

-- POLL

-- what still lingers lingered
unless_some : (first n : ℕ) (released : Option (ℕ × Pair)) (pair : Pair) → option_map (λ (r : ℕ × Pair). r.1) (unless_among first n released) ≡ Some pair
    → option_map (λ (r : ℕ × Pair). r.1) released ≡ Some pair
unless_some first n None pair still = still
unless_some first n (Some released) pair still = by (is_among_next first n released.0) still
  where
    by : (b : Bool) → option_map (λ (r : ℕ × Pair). r.1) (if b then None else Some released) ≡ Some pair → Some released.1 ≡ Some pair
    by true still = cc
    by false still = still

grants_polled : (owners : List (Option Owner)) (old new : Ledger) (first n : ℕ) → ConfirmsFrom old new first n → AreGrants owners old → AreGrants owners new
grants_polled owners old new first n confirmed grants = record {
  held = λ d a frame rights held. grants.held d a frame rights (sym (confirmed.held d a) ∙ held);
  lingering = λ d a frame rights lingers.
      grants.lingering d a frame rights (unless_some first n (released_in old d a) (frame, rights) (sym (ap (option_map (λ (r : ℕ × Pair). r.1)) (confirmed.lingering d a)) ∙ lingers));
}

-- grants, where frames of devices that have left are given back
grants_back : (owners : List (Option Owner)) (ledger : Ledger) (done : ℕ) (devices : List Device) → AreGrants owners ledger → AreGrants (map (owner_given_back done devices) owners) ledger
grants_back owners ledger done devices grants = record {
  held = λ d a frame rights held.
      let grant = grants.held d a frame rights held in record { page_low = grant.page_low; unreserved = unmarked_back done devices owners frame grant.unreserved };
  lingering = λ d a frame rights lingers.
      let grant = grants.lingering d a frame rights lingers in record { page_low = grant.page_low; unreserved = unmarked_back done devices owners frame grant.unreserved };
}

-- the fixed frames are the system's, which never leaves
fixed_back : (owners : List (Option Owner)) (done : ℕ) (devices : List Device) (frames : ℕ) → AreFixed owners frames → AreFixed (map (owner_given_back done devices) owners) frames
fixed_back owners done devices frames fixed = record {
  command = marked_back done devices owners (frames - 1) System fixed.command refl;
  fault = marked_back done devices owners (frames - 2) System fixed.fault refl;
  completion = marked_back done devices owners (frames - 3) System fixed.completion refl;
  directory = marked_back done devices owners (frames - 4) System fixed.directory refl;
}

pub sound_polled : (old new : Ledger) (owners : List (Option Owner)) (devices : List Device) (frames levels : ℕ) (started : Bool) (given confirmed restarts restarted done : ℕ)
    → StateInvariant old owners devices frames levels started given confirmed restarts restarted → ConfirmsFrom old new (confirmed + 1) (done - confirmed) → confirmed ≤ done → done ≤ given
    → StateInvariant new (map (owner_given_back done devices) owners) (map (driven_once_confirmed done) devices) frames levels started given done restarts restarted
sound_polled old new owners devices frames levels started given confirmed restarts restarted done invariants shown low high = record {
  sizes = record { owned = length-map owners (owner_given_back done devices) ∙ invariants.sizes.owned; size = invariants.sizes.size; in_range = invariants.sizes.in_range };
  fixed = fixed_back owners done devices frames invariants.fixed;
  grants = grants_back owners new done devices (grants_polled owners old new (confirmed + 1) (done - confirmed) shown invariants.grants);
  holders = λ id page none. shown.held id page ∙ invariants.holders id page (sym (stage_confirmed done devices id) ∙ none);
  numbers = record {
    small = λ id stage at. invariants.numbers.small id stage (still_owned done devices id stage at).0;
    own = λ one other a b at_one at_other same. invariants.numbers.own one other a b (still_owned done devices one a at_one).0 (still_owned done devices other b at_other).0 same;
  };
  named = λ id stage at. invariants.named id stage (still_owned done devices id stage at).0;
  tickets = record {
    pending =
        subst (λ ts. RiseBetween done given ts) (sym shown.pending)
        (rise_left (confirmed + 1) (done - confirmed) done confirmed given (pending_in old) (omega arith) (omega (arith, low)) invariants.tickets.pending);
    ordered = high;
  };
  fences = invariants.fences;
  leaving = λ id ticket stage at. let still = still_leaving done devices id ticket stage at in (still.1, (invariants.leaving id ticket stage still.0).1);
  quarantined = λ id ticket stage at. invariants.quarantined id ticket stage (still_quarantined done devices id ticket stage at);
  ids = ids_confirmed done devices invariants.ids;
  few = omega (arith, length-map devices (driven_once_confirmed done), invariants.few);
  idle = λ stopped id. attachment_confirmed done devices id ∙ detached_after done (attachment_by_id devices id) (invariants.idle stopped id);
}

-- ATTACH

-- the fixed frames, where each frame that is somebody's stays so
fixed_stay : (owners owners' : List (Option Owner)) (frames : ℕ) → ((n : ℕ) → slice_get owners n ≡ Some (Some System) → slice_get owners' n ≡ slice_get owners n) → AreFixed owners frames → AreFixed owners' frames
fixed_stay owners owners' frames stay fixed = record {
  command = stay (frames - 1) fixed.command ∙ fixed.command;
  fault = stay (frames - 2) fixed.fault ∙ fixed.fault;
  completion = stay (frames - 3) fixed.completion ∙ fixed.completion;
  directory = stay (frames - 4) fixed.directory ∙ fixed.directory;
}

-- grants where other frames that no pair names are reserved
grants_reserved : (owners owners' : List (Option Owner)) (ledger : Ledger) (chosen : List ℕ) → AreGrants owners ledger → All (λ f. IsFreeForTable owners ledger None f) chosen
    → ((n : ℕ) → NotAmong n chosen → slice_get owners' n ≡ slice_get owners n) → AreGrants owners' ledger
grants_reserved owners owners' ledger chosen grants free stay = record {
  held = λ device page frame rights held.
      let grant = grants.held device page frame rights held in
      record {
        page_low = grant.page_low;
        unreserved = stay frame (not_among (λ t. IsFreeForTable owners ledger None t) frame chosen free (λ is_free. (is_free.ungranted device page rights).0 held)) ∙ grant.unreserved;
      };
  lingering = λ device page frame rights lingers.
      let grant = grants.lingering device page frame rights lingers in
      record {
        page_low = grant.page_low;
        unreserved = stay frame (not_among (λ t. IsFreeForTable owners ledger None t) frame chosen free (λ is_free. (is_free.ungranted device page rights).1 lingers)) ∙ grant.unreserved;
      };
}

-- how each device is attached, once one attachment is set
pub set_or_other : (devices : List Device) (id : ℕ) (a : Attachment) (other : ℕ) → has_device devices id ≡ true
    → ((other ≡ id) × (attachment_by_id (with_attachment devices id a) other ≡ a)) ⊎ ((other ≢ id) × (attachment_by_id (with_attachment devices id a) other ≡ attachment_by_id devices other))
set_or_other devices id a other plugged = elim (eqb_tells other id) [
  | inl e ↦ inl (e.1, ap (λ i. attachment_by_id (with_attachment devices id a) i) e.1 ∙ attachment_set devices id a plugged)
  | inr ne ↦ inr (ne.1, attachment_other devices id other a ne.1)
]

pub sound_attached : (ledger : Ledger) (owners : List (Option Owner)) (devices : List Device) (frames levels : ℕ) (started : Bool) (given confirmed restarts restarted id count : ℕ) (stage : Stages) (pages roots : List ℕ)
    → StateInvariant ledger owners devices frames levels started given confirmed restarts restarted → started ≡ true → has_device devices id ≡ true → id < id_limit levels
    → AreTaken owners ledger frames count pages roots → IsLowestNumber devices stage.number → stage.number ≤ 17
    → StateInvariant ledger (taken_owners id pages roots owners) (with_attachment devices id (Attached stage)) frames levels started given confirmed restarts restarted
sound_attached ledger owners devices frames levels started given confirmed restarts restarted id count stage pages roots invariants runs plugged narrow taken lowest small =
    let either : (other : ℕ) → ((other ≡ id) × (attachment_by_id (with_attachment devices id (Attached stage)) other ≡ Attached stage)) ⊎ ((other ≢ id) × (attachment_by_id (with_attachment devices id (Attached stage)) other ≡ attachment_by_id devices other)) =
    λ other. set_or_other devices id (Attached stage) other plugged in
    record {
      sizes = record { owned = length-taken id pages roots owners ∙ invariants.sizes.owned; size = invariants.sizes.size; in_range = invariants.sizes.in_range };
      fixed = fixed_stay owners (taken_owners id pages roots owners) frames
          (λ n system. taken_stays id n pages roots owners (owned_not_taken owners ledger frames count n pages roots System invariants.sizes.owned taken system)) invariants.fixed;
      grants = grants_reserved owners (taken_owners id pages roots owners) ledger (pages ++ roots) invariants.grants
          (all_among (λ f. IsFreeForTable owners ledger None f) (pages ++ roots) (taken_free owners ledger frames count pages roots taken)) (λ n apart. taken_stays id n pages roots owners apart);
      holders = λ other page none. elim (either other) [
        | inl now ↦ absurd (some_none (sym (ap attached_stages now.1) ∙ none))
        | inr was ↦ invariants.holders other page (sym (ap attached_stages was.1) ∙ none)
      ];
      numbers = numbers_attached devices id stage invariants.numbers plugged lowest small;
      named = λ other s at. elim (either other) [
        | inl now ↦ subst (λ i. i < id_limit levels) (sym now.0) narrow
        | inr was ↦ invariants.named other s (sym (ap owned_stages was.1) ∙ at)
      ];
      tickets = invariants.tickets;
      leaving = λ other ticket s at. elim (either other) [
        | inl now ↦ absurd (attached_leaving ticket s (sym now.1 ∙ at))
        | inr was ↦ invariants.leaving other ticket s (sym was.1 ∙ at)
      ];
      fences = invariants.fences;
      quarantined = λ other ticket s at. elim (either other) [
        | inl now ↦ absurd (attached_quarantined ticket s (sym now.1 ∙ at))
        | inr was ↦ invariants.quarantined other ticket s (sym was.1 ∙ at)
      ];
      ids = ids_with devices id (Attached stage) invariants.ids;
      few = omega (arith, length-with_attachment devices id (Attached stage), invariants.few);
      idle = λ stopped. absurd (false≢true (sym stopped ∙ runs));
    }
  where
    some_none : ◌≡◌ {A = Option Stages} (Some stage) None → ⊥
    some_none same = cc

    attached_leaving : (ticket : ℕ) (s : Stages) → ◌≡◌ {A = Attachment} (Attached stage) (Leaving ticket s) → ⊥
    attached_leaving ticket s same = cc

    attached_quarantined : (ticket : ℕ) (s : Stages) → ◌≡◌ {A = Attachment} (Attached stage) (Quarantined ticket s) → ⊥
    attached_quarantined ticket s same = cc

-- DETACH

-- one more fence has a number, where the last number isn't used up
pub more_fences : (given restarts restarted : ℕ) → AreFences given restarts restarted → given + restarts < 4294967295 → AreFences (given + 1) restarts restarted
more_fences given restarts restarted fences more =
    let early : restarted ≤ given = fences.earlier in record { earlier = omega (arith, early); numbered = omega (arith, more) }

-- a device that begins to leave owns what it owned
pub owned_leaving : (devices : List Device) (id ticket : ℕ) (stage : Stages) → stages_of devices id ≡ Some stage → (other : ℕ)
    → owned_stages_of (with_attachment devices id (Leaving ticket stage)) other ≡ owned_stages_of devices other
owned_leaving devices id ticket stage attached other = elim (set_or_other devices id (Leaving ticket stage) other (attached_there devices id stage attached)) [
  | inl now ↦ ap owned_stages now.1 ∙ sym (attached_owns (attachment_by_id devices id) stage attached) ∙ ap (λ i. owned_stages_of devices i) (sym now.0)
  | inr was ↦ ap owned_stages was.1
]

pub sound_detached : (ledger : Ledger) (owners : List (Option Owner)) (devices : List Device) (frames levels : ℕ) (started : Bool) (given confirmed restarts restarted id : ℕ) (stage : Stages)
    → StateInvariant ledger owners devices frames levels started given confirmed restarts restarted → started ≡ true → stages_of devices id ≡ Some stage → ((page : ℕ) → held_in ledger id page ≡ None)
    → given + restarts < 4294967295 → StateInvariant ledger owners (with_attachment devices id (Leaving (given + 1) stage)) frames levels started (given + 1) confirmed restarts restarted
sound_detached ledger owners devices frames levels started given confirmed restarts restarted id stage invariants runs attached none more =
    let either : (other : ℕ) → ((other ≡ id) × (attachment_by_id (with_attachment devices id (Leaving (given + 1) stage)) other ≡ Leaving (given + 1) stage))
    ⊎ ((other ≢ id) × (attachment_by_id (with_attachment devices id (Leaving (given + 1) stage)) other ≡ attachment_by_id devices other)) =
    λ other. set_or_other devices id (Leaving (given + 1) stage) other (attached_there devices id stage attached) in
    let owned = owned_leaving devices id (given + 1) stage attached in
    let le = invariants.tickets.ordered in
    record {
      sizes = invariants.sizes;
      fixed = invariants.fixed;
      grants = invariants.grants;
      holders = λ other page free. elim (either other) [
        | inl now ↦ ap (λ i. held_in ledger i page) now.0 ∙ none page
        | inr was ↦ invariants.holders other page (sym (ap attached_stages was.1) ∙ free)
      ];
      numbers = record {
        small = λ other s at. invariants.numbers.small other s (sym (owned other) ∙ at);
        own = λ one other a b at_one at_other same. invariants.numbers.own one other a b (sym (owned one) ∙ at_one) (sym (owned other) ∙ at_other) same;
      };
      named = λ other s at. invariants.named other s (sym (owned other) ∙ at);
      tickets = record { pending = rise_further confirmed given (given + 1) (pending_in ledger) (omega arith) invariants.tickets.pending; ordered = omega (arith, le) };
      leaving = λ other ticket s at. elim (either other) [
        | inl now ↦ let same = own_ticket ticket s (sym now.1 ∙ at) in (omega (arith, same, le), omega (arith, same))
        | inr was ↦ let before = invariants.leaving other ticket s (sym was.1 ∙ at) in let high : ticket ≤ given = before.1 in (before.0, omega (arith, high))
      ];
      fences = more_fences given restarts restarted invariants.fences more;
      quarantined = λ other ticket s at. elim (either other) [
        | inl now ↦ absurd (leaving_quarantined ticket s (sym now.1 ∙ at))
        | inr was ↦ let before = invariants.quarantined other ticket s (sym was.1 ∙ at) in let high : ticket ≤ given = before.1 in (before.0, omega (arith, high))
      ];
      ids = ids_with devices id (Leaving (given + 1) stage) invariants.ids;
      few = omega (arith, length-with_attachment devices id (Leaving (given + 1) stage), invariants.few);
      idle = λ stopped. absurd (false≢true (sym stopped ∙ runs));
    }
  where
    own_ticket : (ticket : ℕ) (s : Stages) → ◌≡◌ {A = Attachment} (Leaving (given + 1) stage) (Leaving ticket s) → given + 1 ≡ ticket
    own_ticket ticket s same = cc

    leaving_quarantined : (ticket : ℕ) (s : Stages) → ◌≡◌ {A = Attachment} (Leaving (given + 1) stage) (Quarantined ticket s) → ⊥
    leaving_quarantined ticket s same = cc

-- GRANT

-- what is held after a grant: the pair at its page, and what was held elsewhere
pub here_or_there : (id page device p : ℕ) (pair : Pair) (held found : Option Pair) → found ≡ (if (id == device) && (page == p) then Some pair else held)
    → ((id ≡ device) × (page ≡ p) × (found ≡ Some pair)) ⊎ ((((id ≡ device) × (page ≡ p)) → ⊥) × (found ≡ held))
here_or_there id page device p pair held found is = by ((id == device) && (page == p)) refl is
  where
    by : (b : Bool) → ((id == device) && (page == p)) ≡ b → found ≡ (if b then Some pair else held) → ((id ≡ device) × (page ≡ p) × (found ≡ Some pair)) ⊎ ((((id ≡ device) × (page ≡ p)) → ⊥) × (found ≡ held))
    by true e now = let both = and_parts (id == device) (page == p) e in inl (eqb-true id device both.0, eqb-true page p both.1, now)
    by false e now = inr ((λ same. false≢true (sym e ∙ rw (eq-eqb id device same.0, eq-eqb page p same.1) refl)), now)

grants_more : (owners : List (Option Owner)) (old new : Ledger) (id page frame : ℕ) (rights : Rights) (tables : List ℕ)
    → AreGrants owners old → ShowsGrant old new id page (frame, rights) → page < page_limit_of Sv48 → slice_get owners frame ≡ Some None → All (λ f. IsFreeForTable owners old (Some frame) f) tables
    → AreGrants (owned_by (OneDevice id) tables owners) new
grants_more owners old new id page frame rights tables grants granted low unreserved free = record {
  held = λ device p f r held. by_held device p f r held (here_or_there id page device p (frame, rights) (held_in old device p) (held_in new device p) (granted.held device p));
  lingering = λ device p f r lingers.
      let was = ap (λ (o : Option (ℕ × Pair)). option_map (λ released. released.1) o) (sym (granted.lingering device p)) ∙ lingers in
      let grant = grants.lingering device p f r was in
      record { page_low = grant.page_low; unreserved = mark_stays (OneDevice id) f tables owners (not_among (λ t. IsFreeForTable owners old (Some frame) t) f tables free (λ is_free. (is_free.ungranted device p r).1 was)) ∙ grant.unreserved };
}
  where
    own_frame : slice_get (owned_by (OneDevice id) tables owners) frame ≡ Some None
    own_frame = mark_stays (OneDevice id) frame tables owners (not_among (λ t. IsFreeForTable owners old (Some frame) t) frame tables free (λ is_free. is_free.other refl)) ∙ unreserved

    by_held : (device p f : ℕ) (r : Rights) → held_in new device p ≡ Some (f, r)
        → ((id ≡ device) × (page ≡ p) × (held_in new device p ≡ Some (frame, rights))) ⊎ ((((id ≡ device) × (page ≡ p)) → ⊥) × (held_in new device p ≡ held_in old device p))
        → IsGrant (owned_by (OneDevice id) tables owners) p f
    by_held device p f r held (inl now) =
        let pairs : ◌≡◌ {A = Option Pair} (Some (frame, rights)) (Some (f, r)) = sym now.2 ∙ held in
        let pair : ◌≡◌ {A = Pair} (frame, rights) (f, r) = cc in
        let same : frame ≡ f = ap (λ (q : Pair). q.0) pair in
        record { page_low = subst (λ n. n < page_limit_of Sv48) now.1 low; unreserved = subst (λ n. slice_get (owned_by (OneDevice id) tables owners) n ≡ Some None) same own_frame }
    by_held device p f r held (inr was) =
        let before = sym was.1 ∙ held in
        let grant = grants.held device p f r before in
        record { page_low = grant.page_low; unreserved = mark_stays (OneDevice id) f tables owners (not_among (λ t. IsFreeForTable owners old (Some frame) t) f tables free (λ is_free. (is_free.ungranted device p r).0 before)) ∙ grant.unreserved }

pub sound_granted : (old new : Ledger) (owners : List (Option Owner)) (devices : List Device) (frames levels : ℕ) (started : Bool) (given confirmed restarts restarted id page frame : ℕ) (rights : Rights) (stage : Stages) (tables : List ℕ)
    → StateInvariant old owners devices frames levels started given confirmed restarts restarted → ShowsGrant old new id page (frame, rights) → stages_of devices id ≡ Some stage
    → page < page_limit_of Sv48 → slice_get owners frame ≡ Some None → All (λ f. f < length owners) tables → All (λ f. IsFreeForTable owners old (Some frame) f) tables
    → StateInvariant new (owned_by (OneDevice id) tables owners) devices frames levels started given confirmed restarts restarted
sound_granted old new owners devices frames levels started given confirmed restarts restarted id page frame rights stage tables invariants granted attached low unreserved inside free = record {
  sizes = record { owned = length-owned_by (OneDevice id) tables owners ∙ invariants.sizes.owned; size = invariants.sizes.size; in_range = invariants.sizes.in_range };
  fixed = fixed_stay owners (owned_by (OneDevice id) tables owners) frames
      (λ n system. mark_stays (OneDevice id) n tables owners (not_among (λ t. (t < length owners) × IsFreeForTable owners old (Some frame) t) n tables (λ k d lt. (inside k d lt, free k d lt))
      (λ is_free. owned_differs owners n n System system (unmarked owners n is_free.0 is_free.1.unmarked) refl))) invariants.fixed;
  grants = grants_more owners old new id page frame rights tables invariants.grants granted low unreserved free;
  holders = λ other p none. elim (here_or_there id page other p (frame, rights) (held_in old other p) (held_in new other p) (granted.held other p)) [
    | inl now ↦ absurd (some_none (sym attached ∙ ap (λ i. stages_of devices i) now.0 ∙ none))
    | inr still ↦ still.1 ∙ invariants.holders other p none
  ];
  numbers = invariants.numbers;
  named = invariants.named;
  tickets = record { pending = subst (λ ts. RiseBetween confirmed given ts) (sym granted.pending) invariants.tickets.pending; ordered = invariants.tickets.ordered };
  fences = invariants.fences;
  leaving = invariants.leaving;
  quarantined = invariants.quarantined;
  ids = invariants.ids;
  few = invariants.few;
  idle = invariants.idle;
}
  where
    some_none : ◌≡◌ {A = Option Stages} (Some stage) None → ⊥
    some_none same = cc

-- where the ledger shows the same
pub sound_unchanged : (old new : Ledger) (owners : List (Option Owner)) (devices : List Device) (frames levels : ℕ) (started : Bool) (given confirmed restarts restarted : ℕ)
    → StateInvariant old owners devices frames levels started given confirmed restarts restarted → IsUnchanged old new → StateInvariant new owners devices frames levels started given confirmed restarts restarted
sound_unchanged old new owners devices frames levels started given confirmed restarts restarted invariants same = record {
  sizes = invariants.sizes;
  fixed = invariants.fixed;
  grants = record {
    held = λ device page frame rights held. invariants.grants.held device page frame rights (sym (same.held device page) ∙ held);
    lingering = λ device page frame rights lingers.
        invariants.grants.lingering device page frame rights (ap (λ (o : Option (ℕ × Pair)). option_map (λ released. released.1) o) (sym (same.lingering device page)) ∙ lingers);
  };
  holders = λ id page none. same.held id page ∙ invariants.holders id page none;
  numbers = invariants.numbers;
  named = invariants.named;
  tickets = record { pending = subst (λ ts. RiseBetween confirmed given ts) (sym same.pending) invariants.tickets.pending; ordered = invariants.tickets.ordered };
  fences = invariants.fences;
  leaving = invariants.leaving;
  quarantined = invariants.quarantined;
  ids = invariants.ids;
  few = invariants.few;
  idle = invariants.idle;
}

-- RELEASE

-- what is held afterwards was held before
still_held : (b : Bool) (held : Option Pair) (pair : Pair) → (if b then None else held) ≡ Some pair → held ≡ Some pair
still_held true held pair same = cc
still_held false held pair same = same

-- what is not held before isn't afterwards
still_none : (b : Bool) (held : Option Pair) → held ≡ None → (if b then None else held) ≡ None
still_none true held none = refl
still_none false held none = none

-- what lingers afterwards was held before, or lingered
lingers_from : (b : Bool) (held : Option Pair) (released : Option (ℕ × Pair)) (ticket : ℕ) (pair : Pair)
    → option_map (λ r. r.1) (if b then released_from held ticket released else released) ≡ Some pair
    → (held ≡ Some pair) ⊎ (option_map (λ r. r.1) released ≡ Some pair)
lingers_from true None released ticket pair same = inr same
lingers_from true (Some own) released ticket pair same = inl same
lingers_from false held released ticket pair same = inr same

grants_released : (owners : List (Option Owner)) (ledger ledger' : Ledger) (id page ticket : ℕ) → ShowsRelease ledger ledger' id page ticket → AreGrants owners ledger → AreGrants owners ledger'
grants_released owners ledger ledger' id page ticket released grants = record {
  held = λ d p frame rights at. grants.held d p frame rights (still_held ((id == d) && (page == p)) (held_in ledger d p) (frame, rights) (sym (released.held d p) ∙ at));
  lingering = λ d p frame rights at.
      elim (lingers_from ((id == d) && (page == p)) (held_in ledger d p) (released_in ledger d p) ticket (frame, rights) (sym (ap (option_map (λ (r : ℕ × Pair). r.1)) (released.lingering d p)) ∙ at)) [
        | inl e ↦ grants.held d p frame rights e
        | inr e ↦ grants.lingering d p frame rights e
      ];
}

pub sound_released : (old new : Ledger) (owners : List (Option Owner)) (devices : List Device) (frames levels : ℕ) (started : Bool) (given confirmed restarts restarted id page : ℕ)
    → StateInvariant old owners devices frames levels started given confirmed restarts restarted → ShowsRelease old new id page (given + 1)
    → given + restarts < 4294967295 → StateInvariant new owners devices frames levels started (given + 1) confirmed restarts restarted
sound_released old new owners devices frames levels started given confirmed restarts restarted id page invariants released more = record {
  sizes = invariants.sizes;
  fixed = invariants.fixed;
  grants = grants_released owners old new id page (given + 1) released invariants.grants;
  holders = λ d p none. released.held d p ∙ still_none ((id == d) && (page == p)) (held_in old d p) (invariants.holders d p none);
  numbers = invariants.numbers;
  named = invariants.named;
  tickets = record {
    pending = subst (λ ts. RiseBetween confirmed (given + 1) ts) (sym released.pending) (rise_more confirmed given (pending_in old) invariants.tickets.ordered invariants.tickets.pending);
    ordered = let le = invariants.tickets.ordered in omega (arith, le);
  };
  fences = more_fences given restarts restarted invariants.fences more;
  leaving = λ other ticket stage at. let before = invariants.leaving other ticket stage at in let high : ticket ≤ given = before.1 in (before.0, omega (arith, high));
  quarantined = λ other ticket stage at. let before = invariants.quarantined other ticket stage at in let high : ticket ≤ given = before.1 in (before.0, omega (arith, high));
  ids = invariants.ids;
  few = invariants.few;
  idle = invariants.idle;
}
