-- What stays true of a driver by itself when it restarts, and when a device is quarantined and attached again.
use Rattle.std.proofs.Common.{◌≡◌, ◌≢◌, ◌+◌, ◌<◌, ◌≤◌, ◌==◌, ◌^◌, ◌⊎◌, inl, inr, ◌∙◌, if◌then◌else◌, ℕ, Bool, true, false, nat_le, List, length, get_or, IfSome, Option, Some, None, Ok, Err, is_some, option_map, slice_get, refl, sym, ap, subst, arith, All}
use Rattle.std.proofs.lemmas.Bool.{false≢true, eq-eqb, lt-leb}
use Rattle.std.proofs.lemmas.Option.{get_or_from_slice_get}
use Rattle.iom_base.specs.declared.cause.Cause.TheVariants.{DirectoryEntryNotValid}
use Rattle.iom_base.specs.declared.owner.Owner.{Owner}
use Rattle.iom_base.specs.declared.owner.Owner.TheVariants.{System, OneDevice}
use Rattle.iom_device_dir.specs.Located.{path_end_from}
use Rattle.iom_device_dir.specs.Paths.{ids_below}
use Rattle.iom_directory_build.specs.Changes.{KeepsOthers, KeepsPages, KeepsOutsideDirectory}
use Rattle.iom_directory_build.specs.Pages.{IsDirectory, HasPage, HasWholePath, root_level}
use Rattle.iom_ledger.specs.declared.ledger.Ledger.{Ledger}
use Rattle.iom_ledger.specs.Changes.{ShowsReleaseOfAll, released_from}
use Rattle.iom_ledger.specs.History.{Pair}
use Rattle.iom_base.specs.Refusals.{NoneApplies}
use Rattle.iom_ledger.specs.Shown.{held_in, released_in, pending_in}
use Rattle.iom_driver.specs.declared.device.Attachment.{Attachment}
use Rattle.iom_driver.specs.declared.device.Attachment.TheVariants.{Detached, Attached, Quarantined, Leaving}
use Rattle.iom_driver.specs.declared.device.Device.{Device}
use Rattle.iom_driver.specs.declared.device.Stages.{Stages}
use Rattle.iom_driver.specs.Devices.{device_by_id, attachment_by_id, attached_stages, owned_stages, stages_of, owned_stages_of, has_device, with_attachment, HaveOwnIds}
use Rattle.iom_driver.specs.Directory.{context_for}
use Rattle.iom_driver.specs.Fences.{last_fence}
use Rattle.iom_driver.specs.Layout.{directory_frame}
use Rattle.iom_driver.specs.Reasons.{why_not_restart}
use Rattle.iom_driver.specs.Restarts.{IsNamable}
use Rattle.iom_driver.specs.Invariant.{AreGrants, AreNamed, HaveNumbers, StateInvariant, RiseBetween}
use Rattle.iom_driver.specs.State.{DriverState}
use Rattle.iom_driver.specs.Tables.{HaveTables}
use Rattle.iom_driver.proofs.Directories.{DirectoryIn, low_id}
use Rattle.iom_driver.proofs.Ids.{ids_with, device_at}
use Rattle.iom_driver.proofs.Keeps.{set_or_other, more_fences}
use Rattle.iom_driver.proofs.Lists.{get_there}
use Rattle.iom_driver.proofs.Places.{attachment_is, attachment_absent, attached_there, attached_owns, length-with_attachment}
use Rattle.iom_driver.proofs.Unchanged.{all_stay}
use Rattle.iom_driver.proofs.Tickets.{rise_more}

-- RESTART

-- it may restart
pub may_restart : (d : DriverState) → d.started ≡ true → last_fence d < 4294967295 → NoneApplies (why_not_restart d)
may_restart d runs more = let test : nat_le 4294967295 (last_fence d) ≡ false = lt-leb 4294967295 (last_fence d) more in rw (runs, test) refl

if_some : (P : Stages → Type 0) (o : Option Stages) → ((stage : Stages) → o ≡ Some stage → P stage) → IfSome o P
if_some P None each = tt
if_some P (Some stage) each = each stage refl

pub sound_restarted : (ledger : Ledger) (owners : List (Option Owner)) (devices : List Device) (frames levels : ℕ) (started : Bool) (given confirmed restarts restarted : ℕ)
    → StateInvariant ledger owners devices frames levels started given confirmed restarts restarted → given + restarts < 4294967295
    → StateInvariant ledger owners devices frames levels started given confirmed (restarts + 1) given
sound_restarted ledger owners devices frames levels started given confirmed restarts restarted invariants more = record {
  sizes = invariants.sizes;
  fixed = invariants.fixed;
  grants = invariants.grants;
  holders = invariants.holders;
  numbers = invariants.numbers;
  named = invariants.named;
  tickets = invariants.tickets;
  fences = record { earlier = omega arith; numbered = omega (arith, more) };
  leaving = invariants.leaving;
  quarantined = invariants.quarantined;
  ids = invariants.ids;
  few = invariants.few;
  idle = invariants.idle;
}

-- the ids and numbers of all devices that own stages fit into commands
pub all_namable : (devices : List Device) (levels : ℕ) → HaveOwnIds devices → HaveNumbers devices → AreNamed devices levels → All IsNamable devices
all_namable devices levels own numbers named k d lt =
    let found = get_there devices k lt in
    let device = found.0 in
    let read : get_or devices k d ≡ device = get_or_from_slice_get devices k device d found.1 in
    let owns : owned_stages_of devices device.id ≡ owned_stages device.attachment = ap owned_stages (attachment_is devices device.id device (device_at devices k device own found.1)) in
    subst (λ (one : Device). IsNamable one) (sym read)
    (if_some (λ stage. (device.id < 2 ^ 24) × (stage.number < 2 ^ 16)) (owned_stages device.attachment)
    (λ stage at.
    let small : stage.number ≤ 17 = (numbers.small device.id stage (owns ∙ at)).1 in
    (low_id levels device.id (named device.id stage (owns ∙ at)), omega (arith, small))))

-- QUARANTINE

-- a device that is quarantined owns what it owned
pub owned_quarantined : (devices : List Device) (id ticket : ℕ) (stage : Stages) → stages_of devices id ≡ Some stage → (other : ℕ)
    → owned_stages_of (with_attachment devices id (Quarantined ticket stage)) other ≡ owned_stages_of devices other
owned_quarantined devices id ticket stage attached other = elim (set_or_other devices id (Quarantined ticket stage) other (attached_there devices id stage attached)) [
  | inl now ↦ ap owned_stages now.1 ∙ sym (attached_owns (attachment_by_id devices id) stage attached) ∙ ap (λ i. owned_stages_of devices i) (sym now.0)
  | inr was ↦ ap owned_stages was.1
]

-- what clearing a context leaves, by the directory's root
pub record IsCleared (memory memory' : List (List ℕ)) (levels root id : ℕ) : Type 0 where
  pub tree : IsDirectory memory' (root_level levels) root
  pub pages : (f : ℕ) → HasPage memory' (root_level levels) root f → HasPage memory (root_level levels) root f
  pub here : path_end_from memory' (root_level levels) root id ≡ Err DirectoryEntryNotValid
  pub paths : (other : ℕ) → other < ids_below (root_level levels) → HasWholePath memory (root_level levels) root other → HasWholePath memory' (root_level levels) root other
  pub others : KeepsOthers memory memory' (root_level levels) root id
  pub keeps : KeepsPages memory memory' (root_level levels) root
  pub outside : KeepsOutsideDirectory memory memory' (root_level levels) root
  pub size : length memory' ≡ length memory

-- a frame of the system's isn't a device's
pub not_of_device : (owners : List (Option Owner)) (n id : ℕ) → slice_get owners n ≡ Some (Some System) → slice_get owners n ≡ Some (Some (OneDevice id)) → ⊥
not_of_device owners n id system own = let both : ◌≡◌ {A = Option (Option Owner)} (Some (Some System)) (Some (Some (OneDevice id))) = sym system ∙ own in cc

-- the tables of the devices stay then
pub tables_uncontexted : (frames : ℕ) (memory memory' : List (List ℕ)) (owners : List (Option Owner)) (ledger : Ledger) (devices : List Device) (levels id : ℕ)
    → DirectoryIn frames memory owners devices levels → IsCleared memory memory' levels (directory_frame frames) id → HaveTables memory owners ledger devices → HaveTables memory' owners ledger devices
tables_uncontexted frames memory memory' owners ledger devices levels id stands cleared tables =
    all_stay memory memory' owners ledger ledger devices tables
    (λ n other own. cleared.outside n (λ at. not_of_device owners n other (stands.own n (cleared.pages n at)).system own)) (λ other page. refl)

-- what is held afterwards was held before
still_held : (b : Bool) (held : Option Pair) (pair : Pair) → (if b then None else held) ≡ Some pair → held ≡ Some pair
still_held true held pair same = cc
still_held false held pair same = same

still_none : (b : Bool) (held : Option Pair) → held ≡ None → (if b then None else held) ≡ None
still_none true held none = refl
still_none false held none = none

-- what lingers afterwards was held before, or lingered
lingers_from : (b : Bool) (held : Option Pair) (released : Option (ℕ × Pair)) (ticket : ℕ) (pair : Pair)
    → option_map (λ r. r.1) (if b then released_from held ticket released else released) ≡ Some pair
    → (held ≡ Some pair) ⊎ (option_map (λ r. r.1) released ≡ Some pair)
lingers_from true None released ticket pair same = inr same
lingers_from true (Some own) released ticket pair same = inl same
lingers_from false held released ticket pair same = inr same

grants_all_released : (owners : List (Option Owner)) (old new : Ledger) (id ticket : ℕ) → ShowsReleaseOfAll old new id ticket → AreGrants owners old → AreGrants owners new
grants_all_released owners old new id ticket released grants = record {
  held = λ d p frame rights at. grants.held d p frame rights (still_held (id == d) (held_in old d p) (frame, rights) (sym (released.held d p) ∙ at));
  lingering = λ d p frame rights at.
      elim (lingers_from (id == d) (held_in old d p) (released_in old d p) ticket (frame, rights) (sym (ap (option_map (λ (r : ℕ × Pair). r.1)) (released.lingering d p)) ∙ at)) [
        | inl e ↦ grants.held d p frame rights e
        | inr e ↦ grants.lingering d p frame rights e
      ];
}

pub sound_quarantined : (old new : Ledger) (owners : List (Option Owner)) (devices : List Device) (frames levels : ℕ) (started : Bool) (given confirmed restarts restarted id : ℕ) (stage : Stages)
    → StateInvariant old owners devices frames levels started given confirmed restarts restarted → ShowsReleaseOfAll old new id (given + 1) → started ≡ true → stages_of devices id ≡ Some stage
    → given + restarts < 4294967295 → StateInvariant new owners (with_attachment devices id (Quarantined (given + 1) stage)) frames levels started (given + 1) confirmed restarts restarted
sound_quarantined old new owners devices frames levels started given confirmed restarts restarted id stage invariants released runs attached more =
    let either : (other : ℕ) → ((other ≡ id) × (attachment_by_id (with_attachment devices id (Quarantined (given + 1) stage)) other ≡ Quarantined (given + 1) stage))
    ⊎ ((other ≢ id) × (attachment_by_id (with_attachment devices id (Quarantined (given + 1) stage)) other ≡ attachment_by_id devices other)) =
    λ other. set_or_other devices id (Quarantined (given + 1) stage) other (attached_there devices id stage attached) in
    let owned = owned_quarantined devices id (given + 1) stage attached in
    let le : confirmed ≤ given = invariants.tickets.ordered in
    record {
      sizes = invariants.sizes;
      fixed = invariants.fixed;
      grants = grants_all_released owners old new id (given + 1) released invariants.grants;
      holders = λ other page free. elim (either other) [
        | inl now ↦ released.held other page ∙ none_left other page now.0
        | inr was ↦ released.held other page ∙ still_none (id == other) (held_in old other page) (invariants.holders other page (sym (ap attached_stages was.1) ∙ free))
      ];
      numbers = record {
        small = λ other s at. invariants.numbers.small other s (sym (owned other) ∙ at);
        own = λ one other a b at_one at_other same. invariants.numbers.own one other a b (sym (owned one) ∙ at_one) (sym (owned other) ∙ at_other) same;
      };
      named = λ other s at. invariants.named other s (sym (owned other) ∙ at);
      tickets = record {
        pending = subst (λ ts. RiseBetween confirmed (given + 1) ts) (sym released.pending) (rise_more confirmed given (pending_in old) invariants.tickets.ordered invariants.tickets.pending);
        ordered = omega (arith, le);
      };
      fences = more_fences given restarts restarted invariants.fences more;
      leaving = λ other ticket s at. elim (either other) [
        | inl now ↦ absurd (quarantined_leaving ticket s (sym now.1 ∙ at))
        | inr was ↦ let before = invariants.leaving other ticket s (sym was.1 ∙ at) in let high : ticket ≤ given = before.1 in (before.0, omega (arith, high))
      ];
      quarantined = λ other ticket s at. elim (either other) [
        | inl now ↦ let same = own_ticket ticket s (sym now.1 ∙ at) in (omega (arith, same), omega (arith, same))
        | inr was ↦ let before = invariants.quarantined other ticket s (sym was.1 ∙ at) in let high : ticket ≤ given = before.1 in (before.0, omega (arith, high))
      ];
      ids = ids_with devices id (Quarantined (given + 1) stage) invariants.ids;
      few = omega (arith, length-with_attachment devices id (Quarantined (given + 1) stage), invariants.few);
      idle = λ stopped. absurd (false≢true (sym stopped ∙ runs));
    }
  where
    none_left : (other page : ℕ) → other ≡ id → ◌≡◌ {A = Option Pair} (if id == other then None else held_in old other page) None
    none_left other page same = rw (eq-eqb id other (sym same)) refl

    quarantined_leaving : (ticket : ℕ) (s : Stages) → ◌≡◌ {A = Attachment} (Quarantined (given + 1) stage) (Leaving ticket s) → ⊥
    quarantined_leaving ticket s same = cc

    own_ticket : (ticket : ℕ) (s : Stages) → ◌≡◌ {A = Attachment} (Quarantined (given + 1) stage) (Quarantined ticket s) → given + 1 ≡ ticket
    own_ticket ticket s same = cc

-- REVIVE

not_there : (o : Option Device) → is_some o ≡ false → o ≡ None
not_there None none = refl
not_there (Some device) none = cc

-- a device that is quarantined is there
pub quarantined_there : (devices : List Device) (id ticket : ℕ) (stage : Stages) → attachment_by_id devices id ≡ Quarantined ticket stage → has_device devices id ≡ true
quarantined_there devices id ticket stage at = by (has_device devices id) refl
  where
    nothing : has_device devices id ≡ false → attachment_by_id devices id ≡ Detached
    nothing none = attachment_absent devices id (not_there (device_by_id devices id) none)

    apart : ◌≡◌ {A = Attachment} Detached (Quarantined ticket stage) → ⊥
    apart same = cc

    by : (b : Bool) → has_device devices id ≡ b → b ≡ true
    by true there = refl
    by false none = absurd (apart (sym (nothing none) ∙ at))

pub owned_revived : (devices : List Device) (id ticket : ℕ) (stage : Stages) → attachment_by_id devices id ≡ Quarantined ticket stage → (other : ℕ)
    → owned_stages_of (with_attachment devices id (Attached stage)) other ≡ owned_stages_of devices other
owned_revived devices id ticket stage quarantined other = elim (set_or_other devices id (Attached stage) other (quarantined_there devices id ticket stage quarantined)) [
  | inl now ↦ ap owned_stages now.1 ∙ sym (ap owned_stages quarantined) ∙ ap (λ i. owned_stages_of devices i) (sym now.0)
  | inr was ↦ ap owned_stages was.1
]

pub sound_revived : (ledger : Ledger) (owners : List (Option Owner)) (devices : List Device) (frames levels : ℕ) (started : Bool) (given confirmed restarts restarted id ticket : ℕ) (stage : Stages)
    → StateInvariant ledger owners devices frames levels started given confirmed restarts restarted → started ≡ true → attachment_by_id devices id ≡ Quarantined ticket stage
    → StateInvariant ledger owners (with_attachment devices id (Attached stage)) frames levels started given confirmed restarts restarted
sound_revived ledger owners devices frames levels started given confirmed restarts restarted id ticket stage invariants runs quarantined =
    let either : (other : ℕ) → ((other ≡ id) × (attachment_by_id (with_attachment devices id (Attached stage)) other ≡ Attached stage))
    ⊎ ((other ≢ id) × (attachment_by_id (with_attachment devices id (Attached stage)) other ≡ attachment_by_id devices other)) =
    λ other. set_or_other devices id (Attached stage) other (quarantined_there devices id ticket stage quarantined) in
    let owned = owned_revived devices id ticket stage quarantined in
    record {
      sizes = invariants.sizes;
      fixed = invariants.fixed;
      grants = invariants.grants;
      holders = λ other page free. elim (either other) [
        | inl now ↦ absurd (some_none (sym (ap attached_stages now.1) ∙ free))
        | inr was ↦ invariants.holders other page (sym (ap attached_stages was.1) ∙ free)
      ];
      numbers = record {
        small = λ other s at. invariants.numbers.small other s (sym (owned other) ∙ at);
        own = λ one other a b at_one at_other same. invariants.numbers.own one other a b (sym (owned one) ∙ at_one) (sym (owned other) ∙ at_other) same;
      };
      named = λ other s at. invariants.named other s (sym (owned other) ∙ at);
      tickets = invariants.tickets;
      fences = invariants.fences;
      leaving = λ other t s at. elim (either other) [
        | inl now ↦ absurd (attached_leaving t s (sym now.1 ∙ at))
        | inr was ↦ invariants.leaving other t s (sym was.1 ∙ at)
      ];
      quarantined = λ other t s at. elim (either other) [
        | inl now ↦ absurd (attached_quarantined t s (sym now.1 ∙ at))
        | inr was ↦ invariants.quarantined other t s (sym was.1 ∙ at)
      ];
      ids = ids_with devices id (Attached stage) invariants.ids;
      few = omega (arith, length-with_attachment devices id (Attached stage), invariants.few);
      idle = λ stopped. absurd (false≢true (sym stopped ∙ runs));
    }
  where
    some_none : ◌≡◌ {A = Option Stages} (Some stage) None → ⊥
    some_none same = cc

    attached_leaving : (t : ℕ) (s : Stages) → ◌≡◌ {A = Attachment} (Attached stage) (Leaving t s) → ⊥
    attached_leaving t s same = cc

    attached_quarantined : (t : ℕ) (s : Stages) → ◌≡◌ {A = Attachment} (Attached stage) (Quarantined t s) → ⊥
    attached_quarantined t s same = cc

-- what writing a context again leaves, on a path that lacks no page
pub record IsPutAgain (memory memory' : List (List ℕ)) (levels root id : ℕ) (stage : Stages) : Type 0 where
  pub tree : IsDirectory memory' (root_level levels) root
  pub pages : (f : ℕ) → HasPage memory' (root_level levels) root f → HasPage memory (root_level levels) root f
  pub here : path_end_from memory' (root_level levels) root id ≡ Ok (context_for stage)
  pub path : HasWholePath memory' (root_level levels) root id
  pub paths : (other : ℕ) → other < ids_below (root_level levels) → HasWholePath memory (root_level levels) root other → HasWholePath memory' (root_level levels) root other
  pub others : KeepsOthers memory memory' (root_level levels) root id
  pub keeps : KeepsPages memory memory' (root_level levels) root
  pub outside : KeepsOutsideDirectory memory memory' (root_level levels) root
  pub size : length memory' ≡ length memory

-- the tables of the devices stay then
pub tables_put_again : (frames : ℕ) (memory memory' : List (List ℕ)) (owners : List (Option Owner)) (ledger : Ledger) (devices : List Device) (levels id : ℕ) (stage : Stages)
    → DirectoryIn frames memory owners devices levels → IsPutAgain memory memory' levels (directory_frame frames) id stage → HaveTables memory owners ledger devices → HaveTables memory' owners ledger devices
tables_put_again frames memory memory' owners ledger devices levels id stage stands put tables =
    all_stay memory memory' owners ledger ledger devices tables
    (λ n other own. put.outside n (λ at. not_of_device owners n other (stands.own n (put.pages n at)).system own)) (λ other page. refl)
