-- A walk all of whose loads are made from one memory is a whole walk.
use Rattle.std.proofs.Common.{◌≡◌, ◌↔◌, ℕ, zero, suc, ◌-◌, inl, inr, Bool, true, false, nat_lt, List, [], length, replicate, None, Result, Ok, Err, if◌then◌else◌, refl, ap, arith}
use Rattle.std.proofs.lemmas.Bool.{leb-true, leb-false}
use Rattle.iom_base.specs.Causes.{page_fault_of}
use Rattle.iom_base.specs.Tables.{access_fault_of}
use Rattle.iom_base.specs.declared.access.AccessKind.{AccessKind}
use Rattle.iom_base.specs.declared.cause.Cause.{Cause}
use Rattle.iom_base.specs.declared.cause.Cause.TheVariants.{TransactionTypeDisallowed}
use Rattle.iom_base.specs.declared.rights.Rights.{Rights}
use Rattle.iom_device_dir.specs.declared.entry.NonLeafEntry.{NonLeafEntry}
use Rattle.iom_device_dir.specs.Located.{follow_entry, loaded_entry, located_by_mode, located_from_level, path_end_from}
use Rattle.iom_device_dir.specs.Paths.{ddi, entry_place, ids_below}
use Rattle.iom_phys_mem.specs.Words.{word_at}
use Rattle.iom_registers.specs.declared.directory.DirectoryMode.{DirectoryMode}
use Rattle.iom_registers.specs.declared.directory.DirectoryMode.TheVariants.{Off, Bare, OneLevel, TwoLevels, ThreeLevels}
use Rattle.iom_stage_walk.proofs.Ends.{exactly_ok, exactly_err}
use Rattle.iom_stage_walk.proofs.Exact.{one_fault, one_walked, reached_not_stopped}
use Rattle.iom_stage_walk.proofs.OneSecond.{leads_or_faults, one_fault_leading, one_walked_second}
use Rattle.iom_stage_walk.proofs.OneBoth.{both_or_stops, one_fault_both, one_walked_both}
use Rattle.iom_stage_walk.specs.Entries.{entries}
use Rattle.iom_stage_walk.specs.Paths.{IsCanonical, Reaches, ReachesFirst, StopsFirst, first_path, leaf_level}
use Rattle.iom_stage_walk.specs.Second.{ReachesSecond, StopsSecond, reported}
use Rattle.iom_stage_walk.specs.Both.{ReachesBoth, StopsBoth, guest_address, plain}
use Rattle.iom_stage_walk.specs.declared.walked.Walked.{Walked}
use Rattle.iom_stage_walk.specs.declared.walked.WalkFault.{WalkFault}
use Rattle.iom_walk_loads.specs.Directory.{after_entry, directory_walk, locating_by, locating_from}
use Rattle.iom_walk_loads.specs.Laws.{BothIsWhole, FirstIsWhole, LocatingIsWhole, SecondIsWhole}
use Rattle.iom_walk_loads.specs.Loads.{Ends, Walk, made_from}
use Rattle.iom_walk_loads.specs.Tables.{both_walk, down, first_walk, guest_down, inside, is_canonical, reached, second_walk, unreached}
use Rattle.iom_walk_loads.proofs.TableLemmas.{canonical, down_made, lead_made, not_canonical}
use Rattle.iom_walk_loads.proofs.PathLemmas.{first_length}
use Rattle.iom_walk_loads.proofs.GuestLemmas.{For, guest_made}

-- the end meets the one or the other
abbrev Meets : (Walked → Type 0) → (WalkFault → Type 0) → Result Walked WalkFault → Type 0
Meets Reached Stopped (Ok walked) = Reached walked
Meets Reached Stopped (Err fault) = Stopped fault

-- where there is one end, it is the one that is met
exactly : (Reached : Walked → Type 0) (Stopped : WalkFault → Type 0) → ((a b : Walked) → Reached a → Reached b → a ≡ b) → ((f g : WalkFault) → Stopped f → Stopped g → f ≡ g)
    → ((a : Walked) (f : WalkFault) → Reached a → Stopped f → ⊥) → (x : Result Walked WalkFault) → Meets Reached Stopped x
    → ((walked : Walked) → (x ≡ Ok walked) ↔ Reached walked) × ((fault : WalkFault) → (x ≡ Err fault) ↔ Stopped fault)
exactly Reached Stopped one one_fault apart (Ok a) meets = (exactly_ok Reached Stopped one one_fault apart (Ok a) meets tt, exactly_err Reached Stopped one one_fault apart (Ok a) meets tt)
exactly Reached Stopped one one_fault apart (Err f) meets = (exactly_ok Reached Stopped one one_fault apart (Err f) tt meets, exactly_err Reached Stopped one one_fault apart (Err f) tt meets)

-- A first stage.

abbrev MeetsFirst : List (List ℕ) → ℕ → ℕ → ℕ → AccessKind → Result Walked WalkFault → Type 0
MeetsFirst m levels root address kind = Meets (ReachesFirst levels m root address kind) (StopsFirst levels m root address kind)

first_met : (m : List (List ℕ)) (levels root address : ℕ) (kind : AccessKind) → MeetsFirst m levels root address kind (made_from m (first_walk (length m) levels root address kind))
first_met m levels root address kind = by (is_canonical levels address) refl
  where
    found : ℕ → Rights → ℕ → Walk (Result Walked WalkFault)
    found f r l = Ends (Ok (record { frame = f; rights = r; level = l; guest_frames = replicate 4 None }))

    outside : Walk (Result Walked WalkFault)
    outside = Ends (Err (plain (access_fault_of kind)))

    frame : (f : ℕ) (r : Rights) → IsCanonical levels address → Reaches (entries m) kind root (first_path levels address) f r → (b : Bool) → nat_lt f (length m) ≡ b
        → MeetsFirst m levels root address kind (made_from m (if b then found f r (leaf_level (entries m) root (first_path levels address)) else outside))
    frame f r lawful path true is = record { canonical = lawful; path = path; inside = leb-true (suc f) (length m) is; level = refl; no_guest = refl }
    frame f r lawful path false is =
        let past = leb-false (suc f) (length m) is in
        record { cause = inr (inr (lawful, (f, r, path, omega (arith, past), refl))); no_guest_address = refl; explicit = refl }

    by : (b : Bool) → is_canonical levels address ≡ b
        → MeetsFirst m levels root address kind (made_from m (if b
        then down kind (page_fault_of kind) (access_fault_of kind) (inside (length m) found outside) (λ cause. Ends (Err (plain cause))) root (first_path levels address)
        else Ends (Err (plain (page_fault_of kind)))))
    by true is =
        let lawful = canonical levels address is in
        down_made m kind (page_fault_of kind) (access_fault_of kind) (MeetsFirst m levels root address kind) (inside (length m) found outside) (λ cause. Ends (Err (plain cause))) root (first_path levels address)
        (λ f r path. frame f r lawful path (nat_lt f (length m)) refl)
        (λ c stops. record { cause = inr (inl (lawful, stops)); no_guest_address = refl; explicit = refl })
    by false is = record { cause = inl (not_canonical levels address is, refl); no_guest_address = refl; explicit = refl }

pub first_is_whole : FirstIsWhole
first_is_whole m levels root address kind =
    exactly (ReachesFirst levels m root address kind) (StopsFirst levels m root address kind) (one_walked levels m root address kind kind) (one_fault levels m root address kind)
    (λ a f reached stopped. reached_not_stopped levels m root address kind a f.cause reached stopped.cause)
    (made_from m (first_walk (length m) levels root address kind)) (first_met m levels root address kind)

-- A second stage.

abbrev MeetsSecond : List (List ℕ) → ℕ → ℕ → ℕ → AccessKind → Result Walked WalkFault → Type 0
MeetsSecond m levels root address kind = Meets (ReachesSecond levels m root address kind) (StopsSecond levels m root address kind)

second_met : (m : List (List ℕ)) (levels root address : ℕ) (kind : AccessKind) → MeetsSecond m levels root address kind (made_from m (second_walk (length m) levels root address kind))
second_met m levels root address kind =
    lead_made m levels root kind kind (MeetsSecond m levels root address kind) (λ f r l. Ends (Ok (record { frame = f; rights = r; level = l; guest_frames = replicate 4 None })))
    (λ cause. Ends (Err (reported cause address false))) address
    (λ f r leads. record { leads = leads; level = refl; no_guest = refl })
    (λ c nowhere. (c, nowhere, refl))

pub second_is_whole : SecondIsWhole
second_is_whole m levels root address kind =
    exactly (ReachesSecond levels m root address kind) (StopsSecond levels m root address kind) (one_walked_second levels m root address kind kind) (one_fault_leading levels m root address kind kind false)
    (λ a f reached stopped. leads_or_faults levels m root address kind kind false a.frame a.rights f reached.leads stopped)
    (made_from m (second_walk (length m) levels root address kind)) (second_met m levels root address kind)

-- Both stages.

abbrev MeetsBoth : List (List ℕ) → ℕ → ℕ → ℕ → ℕ → ℕ → AccessKind → Result Walked WalkFault → Type 0
MeetsBoth m levels levels' first second address kind = Meets (ReachesBoth levels levels' m first second address kind) (StopsBoth levels levels' m first second address kind)

both_met : (m : List (List ℕ)) (levels levels' first second address : ℕ) (kind : AccessKind)
    → MeetsBoth m levels levels' first second address kind (made_from m (both_walk (length m) levels levels' first second address kind))
both_met m levels levels' first second address kind = by (is_canonical levels address) refl
  where
    by : (b : Bool) → is_canonical levels address ≡ b
        → MeetsBoth m levels levels' first second address kind (made_from m (if b
        then guest_down (For m levels' second address kind) [] first (first_path levels address)
        else Ends (Err (plain (page_fault_of kind)))))
    by true is =
        let lawful = canonical levels address is in
        guest_made m levels' second address kind (MeetsBoth m levels levels' first second address kind) [] first (first_path levels address)
        (λ loaded page given guest. lead_made m levels' second kind kind (MeetsBoth m levels levels' first second address kind)
        (reached (For m levels' second address kind) loaded given (length (first_path levels address) - length loaded)) (unreached (For m levels' second address kind) page) (guest_address page address)
        (λ f r leads. record { canonical = lawful; page = page; given = given; loaded = loaded; guest = guest; given' = r; leads = leads; rights = refl; level = ap (λ n. n - length loaded) (first_length levels address); guest_frames = refl })
        (λ c none. inr (inr (lawful, (page, given, loaded, guest, (c, none, refl))))))
        (λ fault stops. inr (inl (lawful, stops)))
    by false is = inl (not_canonical levels address is, refl)

pub both_is_whole : BothIsWhole
both_is_whole m levels levels' first second address kind =
    exactly (ReachesBoth levels levels' m first second address kind) (StopsBoth levels levels' m first second address kind)
    (one_walked_both levels levels' m first second address kind kind) (one_fault_both levels levels' m first second address kind)
    (both_or_stops levels levels' m first second address kind)
    (made_from m (both_walk (length m) levels levels' first second address kind)) (both_met m levels levels' first second address kind)

-- The directory.

pub path_met : (m : List (List ℕ)) (level page id : ℕ) → made_from m (directory_walk level page id) ≡ path_end_from m level page id
path_met m zero page id = refl
path_met m (suc level) page id = by (loaded_entry (word_at 8 m (entry_place page (ddi (suc level) id)))) (λ next. path_met m level next id)
  where
    by : (x : Result NonLeafEntry Cause) → ((next : ℕ) → made_from m (directory_walk level next id) ≡ path_end_from m level next id)
        → made_from m (after_entry (λ next. directory_walk level next id) x) ≡ follow_entry x (λ next. path_end_from m level next id)
    by (Ok entry) follow = follow entry.next.number
    by (Err cause) follow = refl

from_level : (m : List (List ℕ)) (level root id : ℕ) → made_from m (locating_from level root id) ≡ located_from_level level m root id
from_level m level root id = by (nat_lt id (ids_below level))
  where
    by : (b : Bool) → made_from m (if b then directory_walk level root id else Ends (Err TransactionTypeDisallowed)) ≡ (if b then path_end_from m level root id else Err TransactionTypeDisallowed)
    by true = path_met m level root id
    by false = refl

by_mode : (m : List (List ℕ)) (mode : DirectoryMode) (root id : ℕ) → made_from m (locating_by mode root id) ≡ located_by_mode mode m root id
unfolding located_by_mode
by_mode m Off root id = refl
by_mode m Bare root id = refl
by_mode m OneLevel root id = from_level m 0 root id
by_mode m TwoLevels root id = from_level m 1 root id
by_mode m ThreeLevels root id = from_level m 2 root id

pub locating_is_whole : LocatingIsWhole
locating_is_whole m ddtp id = by_mode m ddtp.mode ddtp.ppn id
