-- One load of an entry.
use Rattle.std.proofs.Common.{◌≡◌, ℕ, ◌+◌, ◌<◌, ◌≤◌, Bool, true, false, List, ◌∷◌, length, Option, Some, None, if◌then◌else◌, refl, sym, ap, ◌∙◌, subst}
use Rattle.std.proofs.lemmas.Bool.{lt-ltb, le-ltb}
use Rattle.iom_base.specs.declared.access.AccessKind.{AccessKind}
use Rattle.iom_base.specs.declared.cause.Cause.{Cause}
use Rattle.iom_base.specs.declared.rights.Rights.{Rights}
use Rattle.iom_stage_walk.specs.Entries.{entries, slot}
use Rattle.iom_stage_walk.specs.Paths.{page_in}
use Rattle.iom_stage_walk.specs.declared.entry.Entry.{Entry}
use Rattle.iom_stage_walk.specs.declared.entry.Entry.TheVariants.{Leaf}
use Rattle.iom_walk_loads.specs.Loads.{Walk, after_load}
use Rattle.iom_walk_loads.specs.Tables.{InBoth, at_entry, at_guest_entry, faulted, inside, is_lawful, page_walk}
use Rattle.iom_walk_loads.proofs.TableLemmas.{entries_are}
use Rattle.iom_stepped_walk.proofs.IndexLemmas.{below_length}
use Rattle.iom_stepped_walk.specs.Indices.{index_at, indices_below, page_by}
use Rattle.iom_stepped_walk.specs.Steps.{GoesOnBy, Makes, TableAnswer, along}
use Rattle.iom_stepped_walk.specs.declared.place.Place.{Place}
use Rattle.iom_stepped_walk.specs.declared.place.Step.{Step}

-- what a load makes of a walk is what the entry that stands there makes of it
pub load_is : (m : List (List ℕ)) (kind : AccessKind) (fault access : Cause) (found : ℕ → Rights → ℕ → Walk TableAnswer) (stopped : Cause → Walk TableAnswer)
    (table i : ℕ) (below : List ℕ) (entry : Entry) → entry ≡ entries m (slot table i)
    → after_load m (along (length m) kind fault access found stopped table (i ∷ below))
    ≡ at_entry kind fault access (inside (length m) found (stopped access)) stopped below (λ next. along (length m) kind fault access found stopped next below) entry
load_is m kind fault access found stopped table i below entry is =
    ap (λ x. at_entry kind fault access (inside (length m) found (stopped access)) stopped below (λ next. along (length m) kind fault access found stopped next below) x)
    (sym (is ∙ entries_are m (slot table i)))

-- what follows a leaf: where it is lawful, the page that it gives
abbrev pub by_page : ℕ → Cause → Cause → (ℕ → Rights → ℕ → Walk TableAnswer) → (Cause → Walk TableAnswer) → Rights → ℕ → Option ℕ → Walk TableAnswer
by_page frames fault access found stopped rights level None = stopped fault
by_page frames fault access found stopped rights level (Some frame) = inside frames found (stopped access) frame rights level

pub leaf_is : (frames : ℕ) (kind : AccessKind) (fault access : Cause) (found : ℕ → Rights → ℕ → Walk TableAnswer) (stopped : Cause → Walk TableAnswer)
    (below : List ℕ) (follow : ℕ → Walk TableAnswer) (base : ℕ) (rights : Rights)
    → at_entry kind fault access (inside frames found (stopped access)) stopped below follow (Leaf base rights)
    ≡ by_page frames fault access found stopped rights (length below) (page_by kind base rights below)
leaf_is frames kind fault access found stopped below follow base rights = by (is_lawful kind base rights below)
  where
    by : (b : Bool) → (if b then inside frames found (stopped access) (base + page_in below) rights (length below) else stopped fault)
        ≡ by_page frames fault access found stopped rights (length below) (if b then Some (base + page_in below) else None)
    by true = refl
    by false = refl

-- where the frame lies in memory, or doesn't
pub inside_is : (frames : ℕ) (found : ℕ → Rights → ℕ → Walk TableAnswer) (outside : Walk TableAnswer) (frame : ℕ) (rights : Rights) (level : ℕ) → frame < frames
    → inside frames found outside frame rights level ≡ found frame rights level
inside_is frames found outside frame rights level small = ap (λ b. if b then found frame rights level else outside) (lt-ltb frame frames small)

pub outside_is : (frames : ℕ) (found : ℕ → Rights → ℕ → Walk TableAnswer) (outside : Walk TableAnswer) (frame : ℕ) (rights : Rights) (level : ℕ) → frames ≤ frame
    → inside frames found outside frame rights level ≡ outside
outside_is frames found outside frame rights level past = ap (λ b. if b then found frame rights level else outside) (le-ltb frame frames past)

-- a lawful leaf whose frame lies in memory, in a table of this level
pub found_is : (frames : ℕ) (kind : AccessKind) (fault access : Cause) (found : ℕ → Rights → ℕ → Walk TableAnswer) (stopped : Cause → Walk TableAnswer) (follow : ℕ → Walk TableAnswer)
    (entry : Entry) (base : ℕ) (rights : Rights) (level page frame : ℕ) → entry ≡ Leaf base rights → Some frame ≡ page_by kind base rights (indices_below level page) → frame < frames
    → at_entry kind fault access (inside frames found (stopped access)) stopped (indices_below level page) follow entry ≡ found frame rights level
found_is frames kind fault access found stopped follow entry base rights level page frame is given small =
    ap (at_entry kind fault access (inside frames found (stopped access)) stopped (indices_below level page) follow) is
    ∙ leaf_is frames kind fault access found stopped (indices_below level page) follow base rights
    ∙ ap (by_page frames fault access found stopped rights (length (indices_below level page))) (sym given)
    ∙ inside_is frames found (stopped access) frame rights (length (indices_below level page)) small
    ∙ ap (λ l. found frame rights l) (below_length level page)

-- a lawful leaf of a guest's tables, in a table of this level
pub leaf_walk_is : (w : InBoth) (loaded so_far : List ℕ) (follow : ℕ → Walk TableAnswer) (entry : Entry) (base : ℕ) (rights : Rights) (level page number : ℕ) → entry ≡ Leaf base rights
    → so_far ≡ loaded → Some number ≡ page_by w.kind base rights (indices_below level page)
    → page_walk w so_far number rights level ≡ at_guest_entry w loaded (indices_below level page) follow entry
leaf_walk_is w loaded so_far follow entry base rights level page number is same given =
    ap (λ fs. page_walk w fs number rights level) same ∙ by (is_lawful w.kind base rights (indices_below level page)) given
    ∙ ap (at_guest_entry w loaded (indices_below level page) follow) (sym is)
  where
    by : (b : Bool) → Some number ≡ (if b then Some (base + page_in (indices_below level page)) else None)
        → page_walk w loaded number rights level
        ≡ (if b then page_walk w loaded (base + page_in (indices_below level page)) rights (length (indices_below level page)) else faulted w)
    by true e =
        let own : number ≡ base + page_in (indices_below level page) = cc in
        ap (λ n. page_walk w loaded n rights level) own
        ∙ ap (λ l. page_walk w loaded (base + page_in (indices_below level page)) rights l) (sym (below_length level page))
    by false e = absurd (cc)

-- one load makes the step that the entry which stands there makes
pub step_is : (m : List (List ℕ)) (kind : AccessKind) (place : Place) (page : ℕ) (entry : Entry) (frames : ℕ) (step : Step) → frames ≡ length m
    → entry ≡ entries m (slot place.table.number (index_at place.is_wide place.level page)) → GoesOnBy frames kind place page entry step → Makes m kind place page step
step_is m kind place page entry frames step same is goes fault access found stopped =
    load_is m kind fault access found stopped place.table.number (index_at place.is_wide place.level page) (indices_below place.level page) entry is
    ∙ subst (λ n. GoesOnBy n kind place page entry step) same goes fault access found stopped
