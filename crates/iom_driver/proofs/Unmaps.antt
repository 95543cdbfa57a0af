-- The leaves of the pages that a device holds are cleared, one after another.
use Rattle.std.proofs.Common.{suc, ◌≡◌, ◌≢◌, ◌+◌, ◌^◌, ◌<◌, ◌≤◌, ◌==◌, ◌++◌, ◌∙◌, ◌↔◌, ◌⊎◌, if◌then◌else◌, inl, inr, ℕ, Bool, true, false, List, [], ◌∷◌, take, length, Contains, Option, Some, None, IsSome, is_some, option_map, slice_get, refl, sym, ap, subst, arith}
use Rattle.std.proofs.lemmas.Bool.{false≢true, eq-eqb}
use Rattle.std.proofs.lemmas.Bool.Decides.{eqb_tells}
use Rattle.std.proofs.lemmas.Option.{slice_get-get_or}
use Rattle.iom_base.specs.declared.mode.Mode.{Mode}
use Rattle.iom_base.specs.declared.size.Size.{Size}
use Rattle.iom_base.specs.Modes.{size_in}
use Rattle.iom_base.specs.Sizes.{levels_of}
use Rattle.iom_base.specs.declared.owner.Owner.{Owner}
use Rattle.iom_base.specs.declared.owner.Owner.TheVariants.{OneDevice}
use Rattle.iom_ledger.specs.declared.ledger.Ledger.{Ledger}
use Rattle.iom_ledger.specs.Changes.{ShowsReleaseOfAll}
use Rattle.iom_ledger.specs.History.{Pair}
use Rattle.iom_ledger.specs.Shown.{held_in, pages_listed}
use Rattle.iom_page_table.specs.declared.leaf.PageLeaf.{PageLeaf}
use Rattle.iom_page_table.specs.Leaves.{leaf_of}
use Rattle.iom_page_table.specs.FirstTables.{IsRoot, HasTable, KeepsOutside, KeepsTables, unmapped}
use Rattle.iom_driver.specs.declared.device.Device.{Device}
use Rattle.iom_driver.specs.declared.device.Stages.{Stages}
use Rattle.iom_driver.specs.Devices.{owned_stages_of}
use Rattle.iom_driver.specs.Quarantines.{all_unmapped, held_pages, LosesHeldLeaves}
use Rattle.iom_driver.specs.Tables.{AreTablesOf, HaveTables, leaf_for}
use Rattle.iom_driver.proofs.Lists.{differs, take_more}
use Rattle.iom_driver.proofs.Owners.{Among, among_contained, contained_among}
use Rattle.iom_driver.proofs.Modes.{IsRooted, rooted, root_in, table_of, table_in}
use Rattle.iom_driver.proofs.ReleaseTables.{IsUnmapped, other_frame}
use Rattle.iom_driver.proofs.StandingLemmas.{keeps_through}
use Rattle.iom_driver.proofs.Unchanged.{tables_kept}

-- of the pages up to a place, those that the device holds have no leaf any more; each page that it doesn't hold has what it had
pub record UnmapsTo (size : Size) (ledger : Ledger) (id root : ℕ) (old new : List (List ℕ)) (place : ℕ) : Type 0 where
  pub tree : IsRoot size new root
  pub tables : (f : ℕ) → HasTable size new root f ↔ HasTable size old root f
  pub lost : (k page : ℕ) → k < place → slice_get (pages_listed ledger id) k ≡ Some page → IsSome (held_in ledger id page) → page < 2 ^ 52 → leaf_of (levels_of size) new root page ≡ None
  pub kept : (page : ℕ) → page < 2 ^ 52 → held_in ledger id page ≡ None → leaf_of (levels_of size) new root page ≡ leaf_of (levels_of size) old root page
  pub outside : KeepsOutside size old new root
  pub keeps : KeepsTables size old new root
  pub long : length new ≡ length old
  pub whole : new ≡ all_unmapped size old root (held_pages ledger id (take place (pages_listed ledger id)))

-- one page more

all_unmapped_more : (size : Size) (memory : List (List ℕ)) (root : ℕ) (pages : List ℕ) (page : ℕ) → all_unmapped size memory root (pages ++ page ∷ []) ≡ unmapped size (all_unmapped size memory root pages) root page
all_unmapped_more size memory root [] page = refl
all_unmapped_more size memory root (first ∷ pages) page = all_unmapped_more size (unmapped size memory root first) root pages page

held_more : (ledger : Ledger) (id : ℕ) (pages : List ℕ) (page : ℕ) → is_some (held_in ledger id page) ≡ true → held_pages ledger id (pages ++ page ∷ []) ≡ held_pages ledger id pages ++ page ∷ []
held_more ledger id [] page held = rw held refl
held_more ledger id (first ∷ pages) page held = by (is_some (held_in ledger id first)) (held_more ledger id pages page held)
  where
    by : (b : Bool) → held_pages ledger id (pages ++ page ∷ []) ≡ held_pages ledger id pages ++ page ∷ []
        → (if b then first ∷ held_pages ledger id (pages ++ page ∷ []) else held_pages ledger id (pages ++ page ∷ []))
        ≡ (if b then first ∷ held_pages ledger id pages else held_pages ledger id pages) ++ page ∷ []
    by true same = ap (λ ps. first ∷ ps) same
    by false same = same

not_held_more : (ledger : Ledger) (id : ℕ) (pages : List ℕ) (page : ℕ) → is_some (held_in ledger id page) ≡ false → held_pages ledger id (pages ++ page ∷ []) ≡ held_pages ledger id pages
not_held_more ledger id [] page held = rw held refl
not_held_more ledger id (first ∷ pages) page held = by (is_some (held_in ledger id first)) (not_held_more ledger id pages page held)
  where
    by : (b : Bool) → held_pages ledger id (pages ++ page ∷ []) ≡ held_pages ledger id pages
        → (if b then first ∷ held_pages ledger id (pages ++ page ∷ []) else held_pages ledger id (pages ++ page ∷ []))
        ≡ (if b then first ∷ held_pages ledger id pages else held_pages ledger id pages)
    by true same = ap (λ ps. first ∷ ps) same
    by false same = same

next_place : (pages : List ℕ) (place page : ℕ) → slice_get pages place ≡ Some page → take (place + 1) pages ≡ take place pages ++ page ∷ []
next_place pages place page at = let next : place + 1 ≡ suc place = omega arith in ap (λ n. take n pages) next ∙ take_more pages place page at

no_value : (o : Option Pair) → o ≡ None → IsSome o → ⊥
no_value None none held = cc
no_value (Some pair) none held = cc

some_is : (o : Option Pair) → IsSome o → is_some o ≡ true
some_is None held = cc
some_is (Some pair) held = refl

none_is : (o : Option Pair) → is_some o ≡ false → o ≡ None
none_is None not_some = refl
none_is (Some pair) not_some = cc

pub unmaps_none : (size : Size) (ledger : Ledger) (id root : ℕ) (memory : List (List ℕ)) → IsRoot size memory root → UnmapsTo size ledger id root memory memory 0
unmaps_none size ledger id root memory tree = record {
  tree = tree;
  tables = λ f. (λ at. at, λ at. at);
  lost = λ k page lt at held low. absurd (omega arith);
  kept = λ page low none. refl;
  outside = λ f apart. refl;
  keeps = λ prefix table inside at. at;
  long = refl;
  whole = refl;
}

-- a page that is held
pub unmaps_next : (size : Size) (ledger : Ledger) (id root : ℕ) (old between new : List (List ℕ)) (place page : ℕ) → UnmapsTo size ledger id root old between place → slice_get (pages_listed ledger id) place ≡ Some page
    → is_some (held_in ledger id page) ≡ true → IsUnmapped size between new root page → new ≡ unmapped size between root page → UnmapsTo size ledger id root old new (place + 1)
unmaps_next size ledger id root old between new place page before at held now whole = record {
  tree = now.tree;
  tables = λ f. (λ has. (before.tables f).0 ((now.tables f).0 has), λ has. (now.tables f).1 ((before.tables f).1 has));
  lost = λ k p lt there held_there low. elim (eqb_tells p page) [
    | inl e ↦ now.leaf p low ∙ rw e.0 refl
    | inr ne ↦ now.leaf p low ∙ rw ne.0 (before.lost k p (earlier k p lt there ne.1) there held_there low)
  ];
  kept = λ p low none. elim (eqb_tells p page) [
    | inl e ↦ absurd (some_none (held_in ledger id page) held (ap (λ q. held_in ledger id q) (sym e.1) ∙ none))
    | inr ne ↦ now.leaf p low ∙ rw ne.0 (before.kept p low none)
  ];
  outside = λ f apart. other_frame size between new root page f now (λ has. apart ((now.tables f).1 has)) ∙ before.outside f (λ has. apart ((now.tables f).1 has));
  keeps = keeps_through size old between new root before.keeps now.keeps;
  long = now.long ∙ before.long;
  whole =
      whole ∙ ap (λ m. unmapped size m root page) before.whole ∙ sym (all_unmapped_more size old root (held_pages ledger id (take place (pages_listed ledger id))) page)
      ∙ ap (λ ps. all_unmapped size old root ps) (sym (ap (λ ps. held_pages ledger id ps) (next_place (pages_listed ledger id) place page at) ∙ held_more ledger id (take place (pages_listed ledger id)) page held));
}
  where
    same_page : (p q : ℕ) → ◌≡◌ {A = Option ℕ} (Some p) (Some q) → p ≡ q
    same_page p q same = cc

    earlier : (k p : ℕ) → k < place + 1 → slice_get (pages_listed ledger id) k ≡ Some p → p ≢ page → k < place
    earlier k p lt there apart = elim (eqb_tells k place) [
      | inl e ↦ absurd (apart (same_page p page (sym there ∙ ap (λ n. slice_get (pages_listed ledger id) n) e.1 ∙ at)))
      | inr ne ↦ omega (arith, lt, ne.1)
    ]

    some_none : (o : Option Pair) → is_some o ≡ true → o ≡ None → ⊥
    some_none None there none = cc
    some_none (Some pair) there none = cc

-- a page at which something only lingers
pub unmaps_past : (size : Size) (ledger : Ledger) (id root : ℕ) (old new : List (List ℕ)) (place page : ℕ) → UnmapsTo size ledger id root old new place → slice_get (pages_listed ledger id) place ≡ Some page
    → is_some (held_in ledger id page) ≡ false → UnmapsTo size ledger id root old new (place + 1)
unmaps_past size ledger id root old new place page before at not_held = record {
  tree = before.tree;
  tables = before.tables;
  lost = λ k p lt there held_there low. before.lost k p (earlier k p lt there held_there) there held_there low;
  kept = before.kept;
  outside = before.outside;
  keeps = before.keeps;
  long = before.long;
  whole = before.whole
      ∙ ap (λ ps. all_unmapped size old root ps) (sym (ap (λ ps. held_pages ledger id ps) (next_place (pages_listed ledger id) place page at) ∙ not_held_more ledger id (take place (pages_listed ledger id)) page not_held));
}
  where
    same_page : (p q : ℕ) → ◌≡◌ {A = Option ℕ} (Some p) (Some q) → p ≡ q
    same_page p q same = cc

    earlier : (k p : ℕ) → k < place + 1 → slice_get (pages_listed ledger id) k ≡ Some p → IsSome (held_in ledger id p) → k < place
    earlier k p lt there held = elim (eqb_tells k place) [
      | inl e ↦
          let same = same_page p page (sym there ∙ ap (λ n. slice_get (pages_listed ledger id) n) e.1 ∙ at) in
          absurd (no_value (held_in ledger id p) (ap (λ q. held_in ledger id q) same ∙ none_is (held_in ledger id page) not_held) held)
      | inr ne ↦ omega (arith, lt, ne.1)
    ]

-- once all are looked at, each page that the device holds has no leaf, and each other one has what it had
pub loses_leaves : (size : Size) (ledger : Ledger) (id root : ℕ) (old new : List (List ℕ)) (place : ℕ) → UnmapsTo size ledger id root old new place → length (pages_listed ledger id) ≤ place
    → ((page : ℕ) → IsSome (held_in ledger id page) → Contains (pages_listed ledger id) page) → LosesHeldLeaves size ledger id root old new
loses_leaves size ledger id root old new place all end listed page low = by (is_some (held_in ledger id page)) refl
  where
    there : (o : Option Pair) → is_some o ≡ true → IsSome o
    there None held = cc
    there (Some pair) held = cc

    by : (b : Bool) → is_some (held_in ledger id page) ≡ b → ◌≡◌ {A = Option PageLeaf} (leaf_of (levels_of size) new root page) (if b then None else leaf_of (levels_of size) old root page)
    by true held =
        let at = there (held_in ledger id page) held in
        let among = listed page at in
        let first : among.0 < length (pages_listed ledger id) = among.1 in
        all.lost among.0 page (omega (arith, first, end)) (slice_get-get_or (pages_listed ledger id) among.0 page among.1 ∙ ap Some among.2) at low
    by false not_held = all.kept page low (none_is (held_in ledger id page) not_held)

-- each page that the device holds is among those whose leaves are cleared
pub held_contained : (ledger : Ledger) (id page : ℕ) (pages : List ℕ) → IsSome (held_in ledger id page) → Contains pages page → Contains (held_pages ledger id pages) page
held_contained ledger id page pages held among = contained_among page (held_pages ledger id pages) (by pages (among_contained page pages among))
  where
    yes_held : is_some (held_in ledger id page) ≡ true
    yes_held = some_is (held_in ledger id page) held

    kept : (b : Bool) (first : ℕ) (others : List ℕ) → is_some (held_in ledger id first) ≡ b → (page ≡ first) ⊎ Among page (held_pages ledger id others)
        → Among page (if b then first ∷ held_pages ledger id others else held_pages ledger id others)
    kept true first others test at = at
    kept false first others test (inl same) = absurd (false≢true (sym test ∙ ap (λ p. is_some (held_in ledger id p)) (sym same) ∙ yes_held))
    kept false first others test (inr later) = later

    by : (ps : List ℕ) → Among page ps → Among page (held_pages ledger id ps)
    by [] at = at
    by (first ∷ others) (inl same) = kept (is_some (held_in ledger id first)) first others refl (inl same)
    by (first ∷ others) (inr later) = kept (is_some (held_in ledger id first)) first others refl (inr (by others later))

-- and it holds each of those
pub contained_held : (ledger : Ledger) (id page : ℕ) (pages : List ℕ) → Contains (held_pages ledger id pages) page → IsSome (held_in ledger id page)
contained_held ledger id page pages among = by pages (among_contained page (held_pages ledger id pages) among)
  where
    there : (o : Option Pair) → is_some o ≡ true → IsSome o
    there None held = cc
    there (Some pair) held = cc

    kept : (b : Bool) (first : ℕ) (others : List ℕ) → is_some (held_in ledger id first) ≡ b → (Among page (held_pages ledger id others) → IsSome (held_in ledger id page))
        → Among page (if b then first ∷ held_pages ledger id others else held_pages ledger id others) → IsSome (held_in ledger id page)
    kept true first others held later (inl same) = there (held_in ledger id page) (ap (λ p. is_some (held_in ledger id p)) same ∙ held)
    kept true first others held later (inr at) = later at
    kept false first others held later at = later at

    by : (ps : List ℕ) → Among page (held_pages ledger id ps) → IsSome (held_in ledger id page)
    by [] at = absurd at
    by (first ∷ others) at = kept (is_some (held_in ledger id first)) first others refl (by others) at

-- the leaf of each page that the device holds is cleared, and no other, and no frame but its tables' changes
pub record AreUnmapped (size : Size) (ledger : Ledger) (id root : ℕ) (memory memory' : List (List ℕ)) : Type 0 where
  pub tree : IsRoot size memory' root
  pub tables : (f : ℕ) → HasTable size memory' root f ↔ HasTable size memory root f
  pub leaves : LosesHeldLeaves size ledger id root memory memory'
  pub outside : KeepsOutside size memory memory' root
  pub keeps : KeepsTables size memory memory' root
  pub long : length memory' ≡ length memory

-- a frame that holds none of its tables keeps its bytes
pub frame_stays : (size : Size) (ledger : Ledger) (id root : ℕ) (memory memory' : List (List ℕ)) (f : ℕ) → AreUnmapped size ledger id root memory memory' → (HasTable size memory root f → ⊥) → slice_get memory' f ≡ slice_get memory f
frame_stays size ledger id root memory memory' f unmapped other = unmapped.outside f (λ at. other ((unmapped.tables f).0 at))

-- the tables of the device map nothing
own_tables : (memory memory' : List (List ℕ)) (owners : List (Option Owner)) (ledger ledger' : Ledger) (id ticket : ℕ) (mode : Mode) (root : ℕ)
    → AreTablesOf memory owners ledger id mode root → AreUnmapped (size_in mode) ledger id root memory memory' → ShowsReleaseOfAll ledger ledger' id ticket → AreTablesOf memory' owners ledger' id mode root
own_tables memory memory' owners ledger ledger' id ticket mode root tables unmapped released = record {
  tree = root_in mode memory' root record {
    tree = unmapped.tree;
    others = λ f here. frame_stays (size_in mode) ledger id root memory memory' f unmapped (λ at. was.apart f at here) ∙ was.others f here;
    apart = λ f at here. was.apart f ((unmapped.tables f).0 at) here;
    aligned = was.aligned;
  };
  own = λ f at. elim (table_of mode memory' root f at) [
    | inl now ↦ tables.own f (table_in mode memory root f (inl ((unmapped.tables f).0 now)))
    | inr here ↦ tables.own f (table_in mode memory root f (inr here))
  ];
  low = λ p high. gone p;
  leaves = λ p low. unmapped.leaves p low ∙ none (held_in ledger id p) (leaf_of (levels_of (size_in mode)) memory root p) (tables.leaves p low) ∙ ap (option_map leaf_for) (sym (gone p));
}
  where
    gone : (p : ℕ) → held_in ledger' id p ≡ None
    gone p = released.held id p ∙ by_itself (held_in ledger id p)
      where
        by_itself : (held : Option Pair) → ◌≡◌ {A = Option Pair} (if id == id then None else held) None
        by_itself held = rw (eq-eqb id id refl) refl

    was : IsRooted mode memory root
    was = rooted mode memory root tables.tree

    none : (held : Option Pair) (leaf : Option PageLeaf) → leaf ≡ option_map leaf_for held → ◌≡◌ {A = Option PageLeaf} (if is_some held then None else leaf) None
    none None leaf shows = shows
    none (Some pair) leaf shows = refl

-- the tables of another device
other_tables : (memory memory' : List (List ℕ)) (owners : List (Option Owner)) (ledger ledger' : Ledger) (id ticket : ℕ) (mode : Mode) (root other : ℕ) (other_mode : Mode) (other_root : ℕ) → other ≢ id
    → AreTablesOf memory owners ledger id mode root → AreTablesOf memory owners ledger other other_mode other_root → AreUnmapped (size_in mode) ledger id root memory memory' → ShowsReleaseOfAll ledger ledger' id ticket
    → AreTablesOf memory' owners ledger' other other_mode other_root
other_tables memory memory' owners ledger ledger' id ticket mode root other other_mode other_root apart tables others unmapped released =
    let kept = tables_kept memory memory' owners ledger other other_mode other_root others
    (λ n marked. frame_stays (size_in mode) ledger id root memory memory' n unmapped (λ at. absurd (apart (one_owner n marked (tables.own n (table_in mode memory root n (inl at))))))) unmapped.long in
    record {
      tree = kept.tree;
      own = kept.own;
      low = λ p high. same_held p ∙ kept.low p high;
      leaves = λ p low. kept.leaves p low ∙ ap (option_map leaf_for) (sym (same_held p));
    }
  where
    same_held : (p : ℕ) → held_in ledger' other p ≡ held_in ledger other p
    same_held p = released.held other p ∙ rw (differs id other (λ same. apart (sym same))) refl

    one_owner : (n : ℕ) → slice_get owners n ≡ Some (Some (OneDevice other)) → slice_get owners n ≡ Some (Some (OneDevice id)) → other ≡ id
    one_owner n a b = cc

-- the tables of all devices
pub tables_unmapped : (memory memory' : List (List ℕ)) (owners : List (Option Owner)) (ledger ledger' : Ledger) (devices : List Device) (id ticket : ℕ) (stage : Stages)
    → HaveTables memory owners ledger devices → owned_stages_of devices id ≡ Some stage → AreUnmapped (size_in stage.mode) ledger id stage.root memory memory' → ShowsReleaseOfAll ledger ledger' id ticket
    → HaveTables memory' owners ledger' devices
tables_unmapped memory memory' owners ledger ledger' devices id ticket stage tables owned unmapped released other found at =
    elim (eqb_tells other id) [
      | inl e ↦
          let both : Some stage ≡ Some found = sym owned ∙ ap (λ i. owned_stages_of devices i) (sym e.1) ∙ at in
          let same : stage ≡ found = cc in
          subst (λ i. AreTablesOf memory' owners ledger' i found.mode found.root) (sym e.1)
          (subst (λ (s : Stages). AreTablesOf memory' owners ledger' id s.mode s.root) same (own_tables memory memory' owners ledger ledger' id ticket stage.mode stage.root (tables id stage owned) unmapped released))
      | inr ne ↦ other_tables memory memory' owners ledger ledger' id ticket stage.mode stage.root other found.mode found.root ne.1 (tables id stage owned) (tables other found at) unmapped released
    ]
