-- The tables of the devices when the leaf of a page of one is cleared.
use Rattle.std.proofs.Common.{◌≡◌, ◌≢◌, ◌==◌, inl, inr, ◌∙◌, ◌&&◌, ◌↔◌, if◌then◌else◌, ℕ, Bool, true, false, List, length, Option, Some, None, option_map, slice_get, refl, sym, ap, subst}
use Rattle.std.proofs.lemmas.Bool.Decides.{eqb_tells}
use Rattle.std.proofs.lemmas.Bool.{eq-eqb}
use Rattle.iom_ledger.specs.declared.ledger.Ledger.{Ledger}
use Rattle.iom_ledger.specs.Changes.{ShowsRelease}
use Rattle.iom_ledger.specs.History.{Pair}
use Rattle.iom_ledger.specs.Shown.{held_in}
use Rattle.iom_page_table.specs.declared.leaf.PageLeaf.{PageLeaf}
use Rattle.iom_page_table.specs.Leaves.{leaf_of}
use Rattle.iom_page_table.specs.FirstTables.{IsRoot, HasTable, ChangesLeaf, KeepsOutside, KeepsTables}
use Rattle.iom_base.specs.declared.mode.Mode.{Mode}
use Rattle.iom_base.specs.declared.size.Size.{Size}
use Rattle.iom_base.specs.Modes.{size_in}
use Rattle.iom_base.specs.Sizes.{levels_of}
use Rattle.iom_base.specs.declared.owner.Owner.{Owner}
use Rattle.iom_base.specs.declared.owner.Owner.TheVariants.{OneDevice}
use Rattle.iom_driver.specs.declared.device.Device.{Device}
use Rattle.iom_driver.specs.declared.device.Stages.{Stages}
use Rattle.iom_driver.specs.Devices.{owned_stages_of}
use Rattle.iom_driver.specs.Tables.{AreTablesOf, HaveTables, leaf_for}
use Rattle.iom_driver.proofs.Lists.{differs}
use Rattle.iom_driver.proofs.Modes.{IsRooted, rooted, root_in, table_of, table_in}
use Rattle.iom_driver.proofs.Unchanged.{tables_kept}

-- the leaf of a page of the root's tables is cleared, and no other, and no frame but theirs changes
pub record IsUnmapped (size : Size) (memory memory' : List (List ℕ)) (root page : ℕ) : Type 0 where
  pub tree : IsRoot size memory' root
  pub tables : (f : ℕ) → HasTable size memory' root f ↔ HasTable size memory root f
  pub leaf : ChangesLeaf size memory memory' root page None
  pub keeps : KeepsTables size memory memory' root
  pub outside : KeepsOutside size memory memory' root
  pub long : length memory' ≡ length memory

-- a frame that holds none of its tables keeps its bytes
pub other_frame : (size : Size) (memory memory' : List (List ℕ)) (root page f : ℕ) → IsUnmapped size memory memory' root page → (HasTable size memory root f → ⊥) → slice_get memory' f ≡ slice_get memory f
other_frame size memory memory' root page f unmapped other = unmapped.outside f (λ at. other ((unmapped.tables f).0 at))

-- the tables of the device
own_tables : (memory memory' : List (List ℕ)) (owners : List (Option Owner)) (ledger ledger' : Ledger) (id : ℕ) (mode : Mode) (root page ticket : ℕ)
    → AreTablesOf memory owners ledger id mode root → IsUnmapped (size_in mode) memory memory' root page → ShowsRelease ledger ledger' id page ticket → AreTablesOf memory' owners ledger' id mode root
own_tables memory memory' owners ledger ledger' id mode root page ticket tables unmapped released = record {
  tree = root_in mode memory' root record {
    tree = unmapped.tree;
    others = λ f here. other_frame (size_in mode) memory memory' root page f unmapped (λ at. was.apart f at here) ∙ was.others f here;
    apart = λ f at here. was.apart f ((unmapped.tables f).0 at) here;
    aligned = was.aligned;
  };
  own = λ f at. elim (table_of mode memory' root f at) [
    | inl now ↦ tables.own f (table_in mode memory root f (inl ((unmapped.tables f).0 now)))
    | inr here ↦ tables.own f (table_in mode memory root f (inr here))
  ];
  low = λ p high. released.held id p ∙ none_still ((id == id) && (page == p)) (held_in ledger id p) (tables.low p high);
  leaves = λ p low. unmapped.leaf p low ∙ by p (tables.leaves p low);
}
  where
    none_still : (released : Bool) (held : Option Pair) → held ≡ None → ◌≡◌ {A = Option Pair} (if released then None else held) None
    none_still true held none = refl
    none_still false held none = none

    was : IsRooted mode memory root
    was = rooted mode memory root tables.tree

    cleared : (same : Bool) (leaf : Option PageLeaf) (held : Option Pair) → leaf ≡ option_map leaf_for held
        → ◌≡◌ {A = Option PageLeaf} (if same then None else leaf) (option_map leaf_for (if same then None else held))
    cleared true leaf held shows = refl
    cleared false leaf held shows = shows

    turned : (p : ℕ) → (p == page) ≡ ((id == id) && (page == p))
    turned p = elim (eqb_tells page p) [
      | inl e ↦ rw (eq-eqb id id refl, eq-eqb p page (sym e.1), eq-eqb page p e.1) refl
      | inr ne ↦ rw (eq-eqb id id refl, differs p page (λ same. ne.1 (sym same)), ne.0) refl
    ]

    by : (p : ℕ) → leaf_of (levels_of (size_in mode)) memory root p ≡ option_map leaf_for (held_in ledger id p)
        → ◌≡◌ {A = Option PageLeaf} (if p == page then None else leaf_of (levels_of (size_in mode)) memory root p) (option_map leaf_for (held_in ledger' id p))
    by p shows =
        cleared (p == page) (leaf_of (levels_of (size_in mode)) memory root p) (held_in ledger id p) shows
        ∙ ap (λ b. option_map leaf_for (if b then None else held_in ledger id p)) (turned p)
        ∙ ap (option_map leaf_for) (sym (released.held id p))

-- the tables of another device
other_tables : (memory memory' : List (List ℕ)) (owners : List (Option Owner)) (ledger ledger' : Ledger) (id : ℕ) (mode : Mode) (root page ticket other : ℕ) (other_mode : Mode) (other_root : ℕ) → other ≢ id
    → AreTablesOf memory owners ledger id mode root → AreTablesOf memory owners ledger other other_mode other_root → IsUnmapped (size_in mode) memory memory' root page → ShowsRelease ledger ledger' id page ticket
    → AreTablesOf memory' owners ledger' other other_mode other_root
other_tables memory memory' owners ledger ledger' id mode root page ticket other other_mode other_root apart tables others unmapped released =
    let kept = tables_kept memory memory' owners ledger other other_mode other_root others
    (λ n marked. other_frame (size_in mode) memory memory' root page n unmapped (λ at. absurd (apart (one_owner n marked (tables.own n (table_in mode memory root n (inl at))))))) unmapped.long in
    record {
      tree = kept.tree;
      own = kept.own;
      low = λ p high. same_held p ∙ kept.low p high;
      leaves = λ p low. kept.leaves p low ∙ ap (option_map leaf_for) (sym (same_held p));
    }
  where
    same_held : (p : ℕ) → held_in ledger' other p ≡ held_in ledger other p
    same_held p = released.held other p ∙ rw (differs id other (λ same. apart (sym same))) refl

    one_owner : (n : ℕ) → slice_get owners n ≡ Some (Some (OneDevice other)) → slice_get owners n ≡ Some (Some (OneDevice id)) → other ≡ id
    one_owner n a b = cc

-- the tables of all devices
pub tables_released : (memory memory' : List (List ℕ)) (owners : List (Option Owner)) (ledger ledger' : Ledger) (devices : List Device) (id page ticket : ℕ) (stage : Stages)
    → HaveTables memory owners ledger devices → owned_stages_of devices id ≡ Some stage → IsUnmapped (size_in stage.mode) memory memory' stage.root page → ShowsRelease ledger ledger' id page ticket
    → HaveTables memory' owners ledger' devices
tables_released memory memory' owners ledger ledger' devices id page ticket stage tables attached unmapped released other found at =
    elim (eqb_tells other id) [
      | inl e ↦
          let both : Some stage ≡ Some found = sym attached ∙ ap (λ i. owned_stages_of devices i) (sym e.1) ∙ at in
          let same : stage ≡ found = cc in
          subst (λ i. AreTablesOf memory' owners ledger' i found.mode found.root) (sym e.1)
          (subst (λ (s : Stages). AreTablesOf memory' owners ledger' id s.mode s.root) same
          (own_tables memory memory' owners ledger ledger' id stage.mode stage.root page ticket (tables id stage attached) unmapped released))
      | inr ne ↦ other_tables memory memory' owners ledger ledger' id stage.mode stage.root page ticket other found.mode found.root ne.1 (tables id stage attached) (tables other found at) unmapped released
    ]
