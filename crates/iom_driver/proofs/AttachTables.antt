-- The tables of the devices when one more is attached.
use Rattle.std.proofs.Common.{◌≡◌, ◌∙◌, inl, inr, ℕ, List, ◌∷◌, Option, Some, None, option_map, slice_get, refl, sym, ap, subst, true}
use Rattle.iom_base.specs.declared.mode.Mode.{Mode}
use Rattle.iom_base.specs.Modes.{size_in}
use Rattle.iom_base.specs.declared.owner.Owner.{Owner}
use Rattle.iom_base.specs.declared.owner.Owner.TheVariants.{OneDevice}
use Rattle.iom_ledger.specs.declared.ledger.Ledger.{Ledger}
use Rattle.iom_ledger.specs.Shown.{held_in}
use Rattle.iom_page_table.proofs.Unchanged.{zeroed_root, zeroed_frames, zeroed_leaves}
use Rattle.iom_phys_mem.specs.Words.{zeroed}
use Rattle.iom_driver.specs.declared.device.Attachment.TheVariants.{Attached}
use Rattle.iom_driver.specs.declared.device.Device.{Device}
use Rattle.iom_driver.specs.declared.device.Stages.{Stages}
use Rattle.iom_driver.specs.Admitted.{IsAligned}
use Rattle.iom_driver.specs.Attaching.{root_frames}
use Rattle.iom_driver.specs.Devices.{owned_stages, has_device, with_attachment}
use Rattle.iom_driver.specs.Orders.{MapsNothing}
use Rattle.iom_driver.specs.Tables.{AreTablesOf, HaveTables, leaf_for}
use Rattle.iom_driver.proofs.Keeps.{set_or_other}
use Rattle.iom_driver.proofs.Owners.{Among}
use Rattle.iom_driver.proofs.Modes.{rest, root_in, table_of, frames_are, rest_differs}
use Rattle.iom_driver.proofs.Unchanged.{tables_stay}

-- a root that is zero maps nothing
pub zeroed_maps_nothing : (memory : List (List ℕ)) (mode : Mode) (root : ℕ) → IsAligned mode root → ((f : ℕ) → Among f (root ∷ rest mode root) → slice_get memory f ≡ Some zeroed)
    → MapsNothing mode memory root
zeroed_maps_nothing memory mode root aligned cleared =
    let zero : slice_get memory root ≡ Some zeroed = cleared root (inl refl) in
    record {
      tree = root_in mode memory root record {
        tree = zeroed_root (size_in mode) memory root zero;
        others = λ f here. cleared f (inr here);
        apart = λ f at here. rest_differs mode root f here ((zeroed_frames (size_in mode) memory root zero f).0 at);
        aligned = aligned;
      };
      leaves = λ page low. zeroed_leaves (size_in mode) memory root zero page;
    }

-- the root of a device that holds nothing is zero
tables_new : (memory : List (List ℕ)) (owners : List (Option Owner)) (ledger : Ledger) (id : ℕ) (mode : Mode) (root : ℕ) → IsAligned mode root
    → ((f : ℕ) → Among f (root ∷ rest mode root) → slice_get memory f ≡ Some zeroed) → ((f : ℕ) → Among f (root ∷ rest mode root) → slice_get owners f ≡ Some (Some (OneDevice id)))
    → ((page : ℕ) → held_in ledger id page ≡ None) → AreTablesOf memory owners ledger id mode root
tables_new memory owners ledger id mode root aligned cleared marked none =
    let zero : slice_get memory root ≡ Some zeroed = cleared root (inl refl) in
    let new = zeroed_maps_nothing memory mode root aligned cleared in
    record {
      tree = new.tree;
      own = λ f at. elim (table_of mode memory root f at) [
        | inl now ↦ ap (λ n. slice_get owners n) ((zeroed_frames (size_in mode) memory root zero f).0 now) ∙ marked root (inl refl)
        | inr here ↦ marked f (inr here)
      ];
      low = λ page high. none page;
      leaves = λ page low. new.leaves page low ∙ ap (option_map leaf_for) (sym (none page));
    }

-- the tables of all devices, where one more has a zeroed root, and what is another device's stays
pub tables_attached : (memory memory' : List (List ℕ)) (owners owners' : List (Option Owner)) (ledger : Ledger) (devices : List Device) (id : ℕ) (stage : Stages)
    → HaveTables memory owners ledger devices → has_device devices id ≡ true → IsAligned stage.mode stage.root
    → ((f : ℕ) → Among f (root_frames stage.mode stage.root) → (slice_get memory' f ≡ Some zeroed) × (slice_get owners' f ≡ Some (Some (OneDevice id))))
    → ((n other : ℕ) → slice_get owners n ≡ Some (Some (OneDevice other)) → (slice_get memory' n ≡ slice_get memory n) × (slice_get owners' n ≡ slice_get owners n))
    → ((page : ℕ) → held_in ledger id page ≡ None) → HaveTables memory' owners' ledger (with_attachment devices id (Attached stage))
tables_attached memory memory' owners owners' ledger devices id stage tables plugged aligned new kept none other found at =
    elim (set_or_other devices id (Attached stage) other plugged) [
      | inl now ↦
          let both : Some stage ≡ Some found = sym (ap owned_stages now.1) ∙ at in
          let same : stage ≡ found = cc in
          let those = λ (f : ℕ) (here : Among f (stage.root ∷ rest stage.mode stage.root)). new f (subst (λ fs. Among f fs) (sym (frames_are stage.mode stage.root)) here) in
          subst (λ i. AreTablesOf memory' owners' ledger i found.mode found.root) (sym now.0)
          (subst (λ (s : Stages). AreTablesOf memory' owners' ledger id s.mode s.root) same
          (tables_new memory' owners' ledger id stage.mode stage.root aligned (λ f here. (those f here).0) (λ f here. (those f here).1) none))
      | inr was ↦ tables_stay memory memory' owners owners' ledger ledger other found.mode found.root (tables other found (sym (ap owned_stages was.1) ∙ at))
          (λ n mark. kept n other mark) (λ page. refl)
    ]
