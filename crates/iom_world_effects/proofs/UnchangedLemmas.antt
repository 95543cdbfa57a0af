-- What a world shows stays where little changes, and what mapping and unmapping leave of memory's size.
use Rattle.std.proofs.Common.{◌≡◌, ◌≢◌, ◌/◌, ◌*◌, ◌∙◌, ℕ, List, [], ◌∷◌, length, Option, Some, None, slice_get, refl, sym, ap, subst}
use Rattle.std.proofs.lemmas.List.{length-set}
use Rattle.iom_base.specs.declared.owner.Owner.{Owner}
use Rattle.iom_base.specs.declared.size.Size.{Size}
use Rattle.iom_driver.specs.State.{DriverState}
use Rattle.iom_iommu.specs.Parts.{flights_of}
use Rattle.iom_ledger.specs.Shown.{Agrees}
use Rattle.iom_machine.specs.declared.state.State.{State}
use Rattle.iom_page_table.specs.declared.leaf.PageLeaf.{PageLeaf}
use Rattle.iom_page_table.specs.FirstTables.{mapped, unmapped}
use Rattle.iom_page_table.specs.Trees.{shape_of}
use Rattle.iom_page_table.specs.Written.{word_of_leaf, with_entries, mapped_entries, cleared_entries}
use Rattle.iom_phys_mem.specs.Words.{with_word}
use Rattle.iom_stage_walk.specs.Entries.{entries}
use Rattle.iom_stage_walk.specs.Paths.{path_of}
use Rattle.iom_world_effects.specs.Parts.{Parts}
use Rattle.iom_world_effects.specs.Shows.{PartsShow}

-- nothing changes that the machine sees, and the ledger still agrees
pub shows_still : (old new : Parts) (state : State) → new.memory ≡ old.memory → flights_of new.iommu ≡ flights_of old.iommu → new.devices ≡ old.devices → new.driver ≡ record old.driver { ledger = new.driver.ledger }
    → Agrees new.driver.ledger state.history → PartsShow old state → PartsShow new state
shows_still old new state memory flights devices driver agrees shows = record {
  ledger = agrees;
  frames = rw (memory, ap (λ (d : DriverState). d.owners) driver) shows.frames;
  devices = rw (devices, flights, ap (λ (d : DriverState). d.devices) driver) shows.devices;
  given = shows.given ∙ sym (ap (λ (d : DriverState). d.given) driver);
  confirmed = shows.confirmed ∙ sym (ap (λ (d : DriverState). d.confirmed) driver);
  all_earlier = rw (ap (λ (d : DriverState). d.confirmed) driver) shows.all_earlier;
  none_later = rw (ap (λ (d : DriverState). d.confirmed) driver) shows.none_later;
  levels = shows.levels ∙ sym (ap (λ (d : DriverState). d.levels) driver);
  limits = shows.limits;
}

-- a call that leaves the driver as it was
pub shows_same : (old new : Parts) (state : State) → new.memory ≡ old.memory → flights_of new.iommu ≡ flights_of old.iommu → new.devices ≡ old.devices → new.driver ≡ old.driver → PartsShow old state → PartsShow new state
shows_same old new state memory flights devices driver shows =
    let ledger = ap (λ (d : DriverState). d.ledger) driver in
    shows_still old new state memory flights devices (driver ∙ ap (λ l. record old.driver { ledger = l }) (sym ledger))
    (subst (λ l. Agrees l state.history) (sym ledger) shows.ledger) shows

-- a frame that is nobody's has no owner
pub not_owned : (owners : List (Option Owner)) (frame : ℕ) (owner : Owner) → slice_get owners frame ≡ Some None → slice_get owners frame ≢ Some (Some owner)
not_owned owners frame owner free own = let both : ◌≡◌ {A = Option (Option Owner)} (Some None) (Some (Some owner)) = sym free ∙ own in cc

-- memory has as many frames after a word is stored, and after several
pub length-with_word : (n : ℕ) (memory : List (List ℕ)) (address value : ℕ) → length (with_word n memory address value) ≡ length memory
unfolding with_word
length-with_word n memory address value = by (slice_get memory (address / 4096)) refl
  where
    by : (frame : Option (List ℕ)) → slice_get memory (address / 4096) ≡ frame → length (with_word n memory address value) ≡ length memory
    by None at = rw at refl
    by (Some frame) at = rw at (length-set memory (address / 4096) _)

length-with_entries : (memory : List (List ℕ)) (stores : List (ℕ × ℕ)) → length (with_entries memory stores) ≡ length memory
length-with_entries memory [] = refl
length-with_entries memory ((s, word) ∷ later) = length-with_entries (with_word 8 memory (8 * s) word) later ∙ length-with_word 8 memory (8 * s) word

pub length-mapped : (size : Size) (memory : List (List ℕ)) (root page : ℕ) (leaf : PageLeaf) (fresh : List ℕ) → length (mapped size memory root page leaf fresh) ≡ length memory
length-mapped size memory root page leaf fresh = length-with_entries memory (mapped_entries (entries memory) root (path_of (shape_of size) page) fresh (word_of_leaf leaf))

pub length-unmapped : (size : Size) (memory : List (List ℕ)) (root page : ℕ) → length (unmapped size memory root page) ≡ length memory
length-unmapped size memory root page = length-with_entries memory (cleared_entries (entries memory) root (path_of (shape_of size) page))
