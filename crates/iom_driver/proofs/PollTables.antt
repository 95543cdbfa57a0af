-- The tables of the devices, and the directory, once leaving devices' tickets are confirmed.
use Rattle.std.proofs.Common.{◌≡◌, ◌∙◌, ℕ, false, List, map, Option, Some, slice_get, refl, sym, ap}
use Rattle.iom_base.specs.declared.owner.Owner.{Owner}
use Rattle.iom_base.specs.declared.owner.Owner.TheVariants.{System, OneDevice}
use Rattle.iom_ledger.specs.declared.ledger.Ledger.{Ledger}
use Rattle.iom_ledger.specs.Shown.{held_in}
use Rattle.iom_driver.specs.declared.device.Device.{Device}
use Rattle.iom_driver.specs.Confirmed.{driven_once_confirmed, is_gone, owner_given_back, ClearsGone}
use Rattle.iom_driver.specs.Layout.{IsLevels}
use Rattle.iom_driver.specs.Tables.{HaveTables}
use Rattle.iom_driver.proofs.Directories.{DirectoryIn, directory_stay}
use Rattle.iom_driver.proofs.Gone.{still_owned, stage_confirmed, marked_back}
use Rattle.iom_driver.proofs.Unchanged.{tables_stay}

-- a frame of an owner that hasn't gone keeps its bytes and its owner
pub owned_stays : (done : ℕ) (devices : List Device) (owners : List (Option Owner)) (memory memory' : List (List ℕ)) (n : ℕ) (owner : Owner) → ClearsGone done devices owners memory memory'
    → slice_get owners n ≡ Some (Some owner) → is_gone done devices owner ≡ false → (slice_get memory' n ≡ slice_get memory n) × (slice_get (map (owner_given_back done devices) owners) n ≡ slice_get owners n)
owned_stays done devices owners memory memory' n owner clears own unchanged = (
  clears.others n (λ other at. ap (is_gone done devices) (same_owner other (sym at ∙ own)) ∙ unchanged),
  marked_back done devices owners n owner own unchanged ∙ sym own,
)
  where
    same_owner : (other : Owner) → ◌≡◌ {A = Option (Option Owner)} (Some (Some other)) (Some (Some owner)) → other ≡ owner
    same_owner other same = cc

pub tables_polled : (done : ℕ) (memory memory' : List (List ℕ)) (owners : List (Option Owner)) (ledger ledger' : Ledger) (devices : List Device) → HaveTables memory owners ledger devices
    → ClearsGone done devices owners memory memory' → ((id page : ℕ) → held_in ledger' id page ≡ held_in ledger id page)
    → HaveTables memory' (map (owner_given_back done devices) owners) ledger' (map (driven_once_confirmed done) devices)
tables_polled done memory memory' owners ledger ledger' devices tables clears held id stage at =
    let still = still_owned done devices id stage at in
    tables_stay memory memory' owners (map (owner_given_back done devices) owners) ledger ledger' id stage.mode stage.root (tables id stage still.0)
    (λ n own. owned_stays done devices owners memory memory' n (OneDevice id) clears own still.1) (λ page. held id page)

pub directory_polled : (frames done : ℕ) (memory memory' : List (List ℕ)) (owners : List (Option Owner)) (devices : List Device) (levels : ℕ) → IsLevels levels → ClearsGone done devices owners memory memory'
    → DirectoryIn frames memory owners devices levels → DirectoryIn frames memory' (map (owner_given_back done devices) owners) (map (driven_once_confirmed done) devices) levels
directory_polled frames done memory memory' owners devices levels range clears stands =
    directory_stay frames memory memory' owners (map (owner_given_back done devices) owners) devices (map (driven_once_confirmed done) devices) levels range clears.size
    (λ n own. owned_stays done devices owners memory memory' n System clears own.system refl) (λ id. stage_confirmed done devices id) (λ id stage at. (still_owned done devices id stage at).0) stands
