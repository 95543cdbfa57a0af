-- What is shown of the requests under way, where one of them begins, goes on or ends.
use Rattle.std.proofs.Common.{◌≡◌, ℕ, inl, inr, ◌∙◌, ◌==◌, Bool, true, IsSome, List, Option, Some, None, refl, sym, subst, if◌then◌else◌}
use Rattle.std.proofs.lemmas.Bool.Decides.{eqb_tells}
use Rattle.iom_device.specs.declared.device.Device.{Device}
use Rattle.iom_stepped_machine.specs.Walks.{Walk, Walks, with_walk}
use Rattle.iom_stepped_refinement.specs.Shows.{ShowsRequest, ShowsRow, ShowsUnderWay, WalksShow}
use Rattle.iom_walks.specs.Walks.{UnderWay, WalkRow, row_of, under_way_in, under_way_of, with_row}
use Rattle.iom_walks.proofs.Rows.{row_is_own, row_of_other, row_of_own}

module _ (frames : ℕ) (devices : List Device) (rows : List WalkRow) (walks : Walks) (shows : WalksShow frames devices rows walks) (id : ℕ) where
  -- the walk of what is under way
  pub walk_of_row : (row : WalkRow) (own : UnderWay) → row_of rows id ≡ Some row → row.under_way ≡ Some own
      → (walk : Walk) × (walks id ≡ Some walk) × ShowsRequest frames devices id row own walk
  walk_of_row row own there is =
      subst (λ u. ShowsUnderWay frames devices id row u (walks id)) is (subst (λ r. ShowsRow frames devices id r (walks id)) there (shows id))

  -- nothing is under way
  pub none_shown : under_way_of rows id ≡ None → walks id ≡ None
  none_shown none = by (row_of rows id) (shows id) none
    where
      idle : (row : WalkRow) (u : Option UnderWay) → ShowsUnderWay frames devices id row u (walks id) → u ≡ None → walks id ≡ None
      idle row None is nothing = is
      idle row (Some own) is nothing = cc

      by : (found : Option WalkRow) → ShowsRow frames devices id found (walks id) → under_way_in found ≡ None → walks id ≡ None
      by None is nothing = is
      by (Some row) is nothing = idle row row.under_way is nothing

  -- something is
  pub some_shown : IsSome (under_way_of rows id) → (walk : Walk) × (walks id ≡ Some walk)
  some_shown some = by (row_of rows id) (shows id) some
    where
      busy : (row : WalkRow) (u : Option UnderWay) → ShowsUnderWay frames devices id row u (walks id) → IsSome u → (walk : Walk) × (walks id ≡ Some walk)
      busy row None is something = cc
      busy row (Some own) is something = (is.0, is.1)

      by : (found : Option WalkRow) → ShowsRow frames devices id found (walks id) → IsSome (under_way_in found) → (walk : Walk) × (walks id ≡ Some walk)
      by None is something = cc
      by (Some row) is something = busy row row.under_way is something

  -- the row that is put in another's place is the device's
  own_row : (row later : WalkRow) → row_of rows id ≡ Some row → later.device ≡ row.device → row_of (with_row rows later) id ≡ Some later
  own_row row later there same =
      let named : later.device ≡ id = same ∙ row_is_own rows id row there in
      subst (λ n. row_of (with_row rows later) n ≡ Some later) named (row_of_own rows later (rw (named, there) refl))

  -- a row is replaced, and the walk of its device with it
  pub replaced_shown : (row later : WalkRow) (now : Option Walk) → row_of rows id ≡ Some row → later.device ≡ row.device → ShowsUnderWay frames devices id later later.under_way now
      → WalksShow frames devices (with_row rows later) (with_walk walks id now)
  replaced_shown row later now there same shown other = elim (eqb_tells other id) [
    | inl e ↦
        subst (λ n. ShowsRow frames devices n (row_of (with_row rows later) n) (if n == id then now else walks n)) (sym e.1)
        (subst (λ (b : Bool). ShowsRow frames devices id (row_of (with_row rows later) id) (if b then now else walks id)) (sym (subst (λ n. (n == id) ≡ true) e.1 e.0))
        (subst (λ r. ShowsRow frames devices id r now) (sym (own_row row later there same)) shown))
    | inr ne ↦
        subst (λ (b : Bool). ShowsRow frames devices other (row_of (with_row rows later) other) (if b then now else walks other)) (sym ne.0)
        (subst (λ r. ShowsRow frames devices other r (walks other)) (sym (row_of_other rows later other (λ is. ne.1 (is ∙ same ∙ row_is_own rows id row there)))) (shows other))
  ]

-- the same is shown of the same devices, in a memory of as many frames
pub shown_still : (frames new_frames : ℕ) (devices new_devices : List Device) (rows new_rows : List WalkRow) (walks : Walks) → new_frames ≡ frames → new_devices ≡ devices → new_rows ≡ rows
    → WalksShow frames devices rows walks → WalksShow new_frames new_devices new_rows walks
shown_still frames new_frames devices new_devices rows new_rows walks size same is shows =
    subst (λ n. WalksShow n new_devices new_rows walks) (sym size) (subst (λ ds. WalksShow frames ds new_rows walks) (sym same) (subst (λ rs. WalksShow frames devices rs walks) (sym is) shows))
