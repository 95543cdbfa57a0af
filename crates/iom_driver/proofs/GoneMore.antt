-- One device after another is looked at, and what those that have left own is given back.
use Rattle.std.proofs.Common.{suc, zero, ◌≡◌, ◌≢◌, ◌==◌, ◌++◌, ◌∙◌, ◌⊎◌, ℕ, Bool, true, false, List, [], ◌∷◌, map, take, Option, Some, None, option_map, slice_get, refl, sym, ap, inl, inr, if◌then◌else◌}
use Rattle.std.specs.Option.{option_map_or}
use Rattle.std.proofs.lemmas.Bool.Decides.{eqb_tells}
use Rattle.std.proofs.lemmas.Bool.{false≢true, eq-eqb}
use Rattle.std.proofs.lemmas.Option.{slice_get-map}
use Rattle.iom_base.specs.declared.owner.Owner.{Owner}
use Rattle.iom_base.specs.declared.owner.Owner.TheVariants.{System, OneDevice}
use Rattle.iom_table_frames.specs.Owners.{GivesBack}
use Rattle.iom_driver.specs.declared.device.Attachment.{Attachment}
use Rattle.iom_driver.specs.declared.device.Attachment.TheVariants.{Detached}
use Rattle.iom_driver.specs.declared.device.Device.{Device}
use Rattle.iom_driver.specs.Confirmed.{has_left_until, is_gone, owner_given_back, ClearsGone}
use Rattle.iom_driver.specs.Devices.{device_by_id, attachment_by_id, HaveOwnIds}
use Rattle.iom_driver.proofs.Ids.{none_of_all, none_at}
use Rattle.iom_driver.proofs.Lists.{differs, same_items}
use Rattle.iom_driver.proofs.Places.{attachment_absent}

-- no device before a place has the id of the one there
pub none_before : (devices : List Device) (k : ℕ) (device : Device) → HaveOwnIds devices → slice_get devices k ≡ Some device → device_by_id (take k devices) device.id ≡ None
none_before [] k device own at = cc
none_before (first ∷ others) zero device own at = refl
none_before (first ∷ others) (suc k) device own at =
    rw (differs first.id device.id (λ same. none_at others first.id k device own.0 at (sym same))) (none_before others k device own.1 at)

-- how devices are attached, with one more
attachment_more : (devices : List Device) (device : Device) (id : ℕ) → device_by_id devices device.id ≡ None
    → attachment_by_id (devices ++ device ∷ []) id ≡ (if device.id == id then device.attachment else attachment_by_id devices id)
attachment_more [] device id none = by (device.id == id)
  where
    by : (b : Bool) → ◌≡◌ {A = Attachment} (option_map_or (λ (d : Device). d.attachment) (if b then Some device else None) Detached) (if b then device.attachment else Detached)
    by true = refl
    by false = refl
attachment_more (first ∷ others) device id none =
    let parts = none_of_all first others device.id none in
    elim (eqb_tells first.id id) [
      | inl e ↦ rw (e.0, differs device.id id (λ same. parts.0 (e.1 ∙ sym same))) refl
      | inr ne ↦ rw ne.0 (attachment_more others device id parts.1)
    ]

-- an owner is the device, or another
owner_case : (owner : Owner) (id : ℕ) → (owner ≡ OneDevice id) ⊎ (owner ≢ OneDevice id)
owner_case System id = inr (λ same. cc)
owner_case (OneDevice other) id = elim (eqb_tells other id) [
  | inl e ↦ inl (ap OneDevice e.1)
  | inr ne ↦ inr (λ same. ne.1 (one_id same))
]
  where
    one_id : ◌≡◌ {A = Owner} (OneDevice other) (OneDevice id) → other ≡ id
    one_id same = cc

-- which owners have left, with one device more: its own, and each other as before
gone_before : (done : ℕ) (devices : List Device) (device : Device) → device_by_id devices device.id ≡ None → is_gone done devices (OneDevice device.id) ≡ false
gone_before done devices device none = ap (has_left_until done) (attachment_absent devices device.id none)

gone_own : (done : ℕ) (devices : List Device) (device : Device) → device_by_id devices device.id ≡ None → is_gone done (devices ++ device ∷ []) (OneDevice device.id) ≡ has_left_until done device.attachment
gone_own done devices device none =
    ap (has_left_until done) (attachment_more devices device device.id none) ∙ rw (eq-eqb device.id device.id refl) refl

gone_other : (done : ℕ) (devices : List Device) (device : Device) (owner : Owner) → device_by_id devices device.id ≡ None → owner ≢ OneDevice device.id
    → is_gone done (devices ++ device ∷ []) owner ≡ is_gone done devices owner
gone_other done devices device System none other = refl
gone_other done devices device (OneDevice id) none other =
    ap (has_left_until done) (attachment_more devices device id none) ∙ rw (differs device.id id (λ same. other (ap OneDevice (sym same)))) refl

-- THE DEVICE HASN'T LEFT

gone_same : (done : ℕ) (devices : List Device) (device : Device) → device_by_id devices device.id ≡ None → has_left_until done device.attachment ≡ false → (owner : Owner)
    → is_gone done (devices ++ device ∷ []) owner ≡ is_gone done devices owner
gone_same done devices device none unchanged owner = elim (owner_case owner device.id) [
  | inl e ↦ ap (is_gone done (devices ++ device ∷ [])) e ∙ gone_own done devices device none ∙ unchanged ∙ sym (ap (is_gone done devices) e ∙ gone_before done devices device none)
  | inr other ↦ gone_other done devices device owner none other
]

maps_same : (done : ℕ) (one other : List Device) → ((owner : Owner) → is_gone done one owner ≡ is_gone done other owner) → (owners : List (Option Owner))
    → map (owner_given_back done one) owners ≡ map (owner_given_back done other) owners
maps_same done one other same [] = refl
maps_same done one other same (None ∷ owners) = ap (λ (ms : List (Option Owner)). None ∷ ms) (maps_same done one other same owners)
maps_same done one other same (Some owner ∷ owners) =
    rw (same owner) (ap (λ (ms : List (Option Owner)). (if is_gone done other owner then None else Some owner) ∷ ms) (maps_same done one other same owners))

pub owners_unchanged : (done : ℕ) (devices : List Device) (device : Device) (owners old : List (Option Owner)) → device_by_id devices device.id ≡ None → has_left_until done device.attachment ≡ false
    → owners ≡ map (owner_given_back done devices) old → owners ≡ map (owner_given_back done (devices ++ device ∷ [])) old
owners_unchanged done devices device owners old none unchanged is =
    is ∙ sym (maps_same done (devices ++ device ∷ []) devices (gone_same done devices device none unchanged) old)

pub clears_stay : (done : ℕ) (devices : List Device) (device : Device) (owners : List (Option Owner)) (old new : List (List ℕ)) → device_by_id devices device.id ≡ None
    → has_left_until done device.attachment ≡ false → ClearsGone done devices owners old new → ClearsGone done (devices ++ device ∷ []) owners old new
clears_stay done devices device owners old new none unchanged clears = record {
  size = clears.size;
  own = λ f owner at gone. clears.own f owner at (sym (gone_same done devices device none unchanged owner) ∙ gone);
  others = λ f stay. clears.others f (λ owner at. sym (gone_same done devices device none unchanged owner) ∙ stay owner at);
}

-- THE DEVICE HAS LEFT

-- an owner that a frame has it had before
back_from : (done : ℕ) (devices : List Device) (mark : Option (Option Owner)) (owner : Owner) → option_map (owner_given_back done devices) mark ≡ Some (Some owner) → mark ≡ Some (Some owner)
back_from done devices None owner is = cc
back_from done devices (Some None) owner is = cc
back_from done devices (Some (Some own)) owner is = by (is_gone done devices own) is
  where
    by : (b : Bool) → ◌≡◌ {A = Option (Option Owner)} (Some (if b then None else Some own)) (Some (Some owner)) → ◌≡◌ {A = Option (Option Owner)} (Some (Some own)) (Some (Some owner))
    by true is = cc
    by false is = is

pub marks_back : (done : ℕ) (devices : List Device) (device : Device) (owners owners' old : List (Option Owner)) (before after : List (List ℕ)) → device_by_id devices device.id ≡ None
    → has_left_until done device.attachment ≡ true → owners ≡ map (owner_given_back done devices) old → GivesBack (OneDevice device.id) owners owners' before after
    → owners' ≡ map (owner_given_back done (devices ++ device ∷ [])) old
marks_back done devices device owners owners' old before after none left is gives =
    same_items owners' (map (owner_given_back done (devices ++ device ∷ [])) old) (λ f. by f (slice_get old f) refl ∙ sym (slice_get-map (owner_given_back done (devices ++ device ∷ [])) old f))
  where
    was : (f : ℕ) → slice_get owners f ≡ option_map (owner_given_back done devices) (slice_get old f)
    was f = ap (λ (ms : List (Option Owner)). slice_get ms f) is ∙ slice_get-map (owner_given_back done devices) old f

    unchanged : (f : ℕ) (mark : Option (Option Owner)) → slice_get old f ≡ mark → mark ≢ Some (Some (OneDevice device.id)) → slice_get owners' f ≡ option_map (owner_given_back done devices) mark
    unchanged f mark at other =
        (gives.others f (λ own. other (sym at ∙ back_from done devices (slice_get old f) (OneDevice device.id) (sym (was f) ∙ own)))).0
        ∙ was f ∙ ap (option_map (owner_given_back done devices)) at

    by : (f : ℕ) (mark : Option (Option Owner)) → slice_get old f ≡ mark → slice_get owners' f ≡ option_map (owner_given_back done (devices ++ device ∷ [])) mark
    by f None at = unchanged f None at (λ same. cc)
    by f (Some None) at = unchanged f (Some None) at (λ same. cc)
    by f (Some (Some owner)) at = elim (owner_case owner device.id) [
      | inl e ↦
          let free : is_gone done devices owner ≡ false = ap (is_gone done devices) e ∙ gone_before done devices device none in
          let gone : is_gone done (devices ++ device ∷ []) owner ≡ true = ap (is_gone done (devices ++ device ∷ [])) e ∙ gone_own done devices device none ∙ left in
          let kept : option_map (owner_given_back done devices) (Some (Some owner)) ≡ Some (Some owner) = rw free refl in
          let own : slice_get owners f ≡ Some (Some (OneDevice device.id)) = was f ∙ ap (option_map (owner_given_back done devices)) at ∙ kept ∙ ap (λ (o : Owner). Some (Some o)) e in
          rw gone (gives.own f own).0
      | inr other ↦
          unchanged f (Some (Some owner)) at (λ same. other (one_owner owner same))
          ∙ rw (gone_other done devices device owner none other) refl
    ]
      where
        one_owner : (o : Owner) → ◌≡◌ {A = Option (Option Owner)} (Some (Some o)) (Some (Some (OneDevice device.id))) → o ≡ OneDevice device.id
        one_owner o same = cc

pub clears_back : (done : ℕ) (devices : List Device) (device : Device) (owners owners' old : List (Option Owner)) (memory before after : List (List ℕ)) → device_by_id devices device.id ≡ None
    → has_left_until done device.attachment ≡ true → owners ≡ map (owner_given_back done devices) old → GivesBack (OneDevice device.id) owners owners' before after
    → ClearsGone done devices old memory before → ClearsGone done (devices ++ device ∷ []) old memory after
clears_back done devices device owners owners' old memory before after none left is gives clears = record {
  size = gives.memory_size ∙ clears.size;
  own = λ f owner at gone. elim (owner_case owner device.id) [
    | inl e ↦
        let free : is_gone done devices owner ≡ false = ap (is_gone done devices) e ∙ gone_before done devices device none in
        (gives.own f (mark_kept f owner at free ∙ ap (λ (o : Owner). Some (Some o)) e)).1
    | inr other ↦
        let earlier : is_gone done devices owner ≡ true = sym (gone_other done devices device owner none other) ∙ gone in
        (gives.others f (λ own. other (one_owner owner (sym at ∙ back_from done devices (slice_get old f) (OneDevice device.id) (sym (was f) ∙ own))))).1
        ∙ clears.own f owner at earlier
  ];
  others = λ f stay.
      (gives.others f (λ own.
      let at = back_from done devices (slice_get old f) (OneDevice device.id) (sym (was f) ∙ own) in
      false≢true (sym (stay (OneDevice device.id) at) ∙ gone_own done devices device none ∙ left))).1
      ∙ clears.others f (λ owner at. elim (owner_case owner device.id) [
        | inl e ↦ ap (is_gone done devices) e ∙ gone_before done devices device none
        | inr other ↦ sym (gone_other done devices device owner none other) ∙ stay owner at
      ]);
}
  where
    was : (f : ℕ) → slice_get owners f ≡ option_map (owner_given_back done devices) (slice_get old f)
    was f = ap (λ (ms : List (Option Owner)). slice_get ms f) is ∙ slice_get-map (owner_given_back done devices) old f

    one_owner : (o : Owner) → ◌≡◌ {A = Option (Option Owner)} (Some (Some o)) (Some (Some (OneDevice device.id))) → o ≡ OneDevice device.id
    one_owner o same = cc

    mark_kept : (f : ℕ) (owner : Owner) → slice_get old f ≡ Some (Some owner) → is_gone done devices owner ≡ false → slice_get owners f ≡ Some (Some owner)
    mark_kept f owner at free = was f ∙ ap (option_map (owner_given_back done devices)) at ∙ rw free refl

-- nothing is given back where there are no devices
none_gone : (done : ℕ) (owner : Owner) → is_gone done [] owner ≡ false
none_gone done System = refl
none_gone done (OneDevice id) = refl

pub marks_at_first : (done : ℕ) (owners : List (Option Owner)) → owners ≡ map (owner_given_back done []) owners
marks_at_first done [] = refl
marks_at_first done (None ∷ owners) = ap (λ (ms : List (Option Owner)). None ∷ ms) (marks_at_first done owners)
marks_at_first done (Some owner ∷ owners) = rw (none_gone done owner) (ap (λ (ms : List (Option Owner)). Some owner ∷ ms) (marks_at_first done owners))

pub clears_at_first : (done : ℕ) (owners : List (Option Owner)) (memory : List (List ℕ)) → ClearsGone done [] owners memory memory
clears_at_first done owners memory = record {
  size = refl;
  own = λ f owner at gone. absurd (false≢true (sym (none_gone done owner) ∙ gone));
  others = λ f stay. refl;
}
