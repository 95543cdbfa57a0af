-- The first of some devices whose request is under way.
use Rattle.std.proofs.Common.{◌≡◌, ◌∙◌, ℕ, ◌↔◌, List, [], ◌∷◌, Option, None, Some, IfSome, true, option_map, cond, find, is_some, refl, sym, ap, subst}
use Rattle.std.specs.List.{All}
use Rattle.std.proofs.lemmas.List.Elements.{All-nil, All-cons, All-head, All-tail}
use Rattle.iom_device.specs.declared.device.Device.{Device}
use Rattle.iom_hardware_runner.specs.Parts.{first_walking}
use Rattle.iom_hardware_runner.specs.Runs.{NoneUnderWay}
use Rattle.iom_walks.specs.Walks.{UnderWay, WalkRow, under_way_of}

-- no request of the device is under way
abbrev IsIdle : List WalkRow → Device → Type 0
IsIdle rows device = under_way_of rows device.id ≡ None

-- the first that walks, by what is under way of the first of all
abbrev first_by : List WalkRow → Device → List Device → Option UnderWay → Option ℕ
first_by rows first others own = option_map (λ (device : Device). device.id) (cond (is_some own) (Some first) (find (λ (device : Device). is_some (under_way_of rows device.id)) others))

idle_by : (rows : List WalkRow) (first : Device) (others : List Device) (own : Option UnderWay) → under_way_of rows first.id ≡ own
    → (first_walking rows others ≡ None → All (IsIdle rows) others) → first_by rows first others own ≡ None → All (IsIdle rows) (first ∷ others)
idle_by rows first others None same rest none = All-cons (IsIdle rows) first others same (rest none)
idle_by rows first others (Some own) same rest none = absurd (cc)

-- where no first one walks, none does
are_idle : (rows : List WalkRow) (devices : List Device) → first_walking rows devices ≡ None → All (IsIdle rows) devices
are_idle rows [] none = All-nil (IsIdle rows)
are_idle rows (first ∷ others) none = idle_by rows first others (under_way_of rows first.id) refl (are_idle rows others) none

-- and where none does, there is no first
none_walks : (rows : List WalkRow) (devices : List Device) → All (IsIdle rows) devices → first_walking rows devices ≡ None
none_walks rows [] idle = refl
none_walks rows (first ∷ others) idle =
    ap (λ (own : Option UnderWay). first_by rows first others own) (All-head (IsIdle rows) first others idle) ∙ none_walks rows others (All-tail (IsIdle rows) first others idle)

-- where a walk takes several events
pub stepped_none : (devices : List Device) (rows : List WalkRow) (walks : Option (List WalkRow)) (found : Option ℕ) → walks ≡ Some rows → found ≡ first_walking rows devices
    → (found ≡ None) ↔ NoneUnderWay devices walks
stepped_none devices rows walks found is same = (
  λ none. subst (λ (w : Option (List WalkRow)). NoneUnderWay devices w) (sym is) (are_idle rows devices (sym same ∙ none)),
  λ idle. same ∙ none_walks rows devices (subst (λ (w : Option (List WalkRow)). NoneUnderWay devices w) is idle),
)

-- where it takes one
pub whole_none : (devices : List Device) (walks : Option (List WalkRow)) (found : Option ℕ) → walks ≡ None → found ≡ None → (found ≡ None) ↔ NoneUnderWay devices walks
whole_none devices walks found is none = (λ same. subst (λ (w : Option (List WalkRow)). NoneUnderWay devices w) (sym is) tt, λ idle. none)

-- one walks where a walk takes several events alone
pub walks_some : (walks : Option (List WalkRow)) (rows : List WalkRow) (found : Option ℕ) → walks ≡ Some rows → IfSome found (λ device. is_some walks ≡ true)
walks_some walks rows None is = tt
walks_some walks rows (Some device) is = ap (λ (w : Option (List WalkRow)). is_some w) is
