-- What the paths of one kind of access say of the other's, in a second stage and in both, and where they lead.
use Rattle.std.proofs.Common.{◌≡◌, ◌%◌, ◌*◌, ◌+◌, ◌-◌, ◌/◌, ◌&&◌, ◌∙◌, inl, inr, ℕ, Bool, true, false, List, [], ◌∷◌, Option, Some, None, if◌then◌else◌, sym, refl, ap, subst}
use Rattle.std.specs.List.{All}
use Rattle.std.proofs.lemmas.List.Elements.{All-nil, All-cons, All-head, All-tail, All-replicate}
use Rattle.iom_base.specs.Rights.{allows, r, rw}
use Rattle.iom_base.proofs.RightsLemmas.{allows-Read}
use Rattle.iom_base.specs.declared.access.AccessKind.{AccessKind}
use Rattle.iom_base.specs.declared.access.AccessKind.TheVariants.{Read, Write}
use Rattle.iom_base.specs.declared.rights.Rights.{Rights}
use Rattle.iom_stage_walk.specs.Entries.{entries, slot}
use Rattle.iom_stage_walk.specs.Paths.{path_of, first_widths}
use Rattle.iom_stage_walk.specs.Second.{second_widths, LeadsTo, ReachesSecond}
use Rattle.iom_stage_walk.specs.Both.{ReachesGuest, padded, rights_of_both, ReachesBoth}
use Rattle.iom_stage_walk.specs.Laws.{IsLed}
use Rattle.iom_stage_walk.specs.declared.walked.Walked.{Walked}
use Rattle.iom_stage_walk.proofs.Serves.{serves, right_allows}

module _ (levels : ℕ) (frames : List (List ℕ)) (root address : ℕ) where
  leads_allows : (kind : AccessKind) (f : ℕ) (u : Rights) → LeadsTo levels frames root address kind f u → allows u kind ≡ true
  leads_allows kind f u h = right_allows (entries frames) kind root (path_of (second_widths levels) (address / 4096)) f u h.path

  leads_serves : (kind kind' : AccessKind) (f : ℕ) (u : Rights) → LeadsTo levels frames root address kind f u → allows u kind' ≡ true → LeadsTo levels frames root address kind' f u
  leads_serves kind kind' f u h allowed =
      record { guest_physical = h.guest_physical; path = serves (entries frames) kind kind' root (path_of (second_widths levels) (address / 4096)) f u h.path allowed; inside = h.inside }

  pub second_writes : (walked : Walked) → ReachesSecond levels frames root address Write walked → ReachesSecond levels frames root address Read walked × (allows walked.rights Write ≡ true)
  second_writes walked h =
      let writes = leads_allows Write walked.frame walked.rights h.leads in
      (record { leads = leads_serves Write Read walked.frame walked.rights h.leads (allows-Read walked.rights Write writes); level = h.level; no_guest = h.no_guest }, writes)

  pub second_reads : (walked : Walked) → ReachesSecond levels frames root address Read walked → allows walked.rights Write ≡ true → ReachesSecond levels frames root address Write walked
  second_reads walked h writes = record { leads = leads_serves Read Write walked.frame walked.rights h.leads writes; level = h.level; no_guest = h.no_guest }

guest_allows : (levels : ℕ) (frames : List (List ℕ)) (second : ℕ) (kind : AccessKind) (table : ℕ) (is fs : List ℕ) (p : ℕ) (u : Rights) → ReachesGuest levels frames second kind table is fs p u → allows u kind ≡ true
guest_allows levels frames second kind table [] fs p u h = absurd h
guest_allows levels frames second kind table (i ∷ is) fs p u h =
    elim (h.3) [ inl x ↦ guest_allows levels frames second kind x.0 is x.1 p u x.4 | inr x ↦ ap (λ v. allows v kind) x.4.same ∙ x.4.allowed ]

guest_serves : (levels : ℕ) (frames : List (List ℕ)) (second : ℕ) (kind kind' : AccessKind) (table : ℕ) (is fs : List ℕ) (p : ℕ) (u : Rights) → ReachesGuest levels frames second kind table is fs p u → allows u kind' ≡ true → ReachesGuest levels frames second kind' table is fs p u
guest_serves levels frames second kind kind' table [] fs p u h allowed = h
guest_serves levels frames second kind kind' table (i ∷ is) fs p u h allowed =
    elim (h.3) [
      | inl x ↦ (h.0, h.1, h.2, inl (x.0, x.1, x.2, x.3, guest_serves levels frames second kind kind' x.0 is x.1 p u x.4 allowed))
      | inr x ↦ (h.0, h.1, h.2, inr (x.0, x.1, x.2, x.3, record { aligned = x.4.aligned; allowed = ap (λ v. allows v kind') (sym x.4.same) ∙ allowed; page = x.4.page; same = x.4.same }))
    ]

-- the right of both allows writes where the two do
test_of_both : (x y : Bool) → allows (if x && y then rw else r) Write ≡ true → (x ≡ true) × (y ≡ true)
test_of_both true true h = (refl, refl)
test_of_both true false h = let no : ⊥ = cc in absurd no
test_of_both false y h = let no : ⊥ = cc in absurd no

writes_of_both : (a b : Rights) (given : Rights) → given ≡ rights_of_both a b → allows given Write ≡ true → (allows a Write ≡ true) × (allows b Write ≡ true)
writes_of_both a b given is writes = test_of_both (allows a Write) (allows b Write) (ap (λ u. allows u Write) (sym is) ∙ writes)

both_write : (x y : Bool) → x ≡ true → y ≡ true → allows (if x && y then rw else r) Write ≡ true
both_write true true e f = refl
both_write true false e f = let no : ⊥ = cc in absurd no
both_write false y e f = let no : ⊥ = cc in absurd no

-- what holds of the frames that were loaded, holds of the places
all_places : (P : Option ℕ → Type 0) (n : ℕ) (fs : List ℕ) → P None → All (λ f. P (Some f)) fs → All P (padded n fs)
all_places P n [] none all = All-replicate P n None none
all_places P n (f ∷ fs) none all =
    All-cons P (Some f) (padded (n - 1) fs) (All-head (λ g. P (Some g)) f fs all) (all_places P (n - 1) fs none (All-tail (λ g. P (Some g)) f fs all))

-- the frames that a path loads from are those to which the second stage leads
all_led : (levels : ℕ) (frames : List (List ℕ)) (second : ℕ) (kind : AccessKind) (table : ℕ) (is fs : List ℕ) (p : ℕ) (u : Rights) → ReachesGuest levels frames second kind table is fs p u
    → All (λ f. (guest : ℕ) × (rights : Rights) × LeadsTo levels frames second guest Read f rights) fs
all_led levels frames second kind table [] fs p u h = absurd h
all_led levels frames second kind table (i ∷ is) fs p u h =
    let P : ℕ → Type 0 = λ f. (guest : ℕ) × (rights : Rights) × LeadsTo levels frames second guest Read f rights in
    let here : P h.0 = (8 * slot table i, h.2.0, h.2.1) in
    elim (h.3) [
      | inl x ↦ subst (All P) (sym x.3) (All-cons P h.0 x.1 here (all_led levels frames second kind x.0 is x.1 p u x.4))
      | inr x ↦ subst (All P) (sym x.3) (All-cons P h.0 [] here (All-nil P))
    ]

module _ (levels levels' : ℕ) (frames : List (List ℕ)) (first second address : ℕ) where
  pub both_writes : (walked : Walked) → ReachesBoth levels levels' frames first second address Write walked → ReachesBoth levels levels' frames first second address Read walked × (allows walked.rights Write ≡ true)
  both_writes walked h =
      let is = path_of (first_widths levels) (address / 4096) in
      let guest = guest_allows levels' frames second Write first is h.loaded h.page h.given h.guest in
      let final = leads_allows levels' frames second (4096 * h.page + address % 4096) Write walked.frame h.given' h.leads in (
        record {
          canonical = h.canonical;
          page = h.page;
          given = h.given;
          loaded = h.loaded;
          guest = guest_serves levels' frames second Write Read first is h.loaded h.page h.given h.guest (allows-Read h.given Write guest);
          given' = h.given';
          leads = leads_serves levels' frames second (4096 * h.page + address % 4096) Write Read walked.frame h.given' h.leads (allows-Read h.given' Write final);
          rights = h.rights;
          level = h.level;
          guest_frames = h.guest_frames;
        },
        ap (λ u. allows u Write) h.rights ∙ both_write (allows h.given Write) (allows h.given' Write) guest final,
      )

  pub both_reads : (walked : Walked) → ReachesBoth levels levels' frames first second address Read walked → allows walked.rights Write ≡ true → ReachesBoth levels levels' frames first second address Write walked
  both_reads walked h writes =
      let is = path_of (first_widths levels) (address / 4096) in
      let two = writes_of_both h.given h.given' walked.rights h.rights writes in
      record {
        canonical = h.canonical;
        page = h.page;
        given = h.given;
        loaded = h.loaded;
        guest = guest_serves levels' frames second Read Write first is h.loaded h.page h.given h.guest two.0;
        given' = h.given';
        leads = leads_serves levels' frames second (4096 * h.page + address % 4096) Read Write walked.frame h.given' h.leads two.1;
        rights = h.rights;
        level = h.level;
        guest_frames = h.guest_frames;
      }

  pub final_frame_led : (kind : AccessKind) (walked : Walked) → ReachesBoth levels levels' frames first second address kind walked
      → (guest : ℕ) × (rights : Rights) × LeadsTo levels' frames second guest kind walked.frame rights × (allows walked.rights Write ≡ true → allows rights Write ≡ true)
  final_frame_led kind walked h = (4096 * h.page + address % 4096, h.given', h.leads, λ writes. (writes_of_both h.given h.given' walked.rights h.rights writes).1)

  pub guest_frames_led : (kind : AccessKind) (walked : Walked) → ReachesBoth levels levels' frames first second address kind walked → All (IsLed levels' frames second) walked.guest_frames
  guest_frames_led kind walked h =
      subst (All (IsLed levels' frames second)) (sym h.guest_frames)
      (all_places (IsLed levels' frames second) 4 h.loaded tt (all_led levels' frames second kind first (path_of (first_widths levels) (address / 4096)) h.loaded h.page h.given h.guest))
