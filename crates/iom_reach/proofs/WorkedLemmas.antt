-- The worked scene.
use Rattle.std.proofs.Common.{◌≡◌, ◌⊎◌, inl, inr, ℕ, ◌+◌, ◌==◌, Bool, true, false, [], ◌∷◌, Contains, Option, None, Some, if◌then◌else◌, refl, sym, ap, ◌∙◌, subst, arith}
use Rattle.std.proofs.lemmas.Bool.{false≢true}
use Rattle.iom_base.specs.declared.access.AccessKind.TheVariants.{Read, Write}
use Rattle.iom_base.specs.Rights.{allows, r}
use Rattle.iom_reach.proofs.TakenLemmas.{ways_can_be_taken}
use Rattle.iom_reach.specs.Memory.{Tables}
use Rattle.iom_reach.specs.Safe.{IsSafe, AreTimely}
use Rattle.iom_reach.specs.Scene.{Mapping, First, Stages, NoStage, FirstStage, SecondStage, BothStages, Context, Directory, Off, Bare, At, Forges, PendingAccess, PartialWalk, DirectoryWalk, Question, Answer}
use Rattle.iom_reach.specs.Ways.{tables_of, AtRoot, PartWay, LeadsToMapping, MayFind, ByAts, Untranslated, Translated, Way, Accepted, AnyFrame, ByContext, OnTheWalk}
use Rattle.iom_reach.specs.Worked.{own_context, other_context, contexts_of_two, scene_of_two, LeadsOnlyTo, SpacesAreShared}

nothing_in : {X : Type 0} (x : X) → Contains [] x → ⊥
nothing_in x (k, below, at) = absurd (omega arith)

none_is_some : {X : Type 0} (x : X) → ◌≡◌ {A = Option X} None (Some x) → ⊥
none_is_some x e = grind (arith, e)

some_same : {X : Type 0} (x y : X) → Some x ≡ Some y → x ≡ y
some_same x y e = grind (arith, e)

same_number : (m n : ℕ) → (m == n) ≡ true → n ≡ m
same_number m n e = grind (arith, e)

abbrev is_bare : Directory → Bool
is_bare Off = false
is_bare Bare = true
is_bare (At tables) = false

abbrev has_stage : Stages → Bool
has_stage NoStage = false
has_stage (FirstStage pscid tables) = true
has_stage (SecondStage gscid tables) = true
has_stage (BothStages gscid pscid guest tables) = true

-- the contexts are the two
cached_one : (device : ℕ) (context : Context) → contexts_of_two device ≡ Some context
    → ((1 ≡ device) × (own_context ≡ context)) ⊎ ((2 ≡ device) × (other_context ≡ context))
cached_one device context is = by (device == 1) refl (device == 2) refl is
  where
    by : (b : Bool) → (device == 1) ≡ b → (c : Bool) → (device == 2) ≡ c
        → (if b then Some own_context else if c then Some other_context else None) ≡ Some context
        → ((1 ≡ device) × (own_context ≡ context)) ⊎ ((2 ≡ device) × (other_context ≡ context))
    by true e c f there = inl (same_number device 1 e, some_same own_context context there)
    by false e true f there = inr (same_number device 2 f, some_same other_context context there)
    by false e false f there = absurd (none_is_some context there)

either : (device : ℕ) (context : Context) → MayFind scene_of_two device context
    → ((1 ≡ device) × (own_context ≡ context)) ⊎ ((2 ≡ device) × (other_context ≡ context))
either device context (plugged, inl (at, inr (tables, is, never))) = absurd never
either device context (plugged, inl (at, inl there)) = cached_one device context there
either device context (plugged, inr (table, steps, there, ends)) =
    absurd (nothing_in {X = DirectoryWalk} (record { device = device; table = table; steps = steps }) there)

without_ats : (device : ℕ) (context : Context) → MayFind scene_of_two device context → (context.lets_ats ≡ false) × (has_stage context.stages ≡ true)
without_ats device context find = elim (either device context find) [
  | inl (d, same) ↦ (sym (ap (λ (c : Context). c.lets_ats) same), sym (ap (λ (c : Context). has_stage c.stages) same))
  | inr (d, same) ↦ (sym (ap (λ (c : Context). c.lets_ats) same), sym (ap (λ (c : Context). has_stage c.stages) same))
]

-- no leaf may be written
read_only : (table : ℕ) (mapping : Mapping) → LeadsToMapping scene_of_two.formats scene_of_two.memory table (λ page. record { frame = 0; place = 0 } ∷ []) mapping
    → allows mapping.rights Write ≡ true → ⊥
read_only table mapping (page, said) allowed = false≢true (ap (λ (m : Mapping). allows m.rights Write) said ∙ allowed)

no_write : (device frame : ℕ) → Way scene_of_two device frame Write → ⊥
no_write device frame (Accepted there) = nothing_in {X = PendingAccess} (record { frame = frame; kind = Write }) there
no_write device frame (AnyFrame plugged bare) = false≢true (ap is_bare bare)
no_write device frame (OnTheWalk space table steps_to mapping there leads serves) =
    nothing_in {X = PartialWalk} (record { device = Some device; space = space; table = table; steps_to = steps_to }) there
no_write device frame (ByContext context find (ByAts lets how)) = false≢true (sym (without_ats device context find).0 ∙ lets)
no_write device frame (ByContext context find (Untranslated none)) = false≢true (sym (ap has_stage none) ∙ (without_ats device context find).1)
no_write device frame (ByContext context find (Translated space is (inl (page, mapping, there, serves)))) = none_is_some mapping there
no_write device frame (ByContext context find (Translated space is (inr (table, steps_to, mapping, PartWay walker there, leads, serves)))) =
    nothing_in {X = PartialWalk} (record { device = walker; space = space; table = table; steps_to = steps_to }) there
no_write device frame (ByContext context find (Translated space is (inr (table, steps_to, mapping, AtRoot other its tables found kept decide root all, leads, (here, allowed))))) =
    read_only table mapping (subst (λ steps. LeadsToMapping scene_of_two.formats scene_of_two.memory table steps mapping) all leads) allowed

safe : IsSafe scene_of_two
safe frame read (inl (device, untrusted, way)) = no_write device frame way
safe frame read (inr (inl there)) = nothing_in frame there
safe frame read (inr (inr (place, there, word))) = nothing_in place there

timely : AreTimely scene_of_two
timely = record {
  asked = λ device epoch page caches there. absurd (nothing_in (Question device epoch page) there);
  answered = λ device epoch page mapping caches there. absurd (nothing_in (Answer device epoch page mapping) there);
}

leads_to_3 : (table : ℕ) (mapping : Mapping) → table ≡ 60 → LeadsToMapping scene_of_two.formats scene_of_two.memory table (λ page. record { frame = 0; place = 0 } ∷ []) mapping
    → mapping.frame ≡ 3
leads_to_3 table mapping is (page, said) =
    sym (ap (λ (m : Mapping). m.frame) said) ∙ ap (λ t. if (t + 0) == 57 then 7 else 3) is

abbrev root_in : Option Tables → ℕ
root_in None = 0
root_in (Some tables) = tables.root

own_leads : LeadsOnlyTo scene_of_two 1 3
own_leads context tables mapping find is leads = elim (either 1 context find) [
  | inl (d, same) ↦ leads_to_3 tables.root mapping (sym (ap (λ (c : Context). root_in (tables_of c.stages)) same ∙ ap root_in is)) leads
  | inr (d, same) ↦ absurd (omega (arith, d))
]

finds_own : MayFind scene_of_two 1 own_context
finds_own = ((Forges, refl), inl ((record { root = 0; levels = 1 }, refl), inl refl))

finds_other : MayFind scene_of_two 2 other_context
finds_other = ((Forges, refl), inl ((record { root = 0; levels = 1 }, refl), inl refl))

through_other : Way scene_of_two 1 7 Read
through_other = ByContext own_context finds_own (Translated (First 5) refl (inr (
  57,
  (λ page. record { frame = 0; place = 0 } ∷ []),
  record { frame = 7; rights = r },
  AtRoot 2 other_context (record { root = 57; levels = 1 }) finds_other refl refl refl refl,
  (0, refl),
  (refl, refl),
)))

pub spaces_are_shared : SpacesAreShared
spaces_are_shared =
    let (transitions, few, between, new, turns, made) = ways_can_be_taken scene_of_two 1 7 Read refl through_other in
    (safe, timely, own_leads, (transitions, between, new, turns, made))
