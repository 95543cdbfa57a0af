-- How a page is translated by a context, and what the cache of translations keeps of it.
use Rattle.std.proofs.Common.{◌≡◌, ◌/◌, ◌&&◌, ◌∙◌, inl, inr, ℕ, Bool, true, false, nat_lt, List, length, Option, None, Some, option_map, Ok, Err, refl, sym, ap, subst, if◌then◌else◌}
use Rattle.iom_base.specs.Rights.{allows, r, rw}
use Rattle.iom_base.specs.Sizes.{levels_of}
use Rattle.iom_base.specs.Tables.{access_fault_of}
use Rattle.iom_base.specs.declared.access.AccessKind.{AccessKind}
use Rattle.iom_base.specs.declared.access.AccessKind.TheVariants.{Read, Write}
use Rattle.iom_base.specs.declared.rights.Rights.{Rights}
use Rattle.iom_device_dir.specs.declared.context.Context.{Context as DeviceContext}
use Rattle.iom_device_dir.specs.declared.stages.FirstStage.{FirstStage as First}
use Rattle.iom_device_dir.specs.declared.stages.FirstStage.TheVariants as first
use Rattle.iom_device_dir.specs.declared.stages.SecondStage.{SecondStage as Second}
use Rattle.iom_device_dir.specs.declared.stages.SecondStage.TheVariants as second
use Rattle.iom_board.specs.BoardParts.{BoardParts}
use Rattle.iom_iommu.specs.Parts.{translations_of}
use Rattle.iom_iommu.specs.Service.{own_page, first_key, second_key, both_key, cached_for, translation_of, LooksOrWalks, Translates as TranslatesBy}
use Rattle.iom_stage_walk.specs.declared.walked.Walked.{Walked}
use Rattle.iom_stage_walk.specs.declared.walked.WalkFault.{WalkFault}
use Rattle.iom_stage_walk.specs.Both.{plain, rights_of_both, ReachesBoth, StopsBoth}
use Rattle.iom_stage_walk.specs.Entries.{entries}
use Rattle.iom_stage_walk.specs.Paths.{first_widths, first_path, ReachesFirst, StopsFirst}
use Rattle.iom_stage_walk.specs.Second.{second_widths, second_path, ReachesSecond, StopsSecond}
use Rattle.iom_stage_walk.proofs.ServesBoth.{both_writes}
use Rattle.iom_tlb.specs.Content.{Key, Translations, TranslationsUnchanged, Sets}
use Rattle.iom_tlb.specs.declared.space.Space.{Space}
use Rattle.iom_tlb.specs.declared.space.Space.TheVariants as space
use Rattle.iom_tlb.specs.declared.trans_cache.Translation.{Translation}
use Rattle.iom_tlb.proofs.KeyLemmas.{one_or_other}
use Rattle.iom_reach.specs.Memory.{WalkStep}
use Rattle.iom_reach.specs.Transitions.{IsPartOf, IsPartWith, WalkGives, TranslatesTo, ToItself, ByCache, ByWalk}
use Rattle.iom_reach.specs.Scene.{Mapping, AddressSpace, First as InFirst, Second as InSecond, Both as InBoth, SpacePage, Context, HardwareScene}
use Rattle.iom_reach.specs.Ways.{space_of, tables_of, MayFind, WalkBegins, AtRoot}
use Rattle.iom_hardware_ways.specs.Formats.{steps_along, steps_in, stages_in, context_of}
use Rattle.iom_hardware_ways.specs.Scenes.{cached_space, cached_key, mapping_from, mapping_of, mappings_in, scene_of}
use Rattle.iom_hardware_ways.proofs.Changes.{TranslationsChange}
use Rattle.iom_hardware_ways.proofs.FormatLemmas.{reaches_allowed}
use Rattle.iom_hardware_ways.proofs.WalkLaws.{first_stages_lead, second_stages_lead, both_stages_lead}

-- KEYS

abbrev pub space_back : Space → AddressSpace
space_back (space.First pscid) = InFirst pscid
space_back (space.Second gscid) = InSecond gscid
space_back (space.Both gscid pscid) = InBoth gscid pscid

same_space : (s : AddressSpace) → space_back (cached_space s) ≡ s
same_space (InFirst pscid) = refl
same_space (InSecond gscid) = refl
same_space (InBoth gscid pscid) = refl

abbrev page_at : AddressSpace → ℕ → SpacePage
page_at s n = record { space = s; page = n }

same_page : (one other : SpacePage) → cached_key one ≡ cached_key other → one ≡ other
same_page one other same =
    ap (λ s. page_at s one.page) (sym (same_space one.space) ∙ ap (λ (k : Key). space_back k.0) same ∙ same_space other.space)
    ∙ ap (λ n. page_at other.space n) (ap (λ (k : Key). k.1) same)

-- CACHED TRANSLATIONS

pub stays_shown : (old new : Translations) → TranslationsUnchanged old new → IsPartOf (mappings_in new) (mappings_in old)
stays_shown old new unchanged at value is = ap (option_map mapping_of) (sym (unchanged (cached_key at))) ∙ is

none_mapped : (cached : Option Translation) (value : Mapping) → cached ≡ None → option_map mapping_of cached ≡ Some value → ⊥
none_mapped None value none is = cc
none_mapped (Some own) value none is = cc

one_mapped : (cached : Option Translation) (own : Translation) (value : Mapping) → cached ≡ Some own → option_map mapping_of cached ≡ Some value → value ≡ mapping_of own
one_mapped None own value none is = absurd (cc)
one_mapped (Some found) own value same is =
    let e : found ≡ own = cc in
    let f : mapping_of found ≡ value = cc in
    sym f ∙ ap mapping_of e

pub sets_shown : (old : Translations) (at : SpacePage) (own : Translation) (new : Translations) → Sets old (cached_key at) own new
    → IsPartWith (mappings_in new) at (mapping_of own) (mappings_in old)
sets_shown old at own new sets key value is = elim (one_or_other (cached_key key) (cached_key at)) [
  | inl same ↦ inl (same_page key at same, one_mapped (new (cached_key key)) own value (ap new same ∙ sets.kept) is)
  | inr apart ↦ elim (sets.others.1 (cached_key key) apart) [
    | inl same ↦ inr (ap (option_map mapping_of) (sym same) ∙ is)
    | inr (out, none) ↦ absurd (none_mapped (new (cached_key key)) value none is)
  ]
]

-- a cached translation whose right allows the access is used
pub used : (cached : Option Translation) (kind : AccessKind) (own : Translation) → Some own ≡ cached_for cached kind → (cached ≡ Some own) × (allows own.rights kind ≡ true)
used None kind own is = absurd (cc)
used (Some found) kind own is = by (allows found.rights kind) refl is
  where
    by : (b : Bool) → allows found.rights kind ≡ b → Some own ≡ (if b then Some found else None) → (◌≡◌ {A = Option Translation} (Some found) (Some own)) × (allows own.rights kind ≡ true)
    by true e reply = let same : found ≡ own = cc in (sym reply, ap (λ (t : Translation). allows t.rights kind) (sym same) ∙ e)
    by false e reply = absurd (cc)

-- WALKS

-- what a walk of the context's stages reaches is what a walk of a scene gives, and allows the access
abbrev IsWalkOf : HardwareScene → ℕ → (ℕ → List WalkStep) → AccessKind → Walked → Type 0
IsWalkOf scene table steps_to kind walked = WalkGives scene table steps_to (mapping_of (translation_of walked)) × (allows walked.rights kind ≡ true)

first_walked : (trusted : ℕ → Bool) (parts : BoardParts) (levels root address : ℕ) (kind : AccessKind) (walked : Walked)
    → ReachesFirst levels parts.memory root address kind walked → IsWalkOf (scene_of trusted parts) root (λ page. steps_along (first_widths levels) page) kind walked
first_walked trusted parts levels root address kind walked reaches = (
  (mapping_of (translation_of walked), first_stages_lead levels parts.memory root address kind walked reaches, refl, (λ k allowed. allowed)),
  reaches_allowed (entries parts.memory) kind root (first_path levels address) walked.frame walked.rights reaches.path,
)

second_walked : (trusted : ℕ → Bool) (parts : BoardParts) (levels root address : ℕ) (kind : AccessKind) (walked : Walked)
    → ReachesSecond levels parts.memory root address kind walked → IsWalkOf (scene_of trusted parts) root (λ page. steps_along (second_widths levels) page) kind walked
second_walked trusted parts levels root address kind walked reaches = (
  (mapping_of (translation_of walked), second_stages_lead levels parts.memory root address kind walked reaches, refl, (λ k allowed. allowed)),
  reaches_allowed (entries parts.memory) kind root (second_path levels address) walked.frame walked.rights reaches.leads.path,
)

reads_of_both : (one other : Rights) → allows (rights_of_both one other) Read ≡ true
reads_of_both one other = by (allows one Write && allows other Write)
  where
    by : (b : Bool) → allows (if b then rw else r) Read ≡ true
    by true = refl
    by false = refl

both_allowed : (levels levels' : ℕ) (memory : List (List ℕ)) (guest root address : ℕ) (kind : AccessKind) (walked : Walked)
    → ReachesBoth levels levels' memory guest root address kind walked → allows walked.rights kind ≡ true
both_allowed levels levels' memory guest root address Read walked reaches = ap (λ u. allows u Read) reaches.rights ∙ reads_of_both reaches.given reaches.given'
both_allowed levels levels' memory guest root address Write walked reaches = (both_writes levels levels' memory guest root address walked reaches).1

both_walked : (trusted : ℕ → Bool) (parts : BoardParts) (levels levels' guest root address : ℕ) (kind : AccessKind) (walked : Walked)
    → ReachesBoth levels levels' parts.memory guest root address kind walked → IsWalkOf (scene_of trusted parts) root (λ page. steps_along (second_widths levels') page) kind walked
both_walked trusted parts levels levels' guest root address kind walked reaches =
    let (given, leads, rights) = both_stages_lead levels levels' parts.memory guest root address kind walked reaches in
    ((mapping_from walked.frame given, leads, refl, rights), both_allowed levels levels' parts.memory guest root address kind walked reaches)

-- WHAT IS ANSWERED

-- the page is translated so, for an access that the right allows, and these are cached then
pub record IsAnswered (scene : HardwareScene) (context : Context) (page : ℕ) (kind : AccessKind) (answer : Translation) (kept : SpacePage → Option Mapping) : Type 0 where
  pub translates : TranslatesTo scene context page (mapping_of answer)
  pub allowed : allows answer.rights kind ≡ true
  pub change : TranslationsChange scene kept

-- by the cache, or by a walk
module _ (trusted : ℕ → Bool) (parts : BoardParts) (context : Context) (s : AddressSpace) (page : ℕ) (kind : AccessKind) (table : ℕ) (steps_to : ℕ → List WalkStep)
    (within : space_of context.stages ≡ Some s) (begins : WalkBegins (scene_of trusted parts) s table steps_to) where
  looked_or_walked : (Reaches : Walked → Type 0) (Stops : WalkFault → Type 0) (sure : Bool) (answer : Translation) (new : Translations)
      → ((walked : Walked) → Reaches walked → IsWalkOf (scene_of trusted parts) table steps_to kind walked)
      → (cached : Option Translation) → cached ≡ cached_for (translations_of parts.iommu (cached_space s, page)) kind
      → LooksOrWalks sure cached Reaches Stops (cached_space s, page) (translations_of parts.iommu) (Ok answer) new
      → IsAnswered (scene_of trusted parts) context page kind answer (mappings_in new)
  looked_or_walked Reaches Stops sure answer new walks (Some own) is (reply, unchanged) =
      let same : answer ≡ own = cc in
      let (there, allowed) = used (translations_of parts.iommu (cached_space s, page)) kind own is in
      record {
        translates = ByCache s within (ap (option_map mapping_of) (there ∙ ap Some (sym same)));
        allowed = ap (λ (t : Translation). allows t.rights kind) same ∙ allowed;
        change = inl (stays_shown (translations_of parts.iommu) new unchanged);
      }
  looked_or_walked Reaches Stops sure answer new walks None is (walked, reaches, same, inl sets) =
      let (gives, allowed) = walks walked reaches in
      record {
        translates = ByWalk s table steps_to within begins (subst (λ t. WalkGives (scene_of trusted parts) table steps_to (mapping_of t)) (sym same) gives);
        allowed = ap (λ (t : Translation). allows t.rights kind) same ∙ allowed;
        change = inr (
          s,
          table,
          steps_to,
          page,
          mapping_of (translation_of walked),
          begins,
          gives,
          sets_shown (translations_of parts.iommu) (record { space = s; page = page }) (translation_of walked) new sets,
        );
      }
  looked_or_walked Reaches Stops sure answer new walks None is (walked, reaches, same, inr (unsure, none, unchanged)) =
      let (gives, allowed) = walks walked reaches in
      record {
        translates = ByWalk s table steps_to within begins (subst (λ t. WalkGives (scene_of trusted parts) table steps_to (mapping_of t)) (sym same) gives);
        allowed = ap (λ (t : Translation). allows t.rights kind) same ∙ allowed;
        change = inl (stays_shown (translations_of parts.iommu) new unchanged);
      }

-- the frame of the address itself
pub own_frame : (memory : List (List ℕ)) (address : ℕ) (kind : AccessKind) (answer : Translation) → Ok answer ≡ own_page memory address kind
    → (answer.frame ≡ address / 4096) × (allows answer.rights kind ≡ true)
own_frame memory address kind answer reply = by (nat_lt (address / 4096) (length memory)) reply
  where
    all_allowed : (k : AccessKind) → allows rw k ≡ true
    all_allowed Read = refl
    all_allowed Write = refl

    own : Translation
    own = record { frame = address / 4096; rights = rw; order = 0 }

    by : (b : Bool) → Ok answer ≡ (if b then Ok own else Err (plain (access_fault_of kind))) → (answer.frame ≡ address / 4096) × (allows answer.rights kind ≡ true)
    by true is = let same : answer ≡ own = cc in (ap (λ (t : Translation). t.frame) same, ap (λ (t : Translation). allows t.rights kind) same ∙ all_allowed kind)
    by false is = absurd (cc)

-- by the stages of a context that the device may find
pub answered_by : (trusted : ℕ → Bool) (parts : BoardParts) (id : ℕ) (context : DeviceContext) (one : First) (two : Second) (sure : Bool) (address : ℕ) (kind : AccessKind)
    (answer : Translation) (new : Translations) → MayFind (scene_of trusted parts) id (context_of context)
    → (context_of context).stages ≡ stages_in one two context.gscid context.pscid.number
    → TranslatesBy sure one two context parts.memory address kind (translations_of parts.iommu) (Ok answer) new
    → IsAnswered (scene_of trusted parts) (context_of context) (address / 4096) kind answer (mappings_in new)
answered_by trusted parts id context first.Bare second.Bare sure address kind answer new find is (reply, unchanged) =
    let (frame, allowed) = own_frame parts.memory address kind answer reply in
    record { translates = ToItself is; allowed = allowed; change = inl (stays_shown (translations_of parts.iommu) new unchanged) }
answered_by trusted parts id context (first.Tables size root) second.Bare sure address kind answer new find is serves =
    looked_or_walked trusted parts (context_of context) (InFirst context.pscid.number) (address / 4096) kind root.number (λ page. steps_along (first_widths (levels_of size)) page)
    (ap space_of is)
    (AtRoot id (context_of context) (record { root = root.number; levels = levels_of size }) find (ap space_of is) (ap tables_of is) refl (ap steps_in (sym is)))
    (ReachesFirst (levels_of size) parts.memory root.number address kind) (StopsFirst (levels_of size) parts.memory root.number address kind) sure answer new
    (λ walked reaches. first_walked trusted parts (levels_of size) root.number address kind walked reaches)
    (cached_for (translations_of parts.iommu (first_key context address)) kind) refl serves
answered_by trusted parts id context first.Bare (second.Tables size root) sure address kind answer new find is serves =
    looked_or_walked trusted parts (context_of context) (InSecond context.gscid) (address / 4096) kind root.number (λ page. steps_along (second_widths (levels_of size)) page)
    (ap space_of is)
    (AtRoot id (context_of context) (record { root = root.number; levels = levels_of size }) find (ap space_of is) (ap tables_of is) refl (ap steps_in (sym is)))
    (ReachesSecond (levels_of size) parts.memory root.number address kind) (StopsSecond (levels_of size) parts.memory root.number address kind) sure answer new
    (λ walked reaches. second_walked trusted parts (levels_of size) root.number address kind walked reaches)
    (cached_for (translations_of parts.iommu (second_key context address)) kind) refl serves
answered_by trusted parts id context (first.Tables size guest) (second.Tables size' root) sure address kind answer new find is serves =
    looked_or_walked trusted parts (context_of context) (InBoth context.gscid context.pscid.number) (address / 4096) kind root.number (λ page. steps_along (second_widths (levels_of size')) page)
    (ap space_of is)
    (AtRoot id (context_of context) (record { root = root.number; levels = levels_of size' }) find (ap space_of is) (ap tables_of is) refl (ap steps_in (sym is)))
    (ReachesBoth (levels_of size) (levels_of size') parts.memory guest.number root.number address kind) (StopsBoth (levels_of size) (levels_of size') parts.memory guest.number root.number address kind) sure answer new
    (λ walked reaches. both_walked trusted parts (levels_of size) (levels_of size') guest.number root.number address kind walked reaches)
    (cached_for (translations_of parts.iommu (both_key context address)) kind) refl serves

-- a fault keeps nothing
faulted : (Reaches : Walked → Type 0) (Stops : WalkFault → Type 0) (sure : Bool) (key : Key) (old new : Translations) (fault : WalkFault) (cached : Option Translation)
    → LooksOrWalks sure cached Reaches Stops key old (Err fault) new → TranslationsUnchanged old new
faulted Reaches Stops sure key old new fault None (stops, unchanged) = unchanged
faulted Reaches Stops sure key old new fault (Some own) (reply, unchanged) = unchanged

pub faulted_by : (context : DeviceContext) (one : First) (two : Second) (sure : Bool) (memory : List (List ℕ)) (address : ℕ) (kind : AccessKind) (old new : Translations) (fault : WalkFault)
    → TranslatesBy sure one two context memory address kind old (Err fault) new → TranslationsUnchanged old new
faulted_by context first.Bare second.Bare sure memory address kind old new fault (reply, unchanged) = unchanged
faulted_by context (first.Tables size root) second.Bare sure memory address kind old new fault serves =
    faulted (ReachesFirst (levels_of size) memory root.number address kind) (StopsFirst (levels_of size) memory root.number address kind) sure (first_key context address) old new fault
    (cached_for (old (first_key context address)) kind) serves
faulted_by context first.Bare (second.Tables size root) sure memory address kind old new fault serves =
    faulted (ReachesSecond (levels_of size) memory root.number address kind) (StopsSecond (levels_of size) memory root.number address kind) sure (second_key context address) old new fault
    (cached_for (old (second_key context address)) kind) serves
faulted_by context (first.Tables size guest) (second.Tables size' root) sure memory address kind old new fault serves =
    faulted (ReachesBoth (levels_of size) (levels_of size') memory guest.number root.number address kind) (StopsBoth (levels_of size) (levels_of size') memory guest.number root.number address kind) sure
    (both_key context address) old new fault (cached_for (old (both_key context address)) kind) serves
