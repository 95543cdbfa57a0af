-- The path from a table in hand, entry by entry.
use Rattle.std.proofs.Common.{◌≡◌, ◌≢◌, ◌⊎◌, ◌∙◌, inl, inr, ℕ, ◌+◌, ◌-◌, ◌*◌, ◌/◌, ◌%◌, ◌<◌, ◌==◌, Bool, true, false, List, map, slice_get, Option, Some, if◌then◌else◌, subst, refl, sym, ap, arith}
use Rattle.std.specs.Prelude.{IfSome}
use Rattle.std.proofs.lemmas.Bool.Decides.{eqb_tells}
use Rattle.iom_base.specs.Rights.{allows}
use Rattle.iom_base.specs.Sizes.{levels_of}
use Rattle.iom_base.specs.declared.access.AccessKind.{AccessKind}
use Rattle.iom_base.specs.declared.ppn.Ppn.{Ppn}
use Rattle.iom_base.specs.declared.rights.Rights.{Rights}
use Rattle.iom_stage_walk.specs.Entries.{entries, entry_read, slot}
use Rattle.iom_stage_walk.specs.Paths.{page_in, pages_spanned}
use Rattle.iom_stage_walk.specs.declared.entry.Entry.{Entry}
use Rattle.iom_stage_walk.specs.declared.entry.Entry.TheVariants.{Outside, Invalid, Pointer, Leaf as LeafEntry}
use Rattle.iom_stepped_walk.proofs.IndexLemmas.{indices_from_below, page_in_is, span_is}
use Rattle.iom_stepped_walk.specs.Hands.{hand_of}
use Rattle.iom_stepped_walk.specs.Indices.{index_at, indices_below, indices_from}
use Rattle.iom_stepped_walk.specs.declared.hand.SecondTables.{SecondTables}
use Rattle.iom_stepped_walk.specs.declared.hand.TableInHand.{TableInHand}
use Rattle.iom_stepped_walk.specs.declared.tables.TableWalk.{TableWalk}
use Rattle.iom_stepped_walk.specs.declared.tables.TableWalk.TheVariants.{InFirstStage, InSecondStage, ToGuestEntry, InGuestTable, ToGuestPage}
use Rattle.iom_reach.specs.Memory.{Found, Nothing, Leaf, WalkStep, Goes, ReadsFrame, Ends}
use Rattle.iom_reach.specs.Scene.{Mapping}
use Rattle.iom_reach.specs.Ways.{ServesKind}
use Rattle.iom_hardware_ways.proofs.FormatLemmas.{entry_there, indices_back}
use Rattle.iom_hardware_ways.specs.Formats.{word_in, step_at, index_of, found_leaf, found_entry, entry_format}
use Rattle.iom_table_survey.specs.Levels.{IsTable, IsMapped}
use Rattle.iom_table_survey.specs.Reaches.{AddsReach}
use Rattle.iom_table_survey.specs.Rows.{GrowsBy, IsInRun}
use Rattle.iom_table_survey.specs.declared.reach.Reach.{Reach}
use Rattle.iom_table_survey.proofs.AddLemmas.{adds_none, adds_same, adds_then, reach_none, reach_same}
use Rattle.iom_way_survey.specs.Walking.{IsOneThat, steps_in_hand, HandReads, HandLeads, span_in, MapsPage, SecondReads, SecondLeads}

-- the table in hand has a level that there is
pub hand_level : (walk : TableWalk) (found : Option TableInHand) (own : TableInHand) → found ≡ hand_of walk → found ≡ Some own → own.level < 4
hand_level walk found own is at = by walk (sym is ∙ at)
  where
    by : (walk : TableWalk) → hand_of walk ≡ Some own → own.level < 4
    by (InFirstStage asked place) same = let low = place.in_range in let e : place.level ≡ own.level = cc in omega (arith, low, e)
    by (InSecondStage asked place) same = let low = place.in_range in let e : place.level ≡ own.level = cc in omega (arith, low, e)
    by (ToGuestEntry both entry place) same = let low = place.in_range in let e : place.level ≡ own.level = cc in omega (arith, low, e)
    by (InGuestTable both entry frame) same = let no : ⊥ = cc in absurd no
    by (ToGuestPage both page place) same = let low = place.in_range in let e : place.level ≡ own.level = cc in omega (arith, low, e)

-- A LEAF

abbrev as_leaf : ℕ → Rights → Found Mapping
as_leaf frame rights = Leaf (record { frame = frame; rights = rights })

-- that of one frame, where it is aligned
pub leaf_mapped : (old new : Reach) (hand : TableInHand) (base : ℕ) (rights : Rights) (pages : ℕ) → pages ≡ span_in hand → base % pages ≡ 0
    → AddsReach old new (λ kind f. IsInRun (base + hand.page % pages) 1 f × (allows rights kind ≡ true)) → AddsReach old new (MapsPage hand base rights)
leaf_mapped old new hand base rights pages spans aligned adds =
    reach_same old new (λ kind f. IsInRun (base + hand.page % pages) 1 f × (allows rights kind ≡ true)) (MapsPage hand base rights) adds
    (λ kind f (whole, (at, allowed)). (run f (at ∙ ap (λ s. base + hand.page % s) (sym spans)), allowed))
    (λ kind f (within, allowed). (subst (λ s. base % s ≡ 0) spans aligned, (one f within ∙ ap (λ s. base + hand.page % s) spans, allowed)))
  where
    run : (f : ℕ) → f ≡ base + hand.page % pages → IsInRun (base + hand.page % pages) 1 f
    run f is = (omega (arith, is), omega (arith, is))

    one : (f : ℕ) → IsInRun (base + hand.page % pages) 1 f → f ≡ base + hand.page % pages
    one f (least, most) = omega (arith, least, most)

-- and none, where it isn't
pub leaf_crooked : (reach : Reach) (hand : TableInHand) (base : ℕ) (rights : Rights) (pages : ℕ) → pages ≡ span_in hand → base % pages ≢ 0
    → AddsReach reach reach (MapsPage hand base rights)
leaf_crooked reach hand base rights pages spans crooked = reach_none reach (MapsPage hand base rights) (λ kind f (aligned, at). crooked (subst (λ s. base % s ≡ 0) (sym spans) aligned))

-- AN ENTRY

module _ (memory : List (List ℕ)) (hand : TableInHand) where
  abbrev index : ℕ
  index = index_at hand.is_wide hand.level hand.page

  -- the steps that are left below it
  abbrev left : List WalkStep
  left = map step_at (indices_below hand.level hand.page)

  -- what is read below the entry, and where that ends
  abbrev ReadsOn : Entry → ℕ → Type 0
  ReadsOn e f = Goes (found_entry e left) (λ n. ReadsFrame entry_format (slice_get memory) n left f) (λ said. ⊥)

  abbrev EndsOn : Entry → Mapping → Type 0
  EndsOn e mapping = Goes (found_entry e left) (λ n. Ends entry_format (slice_get memory) n left mapping) (λ said. said ≡ mapping)

  abbrev IsEntry : Entry → Type 0
  IsEntry e = e ≡ entries memory (slot hand.table.number index)

  there : (e : Entry) → IsEntry e → e ≡ entry_read (word_in (slice_get memory (hand.table.number + index / 512)) (8 * (index % 512)))
  there e is = is ∙ entry_there memory hand.table.number index

  -- as the code reads it
  pub entry_is : (e : Entry) (number i : ℕ) → number ≡ hand.table.number → i ≡ index → e ≡ entries memory (slot number i) → IsEntry e
  entry_is e number i same at is = is ∙ ap (λ n. entries memory (slot n i)) same ∙ ap (λ j. entries memory (slot hand.table.number j)) at

  pub frame_is : (old new : List ℕ) (number i : ℕ) → number ≡ hand.table.number → i ≡ index → GrowsBy old new (λ f. f ≡ number + i / 512) → GrowsBy old new (λ f. f ≡ hand.table.number + index / 512)
  frame_is old new number i same at adds =
      subst (λ j. GrowsBy old new (λ f. f ≡ hand.table.number + j / 512)) at (subst (λ n. GrowsBy old new (λ f. f ≡ n + i / 512)) same adds)

  -- its frame is read, and what is read below it
  reads_by : (old one new : List ℕ) (e : Entry) (Next : ℕ → Type 0) → IsEntry e → ((f : ℕ) → ReadsOn e f → Next f) → ((f : ℕ) → Next f → ReadsOn e f)
      → GrowsBy old one (λ f. f ≡ hand.table.number + index / 512) → GrowsBy one new Next → GrowsBy old new (HandReads memory hand)
  reads_by old one new e Next is to from first rest =
      adds_same old new (λ f. (f ≡ hand.table.number + index / 512) ⊎ Next f) (HandReads memory hand)
      (adds_then old one new (λ f. f ≡ hand.table.number + index / 512) Next first rest) ahead back
    where
      ahead : (f : ℕ) → HandReads memory hand f → (f ≡ hand.table.number + index / 512) ⊎ Next f
      ahead f (inl here) = inl (sym here)
      ahead f (inr goes) = inr (to f (subst (λ x. ReadsOn x f) (sym (there e is)) goes))

      back : (f : ℕ) → (f ≡ hand.table.number + index / 512) ⊎ Next f → HandReads memory hand f
      back f (inl here) = inl (sym here)
      back f (inr next) = inr (subst (λ x. ReadsOn x f) (there e is) (from f next))

  leads_by : (old new : Reach) (e : Entry) (Next : AccessKind → ℕ → Type 0) → IsEntry e
      → ((kind : AccessKind) (f : ℕ) (mapping : Mapping) → EndsOn e mapping → ServesKind mapping f kind → Next kind f)
      → ((kind : AccessKind) (f : ℕ) → Next kind f → (mapping : Mapping) × EndsOn e mapping × ServesKind mapping f kind)
      → AddsReach old new Next → AddsReach old new (HandLeads memory hand)
  leads_by old new e Next is to from adds = reach_same old new Next (HandLeads memory hand) adds
      (λ kind f (mapping, ends, serves). to kind f mapping (subst (λ x. EndsOn x mapping) (sym (there e is)) ends) serves)
      (λ kind f next. let (mapping, ends, serves) = from kind f next in (mapping, subst (λ x. EndsOn x mapping) (there e is) ends, serves))

  -- AT A LEAF nothing further is read

  no_pointer : (b : Bool) (frame : ℕ) (rights : Rights) (On : ℕ → Type 0) → Goes (if b then as_leaf frame rights else Nothing) On (λ said. ⊥) → ⊥
  no_pointer true frame rights On never = never
  no_pointer false frame rights On never = never

  pub leaf_reads : (old new : List ℕ) (base : ℕ) (rights : Rights) → IsEntry (LeafEntry base rights) → GrowsBy old new (λ f. f ≡ hand.table.number + index / 512) → GrowsBy old new (HandReads memory hand)
  leaf_reads old new base rights is first = reads_by old new new (LeafEntry base rights) (λ f. ⊥) is
      (λ f goes. no_pointer (base % pages_spanned (map index_of left) == 0) (base + page_in (map index_of left)) rights (λ n. ReadsFrame entry_format (slice_get memory) n left f) goes)
      (λ f never. absurd never) first (adds_none new (λ f. ⊥) (λ f never. never))

  -- the page that it gives
  leaf_is : (base : ℕ) (rights : Rights) → hand.level < 4
      → found_leaf base rights (map index_of left) ≡ (if base % span_in hand == 0 then as_leaf (base + hand.page % span_in hand) rights else Nothing)
  leaf_is base rights low =
      ap (found_leaf base rights) (indices_back (indices_below hand.level hand.page))
      ∙ ap (λ (s : ℕ). if base % s == 0 then as_leaf (base + page_in (indices_below hand.level hand.page)) rights else Nothing) (span_is hand.level hand.page low)
      ∙ ap (λ (p : ℕ). if base % span_in hand == 0 then as_leaf (base + p) rights else Nothing) (page_in_is hand.level hand.page low)

  leaf_to : (base : ℕ) (rights : Rights) → hand.level < 4 → (kind : AccessKind) (f : ℕ) (mapping : Mapping) → EndsOn (LeafEntry base rights) mapping → ServesKind mapping f kind
      → MapsPage hand base rights kind f
  leaf_to base rights low kind f mapping ends serves =
      by (eqb_tells (base % span_in hand) 0) (subst (λ (x : Found Mapping). Goes x (λ n. Ends entry_format (slice_get memory) n left mapping) (λ said. said ≡ mapping)) (leaf_is base rights low) ends) serves
    where
      by : (((base % span_in hand == 0) ≡ true) × (base % span_in hand ≡ 0)) ⊎ (((base % span_in hand == 0) ≡ false) × (base % span_in hand ≢ 0))
          → Goes (if base % span_in hand == 0 then as_leaf (base + hand.page % span_in hand) rights else Nothing) (λ n. Ends entry_format (slice_get memory) n left mapping) (λ said. said ≡ mapping)
          → ServesKind mapping f kind → MapsPage hand base rights kind f
      by (inl whole) goes (at, allowed) =
          let said : ◌≡◌ {A = Mapping} (record { frame = base + hand.page % span_in hand; rights = rights }) mapping =
          subst (λ (b : Bool). Goes (if b then as_leaf (base + hand.page % span_in hand) rights else Nothing) (λ n. Ends entry_format (slice_get memory) n left mapping) (λ said. said ≡ mapping)) whole.0 goes in
          (whole.1, (sym (ap (λ (m : Mapping). m.frame) said ∙ at), ap (λ (m : Mapping). allows m.rights kind) said ∙ allowed))
      by (inr other) goes serves' =
          absurd (subst (λ (b : Bool). Goes (if b then as_leaf (base + hand.page % span_in hand) rights else Nothing) (λ n. Ends entry_format (slice_get memory) n left mapping) (λ said. said ≡ mapping)) other.0 goes)

  leaf_from : (base : ℕ) (rights : Rights) → hand.level < 4 → (kind : AccessKind) (f : ℕ) → MapsPage hand base rights kind f
      → (mapping : Mapping) × EndsOn (LeafEntry base rights) mapping × ServesKind mapping f kind
  leaf_from base rights low kind f (aligned, (at, allowed)) = (
    record { frame = base + hand.page % span_in hand; rights = rights },
    subst (λ (x : Found Mapping). Goes x (λ n. Ends entry_format (slice_get memory) n left (record { frame = base + hand.page % span_in hand; rights = rights })) (λ said. said ≡ record { frame = base + hand.page % span_in hand; rights = rights }))
        (sym (leaf_is base rights low ∙ ap (λ (b : Bool). if b then as_leaf (base + hand.page % span_in hand) rights else Nothing) (zero_is (base % span_in hand) aligned))) refl,
    (sym at, allowed),
  )
    where
      zero_is : (n : ℕ) → n ≡ 0 → (n == 0) ≡ true
      zero_is n is = ap (λ m. m == 0) is

  pub leaf_leads : (old new : Reach) (base : ℕ) (rights : Rights) → hand.level < 4 → IsEntry (LeafEntry base rights) → AddsReach old new (MapsPage hand base rights) → AddsReach old new (HandLeads memory hand)
  leaf_leads old new base rights low is adds = leads_by old new (LeafEntry base rights) (MapsPage hand base rights) is (leaf_to base rights low) (leaf_from base rights low) adds

  -- AT A POINTER the table that it names is the next in hand

  module _ (n : ℕ) (is : IsEntry (Pointer n)) (below : TableInHand) (named : below.table.number ≡ n) (lower : below.level ≡ hand.level - 1) (narrow : below.is_wide ≡ false)
      (same : below.page ≡ hand.page) (some : 0 < hand.level) where
    steps_below : steps_in_hand below ≡ left
    steps_below = ap (map step_at)
        (ap (λ w. indices_from w below.level below.page) narrow ∙ ap (λ l. indices_from false l below.page) lower ∙ ap (λ p. indices_from false (hand.level - 1) p) same
        ∙ sym (indices_from_below hand.level hand.page some))

    pub pointer_reads : (old one new : List ℕ) → GrowsBy old one (λ f. f ≡ hand.table.number + index / 512) → GrowsBy one new (HandReads memory below) → GrowsBy old new (HandReads memory hand)
    pointer_reads old one new first rest = reads_by old one new (Pointer n) (HandReads memory below) is
        (λ f goes. subst (λ t. ReadsFrame entry_format (slice_get memory) t (steps_in_hand below) f) (sym named)
        (subst (λ steps. ReadsFrame entry_format (slice_get memory) n steps f) (sym steps_below) goes))
        (λ f next. subst (λ steps. ReadsFrame entry_format (slice_get memory) n steps f) steps_below
        (subst (λ t. ReadsFrame entry_format (slice_get memory) t (steps_in_hand below) f) named next)) first rest

    pub pointer_leads : (old new : Reach) → AddsReach old new (HandLeads memory below) → AddsReach old new (HandLeads memory hand)
    pointer_leads old new adds = leads_by old new (Pointer n) (HandLeads memory below) is
        (λ kind f mapping ends serves. (
          mapping,
          subst (λ t. Ends entry_format (slice_get memory) t (steps_in_hand below) mapping) (sym named)
              (subst (λ steps. Ends entry_format (slice_get memory) n steps mapping) (sym steps_below) ends),
          serves,
        ))
        (λ kind f (mapping, ends, serves). (
          mapping,
          subst (λ steps. Ends entry_format (slice_get memory) n steps mapping) steps_below (subst (λ t. Ends entry_format (slice_get memory) t (steps_in_hand below) mapping) named ends),
          serves,
        )) adds

  -- EVERYWHERE ELSE the walk stops: at a pointer in a table of the lowest level, and where there is no entry
  module _ (e : Entry) (is : IsEntry e) (no_reads : (f : ℕ) → ReadsOn e f → ⊥) (no_ends : (mapping : Mapping) → EndsOn e mapping → ⊥) where
    stop_reads : (old new : List ℕ) → GrowsBy old new (λ f. f ≡ hand.table.number + index / 512) → GrowsBy old new (HandReads memory hand)
    stop_reads old new first = reads_by old new new e (λ f. ⊥) is no_reads (λ f never. absurd never) first (adds_none new (λ f. ⊥) (λ f never. never))

    stop_leads : (reach : Reach) → AddsReach reach reach (HandLeads memory hand)
    stop_leads reach = leads_by reach reach e (λ kind f. ⊥) is (λ kind f mapping ends serves. no_ends mapping ends) (λ kind f never. absurd never) (reach_none reach (λ kind f. ⊥) (λ kind f never. never))

  lowest_reads : (n : ℕ) → hand.level ≡ 0 → (f : ℕ) → ReadsOn (Pointer n) f → ⊥
  lowest_reads n lowest f reads = subst (λ l. ReadsFrame entry_format (slice_get memory) n (map step_at (indices_below l hand.page)) f) lowest reads

  lowest_ends : (n : ℕ) → hand.level ≡ 0 → (mapping : Mapping) → EndsOn (Pointer n) mapping → ⊥
  lowest_ends n lowest mapping ends = subst (λ l. Ends entry_format (slice_get memory) n (map step_at (indices_below l hand.page)) mapping) lowest ends

  pub lowest_stops : (n : ℕ) → IsEntry (Pointer n) → hand.level ≡ 0 → (old new : List ℕ) (reach : Reach) → GrowsBy old new (λ f. f ≡ hand.table.number + index / 512)
      → GrowsBy old new (HandReads memory hand) × AddsReach reach reach (HandLeads memory hand)
  lowest_stops n is lowest old new reach first =
      (stop_reads (Pointer n) is (lowest_reads n lowest) (lowest_ends n lowest) old new first, stop_leads (Pointer n) is (lowest_reads n lowest) (lowest_ends n lowest) reach)

  pub none_stops : (e : Entry) → IsEntry e → (e ≡ Invalid) ⊎ (e ≡ Outside) → (old new : List ℕ) (reach : Reach) → GrowsBy old new (λ f. f ≡ hand.table.number + index / 512)
      → GrowsBy old new (HandReads memory hand) × AddsReach reach reach (HandLeads memory hand)
  none_stops e is (inl same) old new reach first =
      (stop_reads Invalid (sym same ∙ is) (λ f never. never) (λ mapping never. never) old new first, stop_leads Invalid (sym same ∙ is) (λ f never. never) (λ mapping never. never) reach)
  none_stops e is (inr same) old new reach first =
      (stop_reads Outside (sym same ∙ is) (λ f never. never) (λ mapping never. never) old new first, stop_leads Outside (sym same ∙ is) (λ f never. never) (λ mapping never. never) reach)

-- the page that a number gives
pub number_of : (found : Option Ppn) (number : ℕ) (own : Ppn) → IfSome found (λ (ppn : Ppn). ppn.number ≡ number) → found ≡ Some own → own.number ≡ number
number_of found number own is at = subst (λ (o : Option Ppn). IfSome o (λ (ppn : Ppn). ppn.number ≡ number)) at is

-- WHERE THERE IS ONE

pub hand_reads : (memory : List (List ℕ)) (found : Option TableInHand) (own : TableInHand) (old new : List ℕ) → found ≡ Some own → GrowsBy old new (HandReads memory own)
    → GrowsBy old new (λ f. IsOneThat found (λ hand. HandReads memory hand f))
hand_reads memory found own old new is adds = subst (λ (o : Option TableInHand). GrowsBy old new (λ f. IsOneThat o (λ hand. HandReads memory hand f))) (sym is) adds

pub hand_leads : (memory : List (List ℕ)) (found : Option TableInHand) (own : TableInHand) (old new : Reach) → found ≡ Some own → AddsReach old new (HandLeads memory own)
    → AddsReach old new (λ kind f. IsOneThat found (λ hand. HandLeads memory hand kind f))
hand_leads memory found own old new is adds = subst (λ (o : Option TableInHand). AddsReach old new (λ kind f. IsOneThat o (λ hand. HandLeads memory hand kind f))) (sym is) adds

-- A SECOND STAGE TO COME

pub second_reads : (memory : List (List ℕ)) (second : Option SecondTables) (own : SecondTables) (number levels : ℕ) (old new : List ℕ) → second ≡ Some own → number ≡ own.root.number → levels ≡ levels_of own.size
    → GrowsBy old new (IsTable (entries memory) (IsInRun number 4) levels) → GrowsBy old new (λ f. IsOneThat second (λ s. SecondReads memory s f))
second_reads memory second own number levels old new is same many adds =
    subst (λ (o : Option SecondTables). GrowsBy old new (λ f. IsOneThat o (λ s. SecondReads memory s f))) (sym is)
    (subst (λ (n : ℕ). GrowsBy old new (IsTable (entries memory) (IsInRun n 4) (levels_of own.size))) same
    (subst (λ (l : ℕ). GrowsBy old new (IsTable (entries memory) (IsInRun number 4) l)) many adds))

pub second_leads : (memory : List (List ℕ)) (second : Option SecondTables) (own : SecondTables) (number levels : ℕ) (old new : Reach) → second ≡ Some own → number ≡ own.root.number → levels ≡ levels_of own.size
    → AddsReach old new (IsMapped (entries memory) (IsInRun number 4) levels) → AddsReach old new (λ kind f. IsOneThat second (λ s. SecondLeads memory s kind f))
second_leads memory second own number levels old new is same many adds =
    subst (λ (o : Option SecondTables). AddsReach old new (λ kind f. IsOneThat o (λ s. SecondLeads memory s kind f))) (sym is)
    (subst (λ (n : ℕ). AddsReach old new (IsMapped (entries memory) (IsInRun n 4) (levels_of own.size))) same
    (subst (λ (l : ℕ). AddsReach old new (IsMapped (entries memory) (IsInRun number 4) l)) many adds))
