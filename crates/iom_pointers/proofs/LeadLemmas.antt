-- Where a walk leads from a table in hand, by the entry that stands there.
use Rattle.std.proofs.Common.{◌≡◌, ◌≢◌, ◌⊎◌, ◌∙◌, inl, inr, ℕ, ◌+◌, ◌-◌, ◌/◌, ◌%◌, ◌^◌, ◌<◌, ◌≤◌, ◌==◌, Bool, true, false, List, length, map, slice_get, Option, Some, None, if◌then◌else◌, subst, refl, sym, ap}
use Rattle.std.specs.Prelude.{IfSome, IfNone}
use Rattle.std.proofs.lemmas.Bool.Decides.{eqb_tells, leb_tells}
use Rattle.std.proofs.lemmas.List.{length-map}
use Rattle.std.proofs.lemmas.Option.{IfSome_then}
use Rattle.iom_base.specs.Rights.{allows}
use Rattle.iom_base.specs.Tables.{table_entries}
use Rattle.iom_base.specs.declared.access.AccessKind.{AccessKind}
use Rattle.iom_base.specs.declared.ppn.Ppn.{Ppn}
use Rattle.iom_base.specs.declared.rights.Rights.{Rights}
use Rattle.iom_napot.specs.Entries.{entries_in, leaf_order, order_in}
use Rattle.iom_stage_walk.specs.Entries.{slot}
use Rattle.iom_stage_walk.specs.Paths.{level_at, page_in}
use Rattle.iom_stage_walk.specs.declared.entry.Entry.{Entry}
use Rattle.iom_stage_walk.specs.declared.entry.Entry.TheVariants.{Outside, Invalid, Pointer, Leaf as LeafEntry}
use Rattle.iom_stepped_walk.proofs.IndexLemmas.{below_length, indices_from_below, page_in_is, span_is}
use Rattle.iom_stepped_walk.specs.Indices.{index_at, indices_below, indices_from}
use Rattle.iom_stepped_walk.specs.declared.hand.TableInHand.{TableInHand}
use Rattle.iom_reach.specs.Memory.{Found, Nothing, Leaf, WalkStep, Goes, Ends}
use Rattle.iom_reach.specs.Scene.{Mapping}
use Rattle.iom_hardware_ways.proofs.FormatLemmas.{indices_back}
use Rattle.iom_hardware_ways.specs.Formats.{step_at, index_of, format_of, found_leaf, found_entry}
use Rattle.iom_hardware_ways.specs.Scenes.{mapping_from, mapping_of}
use Rattle.iom_tlb.specs.declared.trans_cache.Translation.{Translation}
use Rattle.iom_pointers.proofs.FormatLemmas.{format_finds}
use Rattle.iom_pointers.specs.Walks.{EndsAt, IsLeafFor, LeadsNowhere, LeadsTo, indices_in, steps_in}

-- AN ENTRY

-- what is read of it by the numbers of the code is so by the table in hand
pub read_there : {X : Type 0} (own : ℕ → X) (hand : TableInHand) (x : X) (number i : ℕ) → number ≡ hand.table.number → i ≡ index_at hand.is_wide hand.level hand.page
    → x ≡ own (slot number i) → x ≡ own (slot hand.table.number (index_at hand.is_wide hand.level hand.page))
read_there own hand x number i same at is = is ∙ ap (λ n. own (slot n i)) same ∙ ap (λ j. own (slot hand.table.number j)) at

module _ (napot : Bool) (memory : List (List ℕ)) (hand : TableInHand) where
  abbrev index : ℕ
  index = index_at hand.is_wide hand.level hand.page

  -- the indices that are left below it, and the steps
  abbrev below_it : List ℕ
  below_it = indices_below hand.level hand.page

  abbrev left : List WalkStep
  left = map step_at below_it

  -- how many pages it spans
  abbrev pages : ℕ
  pages = table_entries ^ hand.level

  -- where a walk ends that finds this, and where one that finds the entry
  abbrev EndsFound : Found Mapping → Mapping → Type 0
  EndsFound found mapping = Goes found (λ n. Ends (format_of napot) (slice_get memory) n left mapping) (λ said. said ≡ mapping)

  abbrev EndsOn : Entry → Mapping → Type 0
  EndsOn e = EndsFound (found_entry e left)

  -- the entry there, and its order
  abbrev IsEntry : Entry → Type 0
  IsEntry e = e ≡ entries_in napot memory hand.level (slot hand.table.number index)

  abbrev IsOrder : ℕ → Type 0
  IsOrder order = order ≡ order_in napot memory hand.level (slot hand.table.number index)

  there : (e : Entry) → IsEntry e → found_entry e left ≡ format_of napot (slice_get memory (hand.table.number + index / 512)) (index % 512) left
  there e is =
      ap (λ x. found_entry x left) is
      ∙ sym (format_finds napot memory hand.table.number index hand.level left (length-map below_it step_at ∙ below_length hand.level hand.page))

  ends_to : (e : Entry) → IsEntry e → (mapping : Mapping) → EndsOn e mapping → EndsAt napot memory hand mapping
  ends_to e is mapping = subst (λ found. EndsFound found mapping) (there e is)

  ends_from : (e : Entry) → IsEntry e → (mapping : Mapping) → EndsAt napot memory hand mapping → EndsOn e mapping
  ends_from e is mapping = subst (λ found. EndsFound found mapping) (sym (there e is))

  -- the order of the leaf to which the entry leads
  abbrev order_on : Entry → ℕ → ℕ
  order_on e order = level_at e order (λ next. leaf_order napot memory next below_it)

  abbrev order_at : ℕ → ℕ
  order_at level = order_on (entries_in napot memory level (slot hand.table.number index)) (order_in napot memory level (slot hand.table.number index))

  order_is : (e : Entry) (order : ℕ) → IsEntry e → IsOrder order → order_on e order ≡ leaf_order napot memory hand.table.number (indices_in hand)
  order_is e order is ordered =
      ap (λ x. order_on x order) is
      ∙ ap (order_on (entries_in napot memory hand.level (slot hand.table.number index))) ordered
      ∙ ap order_at (sym (below_length hand.level hand.page))

  -- A LEAF

  abbrev gives : ℕ → Rights → Mapping
  gives base rights = mapping_from (base + hand.page % pages) rights

  abbrev found_if : Bool → ℕ → Rights → Found Mapping
  found_if aligned base rights = if aligned then Leaf (gives base rights) else Nothing

  -- the page that it gives
  leaf_is : (base : ℕ) (rights : Rights) → hand.level < 4 → found_leaf base rights (map index_of left) ≡ found_if (base % pages == 0) base rights
  leaf_is base rights low =
      ap (found_leaf base rights) (indices_back below_it)
      ∙ ap (λ (s : ℕ). if base % s == 0 then Leaf (mapping_from (base + page_in below_it) rights) else Nothing) (span_is hand.level hand.page low)
      ∙ ap (λ (p : ℕ). if base % pages == 0 then Leaf (mapping_from (base + p) rights) else Nothing) (page_in_is hand.level hand.page low)

  -- where it is aligned
  leaf_ends : (base : ℕ) (rights : Rights) → hand.level < 4 → base % pages ≡ 0 → EndsOn (LeafEntry base rights) (gives base rights)
  leaf_ends base rights low aligned =
      subst (λ found. EndsFound found (gives base rights)) (sym (leaf_is base rights low ∙ ap (λ (n : ℕ). found_if (n == 0) base rights) aligned)) refl

  -- and only there
  leaf_ended : (base : ℕ) (rights : Rights) → hand.level < 4 → (mapping : Mapping) → EndsOn (LeafEntry base rights) mapping → (base % pages ≡ 0) × (gives base rights ≡ mapping)
  leaf_ended base rights low mapping ends = by (eqb_tells (base % pages) 0) (subst (λ found. EndsFound found mapping) (leaf_is base rights low) ends)
    where
      by : (((base % pages == 0) ≡ true) × (base % pages ≡ 0)) ⊎ (((base % pages == 0) ≡ false) × (base % pages ≢ 0)) → EndsFound (found_if (base % pages == 0) base rights) mapping
          → (base % pages ≡ 0) × (gives base rights ≡ mapping)
      by (inl whole) goes = (whole.1, subst (λ (b : Bool). EndsFound (found_if b base rights) mapping) whole.0 goes)
      by (inr other) goes = absurd (subst (λ (b : Bool). EndsFound (found_if b base rights) mapping) other.0 goes)

  module _ (base : ℕ) (rights : Rights) (order : ℕ) (kind : AccessKind) (frames : ℕ) (low : hand.level < 4) (is : IsEntry (LeafEntry base rights)) (ordered : IsOrder order)
      (all : frames ≡ length memory) where
    leaf_to : (translation : Translation) → IsLeafFor hand base rights order kind frames translation → LeadsTo napot memory hand kind translation
    leaf_to translation leaf = record {
      ends = ends_to (LeafEntry base rights) is (mapping_of translation)
          (subst (λ mapping. EndsOn (LeafEntry base rights) mapping) (ap (λ f. mapping_from f rights) (sym leaf.frame_is) ∙ ap (mapping_from translation.frame) (sym leaf.rights_are))
          (leaf_ends base rights low leaf.aligned));
      allowed = ap (λ (r : Rights). allows r kind) leaf.rights_are ∙ leaf.allowed;
      inside = subst (λ n. translation.frame < n) all leaf.inside;
      order = leaf.order_is ∙ order_is (LeafEntry base rights) order is ordered;
    }

    leaf_nowhere : ((translation : Translation) → ¬ IsLeafFor hand base rights order kind frames translation) → LeadsNowhere napot memory hand kind
    leaf_nowhere none mapping ends =
        let (aligned, given) = leaf_ended base rights low mapping (ends_from (LeafEntry base rights) is mapping ends) in
        by (allows rights kind) refl aligned given
      where
        by : (b : Bool) → allows rights kind ≡ b → base % pages ≡ 0 → gives base rights ≡ mapping → (allows mapping.rights kind ≡ false) ⊎ (length memory ≤ mapping.frame)
        by false denied aligned given = inl (ap (λ (m : Mapping). allows m.rights kind) (sym given) ∙ denied)
        by true allowed aligned given = elim (leb_tells (length memory) mapping.frame) [
          | inl outside ↦ inr outside.1
          | inr inside ↦ absurd (none (record { frame = mapping.frame; rights = mapping.rights; order = order }) (record {
            aligned = aligned;
            allowed = allowed;
            inside = subst (λ n. mapping.frame < n) (sym all) inside.1;
            frame_is = ap (λ (m : Mapping). m.frame) (sym given);
            rights_are = ap (λ (m : Mapping). m.rights) (sym given);
            order_is = refl;
          }))
        ]

    pub leaf_leads : (found : Option Translation) → IfSome found (IsLeafFor hand base rights order kind frames) → IfSome found (LeadsTo napot memory hand kind)
    leaf_leads found some = IfSome_then found some leaf_to

    pub leaf_leads_nowhere : (found : Option Translation) → IfNone found ((translation : Translation) → ¬ IsLeafFor hand base rights order kind frames translation) → IfNone found (LeadsNowhere napot memory hand kind)
    leaf_leads_nowhere None none = leaf_nowhere none
    leaf_leads_nowhere (Some translation) none = tt

  -- A POINTER: the table that it names is the next in hand

  module _ (kind : AccessKind) (n : ℕ) (is : IsEntry (Pointer n)) (below : TableInHand) (named : below.table.number ≡ n) (lower : below.level ≡ hand.level - 1)
      (narrow : below.is_wide ≡ false) (same : below.page ≡ hand.page) (some : 0 < hand.level) where
    indices_are : indices_in below ≡ below_it
    indices_are =
        ap (λ w. indices_from w below.level below.page) narrow ∙ ap (λ l. indices_from false l below.page) lower ∙ ap (λ p. indices_from false (hand.level - 1) p) same
        ∙ sym (indices_from_below hand.level hand.page some)

    ends_below : (mapping : Mapping) → EndsAt napot memory below mapping → EndsOn (Pointer n) mapping
    ends_below mapping ends =
        subst (λ is. Ends (format_of napot) (slice_get memory) n (map step_at is) mapping) indices_are (subst (λ t. Ends (format_of napot) (slice_get memory) t (steps_in below) mapping) named ends)

    ends_above : (mapping : Mapping) → EndsOn (Pointer n) mapping → EndsAt napot memory below mapping
    ends_above mapping ends =
        subst (λ t. Ends (format_of napot) (slice_get memory) t (steps_in below) mapping) (sym named)
        (subst (λ is. Ends (format_of napot) (slice_get memory) n (map step_at is) mapping) (sym indices_are) ends)

    pointer_to : (translation : Translation) → LeadsTo napot memory below kind translation → LeadsTo napot memory hand kind translation
    pointer_to translation leads = record {
      ends = ends_to (Pointer n) is (mapping_of translation) (ends_below (mapping_of translation) leads.ends);
      allowed = leads.allowed;
      inside = leads.inside;
      order = leads.order ∙ ap (λ t. leaf_order napot memory t (indices_in below)) named ∙ ap (leaf_order napot memory n) indices_are
          ∙ order_is (Pointer n) (order_in napot memory hand.level (slot hand.table.number index)) is refl;
    }

    pub pointer_leads : (found : Option Translation) → IfSome found (LeadsTo napot memory below kind) → IfSome found (LeadsTo napot memory hand kind)
    pointer_leads found some = IfSome_then found some pointer_to

    pub pointer_leads_nowhere : (found : Option Translation) → IfNone found (LeadsNowhere napot memory below kind) → IfNone found (LeadsNowhere napot memory hand kind)
    pointer_leads_nowhere None nowhere = λ mapping ends. nowhere mapping (ends_above mapping (ends_from (Pointer n) is mapping ends))
    pointer_leads_nowhere (Some translation) nowhere = tt

  -- EVERYWHERE ELSE the walk ends at no leaf: at a pointer in a table of the lowest level, and where there is no entry

  pub lowest_leads_nowhere : (kind : AccessKind) (n : ℕ) → IsEntry (Pointer n) → hand.level ≡ 0 → LeadsNowhere napot memory hand kind
  lowest_leads_nowhere kind n is lowest mapping ends =
      absurd (subst (λ l. Ends (format_of napot) (slice_get memory) n (map step_at (indices_below l hand.page)) mapping) lowest (ends_from (Pointer n) is mapping ends))

  pub none_leads_nowhere : (kind : AccessKind) (e : Entry) → IsEntry e → (e ≡ Invalid) ⊎ (e ≡ Outside) → LeadsNowhere napot memory hand kind
  none_leads_nowhere kind e is (inl same) mapping ends = absurd (ends_from Invalid (sym same ∙ is) mapping ends)
  none_leads_nowhere kind e is (inr same) mapping ends = absurd (ends_from Outside (sym same ∙ is) mapping ends)

-- the page that a number gives
pub number_of : (found : Option Ppn) (number : ℕ) (own : Ppn) → IfSome found (λ (ppn : Ppn). ppn.number ≡ number) → found ≡ Some own → own.number ≡ number
number_of found number own is at = subst (λ (o : Option Ppn). IfSome o (λ (ppn : Ppn). ppn.number ≡ number)) at is
