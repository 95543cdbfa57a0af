-- What is looked for is a way: none is invented.
use Rattle.std.proofs.Common.{◌≡◌, ◌⊎◌, ◌∙◌, inl, inr, ℕ, zero, suc, Bool, true, false, ◌&&◌, List, [], ◌∷◌, map, slice_get, Contains, Option, None, Some, option_map, Result, Ok, Err, if◌then◌else◌, subst, refl, sym, ap}
use Rattle.std.proofs.lemmas.Bool.{false≢true}
use Rattle.std.proofs.lemmas.Bool.Decides.{eqb_tells}
use Rattle.iom_ats_cache.specs.Cache.{Cache}
use Rattle.iom_base.specs.declared.access.AccessKind.{AccessKind}
use Rattle.iom_base.specs.declared.cause.Cause.{Cause}
use Rattle.iom_base.specs.declared.device_kind.DeviceKind.{DeviceKind}
use Rattle.iom_base.specs.declared.device_kind.DeviceKind.TheVariants as kinds
use Rattle.iom_base.specs.declared.size.Size.TheVariants.{Sv39, Sv48}
use Rattle.iom_device.specs.Caches.{device_with, cache_in, epoch_of}
use Rattle.iom_device.specs.declared.device.Device.{Device}
use Rattle.iom_device_dir.specs.Located.{located_by_mode}
use Rattle.iom_device_dir.specs.Paths.{fits_directory}
use Rattle.iom_device_dir.specs.declared.context.Context.{Context as DeviceContext}
use Rattle.iom_device_dir.specs.declared.stages.FirstStage.{FirstStage as First}
use Rattle.iom_device_dir.specs.declared.stages.FirstStage.TheVariants as first
use Rattle.iom_device_dir.specs.declared.stages.SecondStage.{SecondStage as Second}
use Rattle.iom_device_dir.specs.declared.stages.SecondStage.TheVariants as second
use Rattle.iom_fabric.specs.declared.message.Message.{Message as Sent}
use Rattle.iom_fabric.specs.declared.message.Message.TheVariants as sent
use Rattle.iom_fabric.specs.declared.message.Translation.TheVariants as reply
use Rattle.iom_board.specs.BoardParts.{BoardParts}
use Rattle.iom_inflight.specs.declared.made.MadeAt.{MadeAt}
use Rattle.iom_inflight.specs.Flights.{NumberedAccess, FlightRow, row_of, waiting_at, made_at}
use Rattle.iom_iommu.specs.Parts.{registers_of, contexts_of, translation_cache_of, translations_of, flights_of}
use Rattle.iom_iommu.specs.Stages.{space_through}
use Rattle.iom_reach.specs.Memory.{Tables}
use Rattle.iom_reach.specs.Safe.{IsOfTables}
use Rattle.iom_reach.specs.Scene.{Mapping, AddressSpace, First as InFirst, Second as InSecond, Both as InBoth, NoStage, At, Message, Answer, PendingAccess, HardwareScene, HasDevice}
use Rattle.iom_reach.specs.Ways.{ServesKind, space_of, MayFind, IsKept, LetsThrough, AtRoot, IsInSpace, Through, ByAts as ThroughAts, Untranslated, Translated, Way, Accepted, AnyFrame, ByContext}
use Rattle.iom_registers.specs.declared.directory.DirectoryMode.{DirectoryMode}
use Rattle.iom_registers.specs.declared.directory.DirectoryMode.TheVariants as mode
use Rattle.iom_registers.specs.Queues.{directory_root}
use Rattle.iom_hardware_ways.specs.Formats.{steps_in, stages_in, context_of}
use Rattle.iom_hardware_ways.specs.Scenes.{directory_by, ats_kind, cached_space, mapping_of, mapping_from, kept_entry, kept_entries, said_on, message_of, flight_of, flights_in}
use Rattle.iom_hardware_ways.proofs.FormatLemmas.{located_in}
use Rattle.iom_hardware_ways.proofs.ListLemmas.{contains_map, get_contains}
use Rattle.iom_hardware_ways.proofs.PageIndices.{sizes_have_indices}
use Rattle.iom_tlb.specs.declared.space.Space.{Space}
use Rattle.iom_tlb.specs.declared.space.Space.TheVariants as space
use Rattle.iom_way_survey.specs.Found.{has_directory, mode_in, cached_found, stored_found, sought_found, Finds, space_of_context, HaveTableIn, HaveLeafIn, FoundTable, SpaceTable, TablesThrough, TablesFound, SomeTable, FoundLeaf, IsCachedIn, InSpace, AnswersSo, IsAnsweredAmong, IsInCache, LetsKind, ThroughSpace, ThroughFound, IsThatAccess, LookedUpWay, RequestWay, WayOf}
use Rattle.std.proofs.lemmas.List.Elements.{Contains-append_left, Contains-append_right}
use Rattle.iom_hardware_ways.specs.Formats.{indices_from}
use Rattle.iom_reach.specs.Ways.{WalkBegins, PartWay, OnTheWalk}
use Rattle.iom_stepped_requests.specs.declared.request.Request.{Request}
use Rattle.iom_stepped_requests.specs.declared.walk.RequestWalk.TheVariants.{InDirectory, InTables}
use Rattle.iom_stepped_requests.specs.declared.walk.Serving.{Serving}
use Rattle.iom_stepped_requests.specs.declared.walk.Serving.TheVariants.{GoesOn, Served}
use Rattle.iom_stepped_walk.specs.Directories.{directory_rest}
use Rattle.iom_stepped_walk.specs.declared.directory.DirectoryWalk.{DirectoryWalk}
use Rattle.iom_stepped_walk.specs.declared.tables.TableWalk.{TableWalk}
use Rattle.iom_stepped_ways.specs.Scenes.{access_on, added_of, address_space, stepped_scene}
use Rattle.iom_walk_loads.specs.Directory.{directory_walk}
use Rattle.iom_walk_loads.specs.Loads.{made_from}
use Rattle.iom_walks.specs.Invariant.{AreWalks}
use Rattle.iom_walks.specs.Walks.{WalkRow}
use Rattle.iom_way_survey.proofs.SoughtLemmas.{made_ends}
use Rattle.iom_way_survey.proofs.TreeLemmas.{levels_are_walks}
use Rattle.iom_way_survey.proofs.UnderWayLemmas.{access_added, leads_part, locating_added, part_added, reads_part, space_named_back}
use Rattle.iom_way_survey.specs.Walking.{found_of, serving_of, sought_by, WalkLeads, WalkReads, WalksSo}
use Rattle.iom_way_survey.proofs.WayLemmas.{StagesLead, StagesRead, spaces_by, none_is_some}

-- A CONTEXT'S TABLES

pub leaf_leads : (napot : Bool) (memory : List (List ℕ)) (f : First) (s : Second) (g p : ℕ) (kind : AccessKind) (frame : ℕ) → HaveLeafIn napot memory f s kind frame → StagesLead napot memory (stages_in f s g p) kind frame
leaf_leads napot memory first.Bare second.Bare g p kind frame never = absurd never
leaf_leads napot memory (first.Tables Sv39 root) second.Bare g p kind frame leaf =
    let (mapping, leads, serves) = ((levels_are_walks napot memory root.number 1 2 (sizes_have_indices Sv39).0).1 kind frame).0 leaf in (record { root = root.number; levels = 3 }, mapping, refl, (leads, serves))
leaf_leads napot memory (first.Tables Sv48 root) second.Bare g p kind frame leaf =
    let (mapping, leads, serves) = ((levels_are_walks napot memory root.number 1 3 (sizes_have_indices Sv48).0).1 kind frame).0 leaf in (record { root = root.number; levels = 4 }, mapping, refl, (leads, serves))
leaf_leads napot memory first.Bare (second.Tables Sv39 root) g p kind frame leaf =
    let (mapping, leads, serves) = ((levels_are_walks napot memory root.number 4 2 (sizes_have_indices Sv39).1).1 kind frame).0 leaf in (record { root = root.number; levels = 3 }, mapping, refl, (leads, serves))
leaf_leads napot memory first.Bare (second.Tables Sv48 root) g p kind frame leaf =
    let (mapping, leads, serves) = ((levels_are_walks napot memory root.number 4 3 (sizes_have_indices Sv48).1).1 kind frame).0 leaf in (record { root = root.number; levels = 4 }, mapping, refl, (leads, serves))
leaf_leads napot memory (first.Tables size own) (second.Tables Sv39 root) g p kind frame leaf =
    let (mapping, leads, serves) = ((levels_are_walks napot memory root.number 4 2 (sizes_have_indices Sv39).1).1 kind frame).0 leaf in (record { root = root.number; levels = 3 }, mapping, refl, (leads, serves))
leaf_leads napot memory (first.Tables size own) (second.Tables Sv48 root) g p kind frame leaf =
    let (mapping, leads, serves) = ((levels_are_walks napot memory root.number 4 3 (sizes_have_indices Sv48).1).1 kind frame).0 leaf in (record { root = root.number; levels = 4 }, mapping, refl, (leads, serves))

pub table_reads : (napot : Bool) (memory : List (List ℕ)) (f : First) (s : Second) (g p : ℕ) (frame : ℕ) → HaveTableIn napot memory f s frame → StagesRead napot memory (stages_in f s g p) frame
table_reads napot memory first.Bare second.Bare g p frame never = absurd never
table_reads napot memory (first.Tables Sv39 root) second.Bare g p frame table =
    let (page, reads) = ((levels_are_walks napot memory root.number 1 2 (sizes_have_indices Sv39).0).0 frame).0 table in (record { root = root.number; levels = 3 }, page, refl, reads)
table_reads napot memory (first.Tables Sv48 root) second.Bare g p frame table =
    let (page, reads) = ((levels_are_walks napot memory root.number 1 3 (sizes_have_indices Sv48).0).0 frame).0 table in (record { root = root.number; levels = 4 }, page, refl, reads)
table_reads napot memory first.Bare (second.Tables Sv39 root) g p frame table =
    let (page, reads) = ((levels_are_walks napot memory root.number 4 2 (sizes_have_indices Sv39).1).0 frame).0 table in (record { root = root.number; levels = 3 }, page, refl, reads)
table_reads napot memory first.Bare (second.Tables Sv48 root) g p frame table =
    let (page, reads) = ((levels_are_walks napot memory root.number 4 3 (sizes_have_indices Sv48).1).0 frame).0 table in (record { root = root.number; levels = 4 }, page, refl, reads)
table_reads napot memory (first.Tables size own) (second.Tables Sv39 root) g p frame table =
    let (page, reads) = ((levels_are_walks napot memory root.number 4 2 (sizes_have_indices Sv39).1).0 frame).0 table in (record { root = root.number; levels = 3 }, page, refl, reads)
table_reads napot memory (first.Tables size own) (second.Tables Sv48 root) g p frame table =
    let (page, reads) = ((levels_are_walks napot memory root.number 4 3 (sizes_have_indices Sv48).1).0 frame).0 table in (record { root = root.number; levels = 4 }, page, refl, reads)

-- an address space by its other name
abbrev name_of : Space → AddressSpace
name_of (space.First pscid) = InFirst pscid
name_of (space.Second gscid) = InSecond gscid
name_of (space.Both gscid pscid) = InBoth gscid pscid

name_back : (s : AddressSpace) → name_of (cached_space s) ≡ s
name_back (InFirst pscid) = refl
name_back (InSecond gscid) = refl
name_back (InBoth gscid pscid) = refl

space_back : (f : First) (s : Second) (context : DeviceContext) (own : Space) → space_through f s context ≡ Some own
    → (known : AddressSpace) × (space_of (stages_in f s context.gscid context.pscid.number) ≡ Some known) × (cached_space known ≡ own)
space_back f s context own is = by (space_of (stages_in f s context.gscid context.pscid.number)) refl
  where
    by : (found : Option AddressSpace) → space_of (stages_in f s context.gscid context.pscid.number) ≡ found
        → (known : AddressSpace) × (space_of (stages_in f s context.gscid context.pscid.number) ≡ Some known) × (cached_space known ≡ own)
    by None e = absurd (none_is_some own (ap (option_map cached_space) (sym e) ∙ spaces_by f s context ∙ is))
    by (Some known) e = (known, e, (let same : Some (cached_space known) ≡ Some own = ap (option_map cached_space) (sym e) ∙ spaces_by f s context ∙ is in cc))

none_back : (f : First) (s : Second) (context : DeviceContext) → space_through f s context ≡ None → stages_in f s context.gscid context.pscid.number ≡ NoStage
none_back first.Bare second.Bare context is = refl
none_back (first.Tables size root) second.Bare context is = absurd (cc)
none_back first.Bare (second.Tables size root) context is = absurd (cc)
none_back (first.Tables size root) (second.Tables size' root') context is = absurd (cc)

-- DEVICES

-- where a device stands, one with its id is found
pub found_with : (devices : List Device) (k : ℕ) (device : Device) → slice_get devices k ≡ Some device → (own : Device) × (device_with devices device.id ≡ Some own)
found_with [] k device at = absurd (none_is_some device at)
found_with (first ∷ others) zero device at =
    let same : Some first ≡ Some device = at in
    let e : first ≡ device = cc in
    elim (eqb_tells first.id device.id) [
      | inl is ↦ (first, rw is.0 refl)
      | inr ne ↦ absurd (ne.1 (ap (λ (d : Device). d.id) e))
    ]
found_with (first ∷ others) (suc k) device at = elim (eqb_tells first.id device.id) [
  | inl is ↦ (first, rw is.0 refl)
  | inr ne ↦ let (own, found) = found_with others k device at in (own, rw ne.0 found)
]

at_of : (m : DirectoryMode) (root : ℕ) → has_directory m ≡ true → (tables : Tables) × (directory_by m root ≡ At tables)
at_of mode.Off root is = absurd (false≢true is)
at_of mode.Bare root is = absurd (false≢true is)
at_of mode.OneLevel root is = (record { root = root; levels = 1 }, refl)
at_of mode.TwoLevels root is = (record { root = root; levels = 2 }, refl)
at_of mode.ThreeLevels root is = (record { root = root; levels = 3 }, refl)

ok_of : (result : Result DeviceContext Cause) (own : DeviceContext) → found_of result ≡ Some own → result ≡ Ok own
ok_of (Ok context) own is = let same : Some context ≡ Some own = is in let e : context ≡ own = cc in ap (λ c. Ok c) e
ok_of (Err cause) own is = absurd (none_is_some own is)

both_true : (a b : Bool) (cached : Option DeviceContext) (own : DeviceContext) → (if a && b then cached else None) ≡ Some own → (a ≡ true) × ((b ≡ true) × (cached ≡ Some own))
both_true true true cached own is = (refl, (refl, is))
both_true true false cached own is = absurd (none_is_some own is)
both_true false b cached own is = absurd (none_is_some own is)

-- a context is sought by a request that is on its way through the directory
on_its_way : (memory : List (List ℕ)) (serving : Option Serving) (own : DeviceContext) → sought_by memory serving ≡ Some own
    → (request : Request) × (anew : Bool) × (stands : DirectoryWalk) × ((serving ≡ Some (GoesOn (InDirectory request anew stands)))
    × (made_from memory (directory_walk stands.level stands.page.number stands.id) ≡ Ok own))
on_its_way memory None own is = absurd (none_is_some own is)
on_its_way memory (Some (GoesOn (InDirectory request anew stands))) own is = (request, anew, stands, (refl, ok_of (made_from memory (directory_rest stands)) own is))
on_its_way memory (Some (GoesOn (InTables request context kept_in walk))) own is = absurd (none_is_some own is)
on_its_way memory (Some (Served answer)) own is = absurd (none_is_some own is)

module _ (trusted : ℕ → Bool) (parts : BoardParts) (rows : List WalkRow) (walks : AreWalks rows) where
  abbrev S : HardwareScene
  S = stepped_scene trusted parts rows

  pub has : (id : ℕ) (device : Device) → device_with parts.devices id ≡ Some device → HasDevice S id
  has id device at = (ats_kind device.kind, ap (λ (found : Option Device). option_map ats_kind (option_map (λ (d : Device). d.kind) found)) at)

  kind_is : (id : ℕ) (device : Device) (own : DeviceKind) → device_with parts.devices id ≡ Some device → device.kind ≡ own → S.kind_of id ≡ Some (ats_kind own)
  kind_is id device own at is = ap (λ (found : Option Device). option_map ats_kind (option_map (λ (d : Device). d.kind) found)) at ∙ ap (λ k. Some (ats_kind k)) is

  pub may_find : (id : ℕ) (own : DeviceContext) → HasDevice S id → Finds parts rows id own → MayFind S id (context_of own)
  may_find id own device (inl (inl is)) =
      let (some, (fits, cached)) = both_true (has_directory (mode_in parts)) (fits_directory (mode_in parts) id) (contexts_of parts.iommu id) own is in (
        device,
        inl (
          at_of (mode_in parts) (directory_root (registers_of parts.iommu)) some,
          inl (ap (λ (b : Bool). if b then option_map context_of (contexts_of parts.iommu id) else None) fits ∙ ap (option_map context_of) cached),
        ),
      )
  may_find id own device (inl (inr is)) =
      let (tables, at, ends) = located_in (mode_in parts) parts.memory (directory_root (registers_of parts.iommu)) id own
      (ok_of (located_by_mode (mode_in parts) parts.memory (directory_root (registers_of parts.iommu)) id) own is) in
      (device, inl ((tables, at), inr (tables, at, ends)))
  may_find id own device (inr is) =
      let (request, anew, stands, (serves, made)) = on_its_way parts.memory (serving_of rows id) own is in (
        device,
        inr (
          stands.page.number,
          indices_from stands.level stands.id,
          locating_added rows walks id request anew stands serves,
          made_ends parts.memory stands.level stands.page.number stands.id own made,
        ),
      )

  -- ADDRESS SPACES

  leaf_found : (s : AddressSpace) (own : Space) (id : ℕ) (found : Option DeviceContext) (kind : AccessKind) (frame : ℕ) → cached_space s ≡ own → HasDevice S id
      → ((context : DeviceContext) → found ≡ Some context → Finds parts rows id context) → FoundLeaf parts.memory own found kind frame → IsInSpace S s frame kind
  leaf_found s own id None kind frame named device finds never = absurd never
  leaf_found s own id (Some context) kind frame named device finds (is, leaf) =
      let (tables, mapping, decide, (leads, serves)) = leaf_leads false parts.memory context.first_stage context.second_stage context.gscid context.pscid.number kind frame leaf in
      let (known, of, same) = space_back context.first_stage context.second_stage context own is in
      let e : s ≡ known = sym (name_back s) ∙ ap name_of (named ∙ sym same) ∙ name_back known in
      inr (
        tables.root,
        steps_in (context_of context).stages,
        mapping,
        AtRoot id (context_of context) tables (may_find id context device (finds context refl)) (of ∙ ap (λ x. Some x) (sym e)) decide refl refl,
        leads,
        serves,
      )

  -- what is cached of a space, by either name
  cached_back : (s : AddressSpace) (own : Space) (kind : AccessKind) (frame : ℕ) → cached_space s ≡ own → IsCachedIn (translation_cache_of parts.iommu) own kind frame → IsInSpace S s frame kind
  cached_back s own kind frame named (cached, is, (same, serves)) =
      inl (
        cached.page,
        mapping_of cached.translation,
        ap (λ (x : Space). option_map mapping_of (translations_of parts.iommu (x, cached.page))) (named ∙ sym same) ∙ ap (option_map mapping_of) is,
        serves,
      )

  space_way : (s : AddressSpace) (own : Space) (kind : AccessKind) (frame : ℕ) → cached_space s ≡ own → InSpace parts rows own kind frame → IsInSpace S s frame kind
  space_way s own kind frame named (inl cached) = cached_back s own kind frame named cached
  space_way s own kind frame named (inr (k, low, (device, at, inl (inl leaf)))) =
      let (first, found) = found_with parts.devices k device at in
      leaf_found s own device.id (cached_found parts device.id) kind frame named (has device.id first found) (λ context is. inl (inl is)) leaf
  space_way s own kind frame named (inr (k, low, (device, at, inl (inr leaf)))) =
      let (first, found) = found_with parts.devices k device at in
      leaf_found s own device.id (stored_found parts device.id) kind frame named (has device.id first found) (λ context is. inl (inr is)) leaf
  space_way s own kind frame named (inr (k, low, (device, at, inr (inl leaf)))) =
      let (first, found) = found_with parts.devices k device at in
      leaf_found s own device.id (sought_found parts rows device.id) kind frame named (has device.id first found) (λ context is. inr is) leaf
  space_way s own kind frame named (inr (k, low, (device, at, inr (inr leads)))) =
      let (kept_in, stands, (is, led), all) = part_added rows walks device.id (λ kept walk. (kept ≡ own) × WalkLeads parts.memory walk kind frame) leads in
      let (part, among, (mapping, leads', serves)) = leads_part parts.memory stands kind frame led in
      let same : address_space kept_in ≡ s = sym (name_back (address_space kept_in)) ∙ ap name_of (space_named_back kept_in ∙ is ∙ sym named) ∙ name_back s in
      inr (
        part.table,
        part.steps_to,
        mapping,
        subst (λ (x : AddressSpace). WalkBegins S x part.table part.steps_to) same (PartWay (Some device.id) (all part among)),
        leads',
        serves,
      )

  -- EN_ATS

  entry_way : (device : Device) (cache : Option Cache) (kind : AccessKind) (frame : ℕ) → device_with parts.devices device.id ≡ Some device → device.cache ≡ cache → IsInCache cache kind frame
      → (page : ℕ) × (mapping : Mapping) × (IsKept S device.id page mapping × ServesKind mapping frame kind)
  entry_way device None kind frame at is never = absurd never
  entry_way device (Some cache) kind frame at is (k, low, (entry, here, serves)) = (
    entry.page,
    mapping_from entry.frame entry.rights,
    (inl (subst (λ (c : Option Cache). Contains (kept_entries c) (kept_entry entry)) (sym (ap cache_in at ∙ is)) (contains_map kept_entry cache.entries entry (get_contains cache.entries k entry here))), serves),
  )

  told_way : (id epoch device : ℕ) (message : Sent) (kind : AccessKind) (frame : ℕ) → device ≡ id → AnswersSo epoch message kind frame
      → (page : ℕ) × (mapping : Mapping) × ((said_on device message ≡ Answer id epoch page mapping) × ServesKind mapping frame kind)
  told_way id epoch device (sent.Ask asked page) kind frame link never = absurd never
  told_way id epoch device (sent.Answer asked page (reply.Page own rights)) kind frame link (same, serves) =
      (page, mapping_from own rights, (ap (λ (d : ℕ). Answer d asked page (mapping_from own rights)) link ∙ ap (λ (e : ℕ). Answer id e page (mapping_from own rights)) same, serves))
  told_way id epoch device (sent.Answer asked page (reply.Refused cause)) kind frame link never = absurd never
  told_way id epoch device (sent.InvReq serial range) kind frame link never = absurd never
  told_way id epoch device (sent.InvDone serial) kind frame link never = absurd never

  kept_way : (device : Device) (kind : AccessKind) (frame : ℕ) → device_with parts.devices device.id ≡ Some device
      → IsInCache device.cache kind frame ⊎ IsAnsweredAmong device.id (epoch_of device.cache) parts.fabric kind frame
      → (page : ℕ) × (mapping : Mapping) × (IsKept S device.id page mapping × ServesKind mapping frame kind)
  kept_way device kind frame at (inl entry) = entry_way device device.cache kind frame at refl entry
  kept_way device kind frame at (inr (k, low, (on, here, (link, answers)))) =
      let (page, mapping, (is, serves)) = told_way device.id (epoch_of device.cache) on.device on.message kind frame link answers in (
        page,
        mapping,
        (
          inr (
            epoch_of device.cache,
            subst (λ (m : Message). Contains (map message_of parts.fabric) m) is (contains_map message_of parts.fabric on (get_contains parts.fabric k on here)),
            ap (λ (found : Option Device). epoch_of (cache_in found)) (sym at),
          ),
          serves,
        ),
      )

  lets_way : (own : DeviceKind) (device : Device) (kind : AccessKind) (frame : ℕ) → device.kind ≡ own → device_with parts.devices device.id ≡ Some device → LetsKind own parts.fabric device kind frame
      → LetsThrough S device.id frame kind
  lets_way kinds.Raw device kind frame is at so = inl (kind_is device.id device kinds.Raw at is)
  lets_way kinds.Ats device kind frame is at keeps = let (page, mapping, (kept, serves)) = kept_way device kind frame at keeps in inr (kind_is device.id device kinds.Ats at is, (page, mapping, kept, serves))
  lets_way kinds.CachedBlock device kind frame is at keeps =
      let (page, mapping, (kept, serves)) = kept_way device kind frame at keeps in inr (kind_is device.id device kinds.CachedBlock at is, (page, mapping, kept, serves))
  lets_way kinds.Block device kind frame is at never = absurd never

  -- CONTEXTS

  through_way : (device : Device) (own : DeviceContext) (kind : AccessKind) (frame : ℕ) → device_with parts.devices device.id ≡ Some device → (found : Option Space) → space_of_context own ≡ found
      → ThroughSpace parts rows found kind frame → Through S device.id (context_of own) frame kind
  through_way device own kind frame at None is so = Untranslated (none_back own.first_stage own.second_stage own is)
  through_way device own kind frame at (Some s) is reached =
      let (known, of, same) = space_back own.first_stage own.second_stage own s is in
      Translated known of (space_way known s kind frame same reached)

  found_way : (device : Device) (found : Option DeviceContext) (kind : AccessKind) (frame : ℕ) → device_with parts.devices device.id ≡ Some device
      → ((context : DeviceContext) → found ≡ Some context → Finds parts rows device.id context) → ThroughFound parts rows device found kind frame → Way S device.id frame kind
  found_way device None kind frame at finds never = absurd never
  found_way device (Some own) kind frame at finds (inl (through, let_ats)) =
      ByContext (context_of own) (may_find device.id own (has device.id device at) (finds own refl)) (ThroughAts let_ats (lets_way device.kind device kind frame refl at through))
  found_way device (Some own) kind frame at finds (inr reached) =
      ByContext (context_of own) (may_find device.id own (has device.id device at) (finds own refl)) (through_way device own kind frame at (space_of_context own) refl reached)

  -- ACCESSES IN FLIGHT

  abbrev made_of : ℕ → NumberedAccess → MadeAt
  made_of device own = made_at device own.accepted

  made_back : (device : ℕ) (waiting : List NumberedAccess) (k : ℕ) (found : Option NumberedAccess) (kind : AccessKind) (frame : ℕ) → slice_get waiting k ≡ found
      → IsThatAccess (option_map (made_of device) found) kind frame → Contains (map flight_of waiting) (record { frame = frame; kind = kind })
  made_back device waiting k None kind frame at never = absurd never
  made_back device waiting k (Some access) kind frame at (is, same) =
      subst (λ (p : PendingAccess). Contains (map flight_of waiting) p)
      (ap (λ (f : ℕ). record { frame = f; kind = access.accepted.access.kind }) (sym is) ∙ ap (λ (x : AccessKind). record { frame = frame; kind = x }) (sym same))
      (contains_map flight_of waiting access (get_contains waiting k access at))

  flight_back : (row : Option FlightRow) (k : ℕ) (kind : AccessKind) (frame : ℕ) → IsThatAccess (waiting_at row k) kind frame → Contains (flights_in row) (record { frame = frame; kind = kind })
  flight_back None k kind frame never = absurd never
  flight_back (Some row) k kind frame made = made_back row.device row.waiting k (slice_get row.waiting k) kind frame refl made

  -- NO WAY IS INVENTED

  looked_up_way : (device : Device) (frame : ℕ) (kind : AccessKind) → device_with parts.devices device.id ≡ Some device → LookedUpWay parts rows device kind frame → Way S device.id frame kind
  looked_up_way device frame kind at (inl (inl (inl (inl (k, low, made))))) =
      Accepted (Contains-append_left (flights_in (row_of (flights_of parts.iommu).rows device.id)) ((added_of rows).let_through device.id) (access_on frame kind)
      (flight_back (row_of (flights_of parts.iommu).rows device.id) k kind frame made))
  looked_up_way device frame kind at (inl (inl (inl (inr lets)))) =
      Accepted (Contains-append_right (flights_in (row_of (flights_of parts.iommu).rows device.id)) ((added_of rows).let_through device.id) (access_on frame kind)
      (access_added rows walks device.id frame kind lets))
  looked_up_way device frame kind at (inl (inl (inr bare))) = AnyFrame (has device.id device at) (ap (λ (m : DirectoryMode). directory_by m (directory_root (registers_of parts.iommu))) bare)
  looked_up_way device frame kind at (inl (inr cached)) = found_way device (cached_found parts device.id) kind frame at (λ context is. inl (inl is)) cached
  looked_up_way device frame kind at (inr stored) = found_way device (stored_found parts device.id) kind frame at (λ context is. inl (inr is)) stored

  request_way : (device : Device) (frame : ℕ) (kind : AccessKind) → device_with parts.devices device.id ≡ Some device → RequestWay parts rows device kind frame → Way S device.id frame kind
  request_way device frame kind at (inl sought) = found_way device (sought_found parts rows device.id) kind frame at (λ context is. inr is) sought
  request_way device frame kind at (inr leads) =
      let (kept_in, stands, led, all) = part_added rows walks device.id (λ kept walk. WalkLeads parts.memory walk kind frame) leads in
      let (part, among, (mapping, leads', serves)) = leads_part parts.memory stands kind frame led in
      OnTheWalk (address_space kept_in) part.table part.steps_to mapping (all part among) leads' serves

  pub way_back : (device : Device) (frame : ℕ) (kind : AccessKind) → device_with parts.devices device.id ≡ Some device → WayOf parts rows device kind frame → Way S device.id frame kind
  way_back device frame kind at (inl way) = looked_up_way device frame kind at way
  way_back device frame kind at (inr way) = request_way device frame kind at way

  -- TABLES

  table_found : (s : Space) (id : ℕ) (found : Option DeviceContext) (frame : ℕ) → HasDevice S id → ((context : DeviceContext) → found ≡ Some context → Finds parts rows id context)
      → FoundTable parts.memory s found frame → IsOfTables S frame
  table_found s id None frame device finds never = absurd never
  table_found s id (Some context) frame device finds (is, table) =
      let (tables, page, decide, reads) = table_reads false parts.memory context.first_stage context.second_stage context.gscid context.pscid.number frame table in
      let (known, of, same) = space_back context.first_stage context.second_stage context s is in
      (known, tables.root, steps_in (context_of context).stages, page, AtRoot id (context_of context) tables (may_find id context device (finds context refl)) of decide refl refl, reads)

  -- those that a request walks
  walk_table : (id frame : ℕ) (Is : Space → TableWalk → Type 0) → ((kept : Space) (walk : TableWalk) → Is kept walk → WalkReads parts.memory walk frame) → WalksSo (serving_of rows id) Is → IsOfTables S frame
  walk_table id frame Is reads so =
      let (kept_in, stands, is, all) = part_added rows walks id Is so in
      let (part, among, (page, read)) = reads_part parts.memory stands frame (reads kept_in stands is) in
      (address_space kept_in, part.table, part.steps_to, page, PartWay (Some id) (all part among), read)

  space_table : (s : Space) (frame : ℕ) → SpaceTable parts rows s frame → IsOfTables S frame
  space_table s frame (k, low, (device, at, inl (inl table))) =
      let (own, found) = found_with parts.devices k device at in
      table_found s device.id (cached_found parts device.id) frame (has device.id own found) (λ context is. inl (inl is)) table
  space_table s frame (k, low, (device, at, inl (inr table))) =
      let (own, found) = found_with parts.devices k device at in
      table_found s device.id (stored_found parts device.id) frame (has device.id own found) (λ context is. inl (inr is)) table
  space_table s frame (k, low, (device, at, inr (inl table))) =
      let (own, found) = found_with parts.devices k device at in
      table_found s device.id (sought_found parts rows device.id) frame (has device.id own found) (λ context is. inr is) table
  space_table s frame (k, low, (device, at, inr (inr reads))) =
      walk_table device.id frame (λ kept walk. (kept ≡ s) × WalkReads parts.memory walk frame) (λ kept walk (is, read). read) reads

  through_table : (found : Option Space) (frame : ℕ) → TablesThrough parts rows found frame → IsOfTables S frame
  through_table None frame never = absurd never
  through_table (Some s) frame table = space_table s frame table

  tables_of_found : (found : Option DeviceContext) (frame : ℕ) → TablesFound parts rows found frame → IsOfTables S frame
  tables_of_found None frame never = absurd never
  tables_of_found (Some context) frame table = through_table (space_of_context context) frame table

  pub tables_back : (frame : ℕ) → SomeTable parts rows frame → IsOfTables S frame
  tables_back frame (k, low, (device, at, inl (inl cached))) = tables_of_found (cached_found parts device.id) frame cached
  tables_back frame (k, low, (device, at, inl (inr stored))) = tables_of_found (stored_found parts device.id) frame stored
  tables_back frame (k, low, (device, at, inr (inl sought))) = tables_of_found (sought_found parts rows device.id) frame sought
  tables_back frame (k, low, (device, at, inr (inr reads))) = walk_table device.id frame (λ kept walk. WalkReads parts.memory walk frame) (λ kept walk read. read) reads
