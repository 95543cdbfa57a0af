-- The table at which the walk of a request begins: a walk of the address space may begin there.
use Rattle.std.proofs.Common.{◌≡◌, ◌⊎◌, inl, inr, ℕ, ◌+◌, ◌*◌, ◌/◌, ◌%◌, ◌^◌, ◌<◌, List, [], ◌∷◌, map, Bool, true, false, nat_lt, replicate, Option, None, Some, option_map, refl, sym, ap, subst, arith}
use Rattle.std.specs.Prelude.{IfSome, IfNone}
use Rattle.std.proofs.lemmas.List.{length-replicate}
use Rattle.std.proofs.lemmas.Option.{cond_some, none-some, same_Some}
use Rattle.iom_base.specs.Sizes.{levels_of}
use Rattle.iom_base.specs.Tables.{table_entries}
use Rattle.iom_base.specs.declared.device_kind.DeviceKind.{DeviceKind}
use Rattle.iom_base.specs.declared.ppn.Ppn.{Ppn}
use Rattle.iom_base.specs.declared.size.Size.{Size}
use Rattle.iom_base.specs.declared.size.Size.TheVariants.{Sv39, Sv48}
use Rattle.iom_board.specs.BoardParts.{BoardParts}
use Rattle.iom_device.specs.Caches.{kind_in}
use Rattle.iom_device_dir.specs.declared.context.Context.{Context as DeviceContext}
use Rattle.iom_device_dir.specs.declared.stages.FirstStage.{FirstStage}
use Rattle.iom_device_dir.specs.declared.stages.FirstStage.TheVariants as first
use Rattle.iom_device_dir.specs.declared.stages.SecondStage.{SecondStage}
use Rattle.iom_device_dir.specs.declared.stages.SecondStage.TheVariants as second
use Rattle.iom_device_dir.specs.declared.values.GuestRoot.{GuestRoot}
use Rattle.iom_hardware_ways.specs.Formats.{context_of, stages_in, step_at, steps_along, steps_in}
use Rattle.iom_hardware_ways.specs.Scenes.{ats_kind}
use Rattle.iom_iommu.specs.Stages.{space_through}
use Rattle.iom_pointer_ways.specs.Scenes.{pointed_scene}
use Rattle.iom_pointers.specs.Walks.{LeadsNowhere, LeadsTo, steps_in as steps_in_hand}
use Rattle.iom_pointers.specs.declared.pointer.Pointer.{Pointer}
use Rattle.iom_reach.specs.Memory.{Tables}
use Rattle.iom_reach.specs.Scene.{Stages, FirstStage as InFirst, SecondStage as InSecond}
use Rattle.iom_reach.specs.Ways.{AtRoot, MayFind, WalkBegins, space_of, tables_of}
use Rattle.iom_stepped_requests.specs.declared.request.Request.{Request}
use Rattle.iom_stepped_walk.specs.Indices.{indices_below, width_of}
use Rattle.iom_stepped_walk.specs.declared.hand.TableInHand.{TableInHand}
use Rattle.iom_stepped_ways.specs.Scenes.{address_space}
use Rattle.iom_tlb.specs.declared.space.Space.{Space}
use Rattle.iom_tlb.specs.declared.space.Space.TheVariants as space
use Rattle.iom_tlb.specs.declared.trans_cache.Translation.{Translation}
use Rattle.iom_walk_loads.specs.Tables.{is_canonical}
use Rattle.iom_walk_stops.specs.Stages.{page_of, stages_of}
use Rattle.iom_way_survey.proofs.BackLemmas.{may_find}
use Rattle.iom_way_survey.proofs.BesideLemmas.{no_walks}
use Rattle.iom_way_survey.specs.Found.{cached_found, stored_found}
use Rattle.iom_pointed_board.proofs.WalkedLemmas.{one_walked}
use Rattle.iom_pointed_board.specs.Roots.{cached_or, hand_in, root_by}
use Rattle.iom_pointed_board.specs.Starts.{IsFoundFromRoot, Walks}

-- THE ROOT OF A CONTEXT'S TABLES

-- the table is the root of the tables that these stages walk, and what is found there is kept in the address space
record IsRootOf (stages : Stages) (own : Space) (root : TableInHand) : Type 0 where
  pub tables : Tables
  pub space : space_of stages ≡ Some (address_space own)
  pub decide : tables_of stages ≡ Some tables
  pub table : tables.root ≡ root.table.number
  pub steps : steps_along (width_of root.is_wide ∷ replicate root.level table_entries) ≡ steps_in stages
  pub low : root.level < 4

first_root : (size : Size) (root : Ppn) (pscid address : ℕ)
    → IsRootOf (InFirst pscid (record { root = root.number; levels = levels_of size })) (space.First pscid) (hand_in root (levels_of size) false address)
first_root Sv39 root pscid address =
    record { tables = record { root = root.number; levels = 3 }; space = refl; decide = refl; table = refl; steps = refl; low = omega arith }
first_root Sv48 root pscid address =
    record { tables = record { root = root.number; levels = 4 }; space = refl; decide = refl; table = refl; steps = refl; low = omega arith }

second_root : (size : Size) (root : GuestRoot) (gscid address : ℕ)
    → IsRootOf (InSecond gscid (record { root = root.number; levels = levels_of size })) (space.Second gscid) (hand_in (page_of root) (levels_of size) true address)
second_root Sv39 root gscid address =
    record { tables = record { root = root.number; levels = 3 }; space = refl; decide = refl; table = refl; steps = refl; low = omega arith }
second_root Sv48 root gscid address =
    record { tables = record { root = root.number; levels = 4 }; space = refl; decide = refl; table = refl; steps = refl; low = omega arith }

root_by_stages : (f : FirstStage) (s : SecondStage) (context : DeviceContext) (own : Space) (address : ℕ) (root : TableInHand) → space_through f s context ≡ Some own
    → root_by (stages_of f s) address ≡ Some root → IsRootOf (stages_in f s context.gscid context.pscid.number) own root
root_by_stages first.Bare second.Bare context own address root of is = absurd (none-some root is)
root_by_stages (first.Tables size table) second.Bare context own address root of is =
    let stages = stages_in (first.Tables size table) second.Bare context.gscid context.pscid.number in
    subst (λ s. IsRootOf stages s root) (same_Some (space.First context.pscid.number) own of)
    (subst (IsRootOf stages (space.First context.pscid.number)) (cond_some (is_canonical (levels_of size) address) (hand_in table (levels_of size) false address) root is).1
    (first_root size table context.pscid.number address))
root_by_stages first.Bare (second.Tables size table) context own address root of is =
    let stages = stages_in first.Bare (second.Tables size table) context.gscid context.pscid.number in
    subst (λ s. IsRootOf stages s root) (same_Some (space.Second context.gscid) own of)
    (subst (IsRootOf stages (space.Second context.gscid))
    (cond_some (nat_lt address (2 ^ (9 * levels_of size + 14))) (hand_in (page_of table) (levels_of size) true address) root is).1
    (second_root size table context.gscid address))
root_by_stages (first.Tables first_size guest) (second.Tables size table) context own address root of is = absurd (none-some root is)

-- of a request that walks it is the root in hand
root_of_walk : (parts : BoardParts) (request : Request) (own : Space) (root : TableInHand) (walks : Walks parts request own root)
    → IsRootOf (context_of walks.context).stages own root
root_of_walk parts request own root walks =
    root_by_stages walks.context.first_stage walks.context.second_stage walks.context own request.asked.address root walks.space walks.root_is

-- A WALK MAY BEGIN AT THE ROOT

-- the context that is found for a device that is plugged in
one_of_both : (cached stored : Option DeviceContext) (context : DeviceContext) → cached_or cached stored ≡ Some context
    → (cached ≡ Some context) ⊎ (stored ≡ Some context)
one_of_both None stored context is = inr is
one_of_both (Some own) stored context is = inl is

found_context : (napot : Bool) (trusted : ℕ → Bool) (parts : BoardParts) (pointers : List Pointer) (id : ℕ) (kind : DeviceKind) (context : DeviceContext)
    → kind_in parts.devices id ≡ Some kind → cached_or (cached_found parts id) (stored_found parts id) ≡ Some context
    → MayFind (pointed_scene napot trusted parts pointers) id (context_of context)
found_context napot trusted parts pointers id kind context plugged found =
    -- among requests of which none is under way
    may_find trusted parts [] no_walks id context (ats_kind kind, ap (option_map ats_kind) plugged)
    (inl (one_of_both (cached_found parts id) (stored_found parts id) context found))

pub root_begins : (napot : Bool) (trusted : ℕ → Bool) (parts : BoardParts) (pointers : List Pointer) (request : Request) (own : Space) (root : TableInHand) (kind : DeviceKind)
    → kind_in parts.devices request.device ≡ Some kind → Walks parts request own root
    → WalkBegins (pointed_scene napot trusted parts pointers) (address_space own) root.table.number
    (steps_along (width_of root.is_wide ∷ replicate root.level table_entries))
root_begins napot trusted parts pointers request own root kind plugged walks =
    let of = root_of_walk parts request own root walks in
    AtRoot request.device (context_of walks.context) of.tables (found_context napot trusted parts pointers request.device kind walks.context plugged walks.found)
    of.space of.decide of.table of.steps

-- the steps from there to the page
pub root_steps : (root : TableInHand) → steps_in_hand root ≡ steps_along (width_of root.is_wide ∷ replicate root.level table_entries) root.page
root_steps root =
    ap (λ n. map step_at (root.page / table_entries ^ n % width_of root.is_wide ∷ indices_below root.level root.page))
    (sym (length-replicate {A = ℕ} root.level table_entries))

-- the root's level is one that tables have
pub root_is_low : (parts : BoardParts) (request : Request) (own : Space) (root : TableInHand) → Walks parts request own root → root.level < 4
root_is_low parts request own root walks = (root_of_walk parts request own root walks).low

-- WHAT A REQUEST FINDS FROM THE ROOT

pub found_by : (parts : BoardParts) (request : Request) (own : Space) (root : TableInHand) → Walks parts request own root → (found : Option Translation)
    → IfSome found (LeadsTo true parts.memory root request.asked.kind) → IfNone found (LeadsNowhere true parts.memory root request.asked.kind)
    → IsFoundFromRoot parts request found
found_by parts request own root walks None leads nowhere = λ other another also.
    subst (λ (hand : TableInHand). LeadsNowhere true parts.memory hand request.asked.kind) (one_walked parts request own other root another walks also).1 nowhere
found_by parts request own root walks (Some translation) leads nowhere = (own, root, walks, leads)

pub found_none : (parts : BoardParts) (request : Request) (found : Option Translation) → found ≡ None → ((own : Space) (root : TableInHand) → ¬ Walks parts request own root)
    → IsFoundFromRoot parts request found
found_none parts request found is no_walk = subst (IsFoundFromRoot parts request) (sym is) (λ own root walks. absurd (no_walk own root walks))
