-- A walk that stands in tables that stay ends as one that is made now.
use Rattle.std.proofs.Common.{◌≡◌, ℕ, ◌+◌, ◌*◌, ◌^◌, List, [], ◌∷◌, ◌++◌, length, replicate, None, Result, Ok, Err, if◌then◌else◌, sym, ap, ◌∙◌}
use Rattle.std.proofs.lemmas.Bool.{lt-ltb}
use Rattle.iom_base.specs.Causes.{guest_page_fault_of, page_fault_of}
use Rattle.iom_base.specs.Tables.{access_fault_of}
use Rattle.iom_base.specs.declared.access.AccessKind.{AccessKind}
use Rattle.iom_base.specs.declared.cause.Cause.{Cause}
use Rattle.iom_base.specs.declared.rights.Rights.{Rights}
use Rattle.iom_page_table.specs.Trees.{IsTableAt}
use Rattle.iom_stage_walk.specs.Entries.{entries, slot}
use Rattle.iom_stage_walk.specs.Paths.{first_path}
use Rattle.iom_stage_walk.specs.Second.{second_path}
use Rattle.iom_stage_walk.specs.Both.{plain}
use Rattle.iom_stage_walk.specs.declared.walked.Walked.{Walked}
use Rattle.iom_stage_walk.specs.declared.walked.WalkFault.{WalkFault}
use Rattle.iom_standing_walks.specs.Standing.{FirstEndsAsNow, SecondEndsAsNow}
use Rattle.iom_walk_loads.specs.Loads.{Ends, Walk, after_load, made_from}
use Rattle.iom_walk_loads.specs.Tables.{at_entry, down, first_rest, inside, lead_rest}
use Rattle.iom_walk_loads.proofs.LoadLemmas.{made_load}
use Rattle.iom_walk_loads.proofs.TableLemmas.{entries_are}

-- from the table in hand as from the root
down_now : {A : Type 0} (m : List (List ℕ)) (kind : AccessKind) (page access : Cause) (found : ℕ → Rights → ℕ → Walk A) (stopped : Cause → Walk A) (root table : ℕ) (done left : List ℕ)
    → IsTableAt (entries m) root done table → made_from m (down kind page access found stopped root (done ++ left)) ≡ made_from m (down kind page access found stopped table left)
down_now m kind page access found stopped root table [] left same = ap (λ t. made_from m (down kind page access found stopped t left)) (sym same)
down_now m kind page access found stopped root table (i ∷ done) left (next, at, rest) =
    ap (λ x. made_from m (at_entry kind page access found stopped (done ++ left) (λ n. down kind page access found stopped n (done ++ left)) x)) (sym (entries_are m (slot root i)) ∙ at)
    ∙ down_now m kind page access found stopped next table done left rest

-- what ends at a load is how it ends, all made now
ended_now : (m : List (List ℕ)) (walk : Walk (Result Walked WalkFault)) (answer : Result Walked WalkFault) → after_load m walk ≡ Ends answer → made_from m walk ≡ answer
ended_now m walk answer ends = sym (made_load m walk) ∙ ap (made_from m) ends

pub first_ends_as_now : FirstEndsAsNow
first_ends_as_now m levels root address kind table done left answer lawful path at ends =
    ap (λ b. made_from m (if b then first_rest (length m) kind root (first_path levels address) else Ends (Err (plain (page_fault_of kind))))) lawful
    ∙ ap (λ is. made_from m (first_rest (length m) kind root is)) path
    ∙ down_now m kind (page_fault_of kind) (access_fault_of kind) (inside (length m) (λ frame rights level. Ends (Ok (record { frame = frame; rights = rights; level = level; guest_frames = replicate 4 None }))) (Ends (Err (plain (access_fault_of kind)))))
    (λ cause. Ends (Err (plain cause))) root table done left at
    ∙ ended_now m (first_rest (length m) kind table left) answer ends

pub second_ends_as_now : SecondEndsAsNow
second_ends_as_now m levels root kind original found stopped address table done left answer small path at ends =
    ap (λ b. made_from m (if b then lead_rest (length m) kind original found stopped root (second_path levels address) else stopped (guest_page_fault_of original))) (lt-ltb address (2 ^ (9 * levels + 14)) small)
    ∙ ap (λ is. made_from m (lead_rest (length m) kind original found stopped root is)) path
    ∙ down_now m kind (guest_page_fault_of original) (access_fault_of original) (inside (length m) found (stopped (access_fault_of original))) stopped root table done left at
    ∙ ended_now m (lead_rest (length m) kind original found stopped table left) answer ends
