-- A walk through a guest's tables, made from one memory.
use Rattle.std.proofs.Common.{◌≡◌, ℕ, ◌+◌, ◌-◌, ◌%◌, ◌<◌, inl, inr, Bool, true, false, List, [], ◌∷◌, ◌++◌, length, Result, Err, if◌then◌else◌, refl, sym, subst, arith, append_assoc}
use Rattle.iom_base.specs.Causes.{page_fault_of}
use Rattle.iom_base.specs.declared.access.AccessKind.{AccessKind}
use Rattle.iom_base.specs.declared.access.AccessKind.TheVariants.{Read}
use Rattle.iom_base.specs.declared.rights.Rights.{Rights}
use Rattle.iom_stage_walk.proofs.Loads.{entry_inside}
use Rattle.iom_stage_walk.specs.Entries.{entries, slot}
use Rattle.iom_stage_walk.specs.Paths.{page_in}
use Rattle.iom_stage_walk.specs.Second.{LeadsTo, reported}
use Rattle.iom_stage_walk.specs.Both.{IsReadFrom, ReachesGuest, StopsGuest, entry_address, plain}
use Rattle.iom_stage_walk.specs.declared.entry.Entry.{Entry}
use Rattle.iom_stage_walk.specs.declared.entry.Entry.TheVariants.{Invalid, Leaf, Outside, Pointer}
use Rattle.iom_stage_walk.specs.declared.walked.Walked.{Walked}
use Rattle.iom_stage_walk.specs.declared.walked.WalkFault.{WalkFault}
use Rattle.iom_walk_loads.specs.Loads.{Ends, made_from}
use Rattle.iom_walk_loads.specs.Tables.{InBoth, at_guest_entry, faulted, guest_down, guest_load, is_lawful, page_walk, unread}
use Rattle.iom_walk_loads.proofs.TableLemmas.{entries_are, lawful_leaf, lead_made, unlawful_leaf}

-- what a walk in this memory is for
abbrev pub For : List (List ℕ) → ℕ → ℕ → ℕ → AccessKind → InBoth
For m levels second address kind = record { frames = length m; levels' = levels; second = second; address = address; kind = kind }

pub guest_made : (m : List (List ℕ)) (levels second address : ℕ) (kind : AccessKind) (P : Result Walked WalkFault → Type 0) (so_far : List ℕ) (table : ℕ) (is : List ℕ)
    → ((loaded : List ℕ) (page : ℕ) (given : Rights) → ReachesGuest levels m second kind table is loaded page given
    → P (made_from m (page_walk (For m levels second address kind) (so_far ++ loaded) page given (length is - length loaded))))
    → ((fault : WalkFault) → StopsGuest levels m second kind table is fault → P (made_from m (Ends (Err fault))))
    → P (made_from m (guest_down (For m levels second address kind) so_far table is))
guest_made m levels second address kind P so_far table [] ok err = err (plain (page_fault_of kind)) refl
guest_made m levels second address kind P so_far table (i ∷ below) ok err =
    lead_made m levels second Read kind P
    (λ frame rights level. guest_load w so_far table i below (λ next. guest_down w (so_far ++ frame ∷ []) next below) frame)
    (unread w table i) (entry_address (slot table i))
    (λ frame rights leads.
    subst (λ x. P (made_from m (at_guest_entry w (so_far ++ frame ∷ []) below (λ next. guest_down w (so_far ++ frame ∷ []) next below) x))) (entries_are m (slot frame (slot table i % 512)))
    (by frame rights leads (entries m (slot frame (slot table i % 512))) refl (λ next. guest_made m levels second address kind P (so_far ++ frame ∷ []) next below)))
    (λ cause nowhere. err (reported cause (entry_address (slot table i)) true) (inl (cause, nowhere, refl)))
  where
    w : InBoth
    w = For m levels second address kind

    below_leaf : (frame : ℕ) → length (i ∷ below) - length (frame ∷ []) ≡ length below
    below_leaf frame = omega arith

    levels_left : (frame : ℕ) (loaded : List ℕ) → length (i ∷ below) - length (frame ∷ loaded) ≡ length below - length loaded
    levels_left frame loaded = omega arith

    leaf : (frame base : ℕ) (rights : Rights) → IsReadFrom levels m second (slot table i) frame (Leaf base rights) → (b : Bool) → is_lawful kind base rights below ≡ b
        → P (made_from m (if b then page_walk w (so_far ++ frame ∷ []) (base + page_in below) rights (length below) else faulted w))
    leaf frame base rights read true is =
        subst (λ level. P (made_from m (page_walk w (so_far ++ frame ∷ []) (base + page_in below) rights level))) (below_leaf frame)
        (ok (frame ∷ []) (base + page_in below) rights (frame, Leaf base rights, read, inr (base, rights, refl, refl, lawful_leaf kind base rights below is)))
    leaf frame base rights read false is =
        err (plain (page_fault_of kind)) (inr (frame, Leaf base rights, read, inr (inr (base, rights, refl, unlawful_leaf kind base rights below is), refl)))

    by : (frame : ℕ) (rights : Rights) → LeadsTo levels m second (entry_address (slot table i)) Read frame rights → (x : Entry) → entries m (slot frame (slot table i % 512)) ≡ x
        → ((next : ℕ) → ((loaded : List ℕ) (page : ℕ) (given : Rights) → ReachesGuest levels m second kind next below loaded page given
        → P (made_from m (page_walk w ((so_far ++ frame ∷ []) ++ loaded) page given (length below - length loaded))))
        → ((fault : WalkFault) → StopsGuest levels m second kind next below fault → P (made_from m (Ends (Err fault))))
        → P (made_from m (guest_down w (so_far ++ frame ∷ []) next below)))
        → P (made_from m (at_guest_entry w (so_far ++ frame ∷ []) below (λ next. guest_down w (so_far ++ frame ∷ []) next below) x))
    by frame rights leads Outside at follow =
        let small : slot table i % 512 < 512 = omega arith in
        absurd (entry_inside m frame (slot table i % 512) leads.inside small at)
    by frame rights leads Invalid at follow = err (plain (page_fault_of kind)) (inr (frame, Invalid, (rights, leads, sym at), inr (inl refl, refl)))
    by frame rights leads (Pointer next) at follow =
        follow next (λ loaded page given guest. subst (λ all. P (made_from m (page_walk w all page given (length below - length loaded)))) (sym (append_assoc so_far (frame ∷ []) loaded))
        (subst (λ level. P (made_from m (page_walk w (so_far ++ frame ∷ loaded) page given level))) (levels_left frame loaded)
        (ok (frame ∷ loaded) page given (frame, Pointer next, (rights, leads, sym at), inl (next, loaded, refl, refl, guest)))))
        (λ fault stops. err fault (inr (frame, Pointer next, (rights, leads, sym at), inl (next, refl, stops))))
    by frame rights leads (Leaf base given) at follow = leaf frame base given (rights, leads, sym at) (is_lawful kind base given below) refl
