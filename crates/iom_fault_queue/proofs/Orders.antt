-- What puts and takes do to the list, and what runs of them do.
use Rattle.std.proofs.Common.{◌≡◌, ◌==◌, ◌++◌, ◌∙◌, ℕ, Bool, true, false, List, [], ◌∷◌, Option, Some, None, if◌then◌else◌, refl, sym, ap, append_assoc, append-nil}
use Rattle.std.specs.Option.{option_to_list}
use Rattle.iom_registers.specs.Queues.{fault_entries, fault_head, fault_tail, next_index, is_fault_queue_marked, with_fqmf, with_fqof}
use Rattle.iom_registers.specs.Table.{written}
use Rattle.iom_registers.specs.declared.registers.Registers.{Registers}
use Rattle.iom_registers.specs.declared.register.Register.{Register}
use Rattle.iom_registers.specs.declared.register.Register.TheVariants.{Fqh}
use Rattle.iom_fault_queue.specs.declared.entry.Entry.{Entry}
use Rattle.iom_fault_queue.specs.declared.ring.Put.{Put}
use Rattle.iom_fault_queue.specs.declared.ring.Put.TheVariants.{Written, Overflow, Off}
use Rattle.iom_fault_queue.specs.Fields.{Fields}
use Rattle.iom_fault_queue.specs.Ring.{records_in, is_full, is_tail_outside, record_at, record_place}
use Rattle.iom_fault_queue.specs.Calls.{PutsRecord, after_put, moved_on, TakesEntry}
use Rattle.iom_fault_queue.specs.Laws.{QueueStep, put, take, beside, StepsQueue, RunsQueue, written_by, taken_by}
use Rattle.iom_fault_queue.proofs.Lists.{appends, drops, differ, unchanged, same_queue}

-- a queue that takes a record isn't full
has_room : (marked full outside : Bool) (r a b : Registers) → (if marked then Some r else if full then Some a else if outside then Some b else None) ≡ None → full ≡ false
has_room true full outside r a b none = cc
has_room false true outside r a b none = cc
has_room false false outside r a b none = refl

-- what dropping leaves shows the same list
dropped_list : (m : List (List ℕ)) (r s : Registers) (marked full outside : Bool)
    → (if marked then Some r else if full then Some (with_fqof r) else if outside then Some (with_fqmf r) else None) ≡ Some s → records_in m s ≡ records_in m r
dropped_list m r s true full outside is = let e : s ≡ r = cc in ap (records_in m) e
dropped_list m r s false true outside is = let e : s ≡ with_fqof r = cc in ap (records_in m) e ∙ same_queue m r (with_fqof r) refl refl refl
dropped_list m r s false false true is = let e : s ≡ with_fqmf r = cc in ap (records_in m) e ∙ same_queue m r (with_fqmf r) refl refl refl
dropped_list m r s false false false is = let bad : None ≡ Some s = is in cc

pub puts_list : (m : List (List ℕ)) (r : Registers) (f : Fields) (put : Put) (new : List (List ℕ)) (s : Registers)
    → PutsRecord m r f put new s → records_in new s ≡ after_put put f (records_in m r)
puts_list m r f Written new s puts =
    ap (records_in new) puts.3 ∙ appends m new r f (has_room (is_fault_queue_marked r) (is_full r) (is_tail_outside m r) r (with_fqof r) (with_fqmf r) puts.1) puts.2
puts_list m r f Overflow new s puts =
    ap (λ n. records_in n s) puts.2 ∙ dropped_list m r s (is_fault_queue_marked r) (is_full r) (is_tail_outside m r) puts.1
puts_list m r f Off new s puts = ap (λ n. records_in n s) puts.1 ∙ ap (records_in m) puts.2

-- what was taken is the first of the list, and the others are left
taken_first : (m : List (List ℕ)) (r : Registers) (found : Option Entry) (same : Bool) → (fault_head r == fault_tail r) ≡ same
    → found ≡ (if same then None else Some (record_at m (record_place r (fault_head r))))
    → records_in m r ≡ option_to_list found ++ records_in m (moved_on (written r) r found r)
taken_first m r None same test is = refl
taken_first m r (Some e) true test is = let bad : Some e ≡ None = is in cc
taken_first m r (Some e) false test is =
    let first : record_at m (record_place r (fault_head r)) ≡ e = cc in
    drops m r (differ (fault_head r) (fault_tail r) test)
    ∙ ap (λ x. x ∷ records_in m (written r Fqh (next_index (fault_entries r) (fault_head r)))) first

-- the registers of what is left
moved_registers : {X : Type 0} (registers : X → Registers) (after : X → Register → ℕ → X)
    → ((x : X) (r : Register) (value : ℕ) → registers (after x r value) ≡ written (registers x) r value)
    → (old : X) (found : Option Entry) → registers (moved_on (after old) (registers old) found old) ≡ moved_on (written (registers old)) (registers old) found (registers old)
moved_registers registers after law old None = refl
moved_registers registers after law old (Some e) = law old Fqh (next_index (fault_entries (registers old)) (fault_head (registers old)))

pub takes_list : {X : Type 0} (registers : X → Registers) (after : X → Register → ℕ → X)
    → ((x : X) (r : Register) (value : ℕ) → registers (after x r value) ≡ written (registers x) r value)
    → (m : List (List ℕ)) (old : X) (found : Option Entry) (new : X) → TakesEntry registers after m old found new
    → records_in m (registers old) ≡ option_to_list found ++ records_in m (registers new)
takes_list registers after law m old found new takes =
    taken_first m (registers old) found (fault_head (registers old) == fault_tail (registers old)) refl takes.0
    ∙ ap (λ r. option_to_list found ++ records_in m r) (sym (ap registers takes.1 ∙ moved_registers registers after law old found))

-- a step gives the list what it wrote and takes from it what it took
step_list : (m : List (List ℕ)) (r : Registers) (step : QueueStep) (new : List (List ℕ)) (s : Registers) → StepsQueue m r step new s
    → records_in m r ++ written_by (step ∷ []) ≡ taken_by (step ∷ []) ++ records_in new s
step_list m r (put f Written) new s happens = sym (puts_list m r f Written new s happens)
step_list m r (put f Overflow) new s happens = append-nil (records_in m r) ∙ sym (puts_list m r f Overflow new s happens)
step_list m r (put f Off) new s happens = append-nil (records_in m r) ∙ sym (puts_list m r f Off new s happens)
step_list m r (take None) new s happens =
    append-nil (records_in m r) ∙ takes_list {X = Registers} (λ x. x) written (λ x q v. refl) m r None s happens.1 ∙ ap (λ n. records_in n s) (sym happens.0)
step_list m r (take (Some e)) new s happens =
    append-nil (records_in m r) ∙ takes_list {X = Registers} (λ x. x) written (λ x q v. refl) m r (Some e) s happens.1 ∙ ap (λ n. e ∷ records_in n s) (sym happens.0)
step_list m r beside new s happens = append-nil (records_in m r) ∙ sym (unchanged m new r s happens.base happens.head happens.tail happens.frames)

written_one : (step : QueueStep) (steps : List QueueStep) → written_by (step ∷ steps) ≡ written_by (step ∷ []) ++ written_by steps
written_one (put f Written) steps = refl
written_one (put f Overflow) steps = refl
written_one (put f Off) steps = refl
written_one (take found) steps = refl
written_one beside steps = refl

taken_one : (step : QueueStep) (steps : List QueueStep) → taken_by (step ∷ steps) ≡ taken_by (step ∷ []) ++ taken_by steps
taken_one (put f answer) steps = refl
taken_one (take None) steps = refl
taken_one (take (Some e)) steps = refl
taken_one beside steps = refl

-- the same for a run
pub run_list : (steps : List QueueStep) (m : List (List ℕ)) (r : Registers) (new : List (List ℕ)) (s : Registers) → RunsQueue m r steps new s
    → records_in m r ++ written_by steps ≡ taken_by steps ++ records_in new s
run_list [] m r new s runs = append-nil (records_in m r) ∙ sym (ap (λ n. records_in n s) runs.0 ∙ ap (records_in m) runs.1)
run_list (step ∷ steps) m r new s runs =
    let between = runs.0 in let q = runs.1 in
    let first = step_list m r step between q runs.2.0 in
    let rest = run_list steps between q new s runs.2.1 in
    ap (λ w. records_in m r ++ w) (written_one step steps)
    ∙ sym (append_assoc (records_in m r) (written_by (step ∷ [])) (written_by steps))
    ∙ ap (λ l. l ++ written_by steps) first
    ∙ append_assoc (taken_by (step ∷ [])) (records_in between q) (written_by steps)
    ∙ ap (λ l. taken_by (step ∷ []) ++ l) rest
    ∙ sym (append_assoc (taken_by (step ∷ [])) (taken_by steps) (records_in new s))
    ∙ ap (λ t. t ++ records_in new s) (sym (taken_one step steps))
