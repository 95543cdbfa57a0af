-- Memory and IOMMU decide what a fetch answers and leaves
use Rattle.std.proofs.Common.{◌≡◌, ◌∙◌, ℕ, Bool, true, false, List, Option, Some, None, refl, sym, ap, subst}
use Rattle.iom_registers.specs.Queues.{is_processing_commands}
use Rattle.iom_device_dir.specs.declared.context.Context.{Context}
use Rattle.iom_device_dir.specs.Contents.{Content, IsSameContent}
use Rattle.iom_command_queue.specs.declared.command.Command.{Command}
use Rattle.iom_command_queue.specs.declared.command.Command.TheVariants.{IotinvalVma, IotinvalGvma, IofenceC, IodirInvalDdt, AtsInval}
use Rattle.iom_command_queue.specs.declared.entry.QueueEntry.{QueueEntry}
use Rattle.iom_command_queue.specs.declared.entry.QueueEntry.TheVariants as stands
use Rattle.iom_tlb.specs.declared.trans_cache.TransCache.{Ghosts as Cache}
use Rattle.iom_iommu.specs.declared.iommu.Iommu.{Iommu}
use Rattle.iom_iommu.specs.declared.fetched.Fetched.{Fetched}
use Rattle.iom_iommu.specs.declared.fetched.Fetched.TheVariants.{Did, Waiting, Empty, Stopped}
use Rattle.iom_iommu.specs.Parts.{registers_of, contexts_of}
use Rattle.iom_iommu.specs.Fetches.{head_entry}
use Rattle.iom_iommu.specs.Effects.{is_held_back, IsLeft, DropsContexts, WaitsAt, StopsAtEntry, StopsFetching, FetchesByAnswer, AreAlike}

dropped_alike : (command : Command) (old one other : Content ℕ Context) → DropsContexts command old one → DropsContexts command old other → IsSameContent one other
dropped_alike (IotinvalVma gscid pscid page) old one other d e = λ key. e key ∙ sym (d key)
dropped_alike (IotinvalGvma gscid page) old one other d e = λ key. e key ∙ sym (d key)
dropped_alike (IofenceC store wsi pr pw) old one other d e = λ key. e key ∙ sym (d key)
dropped_alike (IodirInvalDdt device) old one other d e = λ key. e key ∙ sym (d key)
dropped_alike (AtsInval device range) old one other d e = λ key. e key ∙ sym (d key)

command_of : (entry : Option QueueEntry) (one other : Command) → entry ≡ Some (stands.Command one) → entry ≡ Some (stands.Command other) → one ≡ other
command_of entry one other e f = let both = sym e ∙ f in cc

module _ {C : Type 0} {c : Cache C} (m : List (List ℕ)) (i : Iommu C c) where
  same_alike : (j k : Iommu C c) → j ≡ k → AreAlike j k
  same_alike j k e = subst (λ x. AreAlike j x) e (record {
    registers = refl;
    contexts = λ key. refl;
    translations = λ key. refl;
    fence_snapshot = refl;
    waits = refl;
    slots = refl;
    flights = refl;
    frames = refl;
  })

  left_alike : (command : Command) (j k : Iommu C c) → IsLeft command i j → IsLeft command i k → AreAlike j k
  left_alike command j k one other = record {
    registers = one.registers ∙ sym other.registers;
    contexts = dropped_alike command (contexts_of i) (contexts_of j) (contexts_of k) one.contexts other.contexts;
    translations = λ key. other.translations key ∙ sym (one.translations key);
    fence_snapshot = one.fence_snapshot ∙ sym other.fence_snapshot;
    waits = one.waits ∙ sym other.waits;
    slots = one.slots ∙ sym other.slots;
    flights = one.flights ∙ sym other.flights;
    frames = one.frames ∙ sym other.frames;
  }

  -- What stands at the head waits, stops processing or is done
  not_held : (command : Command) → is_held_back command i ≡ false → ¬ WaitsAt (Some (stands.Command command)) i
  not_held command free held = let both = sym free ∙ held in cc

  waits_or_stops : (entry : Option QueueEntry) (j : Iommu C c) → WaitsAt entry i → ¬ StopsAtEntry m entry i j
  waits_or_stops None j w s = w
  waits_or_stops (Some stands.Outside) j w s = w
  waits_or_stops (Some (stands.Illegal reason)) j w s = w
  waits_or_stops (Some (stands.Command command)) j w s = not_held command s.0 w

  on_stops : (j : Iommu C c) (entry : Option QueueEntry) → is_processing_commands (registers_of i) ≡ true → head_entry m (registers_of i) ≡ entry
      → StopsFetching (is_processing_commands (registers_of i)) m i j → StopsAtEntry m entry i j
  on_stops j entry on stands s = subst (λ e. StopsAtEntry m e i j) stands (subst (λ b. StopsFetching b m i j) on s)

  stops_at_alike : (entry : Option QueueEntry) (j k : Iommu C c) → StopsAtEntry m entry i j → StopsAtEntry m entry i k → j ≡ k
  stops_at_alike None j k s t = absurd s
  stops_at_alike (Some stands.Outside) j k s t = s ∙ sym t
  stops_at_alike (Some (stands.Illegal reason)) j k s t = s ∙ sym t
  stops_at_alike (Some (stands.Command command)) j k s t = s.2 ∙ sym t.2

  stops_alike : (on : Bool) (j k : Iommu C c) → StopsFetching on m i j → StopsFetching on m i k → j ≡ k
  stops_alike true j k s t = stops_at_alike (head_entry m (registers_of i)) j k s t
  stops_alike false j k s t = s ∙ sym t

  did_or_waits : (command : Command) (n o : List (List ℕ)) (j k : Iommu C c) → FetchesByAnswer m i (Did command) n j → ¬ FetchesByAnswer m i Waiting o k
  did_or_waits command n o j k f w = not_held command f.2 (subst (λ entry. WaitsAt entry i) f.1 w.1)

  did_or_empty : (command : Command) (n o : List (List ℕ)) (j k : Iommu C c) → FetchesByAnswer m i (Did command) n j → ¬ FetchesByAnswer m i Empty o k
  did_or_empty command n o j k f e = let both = sym f.1 ∙ e.1 in cc

  did_or_stops : (command : Command) (n o : List (List ℕ)) (j k : Iommu C c) → FetchesByAnswer m i (Did command) n j → ¬ FetchesByAnswer m i Stopped o k
  did_or_stops command n o j k f s = (on_stops k (Some (stands.Command command)) f.0 f.1 s.0).1 f.3

  waits_or_empty : (n o : List (List ℕ)) (j k : Iommu C c) → FetchesByAnswer m i Waiting n j → ¬ FetchesByAnswer m i Empty o k
  waits_or_empty n o j k w e = subst (λ entry. WaitsAt entry i) e.1 w.1

  waits_or_stopped : (n o : List (List ℕ)) (j k : Iommu C c) → FetchesByAnswer m i Waiting n j → ¬ FetchesByAnswer m i Stopped o k
  waits_or_stopped n o j k w s = waits_or_stops (head_entry m (registers_of i)) k w.1 (on_stops k (head_entry m (registers_of i)) w.0 refl s.0)

  empty_or_stops : (n o : List (List ℕ)) (j k : Iommu C c) → FetchesByAnswer m i Empty n j → ¬ FetchesByAnswer m i Stopped o k
  empty_or_stops n o j k e s = on_stops k None e.0 e.1 s.0

  -- TWO that did a command did the same one
  did_both : (one other : Command) (n o : List (List ℕ)) (j k : Iommu C c) → one ≡ other → FetchesByAnswer m i (Did one) n j → FetchesByAnswer m i (Did other) o k
      → (Did one ≡ Did other) × (n ≡ o) × AreAlike j k
  did_both one other n o j k same f g =
      let again = subst (λ command. FetchesByAnswer m i (Did command) o k) (sym same) g in
      (ap (λ command. Did command) same, f.4 ∙ sym again.4, left_alike one j k f.5 again.5)

  -- ONE ANSWER and what it leaves
  pub one_fetch : (n o : List (List ℕ)) (j k : Iommu C c) (one other : Fetched) → FetchesByAnswer m i one n j → FetchesByAnswer m i other o k
      → (one ≡ other) × (n ≡ o) × AreAlike j k
  one_fetch n o j k (Did one) (Did other) f g = did_both one other n o j k (command_of (head_entry m (registers_of i)) one other f.1 g.1) f g
  one_fetch n o j k (Did one) Waiting f g = absurd (did_or_waits one n o j k f g)
  one_fetch n o j k (Did one) Empty f g = absurd (did_or_empty one n o j k f g)
  one_fetch n o j k (Did one) Stopped f g = absurd (did_or_stops one n o j k f g)
  one_fetch n o j k Waiting (Did other) f g = absurd (did_or_waits other o n k j g f)
  one_fetch n o j k Waiting Waiting f g = (refl, f.2 ∙ sym g.2, same_alike j k (f.3 ∙ sym g.3))
  one_fetch n o j k Waiting Empty f g = absurd (waits_or_empty n o j k f g)
  one_fetch n o j k Waiting Stopped f g = absurd (waits_or_stopped n o j k f g)
  one_fetch n o j k Empty (Did other) f g = absurd (did_or_empty other o n k j g f)
  one_fetch n o j k Empty Waiting f g = absurd (waits_or_empty o n k j g f)
  one_fetch n o j k Empty Empty f g = (refl, f.2 ∙ sym g.2, same_alike j k (f.3 ∙ sym g.3))
  one_fetch n o j k Empty Stopped f g = absurd (empty_or_stops n o j k f g)
  one_fetch n o j k Stopped (Did other) f g = absurd (did_or_stops other o n k j g f)
  one_fetch n o j k Stopped Waiting f g = absurd (waits_or_stopped o n k j g f)
  one_fetch n o j k Stopped Empty f g = absurd (empty_or_stops o n k j g f)
  one_fetch n o j k Stopped Stopped f g = (refl, f.1 ∙ sym g.1, same_alike j k (stops_alike (is_processing_commands (registers_of i)) j k f.0 g.0))
