-- Places that were found, and the steps from one to the next.
use Rattle.std.specs.Prelude.{◌≡◌, ◌⊎◌, ℕ, ◌+◌, ◌<◌, ◌≤◌, List, [], ◌∷◌, ◌++◌, Option, Some, None, IfSome, length, find, slice_get}
use Rattle.iom_litmus_test.specs.declared.observable.Spot.{Spot}
use Rattle.iom_litmus_test.specs.declared.test.Test.{Test}
use Rattle.iom_litmus.specs.declared.node.Edge.{Edge}
use Rattle.iom_litmus.specs.declared.node.Node.{Node}
use Rattle.iom_litmus.specs.declared.place.Deed.{Deed}
use Rattle.iom_litmus.specs.declared.place.Deed.TheVariants as Deeds
use Rattle.iom_litmus.specs.declared.place.Place.{Place}
use Rattle.iom_litmus.specs.declared.reply.Reply.{Reply}
use Rattle.iom_litmus.specs.declared.step.Step.{Step}
use Rattle.iom_litmus.specs.declared.taking.Tried.{Tried}
use Rattle.iom_litmus.specs.declared.taking.Tried.TheVariants.{Taken, Refused}
use Rattle.iom_litmus.specs.Alike.{IsSamePlace}
use Rattle.iom_litmus.specs.Candidates.{CanTry}
use Rattle.iom_litmus.specs.Deeds.{is_deed}
use Rattle.iom_litmus.specs.Listed.{IsListed, AreListedOnce}
use Rattle.iom_litmus.specs.Readings.{Readings}
use Rattle.iom_litmus.specs.Replies.{no_reply}
use Rattle.iom_litmus.specs.Rules.{Rules, Noted}
use Rattle.iom_litmus.specs.Seen.{seen_at}
use Rattle.iom_litmus.specs.Steps.{CanStepBy, MayAnswer, MayAnswerNoted, deed_of, gone_on}

-- a step was taken, which leads there, or it can't be taken, and this is left
abbrev pub WasTaken : {S : Type 0} → Readings S → Test → Place S → Step → Reply → S → Tried S → Type 0
WasTaken r test place step reply after (Refused left) = (¬ CanStepBy r test (λ _. reply) place step) × (left.system ≡ after)
WasTaken r test place step reply after (Taken new) =
    CanStepBy r test (λ _. reply) place step × ((deed : Deed) × (deed_of test place.happened step ≡ Some deed) × (new ≡ gone_on place deed reply after))

-- a step was tried at a place, and answered as the system may answer
abbrev pub WasTried : {S : Type 0} → Rules S → Readings S → Test → Place S → Step → Tried S → Type 0
WasTried {S} rules r test place step tried = (reply : Reply) × (after : S)
    × ((deed : Deed) → deed_of test place.happened step ≡ Some deed → MayAnswer rules r test place deed reply after)
    × WasTaken r test place step reply after tried

-- what a try of the step left has the system that was there, or the cell is noted
abbrev pub IsLeftOrNoted : {S : Type 0} → List Spot → Test → Node S → Step → Place S → Type 0
IsLeftOrNoted cells test node step left =
    (spot : Spot) → deed_of test node.place.happened step ≡ Some (Deeds.Cell spot) → (left.system ≡ node.place.system) ⊎ IsListed cells spot

-- what a try left is the place that was tried at, if anything is kept of it
abbrev pub IsSpareOf : {S : Type 0} → Test → Node S → Option (Place S) → Type 0
IsSpareOf test node spare = IfSome spare (IsSamePlace test node.place)

-- more places were found
abbrev pub HasGrown : {S : Type 0} → List (Node S) → List (Node S) → Type 0
HasGrown {S} old new = (added : List (Node S)) × (new ≡ old ++ added)

-- a place is one of those that were found
abbrev pub IsFoundAt : {S : Type 0} → Test → List (Node S) → Place S → ℕ → Type 0
IsFoundAt {S} test nodes place to = (node : Node S) × (slice_get nodes to ≡ Some node) × IsSamePlace test place node.place

-- it was among them, or is now the last of them, with the way to it and what is seen there
abbrev pub WasPut : {S : Type 0} → Readings S → Test → List Step → Place S → List (Node S) → List (Node S) → ℕ → Type 0
WasPut {S} r test way place old new to =
    (IsFoundAt test old place to × (new ≡ old))
    ⊎ ((node : Node S) × (new ≡ old ++ node ∷ []) × (to ≡ length old) × (node.place ≡ place) × (node.way ≡ way) × (node.outcome ≡ seen_at r test place))

-- a step was tried at a place to which a way leads; where it was taken, its end was put among the places
abbrev pub EndsAt : {S : Type 0} → Readings S → Test → Node S → Step → Reply → S → List (Node S) → List (Node S) → Option ℕ → Type 0
EndsAt r test node step reply after old new None = (¬ CanStepBy r test (λ _. reply) node.place step) × (new ≡ old)
EndsAt {S} r test node step reply after old new (Some to) =
    CanStepBy r test (λ _. reply) node.place step
    × ((deed : Deed) × (deed_of test node.place.happened step ≡ Some deed)
    × ((end : Place S) × IsSamePlace test (gone_on node.place deed reply after) end × WasPut r test (node.way ++ step ∷ []) end old new to))

abbrev pub WasExplored : {S : Type 0} → Noted S → Readings S → Test → Node S → Step → List (Node S) → List (Node S) → Option ℕ → Type 0
WasExplored {S} noted r test node step old new to = (reply : Reply) × (after : S)
    × ((deed : Deed) → deed_of test node.place.happened step ≡ Some deed → MayAnswerNoted noted r test node.place deed reply after)
    × EndsAt r test node step reply after old new to

-- the answers at a place: to each deed what was said, what became of the system, and which place that is
pub record Answer (S : Type 0) : Type 0 where
  pub deed : Deed
  pub reply : Reply
  pub after : S
  pub to : ℕ

abbrev pub answer_in : {S : Type 0} → List (Answer S) → Deed → Option (Answer S)
answer_in answers deed = find (λ answer. is_deed answer.deed deed) answers

abbrev pub reply_of : {S : Type 0} → Option (Answer S) → Reply
reply_of None = no_reply
reply_of (Some answer) = answer.reply

abbrev pub after_of : {S : Type 0} → S → Option (Answer S) → S
after_of system None = system
after_of system (Some answer) = answer.after

abbrev pub end_of : {S : Type 0} → Option (Answer S) → ℕ
end_of None = 0
end_of (Some answer) = answer.to

abbrev pub reply_in : {S : Type 0} → List (Answer S) → Deed → Reply
reply_in answers deed = reply_of (answer_in answers deed)

abbrev pub steps_of : List Edge → List Step
steps_of [] = []
steps_of (edge ∷ rest) = edge.step ∷ steps_of rest

-- an edge leads where the answer to its step leads
abbrev pub Leads : {S : Type 0} → Test → List (Node S) → Place S → List (Answer S) → Edge → Type 0
Leads {S} test nodes place answers edge = (answer : Answer S) × (deed_of test place.happened edge.step ≡ Some answer.deed)
    × (answer_in answers answer.deed ≡ Some answer) × (answer.to ≡ edge.to)
    × IsFoundAt test nodes (gone_on place answer.deed answer.reply answer.after) edge.to

-- of the first steps those that can be taken at a place, by answers that the system may give, and where they lead
pub record Expands {S : Type 0} (noted : Noted S) (r : Readings S) (test : Test) (nodes : List (Node S)) (place : Place S)
    (first : List Step) (edges : List Edge) (answers : List (Answer S)) : Type 0 where
  pub once : AreListedOnce (steps_of edges)
  pub from : (edge : Edge) → IsListed edges edge → IsListed first edge.step
  pub can : (edge : Edge) → IsListed edges edge → CanStepBy r test (reply_in answers) place edge.step
  pub all : (step : Step) → IsListed first step → CanStepBy r test (reply_in answers) place step → IsListed (steps_of edges) step
  pub leads : (edge : Edge) → IsListed edges edge → Leads test nodes place answers edge
  pub may : (step : Step) → IsListed first step → (deed : Deed) → deed_of test place.happened step ≡ Some deed
      → (before : S) → MayAnswerNoted noted r test place deed (reply_in answers deed) (after_of before (answer_in answers deed))
  pub tried : (answer : Answer S) → IsListed answers answer → (step : Step) × IsListed first step × (deed_of test place.happened step ≡ Some answer.deed)

-- all steps from a place
abbrev pub IsExpanded : {S : Type 0} → Noted S → Readings S → Test → List (Node S) → Place S → List Edge → List (Answer S) → Type 0
IsExpanded noted r test nodes place edges answers = (first : List Step) × Expands noted r test nodes place first edges answers
    × ((step : Step) → CanTry r test place step → IsListed first step)

-- places that were found lie behind the way to this one by the edges
abbrev pub AreFoundBy : {S : Type 0} → Readings S → Test → Node S → List Edge → List (Node S) → List (Node S) → Type 0
AreFoundBy {S} r test node edges old new = (k : ℕ) (found : Node S) → length old ≤ k → slice_get new k ≡ Some found
    → (found.outcome ≡ seen_at r test found.place) × ((edge : Edge) × IsListed edges edge × (edge.to ≡ k) × (found.way ≡ node.way ++ edge.step ∷ []))

pub record WasExpanded {S : Type 0} (noted : Noted S) (r : Readings S) (test : Test) (node : Node S) (old new : List (Node S)) (edges : List Edge) : Type 0 where
  pub answers : List (Answer S)
  pub all : IsExpanded noted r test new node.place edges answers
  pub grown : HasGrown old new
  pub found : AreFoundBy r test node edges old new
