-- A poll confirms tickets one after another, as far as copies go.
use Rattle.std.proofs.Common.{◌≡◌, ◌+◌, ◌<◌, ◌≤◌, ◌∙◌, ℕ, zero, suc, List, ◌∷◌, refl, sym, ap, subst, arith}
use Rattle.iom_coherence.specs.DriverCalls.{attachment_once_confirmed}
use Rattle.iom_coherence.specs.Transitions.{Confirm}
use Rattle.iom_ledger.specs.declared.entry.HistoryEntry.TheVariants.{Confirmed}
use Rattle.iom_coherence.specs.Scene.{Scene}
use Rattle.iom_walk_coherence.specs.Walks.{Walk}
use Rattle.iom_world_effects.specs.Scenes.{FactsHold}
use Rattle.iom_world_effects.proofs.FactsKept.{facts_kept}
use Rattle.iom_ledger.specs.History.{confirmed_from}
use Rattle.iom_machine.specs.declared.state.Attachment.{Attachment}
use Rattle.iom_world_effects.specs.Queued.{pending_after}

-- the attachments, where so many tickets after the first number are confirmed, one after another
abbrev pub left_after : ℕ → ℕ → (ℕ → Attachment) → ℕ → Attachment
left_after first zero attachment_of d = attachment_of d
left_after first (suc n) attachment_of d = attachment_once_confirmed (first + n + 1) (left_after first n attachment_of d)

-- the scene then, where tickets wait for these fences
abbrev pub confirmed_scene : (ℕ → ℕ) → Scene → ℕ → ℕ → Scene
confirmed_scene fence_of scene n rest = record scene {
  history = confirmed_from (scene.confirmed + 1) n scene.history;
  pending = pending_after fence_of (scene.confirmed + n) rest;
  confirmed = scene.confirmed + n;
  attachment_of = left_after scene.confirmed n scene.attachment_of;
}

-- after one more, by the number that is confirmed and the last that is then
abbrev one_more : (ℕ → ℕ) → Scene → ℕ → ℕ → ℕ → ℕ → Scene
one_more fence_of scene n rest ticket last = record scene {
  history = Confirmed ticket ∷ confirmed_from (scene.confirmed + 1) n scene.history;
  pending = pending_after fence_of last rest;
  confirmed = last;
  attachment_of = left_after scene.confirmed (suc n) scene.attachment_of;
}

-- the fences of so many tickets after the first number are done
abbrev pub AreDone : (ℕ → ℕ) → ℕ → ℕ → ℕ → Type 0
AreDone fence_of first n completed = (ticket : ℕ) → first < ticket → ticket ≤ first + n → fence_of ticket ≤ completed

pub confirm_all : (fence_of : ℕ → ℕ) (scene : Scene) (n rest : ℕ) (walks : List Walk) → FactsHold scene walks → scene.pending ≡ pending_after fence_of scene.confirmed (n + rest)
    → AreDone fence_of scene.confirmed n scene.completed → FactsHold (confirmed_scene fence_of scene n rest) walks
confirm_all fence_of scene zero rest walks facts pending done =
    let none : scene.confirmed + 0 ≡ scene.confirmed = omega arith in
    let same : scene ≡ confirmed_scene fence_of scene 0 rest =
    ap (λ p. record scene { pending = p }) (pending ∙ ap (pending_after fence_of scene.confirmed) {x = 0 + rest} {y = rest} (omega arith) ∙ ap (λ c. pending_after fence_of c rest) (sym none))
    ∙ ap (λ c. record scene { pending = pending_after fence_of (scene.confirmed + 0) rest; confirmed = c }) (sym none) in
    subst (λ s. FactsHold s walks) same facts
confirm_all fence_of scene (suc n) rest walks facts pending done =
    let before = confirm_all fence_of scene n (suc rest) walks facts (pending ∙ ap (pending_after fence_of scene.confirmed) {x = suc n + rest} {y = n + suc rest} (omega arith))
    (λ ticket above up_to. done ticket above (omega (arith, up_to))) in
    let c = scene.confirmed in
    let same : confirmed_scene fence_of scene (suc n) rest ≡ one_more fence_of scene n rest (c + n + 1) (c + n + 1) =
    ap (λ ticket. one_more fence_of scene n rest ticket (c + suc n)) {x = c + 1 + n} {y = c + n + 1} (omega arith)
    ∙ ap (one_more fence_of scene n rest (c + n + 1)) {x = c + suc n} {y = c + n + 1} (omega arith) in
    facts_kept (Confirm (c + n + 1)) (confirmed_scene fence_of scene n (suc rest)) (confirmed_scene fence_of scene (suc n) rest) walks walks refl before
    (fence_of (c + n + 1), pending_after fence_of (c + n + 1) rest, refl, done (c + n + 1) (omega arith) (omega arith), same)
