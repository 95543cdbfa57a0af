-- The mailbox on which the search is tried.
use Rattle.std.specs.Prelude.{◌≡◌, ℕ, ◌+◌, ◌-◌, Bool, true, false, ◌==◌, nat_lt, List, [], ◌∷◌, cond, ⊤}
use Rattle.iom_litmus.specs.declared.reply.Reply.{Reply}
use Rattle.iom_litmus.specs.declared.step.HardwareStep.{HardwareStep}
use Rattle.iom_litmus.specs.declared.step.HardwareStep.TheVariants as Acts
use Rattle.iom_litmus.specs.Readings.{Readings}
use Rattle.iom_litmus.specs.Rules.{Rules}
use Rattle.iom_litmus_tests.specs.declared.mailbox.Mailbox.{Mailbox}

abbrev pub is_sending : List ℕ → Bool
is_sending [] = false
is_sending (first ∷ _) = first == 115

abbrev pub empty_mailbox : Mailbox
empty_mailbox = record { under_way = 0; any_came = false }

abbrev pub saying : List ℕ → Reply
saying text = record { text = text; touches = []; wrong = false; violated = false }

abbrev pub mailbox_after_line : Mailbox → List ℕ → Mailbox
mailbox_after_line box line = record { under_way = cond (is_sending line) (cond (nat_lt box.under_way 4) (box.under_way + 1) box.under_way) box.under_way; any_came = box.any_came }

abbrev pub mailbox_says : Mailbox → List ℕ → Reply
mailbox_says box line = saying (cond (is_sending line) (115 ∷ 101 ∷ 110 ∷ 116 ∷ []) (cond box.any_came (99 ∷ 97 ∷ 109 ∷ 101 ∷ []) (110 ∷ 111 ∷ 110 ∷ 101 ∷ [])))

abbrev pub mailbox_after_act : Mailbox → HardwareStep → Mailbox
mailbox_after_act box (Acts.Deliver _) = record { under_way = box.under_way - 1; any_came = true }
mailbox_after_act box (Acts.Drop _) = record { under_way = box.under_way - 1; any_came = box.any_came }
mailbox_after_act box Acts.Fetch = box
mailbox_after_act box (Acts.Commit _) = box
mailbox_after_act box (Acts.Load _) = box
mailbox_after_act box (Acts.Repeat _) = box
mailbox_after_act box Acts.Timeout = box

-- it has one answer to each deed
abbrev pub mailbox_rules : Rules Mailbox
mailbox_rules = record {
  runs = λ box line reply after. (reply ≡ mailbox_says box line) × (after ≡ mailbox_after_line box line);
  acts = λ box act reply after. (reply ≡ saying []) × (after ≡ mailbox_after_act box act);
}

abbrev pub mailbox_readings : Readings Mailbox
mailbox_readings = record {
  fetches = λ _. false;
  devices = λ _. [];
  is_in_flight = λ _ _. false;
  is_in_walk = λ _ _. false;
  messages = λ box. box.under_way;
  is_same_message = λ _ _ _. ⊤;
  times_out = λ _. false;
  memory = λ _ _ _. [];
}
