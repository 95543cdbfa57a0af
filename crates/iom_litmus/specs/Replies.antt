-- Lines that are run at once: what may become of the system, and what may be said to all of them.
use Rattle.std.specs.Prelude.{◌≡◌, ℕ, false, ◌||◌, List, [], ◌∷◌, ◌++◌}
use Rattle.iom_litmus.specs.declared.reply.Reply.{Reply}
use Rattle.iom_litmus.specs.Rules.{Rules}

abbrev pub no_reply : Reply
no_reply = record { text = []; touches = []; wrong = false; violated = false }

-- the text is the later one's
abbrev pub joined : Reply → Reply → Reply
joined earlier later = record { text = later.text; touches = earlier.touches ++ later.touches; wrong = earlier.wrong || later.wrong; violated = earlier.violated || later.violated }

-- the lines, run after what was said earlier, may be answered so in all, and leave the system so
abbrev pub RunsLines : {S : Type 0} → Rules S → S → Reply → List (List ℕ) → Reply → S → Type 0
RunsLines rules system earlier [] reply after = (reply ≡ earlier) × (after ≡ system)
RunsLines {S} rules system earlier (line ∷ rest) reply after = (said : Reply) × (next : S) × rules.runs system line said next × RunsLines rules next (joined earlier said) rest reply after
