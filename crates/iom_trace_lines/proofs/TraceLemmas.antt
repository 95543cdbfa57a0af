-- Lines of a trace, put together of what was read of them.
use Rattle.std.proofs.Common.{◌≡◌, ◌≢◌, ◌∙◌, ℕ, Bool, true, false, List, [], ◌∷◌, ◌++◌, Option, None, Some, MatchOption, IfSome, IsTrue, inl, inr, refl, sym, ap, append-nil, append_assoc}
use Rattle.std.specs.Prelude.{codes, ◌<◌, ◌+◌, ◌^◌, ⊤}
use Rattle.std.specs.Borrow.{Bor}
use Rattle.std.specs.Fmt.{decimal}
use Rattle.std.proofs.lemmas.Bool.{false≢true}
use Rattle.std.proofs.lemmas.List.{flat_map_more}
use Rattle.iom_base.specs.declared.access.Access.{Access}
use Rattle.iom_base.specs.declared.grant_rights.GrantRights.{GrantRights}
use Rattle.iom_machine.specs.declared.event.Event.{Event}
use Rattle.iom_machine.specs.declared.event.Event.TheVariants as events
use Rattle.iom_machine.specs.declared.outcome.Outcome.{Outcome}
use Rattle.iom_script.specs.Cuts.{BeginsWithWord}
use Rattle.iom_script.specs.Reading.{Reads}
use Rattle.iom_script.specs.Grammar.{IsEventLine}
use Rattle.iom_script.specs.Lines.{line_of}
use Rattle.iom_script.specs.Words.{◌␣◌, IsDevice, IsNumber, IsRight}
use Rattle.iom_script.specs.declared.script.WorldSize.{WorldSize}
use Rattle.iom_trace_lines.specs.TraceLines.{access_text, EventAsksFor, frames_text, is_accepted, tables_text, on_text, made_text, ats_text, IsPages, IsGrantsLine, IsJoinsLine, IsReleasesLine, IsHandingLine, TraceMayShow, SaysLine, World, Step, Made, Grants, Joins, Releases, Handoff, Take, TablesFreed}
use Rattle.iom_trace_lines.specs.WorldLimits.{limits_text, IsLargeSize, IsLargeWorldLine, SaysSize}
use Rattle.iom_trace_lines.specs.declared.trace.WorldLimits.{WorldLimits}

-- one frame more, with a space before it
pub frame_more : (text so_far words word behind : List ℕ) (frames : List ℕ) (frame : ℕ) → text ≡ frames_text frames ++ so_far → so_far ≡ codes " " ++ words → words ≡ word ++ behind → IsNumber word frame
    → text ≡ frames_text (frames ++ frame ∷ []) ++ behind
frame_more text so_far words word behind frames frame is space cut number =
    let shown : List ℕ = codes " " ++ decimal frame in
    let next : so_far ≡ shown ++ behind = space ∙ ap (λ (l : List ℕ). codes " " ++ l) (cut ∙ ap (λ (l : List ℕ). l ++ behind) number.1) in
    is ∙ ap (λ (l : List ℕ). frames_text frames ++ l) next ∙ sym (append_assoc (frames_text frames) shown behind)
    ∙ ap (λ (l : List ℕ). l ++ behind) (flat_map_more (λ f. codes " " ++ decimal f) [] frames frame)

-- the tables behind an answer
pub tables_behind : (behind text frames : List ℕ) → behind ≡ codes "tables" ++ text → text ≡ frames_text frames → codes "; " ++ behind ≡ tables_text true frames ++ on_text None
tables_behind behind text frames is named =
    ap (λ (l : List ℕ). codes "; " ++ l) (is ∙ ap (λ (l : List ℕ). codes "tables" ++ l) named) ∙ sym (append-nil (codes "; tables" ++ frames_text frames))

-- the frame behind an answer
pub on_behind : (behind word frames : List ℕ) (frame : ℕ) → behind ≡ codes "on " ++ word → IsNumber word frame → codes "; " ++ behind ≡ tables_text false frames ++ on_text (Some frame)
on_behind behind word frames frame is number = ap (λ (l : List ℕ). codes "; " ++ l) (is ∙ ap (λ (l : List ℕ). codes "on " ++ l) number.1)

-- an event with an outcome, and nothing behind
pub step_alone : (said answered answer : List ℕ) (event : Event) (outcome : Outcome) (tables : List ℕ) → IsEventLine said event → line_of outcome ≡ answer ++ 10 ∷ [] → answered ≡ answer
    → SaysLine (said ++ codes " => " ++ answered) (Step event outcome false None None) tables
step_alone said answered answer event outcome tables says tells is =
    ((λ shown. absurd (false≢true shown), tt), (said, answer, says, tells, ap (λ (l : List ℕ). said ++ codes " => " ++ l) is ∙ sym (append-nil (said ++ codes " => " ++ answer))))

-- and with something behind
pub step_behind : (said answered answer behind : List ℕ) (event : Event) (outcome : Outcome) (has_tables : Bool) (on : Option ℕ) (tables : List ℕ) → IsEventLine said event
    → TraceMayShow event outcome has_tables on
    → line_of outcome ≡ answer ++ 10 ∷ [] → answered ≡ answer ++ codes "; " ++ behind → codes "; " ++ behind ≡ tables_text has_tables tables ++ on_text on
    → SaysLine (said ++ codes " => " ++ answered) (Step event outcome has_tables on None) tables
step_behind said answered answer behind event outcome has_tables on tables says may tells is shown = (
  may,
  (
    said,
    answer,
    says,
    tells,
    ap (λ (l : List ℕ). said ++ codes " => " ++ l) (is ∙ append_assoc answer (codes "; ") behind ∙ ap (λ (l : List ℕ). answer ++ l) shown)
        ∙ sym (append_assoc (said ++ codes " => ") answer (tables_text has_tables tables ++ on_text on)),
  ),
)

-- and with an access that a step began behind
pub step_began : (said answered answer behind : List ℕ) (event : Event) (outcome : Outcome) (access : Access) (on : Option ℕ) (tables : List ℕ) → IsEventLine said event
    → line_of outcome ≡ answer ++ 10 ∷ [] → answered ≡ answer ++ codes "; " ++ behind
    → (device : ℕ) × (event ≡ events.Step device) × IsTrue (is_accepted outcome) × (asked : List ℕ) × (asks : Event) × IsEventLine asked asks × EventAsksFor asks device access
    × (codes "; " ++ behind ≡ access_text asked on)
    → SaysLine (said ++ codes " => " ++ answered) (Step event outcome false on (Some access)) tables
step_began said answered answer behind event outcome access on tables says tells is (device, stepped, accepted, asked, asks, line, wants, shown) = (
  device,
  stepped,
  accepted,
  asked,
  asks,
  line,
  wants,
  (
    said,
    answer,
    says,
    tells,
    ap (λ (l : List ℕ). said ++ codes " => " ++ l) (is ∙ append_assoc answer (codes "; ") behind ∙ ap (λ (l : List ℕ). answer ++ l) shown)
        ∙ sym (append_assoc (said ++ codes " => ") answer (access_text asked on)),
  ),
)

-- a frame is given to somebody else, or taken back
handing_says : (name line said : List ℕ) (answered : Option (Bor (List ℕ))) (frame : ℕ)
    → MatchOption answered (line ≡ said) (λ behind. line ≡ said ++ codes " => " ++ behind.now)
    → (word : List ℕ) × IsNumber word frame × (said ≡ name ␣ word) → MatchOption answered ⊤ (λ answer. answer.now ≡ codes "ok")
    → IsHandingLine name line frame
handing_says name line said None frame is (word, number, named) granted = (word, number, inl (is ∙ named))
handing_says name line said (Some answer) frame is (word, number, named) granted =
    (word, number, inr (is ∙ ap (λ (l : List ℕ). l ++ codes " => " ++ answer.now) named ∙ ap (λ (l : List ℕ). (name ␣ word) ++ codes " => " ++ l) granted ∙ append_assoc (name ␣ word) (codes " => ") (codes "ok")))

pub handoff_says : (line said : List ℕ) (answered : Option (Bor (List ℕ))) (frame : ℕ) (tables : List ℕ)
    → MatchOption answered (line ≡ said) (λ behind. line ≡ said ++ codes " => " ++ behind.now)
    → (word : List ℕ) × IsNumber word frame × (said ≡ codes "handoff" ␣ word) → MatchOption answered ⊤ (λ answer. answer.now ≡ codes "ok")
    → SaysLine line (Handoff frame) tables
handoff_says line said answered frame tables is named granted = handing_says (codes "handoff") line said answered frame is named granted

pub take_says : (line said : List ℕ) (answered : Option (Bor (List ℕ))) (frame : ℕ) (tables : List ℕ)
    → MatchOption answered (line ≡ said) (λ behind. line ≡ said ++ codes " => " ++ behind.now)
    → (word : List ℕ) × IsNumber word frame × (said ≡ codes "take" ␣ word) → MatchOption answered ⊤ (λ answer. answer.now ≡ codes "ok")
    → SaysLine line (Take frame) tables
take_says line said answered frame tables is named granted = handing_says (codes "take") line said answered frame is named granted

-- an access that was made, by a commit
pub made_says : (said answered : List ℕ) (device : ℕ) (is_read : Bool) (tables : List ℕ) → IsEventLine said (events.Commit device) → answered ≡ made_text is_read
    → SaysLine (said ++ codes " => " ++ answered) (Made device is_read) tables
made_says said answered device is_read tables (word, id, named) reply =
    (word, id, ap (λ (l : List ℕ). l ++ codes " => " ++ answered) named ∙ ap (λ (l : List ℕ). (codes "commit" ␣ word) ++ codes " => " ++ l) reply)

-- pages side by side
pub pages_say : (text first behind : List ℕ) (page count : ℕ) → text ≡ first ++ 43 ∷ behind → IsNumber first page → IsNumber behind count → 0 < count → page + count < 2 ^ 64 → IsPages text page count
pages_say text first behind page count is p n some fits = (first, behind, p, n, some, fits, is)

pub grants_line : (said words pages rest right id f : List ℕ) (device page count frame : ℕ) (rights : GrantRights) → said ≡ codes "grant " ++ words → IsDevice id device → words ≡ id ␣ pages ++ 32 ∷ rest
    → IsPages pages page count → IsNumber f frame → rest ≡ f ␣ right → IsRight right rights → frame + count < 2 ^ 64 → IsGrantsLine said device page count frame rights
grants_line said words pages rest right id f device page count frame rights is d cut many number behind allowed fits = (
  id,
  pages,
  f,
  right,
  d,
  many,
  number,
  allowed,
  fits,
  is ∙ ap (λ (l : List ℕ). codes "grant " ++ l) (cut ∙ ap (λ (l : List ℕ). id ␣ pages ++ 32 ∷ l) behind),
)

pub releases_line : (said words pages id : List ℕ) (device page count : ℕ) → said ≡ codes "release " ++ words → IsDevice id device → words ≡ id ␣ pages → IsPages pages page count
    → IsReleasesLine said device page count
releases_line said words pages id device page count is d cut many = (id, pages, d, many, is ∙ ap (λ (l : List ℕ). codes "release " ++ l) cut)

-- words that are joined from the left
joined : (said a b rest : List ℕ) → said ++ a ++ (b ++ rest) ≡ said ++ (a ++ b) ++ rest
joined said a b rest = sym (append_assoc (said ++ a) b rest) ∙ ap (λ (l : List ℕ). l ++ rest) (append_assoc said a b)

-- what is told of grants and of releases
done_behind : (said answered : List ℕ) (has_tables : Bool) (tables : List ℕ) → answered ≡ codes "ok" ++ tables_text has_tables tables
    → said ++ codes " => " ++ answered ≡ said ++ codes " => ok" ++ tables_text has_tables tables
done_behind said answered has_tables tables is =
    ap (λ (l : List ℕ). said ++ codes " => " ++ l) is ∙ joined said (codes " => ") (codes "ok") (tables_text has_tables tables)

pub grants_say : (said answered : List ℕ) (device page count frame : ℕ) (rights : GrantRights) (has_tables : Bool) (tables : List ℕ)
    → IsGrantsLine said device page count frame rights → answered ≡ codes "ok" ++ tables_text has_tables tables
    → SaysLine (said ++ codes " => " ++ answered) (Grants device page count frame rights has_tables) tables
grants_say said answered device page count frame rights has_tables tables says is =
    (said, says, done_behind said answered has_tables tables is)

pub joins_say : (said answered : List ℕ) (device other : ℕ) (ats has_tables : Bool) (tables : List ℕ)
    → IsJoinsLine said device other ats → answered ≡ codes "ok" ++ tables_text has_tables tables
    → SaysLine (said ++ codes " => " ++ answered) (Joins device other ats has_tables) tables
joins_say said answered device other ats has_tables tables says is = (said, says, done_behind said answered has_tables tables is)

pub releases_say : (said answered word : List ℕ) (device page count ticket : ℕ) (tables : List ℕ) → IsReleasesLine said device page count → IsNumber word ticket → answered ≡ codes "ticket " ++ word
    → SaysLine (said ++ codes " => " ++ answered) (Releases device page count ticket) tables
releases_say said answered word device page count ticket tables says number reply =
    (said, word, says, number, ap (λ (l : List ℕ). said ++ codes " => " ++ l) reply ∙ joined said (codes " => ") (codes "ticket ") word)

-- how large the world is, with the word that says its limits behind
pub world_says : (said sized answer : List ℕ) (size : WorldSize) (limits : WorldLimits) (tables : List ℕ) → said ≡ sized ++ limits_text limits → SaysSize limits sized size → answer ≡ codes "ok"
    → SaysLine (said ++ codes " => " ++ answer) (World size limits) tables
world_says said sized answer size limits tables cut says ok = (
  sized,
  says,
  ap (λ (l : List ℕ). said ++ codes " => " ++ l) ok ∙ append_assoc said (codes " => ") (codes "ok") ∙ ap (λ (l : List ℕ). l ++ codes " => ok") cut,
)

-- how large a world without limits is, of what was read of its line
pub large_world : (line arguments rest : List ℕ) (size : WorldSize) → line ≡ codes "world " ++ arguments → BeginsWithWord IsNumber arguments size.frames rest
    → IsNumber rest size.levels → IsLargeSize size → IsLargeWorldLine line size
large_world line arguments rest size begins (word, says, cut) levels large = (word, rest, says, levels, large, begins ∙ ap (λ (l : List ℕ). codes "world " ++ l) cut)

-- an attach to the domain of another device
pub joins_line : (said words how other word id : List ℕ) (device with : ℕ) (ats : Bool) → said ≡ codes "attach " ++ words → IsDevice id device → words ≡ id ␣ how
    → how ≡ codes "with " ++ other → IsDevice word with → other ≡ word ++ ats_text ats → IsJoinsLine said device with ats
joins_line said words how other word id device with ats is d cut named w behind = (
  id,
  word,
  d,
  w,
  is ∙ ap (λ (l : List ℕ). codes "attach " ++ l) (cut
      ∙ ap (λ (l : List ℕ). id ␣ l) (named ∙ ap (λ (l : List ℕ). codes "with " ++ l) behind)
      ∙ sym (append_assoc id (codes " with " ++ word) (ats_text ats))),
)

-- tables that are given back
pub freed_says : (line said frames : List ℕ) (answered : Option (Bor (List ℕ))) (tables : List ℕ) → said ≡ codes "tables-freed" ++ frames
    → MatchOption answered (line ≡ said) (λ behind. line ≡ said ++ codes " => " ++ behind.now)
    → MatchOption answered ⊤ (λ answer. answer.now ≡ codes "ok") → frames ≡ frames_text tables → tables ≢ []
    → SaysLine line TablesFreed tables
freed_says line said frames None tables named is granted named_frames some =
    (some, inl (is ∙ named ∙ ap (λ (l : List ℕ). codes "tables-freed" ++ l) named_frames))
freed_says line said frames (Some answer) tables named is granted named_frames some =
    let first : said ≡ codes "tables-freed" ++ frames_text tables = named ∙ ap (λ (l : List ℕ). codes "tables-freed" ++ l) named_frames in (
      some,
      inr (is ∙ ap (λ (l : List ℕ). l ++ codes " => " ++ answer.now) first
          ∙ ap (λ (l : List ℕ). (codes "tables-freed" ++ frames_text tables) ++ codes " => " ++ l) granted
          ∙ append_assoc (codes "tables-freed" ++ frames_text tables) (codes " => ") (codes "ok")),
    )

-- what is read, is so
pub if_read : {X : Type 0} (P : X → Type 0) (result : Option X) → Reads result P → IfSome result P
if_read P None reads = tt
if_read P (Some x) reads = (reads x).0 refl
