-- A session goes through the lines of an opening.
use Rattle.std.proofs.Common.{◌≡◌, ◌∙◌, ◌+◌, ◌<◌, ◌++◌, ◌||◌, ℕ, false, List, [], ◌∷◌, length, take, get_or, refl, sym, ap, subst}
use Rattle.std.proofs.lemmas.List.{take_more}
use Rattle.iom_claims.specs.Claimed.{Claimed, nothing_claimed}
use Rattle.iom_claims.specs.Shown.{ShowsClaimed}
use Rattle.iom_hardware_runner.specs.Runs.{HasRun}
use Rattle.iom_hardware_runner.proofs.RunLemmas.{has_run_more}
use Rattle.iom_hardware_script.specs.declared.script.HardwareLine.{HardwareLine}
use Rattle.iom_hardware_session.specs.Runs.{LineGoesOn, is_wrong_by}
use Rattle.iom_hardware_session.specs.declared.session.Stepped.{Stepped}
use Rattle.iom_hardware_session.specs.declared.state.Session.{Session}
use Rattle.iom_litmus_hardware.specs.Openings.{GoesThrough}

-- through no lines
pub through_none : (session : Session) → GoesThrough session [] session
through_none session setup power = (
  false,
  record {
    first = session;
    all = [];
    claimed = nothing_claimed;
    begins = power;
    same = refl;
    through = (refl, refl);
    tells = refl;
  },
)

-- and through one line more
pub through_more : (lines : List HardwareLine) (n : ℕ) (line : HardwareLine) (first old new : Session) (stepped : Stepped) → n < length lines → line ≡ get_or lines n line
    → ((c : Claimed) → ShowsClaimed old.claims c → LineGoesOn old c (record { said = line; stepped = stepped; watched = new.watched.items }) new)
    → GoesThrough first (take n lines) old → GoesThrough first (take (n + 1) lines) new
through_more lines n line first old new stepped within is goes through setup power =
    let so_far = through setup power in (
      so_far.0 || is_wrong_by stepped new.watched.items,
      subst (λ (l : List HardwareLine). HasRun setup l new (so_far.0 || is_wrong_by stepped new.watched.items))
          (ap (λ (l : HardwareLine). take n lines ++ l ∷ []) is ∙ sym (take_more lines n line within))
          (has_run_more setup (take n lines) old new so_far.0 line stepped goes so_far.1),
    )
