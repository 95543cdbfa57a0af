use Rattle.std.proofs.Common.{List, Option, subst, sym}
use Rattle.iom_ats_cache.specs.Cache.{Cache}
use Rattle.iom_ats_cache.specs.declared.entry.Entry.{Entry}
use Rattle.iom_table_survey.specs.Reaches.{AddsReach}
use Rattle.iom_way_survey.specs.Found.{IsKeptAmong, IsInCache}
use Rattle.iom_way_survey.proofs.kept.survey_cache.Goals as goal

pub returns-in-Some : goal.returns-in-Some
returns-in-Some c = subst (λ (o : Option Cache). AddsReach c.args.reach.now c.survey_entries.new.reach (IsInCache o)) (sym c.in-Some.is)
    (subst (λ (es : List Entry). AddsReach c.args.reach.now c.survey_entries.new.reach (IsKeptAmong es)) c.entries.ensures c.survey_entries.ensures)
