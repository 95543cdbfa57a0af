use Rattle.std.proofs.Common.{◌≡◌, ◌∙◌, subst, ap}
use Rattle.iom_device_dir.specs.Located.{loaded_entry}
use Rattle.iom_device_dir.specs.Paths.{ddi, entry_place}
use Rattle.iom_phys_mem.specs.Words.{word_at}
use Rattle.iom_table_survey.specs.Rows.{GrowsBy}
use Rattle.iom_way_survey.specs.Directories.{next_page_of, IsOnPath}
use Rattle.iom_way_survey.proofs.PathLemmas.{adds_on_way}
use Rattle.iom_way_survey.proofs.directory.survey_top.Goals as goal

pub returns-in-Some : goal.returns-in-Some
returns-in-Some c =
    adds_on_way c.args.read.now c.insert.new.self c.survey_middle.new.read c.args.page.number c.in-Some.next.number
    (next_page_of (loaded_entry (word_at 8 c.args.memory.now (entry_place c.args.page.number (ddi 2 c.args.id))))) (λ next. IsOnPath c.args.memory.now 1 next c.args.id)
    (c.in-Some.ensures ∙ ap (λ id. next_page_of (loaded_entry (word_at 8 c.args.memory.now (entry_place c.args.page.number (ddi 2 id))))) c.from.ensures) (subst (λ page. GrowsBy c.args.read.now c.insert.new.self (λ f. f ≡ page)) c.number.ensures.value c.insert.ensures)
    c.survey_middle.ensures
