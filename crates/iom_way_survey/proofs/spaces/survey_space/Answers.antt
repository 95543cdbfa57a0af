use Rattle.std.proofs.Common.{subst, option_map}
use Rattle.iom_board.specs.BoardParts.{board_parts}
use Rattle.iom_iommu.specs.Parts.{translation_cache_of}
use Rattle.iom_table_survey.specs.Reaches.{AddsReach}
use Rattle.iom_table_survey.proofs.AddLemmas.{reach_then}
use Rattle.iom_way_survey.specs.Found.{SpaceLeaf, IsCachedIn}
use Rattle.iom_way_survey.specs.Surveys.{rows_in}
use Rattle.iom_way_survey.proofs.spaces.survey_space.Goals as goal

pub returns : goal.returns
returns c =
    let parts = board_parts c.args.hardware.now in
    record {
      tables = c.survey_all_tables.ensures.tables;
      reached = reach_then c.args.reach.now c.survey_translations.new.reach c.survey_all_tables.new.reach (IsCachedIn (translation_cache_of parts.iommu) c.args.space) (SpaceLeaf parts (rows_in (option_map (λ w. w.now) c.args.walks)) c.args.space)
          (subst (λ s. AddsReach c.args.reach.now c.survey_translations.new.reach (IsCachedIn s c.args.space)) c.translations.ensures c.survey_translations.ensures)
          c.survey_all_tables.ensures.leaves;
    }
