use Rattle.iom_way_survey.proofs.BackLemmas.{way_back}
use Rattle.iom_way_survey.proofs.WayLemmas.{way_of}
use Rattle.iom_way_survey.proofs.laws.way_law.Goals as goal

pub returns : goal.returns
returns c = record {
  all = λ trusted parts rows device frame kind walks plugs. way_of trusted parts rows walks plugs device frame kind;
  sole = λ trusted parts rows device frame kind walks. way_back trusted parts rows walks device frame kind;
}
