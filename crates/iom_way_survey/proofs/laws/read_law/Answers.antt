use Rattle.iom_way_survey.proofs.BackLemmas.{tables_back}
use Rattle.iom_way_survey.proofs.DirectoryLemmas.{tables_read, directory_reads}
use Rattle.iom_way_survey.proofs.laws.read_law.Goals as goal

pub returns : goal.returns
returns c = record {
  tables = λ trusted parts rows frame walks plugs. tables_read trusted parts rows walks plugs frame;
  tables_back = λ trusted parts rows frame walks. tables_back trusted parts rows walks frame;
  directory = λ trusted parts rows frame walks plugs. directory_reads trusted parts rows walks plugs frame;
}
