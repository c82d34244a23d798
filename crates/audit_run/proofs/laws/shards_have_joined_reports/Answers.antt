use Rattle.audit_run.proofs.Apart.{parted, roster-joined}
use Rattle.audit_run.proofs.JoinedReports.{text_joined}
use Rattle.audit_run.proofs.ShardLaw.{outcome_cut, outcome_joined}
use Rattle.audit_run.proofs.laws.shards_have_joined_reports.Goals as goal

pub returns : goal.returns
returns c = record {
  roster = λ first second apart. roster-joined first second (parted first second apart);
  report = λ names first second states more report other shards is also. outcome_joined names first second states more
      shards report other is also;
  only = λ names first second states more report shards is. outcome_cut names first second states more shards report is;
  text = text_joined;
}
