use Rattle.audit_run.proofs.ShardLaw.{refusal_of_either, refusal_of_first, refusal_of_second, source_of_first}
use Rattle.audit_run.proofs.laws.shards_have_their_refusals.Goals as goal

pub returns : goal.returns
returns c = record {
  source = λ names first second states more name part why shards is. source_of_first names first second states more shards name part why is;
  of_first = λ names first second states more fault shards is clear. refusal_of_first names first second states more shards fault clear is;
  of_second = λ names first second states more fault shards is clear. refusal_of_second names first second states more
      shards fault clear is;
  only = λ names first second states more fault shards is. refusal_of_either names first second states more shards fault is;
}
