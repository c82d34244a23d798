use Rattle.std.proofs.Common.{◌∙◌, List, ap, arith}
use Rattle.sudo_grammar.specs.declared.kind.Member.{Member}
use Rattle.sudo_policy.specs.Written.{written_form}
use Rattle.review_roots.proofs.SoleLemmas.{sole}
use Rattle.review_roots.proofs.alike.are_alike.Goals as goal

pub returns-in-len1 : goal.returns-in-len1
returns-in-len1 c = λ same k p.
    ap (λ (ms : List Member). written_form k p ms)
    (sole c.args.list.now c.one-item.result (omega (arith, c.in-len1.len_at_least, c.in-len1.len_below)) c.one-item.is)
    ∙ c.is_sole.ensures same k p
