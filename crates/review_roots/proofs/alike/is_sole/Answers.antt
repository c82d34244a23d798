use Rattle.std.proofs.Common.{◌∙◌, List, ap, arith, sym}
use Rattle.sudo_grammar.specs.declared.kind.Member.{Member}
use Rattle.sudo_policy.specs.Written.{written_form}
use Rattle.review_roots.proofs.SoleLemmas.{alike-alone, sole}
use Rattle.review_roots.proofs.alike.is_sole.Goals as goal

pub returns-then-one-member : goal.returns-then-one-member
returns-then-one-member c = λ same k p.
    let one = c.one-item.result in
    sym (ap (λ (ms : List Member). written_form k p ms)
    (sole c.args.list.now one (omega (arith, c.in-len1.len_at_least, c.in-len1.len_below)) c.one-item.is)
    ∙ alike-alone one c.args.member.now (omega (arith, c.if-one-member.true)) (c.is_same_atom.ensures same) k p)
