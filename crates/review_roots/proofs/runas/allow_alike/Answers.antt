use Rattle.std.proofs.Common.{◌∙◌, Bor, Option, ap, option_copied, sym}
use Rattle.sudo_grammar.specs.declared.policy.Runas.{Runas}
use Rattle.sudo_verdict.specs.RunasForms.{runas_allows}
use Rattle.review_roots.proofs.RunasLemmas.{runas-alike}
use Rattle.review_roots.proofs.runas.allow_alike.Goals as goal

pub returns-then-are_alike_or_none : goal.returns-then-are_alike_or_none
returns-then-are_alike_or_none c = λ is p q.
    ap (λ (o : Option (Bor Runas)). runas_allows p q (option_copied o)) c.in-Some-Some.is-0
    ∙ runas-alike c.in-Some-Some.runas.now c.in-Some-Some.other.now (c.are_alike_or_none.ensures c.if-are_alike_or_none.true)
    (c.are_alike_or_none-then-are_alike_or_none.ensures is) p q
    ∙ sym (ap (λ (o : Option (Bor Runas)). runas_allows p q (option_copied o)) c.in-Some-Some.is-1)
