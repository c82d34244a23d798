use Rattle.std.proofs.Common.{◌≡◌, ◌∙◌, Bor, List, ap, arith, sym, ℕ}
use Rattle.std.specs.Prelude.{bytes_eq}
use Rattle.sudo_grammar.specs.declared.kind.Atom.TheVariants as atom
use Rattle.sudo_grammar.specs.declared.kind.Member.{Member}
use Rattle.sudo_verdict.specs.Values.{user_allowed}
use Rattle.review_roots.proofs.SoleLemmas.{name-allows, sole}
use Rattle.review_roots.proofs.listing.sole_name.Goals as goal

pub returns-then-member-eq0 : goal.returns-then-member-eq0
returns-then-member-eq0 c = λ name p u is.
    let m = c.member-item.result in
    let same : c.as_slice.result ≡ name = cc in
    ap (λ (ms : List Member). user_allowed p ms u)
    (sole c.args.users.now m (omega (arith, c.in-len1.len_at_least, c.in-len1.len_below)) c.member-item.is)
    ∙ name-allows m c.as_slice.result.now (omega (arith, c.if-member-eq0.true)) (c.in-Name.is ∙ ap atom.Name (sym c.as_slice.ensures)) p u
    ∙ ap (λ (s : Bor (List ℕ)). bytes_eq s.now u.name) same
