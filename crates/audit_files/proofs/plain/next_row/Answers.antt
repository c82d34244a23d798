use Rattle.std.proofs.Common.{◌≡◌, ◌∙◌, ◌∷◌, ℕ, ap}
use Rattle.audit_files.proofs.PlainRows.{after_feed, behind_line}
use Rattle.audit_files.proofs.plain.next_row.Goals as goal

pub returns-clause-reads : goal.returns-clause-reads
returns-clause-reads c =
    let line : c.args.text.now ≡ 10 ∷ c.in-Some.row.now = c.in-Some.ensures.cases.0
    ∙ ap (λ (b : ℕ). b ∷ c.in-Some.row.now) c.if-end-ne10.false in
    rw (line, after_feed c.in-Some.row.now) c.plain_row.ensures.reads

pub returns-clause-behind : goal.returns-clause-behind
returns-clause-behind c =
    let line : c.args.text.now ≡ 10 ∷ c.in-Some.row.now = c.in-Some.ensures.cases.0
    ∙ ap (λ (b : ℕ). b ∷ c.in-Some.row.now) c.if-end-ne10.false in
    behind_line (λ p. p.1.now) c.args.text.now c.in-Some.row.now 10 c.plain_row.result line c.plain_row.ensures.behind
