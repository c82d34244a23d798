use Rattle.std.proofs.Common.{◌≡◌, ◌∙◌, List, Option, ap, sym}
use Rattle.sudo_grammar.specs.declared.kind.Atom.{Atom}
use Rattle.sudo_match.specs.declared.request.Tags.{Tags}
use Rattle.review_compare.specs.Agreement.{Ruling}
use Rattle.review_compare.specs.Lines.{Lined}
use Rattle.review_compare.proofs.ComparedLemmas.{answer_same}
use Rattle.review_compare.proofs.compared.is_same_ruling.Goals as goal

abbrev ruling : List Atom → Atom → Option Tags → Ruling Lined (Option Tags)
ruling before atom answer = record { atom = record { before = before; atom = atom }; answer = answer }

pub returns : goal.returns
returns c = λ e.
    let r = c.args.row.now in
    let o = c.args.other.now in
    let answer : r.answer ≡ o.answer = answer_same r.answer o.answer (sym c.is_same_answer.ensures ∙ c.if-not-is_same_answer.false) in
    let atom : r.shape.now.atom ≡ o.shape.now.atom = c.is_same_atom.ensures c.if-not-is_same_atom.false in
    let before : r.before.now ≡ o.before.now = c.are_same_atoms.ensures e in
    ap (ruling r.before.now r.shape.now.atom) answer
    ∙ ap (λ (a : Atom). ruling r.before.now a o.answer) atom
    ∙ ap (λ (atoms : List Atom). ruling atoms o.shape.now.atom o.answer) before
