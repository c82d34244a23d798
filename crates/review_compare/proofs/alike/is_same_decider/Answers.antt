use Rattle.std.proofs.Common.{◌≡◌, ◌∙◌, Option, ap, sym}
use Rattle.sudo_text.specs.declared.line.Place.{Place}
use Rattle.sudo_grammar.specs.declared.kind.Atom.{Atom}
use Rattle.sudo_match.specs.declared.request.Tags.{Tags}
use Rattle.review_compare.specs.declared.compared.Decider.{Decider}
use Rattle.review_compare.proofs.ComparedLemmas.{answer_same}
use Rattle.review_compare.proofs.alike.is_same_decider.Goals as goal

pub returns : goal.returns
returns c = λ e.
    let d = c.args.decider.now in
    let o = c.args.other.now in
    let place : d.place ≡ o.place = c.is_same_place.ensures c.if-not-is_same_place.false in
    let answer : d.answer ≡ o.answer = answer_same d.answer o.answer (sym c.is_same_answer.ensures ∙ c.if-not-is_same_answer.false) in
    let atom : d.atom ≡ o.atom = c.is_same_atom.ensures e in
    ap (λ (p : Place). let r : Decider = record { place = p; answer = d.answer; atom = d.atom } in r) place
    ∙ ap (λ (a : Option Tags). let r : Decider = record { place = o.place; answer = a; atom = d.atom } in r) answer
    ∙ ap (λ (a : Atom). let r : Decider = record { place = o.place; answer = o.answer; atom = a } in r) atom
