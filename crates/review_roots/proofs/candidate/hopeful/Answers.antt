use Rattle.std.proofs.Common.{◌≡◌, ◌∙◌, Option, Some, None, ap, refl, subst, sym, false}
use Rattle.std.specs.List.{list_any}
use Rattle.review_roots.specs.declared.candidate.Candidate.{Candidate}
use Rattle.review_roots.specs.Body.Candidates.{Qualifies, raises_for}
use Rattle.review_roots.proofs.IndexLemmas.{none-listed}
use Rattle.review_roots.proofs.candidate.hopeful.Goals as goal

pub returns-then-person-ne0-clause-unknown : goal.returns-then-person-ne0-clause-unknown
returns-then-person-ne0-clause-unknown c = λ none u is.
    let ground = c.args.ground in
    let e : Some c.in-Some.person ≡ Some u = sym c.in-Some.is ∙ c.in_ok-person.ensures ∙ is in
    let same : c.in-Some.person ≡ u = cc in
    subst (λ u. list_any (raises_for ground.checked.now ground.least u) ground.blocks.now ≡ false) same
    (none-listed (raises_for ground.checked.now ground.least c.in-Some.person) ground.blocks.now
    (sym c.in_ok-strong.ensures ∙ sym c.deref.ensures.value ∙ c.is_none.ensures c.if-is_none.true))

-- what there is, or another one
abbrev there-or : Candidate → Option Candidate → Candidate
there-or c None = c
there-or c (Some found) = found

pub returns-clause-known : goal.returns-clause-known
returns-clause-known c = λ found is.
    let ground = c.args.ground in
    let made : Candidate = record {
      state = c.args.state;
      person = c.in-Some.person;
      listed = c.in_ok-listed.listed;
      strong = c.in_ok-strong.strong;
      toward = c.in_ok-toward.toward;
    } in
    subst (λ k. (k.state ≡ c.args.state)
    × Qualifies ground.checked.now ground.directory.now ground.groups.now ground.least ground.blocks.now k)
    (ap (there-or made) is) (
      refl,
      record {
        person = sym c.in_ok-person.ensures ∙ c.in-Some.is;
        listed = c.in_ok-listed.ensures;
        strong = c.in_ok-strong.ensures;
        toward = c.in_ok-toward.ensures.toward;
        strong_to = c.in_ok-toward.ensures.strong;
      },
    )
