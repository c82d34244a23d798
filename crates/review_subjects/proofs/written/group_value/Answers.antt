use Rattle.std.proofs.Common.{sym, ◌∙◌}
use Rattle.sudo_match.specs.Matching.{group_fits}
use Rattle.review_subjects.proofs.Values.{value_found, value_back}
use Rattle.review_subjects.proofs.written.group_value.Goals as goal

pub returns-then-group_matches : goal.returns-then-group_matches
returns-then-group_matches c =
    sym (c.loop-signed.invariant
    ∙ value_found (λ a. group_fits a c.args.group.now) c.loop-signed.left.now c.in-Some.rest.now c.in-Some.signed.now
    c.in-Some.ensures.cases.0 (sym c.group_matches.ensures ∙ c.if-group_matches.true))

pub loop-signed-preserved : goal.loop-signed-preserved
loop-signed-preserved c =
    c.loop-signed.invariant
    ∙ value_back (λ a. group_fits a c.args.group.now) c.loop-signed.left.now c.in-Some.rest.now c.in-Some.signed.now
    c.in-Some.ensures.cases.0 (sym c.group_matches.ensures ∙ c.if-group_matches.false)
