use Rattle.std.proofs.Common.{sym, ◌∙◌}
use Rattle.sudo_match.specs.Matching.{user_fits}
use Rattle.review_subjects.proofs.Values.{value_found, value_back}
use Rattle.review_subjects.proofs.written.user_value.Goals as goal

pub returns-then-user_matches : goal.returns-then-user_matches
returns-then-user_matches c =
    sym (c.loop-signed.invariant
    ∙ value_found (λ a. user_fits a c.args.user.now) c.loop-signed.left.now c.in-Some.rest.now c.in-Some.signed.now
    c.in-Some.ensures.cases.0 (sym c.user_matches.ensures ∙ c.if-user_matches.true))

pub loop-signed-preserved : goal.loop-signed-preserved
loop-signed-preserved c =
    c.loop-signed.invariant
    ∙ value_back (λ a. user_fits a c.args.user.now) c.loop-signed.left.now c.in-Some.rest.now c.in-Some.signed.now
    c.in-Some.ensures.cases.0 (sym c.user_matches.ensures ∙ c.if-user_matches.false)
