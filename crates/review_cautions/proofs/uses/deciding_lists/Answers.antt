use Rattle.std.proofs.Common.{◌∙◌, ap, map, sym}
use Rattle.std.specs.List.{list_any}
use Rattle.sudo_policy.specs.declared.finding.Finding.{Finding}
use Rattle.review_cautions.specs.Body.Looking.{scanned_view}
use Rattle.review_cautions.specs.Body.UnusedNames.{is_unused}
use Rattle.review_cautions.proofs.UseLaws.{all_decide}
use Rattle.review_cautions.proofs.uses.deciding_lists.Goals as goal

pub returns : goal.returns
returns c =
    all_decide c.args.policy.now c.in_ok-found.found.items (map scanned_view c.args.lists.now) c.in_ok-found.ensures
    (sym (ap (list_any (λ (f : Finding). is_unused f.class)) c.deref.ensures.value)
    ∙ sym c.find_unused.ensures ∙ c.if-find_unused.false) c.requires
