use Rattle.std.proofs.Common.{◌≡◌, ◌++◌, ◌∙◌, List, ap, drop, false, map, rules}
use Rattle.std.specs.List.{list_all}
use Rattle.review_grants.proofs.GrantSteps.{names-joined}
use Rattle.review_grants.proofs.names.marked_names.Goals as goal

pub returns : goal.returns
returns c =
    let not_all : list_all (λ m. m) c.args.marks.now ≡ false = search rules in
    names-joined c.args.marks.now (map (λ v. v.items) c.args.names.now) _ c.new-text.result.items _ not_all c.in_ok-separated.ensures
    c.new-text.ensures.items
    (c.in_ok-push_joined.ensures ∙ ap (λ (t : List _). c.new-text.result.items ++ drop 2 t) c.deref.ensures.value)
