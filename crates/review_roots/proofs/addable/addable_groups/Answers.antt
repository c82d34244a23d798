use Rattle.std.proofs.Common.{◌≡◌, ◌∙◌, [], ap, cond, rules, sym, true}
use Rattle.review_roots.specs.AddableGroups.{policy_has_groups, times}
use Rattle.review_roots.specs.KnownGroups.{known_groups}
use Rattle.review_roots.proofs.addable.addable_groups.Goals as goal

pub returns : goal.returns
returns c =
    let yes : policy_has_groups c.args.checked.now ≡ true = search rules in
    record {
      same = λ g.
          c.sort_groups.ensures.same g
          ∙ ap (times g) (c.in_ok-groups.ensures ∙ sym (ap (λ b. cond b (known_groups c.args.directory.now) []) yes));
      sorted = c.in_ok-sort_groups.ensures.sorted;
    }
