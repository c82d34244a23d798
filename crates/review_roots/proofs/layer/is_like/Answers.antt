use Rattle.std.proofs.Common.{◌∙◌, ap, rules, subst, sym}
use Rattle.review_roots.specs.declared.toward.Toward.{Toward}
use Rattle.review_roots.specs.Body.Towards.{AgreeAlone}
use Rattle.review_roots.proofs.layer.is_like.Goals as goal

pub is_as_allowed-requires : goal.is_as_allowed-requires
is_as_allowed-requires c = subst (λ t. AgreeAlone t c.args.toward.now) (sym c.get.ensures) (c.requires.alone (search rules))

pub returns-then-aimed-aim : goal.returns-then-aimed-aim
returns-then-aimed-aim c = λ is. record {
  user = search rules;
  level = c.requires.level;
  counted = c.requires.counted;
  allowed = ap (λ (t : Toward). t.allowed.items) (sym c.get.ensures) ∙ c.is_as_allowed.ensures is;
}
