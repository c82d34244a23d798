use Rattle.std.proofs.Common.{◌≡◌, map, take}
use Rattle.sudo_parser.specs.Texts.{user_text}
use Rattle.review_compare.proofs.text.group_names.Given as goal

abbrev pub invariant-loop-group : goal.invariant-loop-group
invariant-loop-group l = map (λ v. v.items) l.names.items ≡ map (λ g. user_text g.name) (take l.group-index l.groups)
