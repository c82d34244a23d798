use Rattle.std.proofs.Common.{◌≡◌, map, take}
use Rattle.sudo_parser.specs.Texts.{user_text}
use Rattle.review_compare.proofs.text.user_names.Given as goal

abbrev pub invariant-loop-person : goal.invariant-loop-person
invariant-loop-person l = map (λ v. v.items) l.names.items ≡ map (λ u. user_text u.name) (take l.person-index l.people)
