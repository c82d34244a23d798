use Rattle.std.proofs.Common.{◌≡◌, map, take}
use Rattle.sudo_parser.specs.Texts.{user_text}
use Rattle.review_compare.proofs.text.host_names.Given as goal

abbrev pub invariant-loop-machine : goal.invariant-loop-machine
invariant-loop-machine l = map (λ v. v.items) l.names.items ≡ map (λ m. user_text m.name) (take l.machine-index l.machines)
