use Rattle.std.proofs.Common.{◌≡◌, ◌++◌, ◌∷◌, flat_map, take}
use Rattle.sudo_parser.specs.Texts.{signed_text}
use Rattle.review_grants.proofs.runas_text.push_separated.Given as goal

-- the members so far were written
abbrev pub invariant-loop-member : goal.invariant-loop-member
invariant-loop-member l = l.text.items
    ≡ l.fn.text.items ++ flat_map (λ s. 44 ∷ 32 ∷ signed_text s) (take l.member-index l.members)
