-- The runas and the tags at a command, by where they are named last.
use Rattle.std.proofs.Common.{◌≡◌, ℕ, ◌+◌, Bool, false, if◌then◌else◌, List, [], ◌∷◌, map, take}
use Rattle.std.proofs.Common.{Option, Some, None, ◌∙◌, ap, flat_map, option_map, add-one, arith}
use Rattle.std.specs.Prelude.{slice_get}
use Rattle.std.proofs.lemmas.Option.{slice_get-map}
use Rattle.sudo_grammar.specs.Tags.{pairs, same_pair}
use Rattle.sudo_grammar.specs.declared.policy.CommandSpec.{CommandSpec}
use Rattle.sudo_grammar.specs.declared.policy.Runas.{Runas}
use Rattle.sudo_grammar.specs.declared.tag.Tag.{Tag}
use Rattle.sudo_grammar.specs.declared.tag.TagPair.{TagPair}
use Rattle.sudo_laws.proofs.LastLemmas.{first-none, first-there, last_set-flat, last_set-none, last_set-there}
use Rattle.sudo_laws.proofs.TestLemmas.{Each, each_first, each_none, each_one, each_rest}
use Rattle.sudo_laws.specs.InForce.{HaveNone, IsNamedAt, IsTaggedAt, UpTo}
use Rattle.sudo_verdict.specs.Last.{last_set}
use Rattle.sudo_verdict.specs.Tagged.{choice_of, runas_at, runas_before, tags_at, tags_before, tags_named}

-- ---- Runas

pub runas_named : (commands : List CommandSpec) (i : ℕ) (runas : Runas) → IsNamedAt commands i runas
    → runas_at commands i ≡ Some runas
unfolding runas_at runas_before
runas_named commands i runas h =
    ap (λ n. last_set (map (λ (c : CommandSpec). c.runas) (take n commands))) (add-one i)
    ∙ first-there (λ (c : CommandSpec). c.runas) commands i h.place h.command runas h.there h.before h.names h.between

pub runas_none : (commands : List CommandSpec) (i : ℕ) → UpTo commands i (λ c. c.runas ≡ None) → runas_at commands i ≡ None
unfolding runas_at runas_before
runas_none commands i none =
    first-none (λ (c : CommandSpec). c.runas) commands (i + 1) (λ k c less is. none k c (omega (arith, less)) is)

-- ---- Tags

-- a tag of another pair chooses nothing
no_choice : (pair : TagPair) (tags : List Tag) → HaveNone pair tags → Each (choice_of pair) None tags
no_choice pair [] none = each_none (choice_of pair) None
no_choice pair (t ∷ tags) none =
    each_one (choice_of pair) None t tags
    (ap (λ b. if b then Some t.on else None) (each_first (λ (u : Tag). same_pair pair u.pair) false t tags none))
    (no_choice pair tags (each_rest (λ (u : Tag). same_pair pair u.pair) false t tags none))

-- the choice for a pair at a command
abbrev named_at : TagPair → CommandSpec → Option Bool
named_at pair c = last_set (map (choice_of pair) c.tags)

none_at : (pair : TagPair) (c : CommandSpec) → HaveNone pair c.tags → named_at pair c ≡ None
none_at pair c none = last_set-none (choice_of pair) c.tags (no_choice pair c.tags none)

choice_at : (commands : List CommandSpec) (i n : ℕ) (pair : TagPair) → slice_get pairs n ≡ Some pair
    → slice_get (tags_at commands i).choices n ≡ Some (last_set (map (named_at pair) (take (i + 1) commands)))
unfolding tags_at tags_before tags_named
choice_at commands i n pair is =
    let tags : List Tag = flat_map (λ c. c.tags) (take (i + 1) commands) in
    slice_get-map (λ p. last_set (map (choice_of p) tags)) pairs n
    ∙ ap (option_map (λ p. last_set (map (choice_of p) tags))) is
    ∙ ap Some (last_set-flat (choice_of pair) (λ (c : CommandSpec). c.tags) (take (i + 1) commands))

pub tag_named : (commands : List CommandSpec) (i n : ℕ) (pair : TagPair) (on : Bool) → slice_get pairs n ≡ Some pair
    → IsTaggedAt pair commands i on → slice_get (tags_at commands i).choices n ≡ Some (Some on)
tag_named commands i n pair on is h =
    let chosen : choice_of pair h.tag ≡ Some on = ap (λ b. if b then Some h.tag.on else None) h.of_pair ∙ ap Some h.chooses in
    let here : named_at pair h.command ≡ Some on =
    ap (λ tags. last_set (map (choice_of pair) tags)) h.tags
    ∙ last_set-there (choice_of pair) h.front h.rest h.tag on chosen (no_choice pair h.rest h.last) in
    choice_at commands i n pair is
    ∙ ap (λ m. Some (last_set (map (named_at pair) (take m commands)))) (add-one i)
    ∙ ap Some (first-there (named_at pair) commands i h.place h.command on h.there h.before here
    (λ k c after upto at. none_at pair c (h.between k c after upto at)))

pub tag_none : (commands : List CommandSpec) (i n : ℕ) (pair : TagPair) → slice_get pairs n ≡ Some pair
    → UpTo commands i (λ c. HaveNone pair c.tags) → slice_get (tags_at commands i).choices n ≡ Some None
tag_none commands i n pair is none =
    choice_at commands i n pair is
    ∙ ap Some (first-none (named_at pair) commands (i + 1) (λ k c less at. none_at pair c (none k c (omega (arith, less)) at)))
