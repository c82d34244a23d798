-- The tags of lists end to end: for each pair, the last list that names it.
use Rattle.std.proofs.Common.{◌≡◌, ℕ, zero, suc, Bool, true, false, not, ◌&&◌, if◌then◌else◌, List, [], ◌∷◌, ◌++◌}
use Rattle.std.proofs.Common.{length, get_or, map, zip, Option, Some, None, refl, sym, ◌∙◌, ap, flat_map, arith}
use Rattle.std.specs.Prelude.{slice_set, position, unwrap_or}
use Rattle.std.specs.List.{list_all}
use Rattle.std.specs.Option.{option_or}
use Rattle.std.proofs.lemmas.List.{append-nil, map-append, length-map}
use Rattle.std.proofs.lemmas.List.Concat.{flat_map-append}
use Rattle.std.proofs.lemmas.Slice.Zip.{length-zip}
use Rattle.sudo_grammar.specs.declared.tag.Tag.{Tag}
use Rattle.sudo_grammar.specs.declared.tag.TagPair.{TagPair}
use Rattle.sudo_grammar.specs.declared.tag.TagPair.TheVariants as pair
use Rattle.sudo_grammar.specs.declared.policy.CommandSpec.{CommandSpec}
use Rattle.sudo_grammar.specs.Tags.{pairs, same_pair}
use Rattle.sudo_match.specs.declared.request.Tags.{Tags}
use Rattle.sudo_verdict.specs.Last.{last_set}
use Rattle.sudo_verdict.specs.Tagged.{tags_named, tags_before, or_tags}
use Rattle.sudo_verdict.proofs.Lasts.{option_or-assoc}
use Rattle.sudo_policy.proofs.SurveyLemmas.{option_or-none}

-- for each pair, the first choice, or else the second
abbrev or_each : List (Option Bool) → List (Option Bool) → List (Option Bool)
or_each xs ys = map (λ c. option_or c.0 c.1) (zip xs ys)

or_each-assoc : (a b c : List (Option Bool)) → or_each (or_each a b) c ≡ or_each a (or_each b c)
or_each-assoc [] b c = refl
or_each-assoc (x ∷ a) [] c = refl
or_each-assoc (x ∷ a) (y ∷ b) [] = refl
or_each-assoc (x ∷ a) (y ∷ b) (z ∷ c) = rw (option_or-assoc, or_each-assoc a b c) refl

-- true at index n alone
abbrev is_only : ℕ → List Bool → Bool
is_only n [] = false
is_only zero (b ∷ bs) = b && list_all not bs
is_only (suc n) (b ∷ bs) = not b && is_only n bs

abbrev choice_at : Bool → Bool → Option Bool
choice_at on b = if b then Some on else None

choices_of_others : (on : Bool) (bs : List Bool) (c : List (Option Bool)) → length c ≡ length bs → list_all not bs ≡ true
    → or_each c (map (choice_at on) bs) ≡ c
choices_of_others on [] [] l h = refl
choices_of_others on [] (x ∷ c) l h = cc
choices_of_others on (b ∷ bs) [] l h = cc
choices_of_others on (true ∷ bs) (x ∷ c) l h = cc
choices_of_others on (false ∷ bs) (x ∷ c) l h = rw (option_or-none, choices_of_others on bs c (omega (arith, l)) h) refl

-- a choice at one place alone
choice_at_place : (on : Bool) (n : ℕ) (bs : List Bool) (c : List (Option Bool)) → length c ≡ length bs → is_only n bs ≡ true
    → or_each c (map (choice_at on) bs) ≡ slice_set c n (option_or (get_or c n None) (Some on))
choice_at_place on n [] c l h = cc
choice_at_place on n (b ∷ bs) [] l h = cc
choice_at_place on zero (true ∷ bs) (x ∷ c) l h = rw (choices_of_others on bs c (omega (arith, l)) h) refl
choice_at_place on zero (false ∷ bs) (x ∷ c) l h = cc
choice_at_place on (suc n) (true ∷ bs) (x ∷ c) l h = cc
choice_at_place on (suc n) (false ∷ bs) (x ∷ c) l h = rw (option_or-none, choice_at_place on n bs c (omega (arith, l)) h) refl

-- A pair stands once among the pairs.
once : (p : TagPair) → is_only (unwrap_or (position (same_pair p) pairs) 0) (map (λ q. same_pair q p) pairs) ≡ true
once pair.Exec = refl
once _ = refl

-- There is a choice for each pair.
abbrev pub IsWhole : Tags → Type 0
IsWhole t = length t.choices ≡ length pairs

-- one tag more, at its pair's place
pub or_tags-at : (t : Tags) (tag : Tag) (n : ℕ) → IsWhole t → Some n ≡ position (same_pair tag.pair) pairs
    → record { choices = slice_set t.choices n (option_or (get_or t.choices n None) (Some tag.on)) } ≡ or_tags t (tags_named (tag ∷ []))
unfolding tags_named
or_tags-at t tag n whole is =
    let places : List Bool = map (λ q. same_pair q tag.pair) pairs in
    let here : is_only n places ≡ true = ap (λ o. is_only (unwrap_or o 0) places) is ∙ once tag.pair in
    ap (λ cs. record { choices = cs }) (sym (choice_at_place tag.on n places t.choices whole here))

-- for each pair, what the first, or else the second list names last
last_set-append : {X : Type 0} (xs ys : List (Option X)) → last_set (xs ++ ys) ≡ option_or (last_set ys) (last_set xs)
last_set-append [] ys = sym (option_or-none (last_set ys))
last_set-append (x ∷ xs) ys = ap (λ r. option_or r x) (last_set-append xs ys) ∙ option_or-assoc (last_set ys) (last_set xs) x

pub tags_named-append : (xs ys : List Tag) → tags_named (xs ++ ys) ≡ or_tags (tags_named ys) (tags_named xs)
unfolding tags_named
tags_named-append xs ys = simp (map-append, last_set-append)

or_tags-assoc : (t u v : Tags) → or_tags (or_tags t u) v ≡ or_tags t (or_tags u v)
or_tags-assoc t u v = ap (λ cs. record { choices = cs }) (or_each-assoc t.choices u.choices v.choices)

or_tags-none : (t : Tags) → IsWhole t → or_tags t (tags_named []) ≡ t
unfolding tags_named
or_tags-none t whole = ap (λ cs. record { choices = cs }) (choices_of_others true (map (λ p. false) pairs) t.choices whole refl)

pub or_tags_whole : (t : Tags) (tags : List Tag) → IsWhole t → IsWhole (or_tags t (tags_named tags))
unfolding tags_named
or_tags_whole t tags whole = rw (length-map, length-zip, whole) refl

-- one tag more, from the end of a list
pub or_tags_push : (t : Tags) (rest left : List Tag) (tag : Tag) → left ≡ rest ++ tag ∷ []
    → or_tags t (tags_named left) ≡ or_tags (or_tags t (tags_named (tag ∷ []))) (tags_named rest)
or_tags_push t rest left tag is =
    rw (is, tags_named-append rest (tag ∷ [])) (sym (or_tags-assoc t (tags_named (tag ∷ [])) (tags_named rest)))

-- one command more, from the end of a section
pub tags_before_push : (t : Tags) (rest left : List CommandSpec) (c : CommandSpec) → left ≡ rest ++ c ∷ []
    → or_tags t (tags_before left) ≡ or_tags (or_tags t (tags_named c.tags)) (tags_before rest)
unfolding tags_before
tags_before_push t rest left c is =
    rw (is, flat_map-append (λ c. c.tags) rest (c ∷ []), tags_named-append (flat_map (λ c. c.tags) rest) (c.tags ++ []), append-nil c.tags)
    (sym (or_tags-assoc t (tags_named c.tags) (tags_named (flat_map (λ c. c.tags) rest))))

pub or_tags_end : (t : Tags) (left : List Tag) → IsWhole t → length left ≡ 0 → or_tags t (tags_named left) ≡ t
or_tags_end t [] whole h = or_tags-none t whole
or_tags_end t (x ∷ xs) whole h = cc

pub tags_before_all : (commands : List CommandSpec) → tags_before commands ≡ or_tags (tags_named []) (tags_before commands)
unfolding tags_before tags_named
tags_before_all commands = refl

pub tags_before_end : (t : Tags) (left : List CommandSpec) → IsWhole t → length left ≡ 0 → or_tags t (tags_before left) ≡ t
unfolding tags_before
tags_before_end t [] whole h = or_tags-none t whole
tags_before_end t (x ∷ xs) whole h = cc

-- The steps of the loop over the commands of a section.
pub ruleset commands_lemmas = (tags_before_push, tags_before_all, tags_before_end, or_tags_whole)
