-- A tag more at the end of a list, and a command more at the end of a section.
use Rattle.std.proofs.Common.{◌≡◌, ◌∙◌, ℕ, zero, suc, Bool, true, false, not, ◌&&◌, if◌then◌else◌, List, [], ◌∷◌, ◌++◌}
use Rattle.std.proofs.Common.{length, map, zip, flat_map, Option, Some, None, refl}
use Rattle.std.proofs.Common.{sym, ap, arith, append-nil, append_assoc, take, ◌<◌, ◌+◌}
use Rattle.std.specs.Prelude.{slice_index_or, slice_set, position, unwrap_or}
use Rattle.std.specs.List.{list_all}
use Rattle.std.specs.Option.{option_or}
use Rattle.std.proofs.lemmas.List.Concat.{flat_map-append}
use Rattle.sudo_grammar.specs.declared.tag.Tag.{Tag}
use Rattle.sudo_grammar.specs.declared.tag.TagPair.{TagPair}
use Rattle.sudo_grammar.specs.declared.tag.TagPair.TheVariants as pair
use Rattle.sudo_grammar.specs.declared.policy.CommandSpec.{CommandSpec}
use Rattle.sudo_grammar.specs.Tags.{pairs, same_pair}
use Rattle.sudo_match.specs.declared.request.Tags.{Tags}
use Rattle.sudo_verdict.specs.Tagged.{or_tags, runas_before, tags_before, tags_named}
use Rattle.sudo_verdict.proofs.Lasts.{last_set-map-push}
use Rattle.sudo_verdict.proofs.TagLists.{tags_named-append}
use Rattle.review_grants.proofs.ListSteps.{index-there, take-more}

-- for each pair the first choice, otherwise the second
abbrev or_each : List (Option Bool) → List (Option Bool) → List (Option Bool)
or_each xs ys = map (λ c. option_or c.0 c.1) (zip xs ys)

-- true at index n alone
abbrev is_only : ℕ → List Bool → Bool
is_only n [] = false
is_only zero (b ∷ bs) = b && list_all not bs
is_only (suc n) (b ∷ bs) = not b && is_only n bs

abbrev choice_at : Bool → Bool → Option Bool
choice_at on b = if b then Some on else None

choices_of_others : (on : Bool) (bs : List Bool) (c : List (Option Bool)) → length c ≡ length bs → list_all not bs ≡ true
    → or_each (map (choice_at on) bs) c ≡ c
choices_of_others on [] [] l h = refl
choices_of_others on [] (x ∷ c) l h = cc
choices_of_others on (b ∷ bs) [] l h = cc
choices_of_others on (true ∷ bs) (x ∷ c) l h = cc
choices_of_others on (false ∷ bs) (x ∷ c) l h = rw (choices_of_others on bs c (omega (arith, l)) h) refl

-- a choice at one place alone
choice_at_place : (on : Bool) (n : ℕ) (bs : List Bool) (c : List (Option Bool)) → length c ≡ length bs → is_only n bs ≡ true
    → or_each (map (choice_at on) bs) c ≡ slice_set c n (Some on)
choice_at_place on n [] c l h = cc
choice_at_place on n (b ∷ bs) [] l h = cc
choice_at_place on zero (true ∷ bs) (x ∷ c) l h = rw (choices_of_others on bs c (omega (arith, l)) h) refl
choice_at_place on zero (false ∷ bs) (x ∷ c) l h = cc
choice_at_place on (suc n) (true ∷ bs) (x ∷ c) l h = cc
choice_at_place on (suc n) (false ∷ bs) (x ∷ c) l h = rw (choice_at_place on n bs c (omega (arith, l)) h) refl

-- a pair stands once among the pairs
once : (p : TagPair) → is_only (unwrap_or (position (same_pair p) pairs) 0) (map (λ q. same_pair q p) pairs) ≡ true
once pair.Exec = refl
once _ = refl

-- one tag more, at its pair's place
pub later-at : (t : Tags) (tag : Tag) (n : ℕ) → length t.choices ≡ length pairs → Some n ≡ position (same_pair tag.pair) pairs
    → record { choices = slice_set t.choices n (Some tag.on) } ≡ or_tags (tags_named (tag ∷ [])) t
unfolding tags_named
later-at t tag n whole is =
    let places : List Bool = map (λ q. same_pair q tag.pair) pairs in
    let here : is_only n places ≡ true = ap (λ o. is_only (unwrap_or o 0) places) is ∙ once tag.pair in
    ap (λ cs. record { choices = cs }) (sym (choice_at_place tag.on n places t.choices whole here))

pub named-more : (before : List Tag) (tag : Tag) (t : Tags) → t ≡ tags_named before
    → or_tags (tags_named (tag ∷ [])) t ≡ tags_named (before ++ tag ∷ [])
named-more before tag t is = rw is (sym (tags_named-append before (tag ∷ [])))

pub tags_before-more : (before : List CommandSpec) (c : CommandSpec)
    → tags_named (flat_map (λ c. c.tags) before ++ c.tags) ≡ tags_before (before ++ c ∷ [])
unfolding tags_before
tags_before-more before c =
    sym (ap tags_named (flat_map-append (λ c. c.tags) before (c ∷ [])
    ∙ ap (λ (t : List Tag). flat_map (λ c. c.tags) before ++ t) (append-nil c.tags)))

pub tags_before-named : (before : List CommandSpec) → tags_before before ≡ tags_named (flat_map (λ c. c.tags) before)
unfolding tags_before
tags_before-named before = refl

pub runas_before-more : (before : List CommandSpec) (c : CommandSpec)
    → runas_before (before ++ c ∷ []) ≡ option_or c.runas (runas_before before)
unfolding runas_before
runas_before-more before c = last_set-map-push (λ c. c.runas) before c

-- one more tag of a list behind others
pub named-next : (before later : List Tag) (at : ℕ) (other : Tag) (t : Tags) → at < length later
    → t ≡ tags_named (before ++ take at later)
    → or_tags (tags_named (slice_index_or later at other ∷ [])) t ≡ tags_named (before ++ take (at + 1) later)
named-next before later at other t within is =
    named-more (before ++ take at later) (slice_index_or later at other) t is
    ∙ ap tags_named (append_assoc before (take at later) (slice_index_or later at other ∷ [])
    ∙ ap (λ (ts : List Tag). before ++ ts) (sym (take-more later at (slice_index_or later at other) within (index-there later at other
    within))))
