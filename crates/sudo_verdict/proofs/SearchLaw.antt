-- The search from the last grant back finds the verdict of the last grant that applies.
use Rattle.std.proofs.Common.{◌≡◌, ℕ, zero, suc, ◌+◌, Bool, true, false, not, cond, ◌&&◌, List, [], ◌∷◌, ◌++◌, map}
use Rattle.std.proofs.Common.{length, take, flat_map, Option, Some, None, refl, sym, ◌∙◌, ap, arith, option_to_list}
use Rattle.std.specs.Option.{option_or, option_map, unwrap_or}
use Rattle.std.specs.List.{slice_get}
use Rattle.sudo_grammar.specs.declared.kind.Kind.TheVariants as kind
use Rattle.sudo_grammar.specs.declared.kind.Signed.{Signed}
use Rattle.sudo_grammar.specs.declared.kind.Member.{Member}
use Rattle.sudo_grammar.specs.declared.policy.CommandSpec.{CommandSpec}
use Rattle.sudo_grammar.specs.declared.policy.Section.{Section}
use Rattle.sudo_grammar.specs.declared.policy.Entry.{Entry}
use Rattle.sudo_grammar.specs.declared.policy.EntryBody.{EntryBody}
use Rattle.sudo_grammar.specs.declared.policy.EntryBody.TheVariants.{Rule}
use Rattle.sudo_grammar.specs.declared.policy.Policy.{Policy}
use Rattle.sudo_policy.specs.Written.{written_form}
use Rattle.sudo_policy.specs.Resolving.{resolves, runas_resolves}
use Rattle.sudo_policy.specs.Body.Resolving.{command_resolves}
use Rattle.sudo_text.specs.declared.line.Place.{Place}
use Rattle.sudo_match.specs.Matching.{command_fits}
use Rattle.sudo_match.specs.declared.request.Verdict.{Verdict}
use Rattle.sudo_match.specs.declared.request.Verdict.TheVariants.{NoMatch, Unknown}
use Rattle.sudo_match.specs.declared.request.Request.{Request}
use Rattle.sudo_match.specs.declared.request.What.{What}
use Rattle.sudo_match.specs.KnownRows.{KnownRows}
use Rattle.sudo_grammar.specs.declared.policy.Runas.{Runas}
use Rattle.std.proofs.Common.{Ok, Err, length-append, add-one}
use Rattle.std.proofs.lemmas.Bool.{and_parts}
use Rattle.std.specs.List.{list_all, enumerate_from}
use Rattle.std.proofs.Math.Seq.{take-length}
use Rattle.std.proofs.lemmas.List.Concat.{flat_map-append}
use Rattle.std.proofs.lemmas.List.FromFn.{length-enumerate_from}
use Rattle.std.proofs.lemmas.List.{append-nil}
use Rattle.sudo_verdict.specs.Last.{last_that, last_set}
use Rattle.sudo_verdict.specs.Tagged.{tags_at, runas_at, tags_before, runas_before}
use Rattle.sudo_verdict.specs.Decided.{list_decision, decided_in, decision_of}
use Rattle.sudo_verdict.specs.Questions.{Question}
use Rattle.sudo_verdict.specs.Grants.{Grant, applies, grant_of, place_grants, section_grants, body_grants, entry_grants, grants}
use Rattle.sudo_verdict.specs.RunasForms.{runas_allows}
use Rattle.sudo_verdict.specs.Values.{user_listed, host_listed}
use Rattle.sudo_verdict.specs.Verdicts.{verdict_by, verdict_on, verdict_if_any, verdict_if_known, verdict_of}
use Rattle.sudo_verdict.specs.Questions.{question_of}
use Rattle.sudo_verdict.specs.Found.{verdict_from, command_found, found_if_any, commands_found, section_found}
use Rattle.sudo_verdict.specs.Body.Found.{found}
use Rattle.sudo_verdict.specs.Found.{rule_found, body_found, entry_found}
use Rattle.std.specs.Prelude.{is_some}
use Rattle.sudo_base.proofs.Options.{option_map-map}
use Rattle.sudo_verdict.proofs.Lasts.{take-more, last_set-map-push, last_that-append, last_that-map, option_map_or}
use Rattle.sudo_verdict.proofs.Lasts.{take-there, front-shorter}
use Rattle.sudo_policy.proofs.SurveyLemmas.{get_append_end}

option_map-cond : {X Y : Type 0} (b : Bool) (f : X → Y) (o : Option X) → option_map f (cond b o None) ≡ cond b (option_map f o) None
option_map-cond true f o = refl
option_map-cond false f o = refl

module _ (p : Policy) (q : Question) where
  pub found_append : (xs ys : List Grant) → found p q (xs ++ ys) ≡ option_or (found p q ys) (found p q xs)
  unfolding found
  found_append xs ys = ap (option_map verdict_by) (last_that-append (applies p q) xs ys) ∙ option_map_or verdict_by _ _

  pub found_none : found p q [] ≡ None
  unfolding found
  found_none = refl

  found_flat_map : {X : Type 0} (f : X → List Grant) (xs : List X) → found p q (flat_map f xs) ≡ last_set (map (λ x. found p q (f x)) xs)
  found_flat_map f [] = found_none
  found_flat_map f (x ∷ xs) = found_append (f x) (flat_map f xs) ∙ ap (λ o. option_or o (found p q (f x))) (found_flat_map f xs)

  module _ (place : Place) (users : List Member) (s : Section) where
    -- a grant of a place applies where the lists and the runas do, and its atom matches
    place_applies : (i : ℕ) (w : Signed)
        → applies p q (grant_of place users s i w) ≡
        (((user_listed p users q && host_listed p s.hosts q) && runas_allows p q (runas_at s.commands i))
        && command_fits w.atom q.command q.arguments)
    unfolding applies
    place_applies i w = refl

    found_at : (i : ℕ) (c : CommandSpec) → found p q (place_grants p place users s (i, c))
        ≡ cond ((user_listed p users q && host_listed p s.hosts q) && runas_allows p q (runas_at s.commands i))
        (option_map (verdict_from place (tags_at s.commands i)) (list_decision kind.Cmnd p (c.command ∷ [])
        (λ a. command_fits a q.command q.arguments)))
        None
    unfolding found place_grants list_decision decided_in
    found_at i c =
        ap (option_map verdict_by)
        (last_that-map ((user_listed p users q && host_listed p s.hosts q) && runas_allows p q
        (runas_at s.commands i)) (λ w. command_fits w.atom q.command q.arguments) (applies p q)
        (grant_of place users s i) (place_applies i) (written_form kind.Cmnd p (c.command ∷ [])))
        ∙ option_map-cond ((user_listed p users q && host_listed p s.hosts q) && runas_allows p q (runas_at s.commands i)) verdict_by _
        ∙ ap (λ o. cond ((user_listed p users q && host_listed p s.hosts q) && runas_allows p q (runas_at s.commands i)) o None)
        (option_map-map verdict_by (grant_of place users s i) _
        ∙ sym (option_map-map (verdict_from place (tags_at s.commands i)) decision_of _))

or_cond : {X : Type 0} (b : Bool) (x y : Option X) → option_or (cond b x None) (cond b y None) ≡ cond b (option_or x y) None
or_cond true x y = refl
or_cond false x y = refl

and_cond : {X : Type 0} (b r : Bool) (x : Option X) → cond (b && r) x None ≡ cond b (cond r x None) None
and_cond true r x = refl
and_cond false r x = refl

nothing : {X : Type 0} (b : Bool) → ◌≡◌ {A = Option X} None (cond b None None)
nothing true = refl
nothing false = refl

ap2 : {X Y Z : Type 0} (f : X → Y → Z) {a b : X} {c d : Y} → a ≡ b → c ≡ d → f a c ≡ f b d
ap2 f e h = cc

-- numbered commands, one by one
numbered_at : {X : Type 0} (k n m : ℕ) (xs : List X) → k + n ≡ m
    → slice_get (enumerate_from k xs) n ≡ option_map (λ x. (m, x)) (slice_get xs n)
numbered_at k n m [] h = refl
numbered_at k zero m (x ∷ xs) h = let e : k ≡ m = omega (arith, h) in ap (λ i. Some (i, x)) e
numbered_at k (suc n) m (x ∷ xs) h = let e : (k + 1) + n ≡ m = omega (arith, h) in numbered_at (k + 1) n m xs e

module _ (p : Policy) (q : Question) (place : Place) (users : List Member) where
  found_place : (s : Section) (n : ℕ) (o : Option CommandSpec)
      → found p q (flat_map (place_grants p place users s) (option_to_list (option_map (λ c. (n, c)) o)))
      ≡ cond (user_listed p users q && host_listed p s.hosts q) (found_if_any p q place (take (n + 1) s.commands) o) None
  unfolding command_found runas_at tags_at
  found_place s n None = found_none p q ∙ nothing (user_listed p users q && host_listed p s.hosts q)
  found_place s n (Some c) =
      ap (found p q) (append-nil (place_grants p place users s (n, c)))
      ∙ found_at p q place users s n c
      ∙ and_cond (user_listed p users q && host_listed p s.hosts q) (runas_allows p q (runas_at s.commands n)) _

  -- the grants of the commands before command n
  abbrev grants_before : Section → ℕ → List Grant
  grants_before s n = flat_map (place_grants p place users s) (take n (enumerate_from 0 s.commands))

  one_more_place : (s : Section) (n : ℕ) → grants_before s (suc n) ≡ grants_before s n ++ flat_map
      (place_grants p place users s) (option_to_list (option_map (λ c. (n, c)) (slice_get s.commands n)))
  one_more_place s n =
      ap (flat_map (place_grants p place users s)) (take-more n (enumerate_from 0 s.commands)
      ∙ ap (λ o. take n (enumerate_from 0 s.commands) ++ option_to_list o) (numbered_at 0 n n s.commands (omega arith)))
      ∙ flat_map-append (place_grants p place users s) (take n (enumerate_from 0 s.commands))
      (option_to_list (option_map (λ c. (n, c)) (slice_get s.commands n)))

  found_before : (s : Section) (n : ℕ)
      → found p q (grants_before s n) ≡ cond (user_listed p users q && host_listed p s.hosts q) (commands_found p q place s.commands n) None
  unfolding commands_found
  found_before s zero = found_none p q ∙ nothing (user_listed p users q && host_listed p s.hosts q)
  found_before s (suc n) =
      ap (found p q) (one_more_place s n)
      ∙ found_append p q (grants_before s n) (flat_map (place_grants p place users s)
      (option_to_list (option_map (λ c. (n, c)) (slice_get s.commands n))))
      ∙ ap2 (λ a b. option_or a b) (found_place s n (slice_get s.commands n)) (found_before s n)
      ∙ or_cond (user_listed p users q && host_listed p s.hosts q) _ _

  whole_section : (s : Section) → section_grants p place users s ≡ grants_before s (length s.commands)
  unfolding section_grants
  whole_section s = ap (flat_map (place_grants p place users s))
      (sym (ap (λ n. take n (enumerate_from 0 s.commands)) (sym (length-enumerate_from 0 s.commands))
      ∙ take-length (enumerate_from 0 s.commands)))

  found_section : (s : Section) → found p q (section_grants p place users s) ≡ cond (user_listed p users q) (section_found p q place s) None
  unfolding section_found
  found_section s = ap (found p q) (whole_section s) ∙ found_before s (length s.commands)
      ∙ and_cond (user_listed p users q) (host_listed p s.hosts q) _

  found_sections : (sections : List Section) → last_set (map (λ s. found p q (section_grants p place users s)) sections)
      ≡ cond (user_listed p users q) (last_set (map (section_found p q place) sections)) None
  found_sections [] = nothing (user_listed p users q)
  found_sections (s ∷ sections) =
      ap2 (λ a b. option_or a b) (found_sections sections) (found_section s) ∙ or_cond (user_listed p users q) _ _

found-body : (p : Policy) (q : Question) (place : Place) (b : EntryBody) → found p q (body_grants p place b) ≡ body_found p q place b
unfolding rule_found
found-body p q place (Rule users sections) =
    found_flat_map p q (section_grants p place users) sections ∙ found_sections p q place users sections
found-body p q place _ = found_none p q

found_entries : (p : Policy) (q : Question) (entries : List Entry)
    → last_set (map (λ e. found p q (entry_grants p e)) entries) ≡ last_set (map (entry_found p q) entries)
found_entries p q [] = refl
found_entries p q (e ∷ entries) = ap2 (λ a b. option_or a b) (found_entries p q entries) (found-body p q e.place e.body)

verdict_if_found : (o : Option Grant) → verdict_if_any o ≡ unwrap_or (option_map verdict_by o) NoMatch
verdict_if_found None = refl
verdict_if_found (Some g) = refl

-- The verdict is what the search over the entries finds.
pub verdict_found : (p : Policy) (q : Question) → verdict_on p q ≡ unwrap_or (last_set (map (entry_found p q) p.entries)) NoMatch
unfolding verdict_on found grants
verdict_found p q =
    verdict_if_found (last_that (applies p q) (grants p))
    ∙ ap (λ o. unwrap_or o NoMatch) (found_flat_map p q (entry_grants p) p.entries ∙ found_entries p q p.entries)

-- The last place of the first n of a section.
module _ (p : Policy) (q : Question) (place : Place) (cs left rest : List CommandSpec) (c : CommandSpec)
    (is : left ≡ rest ++ c ∷ []) (front : left ≡ take (length left) cs) where
  one_longer : length left ≡ suc (length rest)
  one_longer = rw is (omega (arith, length-append rest (c ∷ [])))

  front_suc : left ≡ take (suc (length rest)) cs
  front_suc = front ∙ ap (λ n. take n cs) one_longer

  last_there : slice_get cs (length rest) ≡ Some c
  last_there = sym (take-there (length rest) cs) ∙ ap (λ l. slice_get l (length rest)) (sym front_suc ∙ is) ∙ get_append_end rest c

  pub places_rest : rest ≡ take (length rest) cs
  places_rest = front-shorter rest c cs (sym is ∙ front_suc)

  places_step : commands_found p q place cs (length left) ≡ option_or (command_found p q place left c)
      (commands_found p q place cs (length rest))
  unfolding commands_found
  places_step =
      ap (commands_found p q place cs) one_longer
      ∙ ap2 (λ l o. option_or (found_if_any p q place l o) (commands_found p q place cs (length rest)))
      (ap (λ n. take n cs) (add-one (length rest)) ∙ sym front_suc) last_there

  pub places_decide : (v : Verdict) → Some v ≡ command_found p q place left c → commands_found p q place cs (length left) ≡ Some v
  places_decide v e = places_step ∙ ap (λ o. option_or o (commands_found p q place cs (length rest))) (sym e)

  pub places_silent : None ≡ command_found p q place left c
      → commands_found p q place cs (length left) ≡ commands_found p q place cs (length rest)
  places_silent e = places_step ∙ ap (λ o. option_or o (commands_found p q place cs (length rest))) (sym e)

-- the commands before the last share its runas where it has none of its own
pub refused_rest : (p : Policy) (q : Question) (left rest : List CommandSpec) (c : CommandSpec) → left ≡ rest ++ c ∷ []
    → (refused shared : Bool) → is_some c.runas ≡ not shared → (refused && shared) ≡ true
    → (refused ≡ true → runas_allows p q (runas_before left) ≡ false) → runas_allows p q (runas_before rest) ≡ false
unfolding runas_before
refused_rest p q left rest c is refused shared own h known =
    let parts = and_parts refused shared h in
    ap (runas_allows p q)
    (sym (ap (λ l. last_set (map (λ (s : CommandSpec). s.runas) l)) is
    ∙ last_set-map-push (λ (s : CommandSpec). s.runas) rest c
    ∙ ap (λ o. option_or o (last_set (map (λ (s : CommandSpec). s.runas) rest))) (none_there c.runas shared own parts.1)))
    ∙ known parts.0
  where
    none_there : (o : Option Runas) (b : Bool) → is_some o ≡ not b → b ≡ true → o ≡ None
    none_there None b e k = refl
    none_there (Some r) b e k = cc

pub places_end : (p : Policy) (q : Question) (place : Place) (cs left : List CommandSpec) → length left ≡ 0
    → commands_found p q place cs (length left) ≡ None
unfolding commands_found
places_end p q place cs left h = ap (commands_found p q place cs) h

pub place-silent : (p : Policy) (q : Question) (place : Place) (cs : List CommandSpec) (c : CommandSpec)
    → None ≡ list_decision kind.Cmnd p (c.command ∷ []) (λ a. command_fits a q.command q.arguments) → None ≡ command_found p q place cs c
unfolding command_found
place-silent p q place cs c e =
    nothing (runas_allows p q (runas_before cs))
    ∙ ap (λ o. cond (runas_allows p q (runas_before cs)) (option_map (verdict_from place (tags_before cs)) o) None) e

either_resolves : (p : Policy) (a b : Option Runas) → runas_resolves p a ≡ true → runas_resolves p b ≡ true
    → runas_resolves p (option_or a b) ≡ true
either_resolves p None b h k = k
either_resolves p (Some r) b h k = h

pub runas_before-resolves : (p : Policy) (cs : List CommandSpec) → list_all (command_resolves p) cs ≡ true
    → runas_resolves p (runas_before cs) ≡ true
unfolding runas_before
runas_before-resolves p [] h = refl
runas_before-resolves p (c ∷ cs) h =
    let t : (command_resolves p c ≡ true) × (list_all (command_resolves p) cs ≡ true) =
    and_parts (command_resolves p c) (list_all (command_resolves p) cs) h
    in either_resolves p _ c.runas (runas_before-resolves p cs t.1) (and_parts (resolves kind.Cmnd p (c.command ∷ []))
    (runas_resolves p c.runas) t.0).1

-- The verdict by the search, where the names are known, and where one is not.
pub verdict_of-found : (p : Policy) (d : KnownRows) (r : Request) (q : Question) (o : Option Verdict)
    → question_of d r ≡ Ok q → o ≡ last_set (map (entry_found p q) p.entries) → unwrap_or o NoMatch ≡ verdict_of p d r
unfolding verdict_of
verdict_of-found p d r q o known e =
    ap (λ x. unwrap_or x NoMatch) e ∙ sym (verdict_found p q) ∙ ap (verdict_if_known p) (sym known)

pub verdict_of-unknown : (p : Policy) (d : KnownRows) (r : Request) (w : What) → question_of d r ≡ Err w → Unknown w ≡ verdict_of p d r
unfolding verdict_of
verdict_of-unknown p d r w unknown = ap (verdict_if_known p) (sym unknown)
