-- What is disjoint from a command is disjoint from each command that it covers, as far as the tests tell.
use Rattle.std.proofs.Common.{◌≡◌, ◌⊎◌, inl, inr, ℕ, Bool, true, false, not, cond, ◌&&◌, ◌||◌, List, [], ◌∷◌, map, Option, Some, None, refl}
use Rattle.std.proofs.Common.{sym, ◌∙◌, ap}
use Rattle.std.specs.Prelude.{◌==◌, option_map}
use Rattle.std.proofs.lemmas.Bool.{and_from, and_parts, eqb-true, not-true, or_cases, or_left, or_right}
use Rattle.sudo_text.specs.declared.token.Ch.{Ch}
use Rattle.sudo_grammar.specs.declared.kind.Atom.{Atom}
use Rattle.sudo_grammar.specs.declared.kind.Atom.TheVariants as atom
use Rattle.sudo_match.specs.declared.patterns.Slash.{Slash}
use Rattle.sudo_match.specs.declared.patterns.Slash.TheVariants.{Not}
use Rattle.sudo_match.specs.Pattern.{AnyByte, Bracket, ByteSet, One, Only, Part, Star, fits, path_chars, set_holds}
use Rattle.sudo_match.specs.Matching.{arguments_fit, arguments_slash}
use Rattle.review_compare.specs.Covering.{misses, no_arguments, parts_apart, parts_cover, parts_disjoint, same_slash, set_covers}
use Rattle.review_compare.specs.Covering.{sets_apart, text_of}
use Rattle.review_compare.specs.Simply.{char_part, chars_cover, chars_disjoint, covers_simply, disjoint_simply, given_cover, given_disjoint}
use Rattle.review_compare.specs.Simply.{has_few_stars, is_simple, same_arguments, same_chars}
use Rattle.review_compare.proofs.CoveringLemmas.{arguments_apart, arguments_sound, parts_sound, set_sound, slash_same}
use Rattle.review_compare.proofs.SimplyLemmas.{arguments-same, chars-same, given-cover, given-disjoint}

-- where the first does not pass, the second does not, if it passes with it alone
pub refuted : (a b : Bool) → (b ≡ true → a ≡ true) → not a ≡ true → not b ≡ true
refuted a false more e = refl
refuted a true more e = let bad : true ≡ false = sym (more refl) ∙ not-true a e in cc

-- ---- Parts

-- a byte of the set is not one that is not in it
other-byte : (s : Slash) (x : ByteSet) (b c : ℕ) → set_holds s x b ≡ true → not (set_holds s x c) ≡ true → not (b == c) ≡ true
other-byte s x b c held e =
    refuted (set_holds s x c) (b == c) (λ same. ap (set_holds s x) (sym (eqb-true b c same)) ∙ held) e

sets-covered : (s r : Slash) (x y z : ByteSet) → set_covers s x y ≡ true → sets_apart s r x z ≡ true → sets_apart s r y z ≡ true
sets-covered s r (Only a) (Only b) z e h = ap (λ n. not (set_holds r z n)) (eqb-true b a e) ∙ h
sets-covered s r (Only a) AnyByte z e h = cc
sets-covered s r (Only a) (Bracket k items) z e h = cc
sets-covered s r AnyByte y AnyByte e h = cc
sets-covered s r AnyByte y (Bracket k items) e h = cc
sets-covered s r (Bracket k items) y AnyByte e h = cc
sets-covered s r (Bracket k items) y (Bracket l more) e h = cc
sets-covered s r AnyByte (Only b) (Only c) e h = other-byte s AnyByte b c e h
sets-covered s r AnyByte AnyByte (Only c) e h = h
sets-covered s r AnyByte (Bracket k items) (Only c) e h =
    refuted (set_holds s AnyByte c) (set_holds s (Bracket k items) c) (λ held. set_sound s AnyByte (Bracket k items) c e held) h
sets-covered s r (Bracket k items) (Only b) (Only c) e h = other-byte s (Bracket k items) b c e h
sets-covered s r (Bracket k items) AnyByte (Only c) e h =
    refuted (set_holds s (Bracket k items) c) (set_holds s AnyByte c) (λ held. set_sound s (Bracket k items) AnyByte c e held) h
sets-covered s r (Bracket k items) (Bracket l more) (Only c) e h =
    refuted (set_holds s (Bracket k items) c) (set_holds s (Bracket l more) c)
    (λ held. set_sound s (Bracket k items) (Bracket l more) c e held) h

apart-covered : (s r : Slash) (p q e : List Part) → parts_cover s p q ≡ true → parts_apart s r p e ≡ true → parts_apart s r q e ≡ true
apart-covered s r [] [] e cover h = h
apart-covered s r [] (y ∷ q) e cover h = cc
apart-covered s r (Star ∷ p) q e cover h = cc
apart-covered s r (One x ∷ p) [] e cover h = cc
apart-covered s r (One x ∷ p) (Star ∷ q) e cover h = cc
apart-covered s r (One x ∷ p) (One y ∷ q) [] cover h = refl
apart-covered s r (One x ∷ p) (One y ∷ q) (Star ∷ e) cover h = cc
apart-covered s r (One x ∷ p) (One y ∷ q) (One z ∷ e) cover h =
    let both = and_parts (set_covers s x y) (parts_cover s p q) cover in
    go both.0 (λ more. apart-covered s r p q e both.1 more) (or_cases (sets_apart s r x z) (parts_apart s r p e) h)
  where
    go : set_covers s x y ≡ true → (parts_apart s r p e ≡ true → parts_apart s r q e ≡ true) →
        (sets_apart s r x z ≡ true) ⊎ (parts_apart s r p e ≡ true) → (sets_apart s r y z || parts_apart s r q e) ≡ true
    go one rest (inl now) = or_left (sets_apart s r y z) (parts_apart s r q e) (sets-covered s r x y z one now)
    go one rest (inr then) = or_right (sets_apart s r y z) (parts_apart s r q e) (rest then)

-- where the one that covers fits one text alone, so does the other
text-covered : (s : Slash) (p q : List Part) (t : List ℕ) → parts_cover s p q ≡ true → text_of p ≡ Some t → text_of q ≡ Some t
text-covered s [] [] t cover e = e
text-covered s [] (y ∷ q) t cover e = cc
text-covered s (Star ∷ p) q t cover e = cc
text-covered s (One AnyByte ∷ p) q t cover e = cc
text-covered s (One (Bracket k items) ∷ p) q t cover e = cc
text-covered s (One (Only a) ∷ p) [] t cover e = cc
text-covered s (One (Only a) ∷ p) (Star ∷ q) t cover e = cc
text-covered s (One (Only a) ∷ p) (One AnyByte ∷ q) t cover e = cc
text-covered s (One (Only a) ∷ p) (One (Bracket k items) ∷ q) t cover e = cc
text-covered s (One (Only a) ∷ p) (One (Only b) ∷ q) t cover e =
    let both = and_parts (b == a) (parts_cover s p q) cover in
    go (eqb-true b a both.0) (text_of p) (λ u f. text-covered s p q u both.1 f) refl e
  where
    go : b ≡ a → (o : Option (List ℕ)) → ((u : List ℕ) → text_of p ≡ Some u → text_of q ≡ Some u) → text_of p ≡ o →
        option_map (λ u. a ∷ u) o ≡ Some t → option_map (λ u. b ∷ u) (text_of q) ≡ Some t
    go same None rest f e = cc
    go same (Some u) rest f e =
        ap (λ o. option_map (λ v. b ∷ v) o) (rest u f) ∙ ap (λ (n : ℕ). Some (n ∷ u)) same ∙ e

disjoint-parts-covered : (s r : Slash) (p q e : List Part) → parts_cover s p q ≡ true → parts_disjoint s r p e ≡ true →
    parts_disjoint s r q e ≡ true
disjoint-parts-covered s r p q e cover h =
    by (or_cases (misses r e (text_of p) || misses s p (text_of e)) (parts_apart s r p e) h)
  where
    first : (o : Option (List ℕ)) → text_of p ≡ o → misses r e o ≡ true → misses r e (text_of q) ≡ true
    first None f m = cc
    first (Some t) f m = ap (misses r e) (text-covered s p q t cover f) ∙ m

    second : (o : Option (List ℕ)) → misses s p o ≡ true → misses s q o ≡ true
    second None m = cc
    second (Some t) m = refuted (fits p t s) (fits q t s) (λ held. parts_sound s p q t cover held) m

    one : (misses r e (text_of p) ≡ true) ⊎ (misses s p (text_of e) ≡ true) → (misses r e (text_of q) || misses s q (text_of e)) ≡ true
    one (inl m) = or_left (misses r e (text_of q)) (misses s q (text_of e)) (first (text_of p) refl m)
    one (inr m) = or_right (misses r e (text_of q)) (misses s q (text_of e)) (second (text_of e) m)

    by : ((misses r e (text_of p) || misses s p (text_of e)) ≡ true) ⊎ (parts_apart s r p e ≡ true) → parts_disjoint s r q e ≡ true
    by (inl a) = or_left (misses r e (text_of q) || misses s q (text_of e)) (parts_apart s r q e)
        (one (or_cases (misses r e (text_of p)) (misses s p (text_of e)) a))
    by (inr b) = or_right (misses r e (text_of q) || misses s q (text_of e)) (parts_apart s r q e) (apart-covered s r p q e cover b)

-- ---- Characters

chars-covered : (s r : Slash) (cs bs ds : List Ch) → chars_cover s cs bs ≡ true → chars_disjoint s r cs ds ≡ true →
    chars_disjoint s r bs ds ≡ true
chars-covered s r cs bs ds cover h =
    let covers = and_parts ((is_simple cs && has_few_stars cs) && is_simple bs) (parts_cover s (map char_part cs) (map char_part bs))
    cover in
    let simple = and_parts (is_simple cs && has_few_stars cs) (is_simple bs) covers.0 in
    let apart = and_parts (is_simple cs && is_simple ds) (parts_disjoint s r (map char_part cs) (map char_part ds)) h in
    let also = and_parts (is_simple cs) (is_simple ds) apart.0 in
    and_from (is_simple bs && is_simple ds) (parts_disjoint s r (map char_part bs) (map char_part ds))
    (and_from (is_simple bs) (is_simple ds) simple.1 also.1)
    (disjoint-parts-covered s r (map char_part cs) (map char_part bs) (map char_part ds) covers.1 apart.1)

given-covered : (s t r : Slash) (a b d : Option (List Ch)) → given_cover s t a b ≡ true → given_disjoint s r a d ≡ true →
    given_disjoint t r b d ≡ true
given-covered s t r None b d cover h = cc
given-covered s t r (Some cs) b None cover h = cc
given-covered s t r (Some cs) None (Some ds) cover h = cc
given-covered s t r (Some cs) (Some bs) (Some ds) cover h =
    go (no_arguments ds) (no_arguments bs) (no_arguments cs) refl refl cover h
  where
    go : (n m k : Bool) → no_arguments ds ≡ n → no_arguments cs ≡ k →
        cond m (arguments_fit s (Some cs) []) (cond k false (same_slash s t && chars_cover s cs bs)) ≡ true →
        cond n (not (arguments_fit s (Some cs) [])) (cond k (not (arguments_fit r (Some ds) [])) (chars_disjoint s r cs ds)) ≡ true →
        cond n (not (arguments_fit t (Some bs) [])) (cond m (not (arguments_fit r (Some ds) [])) (chars_disjoint t r bs ds)) ≡ true
    go true m k f g own its =
        refuted (arguments_fit s (Some cs) []) (arguments_fit t (Some bs) [])
        (λ held. arguments_sound s t (Some cs) (Some bs) [] (given-cover s t (Some cs) (Some bs) cover) held) its
    go false true k f g own its =
        ap not (arguments_apart s r (Some cs) (Some ds) [] (given-disjoint s r (Some cs) (Some ds) h) own)
    go false false true f g own its = cc
    go false false false f g own its =
        let both = and_parts (same_slash s t) (chars_cover s cs bs) own in
        ap (λ (u : Slash). chars_disjoint u r bs ds) (sym (slash_same s t both.0)) ∙ chars-covered s r cs bs ds both.1 its

-- ---- Commands

command-covered : (path other : List Ch) (args more : Option (List Ch)) (e : Atom) →
    covers_simply (atom.Command path args) (atom.Command other more) ≡ true → disjoint_simply (atom.Command path args) e ≡ true →
    disjoint_simply (atom.Command other more) e ≡ true
command-covered path other args more (atom.Command last given) cover h =
    go (or_cases (same_chars path other && same_arguments args more)
    (chars_cover Not (path_chars path) (path_chars other) && given_cover (arguments_slash path) (arguments_slash other) args more) cover)
  where
    by : chars_cover Not (path_chars path) (path_chars other) ≡ true →
        given_cover (arguments_slash path) (arguments_slash other) args more ≡ true →
        (chars_disjoint Not Not (path_chars path) (path_chars last) ≡ true) ⊎ (given_disjoint (arguments_slash path)
        (arguments_slash last) args given ≡ true) → disjoint_simply (atom.Command other more) (atom.Command last given) ≡ true
    by paths all (inl a) =
        or_left (chars_disjoint Not Not (path_chars other) (path_chars last)) (given_disjoint (arguments_slash other)
        (arguments_slash last) more given) (chars-covered Not Not (path_chars path) (path_chars other) (path_chars last) paths a)
    by paths all (inr b) =
        or_right (chars_disjoint Not Not (path_chars other) (path_chars last)) (given_disjoint (arguments_slash other)
        (arguments_slash last) more given)
        (given-covered (arguments_slash path) (arguments_slash other) (arguments_slash last) args more given all b)

    go : ((same_chars path other && same_arguments args more) ≡ true)
        ⊎ ((chars_cover Not (path_chars path) (path_chars other) && given_cover (arguments_slash path)
        (arguments_slash other) args more) ≡ true)
        → disjoint_simply (atom.Command other more) (atom.Command last given) ≡ true
    go (inl same) =
        let both = and_parts (same_chars path other) (same_arguments args more) same in
        ap (λ (p : List Ch). disjoint_simply (atom.Command p more) (atom.Command last given)) (sym (chars-same path other both.0))
        ∙ ap (λ (a : Option (List Ch)). disjoint_simply (atom.Command path a) (atom.Command last given))
        (sym (arguments-same args more both.1)) ∙ h
    go (inr covers) =
        let both = and_parts (chars_cover Not (path_chars path) (path_chars other)) (given_cover (arguments_slash path)
        (arguments_slash other) args more) covers in
        by both.0 both.1 (or_cases (chars_disjoint Not Not (path_chars path) (path_chars last)) (given_disjoint (arguments_slash path)
        (arguments_slash last) args given) h)
command-covered path other args more _ cover h = cc

pub disjoint-covered : (k a e : Atom) → covers_simply k a ≡ true → disjoint_simply k e ≡ true → disjoint_simply a e ≡ true
disjoint-covered atom.All a e cover h = cc
disjoint-covered (atom.Command path args) (atom.Command other more) e cover h = command-covered path other args more e cover h
disjoint-covered _ _ e cover h = cc
