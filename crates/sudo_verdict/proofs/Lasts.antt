-- The last item that passes, in appended and in mapped lists.
use Rattle.std.proofs.Common.{◌≡◌, Bool, true, false, cond, ◌&&◌, List, [], ◌∷◌, ◌++◌, map, Option, Some, None, refl}
use Rattle.std.proofs.Common.{sym, ◌∙◌, ap, ℕ, zero, suc, take, option_to_list, length-append, arith}
use Rattle.std.specs.Prelude.{slice_get}
use Rattle.std.specs.Option.{option_or, option_map}
use Rattle.std.specs.List.{list_all}
use Rattle.std.proofs.Common.{length}
use Rattle.std.proofs.lemmas.Bool.{and_parts}
use Rattle.std.proofs.lemmas.List.{map-append}
use Rattle.sudo_verdict.specs.Last.{last_that, last_set}
use Rattle.sudo_policy.proofs.SoundLemmas.{all_append}
use Rattle.sudo_policy.proofs.SurveyLemmas.{get_append_end, option_or-none}

pub option_or-assoc : {X : Type 0} (a b c : Option X) → option_or (option_or a b) c ≡ option_or a (option_or b c)
option_or-assoc None b c = refl
option_or-assoc (Some x) b c = refl

pub option_map_or : {X Y : Type 0} (f : X → Y) (a b : Option X) → option_map f (option_or a b) ≡ option_or (option_map f a) (option_map f b)
option_map_or f None b = refl
option_map_or f (Some x) b = refl

pub last_that-append : {X : Type 0} (f : X → Bool) (xs ys : List X) → last_that f (xs ++ ys) ≡ option_or (last_that f ys) (last_that f xs)
last_that-append f [] ys = sym (option_or-none (last_that f ys))
last_that-append f (x ∷ xs) ys =
    ap (λ o. option_or o (cond (f x) (Some x) None)) (last_that-append f xs ys)
    ∙ option_or-assoc (last_that f ys) (last_that f xs) (cond (f x) (Some x) None)

one_more : {X Y : Type 0} (g : X → Y) (b : Bool) (o : Option X) (x : X)
    → option_or (option_map g o) (cond b (Some (g x)) None) ≡ option_map g (option_or o (cond b (Some x) None))
one_more g b (Some y) x = refl
one_more g true None x = refl
one_more g false None x = refl

-- Each item of the map passes where the condition holds and its source passes.
pub last_that-map : {X Y : Type 0} (c : Bool) (f : X → Bool) (h : Y → Bool) (g : X → Y)
    → ((x : X) → h (g x) ≡ (c && f x)) → (xs : List X) → last_that h (map g xs) ≡ cond c (option_map g (last_that f xs)) None
last_that-map true f h g e [] = refl
last_that-map false f h g e [] = refl
last_that-map true f h g e (x ∷ xs) =
    let ih : last_that h (map g xs) ≡ option_map g (last_that f xs) = last_that-map true f h g e xs
    in rw (ih, e x) (one_more g (f x) (last_that f xs) x)
last_that-map false f h g e (x ∷ xs) =
    let ih : last_that h (map g xs) ≡ None = last_that-map false f h g e xs
    in rw (ih, e x) refl

pub last_set-push : {X : Type 0} (xs : List (Option X)) (o : Option X) → last_set (xs ++ o ∷ []) ≡ option_or o (last_set xs)
last_set-push [] o = sym (option_or-none o)
last_set-push (x ∷ xs) o = ap (λ r. option_or r x) (last_set-push xs o) ∙ option_or-assoc o (last_set xs) x

pub last_set-map-push : {X Y : Type 0} (f : X → Option Y) (rest : List X) (m : X)
    → last_set (map f (rest ++ m ∷ [])) ≡ option_or (f m) (last_set (map f rest))
last_set-map-push f rest m = rw map-append (last_set-push (map f rest) (f m))

-- A search from the end of a list back.
module _ {X Y : Type 0} (f : X → Option Y) (left rest : List X) (m : X) (is : left ≡ rest ++ m ∷ []) where
  pub back_found : (y : Y) → Some y ≡ f m → last_set (map f left) ≡ Some y
  back_found y e = rw (is, last_set-map-push f rest m, ← e) refl

  pub back_none : None ≡ f m → last_set (map f left) ≡ last_set (map f rest)
  back_none e = rw (is, last_set-map-push f rest m, ← e) refl

pub back_end : {X Y : Type 0} (f : X → Option Y) (left : List X) → length left ≡ 0 → last_set (map f left) ≡ None
back_end f [] h = refl
back_end f (x ∷ xs) h = cc

module _ {X : Type 0} (t : X → Bool) (left rest : List X) (m : X) (is : left ≡ rest ++ m ∷ []) (h : list_all t left ≡ true) where
  back_parts : (list_all t rest ≡ true) × (list_all t (m ∷ []) ≡ true)
  back_parts = and_parts (list_all t rest) (list_all t (m ∷ [])) (rw (is, all_append t rest (m ∷ [])) at h)

  pub back_rest : list_all t rest ≡ true
  back_rest = back_parts.0

  pub back_last : t m ≡ true
  back_last = (and_parts (t m) true back_parts.1).0

-- ---- The first items of a list, and the last of them

pub take-there : {X : Type 0} (n : ℕ) (xs : List X) → slice_get (take (suc n) xs) n ≡ slice_get xs n
take-there n [] = refl
take-there zero (x ∷ xs) = refl
take-there (suc n) (x ∷ xs) = take-there n xs

pub front-shorter : {X : Type 0} (rest : List X) (x : X) (xs : List X) → rest ++ x ∷ [] ≡ take (suc (length rest)) xs
    → rest ≡ take (length rest) xs
front-shorter [] x xs h = refl
front-shorter (y ∷ rest) x [] h = cc
front-shorter (y ∷ rest) x (z ∷ xs) h =
    let t : rest ++ x ∷ [] ≡ take (suc (length rest)) xs = cc
    in let ih : rest ≡ take (length rest) xs = front-shorter rest x xs t
    in let e : y ≡ z = cc
    in let one : y ∷ rest ≡ y ∷ take (length rest) xs = ap (λ l. y ∷ l) ih
    in one ∙ ap (λ a. a ∷ take (length rest) xs) e

front-suc : {X : Type 0} (xs left rest : List X) (x : X) → left ≡ rest ++ x ∷ [] → left ≡ take (length left) xs
    → left ≡ take (suc (length rest)) xs
front-suc xs left rest x is front =
    let longer : length left ≡ suc (length rest) = rw is (omega (arith, length-append rest (x ∷ []))) in
    front ∙ ap (λ n. take n xs) longer

-- the last of the first items is where the items before it end
pub last-at : {X : Type 0} (xs left rest : List X) (x : X) → left ≡ rest ++ x ∷ [] → left ≡ take (length left) xs
    → slice_get xs (length rest) ≡ Some x
last-at xs left rest x is front =
    sym (take-there (length rest) xs) ∙ ap (λ l. slice_get l (length rest)) (sym (front-suc xs left rest x is front)
    ∙ is) ∙ get_append_end rest x

pub front-rest : {X : Type 0} (xs left rest : List X) (x : X) → left ≡ rest ++ x ∷ [] → left ≡ take (length left) xs
    → rest ≡ take (length rest) xs
front-rest xs left rest x is front = front-shorter rest x xs (sym is ∙ front-suc xs left rest x is front)

-- one item more
pub take-more : {X : Type 0} (n : ℕ) (xs : List X) → take (suc n) xs ≡ take n xs ++ option_to_list (slice_get xs n)
take-more zero [] = refl
take-more zero (x ∷ xs) = refl
take-more (suc n) [] = refl
take-more (suc n) (x ∷ xs) = ap (λ l. x ∷ l) (take-more n xs)
