-- A test with the same result on each item of a list.
use Rattle.std.proofs.Common.{◌≡◌, List, [], ◌∷◌, ◌++◌, All}
use Rattle.std.proofs.lemmas.List.Elements.{All-append, All-cons, All-head, All-nil, All-tail}

-- each item of the list has the value v
abbrev pub Each : {X V : Type 0} → (X → V) → V → List X → Type 0
Each f v xs = All (λ x. f x ≡ v) xs

pub each_none : {X V : Type 0} (f : X → V) (v : V) → Each f v []
each_none f v = All-nil (λ x. f x ≡ v)

pub each_one : {X V : Type 0} (f : X → V) (v : V) (x : X) (xs : List X) → f x ≡ v → Each f v xs → Each f v (x ∷ xs)
each_one f v x xs here rest = All-cons (λ y. f y ≡ v) x xs here rest

pub each_first : {X V : Type 0} (f : X → V) (v : V) (x : X) (xs : List X) → Each f v (x ∷ xs) → f x ≡ v
each_first f v x xs all = All-head (λ y. f y ≡ v) x xs all

pub each_rest : {X V : Type 0} (f : X → V) (v : V) (x : X) (xs : List X) → Each f v (x ∷ xs) → Each f v xs
each_rest f v x xs all = All-tail (λ y. f y ≡ v) x xs all

pub each_both : {X V : Type 0} (f : X → V) (v : V) (xs ys : List X) → Each f v xs → Each f v ys → Each f v (xs ++ ys)
each_both f v xs ys first second = All-append (λ x. f x ≡ v) xs ys first second
