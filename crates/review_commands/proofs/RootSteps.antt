-- The table of who can become root, from its parts.
use Rattle.std.proofs.Common.{◌≡◌, ◌+◌, ◌<◌, ◌∙◌, arith, ℕ, Bool, true, false, cond, List, [], ◌∷◌, ◌++◌, ap, append-nil, append_assoc}
use Rattle.std.proofs.Common.{drop, filter, flat_map, get_or, is_some, length, map-id, refl, subst, sym, take}
use Rattle.std.proofs.Common.{Result, Ok, Err, IfOk, ◌≤◌, suc, zero}
use Rattle.std.specs.List.{range_with_len}
use Rattle.std.proofs.lemmas.Grind.{flat_map-append}
use Rattle.std.proofs.lemmas.List.{drop_more}
use Rattle.std.proofs.lemmas.List.FromFn.{filter_of_map_range_with_len_more}
use Rattle.csv.specs.Writing.{default_writer, field_text, fields_text}
use Rattle.audit_files.specs.Report.{line}
use Rattle.review_roots.specs.declared.state.State.{State}
use Rattle.review_commands.specs.RootRows.{Each, behind, shown, whole}
use Rattle.review_commands.proofs.ListSteps.{take-more}
use Rattle.review_commands.proofs.RowSteps.{row_of}

pub if-ok : {T E : Type 0} {P Q : T → Type 0} (r : Result T E) → ((x : T) → P x → Q x) → IfOk r P → IfOk r Q
if-ok (Ok x) f h = f x h
if-ok (Err e) f h = tt

cond-more : (b : Bool) (x : State) (xs ys : List State) → x ∷ cond b xs ys ≡ cond b (x ∷ xs) (x ∷ ys)
cond-more true x xs ys = refl
cond-more false x xs ys = refl

shown-last : (rest : List State) (last : State)
    → shown (rest ++ last ∷ []) ≡ cond (is_some last.added) (rest ++ last ∷ []) rest
shown-last [] last = refl
shown-last (x ∷ []) last = cond-more (is_some last.added) x (last ∷ []) []
shown-last (x ∷ y ∷ rest) last =
    ap (λ (t : List State). x ∷ t) (shown-last (y ∷ rest) last)
    ∙ cond-more (is_some last.added) x (y ∷ (rest ++ last ∷ [])) (y ∷ rest)

-- a last state without an added group is hidden; with one it is visible
pub last-hidden : (chain rest : List State) (last : State) → chain ≡ rest ++ last ∷ [] → is_some last.added ≡ false
    → rest ≡ shown chain
last-hidden chain rest last parts unadded =
    sym (ap shown parts ∙ shown-last rest last ∙ ap (λ b. cond b (rest ++ last ∷ []) rest) unadded)

pub last-visible : (chain rest : List State) (last : State) → chain ≡ rest ++ last ∷ [] → is_some last.added ≡ true
    → chain ≡ shown chain
last-visible chain rest last parts added =
    parts ∙ sym (ap shown parts ∙ shown-last rest last ∙ ap (λ b. cond b (rest ++ last ∷ []) rest) added)

-- one state more of a chain
pub behind-next : (f : ℕ × State → List ℕ) (states : List State) (at before : ℕ) (s : State) (old text new : List ℕ)
    → at < length states → s ≡ get_or states at s → old ≡ text ++ flat_map f (behind before (drop at states))
    → new ≡ text ++ f (before, s) → old ≡ new ++ flat_map f (behind s.user (drop (at + 1) states))
behind-next f states at before s old text new within is so_far more =
    let left : drop at states ≡ s ∷ drop (at + 1) states =
    drop_more states at s within ∙ ap (λ (x : State). x ∷ drop (at + 1) states) (sym is) in
    so_far ∙ ap (λ (l : List State). text ++ flat_map f (behind before l)) left
    ∙ sym (append_assoc text (f (before, s)) (flat_map f (behind s.user (drop (at + 1) states))))
    ∙ ap (λ (t : List ℕ). t ++ flat_map f (behind s.user (drop (at + 1) states))) (sym more)

-- a record of nine fields
pub nine : (old one two three new user host target level password place tags via depends : List ℕ)
    → one ≡ old ++ field_text default_writer user
    → two ≡ one ++ fields_text default_writer (host ∷ target ∷ level ∷ [])
    → three ≡ two ++ fields_text default_writer (password ∷ place ∷ tags ∷ [])
    → new ≡ three ++ (fields_text default_writer (via ∷ depends ∷ []) ++ 10 ∷ [])
    → new ≡ old ++ line (user ∷ host ∷ target ∷ level ∷ password ∷ place ∷ tags ∷ via ∷ depends ∷ [])
nine old one two three new user host target level password place tags via depends first second third end =
    row_of old one two three (three ++ fields_text default_writer (via ∷ depends ∷ [])) new (field_text default_writer user) user host
    (target ∷ level ∷ []) (password ∷ place ∷ tags ∷ []) (via ∷ depends ∷ []) first refl second third refl
    (end ∙ sym (append_assoc three (fields_text default_writer (via ∷ depends ∷ [])) (10 ∷ [])))

-- the users so far, with one more
pub zero-next : (f : ℕ → Bool) (n : ℕ) (users new : List ℕ) → users ≡ filter f (range_with_len 0 n)
    → new ≡ users ++ cond (f n) (n ∷ []) [] → new ≡ filter f (range_with_len 0 (n + 1))
zero-next f n users new so_far more =
    more ∙ ap (λ (t : List ℕ). t ++ cond (f n) (n ∷ []) []) so_far
    ∙ sym (ap (filter f) (sym (map-id (range_with_len 0 (n + 1))))
    ∙ filter_of_map_range_with_len_more f (λ (i : ℕ). i) 0 n n (omega arith)
    ∙ ap (λ (t : List ℕ). filter f t ++ cond (f n) (n ∷ []) []) (map-id (range_with_len 0 n)))

each-more : {X : Type 0} (R : X → List ℕ → Type 0) (xs : List X) (parts : List (List ℕ)) (x : X) (part : List ℕ)
    → Each R xs parts → R x part → Each R (xs ++ x ∷ []) (parts ++ part ∷ [])
each-more R [] [] x part so_far own = (own, tt)
each-more R (y ∷ ys) (p ∷ ps) x part so_far own = (so_far.0, each-more R ys ps x part so_far.1 own)
each-more R [] (p ∷ ps) x part so_far own = absurd so_far
each-more R (y ∷ ys) [] x part so_far own = absurd so_far

-- the texts of the items so far, with that of one more
pub each-next : {X : Type 0} (R : X → List ℕ → Type 0) (xs : List X) (at : ℕ) (x : X) (part : List ℕ) (parts : List (List ℕ))
    → at < length xs → x ≡ get_or xs at x → Each R (take at xs) parts → R x part
    → Each R (take (at + 1) xs) (parts ++ part ∷ [])
each-next R xs at x part parts within is so_far own =
    subst (λ ys. Each R ys (parts ++ part ∷ [])) (sym (take-more xs at x within is)) (each-more R (take at xs) parts x part so_far own)

pub whole-next : (old text new part : List ℕ) (parts : List (List ℕ)) → text ≡ old ++ whole parts → new ≡ text ++ part
    → new ≡ old ++ whole (parts ++ part ∷ [])
whole-next old text new part parts so_far more =
    more ∙ ap (λ (t : List ℕ). t ++ part) so_far ∙ append_assoc old (whole parts) part
    ∙ ap (λ (t : List ℕ). old ++ t) (sym (flat_map-append (λ (t : List ℕ). t) parts (part ∷ [])
    ∙ ap (λ (t : List ℕ). whole parts ++ t) (append-nil part)))

-- an item that is there, whatever stands for one that is not
pub item-there : {X : Type 0} (xs : List X) (at : ℕ) (other : X) → at < length xs → get_or xs at other ≡ get_or xs at (get_or xs at other)
item-there [] at other within = absurd (omega (arith, within))
item-there (x ∷ xs) zero other within = refl
item-there (x ∷ xs) (suc at) other within = item-there xs at other (omega (arith, within))

pub take-whole : {X : Type 0} (xs : List X) (n : ℕ) → length xs ≤ n → take n xs ≡ xs
take-whole [] zero past = refl
take-whole [] (suc n) past = refl
take-whole (x ∷ xs) zero past = absurd (omega (arith, past))
take-whole (x ∷ xs) (suc n) past = ap (λ (ys : List _). x ∷ ys) (take-whole xs n (omega (arith, past)))
