-- Lemmas on characters by their indices, and on how they are read.
use Rattle.std.proofs.Common.{◌≡◌, ℕ, zero, suc, ◌+◌, ◌-◌, ◌<◌, ◌≤◌, Bool, true, false, ◌&&◌, not, List, [], ◌∷◌}
use Rattle.std.proofs.Common.{◌++◌, map, length, drop, refl, ap, sym, ◌∙◌, Some, None, Option, arith, zero-add}
use Rattle.std.proofs.Common.{add-zero, cond, ◌^◌, length-append}
use Rattle.std.specs.Prelude.{slice_get, option_map}
use Rattle.std.proofs.lemmas.Option.{slice_get-map, slice_get_past, slice_get_within}
use Rattle.sudo_base.proofs.Booleans.{and_second}
use Rattle.sudo_base.proofs.Options.{option_map-map}
use Rattle.std.proofs.lemmas.List.{length-map}
use Rattle.sudo_base.proofs.Lists.{slice_get-append-left}
use Rattle.std.proofs.lemmas.Iterator.Adapters.{option_map_id}
use Rattle.sudo_text.specs.declared.token.Ch.{Ch}
use Rattle.sudo_match.specs.Pattern.{Range, Single}
use Rattle.sudo_match.specs.Class.{Class}
use Rattle.sudo_match.specs.Class.{Alnum, Alpha, Blank, Cntrl, Digit, Graph, Lower, Print, Punct, Space, Upper, Xdigit}
use Rattle.sudo_match.specs.declared.patterns.Reading.{Reading}
use Rattle.sudo_match.specs.declared.patterns.Reading.TheVariants.{Exact, Host, Quoted}
use Rattle.sudo_match.specs.declared.patterns.Chars.{Chars}
use Rattle.sudo_match.specs.declared.patterns.Text.{Text}
use Rattle.sudo_match.specs.Class.{class_name, lower, lower_text}
use Rattle.sudo_match.specs.Pattern.{is_byte, is_plain, has, begins, class_form, class_end, range_at, any_name}
use Rattle.sudo_match.specs.HostNames.{lower_char, literal_char, free_bang, free_bangs, host_chars, quoted_chars}
use Rattle.sudo_match.specs.Reading.{read, seen}
use Rattle.sudo_match.specs.Body.Reading.{follows_bracket, read_one, text_of}

-- ---- Places

pub slice_get-drop : {A : Type 0} (n i : ℕ) (xs : List A) → slice_get (drop n xs) i ≡ slice_get xs (n + i)
slice_get-drop zero i xs = rw zero-add refl
slice_get-drop (suc n) i [] = refl
slice_get-drop (suc n) i (x ∷ xs) =
    slice_get-drop n i xs ∙ sym (let e : suc n + i ≡ suc (n + i) = omega arith in ap (λ k. slice_get (x ∷ xs) k) e)

drop-next : {A : Type 0} (n : ℕ) (x : A) (xs : List A) → drop (suc n + 1) (x ∷ xs) ≡ drop (n + 1) xs
drop-next n x xs = let e : suc n + 1 ≡ suc (n + 1) = omega arith in ap (λ k. drop k (x ∷ xs)) e

pub drop-some : {A : Type 0} (n : ℕ) (xs : List A) (x : A) → slice_get xs n ≡ Some x → drop n xs ≡ x ∷ drop (n + 1) xs
drop-some zero [] x e = cc
drop-some zero (y ∷ xs) x e = let same : y ≡ x = cc in ap (λ z. z ∷ xs) same
drop-some (suc n) [] x e = cc
drop-some (suc n) (y ∷ xs) x e = drop-some n xs x e ∙ ap (λ z. x ∷ z) (sym (drop-next n y xs))

and_assoc : (a b c : Bool) → ((a && b) && c) ≡ (a && (b && c))
and_assoc true b c = refl
and_assoc false b c = refl

pub drop-none : {A : Type 0} (n : ℕ) (xs : List A) → slice_get xs n ≡ None → drop n xs ≡ []
drop-none zero [] e = refl
drop-none zero (y ∷ xs) e = cc
drop-none (suc n) [] e = refl
drop-none (suc n) (y ∷ xs) e = drop-none n xs e

-- ---- Reading

length-free_bangs : (f : Bool) (cs : List Ch) → length (free_bangs f cs) ≡ length cs
unfolding free_bangs
length-free_bangs f [] = refl
length-free_bangs f (c ∷ cs) = ap suc (length-free_bangs (is_plain 91 c) cs)

pub length-read : (r : Reading) (cs : List Ch) → length (read r cs) ≡ length cs
unfolding host_chars quoted_chars
length-read Exact cs = refl
length-read Host cs = length-map (free_bangs false cs) lower_char ∙ length-free_bangs false cs
length-read Quoted cs = length-map cs literal_char

-- the character before an index, or what stands before the first
before : Bool → List Ch → ℕ → Bool
before f cs zero = f
before f cs (suc n) = has (is_plain 91) (slice_get cs n)

slice_get-free_bangs :
    (f : Bool) (cs : List Ch) (n : ℕ) → slice_get (free_bangs f cs) n ≡ option_map (free_bang (before f cs n)) (slice_get cs n)
unfolding free_bangs before
slice_get-free_bangs f [] n = refl
slice_get-free_bangs f (c ∷ cs) zero = refl
slice_get-free_bangs f (c ∷ cs) (suc zero) = slice_get-free_bangs (is_plain 91 c) cs zero
slice_get-free_bangs f (c ∷ cs) (suc (suc n)) = slice_get-free_bangs (is_plain 91 c) cs (suc n)

before-follows : (cs : List Ch) (n : ℕ) → before false cs n ≡ follows_bracket cs n
unfolding before
before-follows cs zero = refl
before-follows cs (suc n) = refl

pub slice_get-read :
    (r : Reading) (cs : List Ch) (n : ℕ) → slice_get (read r cs) n ≡ option_map (read_one r (follows_bracket cs n)) (slice_get cs n)
unfolding host_chars quoted_chars
slice_get-read Exact cs n = sym (option_map_id (slice_get cs n))
slice_get-read Host cs n =
    slice_get-map lower_char (free_bangs false cs) n
    ∙ ap (option_map lower_char) (slice_get-free_bangs false cs n)
    ∙ option_map-map lower_char (free_bang (before false cs n)) (slice_get cs n)
    ∙ ap (λ f. option_map (λ c. lower_char (free_bang f c)) (slice_get cs n)) (before-follows cs n)
slice_get-read Quoted cs n = slice_get-map literal_char cs n

-- ---- Forms

pub begins-step :
    (test : Ch → Bool) (tests : List (Ch → Bool)) (n : ℕ) (cs : List Ch) →
    begins (test ∷ tests) (drop n cs) ≡ (has test (slice_get cs n) && begins tests (drop (n + 1) cs))
unfolding begins
begins-step test tests zero [] = refl
begins-step test tests zero (c ∷ cs) = refl
begins-step test tests (suc n) [] = refl
begins-step test tests (suc n) (c ∷ cs) =
    begins-step test tests n cs ∙ ap (λ z. has test (slice_get cs n) && begins tests z) (sym (drop-next n c cs))

pub begins-append :
    (xs ys : List (Ch → Bool)) (n : ℕ) (cs : List Ch) →
    begins (xs ++ ys) (drop n cs) ≡ (begins xs (drop n cs) && begins ys (drop (n + length xs) cs))
unfolding begins
begins-append [] ys n cs = ap (λ k. begins ys (drop k cs)) (sym (add-zero n))
begins-append (x ∷ xs) ys n cs =
    begins-step x (xs ++ ys) n cs
    ∙ ap (λ b. has x (slice_get cs n) && b) (begins-append xs ys (n + 1) cs)
    ∙ sym (and_assoc (has x (slice_get cs n)) (begins xs (drop (n + 1) cs)) _)
    ∙ ap (λ b. b && begins ys (drop (n + 1 + length xs) cs)) (sym (begins-step x xs n cs))
    ∙ (let e : n + 1 + length xs ≡ n + suc (length xs) = omega arith in
    ap (λ k. begins (x ∷ xs) (drop n cs) && begins ys (drop k cs)) e)

pub begins-length : (tests : List (Ch → Bool)) (cs : List Ch) → begins tests cs ≡ true → length tests ≤ length cs
unfolding begins
begins-length [] cs e = omega arith
begins-length (x ∷ xs) [] e = cc
begins-length (x ∷ xs) (c ∷ cs) e = let h : length xs ≤ length cs = begins-length xs cs (and_second (x c) _ e) in omega arith

pub range_at-none : (a : Ch) (cs : List Ch) → slice_get cs 1 ≡ None → range_at a cs ≡ (Single a.byte, 0)
unfolding range_at
range_at-none a [] e = refl
range_at-none a (d ∷ []) e = refl
range_at-none a (d ∷ b ∷ cs) e = cc

pub range_at-some :
    (a : Ch) (cs : List Ch) (b : Ch) → slice_get cs 1 ≡ Some b →
    range_at a cs ≡ cond (has (is_plain 45) (slice_get cs 0) && not (is_plain 93 b)) (Range a.byte b.byte, 2) (Single a.byte, 0)
unfolding range_at
range_at-some a [] b e = cc
range_at-some a (d ∷ []) b e = cc
range_at-some a (d ∷ c ∷ cs) b e =
    let same : c ≡ b = cc in
    ap (λ z. cond (is_plain 45 d && not (is_plain 93 z)) (Range a.byte z.byte, 2) (Single a.byte, 0)) same

-- ---- The characters that a `Chars` shows

length-any_name : (f : Bool) → length (any_name f) ≤ 2
length-any_name true = omega arith
length-any_name false = omega arith

pub length-seen : (c : Chars) → length (seen c) ≡ length c.chars.now + length (any_name c.is_folder)
length-seen c =
    let e = length-append (read c.reading c.chars.now) (any_name c.is_folder) in
    let f = length-read c.reading c.chars.now in omega (arith, e, f)

pub seen-short : (c : Chars) → length (seen c) < 2 ^ 63
seen-short c =
    let e = length-seen c in let f = length-any_name c.is_folder in
    let h : length c.chars.now < 2 ^ 62 = c.short in omega (arith, e, f, h)

slice_get-append-right : {A : Type 0} (xs ys : List A) (n : ℕ) → length xs ≤ n → slice_get (xs ++ ys) n ≡ slice_get ys (n - length xs)
slice_get-append-right [] ys n h = ap (λ k. slice_get ys k) (omega arith)
slice_get-append-right (x ∷ xs) ys zero h = absurd (omega (arith, h))
slice_get-append-right (x ∷ xs) ys (suc n) h =
    slice_get-append-right xs ys n (omega (arith, h))
    ∙ (let e : n - length xs ≡ suc n - suc (length xs) = omega arith in ap (λ k. slice_get ys k) e)

pub seen-left : (c : Chars) (n : ℕ) → n < length c.chars.now → slice_get (seen c) n ≡ slice_get (read c.reading c.chars.now) n
seen-left c n h =
    let e = length-read c.reading c.chars.now in
    slice_get-append-left (read c.reading c.chars.now) (any_name c.is_folder) n (omega (arith, e, h))

pub seen-right : (c : Chars) (n : ℕ) → length c.chars.now ≤ n
    → slice_get (seen c) n ≡ slice_get (any_name c.is_folder) (n - length c.chars.now)
seen-right c n h =
    let e = length-read c.reading c.chars.now in
    slice_get-append-right (read c.reading c.chars.now) (any_name c.is_folder) n (omega (arith, e, h))
    ∙ ap (λ k. slice_get (any_name c.is_folder) (n - k)) e

-- ---- Tests

pub and-then : (a b : Bool) → a ≡ true → (a && b) ≡ b
and-then a b e = cc

pub and-else : (a b : Bool) → a ≡ false → (a && b) ≡ a
and-else a b e = cc

pub and-true : (a : Bool) → (a && true) ≡ a
and-true true = refl
and-true false = refl

-- the end of a class, by indices
pub begins-class_end :
    (n : ℕ) (cs : List Ch) →
    begins class_end (drop n cs) ≡ (has (is_byte 58) (slice_get cs n) && has (is_plain 93) (slice_get cs (n + 1)))
unfolding begins
begins-class_end n cs =
    begins-step (is_byte 58) (is_plain 93 ∷ []) n cs
    ∙ ap (λ b. has (is_byte 58) (slice_get cs n) && b) (begins-step (is_plain 93) [] (n + 1) cs
    ∙ and-true (has (is_plain 93) (slice_get cs (n + 1))))

-- a class, by indices
pub begins-class_form :
    (k : Class) (n : ℕ) (cs : List Ch) →
    begins (class_form k) (drop n cs) ≡
    (has (is_plain 91) (slice_get cs n) && (has (is_byte 58) (slice_get cs (n + 1)) &&
    (begins (map is_plain (class_name k)) (drop (n + 2) cs) && begins class_end (drop (n + 2 + length (class_name k)) cs))))
begins-class_form k n cs =
    begins-step (is_plain 91) (is_byte 58 ∷ (map is_plain (class_name k) ++ class_end)) n cs
    ∙ ap (λ b. has (is_plain 91) (slice_get cs n) && b)
    (begins-step (is_byte 58) (map is_plain (class_name k) ++ class_end) (n + 1) cs
    ∙ ap (λ b. has (is_byte 58) (slice_get cs (n + 1)) && b)
    ((let e : n + 1 + 1 ≡ n + 2 = omega arith in ap (λ j. begins (map is_plain (class_name k) ++ class_end) (drop j cs)) e)
    ∙ begins-append (map is_plain (class_name k)) class_end (n + 2) cs
    ∙ ap (λ j. begins (map is_plain (class_name k)) (drop (n + 2) cs) && begins class_end (drop (n + 2 + j) cs))
    (length-map (class_name k) is_plain)))

-- a name, byte by byte
pub begins-name :
    (name : List ℕ) (i n : ℕ) (cs : List Ch) (b : ℕ) → drop i name ≡ b ∷ drop (i + 1) name →
    begins (map is_plain (drop i name)) (drop n cs) ≡
    (has (is_plain b) (slice_get cs n) && begins (map is_plain (drop (i + 1) name)) (drop (n + 1) cs))
begins-name name i n cs b e = ap (λ x. begins (map is_plain x) (drop n cs)) e
    ∙ begins-step (is_plain b) (map is_plain (drop (i + 1) name)) n cs

pub begins-nothing : (cs : List Ch) → begins [] cs ≡ true
unfolding begins
begins-nothing cs = refl

after-one : {A : Type 0} (n : ℕ) (cs : List A) → slice_get (drop (n + 1) cs) 1 ≡ slice_get cs (n + 2)
after-one n cs = slice_get-drop (n + 1) 1 cs ∙ (let e : n + 1 + 1 ≡ n + 2 = omega arith in ap (λ k. slice_get cs k) e)

pub range_at-drop-none : (a : Ch) (n : ℕ) (cs : List Ch) → slice_get cs (n + 2) ≡ None → range_at a (drop (n + 1) cs) ≡ (Single a.byte, 0)
range_at-drop-none a n cs e = range_at-none a (drop (n + 1) cs) (after-one n cs ∙ e)

pub range_at-drop-some :
    (a : Ch) (n : ℕ) (cs : List Ch) (b : Ch) → slice_get cs (n + 2) ≡ Some b →
    range_at a (drop (n + 1) cs) ≡ cond (has (is_plain 45) (slice_get cs (n + 1)) && not (is_plain 93 b))
    (Range a.byte b.byte, 2) (Single a.byte, 0)
range_at-drop-some a n cs b e =
    range_at-some a (drop (n + 1) cs) b (after-one n cs ∙ e)
    ∙ ap (λ o. cond (has (is_plain 45) o && not (is_plain 93 b)) (Range a.byte b.byte, 2) (Single a.byte, 0))
    (slice_get-drop (n + 1) 0 cs ∙ ap (λ k. slice_get cs k) (add-zero (n + 1)))

pub class_name-short : (k : Class) → length (class_name k) ≤ 6
class_name-short Alnum = omega arith
class_name-short Alpha = omega arith
class_name-short Blank = omega arith
class_name-short Cntrl = omega arith
class_name-short Digit = omega arith
class_name-short Graph = omega arith
class_name-short Lower = omega arith
class_name-short Print = omega arith
class_name-short Punct = omega arith
class_name-short Space = omega arith
class_name-short Upper = omega arith
class_name-short Xdigit = omega arith

pub drop-all : {A : Type 0} (n : ℕ) (xs : List A) → length xs ≤ n → drop n xs ≡ []
drop-all n xs h = drop-none n xs (slice_get_past xs n h)

pub has-within : (test : Ch → Bool) (n : ℕ) (cs : List Ch) → has test (slice_get cs n) ≡ true → n < length cs
has-within test n cs e = go (slice_get cs n) refl
  where
    go : (o : Option Ch) → slice_get cs n ≡ o → n < length cs
    go None f = let no : has test (slice_get cs n) ≡ false = ap (has test) f in cc
    go (Some c) f = slice_get_within cs n c f

length-text : (lowered : Bool) (t : List ℕ) → length (cond lowered (map lower t) t) ≡ length t
length-text true t = length-map t lower
length-text false t = refl

pub text-short : (t : Text) → length (text_of t) < 2 ^ 63
text-short t =
    let e : length (text_of t) ≡ length t.bytes.now = length-text t.lower t.bytes.now in
    let h : length t.bytes.now < 2 ^ 63 = t.short in omega (arith, e, h)

-- ---- Characters and texts that are read as they stand

pub exact-char : (c : Chars) (n : ℕ) → c.reading ≡ Exact → n < length c.chars.now → slice_get (seen c) n ≡ slice_get c.chars.now n
exact-char c n e h = seen-left c n h ∙ ap (λ r. slice_get (read r c.chars.now) n) e

pub plain-byte : (t : Text) (n : ℕ) → t.lower ≡ false → slice_get (text_of t) n ≡ slice_get t.bytes.now n
plain-byte t n e = ap (λ b. slice_get (cond b (lower_text t.bytes.now) t.bytes.now) n) e
