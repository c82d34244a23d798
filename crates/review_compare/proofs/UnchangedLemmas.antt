-- Where no block between the common prefix and suffix stands, both policies say the same.
use Rattle.std.proofs.Common.{◌≡◌, ◌<◌, ◌≤◌, ◌+◌, ◌-◌, ◌∙◌, ◌⊎◌, inl, inr, ℕ, zero, suc, Bool, true, false, cond, ◌&&◌, List, [], ◌∷◌, ◌++◌}
use Rattle.std.proofs.Common.{ap, arith, refl, subst, sym, flat_map, length, map, append_assoc, Option, None, Some, option_copied}
use Rattle.std.specs.Prelude.{◌||◌, not, slice_get, is_none, is_some, option_map, unwrap_or}
use Rattle.std.specs.List.{range_with_len}
use Rattle.std.proofs.lemmas.List.{map-append}
use Rattle.sudo_grammar.specs.declared.kind.Atom.{Atom}
use Rattle.sudo_grammar.specs.declared.kind.Kind.{Kind}
use Rattle.sudo_grammar.specs.declared.kind.Kind.TheVariants as kind
use Rattle.sudo_grammar.specs.declared.kind.Member.{Member}
use Rattle.sudo_grammar.specs.declared.kind.Signed.{Signed}
use Rattle.sudo_grammar.specs.declared.policy.Policy.{Policy}
use Rattle.sudo_grammar.specs.declared.policy.Runas.{Runas}
use Rattle.sudo_match.specs.declared.people.Group.{Group}
use Rattle.sudo_match.specs.declared.people.Machine.{Machine}
use Rattle.sudo_match.specs.declared.people.Person.{Person}
use Rattle.sudo_match.specs.declared.request.Tags.{Tags}
use Rattle.sudo_match.specs.KnownRows.{KnownRows}
use Rattle.sudo_match.specs.Matching.{user_fits, host_fits, group_fits}
use Rattle.sudo_policy.specs.Written.{written_form}
use Rattle.sudo_verdict.specs.Last.{last_that}
use Rattle.sudo_verdict.specs.Questions.{Question, question_as}
use Rattle.sudo_verdict.specs.RunasForms.{form_allows, runas_allows, group_allowed, target_value, has_group, users_allow}
use Rattle.sudo_verdict.specs.RunasForms.{has_asked, is_own, is_same_user, root_allowed, users_and_groups_allow}
use Rattle.sudo_verdict.specs.Values.{value, allows, user_allowed, host_allowed}
use Rattle.review_compare.specs.declared.block.Block.{Block}
use Rattle.review_compare.specs.declared.common.Common.{Common}
use Rattle.review_compare.specs.Agreement.{Ruling}
use Rattle.review_compare.specs.Blocks.{AreBlocks, block_decider, block_stands, standing}
use Rattle.review_compare.specs.Cells.{Decider, SaySame, deciders, ruling_by}
use Rattle.review_compare.specs.Lines.{Lined}
use Rattle.review_compare.specs.Body.Chosen.{deciders_at, deciders_if, deciders_of, depends_on_user, host_at, runas_at, runas_if}
use Rattle.review_compare.specs.Body.Chosen.{standing_at, standing_if, user_at}
use Rattle.review_compare.specs.Body.Unchanged.{AreAlikeAt, AreCommon, ArePartsAlike, IsQuiet, StandAlike, rulings_at, written_if}
use Rattle.review_compare.proofs.CellLemmas.{rulings-say-same}
use Rattle.review_compare.proofs.ChosenLemmas.{all-stand, blocks-decide, no-host, no-user}

-- ---- Lists written out

value-same : (k : Kind) (p r : Policy) (ms ns : List Member) (test : Atom → Bool) → written_form k p ms ≡ written_form k r ns →
    value k p ms test ≡ value k r ns test
unfolding value
value-same k p r ms ns test e =
    ap (λ (ws : List Signed). option_map (λ (s : Signed). not s.negated) (last_that (λ (s : Signed). test s.atom) ws)) e

pub user-same : (p r : Policy) (ms ns : List Member) (u : Person) → written_form kind.User p ms ≡ written_form kind.User r ns →
    user_allowed p ms u ≡ user_allowed r ns u
user-same p r ms ns u e = ap allows (value-same kind.User p r ms ns (λ a. user_fits a u) e)

pub host-same : (p r : Policy) (ms ns : List Member) (m : Machine) → written_form kind.Host p ms ≡ written_form kind.Host r ns →
    host_allowed p ms m ≡ host_allowed r ns m
host-same p r ms ns m e = ap allows (value-same kind.Host p r ms ns (λ a. host_fits a m) e)

users-allow : (p r : Policy) (q : Question) (us vs : List Member) (t : Option Person) →
    written_form kind.Runas p us ≡ written_form kind.Runas r vs → users_allow p q us t ≡ users_allow r q vs t
users-allow p r q us vs None e = refl
users-allow p r q us vs (Some t) e = ap (λ v. allows v && has_asked t q.group) (value-same kind.Runas p r us vs (λ a. user_fits a t) e)

group-same : (p r : Policy) (gs hs : List Member) (u : Person) (g : Option Group) →
    written_form kind.Runas p gs ≡ written_form kind.Runas r hs → group_allowed p gs u g ≡ group_allowed r hs u g
group-same p r gs hs u None e = refl
group-same p r gs hs u (Some g) e = ap (λ v. unwrap_or v (has_group u g)) (value-same kind.Runas p r gs hs (λ a. group_fits a g) e)

both-allow : (p r : Policy) (q : Question) (us vs gs hs : List Member) (t : Option Person) →
    written_form kind.Runas p us ≡ written_form kind.Runas r vs → written_form kind.Runas p gs ≡ written_form kind.Runas r hs →
    users_and_groups_allow p q us gs t ≡ users_and_groups_allow r q vs hs t
both-allow p r q us vs gs hs None e f = refl
both-allow p r q us vs gs hs (Some t) e f =
    ap (λ v. unwrap_or v (is_some q.group && is_same_user t q.user) && group_allowed p gs t q.group)
    (value-same kind.Runas p r us vs (λ a. user_fits a t) e)
    ∙ ap (λ b. unwrap_or (target_value r vs t) (is_some q.group && is_same_user t q.user) && b) (group-same p r gs hs t q.group f)

some-same : (ws vs : List Signed) → Some ws ≡ Some vs → ws ≡ vs
some-same ws vs e = cc

form-same : (p r : Policy) (q : Question) (a b c d : Option (List Member)) → written_if p a ≡ written_if r c →
    written_if p b ≡ written_if r d → form_allows p q a b ≡ form_allows r q c d
unfolding form_allows
form-same p r q (Some us) (Some gs) (Some vs) (Some hs) e f =
    both-allow p r q us vs gs hs q.target (some-same (written_form kind.Runas p us) (written_form kind.Runas r vs) e)
    (some-same (written_form kind.Runas p gs) (written_form kind.Runas r hs) f)
form-same p r q (Some us) None (Some vs) None e f =
    users-allow p r q us vs q.target (some-same (written_form kind.Runas p us) (written_form kind.Runas r vs) e)
form-same p r q None (Some gs) None (Some hs) e f =
    ap (λ b. is_own q.user q.asked && b)
    (group-same p r gs hs q.user q.group (some-same (written_form kind.Runas p gs) (written_form kind.Runas r hs) f))
form-same p r q None None None None e f = refl
form-same p r q (Some us) b None d e f = cc
form-same p r q None b (Some vs) d e f = cc
form-same p r q a (Some gs) c None e f = cc
form-same p r q a None c (Some hs) e f = cc

pub runas-same : (p r : Policy) (a b : Runas) → ArePartsAlike p a r b → (q : Question) →
    runas_allows p q (Some a) ≡ runas_allows r q (Some b)
unfolding runas_allows
runas-same p r a b same q = form-same p r q a.users a.groups b.users b.groups same.0 same.1

pub none-same : (p r : Policy) (q : Question) → runas_allows p q None ≡ runas_allows r q None
unfolding runas_allows
none-same p r q = refl

pub stand-alike : (p r : Policy) (b c : Block) → written_form kind.User p b.users.now ≡ written_form kind.User r c.users.now →
    written_form kind.Host p b.hosts.now ≡ written_form kind.Host r c.hosts.now →
    ((q : Question) → runas_allows p q (option_copied b.runas) ≡ runas_allows r q (option_copied c.runas)) → StandAlike p b r c
stand-alike p r b c users hosts runas q =
    ap (λ v. (v && host_allowed p b.hosts.now q.host) && runas_allows p q (option_copied b.runas))
    (user-same p r b.users.now c.users.now q.user users)
    ∙ ap (λ v. (user_allowed r c.users.now q.user && v) && runas_allows p q (option_copied b.runas))
    (host-same p r b.hosts.now c.hosts.now q.host hosts)
    ∙ ap (λ v. (user_allowed r c.users.now q.user && host_allowed r c.hosts.now q.host) && v) (runas q)

-- ---- Blocks that answer alike

standing-cond : (p : Policy) (q : Question) (b : Block) →
    map ruling_by (standing p q b) ≡ cond (block_stands p q b) (map ruling_by (deciders_of b)) []
standing-cond p q b = go (block_stands p q b)
  where
    go : (s : Bool) → map ruling_by (cond s (deciders_of b) []) ≡ cond s (map ruling_by (deciders_of b)) []
    go true = refl
    go false = refl

pub alike-at : (p : Policy) (bs : List Block) (r : Policy) (cs : List Block) (i j : ℕ) (b c : Block) → slice_get bs i ≡ Some b →
    slice_get cs j ≡ Some c → StandAlike p b r c → map ruling_by (deciders_at bs i) ≡ map ruling_by (deciders_at cs j) →
    AreAlikeAt p bs r cs i j
alike-at p bs r cs i j b c at on stand same q =
    ap (λ (o : Option Block). map ruling_by (standing_if p q o)) at ∙ standing-cond p q b
    ∙ ap (λ s. cond s (map ruling_by (deciders_of b)) []) (stand q)
    ∙ ap (λ (rs : List (Ruling Lined (Option Tags))). cond (block_stands r q c) rs [])
    (sym (ap (λ (o : Option Block). map ruling_by (deciders_if o)) at) ∙ same
    ∙ ap (λ (o : Option Block). map ruling_by (deciders_if o)) on)
    ∙ sym (standing-cond r q c) ∙ sym (ap (λ (o : Option Block). map ruling_by (standing_if r q o)) on)

-- ---- Parts of a range

pub joined : {X : Type 0} (f : ℕ → List X) (a m n : ℕ) →
    flat_map f (range_with_len a (m + n)) ≡ flat_map f (range_with_len a m) ++ flat_map f (range_with_len (a + m) n)
joined f a zero n =
    ap (λ k. flat_map f (range_with_len a k)) (let e : 0 + n ≡ n = omega arith in e)
    ∙ ap (λ k. flat_map f (range_with_len k n)) (let e : a ≡ a + 0 = omega arith in e)
joined f a (suc m) n =
    ap (λ k. flat_map f (range_with_len a k)) (let e : suc m + n ≡ suc (m + n) = omega arith in e)
    ∙ ap (λ (xs : List _). f a ++ xs) (joined f (a + 1) m n
    ∙ ap (λ k. flat_map f (range_with_len (a + 1) m) ++ flat_map f (range_with_len k n))
    (let e : (a + 1) + m ≡ a + suc m = omega arith in e))
    ∙ sym (append_assoc (f a) (flat_map f (range_with_len (a + 1) m)) (flat_map f (range_with_len (a + suc m) n)))

silent : {X : Type 0} (f : ℕ → List X) (a n : ℕ) → ((i : ℕ) → a ≤ i → i < a + n → f i ≡ []) → flat_map f (range_with_len a n) ≡ []
silent f a zero h = refl
silent f a (suc n) h =
    ap (λ (xs : List _). xs ++ flat_map f (range_with_len (a + 1) n)) (h a (omega arith) (omega arith))
    ∙ silent f (a + 1) n (λ i low high. h i (omega (arith, low)) (omega (arith, high)))

pub pairwise : {X : Type 0} (f g : ℕ → List X) (a b n : ℕ) → ((i : ℕ) → i < n → f (a + i) ≡ g (b + i)) →
    flat_map f (range_with_len a n) ≡ flat_map g (range_with_len b n)
pairwise f g a b zero h = refl
pairwise f g a b (suc n) h =
    ap (λ (xs : List _). xs ++ flat_map f (range_with_len (a + 1) n))
    (ap f (let e : a ≡ a + 0 = omega arith in e) ∙ h 0 (omega arith) ∙ ap g (let e : b + 0 ≡ b = omega arith in e))
    ∙ ap (λ (xs : List _). g b ++ xs) (pairwise f g (a + 1) (b + 1) n (λ i less.
    ap f (let e : (a + 1) + i ≡ a + suc i = omega arith in e) ∙ h (suc i) (omega (arith, less))
    ∙ ap g (let e : b + suc i ≡ (b + 1) + i = omega arith in e)))

-- of a range whose middle has nothing the front and the back are left
ends : {X : Type 0} (f : ℕ → List X) (n front back : ℕ) → front + back ≤ n →
    ((i : ℕ) → front ≤ i → i + back < n → f i ≡ []) →
    flat_map f (range_with_len 0 n) ≡ flat_map f (range_with_len 0 front) ++ flat_map f (range_with_len (n - back) back)
ends f n front back within none =
    let m : ℕ = n - front - back in
    ap (λ k. flat_map f (range_with_len 0 k)) (let e : n ≡ front + ((n - front - back) + back) = omega (arith, within) in e)
    ∙ joined f 0 front (m + back)
    ∙ ap (λ (xs : List _). flat_map f (range_with_len 0 front) ++ xs)
    (joined f (0 + front) m back
    ∙ ap (λ (xs : List _). xs ++ flat_map f (range_with_len ((0 + front) + m) back))
    (silent f (0 + front) m (λ i low high. none i (omega (arith, low)) (omega (arith, high, within))))
    ∙ ap (λ k. flat_map f (range_with_len k back))
    (let e : (0 + front) + (n - front - back) ≡ n - back = omega (arith, within) in e))

-- ---- Policies

pub mapped-flat : (f : ℕ → List Decider) (is : List ℕ) → map ruling_by (flat_map f is) ≡ flat_map (λ i. map ruling_by (f i)) is
mapped-flat f [] = refl
mapped-flat f (i ∷ is) =
    map-append ruling_by (f i) (flat_map f is)
    ∙ ap (λ (rs : List (Ruling Lined (Option Tags))). map ruling_by (f i) ++ rs) (mapped-flat f is)

rulings-all : (p : Policy) (bs : List Block) (q : Question) → AreBlocks p bs →
    map ruling_by (deciders p q) ≡ flat_map (rulings_at p bs q) (range_with_len 0 (length bs))
rulings-all p bs q are =
    ap (map ruling_by) (sym (blocks-decide p q bs are) ∙ sym (all-stand p bs q))
    ∙ mapped-flat (standing_at p bs q (λ _. true)) (range_with_len 0 (length bs))

none-ruled : (p : Policy) (bs : List Block) (q : Question) (i : ℕ) → standing_if p q (slice_get bs i) ≡ [] → rulings_at p bs q i ≡ []
none-ruled p bs q i e = ap (map ruling_by) e

-- where no block between the common prefix and suffix stands, both policies say the same
pub quiet-same : (p r : Policy) (bs cs : List Block) (c : Common) (q : Question) → AreBlocks p bs → AreBlocks r cs →
    AreCommon p bs r cs c → IsQuiet p bs c q → IsQuiet r cs c q → SaySame p r q
quiet-same p r bs cs c q are also common own other =
    let F : ℕ → List (Ruling Lined (Option Tags)) = rulings_at p bs q in
    let G : ℕ → List (Ruling Lined (Option Tags)) = rulings_at r cs q in
    rulings-say-same (deciders p q) (deciders r q)
    (rulings-all p bs q are
    ∙ ends F (length bs) c.front c.back common.within_old (λ i low high. none-ruled p bs q i (own i low high))
    ∙ ap (λ (xs : List (Ruling Lined (Option Tags))). xs ++ flat_map F (range_with_len (length bs - c.back) c.back))
    (pairwise F G 0 0 c.front front)
    ∙ ap (λ (xs : List (Ruling Lined (Option Tags))). flat_map G (range_with_len 0 c.front) ++ xs)
    (pairwise F G (length bs - c.back) (length cs - c.back) c.back back)
    ∙ sym (ends G (length cs) c.front c.back common.within_new (λ i low high. none-ruled r cs q i (other i low high)))
    ∙ sym (rulings-all r cs q also))
  where
    front : (i : ℕ) → i < c.front → rulings_at p bs q (0 + i) ≡ rulings_at r cs q (0 + i)
    front i less =
        ap (rulings_at p bs q) (let e : 0 + i ≡ i = omega arith in e) ∙ common.front i less q
        ∙ ap (rulings_at r cs q) (let e : i ≡ 0 + i = omega arith in e)

    back : (i : ℕ) → i < c.back → rulings_at p bs q ((length bs - c.back) + i) ≡ rulings_at r cs q ((length cs - c.back) + i)
    back i less =
        let k : ℕ = c.back - i - 1 in
        ap (rulings_at p bs q)
        (let e : (length bs - c.back) + i ≡ length bs - (c.back - i - 1) - 1 = omega (arith, less, common.within_old) in e)
        ∙ common.back k (omega (arith, less)) q
        ∙ ap (rulings_at r cs q)
        (let e : length cs - (c.back - i - 1) - 1 ≡ (length cs - c.back) + i = omega (arith, less, common.within_new) in e)

-- ---- Blocks that do not stand

no-runas : (p : Policy) (q : Question) (o : Option Block) → runas_if p q o ≡ false → standing_if p q o ≡ []
no-runas p q None e = refl
no-runas p q (Some b) e =
    ap (λ v. cond ((user_allowed p b.users.now q.user && host_allowed p b.hosts.now q.host) && v) (map (block_decider b) b.rows.items) []) e
    ∙ go (user_allowed p b.users.now q.user && host_allowed p b.hosts.now q.host)
  where
    go : (v : Bool) → cond (v && false) (map (block_decider b) b.rows.items) [] ≡ []
    go true = refl
    go false = refl

pub user-quiet : (p : Policy) (bs : List Block) (c : Common) (u : Person) (n : ℕ) → length bs ≤ n + c.back →
    ((i : ℕ) → c.front ≤ i → i < n → user_at p bs u i ≡ false) → (q : Question) → q.user ≡ u → IsQuiet p bs c q
user-quiet p bs c u n all none q own i low high = no-user p bs u q (λ _. true) i own (none i low (omega (arith, all, high)))

pub spot-quiet : (p : Policy) (bs : List Block) (c : Common) (u : Person) (m : Machine) (n : ℕ) → length bs ≤ n + c.back →
    ((i : ℕ) → c.front ≤ i → i < n → (user_at p bs u i && host_at p bs m i) ≡ false) → (q : Question) → q.user ≡ u → q.host ≡ m →
    IsQuiet p bs c q
spot-quiet p bs c u m n all none q own on i low high =
    by (user_at p bs u i) refl (none i low (omega (arith, all, high)))
  where
    by : (v : Bool) → user_at p bs u i ≡ v → (v && host_at p bs m i) ≡ false → standing_if p q (slice_get bs i) ≡ []
    by false e f = no-user p bs u q (λ _. true) i own e
    by true e f = no-host p bs m q (λ _. true) i on f

same-form : (p : Policy) (q s : Question) (a b : Option (List Member)) → q.user ≡ s.user → q.asked ≡ s.asked → q.group ≡ s.group →
    q.target ≡ s.target → form_allows p q a b ≡ form_allows p s a b
unfolding form_allows
same-form p q s (Some us) (Some gs) own asked group target =
    ap (users_and_groups_allow p q us gs) target ∙ by s.target
  where
    by : (t : Option Person) → users_and_groups_allow p q us gs t ≡ users_and_groups_allow p s us gs t
    by None = refl
    by (Some t) = rw (own, group) refl
same-form p q s (Some us) None own asked group target = ap (users_allow p q us) target ∙ by s.target
  where
    by : (t : Option Person) → users_allow p q us t ≡ users_allow p s us t
    by None = refl
    by (Some t) = rw group refl
same-form p q s None (Some gs) own asked group target = rw (own, asked, group) refl
same-form p q s None None own asked group target = rw (own, asked, group) refl

same-runas : (p : Policy) (q s : Question) (o : Option Runas) → q.user ≡ s.user → q.asked ≡ s.asked → q.group ≡ s.group →
    q.target ≡ s.target → runas_allows p q o ≡ runas_allows p s o
unfolding runas_allows
same-runas p q s (Some r) own asked group target = same-form p q s r.users r.groups own asked group target
same-runas p q s None own asked group target = ap (root_allowed q) target ∙ by s.target
  where
    by : (t : Option Person) → root_allowed q t ≡ root_allowed s t
    by None = refl
    by (Some t) = rw group refl

pub other-host-runas : (p : Policy) (bs : List Block) (d : KnownRows) (u : Person) (m n : Machine) (t : Option Person) (g : Option Group)
    (i : ℕ) → runas_at p bs (question_as d u m t g) i ≡ runas_at p bs (question_as d u n t g) i
other-host-runas p bs d u m n t g i = by (slice_get bs i)
  where
    by : (o : Option Block) → runas_if p (question_as d u m t g) o ≡ runas_if p (question_as d u n t g) o
    by None = refl
    by (Some b) = same-runas p (question_as d u m t g) (question_as d u n t g) (option_copied b.runas) refl refl refl refl

-- of the user who asks for a target and a group, on every host
pub ask-quiet : (p : Policy) (bs : List Block) (c : Common) (d : KnownRows) (u : Person) (m : Machine) (t : Option Person)
    (g : Option Group) (n : ℕ) → length bs ≤ n + c.back →
    ((i : ℕ) → c.front ≤ i → i < n → (runas_at p bs (question_as d u m t g) i && user_at p bs u i) ≡ false) →
    (k : Machine) → IsQuiet p bs c (question_as d u k t g)
ask-quiet p bs c d u m t g n all none k i low high =
    by (runas_at p bs (question_as d u m t g) i) refl (none i low (omega (arith, all, high)))
  where
    by : (v : Bool) → runas_at p bs (question_as d u m t g) i ≡ v → (v && user_at p bs u i) ≡ false →
        standing_if p (question_as d u k t g) (slice_get bs i) ≡ []
    by false e f = no-runas p (question_as d u k t g) (slice_get bs i) (other-host-runas p bs d u k m t g i ∙ e)
    by true e f = no-user p bs u (question_as d u k t g) (λ _. true) i refl f

-- a runas that depends on no user
pub one-for-all : (p : Policy) (d : KnownRows) (u v : Person) (m n : Machine) (t : Option Person) (g : Option Group) (r : Option Runas) →
    depends_on_user r t ≡ false → runas_allows p (question_as d u m t g) r ≡ runas_allows p (question_as d v n t g) r
unfolding runas_allows form_allows
one-for-all p d u v m n None g r e = cc
one-for-all p d u v m n (Some t) g None e = refl
one-for-all p d u v m n (Some t) g (Some r) e = by r.users r.groups e
  where
    by : (us gs : Option (List Member)) → (is_some gs || is_none us) ≡ false →
        form_allows p (question_as d u m (Some t) g) us gs ≡ form_allows p (question_as d v n (Some t) g) us gs
    by (Some us) None e = refl
    by us (Some gs) e = cc
    by None None e = cc

-- a block allows no user what it does not allow this one, unless that depends on the user
pub none-allowed : (p : Policy) (d : KnownRows) (v : Person) (n : Machine) (t : Option Person) (g : Option Group) (b : Block) →
    depends_on_user (option_copied b.runas) t ≡ false → runas_allows p (question_as d v n t g) (option_copied b.runas) ≡ false →
    (u : Person) (m : Machine) → runas_if p (question_as d u m t g) (Some b) ≡ false
none-allowed p d v n t g b depends none u m = one-for-all p d u v m n t g (option_copied b.runas) depends ∙ none

-- where no block between may allow this to any user
pub allow-quiet : (p : Policy) (bs : List Block) (c : Common) (d : KnownRows) (t : Option Person) (g : Option Group) (n : ℕ) →
    length bs ≤ n + c.back →
    ((i : ℕ) → c.front ≤ i → i < n → (u : Person) (m : Machine) → runas_at p bs (question_as d u m t g) i ≡ false) →
    (u : Person) (m : Machine) → IsQuiet p bs c (question_as d u m t g)
allow-quiet p bs c d t g n all none u m i low high =
    no-runas p (question_as d u m t g) (slice_get bs i) (none i low (omega (arith, all, high)) u m)

-- ---- Indices

pub less-or : (i n : ℕ) → i < n + 1 → (i < n) ⊎ (i ≡ n)
less-or zero zero e = inr refl
less-or (suc i) zero e = absurd (omega (arith, e))
less-or zero (suc n) e = inl (omega arith)
less-or (suc i) (suc n) e = go (less-or i n (omega (arith, e)))
  where
    go : (i < n) ⊎ (i ≡ n) → (suc i < suc n) ⊎ (suc i ≡ suc n)
    go (inl e) = inl (omega (arith, e))
    go (inr e) = inr (ap suc e)

pub all-more : (n : ℕ) (P : ℕ → Type 0) → ((i : ℕ) → i < n → P i) → P n → (i : ℕ) → i < n + 1 → P i
all-more n P all one i less = by (less-or i n less)
  where
    by : (i < n) ⊎ (i ≡ n) → P i
    by (inl before) = all i before
    by (inr is) = subst P (sym is) one

pub none-more : (front n : ℕ) (t : ℕ → Bool) → ((i : ℕ) → front ≤ i → i < n → t i ≡ false) → t n ≡ false →
    (i : ℕ) → front ≤ i → i < n + 1 → t i ≡ false
none-more front n t none one i low high = by (less-or i n high)
  where
    by : (i < n) ⊎ (i ≡ n) → t i ≡ false
    by (inl less) = none i low less
    by (inr is) = ap t is ∙ one

pub each-more : (front n : ℕ) (P : ℕ → Type 0) → ((i : ℕ) → front ≤ i → i < n → P i) → P n → (i : ℕ) → front ≤ i → i < n + 1 → P i
each-more front n P each one i low high = by (less-or i n high)
  where
    by : (i < n) ⊎ (i ≡ n) → P i
    by (inl less) = each i low less
    by (inr is) = subst P (sym is) one
