-- Laws of the marking of aliases.
use Rattle.std.proofs.Common.{◌≡◌, ℕ, zero, suc, ◌+◌, ◌<◌, Bool, true, false, List, [], ◌∷◌, ◌++◌, set, get_or}
use Rattle.std.proofs.Common.{replicate, length, Option, Some, refl, sym, ◌∙◌, ap, subst, arith, inl, inr, ◌⊎◌}
use Rattle.std.proofs.Common.{length-append}
use Rattle.std.specs.Prelude.{slice_get, Contains}
use Rattle.std.proofs.lemmas.Option.{slice_get-get_or}
use Rattle.std.proofs.lemmas.List.Elements.{Contains-get_or, Contains-append_left, Contains-append_right}
use Rattle.std.proofs.lemmas.List.Elements.{Contains-append_cases, Contains-push, Contains-push_cases}
use Rattle.std.proofs.lemmas.List.{length-set}
use Rattle.sudo_policy.specs.Body.Graph.{Links, Edge, IsInside, IsClosed}
use Rattle.sudo_policy.specs.Body.Marking.{IsMarked, IsUnmarked, unmarked_count, MarksRow, AreSet, ReversesRow, ReversesUpTo}
use Rattle.sudo_policy.proofs.StateLemmas.{get_set_same, get_set_other, get_set_cases, get_within, within_get, same_or_not}

-- ---- Elements

pub none_in : {X : Type 0} (x : X) → Contains [] x → ⊥
none_in x h = let less = h.1 in absurd (omega (arith, less))

pub one_in : {X : Type 0} (x y : X) → Contains (x ∷ []) y → x ≡ y
one_in x y h = elim (Contains-push_cases [] x y h) [ inl none ↦ absurd (none_in y none) | inr same ↦ same ]

pub is_one : {X : Type 0} (x : X) → Contains (x ∷ []) x
is_one x = Contains-push [] x

-- ---- Marks

pub marked_or_not : (marks : List Bool) (i : ℕ) (m : Bool) → slice_get marks i ≡ Some m → IsMarked marks i ⊎ (m ≡ false)
marked_or_not marks i true h = inl h
marked_or_not marks i false h = inr refl

unmarked_count-set : (marks : List Bool) (i : ℕ) → slice_get marks i ≡ Some false
    → unmarked_count (set marks i true) + 1 ≡ unmarked_count marks
unmarked_count-set [] i h = cc
unmarked_count-set (m ∷ ms) zero h = let e : m ≡ false = cc in rw e (omega arith)
unmarked_count-set (m ∷ ms) (suc i) h = let k = unmarked_count-set ms i h in omega (arith, k)

pub MarksRow-same : (row : List (Option ℕ)) (marks : List Bool) (work : List ℕ)
    → ((i : ℕ) → Contains row (Some i) → IsMarked marks i) → MarksRow row marks work marks work
MarksRow-same row marks work known = record {
  same_length = refl;
  kept = λ i h. h;
  all = known;
  noted = λ i h. inl h;
  still = λ i h. h;
  waits = λ i h. inl h;
  falls = omega arith;
}

pub MarksRow-old : (marks : List Bool) (work : List ℕ) (link : Option ℕ) (alias : ℕ) → link ≡ Some alias
    → IsMarked marks alias → MarksRow (link ∷ []) marks work marks work
MarksRow-old marks work link alias is old =
    MarksRow-same (link ∷ []) marks work (λ i h. (let e : Some alias ≡ Some i = sym is ∙ one_in link (Some i) h in
    let same : alias ≡ i = cc in subst (IsMarked marks) same old))

pub MarksRow-new : (marks : List Bool) (work : List ℕ) (link : Option ℕ) (alias : ℕ) → link ≡ Some alias
    → slice_get marks alias ≡ Some false → MarksRow (link ∷ []) marks work (set marks alias true) (work ++ alias ∷ [])
MarksRow-new marks work link alias is new =
    let inside = within_get marks alias false new in
    let here : IsMarked (set marks alias true) alias = get_set_same marks alias true inside in
    let fewer = unmarked_count-set marks alias new in
    let long : length (work ++ alias ∷ []) ≡ length work + 1 = length-append work (alias ∷ []) in
    record {
      same_length = length-set marks alias true;
      kept = λ i h. elim (same_or_not i alias) [
        | inl same ↦ subst (IsMarked (set marks alias true)) (sym same) here
        | inr apart ↦ get_set_other marks alias i true apart ∙ h
      ];
      all = λ i h. (let e : Some alias ≡ Some i = sym is ∙ one_in link (Some i) h in let same : alias ≡ i = cc in
          subst (IsMarked (set marks alias true)) same here);
      noted = λ i h. elim (same_or_not i alias) [
        | inl same ↦ inr (subst (Contains (work ++ alias ∷ [])) (sym same) (Contains-push work alias))
        | inr apart ↦ inl (sym (get_set_other marks alias i true apart) ∙ h)
      ];
      still = λ i h. Contains-append_left work (alias ∷ []) i h;
      waits = λ i h. elim (Contains-push_cases work alias i h) [
        | inl old ↦ inl old
        | inr same ↦ inr (
          subst (IsUnmarked marks) same new,
          subst (λ (k : ℕ). Contains (link ∷ []) (Some k)) same
              (subst (λ (l : Option ℕ). Contains (l ∷ []) (Some alias)) (sym is) (is_one (Some alias))),
        )
      ];
      falls = omega (arith, fewer, long);
    }

-- what is not marked was not marked
pub unmarked_before : (old new : List Bool) (i : ℕ) → length new ≡ length old
    → ((j : ℕ) → IsMarked old j → IsMarked new j) → IsUnmarked new i → IsUnmarked old i
unmarked_before old new i long kept free =
    let inside = within_get new i false free in
    let m = get_within old i (omega (arith, inside, long)) in
    elim (marked_or_not old i m.0 m.1) [
      | inl marked ↦ (let both : Some true ≡ Some false = sym (kept i marked) ∙ free in cc)
      | inr false_is ↦ m.1 ∙ ap Some false_is
    ]

-- one row and then another
pub MarksRow-append : (xs ys : List (Option ℕ)) (a b c : List Bool) (u v w : List ℕ) → MarksRow xs a u b v
    → MarksRow ys b v c w → MarksRow (xs ++ ys) a u c w
MarksRow-append xs ys a b c u v w f g =
    let first = f.falls in
    let second = g.falls in
    record {
      same_length = g.same_length ∙ f.same_length;
      kept = λ i h. g.kept i (f.kept i h);
      all = λ i h. elim (Contains-append_cases xs ys (Some i) h) [
        | inl left ↦ g.kept i (f.all i left)
        | inr right ↦ g.all i right
      ];
      noted = λ i h. elim (g.noted i h) [
        | inl old ↦ (elim (f.noted i old) [ inl older ↦ inl older | inr waiting ↦ inr (g.still i waiting) ])
        | inr waiting ↦ inr waiting
      ];
      still = λ i h. g.still i (f.still i h);
      waits = λ i h. elim (g.waits i h) [
        | inl before ↦ (elim (f.waits i before) [
          | inl first ↦ inl first
          | inr here ↦
              inr (here.0, Contains-append_left xs ys (Some i) here.1)
        ])
        | inr here ↦ inr (unmarked_before a b i f.same_length f.kept here.0, Contains-append_right xs ys (Some i) here.1)
      ];
      falls = omega (arith, first, second);
    }

pub row_of : (g : Links) (node i : ℕ) (row : List (Option ℕ)) → slice_get g node ≡ Some row → Edge g node i → Contains row (Some i)
row_of g node i row at e =
    let both : Some e.row ≡ Some row = sym e.row_is ∙ at in
    let is : e.row ≡ row = cc in
    subst (λ (r : List (Option ℕ)). Contains r (Some i)) is e.has

-- ---- Marks that are set

pub AreSet-next : (mark : Bool) (aliases : List ℕ) (at : ℕ) (old marks : List Bool) → at < length marks
    → AreSet mark aliases old marks → AreSet mark (aliases ++ at ∷ []) old (set marks at mark)
AreSet-next mark aliases at old marks inside s = record {
  same_length = length-set marks at mark ∙ s.same_length;
  those = λ i h. elim (same_or_not i at) [
    | inl same ↦ ap (slice_get (set marks at mark)) same ∙ get_set_same marks at mark inside
    | inr apart ↦ (elim (Contains-push_cases aliases at i h) [
      | inl before ↦ get_set_other marks at i mark apart ∙ s.those i before
      | inr same ↦ absurd (apart (sym same))
    ])
  ];
  only = λ i m is. elim (get_set_cases marks at i mark m inside is) [
    | inl here ↦ inr (subst (Contains (aliases ++ at ∷ [])) (sym here.0) (Contains-push aliases at), here.1)
    | inr other ↦ (elim (s.only i m other.1) [
      | inl was ↦ inl was
      | inr set_before ↦ inr (Contains-append_left aliases (at ∷ []) i set_before.0, set_before.1)
    ])
  ];
}

-- marks that are added leave those that were
pub AreSet-kept : (aliases : List ℕ) (old new : List Bool) (i : ℕ) → AreSet true aliases old new → IsMarked old i → IsMarked new i
AreSet-kept aliases old new i s was =
    let inside = within_get old i true was in
    let long = s.same_length in
    let m = get_within new i (omega (arith, inside, long)) in
    elim (s.only i m.0 m.1) [
      | inl same ↦ (let both : Some true ≡ Some m.0 = sym was ∙ same in m.1 ∙ sym both)
      | inr here ↦ m.1 ∙ ap Some here.1
    ]

-- one more mark leaves those that were
pub marked_more : (marks : List Bool) (at i : ℕ) → at < length marks → IsMarked marks i → IsMarked (set marks at true) i
marked_more marks at i inside h = elim (same_or_not i at) [
  | inl same ↦ subst (IsMarked (set marks at true)) (sym same) (get_set_same marks at true inside)
  | inr apart ↦ get_set_other marks at i true apart ∙ h
]

pub AreSet-cases : (aliases : List ℕ) (old new : List Bool) (i : ℕ) → AreSet true aliases old new → IsMarked new i
    → IsMarked old i ⊎ Contains aliases i
AreSet-cases aliases old new i s now = elim (s.only i true now) [ inl was ↦ inl was | inr here ↦ inr here.0 ]

same_list : {X : Type 0} (xs ys : List X) → length xs ≡ length ys → ((i : ℕ) (x : X) → slice_get xs i ≡ Some x
    → slice_get ys i ≡ Some x) → xs ≡ ys
same_list [] [] long same = refl
same_list [] (y ∷ ys) long same = absurd (omega (arith, long))
same_list (x ∷ xs) [] long same = absurd (omega (arith, long))
same_list (x ∷ xs) (y ∷ ys) long same =
    let first : Some y ≡ Some x = same 0 x refl in
    let others : xs ≡ ys = same_list xs ys (omega (arith, long)) (λ i z at. same (suc i) z at) in
    cc

-- marks that are set and set back are as they were
pub AreSet-back : (there back : Bool) (aliases : List ℕ) (old mid new : List Bool) → AreSet there aliases old mid
    → AreSet back aliases mid new → ((i : ℕ) → Contains aliases i → slice_get old i ≡ Some back) → new ≡ old
AreSet-back there back aliases old mid new s t before = same_list new old (t.same_length ∙ s.same_length)
    (λ i m at. elim (t.only i m at) [
      | inl was ↦ (elim (s.only i m was) [ inl older ↦ older | inr here ↦ again i m here.0 at ])
      | inr here ↦ again i m here.0 at
    ])
  where
    again : (i : ℕ) (m : Bool) → Contains aliases i → slice_get new i ≡ Some m → slice_get old i ≡ Some m
    again i m here at = before i here ∙ sym (t.those i here) ∙ at

-- ---- Reads and writes

pub read_at : {X : Type 0} (xs : List X) (i : ℕ) (x d : X) → i < length xs → get_or xs i d ≡ x → slice_get xs i ≡ Some x
read_at xs i x d less is = slice_get-get_or xs i d less ∙ ap Some is

pub inside_link : (link : Option ℕ) (n alias : ℕ) → IsInside (link ∷ []) n → link ≡ Some alias → alias < n
inside_link link n alias inside is = inside alias (subst (λ (l : Option ℕ). Contains (l ∷ []) (Some alias)) (sym is) (is_one (Some alias)))

pub inside_row : (row : List (Option ℕ)) (n k : ℕ) (d : Option ℕ) → IsInside row n → k < length row → IsInside (get_or row k d ∷ []) n
inside_row row n k d inside less i h =
    inside i (subst (λ (l : Option ℕ). Contains row l) (one_in (get_or row k d) (Some i) h) (Contains-get_or row k d less))

-- one value over and over
all_same : {X : Type 0} (n i : ℕ) (v x : X) → slice_get (replicate n v) i ≡ Some x → x ≡ v
all_same zero i v x h = cc
all_same (suc n) zero v x h = cc
all_same (suc n) (suc i) v x h = all_same n i v x h

pub same_marks : (n : ℕ) (v : Bool) (marks : List Bool) → marks ≡ replicate n v → (i : ℕ) (m : Bool) → slice_get marks i ≡ Some m → m ≡ v
same_marks n v marks is i m at = all_same n i v m (ap (λ xs. slice_get xs i) (sym is) ∙ at)

-- ---- Links turned round

Edge-set : (back : Links) (to j i : ℕ) (old new : List (Option ℕ)) → slice_get back to ≡ Some old
    → Edge (set back to new) j i → ((j ≡ to) × Contains new (Some i)) ⊎ Edge back j i
Edge-set back to j i old new at e = elim (same_or_not j to) [
  | inl same ↦
      (let here : slice_get (set back to new) to ≡ Some new = get_set_same back to new (within_get back to old at) in
      let there : slice_get (set back to new) to ≡ Some e.row =
      subst (λ (k : ℕ). slice_get (set back to new) k ≡ Some e.row) same e.row_is in
      let both : Some e.row ≡ Some new = sym there ∙ here in
      let is : e.row ≡ new = cc in
      inl (same, subst (λ (r : List (Option ℕ)). Contains r (Some i)) is e.has))
  | inr apart ↦ inr (record { row = e.row; row_is = sym (get_set_other back to j new apart) ∙ e.row_is; has = e.has })
]

pub ReversesRow-link : (back : Links) (from to : ℕ) (link : Option ℕ) (old new : List (Option ℕ)) → link ≡ Some to
    → slice_get back to ≡ Some old → new ≡ old ++ Some from ∷ [] → ReversesRow from (link ∷ []) back (set back to new)
ReversesRow-link back from to link old new is at grown =
    let inside = within_get back to old at in
    let here : slice_get (set back to new) to ≡ Some new = get_set_same back to new inside in
    record {
      same_length = length-set back to new;
      kept = λ i j e. elim (same_or_not j to) [
        | inl same ↦
            (let there : slice_get back to ≡ Some e.row = subst (λ (k : ℕ). slice_get back k ≡ Some e.row) same e.row_is in
            let both : Some e.row ≡ Some old = sym there ∙ at in
            let row_is : e.row ≡ old = cc in
            let was : Contains old (Some i) = subst (λ (r : List (Option ℕ)). Contains r (Some i)) row_is e.has in
            record {
              row = new;
              row_is = ap (slice_get (set back to new)) same
                  ∙ here;
              has = subst (λ (r : List (Option ℕ)). Contains r (Some i)) (sym grown)
                  (Contains-append_left old (Some from ∷ []) (Some i) was);
            })
        | inr apart ↦ record { row = e.row; row_is = get_set_other back to j new apart ∙ e.row_is; has = e.has }
      ];
      all = λ j h.
          (let both : Some to ≡ Some j = sym is ∙ one_in link (Some j) h in
          let same : to ≡ j = cc in
          record {
            row = new;
            row_is = ap (slice_get (set back to new)) (sym same)
                ∙ here;
            has = subst (λ (r : List (Option ℕ)). Contains r (Some from)) (sym grown) (Contains-push old (Some from));
          });
      only = λ i j e. elim (Edge-set back to j i old new at e) [
        | inl one ↦ (elim (Contains-push_cases old (Some from) (Some i)
            (subst (λ (r : List (Option ℕ)). Contains r (Some i)) grown one.1)) [
              | inl was ↦ inl (record { row = old; row_is = ap (slice_get back) one.0 ∙ at; has = was })
              | inr same ↦ inr (
                (let e : from ≡ i = cc in sym e),
                subst (λ (k : ℕ). Contains (link ∷ []) (Some k))
                    (sym one.0) (subst (λ (l : Option ℕ). Contains (l ∷ []) (Some to)) (sym is) (is_one (Some to))),
              )
            ])
        | inr other ↦ inl other
      ];
    }

pub ReversesRow-append : (xs ys : List (Option ℕ)) (from : ℕ) (a b c : Links) → ReversesRow from xs a b
    → ReversesRow from ys b c → ReversesRow from (xs ++ ys) a c
ReversesRow-append xs ys from a b c f g = record {
  same_length = g.same_length ∙ f.same_length;
  kept = λ i j e. g.kept i j (f.kept i j e);
  all = λ j h. elim (Contains-append_cases xs ys (Some j) h) [
    | inl left ↦ g.kept from j (f.all j left)
    | inr right ↦ g.all j right
  ];
  only = λ i j e. elim (g.only i j e) [
    | inl old ↦ (elim (f.only i j old) [ inl older ↦ inl older | inr here ↦ inr (here.0, Contains-append_left xs ys (Some j) here.1) ])
    | inr here ↦ inr (here.0, Contains-append_right xs ys (Some j) here.1)
  ];
}

pub ReversesUpTo-next : (g old new : Links) (at : ℕ) (row : List (Option ℕ)) → slice_get g at ≡ Some row
    → ReversesUpTo g at old → ReversesRow at row old new → ReversesUpTo g (at + 1) new
ReversesUpTo-next g old new at row is t r = record {
  same_length = r.same_length ∙ t.same_length;
  all = λ i j less e. elim (same_or_not i at) [
    | inl same ↦ subst (λ (k : ℕ). Edge new j k) (sym same) (r.all j (row_of g at j row is (subst (λ (k : ℕ). Edge g k j) same e)))
    | inr apart ↦ r.kept i j (t.all i j (omega (arith, less, apart)) e)
  ];
  only = λ i j e. elim (r.only i j e) [
    | inl was ↦ t.only i j was
    | inr here ↦ record { row = row; row_is = ap (slice_get g) here.0 ∙ is; has = here.1 }
  ];
}

pub IsClosed-turned : (g back : Links) → ReversesUpTo g (length g) back → IsClosed back
IsClosed-turned g back t i j e =
    let forward = t.only j i e in
    let less = within_get g j forward.row forward.row_is in
    let same = t.same_length in
    omega (arith, less, same)

-- ---- Rows

pub row-inside : (g : Links) (at : ℕ) (row : List (Option ℕ)) → IsClosed g → slice_get g at ≡ Some row → IsInside row (length g)
row-inside g at row closed is i h = closed at i (record { row = row; row_is = is; has = h })
