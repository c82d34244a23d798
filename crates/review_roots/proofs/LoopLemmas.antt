-- What loops and calls leave, in the words of the definitions.
use Rattle.std.proofs.Common.{◌≡◌, ◌<◌, ◌≤◌, ◌∙◌, ℕ, zero, suc, true, false, List, [], ◌∷◌, ◌++◌, ◌&&◌, ap, arith, drop, false}
use Rattle.std.proofs.Common.{flat_map, get_or, length}
use Rattle.std.proofs.Common.{map, refl, subst, sym, take}
use Rattle.std.proofs.Common.{Option, Some, None, Global, Vec, option_copied}
use Rattle.std.specs.Prelude.{All, slice_get}
use Rattle.std.specs.List.{Contains, slice_index_or}
use Rattle.std.proofs.lemmas.List.{drop_all, take_all}
use Rattle.std.proofs.lemmas.List.Elements.{All-contains, All-push, All-weaker, Contains-get_or}
use Rattle.sudo_grammar.specs.declared.kind.Signed.{Signed}
use Rattle.sudo_grammar.specs.declared.policy.Policy.{Policy}
use Rattle.sudo_match.specs.declared.people.Group.{Group}
use Rattle.sudo_match.specs.declared.people.Person.{Person}
use Rattle.sudo_policy.specs.Written.{negated_if}
use Rattle.sudo_policy.proofs.Laws.{negated_never}
use Rattle.sudo_verdict.specs.Questions.{Question, question_as}
use Rattle.sudo_verdict.specs.RunasForms.{runas_allows}
use Rattle.review_roots.specs.declared.candidate.Candidate.{Candidate}
use Rattle.review_roots.specs.declared.block.Sign.{Sign}
use Rattle.review_roots.specs.declared.given.Given.{Given}
use Rattle.review_roots.specs.declared.host.HostSteps.{HostSteps}
use Rattle.review_roots.specs.declared.level.Level.{Level}
use Rattle.review_roots.specs.declared.way.Password.{Password}
use Rattle.review_roots.specs.declared.search.Found.{Found}
use Rattle.review_roots.specs.declared.search.Sought.{Sought}
use Rattle.review_roots.specs.declared.state.State.{State}
use Rattle.review_roots.specs.Asked.{given_asked, nothing}
use Rattle.review_roots.specs.Blocks.{Row, is_for, lists, sign_of, with_rows}
use Rattle.review_roots.specs.Body.Candidates.{part_at}
use Rattle.review_roots.specs.Body.Found.{PointBack, AreFound, AreGiven, AreOrdered, IsCandidate, IsFound, found_states}
use Rattle.review_roots.specs.Ranks.{is_at_least}
use Rattle.review_roots.specs.Sought.{steps_of}
use Rattle.review_roots.specs.Chains.{Steps}
use Rattle.review_roots.specs.Ways.{IsChain, first_row, marks_along, password_along, step_password, worse}
use Rattle.review_roots.proofs.FirstLemmas.{first-along}
use Rattle.review_roots.proofs.GivenLemmas.{blocks_give}
use Rattle.review_roots.proofs.IndexLemmas.{answer-at, parts-are}
use Rattle.review_roots.proofs.SearchLemmas.{from-map, to-map}
use Rattle.review_grants.specs.declared.marks.Marks.{Marks}
use Rattle.review_grants.specs.Depends.{joined_marks}
use Rattle.review_roots.specs.Body.Passing.{HasMarks, HasPassword, HasRow, IsAlong, IsTraced, LeadsWhole}
use Rattle.review_roots.proofs.WayLemmas.{AsksSoFar, LeadsSoFar, MarksSoFar, RowSoFar, asks-all, asks-more, leads-more, leads-all}
use Rattle.review_roots.proofs.WayLemmas.{marks-all, marks-more, row-all, row-more}

pub there : {X : Type 0} (xs : List X) (i : ℕ) (d : X) → i < length xs → slice_get xs i ≡ Some (get_or xs i d)
there [] i d less = absurd (omega (arith, less))
there (x ∷ xs) zero d less = refl
there (x ∷ xs) (suc i) d less = there xs i d (omega (arith, less))

-- an item that is there is not another one in its place
pub same-there : {X : Type 0} (xs : List X) (i : ℕ) (d k : X) → i < length xs → get_or xs i d ≡ get_or xs i k
same-there xs i d k less = let e : Some (get_or xs i d) ≡ Some (get_or xs i k) = sym (there xs i d less) ∙ there xs i k less in cc

pub all-mapped : {R X : Type 0} (P : X → Type 0) (now : R → X) (xs : List R) (i : ℕ) (x : R) → i < length xs → x ≡ get_or xs i x
    → All P (map now xs) → P (now x)
all-mapped P now xs i x within is all =
    All-contains P (map now xs) (now x) all (to-map now xs x (subst (Contains xs) (sym is) (Contains-get_or xs i x within)))

pub signs-all :
    (ws items : List Signed) (signs : List Sign) (i : ℕ) → items ≡ map (negated_if false) ws → length items ≤ i →
    signs ≡ map sign_of (take i items) → signs ≡ map sign_of ws
signs-all ws items signs i is all so_far =
    so_far ∙ ap (map sign_of) (take_all i items all ∙ is ∙ negated_never ws)

-- the rows of the block at an index, if it is for the host and its runas allows the question
abbrev pub asked_part : HostSteps → Candidate → Option Person → Option Group → ℕ → List Row
asked_part h c t g =
    part_at (λ i b. slice_index_or h.on.items i false
    && runas_allows h.checked.now (question_as h.directory.now c.person h.host.now t g) (option_copied b.runas)) h.blocks.now

pub asked-all :
    (h : HostSteps) (c : Candidate) (t : Option Person) (g : Option Group) (given : Given) (i : ℕ) (is : List ℕ) →
    IsCandidate h c → is ≡ c.listed.items → length is ≤ i →
    with_rows given (flat_map (asked_part h c t g) (drop i is)) ≡ with_rows nothing (flat_map (asked_part h c t g) is) →
    given ≡ given_asked h.checked.now h.directory.now c.person h.host.now t g
asked-all h c t g given i is known same all so_far =
    sym (ap (λ xs. with_rows given (flat_map (asked_part h c t g) xs)) (drop_all i is all))
    ∙ so_far
    ∙ ap (λ xs. with_rows nothing (flat_map (asked_part h c t g) xs)) (same ∙ known.listed)
    ∙ ap (with_rows nothing)
    (parts-are (lists p c.person) (λ b. is_for p h.host.now b && runas_allows p q (option_copied b.runas))
    (λ i b. slice_index_or h.on.items i false && runas_allows p q (option_copied b.runas)) h.blocks.now
    (λ i b at. ap (λ xs. slice_index_or xs i false && runas_allows p q (option_copied b.runas)) h.here
    ∙ ap (λ a. a && runas_allows p q (option_copied b.runas)) (answer-at (is_for p h.host.now) h.blocks.now i b at)))
    ∙ blocks_give p q h.blocks.now h.tied
  where
    p : Policy
    p = h.checked.now

    q : Question
    q = question_as h.directory.now c.person h.host.now t g

-- ---- Chains

pub back-at :
    (found : List Found) (at next : ℕ) (d : Found) → PointBack found → at < length found → (get_or found at d).next ≡ Some next → next < at
back-at found at next d back inside is = back at next (get_or found at d) (there found at d inside) is

pub chain-more :
    (found : List Found) (index at next : ℕ) (chain new : List State) (d e : Found) → at < length found → next < length found →
    (get_or found at d).next ≡ Some next → new ≡ chain ++ (get_or found next e).state ∷ [] → LeadsSoFar found index at chain
    → LeadsSoFar found index next new
chain-more found index at next chain new d e inside also is more so_far =
    subst (LeadsSoFar found index next) (sym more)
    (leads-more found index at next chain (get_or found at d) (get_or found next e) (there found at d inside) is (there found next e also)
    so_far)

pub chain-all :
    (found : List Found) (index at : ℕ) (chain : List State) (d : Found) → at < length found → (get_or found at d).next ≡ None
    → LeadsSoFar found index at chain →
    LeadsWhole found index chain
chain-all found index at chain d inside is so_far = leads-all found index at chain (get_or found at d) (there found at d inside) is so_far

pub chain-asks :
    (found : List Found) (user index at next : ℕ) (chain new : List State) (so_far after : Password) (d k e : Found) →
    at < length found → next < length found → (get_or found at d).next ≡ Some next → new ≡ chain ++ (get_or found next e).state ∷ [] →
    after ≡ worse so_far (step_password (get_or found at k).given user (get_or found at k).state) →
    AsksSoFar found user index at chain so_far → AsksSoFar found user index next new after
chain-asks found user index at next chain new so_far after d k e inside also is more worst asks =
    subst (AsksSoFar found user index next new) (sym worst)
    (subst (λ c. AsksSoFar found user index next c (worse so_far (step_password (get_or found at k).given user (get_or found at k).state)))
    (sym more)
    (asks-more found user index at next chain so_far (get_or found at k) (get_or found next e) (there found at k inside)
    (ap (λ (f : Found). f.next) (same-there found at k d inside) ∙ is) (there found next e also) asks))

pub chain-marks :
    (found : List Found) (index at next : ℕ) (chain new : List State) (so_far after : Marks) (d k e : Found) →
    at < length found → next < length found → (get_or found at d).next ≡ Some next → new ≡ chain ++ (get_or found next e).state ∷ [] →
    after ≡ joined_marks so_far (get_or found at k).given.marks →
    MarksSoFar found index at chain so_far → MarksSoFar found index next new after
chain-marks found index at next chain new so_far after d k e inside also is more joins marks =
    subst (MarksSoFar found index next new) (sym joins)
    (subst (λ c. MarksSoFar found index next c (joined_marks so_far (get_or found at k).given.marks))
    (sym more)
    (marks-more found index at next chain so_far (get_or found at k) (get_or found next e) (there found at k inside)
    (ap (λ (f : Found). f.next) (same-there found at k d inside) ∙ is) (there found next e also) marks))

pub chain-marked :
    (found : List Found) (index at : ℕ) (chain : List State) (marks : Marks) (d : Found) → at < length found →
    (get_or found at d).next ≡ None → MarksSoFar found index at chain marks → HasMarks found index chain marks
chain-marked found index at chain marks d inside is so_far =
    marks-all found index at chain marks (get_or found at d) (there found at d inside) so_far

pub chain-row :
    (found : List Found) (index at next : ℕ) (chain new : List State) (d e : Found) → at < length found → next < length found →
    (get_or found at d).next ≡ Some next → new ≡ chain ++ (get_or found next e).state ∷ [] → RowSoFar found index at chain
    → RowSoFar found index next new
chain-row found index at next chain new d e inside also is more row =
    subst (RowSoFar found index next) (sym more)
    (row-more found index at next chain (get_or found at d) (get_or found next e) (there found at d inside) is
    (there found next e also) row)

pub chain-password :
    (found : List Found) (user index at : ℕ) (chain : List State) (password : Password) (d : Found) → at < length found →
    (get_or found at d).next ≡ None → AsksSoFar found user index at chain password → HasPassword found user index chain password
chain-password found user index at chain password d inside is asks =
    asks-all found user index at chain password (get_or found at d) (there found at d inside) asks

pub chain-by :
    (found : List Found) (index at : ℕ) (chain : List State) (d : Found) → at < length found → (get_or found at d).next ≡ None
    → RowSoFar found index at chain → HasRow found index chain
chain-by found index at chain d inside is row = row-all found index at chain (get_or found at d) (there found at d inside) is row

pub chain-within :
    (found : List Found) (next : ℕ) (chain new : List State) (e : Found) → next < length found → new ≡ chain
    ++ (get_or found next e).state ∷ [] →
    All (Contains (found_states found)) chain → All (Contains (found_states found)) new
chain-within found next chain new e also more within =
    subst (All (Contains (found_states found))) (sym more)
    (All-push (Contains (found_states found)) chain (get_or found next e).state within
    (to-map (λ (f : Found). f.state) found (get_or found next e) (Contains-get_or found next e also)))

-- the found states are states
states-inside : (g : Steps State) (l : Level) (found : List Found) → All (IsFound g l) found → (s : State)
    → Contains (found_states found) s → Contains g.states s
states-inside g l found right s c =
    let f = from-map (λ (f : Found). f.state) found s c in
    subst (Contains g.states) f.2 (All-contains (IsFound g l) found f.0 right f.1).inside

pub way-is :
    (h : HostSteps) (q : Sought) (l : Level) (found : List Found) (index : ℕ) (d f : Found) (chain : Vec State Global)
    (password : Password) (marks : Marks) → is_at_least h.least l ≡ true → AreFound (steps_of h q) h.states.now l found →
    AreOrdered h q l found → AreGiven h found → index < length found → slice_get found index ≡ Some f →
    LeadsWhole found index chain.items → IsAlong found index chain.items →
    All (Contains (found_states found)) chain.items →
    HasRow found index chain.items → HasPassword found (get_or found index d).state.user index chain.items password →
    HasMarks found index chain.items marks →
    IsChain h q f.state (record {
      level = l;
      chain = chain;
      by = (get_or found index d).given.by;
      password = password;
      marks = marks;
    })
way-is h q l found index d f chain password marks above are order given inside at leads along within row asks depends =
    let whole = leads (steps_of h q) l (get_or found index d) are.linked (there found index d inside) in
    let is = All-contains (IsFound (steps_of h q) l) found (get_or found index d) are.right (Contains-get_or found index d inside) in
    subst (λ (e : Found). IsChain h q e.state (record {
      level = l;
      chain = chain;
      by = (get_or found index d).given.by;
      password = password;
      marks = marks;
    })) this
    (record {
      inside = All-weaker (Contains (found_states found)) (Contains (steps_of h q).states)
          (states-inside (steps_of h q) l found are.right) chain.items within;
      leads = whole.0;
      shortest = λ n p. let few = is.shortest n p in let steps = whole.1 in omega (arith, few, steps);
      first = λ ts all_in other few.
          first-along h q l above found are order chain.items index (get_or found index d) (there found index d inside) along ts all_in
          other (let steps = whole.1 in omega (arith, few, steps));
      by = row h (get_or found index d) given (there found index d inside);
      password = asks h (get_or found index d) given (there found index d inside);
      marks = depends h (get_or found index d) given (there found index d inside);
    })
  where
    this : get_or found index d ≡ f
    this = let e : Some (get_or found index d) ≡ Some f = sym (there found index d inside) ∙ at in cc

-- what a chain that is traced has
pub traced-is :
    (h : HostSteps) (l : Level) (found : List Found) (index : ℕ) (d : Found) (chain : Vec State Global) (password : Password)
    (marks : Marks) → AreGiven h found → index < length found → LeadsWhole found index chain.items → IsAlong found index chain.items →
    All (Contains (found_states found)) chain.items → HasRow found index chain.items →
    HasPassword found (get_or found index d).state.user index chain.items password → HasMarks found index chain.items marks →
    IsTraced h found index (record {
      level = l;
      chain = chain;
      by = (get_or found index d).given.by;
      password = password;
      marks = marks;
    })
traced-is h l found index d chain password marks given inside leads along within row asks depends = record {
  along = along;
  leads = leads;
  inside = within;
  row = λ f at.
      subst (λ (e : Found). (get_or found index d).given.by ≡ first_row h e.state chain.items) (same f at)
      (row h (get_or found index d) given (there found index d inside));
  password = λ f at.
      subst (λ (e : Found). password ≡ password_along h e.state.user e.state chain.items) (same f at)
      (asks h (get_or found index d) given (there found index d inside));
  marks = λ f at.
      subst (λ (e : Found). marks ≡ marks_along h e.state chain.items) (same f at)
      (depends h (get_or found index d) given (there found index d inside));
}
  where
    same : (f : Found) → slice_get found index ≡ Some f → get_or found index d ≡ f
    same f at = let e : Some (get_or found index d) ≡ Some f = sym (there found index d inside) ∙ at in cc
