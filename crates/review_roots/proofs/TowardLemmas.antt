-- Users of another name than the target's are given the same by the same blocks, on each host.
use Rattle.std.proofs.Common.{◌≡◌, ◌∙◌, ℕ, Bool, true, false, cond, ◌&&◌, ◌||◌, ◌==◌, List, ap, flat_map, map, refl, subst, sym}
use Rattle.std.proofs.Common.{Option, Some, None, option_copied}
use Rattle.std.specs.Prelude.{is_some, nat_lt, not, slice_get, unwrap_or}
use Rattle.std.specs.List.{list_any, slice_index_or}
use Rattle.sudo_grammar.specs.declared.kind.Member.{Member}
use Rattle.sudo_grammar.specs.declared.policy.Policy.{Policy}
use Rattle.sudo_grammar.specs.declared.policy.Runas.{Runas}
use Rattle.sudo_match.specs.declared.people.Person.{Person}
use Rattle.sudo_match.specs.declared.people.Group.{Group}
use Rattle.sudo_match.specs.declared.people.Machine.{Machine}
use Rattle.sudo_match.specs.KnownRows.{KnownRows}
use Rattle.sudo_verdict.specs.Questions.{question_as}
use Rattle.sudo_verdict.specs.RunasForms.{form_allows, group_allowed, has_asked, is_same_user, runas_allows, target_value}
use Rattle.review_roots.specs.declared.given.Counted.{Counted}
use Rattle.review_roots.specs.declared.block.Block.{Block}
use Rattle.review_roots.specs.declared.candidate.Candidate.{Candidate}
use Rattle.review_roots.specs.declared.given.Given.{Given}
use Rattle.review_roots.specs.declared.host.HostSteps.{HostSteps}
use Rattle.review_roots.specs.declared.level.Level.{Level}
use Rattle.review_roots.specs.declared.level.Level.TheVariants as level
use Rattle.review_roots.specs.declared.state.State.{State}
use Rattle.review_roots.specs.declared.toward.Toward.{Toward}
use Rattle.review_roots.specs.Asked.{better, given_asked, given_towards, nothing}
use Rattle.review_roots.specs.Blocks.{is_for, lists, with_rows}
use Rattle.review_roots.specs.Body.Candidates.{both_at, part_at, raises_for}
use Rattle.review_roots.specs.Body.Found.{IsCandidate}
use Rattle.review_roots.specs.Body.Towards.{AreAllowed, IsToward, block_allows}
use Rattle.review_roots.specs.Ranks.{is_at_least, rank}
use Rattle.review_roots.specs.States.{given_between, group_at, level_for, step_given}
use Rattle.review_roots.proofs.GivenLemmas.{blocks_give}
use Rattle.review_roots.proofs.IndexLemmas.{answer-at, any-are, parts-are}
use Rattle.review_grants.proofs.ListSteps.{map-same}
use Rattle.review_roots.proofs.WeakLemmas.{weak-asked, weak-level}

-- ---- A runas does not tell users of another name apart

module _ (p : Policy) (d : KnownRows) (m n : Machine) (v : Person) (g : Option Group) (u w : Person) (away : is_same_user v u ≡ false)
    (apart : is_same_user v w ≡ false) where
  form-alike : (us gs : Option (List Member)) → form_allows p (question_as d u m (Some v) g) us gs
      ≡ form_allows p (question_as d w n (Some v) g) us gs
  unfolding form_allows
  form-alike (Some us) (Some gs) =
      ap (λ b. unwrap_or (target_value p us v) (is_some g && b) && group_allowed p gs v g) (away ∙ sym apart)
  form-alike (Some us) None = refl
  form-alike None (Some gs) = ap (λ b. b && group_allowed p gs u g) away ∙ sym (ap (λ b. b && group_allowed p gs w g) apart)
  form-alike None None = ap (λ b. b && has_asked u g) away ∙ sym (ap (λ b. b && has_asked w g) apart)

  runas-alike : (r : Option Runas) → runas_allows p (question_as d u m (Some v) g) r ≡ runas_allows p (question_as d w n (Some v) g) r
  unfolding runas_allows
  runas-alike None = refl
  runas-alike (Some r) = form-alike r.users r.groups

pub allowed-all :
    (p : Policy) (d : KnownRows) (bs : List Block) (v w : Person) (m : Machine) (g : Option Group) (allowed : List Bool) →
    is_same_user v w ≡ false → allowed ≡ map (block_allows p d w m v g) bs → AreAllowed p d bs v g allowed
allowed-all p d bs v w m g allowed apart is u n away =
    is ∙ map-same (block_allows p d w m v g) (block_allows p d u n v g)
    (λ b. runas-alike p d m n v g w u apart away (option_copied b.runas)) bs

-- ---- The step of a user of another name

better-alone : (a : Given) → better a nothing ≡ a
better-alone a = go a.level refl
  where
    pick : Level → Given
    pick l =
        cond (nat_lt (rank l) 0 || ((rank l == 0) && ((false && not a.free) || (false && not a.unasked)))) nothing a

    go : (l : Level) → a.level ≡ l → pick a.level ≡ a
    go level.None e = ap pick e
    go level.Listed e = ap pick e
    go level.AllBut e = ap pick e
    go level.All e = ap pick e

module _
    (h : HostSteps) (c : Candidate) (v : Person) (g : Option Group) (allowed : List Bool) (is : IsCandidate h c)
    (away : is_same_user v c.person ≡ false) (all : AreAllowed h.checked.now h.directory.now h.blocks.now v g allowed)
  where
    -- the block is for the host, and its runas allows the target and the group
    abbrev stands_for : Block → Bool
    stands_for b =
        is_for h.checked.now h.host.now b
        && runas_allows h.checked.now (question_as h.directory.now c.person h.host.now (Some v) g) (option_copied b.runas)

    both-are : (i : ℕ) (b : Block) → slice_get h.blocks.now i ≡ Some b → both_at h.on.items allowed i ≡ stands_for b
    both-are i b at =
        ap (λ xs. slice_index_or xs i false && slice_index_or allowed i false) h.here
        ∙ ap (λ a. a && slice_index_or allowed i false) (answer-at (is_for h.checked.now h.host.now) h.blocks.now i b at)
        ∙ ap (λ xs. is_for h.checked.now h.host.now b && slice_index_or xs i false) (all c.person h.host.now away)
        ∙ ap (λ a. is_for h.checked.now h.host.now b && a)
        (answer-at (block_allows h.checked.now h.directory.now c.person h.host.now v g) h.blocks.now i b at)

    towards-asked :
        given_asked h.checked.now h.directory.now c.person h.host.now (Some v) g
        ≡ given_towards h.checked.now h.directory.now h.host.now c.person v g
    towards-asked =
        sym (ap (λ b. better (given_asked h.checked.now h.directory.now c.person h.host.now (Some v) g)
        (cond (b && is_some g) (given_asked h.checked.now h.directory.now c.person h.host.now None g) nothing)) away
        ∙ better-alone (given_asked h.checked.now h.directory.now c.person h.host.now (Some v) g))

    pub foreign-given :
        (given : Given) →
        given ≡ with_rows nothing (flat_map (part_at (λ i b. both_at h.on.items allowed i) h.blocks.now) c.listed.items) →
        given ≡ given_towards h.checked.now h.directory.now h.host.now c.person v g
    foreign-given given gives =
        gives
        ∙ ap (λ is. with_rows nothing (flat_map (part_at (λ i b. both_at h.on.items allowed i) h.blocks.now) is)) is.listed
        ∙ ap (with_rows nothing)
        (parts-are (lists h.checked.now c.person) stands_for (λ i b. both_at h.on.items allowed i) h.blocks.now both-are)
        ∙ blocks_give h.checked.now (question_as h.directory.now c.person h.host.now (Some v) g) h.blocks.now h.tied
        ∙ towards-asked

    -- where no block that raises stands, the step has not the least level
    pub foreign-barred :
        list_any (both_at h.on.items allowed) c.strong.items ≡ false → (k : Counted) (l : Level) → is_at_least h.least l ≡ true →
        is_at_least l (level_for k (given_towards h.checked.now h.directory.now h.host.now c.person v g)) ≡ false
    foreign-barred none k l above =
        ap (λ a. is_at_least l (level_for k a)) (sym towards-asked)
        ∙ weak-level h.least (given_asked h.checked.now h.directory.now c.person h.host.now (Some v) g) h.listed
        (weak-asked h.checked.now h.directory.now h.least c.person h.host.now (Some v) g h.blocks.now h.tied h.listed
        (sym (any-are (raises_for h.checked.now h.least c.person) stands_for (both_at h.on.items allowed) h.blocks.now both-are)
        ∙ sym (ap (list_any (both_at h.on.items allowed)) is.strong) ∙ none)) k l above

-- the step, from the user, the target and the group
pub step-from :
    (h : HostSteps) (s : State) (c : Candidate) (v : Person) → IsCandidate h c → slice_get h.directory.now.people s.user ≡ Some v →
    given_towards h.checked.now h.directory.now h.host.now c.person v (group_at h.groups.now s.added)
    ≡ step_given h.checked.now h.directory.now h.host.now h.groups.now c.state s
step-from h s c v is at =
    sym (ap (λ o. given_between h.checked.now h.directory.now h.host.now o (slice_get h.directory.now.people s.user)
    (group_at h.groups.now s.added)) is.person
    ∙ ap (λ o. given_between h.checked.now h.directory.now h.host.now (Some c.person) o (group_at h.groups.now s.added)) at)

pub step-none :
    (h : HostSteps) (s : State) (c : Candidate) → IsCandidate h c → slice_get h.directory.now.people s.user ≡ None →
    nothing ≡ step_given h.checked.now h.directory.now h.host.now h.groups.now c.state s
step-none h s c is none =
    sym (ap (λ o. given_between h.checked.now h.directory.now h.host.now o (slice_get h.directory.now.people s.user)
    (group_at h.groups.now s.added)) is.person
    ∙ ap (λ o. given_between h.checked.now h.directory.now h.host.now (Some c.person) o (group_at h.groups.now s.added)) none)

-- what steps to a state depend on is what steps to its own state do
pub toward-itself :
    (h : HostSteps) (s : State) (t : Toward) → IsToward h.checked.now h.directory.now h.groups.now h.blocks.now s t →
    IsToward h.checked.now h.directory.now h.groups.now h.blocks.now t.state t
toward-itself h s t is = subst (λ s. IsToward h.checked.now h.directory.now h.groups.now h.blocks.now s t) (sym is.state) is
