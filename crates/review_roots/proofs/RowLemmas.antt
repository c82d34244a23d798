-- Whatever has a level other than none has a row that allows.
use Rattle.std.proofs.Common.{◌≡◌, ◌∙◌, ℕ, Bool, true, false, cond, ◌&&◌, ◌||◌, List, [], ◌∷◌, ap, map, refl, subst, sym}
use Rattle.std.proofs.Common.{Option, Some, None}
use Rattle.std.specs.Prelude.{is_some, slice_get}
use Rattle.sudo_grammar.specs.declared.policy.Policy.{Policy}
use Rattle.sudo_match.specs.declared.people.Person.{Person}
use Rattle.sudo_match.specs.declared.people.Group.{Group}
use Rattle.sudo_match.specs.declared.people.Machine.{Machine}
use Rattle.sudo_match.specs.KnownRows.{KnownRows}
use Rattle.sudo_verdict.specs.Questions.{question_as}
use Rattle.sudo_verdict.specs.RunasForms.{is_same_user}
use Rattle.sudo_verdict.specs.Grants.{Grant}
use Rattle.review_roots.specs.declared.given.AllowingRow.{AllowingRow}
use Rattle.review_roots.specs.declared.given.Given.{Given}
use Rattle.review_roots.specs.declared.host.HostSteps.{HostSteps}
use Rattle.review_roots.specs.declared.level.Level.{Level}
use Rattle.review_roots.specs.declared.level.Level.TheVariants as level
use Rattle.review_roots.specs.declared.state.State.{State}
use Rattle.review_roots.specs.declared.way.Way.{Way}
use Rattle.review_roots.specs.Asked.{better, given_alone, given_asked, given_by, is_better, nothing}
use Rattle.review_roots.specs.Blocks.{Row, row_of, with_row, with_rows}
use Rattle.review_roots.specs.Sought.{any_steps}
use Rattle.review_roots.specs.Chains.{LeadsAlong}
use Rattle.review_grants.specs.Depends.{is_unmarked}
use Rattle.review_roots.specs.Levels.{after_row, after_signed}
use Rattle.review_grants.specs.Targets.{target_rows}
use Rattle.review_roots.specs.Ranks.{best, is_at_least}
use Rattle.review_roots.specs.Roots.{has_zero, is_itself}
use Rattle.review_roots.specs.States.{given_between, group_at, person_of, state_with}
use Rattle.review_roots.specs.Ways.{IsWay, first_row, step_on}
use Rattle.review_roots.proofs.GivenLemmas.{rows_give_all}
use Rattle.review_roots.proofs.SearchLemmas.{at-least-trans}

-- without a row that allows there is no level
abbrev HasRow : Given → Type 0
HasRow a = a.by ≡ None → a.level ≡ level.None

kept-none : (all : Bool) → after_signed level.None true all ≡ level.None
kept-none true = refl
kept-none false = refl

row_more : (a : Given) (r : Row) → HasRow a → HasRow (with_row a r)
row_more a r has = go r.negated
  where
    kept : (k : Bool) → cond k (after_signed level.None true r.all) (best level.None (after_signed level.None true r.all)) ≡ level.None
    kept true = kept-none r.all
    kept false = ap (best level.None) (kept-none r.all)

    go :
        (n : Bool) → cond n a.by (Some (record { place = r.place; tags = r.tags })) ≡ None →
        after_row r.marks a.level n r.all ≡ level.None
    go true e = ap (λ l. after_row r.marks l true r.all) (has e) ∙ kept (is_unmarked r.marks)
    go false e = cc

rows_more : (rs : List Row) (a : Given) → HasRow a → HasRow (with_rows a rs)
rows_more [] a has = has
rows_more (r ∷ rs) a has = rows_more rs (with_row a r) (row_more a r has)

given_has : (p : Policy) (gs : List Grant) → HasRow (given_by p gs)
given_has p gs = subst HasRow (rows_give_all p gs) (rows_more (map (row_of p) gs) nothing (λ e. refl))

better_has : (a b : Given) → HasRow a → HasRow b → HasRow (better a b)
better_has a b h k = go (is_better a b)
  where
    go : (c : Bool) → HasRow (cond c b a)
    go true = k
    go false = h

alone_has : (p : Policy) (d : KnownRows) (m : Machine) (u v : Person) (g : Option Group) → HasRow (given_alone p d m u v g)
alone_has p d m u v g = go (is_same_user v u && is_some g)
  where
    go : (c : Bool) → HasRow (cond c (given_asked p d u m None g) nothing)
    go true = given_has p (target_rows p (question_as d u m None g))
    go false = λ e. refl

between_has : (p : Policy) (d : KnownRows) (m : Machine) (u v : Option Person) (g : Option Group) → HasRow (given_between p d m u v g)
between_has p d m None v g = λ e. refl
between_has p d m (Some u) None g = λ e. refl
between_has p d m (Some u) (Some v) g =
    better_has (given_asked p d u m (Some v) g) (given_alone p d m u v g)
    (given_has p (target_rows p (question_as d u m (Some v) g))) (alone_has p d m u v g)

listed-some : (l : Level) (o : Option AllowingRow) → (o ≡ None → l ≡ level.None) → is_at_least level.Listed l ≡ true → is_some o ≡ true
listed-some l (Some r) has listed = refl
listed-some l None has listed =
    let bad : is_at_least level.Listed level.None ≡ true = ap (is_at_least level.Listed) (sym (has refl)) ∙ listed in cc

-- the chain of a user that is not the target has a row that allows its first step
pub way-allows :
    (h : HostSteps) (target user : ℕ) (least : Level) (w : Way) → is_at_least level.Listed least ≡ true → is_itself h target user ≡ false →
    IsWay h target least (state_with None user) w → is_some w.by ≡ true
way-allows h target user least w listed away way =
    ap is_some way.by ∙ go w.chain.items way.leads
  where
    go : (ts : List State) → LeadsAlong (any_steps h target) w.level (state_with None user) ts
        → is_some (first_row h (state_with None user) ts) ≡ true
    go [] at = let bad : true ≡ false = sym (ap (λ b. b || has_zero h user) at) ∙ away in cc
    go (t ∷ ts) leads =
        listed-some (step_on h (state_with None user) t).level (step_on h (state_with None user) t).by
        (between_has h.checked.now h.directory.now h.host.now (person_of h.directory.now h.groups.now (state_with None user))
        (slice_get h.directory.now.people t.user) (group_at h.groups.now t.added))
        (at-least-trans level.Listed w.level (step_on h (state_with None user) t).level
        (at-least-trans level.Listed least w.level listed way.enough) leads.0)
