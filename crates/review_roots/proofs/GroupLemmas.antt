-- Groups that no list names change no list.
use Rattle.std.proofs.Common.{◌≡◌, ◌∙◌, Bool, true, false, not, cond, ◌||◌, ◌==◌, List, [], ◌∷◌, ◌++◌, ap, refl}
use Rattle.std.proofs.Common.{sym}
use Rattle.std.proofs.Common.{Some, None}
use Rattle.std.specs.Prelude.{bytes_eq, option_map}
use Rattle.std.specs.Option.{option_or}
use Rattle.std.specs.List.{list_any}
use Rattle.std.proofs.lemmas.List.Folds.{list_any-append}
use Rattle.sudo_grammar.specs.declared.kind.Atom.{Atom}
use Rattle.sudo_grammar.specs.declared.kind.Atom.TheVariants as atom
use Rattle.sudo_grammar.specs.declared.kind.Kind.TheVariants as kind
use Rattle.sudo_grammar.specs.declared.kind.Signed.{Signed}
use Rattle.sudo_grammar.specs.declared.policy.Entry.{Entry}
use Rattle.sudo_match.specs.declared.people.Group.{Group}
use Rattle.sudo_match.specs.declared.people.Person.{Person}
use Rattle.sudo_match.specs.Matching.{user_fits}
use Rattle.sudo_policy.specs.Written.{written_form}
use Rattle.sudo_verdict.specs.Last.{last_that}
use Rattle.sudo_verdict.specs.Values.{allows, value}
use Rattle.review_roots.specs.KnownGroups.{names_group, list_names, body_users, OtherGroupsChangeNoList}
use Rattle.review_roots.specs.States.{with_added}
use Rattle.review_grants.proofs.ItemLemmas.{neither}
use Rattle.review_roots.proofs.MemberLemmas.{none-in}

pub or-false : (a : Bool) → (a || false) ≡ a
or-false true = refl
or-false false = refl

-- one group more, which fails the test
any-more : (t : Group → Bool) (gs : List Group) (g : Group) → t g ≡ false → list_any t (gs ++ g ∷ []) ≡ list_any t gs
any-more t gs g fails =
    list_any-append t gs (g ∷ []) ∙ ap (λ b. list_any t gs || (b || false)) fails ∙ or-false (list_any t gs)

same-fit : (a : Atom) (u : Person) (g : Group) → names_group g a ≡ false → user_fits a (with_added u (Some g)) ≡ user_fits a u
unfolding user_fits
same-fit (atom.Group name) u g e = any-more (λ h. bytes_eq h.name name) u.groups g e
same-fit (atom.Gid gid) u g e = any-more (λ h. h.gid == gid) u.groups g e
same-fit atom.All u g e = refl
same-fit (atom.Name name) u g e = refl
same-fit (atom.Uid uid) u g e = refl
same-fit _ u g e = refl

pub same-last :
    (ws : List Signed) (u : Person) (g : Group) → list_names g ws ≡ false →
    last_that (λ w. user_fits w.atom (with_added u (Some g))) ws ≡ last_that (λ w. user_fits w.atom u) ws
same-last [] u g e = refl
same-last (w ∷ ws) u g e =
    let both = neither (names_group g w.atom) (list_names g ws) e in
    ap (λ o. option_or o (cond (user_fits w.atom (with_added u (Some g))) (Some w) None)) (same-last ws u g both.1)
    ∙ ap (λ b. option_or (last_that (λ w. user_fits w.atom u) ws) (cond b (Some w) None)) (same-fit w.atom u g both.0)

pub other_groups : OtherGroupsChangeNoList
unfolding value
other_groups p g unnamed e users sections inside is u =
    let none : list_names g (written_form kind.User p users) ≡ false =
    ap (λ b. list_names g (body_users p b)) (sym is)
    ∙ none-in (λ (w : Signed). names_group g w.atom) (λ (e : Entry). body_users p e.body) p.entries e unnamed inside in
    ap (λ o. allows (option_map (λ (w : Signed). not w.negated) o)) (same-last (written_form kind.User p users) u g none)
