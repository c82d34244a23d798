use Rattle.std.proofs.Common.{◌<◌, ◌∙◌, ◌+◌, List, Vec, Global, ap, arith, length, subst, sym}
use Rattle.std.specs.Prelude.{MatchOption}
use Rattle.sudo_match.specs.declared.people.Person.{Person}
use Rattle.review_roots.specs.declared.roots.Root.{Root}
use Rattle.review_roots.specs.Roots.{IsNoRoot, IsRootAt}
use Rattle.review_roots.proofs.RootLemmas.{AreRootsBefore, roots-all, roots-more, roots-same}
use Rattle.review_roots.proofs.roots.roots_on.Goals as goal
use Rattle.review_roots.proofs.roots.roots_on.Goals.{in-Some+in_ok-push, in_default}

pub loop-user-preserved : goal.loop-user-preserved
loop-user-preserved c =
    let h = c.args.steps.now in
    let target = c.args.target in
    let least = c.args.steps.now.least in
    let n = c.loop-user.user in
    let less : n < length h.directory.now.people =
    subst (λ (xs : List Person). n < length xs) c.people-user-end.ensures c.loop-user-test.true in
    let is = c.in_ok-root.ensures in
    elim c.match-branch-3.branch [
      | in-Some+in_ok-push w ↦
          (let root = subst (λ o. MatchOption o (IsNoRoot h target least n) (IsRootAt h target least n)) w.in-Some.is is in
          subst (AreRootsBefore h target least (n + 1))
          (sym (ap (λ (v : Vec Root Global). v.items) w.roots-is ∙ w.in_ok-push.ensures.items))
          (roots-more h target least n c.loop-user.roots.items c.loop-user.invariant w.in-Some.root less root.0 root.1))
      | in_default w ↦
          (let none = subst (λ o. MatchOption o (IsNoRoot h target least n) (IsRootAt h target least n)) w.in_default.is is in
          subst (λ (v : Vec Root Global). AreRootsBefore h target least (n + 1) v.items) (sym w.roots-is)
          (roots-same h target least n c.loop-user.roots.items c.loop-user.invariant none))
    ]

pub returns : goal.returns
returns c =
    let people = ap length c.people-user-end.ensures in
    roots-all c.args.steps.now c.args.target c.args.steps.now.least c.loop-user.user c.loop-user.roots.items c.loop-user.invariant
    (omega (arith, c.loop-user-test.false, people))
