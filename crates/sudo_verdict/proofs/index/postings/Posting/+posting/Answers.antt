use Rattle.std.proofs.Common.{true, arith, sym, ◌∙◌, ap, refl}
use Rattle.sudo_base.proofs.Options.{on_ok}
use Rattle.sudo_verdict.specs.Postings.{is_in_row}
use Rattle.sudo_verdict.proofs.ListDecisions.{last_silent, rest_resolves, last_resolves, rest_shallow, last_shallow}
use Rattle.sudo_verdict.proofs.ListDecisions.{none_silent, undefined_never, alias_silent, alias_falls, alias_stands}
use Rattle.sudo_verdict.proofs.ListDecisions.{atom_silent}
use Rattle.sudo_verdict.proofs.Misses.{grows-on}
use Rattle.sudo_verdict.proofs.Silent.{silent-old, silent-never}
use Rattle.sudo_verdict.proofs.index.postings.Posting.+posting.Goals as goal

pub post_member-returns-then-self-eq0-clause-covers : goal.post_member-returns-then-self-eq0-clause-covers
post_member-returns-then-self-eq0-clause-covers t c =
    on_ok c.post.result (λ there test s. absurd (silent-never c.post.new.self.rows.items c.args.rule test there s)) c.post.ensures.posted

pub post_member-post_members-requires : goal.post_member-post_members-requires
post_member-post_members-requires t c =
    let found = rw (c.in-Some.is, c.as_slice.ensures) at c.definition.ensures.value in (
      omega (
        arith,
        alias_falls c.args.kind c.args.checked.now (λ a. true) c.args.member.now c.in-Alias.name
            c.in-Some.members.now c.in-Alias.is found c.requires.resolves,
        c.decreases,
      ),
      (
        c.requires.rows,
        alias_stands c.args.kind c.args.checked.now (λ a. true) c.args.member.now c.in-Alias.name
            c.in-Some.members.now c.in-Alias.is found c.requires.resolves,
      ),
    )

pub post_member-returns-in-Some-clause-covers : goal.post_member-returns-in-Some-clause-covers
post_member-returns-in-Some-clause-covers t c =
    let found = rw (c.in-Some.is, c.as_slice.ensures) at c.definition.ensures.value in
    on_ok c.post_members.result
    (λ covers test s. sym (alias_silent c.args.kind c.args.checked.now test c.args.member.now c.in-Alias.name
    c.in-Some.members.now c.in-Alias.is found c.requires.resolves (sym (covers test s))))
    c.post_members.ensures.covers

pub post_member-returns-in-None-clause-covers : goal.post_member-returns-in-None-clause-covers
post_member-returns-in-None-clause-covers t c =
    absurd (undefined_never c.args.kind c.args.checked.now c.args.member.now c.in-Alias.name c.in-Alias.is
    (sym (rw (c.in-None.is, c.as_slice.ensures) at c.definition.ensures.value)) c.requires.resolves)

pub post_member-returns-in_default-clause-covers : goal.post_member-returns-in_default-clause-covers
post_member-returns-in_default-clause-covers t c =
    on_ok c.post-in_default.result
    (λ there test s.
    sym (atom_silent c.args.kind c.args.checked.now test c.args.member.now c.in_default.not-Alias
    (s.atoms c.args.member.now.atom (ap (λ k. is_in_row c.post-in_default.new.self.rows.items k c.args.rule)
    (sym c.atom_number.ensures) ∙ there))))
    c.post-in_default.ensures.posted

pub post_members-loop-member-init : goal.post_members-loop-member-init
post_members-loop-member-init t c = record {
  count = refl;
  grows = λ number rule e. e;
  resolve = c.requires.resolves;
  shallow = omega arith;
  same = λ test s. refl;
}

pub post_members-post_member-requires : goal.post_members-post_member-requires
post_members-post_member-requires t c =
    let is = c.in-Some.ensures.cases.0 in (
      omega (
        arith,
        last_shallow c.args.kind c.args.checked.now (λ a. true) c.loop-member.left.now c.in-Some.rest.now
            c.in-Some.member.now is,
        c.loop-member.invariant.shallow,
        c.decreases,
      ),
      (
        omega (arith, c.requires.rows, c.loop-member.invariant.count),
        last_resolves c.args.kind c.args.checked.now
            (λ a. true) c.loop-member.left.now c.in-Some.rest.now c.in-Some.member.now is c.loop-member.invariant.resolve,
      ),
    )

pub post_members-returns-in_err-post_member-clause-count : goal.post_members-returns-in_err-post_member-clause-count
post_members-returns-in_err-post_member-clause-count t c = c.post_member.ensures.count ∙ c.loop-member.invariant.count

pub post_members-returns-in_err-post_member-clause-grows : goal.post_members-returns-in_err-post_member-clause-grows
post_members-returns-in_err-post_member-clause-grows t c =
    grows-on c.args.self.now.rows.rows.items c.loop-member.self.rows.rows.items c.post_member.new.self.rows.rows.items
    c.loop-member.invariant.grows c.post_member.ensures.grows

pub post_members-loop-member-smaller : goal.post_members-loop-member-smaller
post_members-loop-member-smaller t c = let shorter = c.in-Some.ensures.cases.1 in omega (arith, shorter)

pub post_members-loop-member-preserved : goal.post_members-loop-member-preserved
post_members-loop-member-preserved t c =
    let is = c.in-Some.ensures.cases.0 in
    record {
      count = c.post_member.ensures.count ∙ c.loop-member.invariant.count;
      grows = grows-on c.args.self.now.rows.rows.items c.loop-member.self.rows.rows.items
          c.post_member.new.self.rows.rows.items c.loop-member.invariant.grows c.post_member.ensures.grows;
      resolve = rest_resolves c.args.kind c.args.checked.now (λ a. true) c.loop-member.left.now c.in-Some.rest.now
          c.in-Some.member.now is c.loop-member.invariant.resolve;
      shallow = omega (
        arith,
        rest_shallow c.args.kind c.args.checked.now (λ a. true) c.loop-member.left.now
            c.in-Some.rest.now c.in-Some.member.now is,
        c.loop-member.invariant.shallow,
      );
      same = λ test s.
          c.loop-member.invariant.same test
          (silent-old c.loop-member.self.rows.rows.items c.post_member.new.self.rows.rows.items c.args.rule test
          c.post_member.ensures.grows s)
          ∙ last_silent c.args.kind c.args.checked.now test c.loop-member.left.now c.in-Some.rest.now
          c.in-Some.member.now is (c.in_ok-post_member.ensures.covers test s);
    }

pub post_members-returns-clause-count : goal.post_members-returns-clause-count
post_members-returns-clause-count t c = c.loop-member.invariant.count

pub post_members-returns-clause-grows : goal.post_members-returns-clause-grows
post_members-returns-clause-grows t c = c.loop-member.invariant.grows

pub post_members-returns-clause-covers : goal.post_members-returns-clause-covers
post_members-returns-clause-covers t c =
    λ test s. c.loop-member.invariant.same test s ∙ none_silent _ _ _ _ c.in_default.ensures.cases
