use Rattle.std.proofs.Common.{◌≡◌, ◌+◌, ◌-◌, take, length, refl, arith, sym, ◌∙◌, ap}
use Rattle.std.proofs.lemmas.Option.{slice_get_read}
use Rattle.sudo_verdict.specs.Decided.{list_decision}
use Rattle.std.specs.Prelude.{option_copied, option_map, option_and_then}
use Rattle.sudo_base.proofs.Options.{none_of}
use Rattle.sudo_policy.specs.Positions.{members_at}
use Rattle.sudo_policy.specs.Definitions.{in_force}
use Rattle.sudo_verdict.specs.Body.Decided.{negated_once}
use Rattle.sudo_verdict.proofs.ListDecisions.{found-at, key-at, passed_between, front_decides, front_silent}
use Rattle.sudo_verdict.proofs.ListDecisions.{one_resolves, one_shallow, none_silent, undefined_never, decided_alias}
use Rattle.sudo_verdict.proofs.ListDecisions.{alias_falls, alias_stands, atom_decides, atom_silent}
use Rattle.sudo_policy.specs.Written.{is_negated}
use Rattle.sudo_verdict.specs.Body.Recalling.{number_in}
use Rattle.sudo_verdict.proofs.RememberedDecisions.{recalls_more, recalled, some-none, numbered-as}
use Rattle.sudo_verdict.proofs.decision.+deciding.Goals as goal

pub decide-returns-then-end-eq0-clause-value : goal.decide-returns-then-end-eq0-clause-value
decide-returns-then-end-eq0-clause-value g t c =
    let test = g.S.Subject.fits c.args.subject.now in
    sym (c.loop-end.invariant.same
    ∙ passed_between c.args.kind c.args.lists.checked.now test c.args.keys.now c.args.members.now c.requires.keys
    c.kept_before-end.result c.loop-end.end
    c.kept_before-end.ensures.within c.kept_before-end.ensures.passed
    ∙ ap (λ n. list_decision c.args.kind c.args.lists.checked.now (take n c.args.members.now) test) c.if-end-eq0.true
    ∙ none_silent c.args.kind c.args.lists.checked.now test (take 0 c.args.members.now) refl)

pub decide-decide_member-decided-requires : goal.decide-decide_member-decided-requires
decide-decide_member-decided-requires g t c κs within =
    let test = g.S.Subject.fits c.args.subject.now in
    let some = c.if-end-eq0.false in
    let up = c.kept_before-end.ensures.within in
    let most = c.loop-end.invariant.within in
    let at = c.kept_before-end.result - 1 in
    let member = c.index-members-end.result in
    let there = slice_get_read c.args.members.now (length c.args.members.now) at member refl
    (omega (arith, some, up, most)) c.index-members-end.is in (
      omega (arith, one_shallow c.args.kind c.args.lists.checked.now test c.args.members.now at member there, c.decreases),
      (
        within,
        (
          rw c.key_at-key.ensures (key-at c.args.kind c.args.lists.checked.now c.args.keys.now c.args.members.now at
              member there c.requires.keys),
          (
            one_resolves c.args.kind c.args.lists.checked.now test c.args.members.now at member there
                c.requires.resolves,
            c.loop-end.invariant.recalls,
          ),
        ),
      ),
    )

pub decide-returns-then-is_some-clause-value : goal.decide-returns-then-is_some-clause-value
decide-returns-then-is_some-clause-value g t c =
    let test = g.S.Subject.fits c.args.subject.now in
    let some = c.if-end-eq0.false in
    let up = c.kept_before-end.ensures.within in
    let most = c.loop-end.invariant.within in
    let at = c.kept_before-end.result - 1 in
    let member = c.index-members-end.result in
    let place : c.kept_before-end.result ≡ at + 1 = omega (arith, some) in
    let there = slice_get_read c.args.members.now (length c.args.members.now) at member refl
    (omega (arith, some, up, most)) c.index-members-end.is in
    sym (c.loop-end.invariant.same
    ∙ passed_between c.args.kind c.args.lists.checked.now test c.args.keys.now c.args.members.now c.requires.keys
    c.kept_before-end.result c.loop-end.end
    up c.kept_before-end.ensures.passed
    ∙ ap (λ n. list_decision c.args.kind c.args.lists.checked.now (take n c.args.members.now) test) place
    ∙ front_decides c.args.kind c.args.lists.checked.now test c.args.members.now at member there c.decide_member-decided.result
    (sym c.decide_member-decided.ensures.value) (sym c.if-is_some.ensures))

pub decide-loop-end-preserved : goal.decide-loop-end-preserved
decide-loop-end-preserved g t c =
    let test = g.S.Subject.fits c.args.subject.now in
    let some = c.if-end-eq0.false in
    let up = c.kept_before-end.ensures.within in
    let most = c.loop-end.invariant.within in
    let at = c.kept_before-end.result - 1 in
    let member = c.index-members-end.result in
    let place : c.kept_before-end.result ≡ at + 1 = omega (arith, some) in
    let there = slice_get_read c.args.members.now (length c.args.members.now) at member refl
    (omega (arith, some, up, most)) c.index-members-end.is in
    record {
      within = omega (arith, up, most);
      recalls = c.decide_member-decided.ensures.recalls;
      same =
          c.loop-end.invariant.same
          ∙ passed_between c.args.kind c.args.lists.checked.now test c.args.keys.now c.args.members.now
          c.requires.keys c.kept_before-end.result c.loop-end.end
          up c.kept_before-end.ensures.passed
          ∙ ap (λ n. list_decision c.args.kind c.args.lists.checked.now (take n c.args.members.now) test) place
          ∙ front_silent c.args.kind c.args.lists.checked.now test c.args.members.now at member there
          (sym c.decide_member-decided.ensures.value ∙ none_of c.decide_member-decided.result (sym c.if-is_some.ensures));
    }

pub decide_member-returns-in_err-position-in-Alias-clause-value : goal.decide_member-returns-in_err-position-in-Alias-clause-value
decide_member-returns-in_err-position-in-Alias-clause-value g t c =
    absurd (undefined_never c.args.kind c.args.lists.checked.now c.args.member.now c.in-Alias.name c.in-Alias.is
    (ap (in_force c.args.kind c.args.lists.checked.now) (sym c.as_slice.ensures) ∙ c.position.ensures
    ∙ ap (option_and_then (members_at c.args.lists.checked.now)) c.in_err-position-in-Alias.was)
    c.requires.resolves)

pub decide_member-returns-in_err-listed-in-Alias-clause-value : goal.decide_member-returns-in_err-listed-in-Alias-clause-value
decide_member-returns-in_err-listed-in-Alias-clause-value g t c =
    absurd (undefined_never c.args.kind c.args.lists.checked.now c.args.member.now c.in-Alias.name c.in-Alias.is
    (ap (in_force c.args.kind c.args.lists.checked.now) (sym c.as_slice.ensures) ∙ c.position.ensures
    ∙ ap (option_and_then (members_at c.args.lists.checked.now)) c.in_ok-position-in-Alias.was
    ∙ sym c.definition_at.ensures.members ∙ ap (option_map (λ l. l.members.now)) c.in_err-listed-in-Alias.was)
    c.requires.resolves)

pub decide_member-returns-then-matches : goal.decide_member-returns-then-matches
decide_member-returns-then-matches g t c = record {
  value = rw (c.is_all.ensures, c.is_negated-then-matches.ensures)
      (atom_decides c.args.kind c.args.lists.checked.now (g.S.Subject.fits c.args.subject.now) c.args.member.now
      c.in_default.not-Alias (sym c.if-matches.ensures));
  recalls = c.requires.recalls;
}

pub decide_member-returns-else-matches : goal.decide_member-returns-else-matches
decide_member-returns-else-matches g t c = record {
  value = atom_silent c.args.kind c.args.lists.checked.now (g.S.Subject.fits c.args.subject.now) c.args.member.now
      c.in_default.not-Alias (sym c.if-matches.ensures);
  recalls = c.requires.recalls;
}

pub decide_member-returns-in-Some-clause-value : goal.decide_member-returns-in-Some-clause-value
decide_member-returns-in-Some-clause-value g t c =
    let test = g.S.Subject.fits c.args.subject.now in
    let found = found-at c.args.kind c.args.lists.checked.now c.in-Alias.name c.as_slice.result.now _
    c.in_ok-listed-in-Alias.listed.members.now c.as_slice.ensures
    c.position.ensures
    (ap (option_and_then (members_at c.args.lists.checked.now)) c.in_ok-position-in-Alias.was
    ∙ sym c.definition_at.ensures.members ∙ ap (option_map (λ l. l.members.now)) c.in_ok-listed-in-Alias.was) in
    let known = recalled c.args.kind c.args.lists.checked.now (option_copied c.args.numbers) test c.args.slots.now
    c.in-Alias.name c.in_ok-listed-in-Alias.listed.members.now
    c.number_of-number.result c.in-Some.known c.requires.recalls (sym found) (c.number_of-number.ensures.value
    ∙ ap (number_in (option_copied c.args.numbers)) c.as_slice-in-Alias.ensures)
    c.in-Some.ensures.there (λ none. some-none c.in-Some.known (c.in-Some.ensures.numbered none)) in
    c.with_sign.ensures
    ∙ ap (λ b. option_map (negated_once b) c.in-Some.known) c.is_negated.ensures
    ∙ ap (option_map (negated_once (is_negated c.args.member.now))) known
    ∙ sym (decided_alias test c.args.kind c.args.lists.checked.now c.args.member.now c.in-Alias.name
    c.in_ok-listed-in-Alias.listed.members.now c.in-Alias.is (sym found) c.requires.resolves)

pub decide_member-decide-found-requires : goal.decide_member-decide-found-requires
decide_member-decide-found-requires g t c κs within =
    let found = found-at c.args.kind c.args.lists.checked.now c.in-Alias.name c.as_slice.result.now _
    c.in_ok-listed-in-Alias.listed.members.now c.as_slice.ensures
    c.position.ensures
    (ap (option_and_then (members_at c.args.lists.checked.now)) c.in_ok-position-in-Alias.was
    ∙ sym c.definition_at.ensures.members ∙ ap (option_map (λ l. l.members.now)) c.in_ok-listed-in-Alias.was) in
    let test = g.S.Subject.fits c.args.subject.now in (
      omega (
        arith,
        alias_falls c.args.kind c.args.lists.checked.now test c.args.member.now c.in-Alias.name
            c.in_ok-listed-in-Alias.listed.members.now c.in-Alias.is found c.requires.resolves,
        c.decreases,
      ),
      (
        within,
        (
          alias_stands c.args.kind c.args.lists.checked.now test c.args.member.now c.in-Alias.name
              c.in_ok-listed-in-Alias.listed.members.now c.in-Alias.is found c.requires.resolves,
          (c.in_ok-listed-in-Alias.ensures.keys, c.requires.recalls),
        ),
      ),
    )

pub decide_member-returns-in_default-recall-clause-value : goal.decide_member-returns-in_default-recall-clause-value
decide_member-returns-in_default-recall-clause-value g t c =
    let test = g.S.Subject.fits c.args.subject.now in
    let found = found-at c.args.kind c.args.lists.checked.now c.in-Alias.name c.as_slice.result.now _
    c.in_ok-listed-in-Alias.listed.members.now c.as_slice.ensures
    c.position.ensures
    (ap (option_and_then (members_at c.args.lists.checked.now)) c.in_ok-position-in-Alias.was
    ∙ sym c.definition_at.ensures.members ∙ ap (option_map (λ l. l.members.now)) c.in_ok-listed-in-Alias.was) in
    c.with_sign-in-Alias.ensures
    ∙ ap (λ b. option_map (negated_once b) c.decide-found.result) c.is_negated-in-Alias.ensures
    ∙ ap (option_map (negated_once (is_negated c.args.member.now))) c.decide-found.ensures.value
    ∙ sym (decided_alias test c.args.kind c.args.lists.checked.now c.args.member.now c.in-Alias.name
    c.in_ok-listed-in-Alias.listed.members.now c.in-Alias.is (sym found) c.requires.resolves)

pub decide_member-returns-in_default-recall-clause-recalls : goal.decide_member-returns-in_default-recall-clause-recalls
decide_member-returns-in_default-recall-clause-recalls g t c =
    let found = found-at c.args.kind c.args.lists.checked.now c.in-Alias.name c.as_slice.result.now _
    c.in_ok-listed-in-Alias.listed.members.now c.as_slice.ensures
    c.position.ensures
    (ap (option_and_then (members_at c.args.lists.checked.now)) c.in_ok-position-in-Alias.was
    ∙ sym c.definition_at.ensures.members ∙ ap (option_map (λ l. l.members.now)) c.in_ok-listed-in-Alias.was) in
    let same = c.number_of-number.ensures.value ∙ ap (number_in (option_copied c.args.numbers)) c.as_slice-in-Alias.ensures in
    recalls_more c.args.kind c.args.lists.checked.now (option_copied c.args.numbers)
    (g.S.Subject.fits c.args.subject.now) c.decide-found.new.slots c.remember.new.slots
    c.in-Alias.name c.in_ok-listed-in-Alias.listed.members.now c.decide-found.result c.number_of-number.ensures.apart
    c.decide-found.ensures.recalls (sym found) c.decide-found.ensures.value
    (λ n o e. numbered-as _ _ _ _ same (c.remember.ensures n o e))
