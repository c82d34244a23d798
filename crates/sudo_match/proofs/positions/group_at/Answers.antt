use Rattle.std.proofs.Common.{◌≡◌, ◌∙◌, ap, sym, length, refl, None, Some}
use Rattle.std.specs.Prelude.{slice_get, option_copied, option_and_then}
use Rattle.std.proofs.lemmas.Option.{slice_get_read, slice_get_past}
use Rattle.sudo_match.specs.declared.people.Person.{Person}
use Rattle.sudo_match.proofs.PositionLemmas.{position-is, position-past}
use Rattle.sudo_match.proofs.positions.group_at.Goals as goal

pub returns-in_err-position : goal.returns-in_err-position
returns-in_err-position c =
    ap option_copied c.from_residual.ensures
    ∙ sym (position-past c.args.people.now c.args.positions.now c.args.index c.requires
    (slice_get_past c.args.positions.now c.args.index c.in_err-position.ensures.lookup.3))

pub returns-in_err-person : goal.returns-in_err-person
returns-in_err-person c =
    let position : slice_get c.args.positions.now c.args.index ≡ Some c.in_ok-position.field-0.now =
    slice_get_read c.args.positions.now (length c.args.positions.now) c.args.index c.in_ok-position.field-0.now refl
    c.in_ok-position.ensures.lookup.3.0 c.in_ok-position.ensures.lookup.1 in
    let none : slice_get c.args.people.now c.in_ok-position.field-0.now.user ≡ None =
    slice_get_past c.args.people.now c.in_ok-position.field-0.now.user c.in_err-person.ensures.lookup.3 in
    ap option_copied c.from_residual-in_err-person.ensures
    ∙ sym (position-is c.args.people.now c.args.positions.now c.args.index c.in_ok-position.field-0.now c.requires position
    ∙ ap (option_and_then (λ (u : Person). slice_get u.groups c.in_ok-position.field-0.now.at)) none)

pub returns : goal.returns
returns c =
    let position : slice_get c.args.positions.now c.args.index ≡ Some c.in_ok-position.field-0.now =
    slice_get_read c.args.positions.now (length c.args.positions.now) c.args.index c.in_ok-position.field-0.now refl
    c.in_ok-position.ensures.lookup.3.0 c.in_ok-position.ensures.lookup.1 in
    let person : slice_get c.args.people.now c.in_ok-position.field-0.now.user ≡ Some c.in_ok-person.person.now =
    slice_get_read c.args.people.now (length c.args.people.now) c.in_ok-position.field-0.now.user
    c.in_ok-person.person.now refl c.in_ok-person.ensures.lookup.3.0 c.in_ok-person.ensures.lookup.1 in
    c.get-3.ensures
    ∙ sym (position-is c.args.people.now c.args.positions.now c.args.index c.in_ok-position.field-0.now c.requires position
    ∙ ap (option_and_then (λ (u : Person). slice_get u.groups c.in_ok-position.field-0.now.at)) person)
