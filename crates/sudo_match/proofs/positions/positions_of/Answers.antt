use Rattle.std.proofs.Common.{◌≡◌, ◌≤◌, ◌<◌, length, refl, arith, Some}
use Rattle.std.specs.Prelude.{slice_get}
use Rattle.std.proofs.lemmas.Option.{slice_get_read}
use Rattle.sudo_match.proofs.PositionLemmas.{positions-none, positions-first, positions-more, positions-user, positions-all, group-within}
use Rattle.sudo_match.proofs.positions.positions_of.Goals as goal

pub loop-user-init : goal.loop-user-init
loop-user-init c = positions-none c.args.people.now c.new-positions.result.items c.new-positions.ensures.items

pub loop-at-init : goal.loop-at-init
loop-at-init c = positions-first c.args.people.now c.loop-user.positions.items c.loop-user.user c.loop-user.invariant

pub loop-at-preserved : goal.loop-at-preserved
loop-at-preserved c =
    let row : slice_get c.args.people.now c.loop-user.user ≡ Some c.index-people-user.result =
    slice_get_read c.args.people.now (length c.args.people.now) c.loop-user.user c.index-people-user.result refl
    c.loop-user-test.true c.index-people-user.is in
    let within : c.loop-at.at < length c.index-people-user.result.groups = omega (arith, c.loop-at-test.true, c.len-at-end.ensures) in
    let here = group-within c.index-people-user.result.groups c.loop-at.at within in
    positions-more c.args.people.now c.loop-at.positions.items c.push.new.self.items c.loop-user.user c.loop-at.at
    c.index-people-user.result here.0
    c.loop-at.invariant row here.1 c.in_ok-push.ensures.items

pub loop-user-preserved : goal.loop-user-preserved
loop-user-preserved c =
    let row : slice_get c.args.people.now c.loop-user.user ≡ Some c.index-people-user.result =
    slice_get_read c.args.people.now (length c.args.people.now) c.loop-user.user c.index-people-user.result refl
    c.loop-user-test.true c.index-people-user.is in
    let past : length c.index-people-user.result.groups ≤ c.loop-at.at = omega (arith, c.loop-at-test.false, c.len-at-end.ensures) in
    positions-user c.args.people.now c.loop-at.positions.items c.loop-user.user c.loop-at.at
    c.index-people-user.result c.loop-at.invariant row past

pub returns : goal.returns
returns c = positions-all c.args.people.now c.loop-user.positions.items c.loop-user.user c.loop-user.invariant c.loop-user-test.false
