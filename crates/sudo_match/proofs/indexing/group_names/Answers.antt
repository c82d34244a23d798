use Rattle.std.proofs.Common.{◌≡◌, ℕ, List, ◌+◌, ◌∷◌, [], Bool, true, false, ◌||◌, ap, sym, ◌∙◌, subst}
use Rattle.std.specs.Prelude.{Some, None, Option, option_map, option_and_then, slice_get, bytes_eq, ◌==◌}
use Rattle.std.specs.Option.{option_copied}
use Rattle.std.proofs.lemmas.Option.{slice_get_past}
use Rattle.sudo_match.specs.declared.people.Group.{Group}
use Rattle.sudo_base.specs.NameIndices.{index_of}
use Rattle.sudo_match.specs.declared.fault.DirFault.{DirFault}
use Rattle.sudo_match.specs.declared.fault.DirFault.TheVariants.{GroupClash}
use Rattle.sudo_match.specs.KnownRows.{first_clash, clashes_at, groups_clash, groups_of, IsDirectoryFault}
use Rattle.sudo_match.specs.Body.Indexing.{differs, with_name}
use Rattle.sudo_match.proofs.ClashLemmas.{clash-is}
use Rattle.sudo_match.proofs.GroupLemmas.{GroupsRead, group-clash, groups-more, groups-end}
use Rattle.sudo_match.proofs.PositionLemmas.{position-past, groups-past}
use Rattle.sudo_match.proofs.indexing.group_names.Goals as goal

-- what the test of a group finds, from the indices by name and by ID
found : List Group → Group → Option ℕ → Option ℕ → Bool
found gs x p q = differs (λ g. g.gid == x.gid) (option_and_then (slice_get gs) p) || differs
    (λ g. bytes_eq g.name x.name) (option_and_then (slice_get gs) q)

tested :
    (gs : List Group) (n : ℕ) (names ids : List (List ℕ × ℕ)) (x : Group) (p q : Option ℕ) (name : List ℕ) (b : Bool)
    → GroupsRead gs n names ids →
    slice_get gs n ≡ Some x → p ≡ index_of names name → name ≡ x.name → q ≡ index_of ids (x.gid ∷ []) → b ≡ found gs x p q →
    clashes_at groups_clash gs n ≡ b
unfolding found
tested gs n names ids x p q name b r row e f g h =
    group-clash gs n names ids x r row
    ∙ ap (λ o. found gs x o (index_of ids (x.gid ∷ []))) (sym (e ∙ ap (index_of names) f))
    ∙ ap (found gs x p) (sym g)
    ∙ sym h

pub returns-in_default-clause-names : goal.returns-in_default-clause-names
returns-in_default-clause-names c =
    let none : slice_get (groups_of c.args.people.now) c.loop-at.at ≡ None = sym c.group_at.ensures ∙ ap option_copied c.in_default.is in
    groups-end (groups_of c.args.people.now) c.loop-at.at c.loop-at.names c.loop-at.ids c.loop-at.invariant
    (groups-past (groups_of c.args.people.now) c.loop-at.at none)

pub returns-then-clashes-clause-fault : goal.returns-then-clashes-clause-fault
unfolding found
returns-then-clashes-clause-fault c =
    let gs : List Group = groups_of c.args.people.now in
    let row : slice_get gs c.loop-at.at ≡ Some c.in-Some.group.now = sym c.group_at.ensures ∙ ap option_copied c.in-Some.is in
    let clashes : clashes_at groups_clash gs c.loop-at.at ≡ true =
    tested gs c.loop-at.at c.loop-at.names c.loop-at.ids c.in-Some.group.now c.get.result c.get-in-loop-at.result
    c.as_slice-name.result.now c.clashes.result
    c.loop-at.invariant row c.get.ensures c.as_slice-name.ensures c.get-in-loop-at.ensures c.clashes.ensures
    ∙ c.if-clashes.true in
    let fault : option_map (λ (g : Group). GroupClash g.name) (first_clash groups_clash gs) ≡ Some (GroupClash c.as_slice-name.result.now) =
    ap (option_map (λ (g : Group). GroupClash g.name))
    (clash-is groups_clash gs c.loop-at.at c.in-Some.group.now c.loop-at.invariant.none row clashes)
    ∙ ap (λ n. Some (GroupClash n)) (sym c.as_slice-name.ensures) in
    let P : Option DirFault → Type 0 = λ o. IsDirectoryFault o c.group_clash.result in
    subst P (sym fault) c.group_clash.ensures

pub loop-at-preserved : goal.loop-at-preserved
unfolding found
loop-at-preserved c =
    let gs : List Group = groups_of c.args.people.now in
    let row : slice_get gs c.loop-at.at ≡ Some c.in-Some.group.now = sym c.group_at.ensures ∙ ap option_copied c.in-Some.is in
    let apart : clashes_at groups_clash gs c.loop-at.at ≡ false =
    tested gs c.loop-at.at c.loop-at.names c.loop-at.ids c.in-Some.group.now c.get.result c.get-in-loop-at.result
    c.as_slice-name.result.now c.clashes.result
    c.loop-at.invariant row c.get.ensures c.as_slice-name.ensures c.get-in-loop-at.ensures c.clashes.ensures
    ∙ c.if-clashes.false in
    let more = groups-more gs c.loop-at.at c.loop-at.names c.loop-at.ids c.in-Some.group.now c.loop-at.invariant row apart in
    let names : c.note.new.names ≡ with_name c.loop-at.names c.in-Some.group.now.name c.loop-at.at =
    c.in_ok-note.ensures ∙ ap (λ n. with_name c.loop-at.names n c.loop-at.at) c.as_slice-name.ensures in
    let P : List (List ℕ × ℕ) → Type 0 = λ ns. GroupsRead gs (c.loop-at.at + 1) ns c.note-in-loop-at.new.self in
    let Q : List (List ℕ × ℕ) → Type 0 =
    λ is. GroupsRead gs (c.loop-at.at + 1) (with_name c.loop-at.names c.in-Some.group.now.name c.loop-at.at) is in
    subst P (sym names) (subst Q (sym c.in_ok-note-2.ensures) more)

pub returns-clause-names : goal.returns-clause-names
returns-clause-names c =
    let none : slice_get (groups_of c.args.people.now) c.loop-at.at ≡ None =
    position-past c.args.people.now c.args.positions.now c.loop-at.at c.requires
    (slice_get_past c.args.positions.now c.loop-at.at c.loop-at-test.false) in
    groups-end (groups_of c.args.people.now) c.loop-at.at c.loop-at.names c.loop-at.ids c.loop-at.invariant
    (groups-past (groups_of c.args.people.now) c.loop-at.at none)
