-- Lemmas on look-ups in a directory.
use Rattle.std.proofs.Common.{◌≡◌, ℕ, List, length, ap, sym, ◌∙◌, refl}
use Rattle.std.specs.Prelude.{slice_get, find, bytes_eq, option_and_then}
use Rattle.std.proofs.Math.Seq.{take-length}
use Rattle.sudo_match.specs.declared.people.Person.{Person}
use Rattle.sudo_match.specs.declared.people.Group.{Group}
use Rattle.sudo_match.specs.declared.people.Machine.{Machine}
use Rattle.sudo_match.specs.Class.{lower_text}
use Rattle.sudo_base.specs.Body.Indexes.{IndexesRows}
use Rattle.sudo_base.specs.NameIndices.{index_of}
use Rattle.sudo_match.specs.KnownRows.{KnownRows, user_named, host_named, group_named, groups_of}

pub user_named-is :
    (d : KnownRows) (people : List Person) (users : List (List ℕ × ℕ)) (name : List ℕ) → people ≡ d.people →
    IndexesRows (λ u. u.name) people (length people) (index_of users) →
    user_named d name ≡ option_and_then (slice_get people) (index_of users name)
unfolding user_named
user_named-is d people users name e i =
    ap (find (λ (u : Person). bytes_eq u.name name)) (sym e ∙ sym (take-length people)) ∙ sym (i.found name)

pub host_named-is :
    (d : KnownRows) (machines : List Machine) (hosts : List (List ℕ × ℕ)) (name : List ℕ) → machines ≡ d.machines →
    IndexesRows (λ m. lower_text m.name) machines (length machines) (index_of hosts) →
    host_named d name ≡ option_and_then (slice_get machines) (index_of hosts (lower_text name))
unfolding host_named
host_named-is d machines hosts name e i =
    ap (find (λ (m : Machine). bytes_eq (lower_text m.name) (lower_text name))) (sym e ∙ sym (take-length machines))
    ∙ sym (i.found (lower_text name))

pub host_named-scanned :
    (d : KnownRows) (name : List ℕ) → find (λ (m : Machine). bytes_eq (lower_text m.name) (lower_text name)) d.machines ≡ host_named d name
unfolding host_named
host_named-scanned d name = refl

pub group_named-is :
    (d : KnownRows) (people : List Person) (groups : List (List ℕ × ℕ)) (name : List ℕ) → people ≡ d.people →
    IndexesRows (λ g. g.name) (groups_of people) (length (groups_of people)) (index_of groups) →
    group_named d name ≡ option_and_then (slice_get (groups_of people)) (index_of groups name)
unfolding group_named
group_named-is d people groups name e i =
    ap (λ us. find (λ (g : Group). bytes_eq g.name name) (groups_of us)) (sym e)
    ∙ ap (find (λ (g : Group). bytes_eq g.name name)) (sym (take-length (groups_of people))) ∙ sym (i.found name)
