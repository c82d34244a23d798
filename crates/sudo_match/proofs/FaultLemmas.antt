-- Lemmas on the faults of a directory's rows, in their order.
use Rattle.std.proofs.Common.{◌≡◌, ℕ, List, Bool, true, false, ap, sym, ◌∙◌, subst, Some, None, Option, cond, Result}
use Rattle.std.proofs.Common.{Ok, Err, IfErr, IsErrAnd, inl, inr}
use Rattle.std.specs.Prelude.{find, is_some, bytes_eq, option_map, codes}
use Rattle.std.specs.List.{list_any}
use Rattle.std.proofs.Math.Seq.{take-length}
use Rattle.sudo_match.specs.declared.people.Person.{Person}
use Rattle.sudo_match.specs.declared.people.Group.{Group}
use Rattle.sudo_match.specs.declared.people.Machine.{Machine}
use Rattle.sudo_base.specs.NameIndices.{index_of}
use Rattle.sudo_match.specs.declared.positions.GroupPosition.{GroupPosition}
use Rattle.sudo_match.specs.declared.fault.DirFault.{DirFault}
use Rattle.sudo_match.specs.declared.fault.DirFault.TheVariants.{UserTwice, HostTwice, GroupClash, NoGroup, NoRoot}
use Rattle.sudo_match.specs.Class.{lower_text}
use Rattle.sudo_match.specs.Body.Indexing.{AreApart, ArePositions, IsKept, ungrouped_or_root_fault}
use Rattle.sudo_match.specs.KnownRows.{same_user, same_host, groups_clash, groups_of, is_no_group, or_else}
use Rattle.sudo_match.specs.KnownRows.{user_fault, host_fault, group_fault, ungrouped_fault, root_fault}
use Rattle.sudo_match.specs.KnownRows.{directory_fault, IsDirectoryFault}

-- a fault that is passed on as it is
pub passed-on : {A : Type 0} (r : Result A DirFault) (e : DirFault) (P : DirFault → Type 0) → IsErrAnd r (λ d. d ≡ e) → P e → IfErr r P
passed-on (Ok x) e P h p = tt
passed-on (Err d) e P h p = subst P (sym h) p

refusal-here : (a b : Option DirFault) (e : DirFault) → IsDirectoryFault a e → IsDirectoryFault (or_else a b) e
refusal-here a b e (inl h) = inl h
refusal-here a b e (inr h) = inr (ap (λ o. or_else o b) h)

refusal-later : (a b : Option DirFault) (e : DirFault) → a ≡ None → IsDirectoryFault b e → IsDirectoryFault (or_else a b) e
refusal-later a b e none h = let P : Option DirFault → Type 0 = λ o. IsDirectoryFault (or_else o b) e in subst P (sym none) h

none-later : (a b : Option DirFault) → a ≡ None → or_else a b ≡ b
none-later a b none = ap (λ o. or_else o b) none

user-none : (people : List Person) (users : List (List ℕ × ℕ)) → AreApart same_user (λ u. u.name) people users → user_fault people ≡ None
user-none people users i = ap (option_map (λ (u : Person). UserTwice u.name)) i.apart

host-none : (machines : List Machine) (hosts : List (List ℕ × ℕ))
    → AreApart same_host (λ m. lower_text m.name) machines hosts → host_fault machines ≡ None
host-none machines hosts i = ap (option_map (λ (m : Machine). HostTwice m.name)) i.apart

group-none : (people : List Person) (groups : List (List ℕ × ℕ))
    → AreApart groups_clash (λ g. g.name) (groups_of people) groups → group_fault people ≡ None
group-none people groups i = ap (option_map (λ (g : Group). GroupClash g.name)) i.apart

ungrouped-none : (people : List Person) → find (λ u. is_no_group u.groups) people ≡ None → ungrouped_fault people ≡ None
ungrouped-none people none = ap (option_map (λ (u : Person). NoGroup u.name)) none

pub refused-user : (people : List Person) (machines : List Machine) (e : DirFault)
    → IsDirectoryFault (user_fault people) e → IsDirectoryFault (directory_fault people machines) e
unfolding directory_fault
refused-user people machines e h = refusal-here (user_fault people) _ e h

pub refused-host :
    (people : List Person) (machines : List Machine) (users : List (List ℕ × ℕ)) (e : DirFault)
    → AreApart same_user (λ u. u.name) people users →
    IsDirectoryFault (host_fault machines) e → IsDirectoryFault (directory_fault people machines) e
unfolding directory_fault
refused-host people machines users e i h =
    refusal-later (user_fault people) _ e (user-none people users i) (refusal-here (host_fault machines) _ e h)

pub refused-group :
    (people : List Person) (machines : List Machine) (users hosts : List (List ℕ × ℕ)) (e : DirFault)
    → AreApart same_user (λ u. u.name) people users →
    AreApart same_host (λ m. lower_text m.name) machines hosts → IsDirectoryFault (group_fault people) e
    → IsDirectoryFault (directory_fault people machines) e
unfolding directory_fault
refused-group people machines users hosts e i j h =
    refusal-later (user_fault people) _ e (user-none people users i)
    (refusal-later (host_fault machines) _ e (host-none machines hosts j) (refusal-here (group_fault people) _ e h))

-- after the first three faults
last-faults :
    (people : List Person) (machines : List Machine) (users hosts groups : List (List ℕ × ℕ))
    → AreApart same_user (λ u. u.name) people users →
    AreApart same_host (λ m. lower_text m.name) machines hosts → AreApart groups_clash (λ g. g.name) (groups_of people) groups →
    directory_fault people machines ≡ ungrouped_or_root_fault people
unfolding directory_fault
last-faults people machines users hosts groups i j k =
    none-later (user_fault people) _ (user-none people users i)
    ∙ none-later (host_fault machines) _ (host-none machines hosts j)
    ∙ none-later (group_fault people) _ (group-none people groups k)

pub refused-last :
    (people : List Person) (machines : List Machine) (users hosts groups : List (List ℕ × ℕ)) (e : DirFault)
    → AreApart same_user (λ u. u.name) people users →
    AreApart same_host (λ m. lower_text m.name) machines hosts → AreApart groups_clash (λ g. g.name) (groups_of people) groups →
    IsDirectoryFault (ungrouped_or_root_fault people) e → IsDirectoryFault (directory_fault people machines) e
refused-last people machines users hosts groups e i j k h =
    let P : Option DirFault → Type 0 = λ o. IsDirectoryFault o e in
    subst P (sym (last-faults people machines users hosts groups i j k)) h

pub faultless :
    (people : List Person) (machines : List Machine) (users hosts groups : List (List ℕ × ℕ))
    → AreApart same_user (λ u. u.name) people users →
    AreApart same_host (λ m. lower_text m.name) machines hosts → AreApart groups_clash (λ g. g.name) (groups_of people) groups →
    ungrouped_or_root_fault people ≡ None → directory_fault people machines ≡ None
faultless people machines users hosts groups i j k none = last-faults people machines users hosts groups i j k ∙ none

pub refused-ungrouped :
    (people : List Person) (u : Person) (e : DirFault) → find (λ u. is_no_group u.groups) people ≡ Some u
    → IsDirectoryFault (Some (NoGroup u.name)) e →
    IsDirectoryFault (ungrouped_or_root_fault people) e
refused-ungrouped people u e found h =
    let fault : ungrouped_or_root_fault people ≡ Some (NoGroup u.name) =
    ap (λ o. or_else (option_map (λ (v : Person). NoGroup v.name) o) (root_fault people)) found in
    let P : Option DirFault → Type 0 = λ o. IsDirectoryFault o e in
    subst P (sym fault) h

-- ---- The user `root`

root-known : (people : List Person) (users : List (List ℕ × ℕ)) → AreApart same_user (λ u. u.name) people users
    → list_any (λ u. bytes_eq u.name (codes "root")) people ≡ is_some (index_of users (codes "root"))
root-known people users i =
    ap (list_any (λ (u : Person). bytes_eq u.name (codes "root"))) (sym (take-length people)) ∙ sym (i.indexed.known (codes "root"))

-- where each user has a group, whether `root` is among the users decides the fault
root-decides :
    (people : List Person) (users : List (List ℕ × ℕ)) (known : Bool) → AreApart same_user (λ u. u.name) people users
    → find (λ u. is_no_group u.groups) people ≡ None →
    is_some (index_of users (codes "root")) ≡ known → ungrouped_or_root_fault people ≡ cond known None (Some NoRoot)
root-decides people users known i grouped is =
    none-later (ungrouped_fault people) (root_fault people) (ungrouped-none people grouped)
    ∙ ap (λ b. cond b None (Some NoRoot)) (root-known people users i ∙ is)

pub refused-root :
    (people : List Person) (users : List (List ℕ × ℕ)) → AreApart same_user (λ u. u.name) people users
    → find (λ u. is_no_group u.groups) people ≡ None →
    is_some (index_of users (codes "root")) ≡ false → IsDirectoryFault (ungrouped_or_root_fault people) NoRoot
refused-root people users i grouped missing = inr (root-decides people users false i grouped missing)

pub root-faultless :
    (people : List Person) (users : List (List ℕ × ℕ)) → AreApart same_user (λ u. u.name) people users
    → find (λ u. is_no_group u.groups) people ≡ None →
    is_some (index_of users (codes "root")) ≡ true → ungrouped_or_root_fault people ≡ None
root-faultless people users i grouped known = root-decides people users true i grouped known

pub kept :
    (people : List Person) (machines : List Machine) (users hosts groups : List (List ℕ × ℕ))
    (positions : List GroupPosition) (root : ℕ) → AreApart same_user (λ u. u.name) people users →
    AreApart same_host (λ m. lower_text m.name) machines hosts
    → AreApart groups_clash (λ g. g.name) (groups_of people) groups → ArePositions people positions →
    directory_fault people machines ≡ None → index_of users (codes "root") ≡ Some root
    → IsKept people machines users hosts groups positions root
kept people machines users hosts groups positions root i j k s none known = record {
  users_indexed = i.indexed;
  hosts_indexed = j.indexed;
  groups_indexed = k.indexed;
  spots_are = s;
  faultless = none;
  root_indexed = known;
}
