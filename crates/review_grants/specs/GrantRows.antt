-- The table of grants: for each grant of a policy whom it is for, where, as whom, and what it allows or denies.
-- sudoers(5), "User Specification"; cvtsudoers(1), option -e.
use Rattle.std.specs.Prelude.{ℕ, Bool, true, not, ◌&&◌, cond, List, [], ◌∷◌, ◌++◌, codes, drop, filter, flat_map, map, zip}
use Rattle.std.specs.Prelude.{Option, Some, None}
use Rattle.std.specs.List.{list_all}
use Rattle.audit_files.specs.Places.{place_text}
use Rattle.audit_files.specs.Report.{line, tags_text}
use Rattle.sudo_grammar.specs.declared.kind.Kind.TheVariants as kind
use Rattle.sudo_grammar.specs.declared.kind.Member.{Member}
use Rattle.sudo_grammar.specs.declared.policy.Policy.{Policy}
use Rattle.sudo_grammar.specs.declared.policy.Runas.{Runas}
use Rattle.sudo_match.specs.KnownRows.{KnownRows}
use Rattle.sudo_match.specs.declared.people.Person.{Person}
use Rattle.sudo_match.specs.declared.people.Machine.{Machine}
use Rattle.sudo_parser.specs.Texts.{atom_text, signed_text, user_text}
use Rattle.sudo_policy.specs.Written.{written_form}
use Rattle.sudo_verdict.specs.Grants.{Grant, grants}
use Rattle.sudo_verdict.specs.Values.{user_allowed, host_allowed}
use Rattle.review_texts.specs.Masks.{as_written}
use Rattle.review_grants.specs.Depends.{depends_at, is_note_grant}

-- texts with a comma and a space between them: each behind the two, without the first two
abbrev pub joined : List (List ℕ) → List ℕ
joined texts = drop 2 (flat_map (λ text. 44 ∷ 32 ∷ text) texts)

-- the texts that are marked
abbrev pub marked : List Bool → List (List ℕ) → List (List ℕ)
marked marks texts = map (λ c. c.1) (filter (λ c. c.0) (zip marks texts))

-- the names that are marked, or `ALL` where each is
abbrev pub marked_text : List Bool → List (List ℕ) → List ℕ
marked_text marks names = cond (list_all (λ m. m) marks) (codes "ALL") (joined (marked marks names))

-- the known users that a user list allows, each as it would stand in a policy
abbrev pub users_text : Policy → KnownRows → List Member → List ℕ
users_text p d users = marked_text (map (user_allowed p users) d.people) (map (λ u. user_text u.name) d.people)

-- the known hosts that a host list allows
abbrev pub hosts_text : Policy → KnownRows → List Member → List ℕ
hosts_text p d hosts = marked_text (map (host_allowed p hosts) d.machines) (map (λ m. user_text m.name) d.machines)

-- a list of users or groups to run as, its aliases written out
abbrev pub members_text : Policy → List Member → List ℕ
members_text p members = joined (map signed_text (written_form kind.Runas p members))

abbrev pub users_part : Policy → Option (List Member) → List ℕ
users_part p None = []
users_part p (Some members) = members_text p members

abbrev pub groups_part : Policy → Option (List Member) → List ℕ
groups_part p None = []
groups_part p (Some members) = 32 ∷ 58 ∷ 32 ∷ members_text p members

-- the text of a runas, in parentheses; empty without a runas
abbrev pub runas_text : Policy → Option Runas → List ℕ
runas_text p None = []
runas_text p (Some r) = 40 ∷ (users_part p r.users ++ (groups_part p r.groups ++ 41 ∷ []))

abbrev pub sign_text : Bool → List ℕ
sign_text negated = cond negated (33 ∷ []) []

-- the first record: the names of the columns
abbrev pub grants_header : List (List ℕ)
grants_header = codes "place" ∷ codes "users" ∷ codes "hosts" ∷ codes "runas" ∷ codes "sign" ∷ codes "command"
    ∷ codes "tags" ∷ codes "depends" ∷ []

-- the record of a grant; what it depends on is what the grants at its place do
abbrev pub grant_fields : List (List ℕ) → Policy → KnownRows → Grant → List (List ℕ)
grant_fields files p d g = place_text files g.place ∷ users_text p d g.users ∷ hosts_text p d g.hosts
    ∷ runas_text p g.runas ∷ sign_text g.negated ∷ as_written (atom_text g.atom) ∷ tags_text g.tags ∷ depends_at p g.place ∷ []

-- a user list allows the user that is asked about, if any
abbrev pub is_for_user : Policy → Option Person → List Member → Bool
is_for_user p None users = true
is_for_user p (Some u) users = user_allowed p users u

-- a host list allows the host that is asked about, if any
abbrev pub is_for_host : Policy → Option Machine → List Member → Bool
is_for_host p None hosts = true
is_for_host p (Some m) hosts = host_allowed p hosts m

-- a grant is for the user and the host that are asked about; for a user and a host it is a row of them (`is_row`)
abbrev pub is_asked_about : Policy → Option Person → Option Machine → Grant → Bool
is_asked_about p u m g = is_for_user p u g.users && is_for_host p m g.hosts

-- it is one of those, and no note
abbrev pub is_shown : Policy → Option Person → Option Machine → Grant → Bool
is_shown p u m g = is_asked_about p u m g && not (is_note_grant g)

-- the header, and a record for each grant that is asked about but the notes, in the policy's order
abbrev pub grants_text : Policy → KnownRows → Option Person → Option Machine → List ℕ
grants_text p d u m =
    line grants_header ++ flat_map (λ g. line (grant_fields p.files p d g)) (filter (is_shown p u m) (grants p))
