-- The table of who may run a command, and on which host: for each known user and each known host the verdict on the request of
-- that user there, unless no rule applies.
use Rattle.std.specs.Prelude.{◌≡◌, ℕ, Bool, true, false, cond, List, [], ◌∷◌, ◌++◌, codes, flat_map, Option, None}
use Rattle.std.specs.Option.{option_copied}
use Rattle.audit_files.specs.Report.{line, verdict_place, verdict_tags, verdict_word}
use Rattle.sudo_grammar.specs.declared.policy.Policy.{Policy}
use Rattle.sudo_match.specs.KnownRows.{KnownRows}
use Rattle.sudo_match.specs.declared.people.Person.{Person}
use Rattle.sudo_match.specs.declared.people.Machine.{Machine}
use Rattle.sudo_match.specs.declared.request.Request.{Request}
use Rattle.sudo_match.specs.declared.request.Verdict.{Verdict}
use Rattle.sudo_match.specs.declared.request.Verdict.TheVariants.{Allow, Deny}
use Rattle.sudo_verdict.specs.Verdicts.{verdict_of}
use Rattle.review_grants.specs.declared.who.Sought.{Sought as TheSought}
use Rattle.review_grants.specs.Depends.{verdict_depends}

-- what is asked for: a command, its arguments, and the name of the user to run it as, if any
pub record Sought : Type 0 where
  pub command : List ℕ
  pub arguments : List ℕ
  pub target : Option (List ℕ)

abbrev pub sought_by : TheSought → Sought
sought_by a = record { command = a.command.now; arguments = a.arguments.now; target = option_copied a.target }

-- the request of a user of this name on a host of this name
abbrev pub request_at : Sought → List ℕ → List ℕ → Request
request_at a user host = record {
  number = 1;
  user = user;
  host = host;
  runas_user = a.target;
  runas_group = None;
  command = a.command;
  arguments = a.arguments;
}

-- a rule allows or denies
abbrev pub is_ruled : Verdict → Bool
is_ruled (Allow place tags) = true
is_ruled (Deny place) = true
is_ruled _ = false

abbrev pub is_allowed : Verdict → Bool
is_allowed (Allow place tags) = true
is_allowed _ = false

-- the first record: the names of the columns
abbrev pub who_header : List (List ℕ)
who_header = codes "user" ∷ codes "host" ∷ codes "verdict" ∷ codes "place" ∷ codes "tags" ∷ codes "depends" ∷ []

-- the fields of a verdict under a policy
abbrev pub verdict_fields : Policy → Verdict → List (List ℕ)
verdict_fields p v = verdict_word v ∷ verdict_place p.files v ∷ verdict_tags v ∷ verdict_depends p v ∷ []

-- the record of a verdict on a request
abbrev pub who_fields : Policy → Request → Verdict → List (List ℕ)
who_fields p r v = r.user ∷ r.host ∷ verdict_fields p v

abbrev pub ruled_line : Policy → Request → Verdict → List ℕ
ruled_line p r v = cond (is_ruled v) (line (who_fields p r v)) []

-- the record of a request, if a rule allows or denies it
abbrev pub request_line : Policy → KnownRows → Request → List ℕ
request_line p d r = ruled_line p r (verdict_of p d r)

-- that of a user on a host
abbrev pub host_line : Policy → KnownRows → Sought → List ℕ → Machine → List ℕ
host_line p d a user m = request_line p d (request_at a user m.name)

-- those of a user, in the order of the known hosts
abbrev pub hosts_lines : Policy → KnownRows → Sought → List ℕ → List ℕ
hosts_lines p d a user = flat_map (host_line p d a user) d.machines

abbrev pub user_lines : Policy → KnownRows → Sought → Person → List ℕ
user_lines p d a u = hosts_lines p d a u.name

-- the header, and those of each user, in the order of the known users
abbrev pub who_text : Policy → KnownRows → Sought → List ℕ
who_text p d a = line who_header ++ flat_map (user_lines p d a) d.people

-- a user without a record on a host is allowed nothing there by that request
abbrev pub UnlistedMayNot : Type 0
UnlistedMayNot = (p : Policy) (d : KnownRows) (a : Sought) (u : Person) (m : Machine)
    → host_line p d a u.name m ≡ [] → is_allowed (verdict_of p d (request_at a u.name m.name)) ≡ false
