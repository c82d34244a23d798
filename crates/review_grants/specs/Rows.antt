-- The rows of a user on a host: the grants whose user list and host list allow them, whatever is asked.
-- sudoers(5), "User Specification".
use Rattle.std.specs.Prelude.{◌≡◌, Bool, ◌&&◌, List, filter}
use Rattle.sudo_grammar.specs.declared.policy.Policy.{Policy}
use Rattle.sudo_match.specs.declared.people.Person.{Person}
use Rattle.sudo_match.specs.declared.people.Machine.{Machine}
use Rattle.sudo_match.specs.Matching.{command_fits}
use Rattle.sudo_verdict.specs.Last.{last_that}
use Rattle.sudo_verdict.specs.Values.{user_allowed, host_allowed}
use Rattle.sudo_verdict.specs.RunasForms.{runas_allows}
use Rattle.sudo_verdict.specs.Questions.{Question}
use Rattle.sudo_verdict.specs.Grants.{Grant, grants, applies}
use Rattle.sudo_verdict.specs.Verdicts.{verdict_on, verdict_if_any}

-- both lists of the grant allow
abbrev pub is_row : Policy → Person → Machine → Grant → Bool
is_row p u m g = user_allowed p g.users u && host_allowed p g.hosts m

-- the rows of the user on the host, in file order
abbrev pub rows : Policy → Person → Machine → List Grant
rows p u m = filter (is_row p u m) (grants p)

-- a row applies: its runas allows, and its atom matches the command
abbrev pub row_applies : Policy → Question → Grant → Bool
row_applies p q g = runas_allows p q g.runas && command_fits g.atom q.command q.arguments

abbrev pub RowsApply : Type 0
RowsApply = (p : Policy) (q : Question) (g : Grant) → applies p q g ≡ (is_row p q.user q.host g && row_applies p q g)

-- the last row that applies decides
abbrev pub LastRowDecides : Type 0
LastRowDecides =
    (p : Policy) (q : Question) → verdict_on p q ≡ verdict_if_any (last_that (row_applies p q) (rows p q.user q.host))
