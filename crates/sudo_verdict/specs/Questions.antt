-- A request whose names are known. sudo(8), options -u and -g; sudoers(5), "Runas_Spec".
use Rattle.std.specs.Prelude.{ℕ, List, [], codes, Option, Some, None, Result, Ok, Err, option_map}
use Rattle.sudo_match.specs.declared.people.Person.{Person}
use Rattle.sudo_match.specs.declared.people.Group.{Group}
use Rattle.sudo_match.specs.declared.people.Machine.{Machine}
use Rattle.sudo_match.specs.declared.request.Request.{Request}
use Rattle.sudo_match.specs.declared.request.What.{What}
use Rattle.sudo_match.specs.declared.request.What.TheVariants.{User, Host, Target, Group as GroupAsked}
use Rattle.sudo_match.specs.KnownRows.{KnownRows, user_named, host_named, group_named}

-- the invoking user and the host, the target, and the command
pub record Question : Type 0 where
  pub user : Person
  pub host : Machine
  -- the user and the group that are asked for, if any
  pub asked : Option Person
  pub group : Option Group
  -- the user to run the command as: the user asked for; without one, the invoking user if a group is asked for,
  -- otherwise root
  pub target : Option Person
  pub command : List ℕ
  pub arguments : List ℕ

-- an optional name, looked up; none if the name is unknown
abbrev pub looked_up : {X : Type 0} → (List ℕ → Option X) → Option (List ℕ) → Option (Option X)
looked_up find None = Some None
looked_up find (Some name) = option_map (λ x. Some x) (find name)

abbrev pub target_of : KnownRows → Person → Option Person → Option Group → Option Person
target_of d u (Some t) g = Some t
target_of d u None (Some g) = Some u
target_of d u None None = user_named d (codes "root")

-- what a user on a host asks for: the target and the group, and no command yet
abbrev pub question_as : KnownRows → Person → Machine → Option Person → Option Group → Question
question_as d u m t g = record { user = u; host = m; asked = t; group = g; target = target_of d u t g; command = []; arguments = [] }

abbrev pub with_group : KnownRows → Request → Person → Machine → Option Person → Option (Option Group) → Result Question What
with_group d r u m t None = Err GroupAsked
with_group d r u m t (Some g) =
    Ok (record { user = u; host = m; asked = t; group = g; target = target_of d u t g; command = r.command; arguments = r.arguments })

abbrev pub with_target : KnownRows → Request → Person → Machine → Option (Option Person) → Result Question What
with_target d r u m None = Err Target
with_target d r u m (Some t) = with_group d r u m t (looked_up (group_named d) r.runas_group)

abbrev pub with_host : KnownRows → Request → Person → Option Machine → Result Question What
with_host d r u None = Err Host
with_host d r u (Some m) = with_target d r u m (looked_up (user_named d) r.runas_user)

abbrev pub with_user : KnownRows → Request → Option Person → Result Question What
with_user d r None = Err User
with_user d r (Some u) = with_host d r u (host_named d r.host)

-- the request with its names looked up, or the first unknown name, of the user, the host, the target and the group
unfoldable pub question_of : KnownRows → Request → Result Question What
question_of d r = with_user d r (user_named d r.user)
