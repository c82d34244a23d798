-- A request that is sought again on each host; only proofs of bodies use these.
use Rattle.std.specs.Prelude.{◌≡◌, ℕ, List, flat_map}
use Rattle.sudo_grammar.specs.declared.policy.Policy.{Policy}
use Rattle.sudo_match.specs.KnownRows.{KnownRows}
use Rattle.sudo_match.specs.declared.request.Request.{Request}
use Rattle.review_grants.specs.WhoRows.{Sought, request_at, user_lines}

abbrev pub with_host : Request → List ℕ → Request
with_host r host = record r { host = host }

-- it is that of a user, on some host
abbrev pub IsRequestOf : Sought → List ℕ → Request → Type 0
IsRequestOf a user r = r ≡ request_at a user r.host

-- the records of all users
abbrev pub users_lines : Policy → KnownRows → Sought → List ℕ
users_lines p d a = flat_map (user_lines p d a) d.people
