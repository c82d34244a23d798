-- The table of who can become root. sudo(8), options -u and -g; sudoers(5), "Tag_Spec".
use Rattle.std.specs.Prelude.{◌≡◌, ℕ, Bool, false, ◌&&◌, ◌==◌, cond, List, [], ◌∷◌, ◌++◌, codes, drop, filter, flat_map, map, zip}
use Rattle.std.specs.Prelude.{length, slice_get, Option, Some, None, is_some}
use Rattle.std.specs.List.{range_with_len}
use Rattle.audit_files.specs.Places.{place_text}
use Rattle.audit_files.specs.Report.{line, tags_text}
use Rattle.sudo_grammar.specs.declared.policy.Policy.{Policy}
use Rattle.sudo_match.specs.KnownRows.{KnownRows}
use Rattle.sudo_match.specs.declared.people.Group.{Group}
use Rattle.sudo_match.specs.declared.people.Machine.{Machine}
use Rattle.sudo_match.specs.declared.people.Person.{Person}
use Rattle.review_cautions.specs.PasswordDefaults.{decides_passwords}
use Rattle.review_texts.specs.Notes.{notes}
use Rattle.review_grants.specs.Depends.{depends_text, has_mark}
use Rattle.review_roots.specs.AddableGroups.{AreAddable}
use Rattle.review_roots.specs.Order.{user_name}
use Rattle.review_roots.specs.Ranks.{level_name}
use Rattle.review_roots.specs.Roots.{AreRoots}
use Rattle.review_roots.specs.declared.given.AllowingRow.{AllowingRow}
use Rattle.review_roots.specs.declared.host.HostSteps.{HostSteps}
use Rattle.review_roots.specs.declared.level.Level.{Level}
use Rattle.review_roots.specs.declared.level.Level.TheVariants as level
use Rattle.review_roots.specs.declared.roots.Root.{Root}
use Rattle.review_roots.specs.declared.state.State.{State}
use Rattle.review_roots.specs.declared.way.Password.{Password}
use Rattle.review_roots.specs.declared.way.Password.TheVariants as password
use Rattle.review_roots.specs.declared.way.Way.{Way}

-- ---- One row

abbrev pub group_name : Option Group → List ℕ
group_name None = []
group_name (Some g) = g.name

-- a plus and the name of an added group
abbrev pub added_text : List Group → Option ℕ → List ℕ
added_text groups None = []
added_text groups (Some i) = 43 ∷ group_name (slice_get groups i)

-- a state of a chain behind the user before it: the user, unless that is the same with an added group, and the added group
abbrev pub state_text : KnownRows → List Group → ℕ × State → List ℕ
state_text d groups (before, s) =
    cond ((s.user == before) && is_some s.added) [] (user_name d s.user) ++ added_text groups s.added

-- the states of a chain that are shown: all but the last one, which is at the target, unless it has an added group
abbrev pub shown : List State → List State
shown [] = []
shown (s ∷ []) = cond (is_some s.added) (s ∷ []) []
shown (s ∷ t ∷ rest) = s ∷ shown (t ∷ rest)

-- each state with the user of the one before it
abbrev pub behind : ℕ → List State → List (ℕ × State)
behind user states = zip (user ∷ map (λ (s : State). s.user) states) states

-- the shown states with ` > ` between them
abbrev pub via_text : KnownRows → List Group → ℕ → List State → List ℕ
via_text d groups user chain =
    drop 3 (flat_map (λ b. 32 ∷ 62 ∷ 32 ∷ state_text d groups b) (behind user (shown chain)))

-- whose password is asked for: `?` where one may be, or where one is and a `Defaults` line decides
abbrev pub password_text : Bool → Password → List ℕ
password_text unsure password.None = codes "none"
password_text unsure password.Maybe = codes "?"
password_text unsure password.Own = cond unsure (codes "?") (codes "own")
password_text unsure password.Other = cond unsure (codes "?") (codes "other")

abbrev pub row_place : List (List ℕ) → Option AllowingRow → List ℕ
row_place files None = []
row_place files (Some row) = place_text files row.place

abbrev pub row_tags : Option AllowingRow → List ℕ
row_tags None = []
row_tags (Some row) = tags_text row.tags

-- how: the level, whose password, the row of the first step with its tags, the chain, and what its steps depend on
abbrev pub way_fields : Policy → KnownRows → List Group → ℕ → Option Way → List (List ℕ)
way_fields p d groups user None = codes "root" ∷ codes "none" ∷ [] ∷ [] ∷ [] ∷ [] ∷ []
way_fields p d groups user (Some w) =
    level_name w.level ∷ password_text (decides_passwords p) w.password ∷ row_place p.files w.by ∷ row_tags w.by
    ∷ via_text d groups user w.chain.items ∷ depends_text (filter (has_mark w.marks) notes) ∷ []

-- the record of a user that can become the target on a host
abbrev pub root_fields : Policy → KnownRows → List Group → Machine → ℕ → Root → List (List ℕ)
root_fields p d groups m target r =
    user_name d r.user ∷ m.name ∷ user_name d target ∷ way_fields p d groups r.user r.way

-- ---- The table

abbrev pub roots_header : List (List ℕ)
roots_header = codes "user" ∷ codes "host" ∷ codes "target" ∷ codes "level" ∷ codes "password" ∷ codes "place"
    ∷ codes "tags" ∷ codes "via" ∷ codes "depends" ∷ []

abbrev pub is_zero : Option Person → Bool
is_zero None = false
is_zero (Some u) = u.uid == 0

-- the known users with ID 0, by their indices
abbrev pub targets : KnownRows → List ℕ
targets d = filter (λ i. is_zero (slice_get d.people i)) (range_with_len 0 (length d.people))

-- the least level that is listed
abbrev pub least_listed : Bool → Level
least_listed all = cond all level.Listed level.AllBut

-- the records of exactly those users that can become a target on a host
pub record AreTargetRows (p : Policy) (d : KnownRows) (all : Bool) (m : Machine) (target : ℕ) (text : List ℕ) : Type 0 where
  pub steps : HostSteps
  pub policy_is : steps.checked.now ≡ p
  pub directory_is : steps.directory.now ≡ d
  pub host_is : steps.host.now ≡ m
  pub groups_are : AreAddable p d steps.groups.now
  pub roots : List Root
  pub are : AreRoots steps target (least_listed all) roots
  pub text_is : text ≡ flat_map (λ r. line (root_fields p d steps.groups.now m target r)) roots

-- each item has its text, in order
abbrev pub Each : {X : Type 0} → (X → List ℕ → Type 0) → List X → List (List ℕ) → Type 0
Each R [] [] = Unit {0}
Each R (x ∷ xs) (t ∷ ts) = R x t × Each R xs ts
Each R [] (t ∷ ts) = ⊥
Each R (x ∷ xs) [] = ⊥

-- texts end to end
abbrev pub whole : List (List ℕ) → List ℕ
whole texts = flat_map (λ (t : List ℕ). t) texts

-- the records of a host: those of each target, in order
pub record AreHostRows (p : Policy) (d : KnownRows) (all : Bool) (m : Machine) (text : List ℕ) : Type 0 where
  pub parts : List (List ℕ)
  pub are : Each (AreTargetRows p d all m) (targets d) parts
  pub text_is : text ≡ whole parts

-- the header, and the records of each host, in order; with status 0
pub record AreRootRows (all : Bool) (p : Policy) (d : KnownRows) (text : List ℕ) (status : ℕ) : Type 0 where
  pub parts : List (List ℕ)
  pub are : Each (AreHostRows p d all) d.machines parts
  pub text_is : text ≡ line roots_header ++ whole parts
  pub status_is : status ≡ 0

-- ---- Words that only proofs of bodies need

-- these are the fields that say how
abbrev pub AreWayTexts : Policy → KnownRows → List Group → ℕ → Option Way → List (List ℕ) → Type 0
AreWayTexts p d groups user way texts = texts ≡ way_fields p d groups user way

-- a text that a relation holds of is appended
abbrev pub Appends : (List ℕ → Type 0) → List ℕ → List ℕ → Type 0
Appends Good old new = (part : List ℕ) × Good part × (new ≡ old ++ part)
