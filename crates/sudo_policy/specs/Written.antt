-- Lists written out: signed atoms in order, without aliases, as cvtsudoers(1) writes them with the option -e.
use Rattle.std.specs.Prelude.{◌≡◌, ℕ, ◌%◌, ◌==◌, Bool, true, false, not, List, [], ◌∷◌, ◌++◌, Option, Some, None, map, flat_map, unwrap_or}
use Rattle.sudo_grammar.specs.declared.kind.Kind.{Kind}
use Rattle.sudo_grammar.specs.declared.kind.Member.{Member}
use Rattle.sudo_grammar.specs.declared.kind.Signed.{Signed}
use Rattle.sudo_grammar.specs.declared.policy.Policy.{Policy}
use Rattle.sudo_policy.specs.Definitions.{alias_named}
use Rattle.sudo_policy.specs.Following.{Reading, ReadsAs, reading_within}

-- exactly one of the two is true
abbrev pub differ : Bool → Bool → Bool
differ true b = not b
differ false b = b

-- a member is negated: it has an odd number of exclamation marks
abbrev pub is_negated : Member → Bool
is_negated m = m.bangs % 2 == 1

-- a signed atom, negated once more if `negate` is true
abbrev pub negated_if : Bool → Signed → Signed
negated_if negate s = record { negated = differ negate s.negated; atom = s.atom }

-- a member that is no alias is written as itself with its sign; an undefined name has no written form
abbrev pub alone_written : Member → Option (List ℕ) → Option (List Signed)
alone_written m None = Some (record { negated = is_negated m; atom = m.atom } ∷ [])
alone_written m (Some name) = None

-- an alias is written as the members of its definition, each negated once more if the alias is negated
abbrev pub writing : Reading (List Signed)
writing = record {
  nothing = [];
  join = ◌++◌;
  alone = λ m. alone_written m (alias_named m.atom);
  through = λ m ws. map (negated_if (is_negated m)) ws;
}

-- ws is the list written out: its members in order, with each alias replaced by its definition and signs turned; a list
-- that reaches a cycle or an undefined name has no written form
abbrev pub IsWrittenOut : Kind → Policy → List Member → List Signed → Type 0
IsWrittenOut kind p ms ws = ReadsAs writing kind p ms ws

-- the written form of one member, through at most 64 nested definitions; empty if it has none
abbrev pub member_written : Kind → Policy → Member → List Signed
member_written kind p m = unwrap_or (reading_within writing kind p 64 (m ∷ [])) []

-- a list written out, member by member: the written form of each list that has one, as each list of a policy that
-- passes the check has
unfoldable pub written_form : Kind → Policy → List Member → List Signed
written_form kind p ms = flat_map (member_written kind p) ms

-- two written forms of one list are the same
abbrev pub WrittenOnce : Type 0
WrittenOnce = (kind : Kind) (p : Policy) (ms : List Member) (a b : List Signed) → IsWrittenOut kind p ms a
    → IsWrittenOut kind p ms b → a ≡ b
