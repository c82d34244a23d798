-- The members that triples add to a list.
use Rattle.std.proofs.Common.{◌≡◌, ℕ, List, ◌∷◌, Option, None, Some, refl, sym, ◌∙◌, ap}
use Rattle.std.specs.Prelude.{filter_map, fold}
use Rattle.audit_files.specs.declared.netgroups.Triple.{Triple}
use Rattle.sudo_text.specs.declared.line.Line.{Line}
use Rattle.review_texts.specs.declared.netgroups.Group.{Group}
use Rattle.review_texts.specs.declared.netgroups.Members.{Members}
use Rattle.review_texts.specs.declared.netgroups.Members.TheVariants.{Users, Hosts}
use Rattle.review_texts.specs.Places.{IsListOf, IsMembers, list_at}
use Rattle.review_texts.specs.Body.MemberLists.{with_member_if}
use Rattle.review_texts.specs.Netgroups.{member_of, with_member}

-- a list behind the members of these triples
abbrev pub behind_all : List ℕ → Members → List ℕ → List ℕ → List Triple → List ℕ
behind_all sign kind name list triples = fold (with_member sign) list (filter_map (member_of kind name) triples)

pub one_more : (sign : List ℕ) (kind : Members) (name list : List ℕ) (t : Triple) (ts : List Triple)
    → behind_all sign kind name list (t ∷ ts) ≡ behind_all sign kind name (with_member_if sign list (member_of kind name t)) ts
one_more sign kind name list t ts = by (member_of kind name t) refl
  where
    by : (m : Option (List ℕ)) → member_of kind name t ≡ m
        → behind_all sign kind name list (t ∷ ts) ≡ behind_all sign kind name (with_member_if sign list (member_of kind name t)) ts
    by None e = rw e refl
    by (Some member) e = rw e refl

-- A group at an offset has one list.
one_kind : (group : Group) (line : Line) (at : ℕ) (a b : Members) → IsListOf a group line at → IsListOf b group line at → a ≡ b
one_kind group line at Users Users is other = refl
one_kind group line at Users Hosts is other = absurd (other.1 is)
one_kind group line at Hosts Users is other = absurd (is.1 other)
one_kind group line at Hosts Hosts is other = refl

pub one_members : (group : Group) (known : List Triple) (line : Line) (at : ℕ) (a b : List ℕ) → IsMembers group known line at a
    → IsMembers group known line at b → a ≡ b
one_members group known line at a b is other =
    is.is ∙ ap (λ kind. list_at group kind known line.text at) (one_kind group line at is.kind other.kind is.list other.list)
    ∙ sym other.is
