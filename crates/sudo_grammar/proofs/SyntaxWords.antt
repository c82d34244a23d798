-- A token that a syntax error refuses as a member is refused with the expected word of its kind of list.
use Rattle.std.proofs.Common.{cond, ◌≡◌, ℕ, List, [], ◌∷◌, subst, Option, None, Some, Result, Ok, Err, true, false, Bool}
use Rattle.std.specs.Option.{option_map, option_and_then}
use Rattle.sudo_text.specs.declared.token.Ch.{Ch}
use Rattle.sudo_text.specs.declared.token.TokenKind.{TokenKind}
use Rattle.sudo_text.specs.declared.token.TokenKind.TheVariants as tokens
use Rattle.sudo_grammar.specs.declared.kind.Kind.{Kind}
use Rattle.sudo_grammar.specs.declared.kind.Kind.TheVariants as kinds
use Rattle.sudo_grammar.specs.declared.kind.Atom.{Atom}
use Rattle.sudo_grammar.specs.declared.kind.Atom.TheVariants as atoms
use Rattle.sudo_grammar.specs.declared.fault.Expected.{Expected}
use Rattle.sudo_grammar.specs.declared.fault.Expected.TheVariants as wants
use Rattle.sudo_grammar.specs.declared.fault.Unsupported.TheVariants as forms
use Rattle.sudo_grammar.specs.declared.fault.Refusal.{Refusal}
use Rattle.sudo_grammar.specs.declared.fault.Refusal.TheVariants as refusals
use Rattle.std.specs.Str.{bytes_eq}
use Rattle.std.specs.Prelude.{codes, ◌&&◌}
use Rattle.sudo_grammar.specs.declared.fault.Unsupported.{Unsupported}
use Rattle.sudo_grammar.specs.Words.{bytes_of, has_no_escape, plain_word, is_name}
use Rattle.sudo_grammar.specs.Members.{expected_in, cut_at, ok_number, number_of, group_of, user_of}
use Rattle.sudo_grammar.specs.Members.{address_of_numbers, octet_of, address_of_groups, dotted_groups, address_of}
use Rattle.sudo_grammar.specs.Members.{spelled_mask, mask_or, mask_in, net_with, network_of, address_or_host}
use Rattle.sudo_grammar.specs.Members.{plain_host_of, host_of, begins_with_caret, no_command, other_atom, plain_atom}
use Rattle.sudo_grammar.specs.Members.{atom_of}

-- A refusal that is a syntax error is that word's.
abbrev pub IsWord : Expected → Refusal → Type 0
IsWord x r = (y : Expected) → r ≡ refusals.Syntax y → y ≡ x

IsWordIfErr : {A : Type 0} → Expected → Result A Refusal → Type 0
IsWordIfErr x (Ok a) = Unit {0}
IsWordIfErr x (Err r) = IsWord x r

IsWordIfSome : {A : Type 0} → Expected → Option (Result A Refusal) → Type 0
IsWordIfSome x None = Unit {0}
IsWordIfSome x (Some r) = IsWordIfErr x r

ok : {A : Type 0} (x : Expected) (a : A) → IsWordIfErr x (Ok a)
unfolding IsWordIfErr
ok x a = tt

err : (A : Type 0) (x : Expected) (r : Refusal) → IsWord x r → IsWordIfErr {A = A} x (Err r)
unfolding IsWordIfErr
err A x r h = h

of-err : (A : Type 0) (x : Expected) (r : Refusal) → IsWordIfErr {A = A} x (Err r) → IsWord x r
unfolding IsWordIfErr
of-err A x r h = h

none : (A : Type 0) (x : Expected) → IsWordIfSome {A = A} x None
unfolding IsWordIfSome
none A x = tt

some : {A : Type 0} (x : Expected) (r : Result A Refusal) → IsWordIfErr x r → IsWordIfSome x (Some r)
unfolding IsWordIfSome
some x r h = h

of-some : {A : Type 0} (x : Expected) (r : Result A Refusal) → IsWordIfSome x (Some r) → IsWordIfErr x r
unfolding IsWordIfSome
of-some x r h = h

-- the refusals themselves
same : (A : Type 0) (x : Expected) → IsWordIfErr {A = A} x (Err (refusals.Syntax x))
same A x = err A x (refusals.Syntax x) (λ y h. cc)

no-number : (A : Type 0) (x : Expected) → IsWordIfErr {A = A} x (Err refusals.BadNumber)
no-number A x = err A x refusals.BadNumber (λ y h. cc)

unsupported : (A : Type 0) (x : Expected) (f : Unsupported) → IsWordIfErr {A = A} x (Err (refusals.Unsupported f))
unsupported A x f = err A x (refusals.Unsupported f) (λ y h. cc)

-- either of two
choose : {A : Type 0} (x : Expected) (b : Bool) (r s : Result A Refusal) → IsWordIfErr x r → IsWordIfErr x s
    → IsWordIfErr x (cond b r s)
choose x true r s h k = h
choose x false r s h k = k

id_word : (x : Expected) (make : ℕ → Atom) (o : Option ℕ) → IsWordIfErr x (ok_number make o)
id_word x make None = no-number _ x
id_word x make (Some n) = ok x (make n)

group-word : (bytes : List ℕ) → IsWordIfErr wants.Member (group_of bytes)
group-word [] = same _ wants.Member
group-word (b ∷ bs) = choose _ _ _ _ (unsupported _ wants.Member forms.NonUnixGroup)
    (choose _ _ _ _ (id_word wants.Member atoms.Gid (number_of bs)) (ok wants.Member _))

user-word : (cs : List Ch) → IsWordIfErr wants.Member (user_of cs)
user-word [] = same _ wants.Member
user-word (c ∷ cs) = choose _ _ _ _ (ok wants.Member _) (choose _ _ _ _ (unsupported _ wants.Member forms.Netgroup)
    (choose _ _ _ _ (group-word (bytes_of cs))
    (choose _ _ _ _ (id_word wants.Member atoms.Uid (number_of (bytes_of cs))) (ok wants.Member _))))

joined-word : (x : Expected) (a b c d : ℕ) → IsWordIfErr x (address_of_numbers a b c d)
joined-word x a b c d = choose _ _ _ _ (ok x _) (no-number _ x)

address-word : (x : Expected) (bytes : List ℕ) → IsWordIfSome x (address_of bytes)
address-word x bytes = go (dotted_groups bytes)
  where
    four : (a b c d : Option ℕ) → IsWordIfSome x
        (option_and_then (λ a. option_and_then (λ b. option_and_then (λ c. option_map (λ d. address_of_numbers a b c d) d) c) b) a)
    four None b c d = none _ x
    four (Some a) None c d = none _ x
    four (Some a) (Some b) None d = none _ x
    four (Some a) (Some b) (Some c) None = none _ x
    four (Some a) (Some b) (Some c) (Some d) = some x (address_of_numbers a b c d) (joined-word x a b c d)

    go : (g : Option (List ℕ × List ℕ × List ℕ × List ℕ)) → IsWordIfSome x (option_and_then address_of_groups g)
    go None = none _ x
    go (Some g) = four (octet_of g.0) (octet_of g.1) (octet_of g.2) (octet_of g.3)

mask_word : (x : Expected) (o : Option ℕ) (bytes : List ℕ) → IsWordIfErr x (mask_or o bytes)
mask_word x (Some bits) bytes = choose _ _ _ _ (ok x _) (no-number _ x)
mask_word x None bytes = go (address_of bytes) (address-word x bytes)
  where
    go : (o : Option (Result ℕ Refusal)) → IsWordIfSome x o → IsWordIfErr x (spelled_mask o)
    go None h = no-number _ x
    go (Some r) h = of-some x r h

net_word : (x : Expected) (addr : ℕ) (r : Result ℕ Refusal) → IsWordIfErr x r → IsWordIfErr x (net_with addr r)
net_word x addr (Ok mask) h = ok x (atoms.Net addr mask)
net_word x addr (Err r) h = err _ x r (of-err _ x r h)

network_word : (x : Expected) (o : Option (Result ℕ Refusal)) (back : List ℕ) → IsWordIfSome x o → IsWordIfErr x (network_of o back)
network_word x None back h = no-number _ x
network_word x (Some (Err r)) back h = err _ x r (of-err _ x r (of-some x (Err r) h))
network_word x (Some (Ok addr)) back h = net_word x addr (mask_in back) (mask_word x (number_of back) back)

plain_host_word : (x : Expected) (cs : List Ch) (bytes : List ℕ) (o : Option (List ℕ × List ℕ)) → IsWordIfErr x (plain_host_of cs bytes o)
plain_host_word x cs bytes (Some parts) = network_word x (address_of parts.0) parts.1 (address-word x parts.0)
plain_host_word x cs bytes None = go (address_of bytes) (address-word x bytes)
  where
    go : (o : Option (Result ℕ Refusal)) → IsWordIfSome x o → IsWordIfErr x (address_or_host cs o)
    go None h = ok x _
    go (Some (Ok addr)) h = ok x _
    go (Some (Err r)) h = err _ x r (of-err _ x r (of-some x (Err r) h))

host-word : (quoted : Bool) (cs : List Ch) → IsWordIfErr wants.Member (host_of quoted cs)
host-word quoted [] = same _ wants.Member
host-word quoted (c ∷ cs) = choose _ _ _ _ (unsupported _ wants.Member forms.Netgroup) (choose _ _ _ _ (ok wants.Member _)
    (choose _ _ _ _ (plain_host_word wants.Member (c ∷ cs) (bytes_of (c ∷ cs)) (cut_at 47 (bytes_of (c ∷ cs))))
    (choose _ _ _ _ (no-number _ wants.Member) (ok wants.Member _))))

-- no word is wanted for a command where another word stands
no_command-word : (quoted : Bool) (cs : List Ch) → IsWord wants.Command (no_command quoted cs)
no_command-word quoted cs y = go quoted (begins_with_caret cs) (has_no_escape cs && bytes_eq (bytes_of cs) (codes "list"))
  where
    go : (a b c : Bool) → cond a refusals.NotCommand
        (cond b (refusals.Unsupported forms.RegularExpression) (cond c (refusals.Unsupported forms.List) refusals.NotCommand))
        ≡ refusals.Syntax y → y ≡ wants.Command
    go true b c h = cc
    go false true c h = cc
    go false false true h = cc
    go false false false h = cc

other-word : (kind : Kind) (token : TokenKind) → IsWordIfErr (expected_in kind) (other_atom kind token)
other-word kinds.User (tokens.Word quoted cs) = user-word cs
other-word kinds.Runas (tokens.Word quoted cs) = user-word cs
other-word kinds.Host (tokens.Word quoted cs) = host-word quoted cs
other-word kinds.Cmnd (tokens.Word quoted cs) = err _ wants.Command (no_command quoted cs) (no_command-word quoted cs)
other-word kinds.Cmnd (tokens.Command path args) =
    choose _ _ _ _ (unsupported _ wants.Command forms.RegularExpression) (ok wants.Command _)
other-word kinds.User (tokens.Command path args) = same _ wants.Member
other-word kinds.Runas (tokens.Command path args) = same _ wants.Member
other-word kinds.Host (tokens.Command path args) = same _ wants.Member
other-word kind (tokens.Mark m) = same _ (expected_in kind)
other-word kind (tokens.Include folder hash path) = same _ (expected_in kind)

atom-word : (kind : Kind) (token : TokenKind) → IsWordIfErr (expected_in kind) (atom_of kind token)
atom-word kind token = go (plain_word token)
  where
    go : (o : Option (List ℕ)) → IsWordIfErr (expected_in kind)
        (elim o as (λ _. Result Atom Refusal) [ Some w ↦ plain_atom kind token w | None ↦ other_atom kind token ])
    go None = other-word kind token
    go (Some w) = choose (expected_in kind) (bytes_eq w (codes "ALL")) (Ok atoms.All)
        (cond (is_name w) (Ok (atoms.Alias w)) (other_atom kind token)) (ok (expected_in kind) atoms.All)
        (choose (expected_in kind) (is_name w) (Ok (atoms.Alias w)) (other_atom kind token)
        (ok (expected_in kind) (atoms.Alias w)) (other-word kind token))

pub syntax_word : (kind : Kind) (token : TokenKind) (r : Refusal) → atom_of kind token ≡ Err r → IsWord (expected_in kind) r
syntax_word kind token r h =
    of-err _ (expected_in kind) r (subst (λ o. IsWordIfErr (expected_in kind) o) h (atom-word kind token))
