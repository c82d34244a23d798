-- A list without marks has no construct of a class that needs one.
use Rattle.std.proofs.Common.{◌≡◌, ℕ, Bool, true, false, List, [], ◌∷◌, Option, None, Some, refl, ◌∙◌, ap, arith}
use Rattle.std.specs.Prelude.{not, ◌&&◌, ◌||◌}
use Rattle.std.specs.List.{list_all, list_any}
use Rattle.sudo_text.specs.declared.token.Ch.{Ch}
use Rattle.sudo_text.specs.declared.token.TokenKind.{TokenKind}
use Rattle.sudo_text.specs.declared.token.TokenKind.TheVariants as tokens
use Rattle.sudo_grammar.specs.declared.kind.Atom.{Atom}
use Rattle.sudo_grammar.specs.declared.kind.Atom.TheVariants as atoms
use Rattle.sudo_grammar.specs.declared.kind.Member.{Member}
use Rattle.sudo_policy.specs.Definitions.{MemberList}
use Rattle.review_cautions.specs.Brackets.{has_caret, has_slash_inside, has_other_class}
use Rattle.review_cautions.specs.Brackets.{opens_bracket, arguments_have_caret, begins_other_class}
use Rattle.review_cautions.specs.Brackets.{arguments_have_other_class, atom_has_caret, atom_has_other_bracket}
use Rattle.review_cautions.specs.Escapes.{is_path_escape, is_argument_escape, arguments_have_escape, has_escape}
use Rattle.review_cautions.specs.Escapes.{is_escaped, is_escaped_tab, unquoted, name_has_escape, group_id_has_escape}
use Rattle.review_cautions.specs.Escapes.{is_escaped_mark, is_escaped_bracket_mark, host_has_escape}
use Rattle.review_cautions.specs.Escapes.{begins_as_id, has_quoted_mark}
use Rattle.review_cautions.specs.Escapes.{has_quoted_escape, is_escaped_byte, is_long_sudoedit}
use Rattle.review_cautions.specs.ListTests.{list_holds, member_holds, concerns}
use Rattle.review_cautions.specs.declared.class.CautionClass.TheVariants.{Return, BlankAfterBackslash, Join, TornMark}
use Rattle.review_cautions.specs.declared.class.CautionClass.TheVariants.{IncludeEscape, IncludeIndent, Comment, EmptyGroup}
use Rattle.review_cautions.specs.declared.class.CautionClass.TheVariants.{Caret, Escape, Case}
use Rattle.review_cautions.specs.declared.class.CautionClass.TheVariants.{QuotedHost, QuotedEscape, Linked, Defaults}
use Rattle.review_cautions.specs.declared.class.CautionClass.TheVariants.{UnknownParameter, Sudoedit, Network}
use Rattle.review_cautions.specs.declared.class.CautionClass.TheVariants.{Bracket, Setenv, GroupForm, Reserved, Arguments, Depends}
use Rattle.review_cautions.specs.declared.class.CautionClass.{CautionClass}
use Rattle.review_cautions.specs.Marks.{is_plain, arguments_are_plain, atom_is_plain}
use Rattle.review_cautions.specs.Marks.{token_is_plain, is_marked, list_is_marked, needs_mark}

pub first : (a b : Bool) → (a && b) ≡ true → a ≡ true
first a b h = grind arith

pub second : (a b : Bool) → (a && b) ≡ true → b ≡ true
second a b h = grind arith

no_escape : (c : Ch) → is_plain c ≡ true → c.escaped ≡ false
no_escape c h = grind arith

no_opening : (c : Ch) → is_plain c ≡ true → opens_bracket c ≡ false
no_opening c h = grind arith

pub either : (a b : Bool) → a ≡ false → b ≡ false → (a || b) ≡ false
either a b h k = grind arith

pub both : (a b : Bool) → b ≡ false → (a && b) ≡ false
both a b h = grind arith

neither : (a b : Bool) → a ≡ false → (a && b) ≡ false
neither a b h = grind arith

no_left : (a b : Bool) → (a || b) ≡ false → a ≡ false
no_left a b h = grind arith

no_right : (a b : Bool) → (a || b) ≡ false → b ≡ false
no_right a b h = grind arith

-- no character of such a list passes a test that none of them does
none_of : (p : Ch → Bool) → ((c : Ch) → is_plain c ≡ true → p c ≡ false) → (cs : List Ch) → list_all is_plain cs ≡ true
    → list_any p cs ≡ false
none_of p h [] k = refl
none_of p h (c ∷ cs) k = either (p c) (list_any p cs) (h c (first (is_plain c) (list_all is_plain cs) k))
    (none_of p h cs (second (is_plain c) (list_all is_plain cs) k))

no_caret : (cs : List Ch) → list_all is_plain cs ≡ true → has_caret false cs ≡ false
no_caret [] h = refl
no_caret (c ∷ cs) h =
    ap (λ opened. has_caret opened cs) (no_opening c (first (is_plain c) (list_all is_plain cs) h))
    ∙ no_caret cs (second (is_plain c) (list_all is_plain cs) h)

no_slash_inside : (before : ℕ) (cs : List Ch) → list_all is_plain cs ≡ true → has_slash_inside false before cs ≡ false
no_slash_inside before [] h = refl
no_slash_inside before (c ∷ cs) h =
    ap (λ opened. has_slash_inside (opened || false) c.byte cs) (no_opening c (first (is_plain c) (list_all is_plain cs) h))
    ∙ no_slash_inside c.byte cs (second (is_plain c) (list_all is_plain cs) h)

no_other_class : (host : Bool) (cs : List Ch) → list_all is_plain cs ≡ true → has_other_class host cs ≡ false
no_other_class host [] h = refl
no_other_class host (c ∷ cs) h = either (opens_bracket c && begins_other_class host cs) (has_other_class host cs)
    (neither (opens_bracket c) (begins_other_class host cs) (no_opening c (first (is_plain c) (list_all is_plain cs) h)))
    (no_other_class host cs (second (is_plain c) (list_all is_plain cs) h))

no_caret_in : (args : Option (List Ch)) → arguments_are_plain args ≡ true → arguments_have_caret args ≡ false
no_caret_in None h = refl
no_caret_in (Some args) h = no_caret args h

no_class_in : (args : Option (List Ch)) → arguments_are_plain args ≡ true → arguments_have_other_class args ≡ false
no_class_in None h = refl
no_class_in (Some args) h = no_other_class false args h

no_path_escape : (c : Ch) → is_plain c ≡ true → is_path_escape c ≡ false
no_path_escape c h = grind (arith, no_escape c h)

no_argument_escape : (c : Ch) → is_plain c ≡ true → is_argument_escape c ≡ false
no_argument_escape c h = grind (arith, no_escape c h)

no_escape_in : (args : Option (List Ch)) → arguments_are_plain args ≡ true → arguments_have_escape args ≡ false
no_escape_in None h = refl
no_escape_in (Some args) h = none_of is_argument_escape no_argument_escape args h

no_tab : (c : Ch) → is_plain c ≡ true → is_escaped_tab c ≡ false
no_tab c h = grind (arith, no_escape c h)

no_mark : (c : Ch) → is_plain c ≡ true → is_escaped_mark c ≡ false
no_mark c h = grind (arith, no_escape c h)

no_bracket_mark : (c : Ch) → is_plain c ≡ true → is_escaped_bracket_mark c ≡ false
no_bracket_mark c h = grind (arith, no_escape c h)

no_byte : (c : Ch) → is_plain c ≡ true → is_escaped_byte c ≡ false
no_byte c h = grind (arith, no_escape c h)

no_host_escape : (cs : List Ch) → list_all is_plain cs ≡ true → host_has_escape cs ≡ false
no_host_escape cs h =
    let mark : list_any is_escaped_mark cs ≡ false = none_of is_escaped_mark no_mark cs h in
    let bracket : list_any is_escaped_bracket_mark cs ≡ false = none_of is_escaped_bracket_mark no_bracket_mark cs h in
    let tab : list_any is_escaped_tab cs ≡ false = none_of is_escaped_tab no_tab cs h in
    grind (arith, mark, bracket, tab)

no_id : (cs : List Ch) → list_all is_plain cs ≡ true → begins_as_id cs ≡ false
no_id [] h = refl
no_id (c ∷ cs) h = grind (arith, no_escape c (first (is_plain c) (list_all is_plain cs) h))

-- what makes a command plain
pub plain_path : (path : List Ch) (args : Option (List Ch)) → atom_is_plain (atoms.Command path args) ≡ true → list_all is_plain path ≡ true
plain_path path args h = grind arith

short_path : (path : List Ch) (args : Option (List Ch)) → atom_is_plain (atoms.Command path args) ≡ true → is_long_sudoedit path ≡ false
short_path path args h = grind arith

plain_args : (path : List Ch) (args : Option (List Ch)) → atom_is_plain (atoms.Command path args) ≡ true → arguments_are_plain args ≡ true
plain_args path args h = grind arith

-- a plain host or command has no bracket that begins with `^`
plain_caret : (a : Atom) → atom_is_plain a ≡ true → atom_has_caret a ≡ false
plain_caret (atoms.Host chars quoted) h =
    both (not quoted) (has_caret false chars) (no_caret chars (second (not quoted) (list_all is_plain chars) h))
plain_caret (atoms.Command path args) h = either (has_caret false path) (arguments_have_caret args)
    (no_caret path (plain_path path args h)) (no_caret_in args (plain_args path args h))
plain_caret atoms.All h = refl
plain_caret (atoms.Alias name) h = refl
plain_caret (atoms.Name name) h = refl
plain_caret (atoms.Uid id) h = refl
plain_caret (atoms.Group name) h = refl
plain_caret (atoms.Gid id) h = refl
plain_caret (atoms.Address addr) h = refl
plain_caret (atoms.Net addr mask) h = refl

-- nor another one that sudo reads otherwise
plain_bracket : (a : Atom) → atom_is_plain a ≡ true → atom_has_other_bracket a ≡ false
plain_bracket (atoms.Host chars quoted) h =
    both (not quoted) (has_other_class true chars) (no_other_class true chars (second (not quoted) (list_all is_plain chars) h))
plain_bracket (atoms.Command path args) h =
    let slash : has_slash_inside false 0 path ≡ false = no_slash_inside 0 path (plain_path path args h) in
    let class : has_other_class false path ≡ false = no_other_class false path (plain_path path args h) in
    let inside : arguments_have_other_class args ≡ false = no_class_in args (plain_args path args h) in
    grind (arith, slash, class, inside)
plain_bracket atoms.All h = refl
plain_bracket (atoms.Alias name) h = refl
plain_bracket (atoms.Name name) h = refl
plain_bracket (atoms.Uid id) h = refl
plain_bracket (atoms.Group name) h = refl
plain_bracket (atoms.Gid id) h = refl
plain_bracket (atoms.Address addr) h = refl
plain_bracket (atoms.Net addr mask) h = refl

-- a plain word has plain characters, and no other token has any
plain_unquoted : (t : TokenKind) → token_is_plain t ≡ true → list_all is_plain (unquoted t) ≡ true
plain_unquoted (tokens.Word true chars) h = refl
plain_unquoted (tokens.Word false chars) h = h
plain_unquoted (tokens.Command path args) h = refl
plain_unquoted (tokens.Mark mark) h = refl
plain_unquoted (tokens.Include folder hash path) h = refl

-- no test of escapes finds one in a plain name
plain_name : (word : List Ch) → list_all is_plain word ≡ true → name_has_escape word ≡ false
plain_name word h = either (begins_as_id word) (list_any is_escaped_tab word) (no_id word h) (none_of is_escaped_tab no_tab word h)

-- nor in a plain ID
plain_group_id : (word : List Ch) → list_all is_plain word ≡ true → group_id_has_escape word ≡ false
plain_group_id [] h = refl
plain_group_id (percent ∷ []) h = refl
plain_group_id (percent ∷ sign ∷ digits) h = both (not sign.escaped) (list_any is_escaped digits)
    (none_of is_escaped no_escape digits (second (is_plain sign) (list_all is_plain digits)
    (second (is_plain percent) (is_plain sign && list_all is_plain digits) h)))

-- a plain atom has no escape that sudo reads otherwise
plain_escape : (a : Atom) (word : List Ch) → atom_is_plain a ≡ true → list_all is_plain word ≡ true → has_escape a word ≡ false
plain_escape (atoms.Host chars quoted) word h k =
    both (not quoted) (host_has_escape chars) (no_host_escape chars (second (not quoted) (list_all is_plain chars) h))
plain_escape (atoms.Command path args) word h k =
    let known : list_any is_path_escape path ≡ false = none_of is_path_escape no_path_escape path (plain_path path args h) in
    let short : is_long_sudoedit path ≡ false = short_path path args h in
    let none : arguments_have_escape args ≡ false = no_escape_in args (plain_args path args h) in
    grind (arith, known, short, none)
plain_escape atoms.All word h k = refl
plain_escape (atoms.Alias name) word h k = refl
plain_escape (atoms.Name name) word h k = plain_name word k
plain_escape (atoms.Uid id) word h k = none_of is_escaped no_escape word k
plain_escape (atoms.Group name) word h k = none_of is_escaped_tab no_tab word k
plain_escape (atoms.Gid id) word h k = plain_group_id word k
plain_escape (atoms.Address addr) word h k = refl
plain_escape (atoms.Net addr mask) word h k = refl

-- a plain host is not quoted
plain_quote : (a : Atom) → atom_is_plain a ≡ true → has_quoted_mark a ≡ false
plain_quote (atoms.Host chars true) h = grind arith
plain_quote (atoms.Host chars false) h = refl
plain_quote (atoms.Command path args) h = refl
plain_quote atoms.All h = refl
plain_quote (atoms.Alias name) h = refl
plain_quote (atoms.Name name) h = refl
plain_quote (atoms.Uid id) h = refl
plain_quote (atoms.Group name) h = refl
plain_quote (atoms.Gid id) h = refl
plain_quote (atoms.Address addr) h = refl
plain_quote (atoms.Net addr mask) h = refl

-- a plain word has no escape
plain_word : (t : TokenKind) → token_is_plain t ≡ true → has_quoted_escape t ≡ false
plain_word (tokens.Word quoted chars) h = both quoted (list_any is_escaped_byte chars) (none_of is_escaped_byte no_byte chars h)
plain_word (tokens.Command path args) h = refl
plain_word (tokens.Mark mark) h = refl
plain_word (tokens.Include folder hash path) h = refl

-- a member without marks is plain
pub plain_atom : (a b : Bool) → not (a && b) ≡ false → a ≡ true
plain_atom a b h = grind arith

plain_token : (a b : Bool) → not (a && b) ≡ false → b ≡ true
plain_token a b h = grind arith

-- a member without marks has the construct of no class that needs one
unmarked : (class : CautionClass) → needs_mark class ≡ true → (m : Member) → is_marked m ≡ false → member_holds class m ≡ false
unmarked Caret n m h = plain_caret m.atom (plain_atom (atom_is_plain m.atom) (token_is_plain m.token.kind) h)
unmarked Escape n m h = plain_escape m.atom (unquoted m.token.kind)
    (plain_atom (atom_is_plain m.atom) (token_is_plain m.token.kind) h)
    (plain_unquoted m.token.kind (plain_token (atom_is_plain m.atom) (token_is_plain m.token.kind) h))
unmarked QuotedHost n m h = plain_quote m.atom (plain_atom (atom_is_plain m.atom) (token_is_plain m.token.kind) h)
unmarked QuotedEscape n m h = plain_word m.token.kind (plain_token (atom_is_plain m.atom) (token_is_plain m.token.kind) h)
unmarked Bracket n m h = plain_bracket m.atom (plain_atom (atom_is_plain m.atom) (token_is_plain m.token.kind) h)
unmarked Return n m h = refl
unmarked BlankAfterBackslash n m h = refl
unmarked Join n m h = refl
unmarked TornMark n m h = refl
unmarked IncludeEscape n m h = refl
unmarked IncludeIndent n m h = refl
unmarked Comment n m h = refl
unmarked EmptyGroup n m h = refl
unmarked Case n m h = grind arith
unmarked Linked n m h = refl
unmarked Defaults n m h = refl
unmarked UnknownParameter n m h = refl
unmarked Sudoedit n m h = grind arith
unmarked Network n m h = grind arith
unmarked Setenv n m h = refl
unmarked GroupForm n m h = refl
unmarked Reserved n m h = refl
unmarked Arguments n m h = grind arith
unmarked Depends n m h = refl

-- where no member passes one test, none passes the other
pub none_passes : (p q : Member → Bool) → ((m : Member) → q m ≡ false → p m ≡ false) → (ms : List Member) → list_any q ms ≡ false
    → list_any p ms ≡ false
none_passes p q h [] k = refl
none_passes p q h (m ∷ ms) k = either (p m) (list_any p ms) (h m (no_left (q m) (list_any q ms) k))
    (none_passes p q h ms (no_right (q m) (list_any q ms) k))

-- a list without marks has no construct of such a class
pub unmarked_list : (class : CautionClass) → needs_mark class ≡ true → (l : MemberList) → list_is_marked l ≡ false
    → list_holds class l ≡ false
unmarked_list class n l h = both (concerns class l.kind) (list_any (member_holds class) l.members)
    (none_passes (member_holds class) is_marked (unmarked class n) l.members h)
