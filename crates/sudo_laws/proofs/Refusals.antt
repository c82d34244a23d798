-- Wrong definitions in place of the right ones: the laws do not hold of them. Each is the statement of a law, with a wrong
-- definition of must-fail-further/ in it, and is refuted by an example.
use Rattle.std.proofs.Common.{reverse, ◌≡◌, ℕ, ◌+◌, ◌==◌, Bool, true, false, not, cond, List, [], ◌∷◌, ◌++◌, flat_map, find, map}
use Rattle.std.proofs.Common.{Option, Some, None, Ok, Result, refl, sym, ◌∙◌, ap, option_map, ◌↔◌, take, drop, count_by, ◌||◌, arith}
use Rattle.std.proofs.Common.{subst, inl, inr, ◌⊎◌, length, length-append, IsPermutation}
use Rattle.std.specs.Prelude.{bytes_eq, codes, slice_get, unwrap_or}
use Rattle.std.proofs.lemmas.List.Sorted.{length_permutation}
use Rattle.audit_collect.specs.Collect.{IsFirstRefused}
use Rattle.audit_collect.specs.Complete.{IsReportOf, arrivals_from}
use Rattle.audit_collect.specs.Roster.{IsRoster}
use Rattle.audit_collect.specs.SenderState.{start}
use Rattle.audit_collect.specs.declared.arrival.Answer.{Answer}
use Rattle.audit_collect.specs.declared.arrival.Arrival.{Arrival}
use Rattle.audit_collect.specs.declared.arrival.Arrival.TheVariants.{Close, Reply}
use Rattle.audit_collect.specs.declared.fault.Refused.{Refused}
use Rattle.audit_collect.specs.declared.report.Report.{Report}
use Rattle.audit_collect.specs.declared.report.SenderReport.{SenderReport}
use Rattle.audit_files.specs.Report.{answer_fields, header, line, sender_text}
use Rattle.audit_files.specs.Rows.{records_of}
use Rattle.sudo_grammar.specs.Members.{atom_of}
use Rattle.sudo_grammar.specs.Tags.{pairs, same_pair}
use Rattle.sudo_grammar.specs.Words.{bytes_of, is_name}
use Rattle.sudo_grammar.specs.declared.fault.ParseFault.{ParseFault}
use Rattle.sudo_grammar.specs.declared.fault.Refusal.{Refusal}
use Rattle.sudo_grammar.specs.declared.kind.Atom.{Atom}
use Rattle.sudo_grammar.specs.declared.kind.Atom.TheVariants as atoms
use Rattle.sudo_grammar.specs.declared.kind.Kind.{Kind}
use Rattle.sudo_grammar.specs.declared.kind.Kind.TheVariants as kinds
use Rattle.sudo_grammar.specs.declared.kind.Member.{Member}
use Rattle.sudo_grammar.specs.declared.kind.Signed.{Signed}
use Rattle.sudo_grammar.specs.declared.policy.CommandSpec.{CommandSpec}
use Rattle.sudo_grammar.specs.declared.policy.Entry.{Entry}
use Rattle.sudo_grammar.specs.declared.policy.EntryBody.{EntryBody}
use Rattle.sudo_grammar.specs.declared.policy.EntryBody.TheVariants.{Aliases, Rule}
use Rattle.sudo_grammar.specs.declared.policy.Policy.{Policy}
use Rattle.sudo_grammar.specs.declared.policy.Runas.{Runas}
use Rattle.sudo_grammar.specs.declared.tag.Tag.{Tag}
use Rattle.sudo_grammar.specs.declared.tag.TagPair.{TagPair}
use Rattle.sudo_grammar.specs.declared.tag.TagPair.TheVariants as tag_pairs
use Rattle.sudo_laws.proofs.OneSpelling.{one_spelling}
use Rattle.sudo_laws.proofs.PatternTexts.{is_escaped_x}
use Rattle.sudo_laws.proofs.ReplacedLemmas.{load_replaced}
use Rattle.sudo_laws.proofs.ReportLemmas.{report_read}
use Rattle.sudo_laws.proofs.SpelledLemmas.{all_printable}
use Rattle.sudo_laws.proofs.TestLemmas.{Each, each_first, each_none, each_one, each_rest}
use Rattle.sudo_laws.specs.InForce.{IsNamedAt, IsTaggedAt}
use Rattle.sudo_laws.specs.Longer.{AddsRule}
use Rattle.sudo_laws.specs.Slashes.{is_slash_part}
use Rattle.sudo_laws.specs.Spelled.{ReadAsUser, SpellSome, Spells, SpellsAll, blanks, escape, itself, next, none, number}
use Rattle.sudo_laws.specs.WrittenOut.{WritesOut}
use Rattle.sudo_load.specs.Files.{HasContent}
use Rattle.sudo_load.specs.Load.{IsLoad}
use Rattle.sudo_load.specs.declared.supply.Supply.{Supply}
use Rattle.sudo_match.specs.Beginnings.{is_special}
use Rattle.sudo_match.specs.KnownRows.{KnownRows, host_named, user_named}
use Rattle.sudo_match.specs.Matching.{command_fits, host_fits, user_fits}
use Rattle.sudo_match.specs.Pattern.{Star, cuts, fits, part_at, parts, parts_after}
use Rattle.sudo_match.specs.declared.patterns.Slash.{Slash}
use Rattle.sudo_match.specs.declared.people.Machine.{Machine}
use Rattle.sudo_match.specs.declared.people.Person.{Person}
use Rattle.sudo_match.specs.declared.request.Request.{Request}
use Rattle.sudo_match.specs.declared.request.Verdict.TheVariants.{NoMatch}
use Rattle.sudo_match.specs.declared.patterns.Slash.TheVariants.{Any}
use Rattle.sudo_policy.proofs.Laws.{alone_stands, written_append}
use Rattle.sudo_policy.specs.Checking.{FailsCheck, Passes}
use Rattle.sudo_policy.specs.Definitions.{alias_named}
use Rattle.sudo_policy.specs.Following.{reading_within}
use Rattle.sudo_policy.specs.Written.{alone_written, written_form}
use Rattle.sudo_policy.specs.Found.{AreFindings, has_error}
use Rattle.sudo_policy.specs.declared.finding.Finding.{Finding}
use Rattle.sudo_parser.specs.Parsed.{AreEntries, IsEntryOf, IsFirstFault, IsLineFault}
use Rattle.sudo_parser.specs.Texts.{atom_text}
use Rattle.sudo_text.proofs.NoFault.{no_fault}
use Rattle.sudo_text.proofs.OneList.{one_list}
use Rattle.sudo_text.specs.Bytes.{is_blank, is_control}
use Rattle.sudo_text.specs.Pieces.{ends_run, ends_word, escape_at, escaped, hex_at, is_arguments, piece_at, plain, reach, run_end}
use Rattle.sudo_text.specs.Lines.{lines_of}
use Rattle.sudo_text.specs.Rules.{begins_defaults, general_rule_at, line_kind, rule_at, word_style}
use Rattle.sudo_text.specs.Tokens.{LeftmostFault, closes_line, spells}
use Rattle.sudo_text.specs.declared.fault.TextFault.{TextFault}
use Rattle.sudo_text.specs.declared.fault.TextFault.TheVariants.{BadEscape, BadQuote}
use Rattle.sudo_text.specs.declared.line.Line.{Line}
use Rattle.sudo_text.specs.declared.line.Place.{Place}
use Rattle.sudo_text.specs.declared.token.Ch.{Ch}
use Rattle.sudo_text.specs.declared.token.Mark.TheVariants.{Bang}
use Rattle.sudo_text.specs.declared.token.Token.{Token}
use Rattle.sudo_text.specs.declared.token.TokenKind.TheVariants as tokens
use Rattle.sudo_text.specs.declared.token.TokenKind.TheVariants.{Word}
use Rattle.sudo_verdict.specs.Grants.{Grant, applies, entry_grants, grants, place_grants, section_grants}
use Rattle.sudo_verdict.specs.Last.{last_that}
use Rattle.sudo_verdict.specs.Questions.{Question, question_of}
use Rattle.sudo_verdict.specs.RunasForms.{runas_allows}
use Rattle.sudo_verdict.specs.Verdicts.{verdict_by, verdict_if_any}
use Rattle.sudo_verdict.specs.Tagged.{runas_at, runas_before, tags_at, tags_before, tags_named}
use Rattle.sudo_verdict.specs.Values.{value}

some_nothing : (b : ℕ) (t : List ℕ) → b ∷ t ≡ [] → ⊥
some_nothing b t e = cc

one_none : 1 ≡ (λ (n : ℕ). n) 0 → ⊥
one_none e = omega (arith, e)

said_both : (a b : Bool) → Some a ≡ Some b → a ≡ true → b ≡ false → ⊥
said_both a b e f g = cc

-- ---- Patterns

-- a pattern that fits any text which begins with its bytes
longer_texts : ((chars : List Ch) (text : List ℕ) (slash : Slash) → Each is_special false chars
    → (fits (parts chars ++ Star ∷ []) text slash ≡ true) ↔ (text ≡ bytes_of chars)) → ⊥
unfolding fits cuts parts_after
longer_texts law = some_nothing 97 [] ((law [] (97 ∷ []) Any (each_none is_special false)).0 refl)

-- a star in a path that fits a slash
star_fits_a_slash : ((chars : List Ch) (text : List ℕ) → fits (parts chars) text Any ≡ true
    → count_by (λ b. b == 47) text ≡ count_by is_slash_part (parts chars)) → ⊥
unfolding fits cuts parts_after part_at
star_fits_a_slash law = one_none (law (record { byte = 42; escaped = false } ∷ []) (47 ∷ []) refl)

-- ---- Lists

member : ℕ → Atom → Member
member bangs atom = record { bangs = bangs; token = record { kind = tokens.Mark Bang; start = 0; «end» = 0 }; atom = atom }

-- `ALL, !ALL` is written as it stands
all_written : (p : Policy) → written_form kinds.User p (member 0 atoms.All ∷ member 1 atoms.All ∷ [])
    ≡ record { negated = false; atom = atoms.All } ∷ record { negated = true; atom = atoms.All } ∷ []
unfolding member
all_written p =
    written_append kinds.User p (member 0 atoms.All ∷ []) (member 1 atoms.All ∷ [])
    ∙ ap (λ ws. ws ++ written_form kinds.User p (member 1 atoms.All ∷ [])) (alone_stands kinds.User p (member 0 atoms.All) refl)
    ∙ ap (λ ws. record { negated = false; atom = atoms.All } ∷ ws) (alone_stands kinds.User p (member 1 atoms.All) refl)

-- what `ALL` and `!ALL` decide
all_decides : (p : Policy) → value kinds.User p (member 0 atoms.All ∷ []) (λ a. true) ≡ Some true
unfolding member value
all_decides p =
    ap (λ ws. option_map (λ (s : Signed). not s.negated) (last_that (λ s. true) ws)) (alone_stands kinds.User p (member 0 atoms.All) refl)

not_all_decides : (p : Policy) → value kinds.User p (member 1 atoms.All ∷ []) (λ a. true) ≡ Some false
unfolding member value
not_all_decides p =
    ap (λ ws. option_map (λ (s : Signed). not s.negated) (last_that (λ s. true) ws)) (alone_stands kinds.User p (member 1 atoms.All) refl)

-- the first member that decides
first_member : (p : Policy)
    → ((kind : Kind) (p : Policy) (before after : List Member) (m : Member) (test : Atom → Bool) (decision : Bool)
    → value kind p (m ∷ []) test ≡ Some decision → Each (λ later. value kind p (later ∷ []) test) None after
    → option_map (λ s. not s.negated) (find (λ s. test s.atom) (written_form kind p (before ++ m ∷ after))) ≡ Some decision) → ⊥
first_member p law =
    let says = law kinds.User p (member 0 atoms.All ∷ []) [] (member 1 atoms.All) (λ a. true) false (not_all_decides p)
    (each_none (λ later. value kinds.User p (later ∷ []) (λ a. true)) None) in
    let found = ap (λ ws. option_map (λ (s : Signed). not s.negated) (find (λ (s : Signed). true) ws)) (all_written p) in
    said_both true false (sym found ∙ says) refl refl

-- a `!` that turns nothing
nothing_turns : (p : Policy)
    → ((kind : Kind) (p : Policy) (m marked : Member) (test : Atom → Bool) → marked.atom ≡ m.atom → marked.bangs ≡ m.bangs + 1
    → value kind p (marked ∷ []) test ≡ value kind p (m ∷ []) test) → ⊥
unfolding member
nothing_turns p law =
    let says = law kinds.User p (member 0 atoms.All) (member 1 atoms.All) (λ a. true) refl refl in
    said_both true false (sym (all_decides p) ∙ sym says ∙ not_all_decides p) refl refl

-- ---- Commands of a section

some_users : ◌≡◌ {A = Option (Option (List Member))} (Some (Some [])) (Some None) → ⊥
some_users e = cc

some_is : (a b : Option Bool) → Some a ≡ Some b → a ≡ b
some_is a b e = cc

spec_of : Option Runas → List Tag → CommandSpec
spec_of runas tags = record { runas = runas; tags = tags; command = member 0 atoms.All }

own : Runas
own = record { users = None; groups = None }

other : Runas
other = record { users = Some []; groups = None }

-- a runas that holds for the commands before it too
runas_of_later_commands : ((commands : List CommandSpec) (i : ℕ) (runas : Runas) → IsNamedAt commands i runas
    → runas_before commands ≡ Some runas) → ⊥
unfolding runas_before spec_of own other
runas_of_later_commands law =
    let commands : List CommandSpec = spec_of (Some own) [] ∷ spec_of (Some other) [] ∷ [] in
    let says : runas_before commands ≡ Some own = law commands 0 own (record {
      place = 0;
      command = spec_of (Some own) [];
      there = refl;
      before = omega arith;
      names = refl;
      between = λ k c after upto at. absurd (omega (arith, after, upto));
    }) in
    some_users (ap (option_map (λ (r : Runas). r.users)) says)

-- a tag that holds for the commands before it too
tags_of_later_commands : ((commands : List CommandSpec) (i n : ℕ) (pair : TagPair) (on : Bool) → slice_get pairs n ≡ Some pair
    → IsTaggedAt pair commands i on → slice_get (tags_before commands).choices n ≡ Some (Some on)) → ⊥
unfolding tags_before tags_named spec_of
tags_of_later_commands law =
    let named : Tag = record { pair = tag_pairs.Passwd; on = true } in
    let later : Tag = record { pair = tag_pairs.Passwd; on = false } in
    let commands : List CommandSpec = spec_of None (named ∷ []) ∷ spec_of None (later ∷ []) ∷ [] in
    let says = law commands 0 6 tag_pairs.Passwd true refl (record {
      place = 0;
      command = spec_of None (named ∷ []);
      there = refl;
      before = omega arith;
      front = [];
      tag = named;
      rest = [];
      tags = refl;
      of_pair = refl;
      chooses = refl;
      last = each_none (λ (t : Tag). same_pair tag_pairs.Passwd t.pair) false;
      between = λ k c after upto at. absurd (omega (arith, after, upto));
    }) in said_both true false (sym (some_is (Some false) (Some true) says)) refl refl

-- ---- Grants

root : Person
root = record { name = codes "root"; uid = 0; groups = record { name = codes "root"; gid = 0 } ∷ [] }

web : Machine
web = record { name = codes "web1"; interfaces = [] }

known : KnownRows
known = record { people = root ∷ []; machines = web ∷ [] }

asked : Request
asked = record {
  number = 1;
  user = codes "root";
  host = codes "web1";
  runas_user = None;
  runas_group = None;
  command = [];
  arguments = [];
}

question : Question
question = record { user = root; host = web; asked = None; group = None; target = Some root; command = []; arguments = [] }

-- a rule for everybody, everywhere: `ALL ALL = ALL`, or `ALL ALL = !ALL`
rule : ℕ → ℕ → Entry
rule line bangs = record {
  place = record { file = 0; line = line };
  body = Rule (member 0 atoms.All ∷ [])
      (record {
        hosts = member 0 atoms.All ∷ [];
        commands = record { runas = None; tags = []; command = member bangs atoms.All } ∷ [];
      } ∷ []);
}

one_rule : Policy
unfolding rule
one_rule = record { files = [] ∷ []; entries = rule 1 0 ∷ []; placed = refl; unfolded = refl }

two_rules : Policy
unfolding rule
two_rules = record { files = [] ∷ []; entries = rule 1 0 ∷ rule 2 1 ∷ []; placed = refl; unfolded = refl }

grant : ℕ → Bool → Grant
grant line negated = record {
  place = record { file = 0; line = line };
  users = member 0 atoms.All ∷ [];
  hosts = member 0 atoms.All ∷ [];
  runas = None;
  tags = tags_named [];
  negated = negated;
  atom = atoms.All;
}

both_granted : grants two_rules ≡ grant 1 false ∷ grant 2 true ∷ []
unfolding grants section_grants place_grants written_form reading_within tags_at tags_before runas_at runas_before
    two_rules rule grant member
both_granted = refl

both_apply : (line : ℕ) (negated : Bool) → applies two_rules question (grant line negated) ≡ true
unfolding applies value written_form reading_within runas_allows user_fits host_fits command_fits two_rules grant member question root web
both_apply line negated = refl

is_asked : question_of known asked ≡ Ok question
unfolding question_of user_named host_named known asked question root web
is_asked = refl

allowed_first : find (applies two_rules question) (grant 1 false ∷ grant 2 true ∷ []) ≡ Some (grant 1 false)
allowed_first = ap (λ b. cond b (Some (grant 1 false)) (find (applies two_rules question) (grant 2 true ∷ []))) (both_apply 1 false)

allow_deny : verdict_by (grant 1 false) ≡ verdict_by (grant 2 true) → ⊥
unfolding grant
allow_deny e = cc

-- the first grant that applies
first_grant : ((p : Policy) (d : KnownRows) (r : Request) (q : Question) (before after : List Grant) (g : Grant)
    → question_of d r ≡ Ok q → grants p ≡ before ++ g ∷ after → applies p q g ≡ true → Each (applies p q) false after
    → verdict_if_any (find (applies p q) (grants p)) ≡ verdict_by g) → ⊥
first_grant law =
    allow_deny (sym (ap (λ gs. verdict_if_any (find (applies two_rules question) gs)) both_granted ∙ ap verdict_if_any allowed_first)
    ∙ law two_rules known asked question (grant 1 false ∷ []) [] (grant 2 true) is_asked both_granted (both_apply 2 true)
    (each_none (applies two_rules question) false))

-- the same, with one more rule
adds_rule : AddsRule one_rule (rule 2 1) two_rules
unfolding rule one_rule two_rules
adds_rule = record {
  users = member 0 atoms.All ∷ [];
  sections = record {
    hosts = member 0 atoms.All ∷ [];
    commands = record { runas = None; tags = []; command = member 1 atoms.All } ∷ [];
  } ∷ [];
  is_rule = refl;
  entries = refl;
}

last_granted : entry_grants two_rules (rule 2 1) ≡ grant 2 true ∷ []
unfolding section_grants place_grants written_form reading_within tags_at tags_before runas_at runas_before two_rules rule grant member
last_granted = refl

first_grant_longer : ((p longer : Policy) (added : Entry) → AddsRule p added longer → (d : KnownRows) (r : Request) (q : Question)
    → question_of d r ≡ Ok q → (before after : List Grant) (g : Grant) → entry_grants longer added ≡ before ++ g ∷ after
    → applies longer q g ≡ true → Each (applies longer q) false after
    → verdict_if_any (find (applies longer q) (grants longer)) ≡ verdict_by g) → ⊥
first_grant_longer law =
    allow_deny (sym (ap (λ gs. verdict_if_any (find (applies two_rules question) gs)) both_granted ∙ ap verdict_if_any allowed_first)
    ∙ law one_rule two_rules (rule 2 1) adds_rule known asked question is_asked [] [] (grant 2 true) last_granted (both_apply 2 true)
    (each_none (applies two_rules question) false))

-- ---- Aliases

-- `User_Alias A = alice` and `!A ALL = ALL`
negated_alias : Policy
unfolding member
negated_alias = record {
  files = [] ∷ [];
  entries =
      record {
        place = record { file = 0; line = 1 };
        body = Aliases kinds.User (record { name = 65 ∷ []; members = member 0 (atoms.Name (97 ∷ [])) ∷ [] } ∷ []);
      }
      ∷ record {
        place = record { file = 0; line = 2 };
        body = Rule (member 1 (atoms.Alias (65 ∷ [])) ∷ []) [];
      }
      ∷ [];
  placed = refl;
  unfolded = refl;
}

-- an alias is written without its sign
unsigned : Policy → Kind → List Member → List Signed
unsigned p kind list = flat_map
    (λ m. unwrap_or (reading_within (record {
      nothing = [];
      join = ◌++◌;
      alone = λ n. alone_written n (alias_named n.atom);
      through = λ n ws. ws;
    }) kind p 64 (m ∷ [])) []) list

signs_differ : (a : Atom) → ◌≡◌ {A = List Signed} (record { negated = false; atom = a } ∷ []) (record { negated = true; atom = a } ∷ []) → ⊥
signs_differ a e = (let same : false ≡ true = ap (λ (ws : List Signed). first_sign ws) e in cc)
  where
    first_sign : List Signed → Bool
    first_sign [] = true
    first_sign (w ∷ ws) = w.negated

alias_without_its_sign : WritesOut negated_alias (unsigned negated_alias) → ⊥
unfolding negated_alias unsigned reading_within member
alias_without_its_sign h =
    signs_differ (atoms.Name (97 ∷ []))
    (h.alias (record {
      kind = kinds.User;
      place = record { file = 0; line = 2 };
      granting = true;
      members = member 1 (atoms.Alias (65 ∷ [])) ∷ [];
    })
    (member 1 (atoms.Alias (65 ∷ []))) (65 ∷ []) (member 0 (atoms.Name (97 ∷ [])) ∷ [])
    (1, omega arith, refl) (0, omega arith, refl) refl refl)

-- ---- Texts

-- the text of a user without escapes
user_without_escapes : ((first : ℕ) (rest : List ℕ) → (is_name (first ∷ rest) || bytes_eq (first ∷ rest) (codes "ALL")) ≡ false
    → SpellSome (first ∷ rest) (λ chars. ReadAsUser false chars (atoms.Name (first ∷ rest)))) → ⊥
user_without_escapes law = by (law 92 (98 ∷ []) refl)
  where
    names_apart : ◌≡◌ {A = Result Atom Refusal} (Ok (atoms.Name (98 ∷ []))) (Ok (atoms.Name (92 ∷ 98 ∷ []))) → ⊥
    names_apart e = cc

    by : SpellSome (92 ∷ 98 ∷ []) (λ chars. ReadAsUser false chars (atoms.Name (92 ∷ 98 ∷ []))) → ⊥
    by (chars, spelled, reads) =
        let same : chars ≡ escaped 98 ∷ [] = one_spelling true chars (escaped 98 ∷ []) (92 ∷ 98 ∷ []) spelled
        (next (escaped 98) [] (92 ∷ 98 ∷ []) [] (escape 98 refl (λ e f. x_apart f)) none) in
        names_apart (ap (λ cs. atom_of kinds.User (Word false cs)) (sym same) ∙ reads.0)
      where
        x_apart : 98 ≡ (λ (n : ℕ). n) 120 → ⊥
        x_apart e = omega (arith, e)

-- the text of a host with a control byte
control_bytes_too : ((chars : List Ch) (bytes : List ℕ) → SpellsAll true false chars bytes
    → Each (λ c. is_escaped_x c) false chars → SpellsAll true false chars (atom_text (atoms.Host chars false))) → ⊥
control_bytes_too law =
    let read : SpellsAll true false (escaped 1 ∷ []) (92 ∷ 120 ∷ 48 ∷ 49 ∷ []) =
    next (escaped 1) [] (92 ∷ 120 ∷ 48 ∷ 49 ∷ []) [] (number 48 49 refl refl refl) none in
    let again : SpellsAll true false (escaped 1 ∷ []) (92 ∷ 1 ∷ []) =
    law (escaped 1 ∷ []) (92 ∷ 120 ∷ 48 ∷ 49 ∷ []) read (each_one is_escaped_x false (escaped 1) [] refl (each_none is_escaped_x false)) in
    let fine = each_rest is_control false 92 (1 ∷ []) (all_printable true false (escaped 1 ∷ []) (92 ∷ 1 ∷ []) again) in
    true_false (each_first is_control false 1 [] fine)
  where
    true_false : true ≡ false → ⊥
    true_false e = cc

-- blanks among arguments that spell one list of characters
blanks_spell_one_list : ((hex : Bool) (chars other : List Ch) (bytes : List ℕ) → SpellsAll hex true chars bytes
    → SpellsAll hex true other bytes → chars ≡ other) → ⊥
blanks_spell_one_list law =
    let one : SpellsAll true true (plain 32 ∷ []) (32 ∷ 32 ∷ []) =
    next (plain 32) [] (32 ∷ 32 ∷ []) [] (blanks 32 (32 ∷ []) refl
    (each_one is_blank true 32 (32 ∷ []) refl (each_one is_blank true 32 [] refl (each_none is_blank true)))) none in
    let space : Spells true true (plain 32) (32 ∷ []) = blanks 32 [] refl (each_one is_blank true 32 [] refl (each_none is_blank true)) in
    let two : SpellsAll true true (plain 32 ∷ plain 32 ∷ []) (32 ∷ 32 ∷ []) =
    next (plain 32) (plain 32 ∷ []) (32 ∷ []) (32 ∷ []) space (next (plain 32) [] (32 ∷ []) [] space none) in
    lengths (law true (plain 32 ∷ []) (plain 32 ∷ plain 32 ∷ []) (32 ∷ 32 ∷ []) one two)
  where
    lengths : plain 32 ∷ [] ≡ plain 32 ∷ plain 32 ∷ [] → ⊥
    lengths e = cc

-- the word `\x41`
number_word : run_end (word_style (line_kind [])) (codes "\\x41") 0 (escaped 65 ∷ []) ≡ Some (0 + 4)
unfolding run_end reach piece_at escape_at hex_at ends_run ends_word line_kind begins_defaults
number_word = refl

-- `\xHH` that is no byte in any run
no_hexadecimal : ((style : _) (text : List ℕ) (start len : ℕ) (chars : List Ch) → run_end style text start chars ≡ Some (start + len)
    → SpellsAll false (is_arguments style) chars (take len (drop start text))) → ⊥
unfolding line_kind begins_defaults
no_hexadecimal law =
    let read : SpellsAll false false (escaped 65 ∷ []) (92 ∷ 120 ∷ 52 ∷ 49 ∷ []) =
    law (word_style (line_kind [])) (codes "\\x41") 0 4 (escaped 65 ∷ []) number_word in
    let other : SpellsAll false false (escaped 120 ∷ plain 52 ∷ plain 49 ∷ []) (92 ∷ 120 ∷ 52 ∷ 49 ∷ []) =
    next (escaped 120) (plain 52 ∷ plain 49 ∷ []) (92 ∷ 120 ∷ []) (52 ∷ 49 ∷ []) (escape 120 refl (λ e. absurd (false_true e)))
    (next (plain 52) (plain 49 ∷ []) (52 ∷ []) (49 ∷ []) (itself 52 (λ e. four e) refl)
    (next (plain 49) [] (49 ∷ []) [] (itself 49 (λ e. one e) refl) none)) in
    lengths (one_spelling false (escaped 65 ∷ []) (escaped 120 ∷ plain 52 ∷ plain 49 ∷ []) (92 ∷ 120 ∷ 52 ∷ 49 ∷ []) read other)
  where
    false_true : false ≡ true → ⊥
    false_true e = cc

    four : 52 ≡ (λ (n : ℕ). n) 92 → ⊥
    four e = omega (arith, e)

    one : 49 ≡ (λ (n : ℕ). n) 92 → ⊥
    one e = omega (arith, e)

    lengths : escaped 65 ∷ [] ≡ escaped 120 ∷ plain 52 ∷ plain 49 ∷ [] → ⊥
    lengths e = cc

-- the word `\ `
blank_word : run_end (word_style (line_kind [])) (codes "\\ ") 0 (escaped 32 ∷ []) ≡ Some (0 + 2)
unfolding run_end reach piece_at escape_at ends_run ends_word line_kind begins_defaults
blank_word = refl

-- a run without blanks
no_blank_in_a_run : ((style : _) (text : List ℕ) (start len : ℕ) (chars : List Ch) → run_end style text start chars ≡ Some (start + len)
    → Each is_blank false (take len (drop start text))) → ⊥
no_blank_in_a_run law =
    let says : Each is_blank false (92 ∷ 32 ∷ []) = law (word_style (line_kind [])) (codes "\\ ") 0 2 (escaped 32 ∷ []) blank_word in
    true_false (each_first is_blank false 32 [] (each_rest is_blank false 92 (32 ∷ []) says))
  where
    true_false : true ≡ false → ⊥
    true_false e = cc

-- ---- Reports

-- a sender with one answer
sent_by : ℕ → SenderReport
sent_by name = record { name = name ∷ []; answers = record { sender = 0; request = asked; verdict = NoMatch } ∷ [] }

-- a report with its senders in reverse
senders_in_reverse : ((files : List (List ℕ)) (report : Report)
    → records_of (line header ++ flat_map (sender_text files) (reverse report.senders))
    ≡ header ∷ flat_map (λ s. map (answer_fields files s.name) s.answers) report.senders) → ⊥
unfolding sent_by
senders_in_reverse law =
    let says = law [] (record { senders = sent_by 97 ∷ sent_by 98 ∷ [] }) in
    let read = report_read [] (record { senders = sent_by 98 ∷ sent_by 97 ∷ [] }) in
    apart (ap second_name (sym read ∙ says))
  where
    first_byte : List (List ℕ) → ℕ
    first_byte ((b ∷ bs) ∷ fields) = b
    first_byte _ = 0

    second_name : List (List (List ℕ)) → ℕ
    second_name (first ∷ row ∷ rows) = first_byte row
    second_name _ = 0

    apart : 98 ≡ (λ (n : ℕ). n) 97 → ⊥
    apart e = omega (arith, e)

-- ---- Existence

first_line : Place
first_line = record { file = 0; line = 1 }

-- a comment with these joins
comment : List ℕ → Line
comment joins = record { first = first_line; text = 35 ∷ []; joins = joins }

-- it may not continue over a join
joined_fault : LeftmostFault (comment (1 ∷ [])) (BadEscape first_line 1)
unfolding comment line_kind begins_defaults rule_at general_rule_at
joined_fault = record {
  before = [];
  flaw = _;
  offset = 0;
  after = (omega arith, (refl, refl, refl));
  is = refl;
}

alone_spelled : spells (comment []) [] ≡ true
unfolding comment line_kind begins_defaults rule_at general_rule_at closes_line spells
alone_spelled = refl

-- the faults of the text without its joins
no_joins : ((line : Line) → ((ts : List Token) × (spells line ts ≡ true))
    ⊎ ((fault : TextFault) × LeftmostFault (record { first = line.first; text = line.text; joins = [] }) fault)) → ⊥
unfolding comment
no_joins law = elim (law (comment (1 ∷ []))) [
  | inl spelled ↦ no_fault (comment (1 ∷ [])) _ spelled.0 joined_fault spelled.1
  | inr faulty ↦ no_fault (comment []) faulty.0 [] faulty.1 alone_spelled
]

-- a line with a fault of its text has no entry
no_entry : (room : Kind → ℕ) (line : Line) (fault : TextFault) → LeftmostFault line fault → (body : Option EntryBody)
    → IsEntryOf room line body → ⊥
no_entry room line fault leftmost None says = no_fault line fault [] leftmost says
no_entry room line fault leftmost (Some body) says = no_fault line fault (says.0 ∷ says.1) leftmost says.2

nothing_first : (t : Token) (ts : List Token) → [] ≡ t ∷ ts → ⊥
nothing_first t ts e = cc

-- a line without tokens has no fault
blank_fine : (room : Kind → ℕ) (line : Line) (fault : ParseFault) → spells line [] ≡ true → IsLineFault room line fault → ⊥
blank_fine room line fault blank (inl faulty) = no_fault line faulty.text [] faulty.leftmost blank
blank_fine room line fault blank (inr faulty) = nothing_first _ _ (one_list line [] (faulty.first ∷ faulty.rest) blank faulty.spelled)

-- the fault of the first line alone
first_line_alone : ((lines : List Line) → ((entries : List Entry) × AreEntries lines entries)
    ⊎ ((fault : ParseFault) × IsFirstFault (take 1 lines) fault)) → ⊥
first_line_alone law = elim (law (comment [] ∷ comment (1 ∷ []) ∷ [])) [
  | inl said ↦ no_entry _ (comment (1 ∷ [])) _ joined_fault said.1.3.0 said.1.3.2
  | inr (fault, inl faulty) ↦ blank_fine _ (comment []) fault alone_spelled faulty
  | inr (fault, inr later) ↦ later.2
]

-- a double quote that no other one closes
quote_line : Line
quote_line = record { first = first_line; text = 34 ∷ []; joins = [] }

quote_fault : LeftmostFault quote_line (BadQuote first_line 1)
unfolding quote_line line_kind begins_defaults rule_at general_rule_at
quote_fault = record {
  before = [];
  flaw = _;
  offset = 0;
  after = (omega arith, inr (refl, refl, refl));
  is = refl;
}

one_quote : lines_of 0 (34 ∷ []) ≡ Ok (quote_line ∷ [])
unfolding quote_line first_line
one_quote = refl

ok_is : {A E : Type 0} {a b : A} → ◌≡◌ {A = Result A E} (Ok a) (Ok b) → a ≡ b
ok_is e = cc

no_content : (entries : List Entry) → HasContent 0 (34 ∷ []) (Ok entries) → ⊥
no_content entries (lines, is, are) =
    let said = subst (λ ls. AreEntries ls entries) (ok_is (sym is ∙ one_quote)) are in
    no_entry _ quote_line _ quote_fault said.0 said.2

-- a load that is never refused
never_refused : ((path text : List ℕ) (supplies : List Supply) → (policy : Policy) × IsLoad path text supplies (Ok policy)) → ⊥
never_refused law =
    let loaded = law [] (34 ∷ []) [] in
    let replaced = load_replaced [] [] (34 ∷ []) loaded.0 loaded.1 in
    no_content replaced.lines replaced.content

-- `User_Alias A = ALL`, in a line of this number
definition : ℕ → Entry
definition line = record {
  place = record { file = 0; line = line };
  body = Aliases kinds.User (record { name = 65 ∷ []; members = member 0 atoms.All ∷ [] } ∷ []);
}

defined_twice : Policy
unfolding definition
defined_twice = record { files = [] ∷ []; entries = definition 1 ∷ definition 2 ∷ []; placed = refl; unfolded = refl }

twice_found : (found : List Finding) → AreFindings defined_twice found → has_error found ≡ true
unfolding definition defined_twice
twice_found found are = ap has_error are.list

-- a failure without findings
without_findings : ((p : Policy) → Passes p ⊎ FailsCheck p []) → ⊥
without_findings law = elim (law defined_twice) [
  | inl passes ↦ true_false (sym (twice_found passes.found passes.are) ∙ passes.none)
  | inr fails ↦ true_false (sym fails.some)
]
  where
    true_false : true ≡ false → ⊥
    true_false e = cc

-- nothing is complete for a sender
unsent : (lists : List (List Answer)) → length lists ≡ 1 → IsPermutation (arrivals_from 0 lists) [] → ⊥
unsent [] one moved = omega (arith, one)
unsent (answers ∷ lists) one moved =
    let same = length_permutation (arrivals_from 0 (answers ∷ lists)) [] moved in
    let long = length-append (map Reply answers) (Close 0 (length answers) ∷ arrivals_from 1 lists) in
    omega (arith, same, long)

unsplit : (before : List Arrival) (arrival : Arrival) (later : List Arrival) → [] ≡ before ++ arrival ∷ later → ⊥
unsplit [] arrival later e = cc
unsplit (a ∷ before) arrival later e = cc

-- refusals of arrivals alone
refusals_alone : ((names : List (List ℕ)) (arrivals : List Arrival)
    → (IsRoster names × ((made : Report) × IsReportOf names arrivals made))
    ⊎ ((why : Refused) × IsFirstRefused (start names) arrivals why)) → ⊥
refusals_alone law = elim (law ([] ∷ []) []) [
  | inl said ↦ unsent said.1.1.lists said.1.1.complete.senders said.1.1.complete.arrived
  | inr refused ↦ unsplit refused.1.before refused.1.arrival refused.1.later refused.1.split
]
