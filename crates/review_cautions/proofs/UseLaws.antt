-- What the marks of unused aliases leave of the lists of a policy are those that decide.
use Rattle.std.proofs.Common.{◌≡◌, ◌==◌, ℕ, Bool, true, false, length, List, [], ◌∷◌, ◌++◌, Option, None, Some, map, refl, sym}
use Rattle.std.proofs.Common.{◌∙◌, ap, arith}
use Rattle.std.specs.Prelude.{not, ◌&&◌, ◌||◌, is_none, is_some, bytes_eq, filter, flat_map, if◌then◌else◌}
use Rattle.std.specs.List.{list_all, list_any, items_where_true}
use Rattle.std.proofs.lemmas.List.Folds.{list_any-append, list_all-append}
use Rattle.std.proofs.lemmas.Bool.{eqb-true}
use Rattle.sudo_base.specs.NameIndices.{index_of}
use Rattle.sudo_base.proofs.IndexLemmas.{index_of-append}
use Rattle.sudo_text.specs.declared.line.Place.{Place}
use Rattle.sudo_grammar.specs.declared.kind.Kind.{Kind}
use Rattle.sudo_grammar.specs.declared.kind.Kind.TheVariants as kinds
use Rattle.sudo_grammar.specs.declared.kind.Member.{Member}
use Rattle.sudo_grammar.specs.declared.policy.Runas.{Runas}
use Rattle.sudo_grammar.specs.declared.policy.CommandSpec.{CommandSpec}
use Rattle.sudo_grammar.specs.declared.policy.Section.{Section}
use Rattle.sudo_grammar.specs.declared.policy.Binding.{Binding}
use Rattle.sudo_grammar.specs.declared.policy.Binding.TheVariants as bindings
use Rattle.sudo_grammar.specs.declared.policy.Definition.{Definition}
use Rattle.sudo_grammar.specs.declared.policy.EntryBody.{EntryBody}
use Rattle.sudo_grammar.specs.declared.policy.EntryBody.TheVariants as entries
use Rattle.sudo_grammar.specs.declared.policy.Entry.{Entry}
use Rattle.sudo_grammar.specs.declared.policy.Policy.{Policy}
use Rattle.sudo_policy.specs.declared.finding.Class.{Class}
use Rattle.sudo_policy.specs.declared.finding.Class.TheVariants as found
use Rattle.sudo_policy.specs.declared.finding.Finding.{Finding}
use Rattle.sudo_policy.specs.Definitions.{AliasDefinition, MemberList, aliases, definitions, redefinitions, lists, lists_of}
use Rattle.sudo_policy.specs.Definitions.{lists_of_body, lists_of_list, section_lists, command_lists, runas_lists}
use Rattle.sudo_policy.specs.Definitions.{option_lists, binding_lists, defines, in_force, names_used}
use Rattle.sudo_policy.specs.Found.{AreFindings, found_by, finding_on, undefined_in}
use Rattle.review_cautions.specs.Uses.{is_among, deciding_in, AreDeciding}
use Rattle.review_cautions.specs.Body.UnusedNames.{is_unused, is_on, has_name, marks_in, marks_of, left_by}
use Rattle.review_cautions.specs.declared.uses.UnusedNames.{UnusedNames}

-- ---- Names

none : (a b : Bool) → a ≡ false → b ≡ false → (a || b) ≡ false
none a b h k = grind arith

-- a finding of another class is on no unused alias
not_on : (kind : Kind) (name : List ℕ) (f : Finding) → is_unused f.class ≡ false → is_on kind name f ≡ false
not_on kind name f h = grind arith

no_finding : (kind : Kind) (name : List ℕ) (class : Class) → is_unused class ≡ false → (ds : List AliasDefinition)
    → list_any (is_on kind name) (map (finding_on class) ds) ≡ false
no_finding kind name class h [] = refl
no_finding kind name class h (d ∷ ds) = none (is_on kind name (finding_on class d)) (list_any (is_on kind name) (map (finding_on class) ds))
    (not_on kind name (finding_on class d) h) (no_finding kind name class h ds)

no_undefined : (kind : Kind) (name : List ℕ) (l : MemberList) (names : List (List ℕ))
    → list_any (is_on kind name) (map (λ n. record { class = found.Undefined; place = l.place; kind = l.kind; name = n }) names) ≡ false
no_undefined kind name l [] = refl
no_undefined kind name l (n ∷ ns) = no_undefined kind name l ns

no_undefined_in : (kind : Kind) (name : List ℕ) (p : Policy) (ls : List MemberList)
    → list_any (is_on kind name) (flat_map (undefined_in p) ls) ≡ false
no_undefined_in kind name p [] = refl
no_undefined_in kind name p (l ∷ ls) =
    list_any-append (is_on kind name) (undefined_in p l) (flat_map (undefined_in p) ls)
    ∙ none (list_any (is_on kind name) (undefined_in p l)) (list_any (is_on kind name) (flat_map (undefined_in p) ls))
    (no_undefined kind name l (filter (λ n. is_none (in_force l.kind p n)) (names_used l.members))) (no_undefined_in kind name p ls)

on_unused : (kind : Kind) (name : List ℕ) (ds : List AliasDefinition)
    → list_any (is_on kind name) (map (finding_on found.Unused) ds) ≡ list_any (defines kind name) ds
on_unused kind name [] = refl
on_unused kind name (d ∷ ds) = ap (λ b. defines kind name d || b) (on_unused kind name ds)

-- behind findings of which none is on an unused alias
behind : (kind : Kind) (name : List ℕ) (fs gs : List Finding) → list_any (is_on kind name) fs ≡ false
    → list_any (is_on kind name) (fs ++ gs) ≡ list_any (is_on kind name) gs
behind kind name fs gs h = list_any-append (is_on kind name) fs gs ∙ ap (λ b. b || list_any (is_on kind name) gs) h

-- the findings are on the unused aliases
pub found_among : (kind : Kind) (name : List ℕ) (p : Policy) (cyclic deep wide unused : List Bool)
    → list_any (is_on kind name) (found_by p cyclic deep wide unused) ≡ is_among (items_where_true unused (aliases p)) kind name
found_among kind name p cyclic deep wide unused =
    let repeats : List Finding = map (finding_on found.Redefined) (redefinitions [] (definitions p)) in
    let missing : List Finding = flat_map (undefined_in p) (lists p) in
    let cycles : List Finding = map (finding_on found.Cycle) (items_where_true cyclic (aliases p)) in
    let deeps : List Finding = map (finding_on found.TooDeep) (items_where_true deep (aliases p)) in
    let wides : List Finding = map (finding_on found.TooWide) (items_where_true wide (aliases p)) in
    let last : List Finding = map (finding_on found.Unused) (items_where_true unused (aliases p)) in
    behind kind name repeats (missing ++ (cycles ++ (deeps ++ (wides ++ last))))
    (no_finding kind name found.Redefined refl (redefinitions [] (definitions p)))
    ∙ behind kind name missing (cycles ++ (deeps ++ (wides ++ last))) (no_undefined_in kind name p (lists p))
    ∙ behind kind name cycles (deeps ++ (wides ++ last)) (no_finding kind name found.Cycle refl (items_where_true cyclic (aliases p)))
    ∙ behind kind name deeps (wides ++ last) (no_finding kind name found.TooDeep refl (items_where_true deep (aliases p)))
    ∙ behind kind name wides last (no_finding kind name found.TooWide refl (items_where_true wide (aliases p)))
    ∙ on_unused kind name (items_where_true unused (aliases p))

-- ---- Lists

-- lists of rules and of bound lines are all left
left_granting : (marks : List Bool) (ls rest : List MemberList) → list_all (λ (l : MemberList). l.granting) ls ≡ true
    → left_by marks (ls ++ rest) ≡ ls ++ left_by marks rest
left_granting marks [] rest h = refl
left_granting marks (l ∷ ls) rest h = by l.granting refl h (left_granting marks ls rest)
  where
    by : (g : Bool) → l.granting ≡ g → (g && list_all (λ (m : MemberList). m.granting) ls) ≡ true
        → (list_all (λ (m : MemberList). m.granting) ls ≡ true → left_by marks (ls ++ rest) ≡ ls ++ left_by marks rest)
        → left_by marks ((l ∷ ls) ++ rest) ≡ (l ∷ ls) ++ left_by marks rest
    by true e k more = grind (arith, e, more k)
    by false e k more = cc

-- where no marks are ahead all lists are left
pub all_left : (ls : List MemberList) → left_by [] ls ≡ ls
all_left [] = refl
all_left (l ∷ ls) = by l.granting refl (all_left ls)
  where
    by : (g : Bool) → l.granting ≡ g → left_by [] ls ≡ ls → left_by [] (l ∷ ls) ≡ l ∷ ls
    by true e more = grind (arith, e, more)
    by false e more = grind (arith, e, more)

pub none_ahead : (marks : List Bool) (ls : List MemberList) → (length marks == 0) ≡ true → left_by marks ls ≡ ls
none_ahead [] ls h = all_left ls
none_ahead (mark ∷ marks) ls h = absurd (omega (arith, eqb-true (length (mark ∷ marks)) 0 h))

-- of the lists of a line's definitions those are left whose mark is false
left_defined : (kind : Kind) (place : Place) (test : List ℕ → Bool) (marks : List Bool) (ds : List Definition) (rest : List MemberList)
    → left_by (map (λ (d : Definition). test d.name) ds ++ marks) (lists_of_list kind place ds ++ rest)
    ≡ lists_of_list kind place (filter (λ (d : Definition). not (test d.name)) ds) ++ left_by marks rest
left_defined kind place test marks [] rest = refl
left_defined kind place test marks (d ∷ ds) rest = by (test d.name) refl (left_defined kind place test marks ds rest)
  where
    by : (b : Bool) → test d.name ≡ b
        → left_by (map (λ (e : Definition). test e.name) ds ++ marks) (lists_of_list kind place ds ++ rest)
        ≡ lists_of_list kind place (filter (λ (e : Definition). not (test e.name)) ds) ++ left_by marks rest
        → left_by (map (λ (e : Definition). test e.name) (d ∷ ds) ++ marks) (lists_of_list kind place (d ∷ ds) ++ rest)
        ≡ lists_of_list kind place (filter (λ (e : Definition). not (test e.name)) (d ∷ ds)) ++ left_by marks rest
    by true e more = grind (arith, e, more)
    by false e more = grind (arith, e, more)

both_granting : (ls ms : List MemberList) → list_all (λ (l : MemberList). l.granting) ls ≡ true
    → list_all (λ (l : MemberList). l.granting) ms ≡ true → list_all (λ (l : MemberList). l.granting) (ls ++ ms) ≡ true
both_granting ls ms h k = list_all-append (λ (l : MemberList). l.granting) ls ms
    ∙ ap (λ b. b && list_all (λ (l : MemberList). l.granting) ms) h ∙ k

all_granting : {X : Type 0} (f : X → List MemberList) → ((x : X) → list_all (λ (l : MemberList). l.granting) (f x) ≡ true)
    → (xs : List X) → list_all (λ (l : MemberList). l.granting) (flat_map f xs) ≡ true
all_granting f h [] = refl
all_granting f h (x ∷ xs) = both_granting (f x) (flat_map f xs) (h x) (all_granting f h xs)

option_granting : (kind : Kind) (place : Place) (o : Option (List Member))
    → list_all (λ (l : MemberList). l.granting) (option_lists kind place o) ≡ true
option_granting kind place None = refl
option_granting kind place (Some ms) = refl

runas_granting : (place : Place) (o : Option Runas) → list_all (λ (l : MemberList). l.granting) (runas_lists place o) ≡ true
runas_granting place None = refl
runas_granting place (Some part) = both_granting (option_lists kinds.Runas place part.users) (option_lists kinds.Runas place part.groups)
    (option_granting kinds.Runas place part.users) (option_granting kinds.Runas place part.groups)

command_granting : (place : Place) (c : CommandSpec) → list_all (λ (l : MemberList). l.granting) (command_lists place c) ≡ true
command_granting place c = both_granting (runas_lists place c.runas) _ (runas_granting place c.runas) refl

section_granting : (place : Place) (s : Section) → list_all (λ (l : MemberList). l.granting) (section_lists place s) ≡ true
section_granting place s = all_granting (command_lists place) (command_granting place) s.commands

binding_granting : (place : Place) (o : Option Binding) → list_all (λ (l : MemberList). l.granting) (binding_lists place o) ≡ true
binding_granting place None = refl
binding_granting place (Some (bindings.Hosts ms)) = refl
binding_granting place (Some (bindings.Users ms)) = refl
binding_granting place (Some (bindings.Commands ms)) = refl
binding_granting place (Some (bindings.Runas ms)) = refl

-- two tests that agree keep the same definitions
same_kept : (p q : List ℕ → Bool) → ((name : List ℕ) → p name ≡ q name) → (ds : List Definition)
    → filter (λ (d : Definition). not (p d.name)) ds ≡ filter (λ (d : Definition). not (q d.name)) ds
same_kept p q h [] = refl
same_kept p q h (d ∷ ds) = grind (arith, h d.name, same_kept p q h ds)

-- what is left of an entry and of what stands behind it
left_of_body : (names : UnusedNames) (unused : List AliasDefinition)
    → ((kind : Kind) (name : List ℕ) → has_name names kind name ≡ is_among unused kind name)
    → (place : Place) (body : EntryBody) (marks : List Bool) (rest : List MemberList)
    → left_by (marks_in names body ++ marks) (lists_of_body place body ++ rest) ≡ deciding_in unused place body ++ left_by marks rest
left_of_body names unused h place (entries.Aliases kind ds) marks rest =
    left_defined kind place (has_name names kind) marks ds rest
    ∙ ap (λ kept. lists_of_list kind place kept ++ left_by marks rest) (same_kept (has_name names kind) (is_among unused kind) (h kind) ds)
left_of_body names unused h place (entries.Defaults binding parameters) marks rest =
    left_granting marks (binding_lists place binding) rest (binding_granting place binding)
left_of_body names unused h place (entries.Rule users sections) marks rest =
    left_granting marks (lists_of_body place (entries.Rule users sections)) rest
    (all_granting (section_lists place) (section_granting place) sections)
left_of_body names unused h place (entries.Include folder hash path) marks rest = refl

-- what is left of entries
left_of : (names : UnusedNames) (unused : List AliasDefinition)
    → ((kind : Kind) (name : List ℕ) → has_name names kind name ≡ is_among unused kind name)
    → (es : List Entry) → left_by (marks_of names es) (flat_map lists_of es)
    ≡ flat_map (λ (e : Entry). deciding_in unused e.place e.body) es
left_of names unused h [] = refl
left_of names unused h (e ∷ es) =
    left_of_body names unused h e.place e.body (marks_of names es) (flat_map lists_of es)
    ∙ ap (λ ls. deciding_in unused e.place e.body ++ ls) (left_of names unused h es)

-- the lists that are left decide
pub are_deciding : (p : Policy) (fs : List Finding) (names : UnusedNames) (ls : List MemberList) → AreFindings p fs
    → ((kind : Kind) (name : List ℕ) → has_name names kind name ≡ list_any (is_on kind name) fs)
    → ls ≡ left_by (marks_of names p.entries) (lists p) → AreDeciding p ls
are_deciding p fs names ls are has is = record {
  unused = are.unused;
  unused_are = are.unused_are;
  lists_are = is ∙ left_of names (items_where_true are.unused (aliases p))
      (λ kind name. has kind name ∙ ap (list_any (is_on kind name)) are.list
      ∙ found_among kind name p are.cyclic are.deep are.wide are.unused) p.entries;
}

-- ---- Adding a name

pub added : (names more : List (List ℕ × ℕ)) (name other : List ℕ) → index_of names name ≡ None → more ≡ names ++ (name, 0) ∷ []
    → is_some (index_of more other) ≡ (is_some (index_of names other) || bytes_eq other name)
added names more name other h is =
    ap (λ ns. is_some (index_of ns other)) is ∙ ap is_some (index_of-append names name 0 other h)
    ∙ by (bytes_eq other name) (index_of names other)
  where
    by : (b : Bool) (o : Option ℕ) → is_some (if b then Some 0 else o) ≡ (is_some o || b)
    by true None = refl
    by true (Some n) = refl
    by false None = refl
    by false (Some n) = refl

-- ---- Policies without unused aliases

-- findings of which none says that an alias is unused name none
none_on : (kind : Kind) (name : List ℕ) (fs : List Finding) → list_any (λ (f : Finding). is_unused f.class) fs ≡ false
    → list_any (is_on kind name) fs ≡ false
none_on kind name [] h = refl
none_on kind name (f ∷ fs) h = by (is_unused f.class) refl h (none_on kind name fs)
  where
    by : (b : Bool) → is_unused f.class ≡ b → (b || list_any (λ (g : Finding). is_unused g.class) fs) ≡ false
        → (list_any (λ (g : Finding). is_unused g.class) fs ≡ false → list_any (is_on kind name) fs ≡ false)
        → (is_on kind name f || list_any (is_on kind name) fs) ≡ false
    by true e k rest = cc
    by false e k rest = none (is_on kind name f) (list_any (is_on kind name) fs) (not_on kind name f e) (rest k)

-- where no name is left out all definitions are kept
all_kept : (q : List ℕ → Bool) → ((name : List ℕ) → q name ≡ false) → (ds : List Definition)
    → ds ≡ filter (λ (d : Definition). not (q d.name)) ds
all_kept q h [] = refl
all_kept q h (d ∷ ds) = grind (arith, h d.name, all_kept q h ds)

-- all lists of an entry decide
all_in : (unused : List AliasDefinition) → ((kind : Kind) (name : List ℕ) → is_among unused kind name ≡ false)
    → (place : Place) (body : EntryBody) → lists_of_body place body ≡ deciding_in unused place body
all_in unused h place (entries.Aliases kind ds) = ap (lists_of_list kind place) (all_kept (is_among unused kind) (h kind) ds)
all_in unused h place (entries.Defaults binding parameters) = refl
all_in unused h place (entries.Rule users sections) = refl
all_in unused h place (entries.Include folder hash path) = refl

-- and of entries
all_of : (unused : List AliasDefinition) → ((kind : Kind) (name : List ℕ) → is_among unused kind name ≡ false)
    → (es : List Entry) → flat_map lists_of es ≡ flat_map (λ (e : Entry). deciding_in unused e.place e.body) es
all_of unused h [] = refl
all_of unused h (e ∷ es) =
    ap (λ ls. ls ++ flat_map lists_of es) (all_in unused h e.place e.body)
    ∙ ap (λ ls. deciding_in unused e.place e.body ++ ls) (all_of unused h es)

-- where no finding says that an alias is unused all lists decide
pub all_decide : (p : Policy) (fs : List Finding) (ls : List MemberList) → AreFindings p fs
    → list_any (λ (f : Finding). is_unused f.class) fs ≡ false → ls ≡ lists p → AreDeciding p ls
all_decide p fs ls are none is = record {
  unused = are.unused;
  unused_are = are.unused_are;
  lists_are = is ∙ all_of (items_where_true are.unused (aliases p))
      (λ kind name. sym (found_among kind name p are.cyclic are.deep are.wide are.unused)
      ∙ sym (ap (list_any (is_on kind name)) are.list) ∙ none_on kind name fs none) p.entries;
}
