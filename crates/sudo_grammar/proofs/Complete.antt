-- Each written form of an entry is read as that entry.
use Rattle.std.proofs.Common.{inl, inr, cond, Bool, lt-ltb, append-nil, ◌≡◌, ℕ, zero, suc, ◌+◌, ◌≤◌, ◌<◌, List, []}
use Rattle.std.proofs.Common.{◌∷◌, ◌++◌, length, refl, ap, sym, ◌∙◌, subst, append_assoc, arith, add-zero}
use Rattle.std.proofs.Common.{length-append, Option, None, Some, Result, Ok, true, false}
use Rattle.sudo_text.specs.declared.token.Mark.{Mark}
use Rattle.sudo_text.specs.declared.token.Mark.TheVariants as marks
use Rattle.sudo_text.specs.declared.token.Token.{Token}
use Rattle.sudo_text.specs.declared.token.TokenKind.{TokenKind}
use Rattle.sudo_text.specs.declared.token.TokenKind.TheVariants as tokens
use Rattle.sudo_grammar.specs.declared.kind.Kind.{Kind}
use Rattle.sudo_grammar.specs.declared.kind.Atom.{Atom}
use Rattle.sudo_grammar.specs.declared.kind.Member.{Member}
use Rattle.sudo_grammar.specs.declared.policy.Definition.{Definition}
use Rattle.sudo_grammar.specs.declared.policy.EntryBody.{EntryBody}
use Rattle.sudo_grammar.specs.declared.policy.EntryBody.TheVariants as entries
use Rattle.sudo_grammar.specs.Words.{tag_of, tag_in, plain_word, is_name}
use Rattle.std.specs.Prelude.{codes}
use Rattle.std.specs.Str.{bytes_eq}
use Rattle.sudo_grammar.specs.declared.kind.Kind.TheVariants as kinds
use Rattle.sudo_grammar.specs.declared.kind.Atom.TheVariants as atoms
use Rattle.sudo_grammar.specs.declared.policy.Runas.{Runas}
use Rattle.sudo_grammar.specs.declared.tag.Tag.{Tag}
use Rattle.sudo_grammar.specs.declared.policy.CommandSpec.{CommandSpec}
use Rattle.sudo_grammar.specs.declared.policy.Section.{Section}
use Rattle.sudo_text.specs.declared.token.Ch.{Ch}
use Rattle.sudo_grammar.specs.declared.fault.Refusal.{Refusal}
use Rattle.sudo_grammar.specs.Members.{plain_atom, other_atom, atom_of}
use Rattle.sudo_grammar.specs.Openings.{is_word, operator_of, is_direct}
use Rattle.sudo_grammar.specs.declared.policy.Binding.{Binding}
use Rattle.sudo_grammar.specs.declared.policy.Binding.TheVariants as bindings
use Rattle.sudo_grammar.specs.declared.policy.Parameter.{Parameter}
use Rattle.sudo_grammar.specs.declared.policy.Parameter.TheVariants as parameters
use Rattle.sudo_grammar.specs.declared.policy.Operator.{Operator}
use Rattle.sudo_grammar.specs.Forms.{binding_mark, binding, the_word, parameter, more_parameters, parameter_list}
use Rattle.sudo_grammar.specs.Forms.{defaults, rule, include, groups, runas, optional, spec, more_specs, specs}
use Rattle.sudo_grammar.specs.Forms.{more_sections, sections, last_as_tag, tag, tags, ◌▸◌, one, mark, bangs, member}
use Rattle.sudo_grammar.specs.Forms.{item, more_items, list, name, definition, more_definitions, definition_list}
use Rattle.sudo_grammar.specs.Forms.{keyword_form, Writes}
use Rattle.sudo_grammar.specs.Body.States.{Binds, DefaultsStart, AtParameter, AfterSwitch, AtValue, AfterValue}
use Rattle.sudo_grammar.specs.Body.States.{at_parameter, at_value, at_operator, after_switch, after_value, at_binding}
use Rattle.sudo_grammar.specs.Body.States.{after_defaults, bound_to, Included, Users, Hosts, RunasUsers, RunasGroups}
use Rattle.sudo_grammar.specs.Body.States.{RunasStart, GroupsStart, after_runas, at_runas, at_groups, after_item}
use Rattle.sudo_grammar.specs.Body.States.{Granting, Command, AfterCommand, at_command, command_state, after_command}
use Rattle.sudo_grammar.specs.Body.States.{after_colon, Purpose, Defines, kind_for, State, Start, AliasName}
use Rattle.sudo_grammar.specs.Body.States.{AfterName, Item, AfterItem, at_item, member_state, after_member}
use Rattle.sudo_grammar.specs.Body.States.{at_alias_name, at_start, step}
use Rattle.sudo_grammar.specs.Faults.{Room, HasRoom}
use Rattle.sudo_grammar.specs.Body.Reading.{reading}

-- a token that stands for an atom is no exclamation mark
pub at_item-member : (p : Purpose) (n : ℕ) (d : List Member) (t : Token) (kind : TokenKind) (a : Atom)
    → atom_of (kind_for p) kind ≡ Ok a → at_item p n d t kind ≡ after_member p n d t
at_item-member p n d t (tokens.Mark marks.Bang) a h = cc
at_item-member p n d t _ a h = refl

-- a token that stands for an atom is taken as that member
pub at_item-takes : (p : Purpose) (n : ℕ) (d : List Member) (t : Token) (a : Atom)
    → atom_of (kind_for p) t.kind ≡ Ok a
    → at_item p n d t t.kind ≡ Some (AfterItem p (d ++ record { bangs = n; token = t; atom = a } ∷ []))
at_item-takes p n d t a h = at_item-member p n d t t.kind a h ∙ ap (member_state p n d t) h

-- one token is read by one step
pub reading-step : (room : Room) (state next : State) (t : Token) (ts : List Token) → step room state t ≡ Some next
    → reading room state (t ∷ ts) ≡ reading room next ts
reading-step room state next t ts h = rw (h, reading) refl

-- a mark that is no exclamation mark stands for no member
mark-none : (p : Purpose) (n : ℕ) (d : List Member) (t : Token) (m : Mark) → t.kind ≡ tokens.Mark m
    → after_member p n d t ≡ None
mark-none p n d t m is = ap (λ k. member_state p n d t (atom_of (kind_for p) k)) is

-- what stands for an atom leads on from the start of an item
member-first : (p : Purpose) (m : Member) (t : Token) (ts rest : List Token) → member (kind_for p) m (t ∷ ts) rest
    → (next : State) × (at_item p 0 [] t t.kind ≡ Some next)
member-first p m t ts rest h = (AfterItem p (record { bangs = 0; token = t; atom = m.atom } ∷ []), at_item-takes p 0 [] t m.atom h.0.1)

-- the name of a tag is an alias among commands
tag-alias : (kind : TokenKind) (x : Tag) → tag_of kind ≡ Some x → (a : Atom) × (atom_of kinds.Cmnd kind ≡ Ok a)
tag-alias kind x h = go (plain_word kind) refl h
  where
    go : (o : Option (List ℕ)) → plain_word kind ≡ o
        → tag_in (elim o as (λ _. Option (List ℕ)) [ Some w ↦ cond (is_name w) (Some w) None | None ↦ None ]) ≡ Some x
        → (a : Atom) × (atom_of kinds.Cmnd kind ≡ Ok a)
    go None is h = cc
    go (Some w) is h = named (bytes_eq w (codes "ALL")) (is_name w) refl refl h
      where
        spelled : atom_of kinds.Cmnd kind ≡ plain_atom kinds.Cmnd kind w
        spelled = ap (λ o. elim o as (λ _. Result Atom Refusal) [
          | Some w ↦ plain_atom kinds.Cmnd kind w
          | None ↦
              other_atom kinds.Cmnd kind
        ]) is

        named : (all name : Bool) → bytes_eq w (codes "ALL") ≡ all → is_name w ≡ name
            → tag_in (cond name (Some w) None) ≡ Some x → (a : Atom) × (atom_of kinds.Cmnd kind ≡ Ok a)
        named all false e f h = cc
        named true true e f h = (
          atoms.All,
          spelled
              ∙ ap (λ b. cond b (Ok atoms.All) (cond (is_name w) (Ok (atoms.Alias w)) (other_atom kinds.Cmnd kind))) e,
        )
        named false true e f h = (
          atoms.Alias w,
          spelled
              ∙ ap (λ b. cond b (Ok atoms.All) (cond (is_name w) (Ok (atoms.Alias w)) (other_atom kinds.Cmnd kind))) e
              ∙ ap (λ b. cond b (Ok (atoms.Alias w)) (other_atom kinds.Cmnd kind)) f,
        )

-- a command is taken as that member
pub at_command-member : (g : Granting) (r : Option Runas) (d : List Tag) (n : ℕ) (t : Token) (kind : TokenKind) (a : Atom)
    → atom_of kinds.Cmnd kind ≡ Ok a → at_command g r d n t kind ≡ command_state g r d n t (atom_of kinds.Cmnd t.kind)
at_command-member g r d n t (tokens.Mark marks.Bang) a h = cc
at_command-member g r d n t (tokens.Mark marks.LeftParen) a h = cc
at_command-member g r d n t _ a h = refl

pub at_command-takes : (g : Granting) (r : Option Runas) (d : List Tag) (n : ℕ) (t : Token) (a : Atom)
    → atom_of kinds.Cmnd t.kind ≡ Ok a
    → at_command g r d n t t.kind ≡ Some
    (AfterCommand g (record { runas = r; tags = d; command = record { bangs = n; token = t; atom = a } }))
at_command-takes g r d n t a h = at_command-member g r d n t t.kind a h ∙ ap (command_state g r d n t) h

-- the state after a command and further ones
abbrev last_place : Granting → CommandSpec → List CommandSpec → State
last_place g c [] = AfterCommand g c
last_place g c (x ∷ xs) = last_place (record g { commands = g.commands ++ c ∷ [] }) x xs

-- a word is taken as a parameter
pub word-parameter : (b : Option Binding) (d : List Parameter) (n : ℕ) (t : Token) (k : TokenKind) → is_word k ≡ true
    → at_parameter b d n t k ≡ Some (AfterSwitch b d n t)
word-parameter b d n t (tokens.Word quoted chars) h = refl
word-parameter b d n t _ h = cc

pub word-value : (b : Option Binding) (d : List Parameter) (name : Token) (o : Operator) (t : Token) (k : TokenKind) → is_word k ≡ true
    → at_value b d name o t k ≡ Some (AfterValue b (d ++ parameters.Assign name o t ∷ []))
word-value b d name o t (tokens.Word quoted chars) h = refl
word-value b d name o t _ h = cc

pub operator-value : (b : Option Binding) (d : List Parameter) (name : Token) (o : Operator) (k : TokenKind) → operator_of k ≡ Some o
    → after_switch b d 0 name k ≡ Some (AtValue b d name o)
operator-value b d name o (tokens.Mark marks.Comma) h = cc
operator-value b d name o k h = ap (at_operator b d 0 name) h

-- the state after a parameter
abbrev parameter_state : Option Binding → List Parameter → Parameter → State
parameter_state b d (parameters.Switch n name) = AfterSwitch b d n name
parameter_state b d (parameters.Assign name o v) = AfterValue b (d ++ parameters.Assign name o v ∷ [])

head-same : {t u : Token} {ts us : List Token} → t ∷ ts ≡ u ∷ us → t ≡ u
head-same h = cc

-- a comma is no parameter
pub binds-first : (k : Kind) (ms : List Member) (t : Token) (next : State) (kind : TokenKind)
    → at_parameter (Some (bound_to k ms)) [] 0 t kind ≡ Some next → after_item (Binds k) ms t kind ≡ Some next
binds-first k ms t next (tokens.Mark marks.Comma) h = cc
binds-first k ms t next _ h = h

module _ (room : Room) where
  bangs-read : (p : Purpose) (d : List Member) (n b : ℕ) (ts rest : List Token) → bangs b ts rest
      → reading room (Item p n d) ts ≡ reading room (Item p (n + b) d) rest
  bangs-read p d n zero ts rest e = rw (add-zero, e)
  bangs-read p d n (suc b) [] rest h = absurd h.1.0
  bangs-read p d n (suc b) (t ∷ ts) rest h =
      let step_on : n + suc b ≡ suc n + b = omega arith in
      rw (h.1.0.0, h.1.0.1, step_on) (bangs-read p d (suc n) b h.0 rest h.1.1)

  member-read : (p : Purpose) (d : List Member) (m : Member) (ts rest : List Token) → member (kind_for p) m ts rest
      → reading room (Item p m.bangs d) ts ≡ reading room (AfterItem p (d ++ m ∷ [])) rest
  member-read p d m [] rest h = absurd h
  member-read p d m (t ∷ ts) rest h =
      reading-step room (Item p m.bangs d) _ t ts (at_item-takes p m.bangs d t m.atom h.0.1) ∙ rw (h.1, h.0.0) refl

  item-read : (p : Purpose) (d : List Member) (m : Member) (ts rest : List Token) → item (kind_for p) m ts rest
      → reading room (Item p 0 d) ts ≡ reading room (AfterItem p (d ++ m ∷ [])) rest
  item-read p d m ts rest h =
      let counted : 0 + m.bangs ≡ m.bangs = omega arith in
      bangs-read p d 0 m.bangs ts h.0 h.1.0 ∙ rw counted (member-read p d m h.0 rest h.1.1)

  more_items-read : (p : Purpose) (d ms : List Member) (ts rest : List Token) → more_items (kind_for p) ms ts rest
      → reading room (AfterItem p d) ts ≡ reading room (AfterItem p (d ++ ms)) rest
  more_items-read p d [] ts rest h = rw (append-nil, h)
  more_items-read p d (m ∷ ms) [] rest h = absurd h.1.0
  more_items-read p d (m ∷ ms) (t ∷ ts) rest h =
      let taken : t.kind ≡ tokens.Mark marks.Comma = h.1.0.0 in
      let comma : reading room (AfterItem p d) (t ∷ ts) ≡ reading room (Item p 0 d) ts = rw taken refl in
      comma ∙ rw h.1.0.1 (item-read p d m h.0 h.1.1.0 h.1.1.1.0)
      ∙ more_items-read p (d ++ m ∷ []) ms h.1.1.0 rest h.1.1.1.1 ∙ rw append_assoc refl

  list-read : (p : Purpose) (ms : List Member) (ts rest : List Token) → list (kind_for p) ms ts rest
      → reading room (Item p 0 []) ts ≡ reading room (AfterItem p ms) rest
  list-read p [] ts rest h = absurd h
  list-read p (m ∷ ms) ts rest h =
      item-read p [] m ts h.0 h.1.0 ∙ more_items-read p (m ∷ []) ms h.0 rest h.1.1

  name-read : (k : Kind) (d : List Definition) (w : List ℕ) (ts rest : List Token) → length d < room k → name w ts rest
      → reading room (AliasName k d) ts ≡ reading room (AfterName k d w) rest
  name-read k d w [] rest fits h = absurd h
  name-read k d w (t ∷ ts) rest fits h =
      reading-step room (AliasName k d) (AfterName k d w) t ts
      (ap (at_alias_name room k d) h.0 ∙ rw (lt-ltb (length d) (room k) fits) refl) ∙ rw h.1 refl

  equals-read : (k : Kind) (d : List Definition) (w : List ℕ) (ts rest : List Token) → mark marks.Equals ts rest
      → reading room (AfterName k d w) ts ≡ reading room (Item (Defines k d w) 0 []) rest
  equals-read k d w [] rest h = absurd h
  equals-read k d w (t ∷ ts) rest h = rw (h.0, h.1) refl

  pub colon-read : (k : Kind) (d : List Definition) (w : List ℕ) (ms : List Member) (ts rest : List Token)
      → mark marks.Colon ts rest
      → reading room (AfterItem (Defines k d w) ms) ts
      ≡ reading room (AliasName k (d ++ record { name = w; members = ms } ∷ [])) rest
  colon-read k d w ms [] rest h = absurd h
  colon-read k d w ms (t ∷ ts) rest h = rw (h.0, h.1) refl

  pub definition-read : (k : Kind) (d : List Definition) (x : Definition) (ts rest : List Token) → length d < room k
      → definition k x ts rest
      → reading room (AliasName k d) ts ≡ reading room (AfterItem (Defines k d x.name) x.members) rest
  definition-read k d x ts rest fits h =
      name-read k d x.name ts h.0 fits h.1.0 ∙ equals-read k d x.name h.0 h.1.1.0 h.1.1.1.0
      ∙ list-read (Defines k d x.name) x.members h.1.1.0 rest h.1.1.1.1

  more_definitions-read : (k : Kind) (d : List Definition) (x : Definition) (xs : List Definition) (ts : List Token)
      → suc (length d + length xs) ≤ room k → more_definitions k xs ts []
      → reading room (AfterItem (Defines k d x.name) x.members) ts ≡ Ok (entries.Aliases k (d ++ x ∷ xs))
  more_definitions-read k d x [] ts fits h = rw h refl
  more_definitions-read k d x (y ∷ ys) ts fits h =
      let shorter : length (d ++ x ∷ []) ≡ suc (length d) = simp length-append (omega arith) in
      colon-read k d x.name x.members ts h.0 h.1.0
      ∙ definition-read k (d ++ x ∷ []) y h.0 h.1.1.0 (omega arith) h.1.1.1.0
      ∙ more_definitions-read k (d ++ x ∷ []) y ys h.1.1.0 (omega arith) h.1.1.1.1
      ∙ rw append_assoc refl

  definitions-read : (k : Kind) (xs : List Definition) (ts : List Token) → length xs ≤ room k → definition_list k xs ts []
      → reading room (AliasName k []) ts ≡ Ok (entries.Aliases k xs)
  definitions-read k [] ts fits h = absurd h
  definitions-read k (x ∷ xs) ts fits h =
      definition-read k [] x ts h.0 (omega arith) h.1.0 ∙ more_definitions-read k [] x xs h.0 (omega arith) h.1.1

  pub keyword-read : (k : Kind) (ts rest : List Token) → keyword_form k ts rest
      → reading room Start ts ≡ reading room (AliasName k []) rest
  keyword-read k [] rest h = absurd h
  keyword-read k (t ∷ ts) rest h =
      reading-step room Start (AliasName k []) t ts (ap (λ o. at_start o t) h.0) ∙ rw h.1 refl

  -- the first token of an item leads on
  item-first : (p : Purpose) (m : Member) (t : Token) (ts rest : List Token) (b : ℕ) (middle : List Token)
      → bangs b (t ∷ ts) middle → member (kind_for p) m middle rest → (next : State) × (at_item p 0 [] t t.kind ≡ Some next)
  item-first p m t ts rest zero middle none stands =
      member-first p m t ts rest (subst (λ x. member (kind_for p) m x rest) (sym none) stands)
  item-first p m t ts rest (suc b) middle (rest', (bang, more)) stands = (Item p 1 [], rw bang.0 refl)

  -- a state whose steps are those of a list's first item leads to the end of the list
  enter : (p : Purpose) (q : State) (ms : List Member) (t : Token) (ts rest : List Token)
      → ((next : State) → at_item p 0 [] t t.kind ≡ Some next → step room q t ≡ Some next)
      → list (kind_for p) ms (t ∷ ts) rest → reading room q (t ∷ ts) ≡ reading room (AfterItem p ms) rest
  enter p q [] t ts rest same h = absurd h
  enter p q (m ∷ ms) t ts rest same h = go (item-first p m t ts h.0 m.bangs h.1.0.0 h.1.0.1.0 h.1.0.1.1)
    where
      go : (next : State) × (at_item p 0 [] t t.kind ≡ Some next) → reading room q (t ∷ ts) ≡ reading room (AfterItem p (m ∷ ms)) rest
      go (next, e) = reading-step room q next t ts (same next e)
          ∙ sym (reading-step room (Item p 0 []) next t ts e) ∙ list-read p (m ∷ ms) (t ∷ ts) rest h

  command_bangs-read : (g : Granting) (r : Option Runas) (d : List Tag) (n b : ℕ) (ts rest : List Token) → bangs b ts rest
      → reading room (Command g r d n) ts ≡ reading room (Command g r d (n + b)) rest
  command_bangs-read g r d n zero ts rest e = rw (add-zero, e)
  command_bangs-read g r d n (suc b) [] rest h = absurd h.1.0
  command_bangs-read g r d n (suc b) (t ∷ ts) rest h =
      let step_on : n + suc b ≡ suc n + b = omega arith in
      rw (h.1.0.0, h.1.0.1, step_on) (command_bangs-read g r d (suc n) b h.0 rest h.1.1)

  command-read : (g : Granting) (r : Option Runas) (d : List Tag) (m : Member) (ts rest : List Token) → item kinds.Cmnd m ts rest
      → reading room (Command g r d 0) ts ≡ reading room (AfterCommand g (record { runas = r; tags = d; command = m })) rest
  command-read g r d m ts rest h =
      let counted : 0 + m.bangs ≡ m.bangs = omega arith in
      command_bangs-read g r d 0 m.bangs ts h.0 h.1.0 ∙ rw counted (stands h.0 h.1.1)
    where
      stands : (middle : List Token) → member kinds.Cmnd m middle rest
          → reading room (Command g r d m.bangs) middle ≡ reading room (AfterCommand g (record { runas = r; tags = d; command = m })) rest
      stands [] h = absurd h
      stands (t ∷ ts) h =
          reading-step room (Command g r d m.bangs) _ t ts (at_command-takes g r d m.bangs t m.atom h.0.1) ∙ rw (h.1, h.0.0) refl

  tag-read : (g : Granting) (r : Option Runas) (d : List Tag) (x : Tag) (ts rest : List Token) → tag x ts rest
      → reading room (Command g r d 0) ts ≡ reading room (Command g r (d ++ x ∷ []) 0) rest
  tag-read g r d x [] rest h = absurd h.1.0
  tag-read g r d x (t ∷ ts) rest h = go (tag-alias t.kind x h.1.0.0) (subst (λ y. mark marks.Colon y rest) (sym h.1.0.1) h.1.1)
    where
      go : (a : Atom) × (atom_of kinds.Cmnd t.kind ≡ Ok a) → mark marks.Colon ts rest
          → reading room (Command g r d 0) (t ∷ ts) ≡ reading room (Command g r (d ++ x ∷ []) 0) rest
      go (a, e) colon = reading-step room (Command g r d 0) _ t ts (at_command-takes g r d 0 t a e) ∙ colon_on ts colon
        where
          colon_on : (ts : List Token) → mark marks.Colon ts rest
              → reading room (AfterCommand g (record { runas = r; tags = d; command = record { bangs = 0; token = t; atom = a } })) ts
              ≡ reading room (Command g r (d ++ x ∷ []) 0) rest
          colon_on [] h' = absurd h'
          colon_on (c ∷ ts) h' = reading-step room
              (AfterCommand g (record { runas = r; tags = d; command = record { bangs = 0; token = t; atom = a } }))
              (Command g r (d ++ x ∷ []) 0) c ts
              (ap (after_command g (record {
                runas = r;
                tags = d;
                command = record {
                  bangs = 0;
                  token = t;
                  atom = a;
                };
              })) h'.0 ∙ ap (λ o. Some
              (after_colon g (record { runas = r; tags = d; command = record { bangs = 0; token = t; atom = a } }) o)) h.1.0.0)
              ∙ rw h'.1 refl

  tags-read : (g : Granting) (r : Option Runas) (d xs : List Tag) (ts rest : List Token) → tags xs ts rest
      → reading room (Command g r d 0) ts ≡ reading room (Command g r (d ++ xs) 0) rest
  tags-read g r d [] ts rest h = rw (append-nil, h)
  tags-read g r d (x ∷ xs) ts rest h =
      tag-read g r d x ts h.0 h.1.0 ∙ tags-read g r (d ++ x ∷ []) xs h.0 rest h.1.1 ∙ rw append_assoc refl

  -- one mark
  mark-read : (q next : State) (m : Mark) (ts rest : List Token)
      → ((t : Token) → t.kind ≡ tokens.Mark m → step room q t ≡ Some next) → mark m ts rest
      → reading room q ts ≡ reading room next rest
  mark-read q next m [] rest s h = absurd h
  mark-read q next m (t ∷ ts) rest s h = reading-step room q next t ts (s t h.0) ∙ rw h.1 refl

  -- no list is empty
  item-some : (k : Kind) (m : Member) (rest : List Token) (b : ℕ) (middle : List Token) → bangs b [] middle → member k m middle rest → ⊥
  item-some k m rest zero middle none stands = subst (λ x. member k m x rest) (sym none) stands
  item-some k m rest (suc b) middle signs stands = signs.1.0

  enter_list : (p : Purpose) (q : State) (ms : List Member) (ts rest : List Token)
      → ((t : Token) (next : State) → at_item p 0 [] t t.kind ≡ Some next → step room q t ≡ Some next)
      → list (kind_for p) ms ts rest → reading room q ts ≡ reading room (AfterItem p ms) rest
  enter_list p q [] ts rest same h = absurd h
  enter_list p q (m ∷ ms) [] rest same h = absurd (item-some (kind_for p) m h.0 m.bangs h.1.0.0 h.1.0.1.0 h.1.0.1.1)
  enter_list p q (m ∷ ms) (t ∷ ts) rest same h = enter p q (m ∷ ms) t ts rest (same t) h

  pub runas-first : (g : Granting) (t : Token) (next : State) (k : TokenKind) → t.kind ≡ k
      → at_item (RunasUsers g) 0 [] t k ≡ Some next → at_runas g t k ≡ Some next
  runas-first g t next (tokens.Mark marks.RightParen) is h =
      let none : after_member (RunasUsers g) 0 [] t ≡ None = mark-none (RunasUsers g) 0 [] t marks.RightParen is in cc
  runas-first g t next (tokens.Mark marks.Colon) is h =
      let none : after_member (RunasUsers g) 0 [] t ≡ None = mark-none (RunasUsers g) 0 [] t marks.Colon is in cc
  runas-first g t next _ is h = h

  pub groups-first : (g : Granting) (us : Option (List Member)) (t : Token) (next : State) (k : TokenKind) → t.kind ≡ k
      → at_item (RunasGroups g us) 0 [] t k ≡ Some next → at_groups g us t k ≡ Some next
  groups-first g us t next (tokens.Mark marks.RightParen) is h =
      let none : after_member (RunasGroups g us) 0 [] t ≡ None = mark-none (RunasGroups g us) 0 [] t marks.RightParen is in cc
  groups-first g us t next _ is h = h

  pub hosts-first : (us : List Member) (t : Token) (next : State) (k : TokenKind) → t.kind ≡ k
      → at_item (Hosts us []) 0 [] t k ≡ Some next → after_item Users us t k ≡ Some next
  hosts-first us t next (tokens.Mark marks.Comma) is h =
      let none : after_member (Hosts us []) 0 [] t ≡ None = mark-none (Hosts us []) 0 [] t marks.Comma is in cc
  hosts-first us t next _ is h = h

  -- the state after the users of a runas
  abbrev users_state : Granting → Option (List Member) → State
  users_state g None = RunasStart g
  users_state g (Some us) = AfterItem (RunasUsers g) us

  users-read : (g : Granting) (us : Option (List Member)) (ts rest : List Token) → optional (list kinds.Runas) us ts rest
      → reading room (RunasStart g) ts ≡ reading room (users_state g us) rest
  users-read g None ts rest h = ap (reading room (RunasStart g)) h
  users-read g (Some us) ts rest h =
      enter_list (RunasUsers g) (RunasStart g) us ts rest (λ t next h. runas-first g t next t.kind refl h) h

  users-close : (g : Granting) (us : Option (List Member)) (t : Token) → t.kind ≡ tokens.Mark marks.RightParen
      → step room (users_state g us) t ≡ Some (after_runas g us None)
  users-close g None t is = ap (at_runas g t) is
  users-close g (Some us) t is = ap (after_item (RunasUsers g) us t) is

  users-colon : (g : Granting) (us : Option (List Member)) (t : Token) → t.kind ≡ tokens.Mark marks.Colon
      → step room (users_state g us) t ≡ Some (GroupsStart g us)
  users-colon g None t is = ap (at_runas g t) is
  users-colon g (Some us) t is = ap (after_item (RunasUsers g) us t) is

  -- the groups, and the mark that closes
  groups-read : (g : Granting) (us gs : Option (List Member)) (ts middle rest : List Token) → groups gs ts middle
      → mark marks.RightParen middle rest → reading room (users_state g us) ts ≡ reading room (after_runas g us gs) rest
  groups-read g us None ts middle rest (inl none) close =
      ap (reading room (users_state g us)) none
      ∙ mark-read (users_state g us) (after_runas g us None) marks.RightParen middle rest (users-close g us) close
  groups-read g us None ts middle rest (inr colon) close =
      mark-read (users_state g us) (GroupsStart g us) marks.Colon ts middle (users-colon g us) colon
      ∙ mark-read (GroupsStart g us) (after_runas g us None) marks.RightParen middle rest (λ t is. ap (at_groups g us t) is) close
  groups-read g us (Some gs) ts middle rest (after, (colon, listed)) close =
      mark-read (users_state g us) (GroupsStart g us) marks.Colon ts after (users-colon g us) colon
      ∙ enter_list (RunasGroups g us) (GroupsStart g us) gs after middle (λ t next h. groups-first g us t next t.kind refl h) listed
      ∙ mark-read (AfterItem (RunasGroups g us) gs) (after_runas g us (Some gs)) marks.RightParen middle rest
      (λ t is. ap (after_item (RunasGroups g us) gs t) is) close

  runas-read : (g : Granting) (r : Option Runas) (ts rest : List Token) → optional runas r ts rest
      → reading room (Command g None [] 0) ts ≡ reading room (Command g r [] 0) rest
  runas-read g None ts rest h = ap (reading room (Command g None [] 0)) h
  runas-read g (Some r) ts rest (a, (opens, (b, (users, (c, (grouped, close)))))) =
      mark-read (Command g None [] 0) (RunasStart g) marks.LeftParen ts a (λ t is. ap (at_command g None [] 0 t) is) opens
      ∙ users-read g r.users a b users ∙ groups-read g r.users r.groups b c rest grouped close

  spec-read : (g : Granting) (s : CommandSpec) (ts rest : List Token) → spec s ts rest
      → reading room (Command g None [] 0) ts ≡ reading room (AfterCommand g s) rest
  spec-read g s ts rest (after, (r, (middle, (tagged, command)))) =
      runas-read g s.runas ts after r ∙ tags-read g s.runas [] s.tags after middle tagged
      ∙ command-read g s.runas s.tags s.command middle rest command

  more_specs-read : (g : Granting) (c : CommandSpec) (cs : List CommandSpec) (ts rest : List Token) → more_specs cs ts rest
      → reading room (AfterCommand g c) ts ≡ reading room (last_place g c cs) rest
  more_specs-read g c [] ts rest h = ap (reading room (AfterCommand g c)) h
  more_specs-read g c (x ∷ xs) ts rest (after, (comma, (middle, (one_spec, further)))) =
      mark-read (AfterCommand g c) (Command (record g { commands = g.commands ++ c ∷ [] }) None [] 0) marks.Comma ts after
      (λ t is. ap (after_command g c) is) comma
      ∙ spec-read (record g { commands = g.commands ++ c ∷ [] }) x after middle one_spec
      ∙ more_specs-read (record g { commands = g.commands ++ c ∷ [] }) x xs middle rest further

  -- the section that ends there
  last-ends : (g : Granting) (c : CommandSpec) (cs : List CommandSpec)
      → reading room (last_place g c cs) []
      ≡ Ok (entries.Rule g.users (g.sections ++ record { hosts = g.hosts; commands = g.commands ++ c ∷ cs } ∷ []))
  last-ends g c [] = refl
  last-ends g c (x ∷ xs) = last-ends (record g { commands = g.commands ++ c ∷ [] }) x xs ∙ rw append_assoc refl

  last-colon : (g : Granting) (c : CommandSpec) (cs : List CommandSpec) (t : Token) → t.kind ≡ tokens.Mark marks.Colon
      → last_as_tag (c ∷ cs) ≡ None
      → step room (last_place g c cs) t
      ≡ Some (Item (Hosts g.users (g.sections ++ record { hosts = g.hosts; commands = g.commands ++ c ∷ cs } ∷ [])) 0 [])
  last-colon g c [] t is none = ap (after_command g c) is ∙ ap (λ o. Some (after_colon g c o)) none
  last-colon g c (x ∷ xs) t is none = last-colon (record g { commands = g.commands ++ c ∷ [] }) x xs t is none ∙ rw append_assoc refl

  -- a section from its hosts on
  section-read : (us : List Member) (done : List Section) (hosts : List Member) (c : CommandSpec) (cs : List CommandSpec)
      (ts after rest : List Token)
      → mark marks.Equals ts after → specs (c ∷ cs) after rest
      → reading room (AfterItem (Hosts us done) hosts) ts
      ≡ reading room (last_place (record { users = us; sections = done; hosts = hosts; commands = [] }) c cs) rest
  section-read us done hosts c cs ts after rest equals (middle, (first, further)) =
      mark-read (AfterItem (Hosts us done) hosts) (Command (record { users = us; sections = done; hosts = hosts; commands = [] }) None [] 0)
      marks.Equals ts after (λ t is. ap (after_item (Hosts us done) hosts t) is) equals
      ∙ spec-read (record { users = us; sections = done; hosts = hosts; commands = [] }) c after middle first
      ∙ more_specs-read (record { users = us; sections = done; hosts = hosts; commands = [] }) c cs middle rest further

  more_sections-read : (us : List Member) (done : List Section) (hosts : List Member) (c : CommandSpec) (cs : List CommandSpec)
      (xs : List Section) (ts : List Token) → more_sections (record { hosts = hosts; commands = c ∷ cs }) xs ts []
      → reading room (last_place (record { users = us; sections = done; hosts = hosts; commands = [] }) c cs) ts
      ≡ Ok (entries.Rule us (done ++ record { hosts = hosts; commands = c ∷ cs } ∷ xs))
  more_sections-read us done hosts c cs [] ts h =
      ap (reading room (last_place (record { users = us; sections = done; hosts = hosts; commands = [] }) c cs)) h
      ∙ last-ends (record { users = us; sections = done; hosts = hosts; commands = [] }) c cs
  more_sections-read us done hosts c cs (y ∷ ys) ts
      (a, ((none, same), (b, (colon, (d, ((f, (listed, (k, (equals, commands)))), further)))))) =
      ap (reading room (last_place (record { users = us; sections = done; hosts = hosts; commands = [] }) c cs)) same
      ∙ mark-read (last_place (record { users = us; sections = done; hosts = hosts; commands = [] }) c cs)
      (Item (Hosts us (done ++ record { hosts = hosts; commands = c ∷ cs } ∷ [])) 0 []) marks.Colon a b
      (λ t is. last-colon (record { users = us; sections = done; hosts = hosts; commands = [] }) c cs t is none) colon
      ∙ list-read (Hosts us (done ++ record { hosts = hosts; commands = c ∷ cs } ∷ [])) y.hosts b f listed
      ∙ go y.commands commands further
      (λ c' cs'. more_sections-read us (done ++ record { hosts = hosts; commands = c ∷ cs } ∷ []) y.hosts c' cs' ys d)
    where
      go : (commands : List CommandSpec) → specs commands k d → more_sections (record { hosts = y.hosts; commands = commands }) ys d []
          → ((c' : CommandSpec) (cs' : List CommandSpec) → more_sections (record { hosts = y.hosts; commands = c' ∷ cs' }) ys d []
          → reading room (last_place (record {
            users = us;
            sections = done ++ record {
              hosts = hosts;
              commands = c ∷ cs;
            } ∷ [];
            hosts = y.hosts;
            commands = [];
          }) c' cs') d
          ≡ Ok (entries.Rule us ((done ++ record { hosts = hosts; commands = c ∷ cs } ∷ [])
          ++ record { hosts = y.hosts; commands = c' ∷ cs' } ∷ ys)))
          → reading room (AfterItem (Hosts us (done ++ record { hosts = hosts; commands = c ∷ cs } ∷ [])) y.hosts) f
          ≡ Ok (entries.Rule us (done ++ record { hosts = hosts; commands = c ∷ cs } ∷ record {
            hosts = y.hosts;
            commands = commands;
          } ∷ ys))
      go [] h more again = absurd h
      go (c' ∷ cs') h more again =
          section-read us (done ++ record { hosts = hosts; commands = c ∷ cs } ∷ []) y.hosts c' cs' f k d equals h
          ∙ again c' cs' more ∙ rw append_assoc refl

  sections-read : (us : List Member) (ss : List Section) (ts : List Token) → sections ss ts []
      → reading room (AfterItem Users us) ts ≡ Ok (entries.Rule us ss)
  sections-read us [] ts h = absurd h
  sections-read us (y ∷ ys) ts (d, ((f, (listed, (k, (equals, commands)))), further)) =
      enter_list (Hosts us []) (AfterItem Users us) y.hosts ts f (λ t next h. hosts-first us t next t.kind refl h) listed
      ∙ go y.commands commands further
    where
      go : (commands : List CommandSpec) → specs commands k d → more_sections (record { hosts = y.hosts; commands = commands }) ys d []
          → reading room (AfterItem (Hosts us []) y.hosts) f ≡ Ok (entries.Rule us (record { hosts = y.hosts; commands = commands } ∷ ys))
      go [] h more = absurd h
      go (c ∷ cs) h more = section-read us [] y.hosts c cs f k d equals h ∙ more_sections-read us [] y.hosts c cs ys d more

  rule-read : (us : List Member) (ss : List Section) (ts : List Token) → rule us ss ts []
      → reading room Start ts ≡ Ok (entries.Rule us ss)
  rule-read us ss [] h = absurd h.1.0
  rule-read us ss (t ∷ ts) (a, ((other, same), (b, (users, granted)))) =
      enter Users Start us t ts b (λ next h. ap (λ o. at_start o t) other ∙ h) (subst (λ x. list kinds.User us x b) (sym same) users)
      ∙ sections-read us ss b granted

  include-read : (folder hash : Bool) (path : List Ch) (ts : List Token) → include folder hash path ts []
      → reading room Start ts ≡ Ok (entries.Include folder hash path)
  include-read folder hash path [] h = absurd h
  include-read folder hash path (t ∷ ts) h =
      reading-step room Start (Included folder hash path) t ts (ap (λ o. at_start o t) h.0) ∙ rw h.1 refl

  parameter_bangs-read : (b : Option Binding) (d : List Parameter) (n k : ℕ) (ts rest : List Token) → bangs k ts rest
      → reading room (AtParameter b d n) ts ≡ reading room (AtParameter b d (n + k)) rest
  parameter_bangs-read b d n zero ts rest e = rw (add-zero, e)
  parameter_bangs-read b d n (suc k) [] rest h = absurd h.1.0
  parameter_bangs-read b d n (suc k) (t ∷ ts) rest h =
      let step_on : n + suc k ≡ suc n + k = omega arith in
      rw (h.1.0.0, h.1.0.1, step_on) (parameter_bangs-read b d (suc n) k h.0 rest h.1.1)

  switch-read : (b : Option Binding) (d : List Parameter) (n : ℕ) (w : Token) (ts rest : List Token) → the_word w ts rest
      → reading room (AtParameter b d n) ts ≡ reading room (AfterSwitch b d n w) rest
  switch-read b d n w [] rest h = absurd h
  switch-read b d n w (t ∷ ts) rest h =
      reading-step room (AtParameter b d n) (AfterSwitch b d n t) t ts (word-parameter b d n t t.kind h.0.1) ∙ rw (h.1, h.0.0) refl

  operator-read : (b : Option Binding) (d : List Parameter) (w : Token) (o : Operator) (ts rest : List Token)
      → one (λ t. operator_of t.kind ≡ Some o) ts rest
      → reading room (AfterSwitch b d 0 w) ts ≡ reading room (AtValue b d w o) rest
  operator-read b d w o [] rest h = absurd h
  operator-read b d w o (t ∷ ts) rest h =
      reading-step room (AfterSwitch b d 0 w) (AtValue b d w o) t ts (operator-value b d w o t.kind h.0) ∙ rw h.1 refl

  value-read : (b : Option Binding) (d : List Parameter) (w : Token) (o : Operator) (v : Token) (ts rest : List Token) → the_word v ts rest
      → reading room (AtValue b d w o) ts ≡ reading room (AfterValue b (d ++ parameters.Assign w o v ∷ [])) rest
  value-read b d w o v [] rest h = absurd h
  value-read b d w o v (t ∷ ts) rest h =
      reading-step room (AtValue b d w o) (AfterValue b (d ++ parameters.Assign w o t ∷ [])) t ts
      (word-value b d w o t t.kind h.0.1) ∙ rw (h.1, h.0.0) refl

  parameter-read : (b : Option Binding) (d : List Parameter) (x : Parameter) (ts rest : List Token) → parameter x ts rest
      → reading room (AtParameter b d 0) ts ≡ reading room (parameter_state b d x) rest
  parameter-read b d (parameters.Switch n w) ts rest h =
      let counted : 0 + n ≡ n = omega arith in
      parameter_bangs-read b d 0 n ts h.0 h.1.0 ∙ rw counted (switch-read b d n w h.0 rest h.1.1)
  parameter-read b d (parameters.Assign w o v) ts rest (a, (named, (c, (op, value)))) =
      switch-read b d 0 w ts a named ∙ operator-read b d w o a c op ∙ value-read b d w o v c rest value

  parameter-comma : (b : Option Binding) (d : List Parameter) (x : Parameter) (t : Token) → t.kind ≡ tokens.Mark marks.Comma
      → step room (parameter_state b d x) t ≡ Some (AtParameter b (d ++ x ∷ []) 0)
  parameter-comma b d (parameters.Switch n w) t is = ap (after_switch b d n w) is
  parameter-comma b d (parameters.Assign w o v) t is = ap (after_value b (d ++ parameters.Assign w o v ∷ [])) is

  parameter-ends : (b : Option Binding) (d : List Parameter) (x : Parameter)
      → reading room (parameter_state b d x) [] ≡ Ok (entries.Defaults b (d ++ x ∷ []))
  parameter-ends b d (parameters.Switch n w) = refl
  parameter-ends b d (parameters.Assign w o v) = refl

  more_parameters-read : (b : Option Binding) (d : List Parameter) (x : Parameter) (xs : List Parameter) (ts : List Token)
      → more_parameters xs ts [] → reading room (parameter_state b d x) ts ≡ Ok (entries.Defaults b (d ++ x ∷ xs))
  more_parameters-read b d x [] ts h = ap (reading room (parameter_state b d x)) h ∙ parameter-ends b d x
  more_parameters-read b d x (y ∷ ys) ts (a, (comma, (c, (named, further)))) =
      mark-read (parameter_state b d x) (AtParameter b (d ++ x ∷ []) 0) marks.Comma ts a (λ t is. parameter-comma b d x t is) comma
      ∙ parameter-read b (d ++ x ∷ []) y a c named ∙ more_parameters-read b (d ++ x ∷ []) y ys c further ∙ rw append_assoc refl

  -- the first token of a parameter leads on
  parameter-first : (b : Option Binding) (x : Parameter) (t : Token) (ts rest : List Token) → parameter x (t ∷ ts) rest
      → (next : State) × (at_parameter b [] 0 t t.kind ≡ Some next)
  parameter-first b (parameters.Switch zero w) t ts rest (a, (none, named)) =
      (AfterSwitch b [] 0 t, word-parameter b [] 0 t t.kind (subst (λ x. the_word w x rest) (sym none) named).0.1)
  parameter-first b (parameters.Switch (suc n) w) t ts rest (a, ((c, (bang, more)), named)) = (AtParameter b [] 1, rw bang.0 refl)
  parameter-first b (parameters.Assign w o v) t ts rest (a, (named, more)) =
      (AfterSwitch b [] 0 t, word-parameter b [] 0 t t.kind named.0.1)

  parameter-some : (x : Parameter) (rest : List Token) → parameter x [] rest → ⊥
  parameter-some (parameters.Switch zero w) rest (a, (none, named)) = subst (λ x. the_word w x rest) (sym none) named
  parameter-some (parameters.Switch (suc n) w) rest (a, ((c, (bang, more)), named)) = bang
  parameter-some (parameters.Assign w o v) rest (a, (named, more)) = named

  -- the parameters, from a state whose steps are those of a parameter's first token
  parameters-read : (b : Option Binding) (q : State) (xs : List Parameter) (ts : List Token)
      → ((t : Token) (us : List Token) (next : State) → ts ≡ t ∷ us → at_parameter b [] 0 t t.kind ≡ Some next → step room q t ≡ Some next)
      → parameter_list xs ts [] → reading room q ts ≡ Ok (entries.Defaults b xs)
  parameters-read b q [] ts same h = absurd h
  parameters-read b q (x ∷ xs) [] same h = absurd (parameter-some x h.0 h.1.0)
  parameters-read b q (x ∷ xs) (t ∷ ts) same h = go (parameter-first b x t ts h.0 h.1.0)
    where
      go : (next : State) × (at_parameter b [] 0 t t.kind ≡ Some next) → reading room q (t ∷ ts) ≡ Ok (entries.Defaults b (x ∷ xs))
      go (next, e) = reading-step room q next t ts (same t ts next refl e)
          ∙ sym (reading-step room (AtParameter b [] 0) next t ts e) ∙ parameter-read b [] x (t ∷ ts) h.0 h.1.0
          ∙ more_parameters-read b [] x xs h.0 h.1.1

  bound-read : (k : Kind) (ms : List Member) (xs : List Parameter) (ts middle : List Token)
      → (binding_mark k ▸ list k ms) ts middle → parameter_list xs middle []
      → reading room DefaultsStart ts ≡ Ok (entries.Defaults (Some (bound_to k ms)) xs)
  bound-read k ms xs [] middle h more = absurd h.1.0
  bound-read k ms xs (t ∷ ts) middle (a, (bound, listed)) more =
      reading-step room DefaultsStart (Item (Binds k) 0 []) t ts (ap (λ b. after_defaults b t) bound.0.0 ∙ ap at_binding bound.0.1)
      ∙ rw bound.1 (list-read (Binds k) ms a middle listed)
      ∙ parameters-read (Some (bound_to k ms)) (AfterItem (Binds k) ms) xs middle (λ u us next is h. binds-first k ms u next u.kind h) more

  binding-read : (b : Option Binding) (xs : List Parameter) (ts middle : List Token) → binding b ts middle → parameter_list xs middle []
      → reading room DefaultsStart ts ≡ Ok (entries.Defaults b xs)
  binding-read None xs [] middle h more = absurd h
  binding-read None xs (t ∷ ts) middle (none, same) more =
      parameters-read None DefaultsStart xs (t ∷ ts)
      (λ u us next is h. ap (λ b. after_defaults b u) (subst (λ y. is_direct y ≡ false) (head-same is) none) ∙ h)
      (subst (λ y. parameter_list xs y []) (sym same) more)
  binding-read (Some (bindings.Hosts ms)) xs ts middle h more = bound-read kinds.Host ms xs ts middle h more
  binding-read (Some (bindings.Users ms)) xs ts middle h more = bound-read kinds.User ms xs ts middle h more
  binding-read (Some (bindings.Commands ms)) xs ts middle h more = bound-read kinds.Cmnd ms xs ts middle h more
  binding-read (Some (bindings.Runas ms)) xs ts middle h more = bound-read kinds.Runas ms xs ts middle h more

  defaults-read : (b : Option Binding) (xs : List Parameter) (ts : List Token) → defaults b xs ts []
      → reading room Start ts ≡ Ok (entries.Defaults b xs)
  defaults-read b xs [] h = absurd h.1.0
  defaults-read b xs (t ∷ ts) (a, (opens, (middle, (bound, more)))) =
      reading-step room Start DefaultsStart t ts (ap (λ o. at_start o t) opens.0) ∙ rw opens.1 (binding-read b xs a middle bound more)

  pub entry-read : (e : EntryBody) (ts : List Token) → Writes e ts → HasRoom room e → reading room Start ts ≡ Ok e
  entry-read (entries.Aliases k xs) ts h fits = keyword-read k ts h.0 h.1.0 ∙ definitions-read k xs h.0 fits h.1.1
  entry-read (entries.Rule us ss) ts h fits = rule-read us ss ts h
  entry-read (entries.Include folder hash path) ts h fits = include-read folder hash path ts h
  entry-read (entries.Defaults b xs) ts h fits = defaults-read b xs ts h
