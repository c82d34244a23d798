-- The last token before a state: the token of the last member of a list, or of the last command. So an option of a
-- command is one by the state as it is by the tokens.
use Rattle.std.proofs.Common.{cond, ◌≡◌, ℕ, zero, suc, ◌-◌, List, [], ◌∷◌, ◌++◌, length, refl, ap, sym, ◌∙◌}
use Rattle.std.proofs.Common.{subst, arith, length-append, ltb, Option, None, Some, Result, Ok, Err, true, false, Bool}
use Rattle.std.proofs.Math.Seq.{get_or-append_seam}
use Rattle.std.proofs.lemmas.Option.{slice_get_read}
use Rattle.std.specs.Prelude.{◌&&◌, slice_get}
use Rattle.sudo_base.proofs.Options.{some_injective}
use Rattle.sudo_text.specs.declared.token.Mark.TheVariants as marks
use Rattle.sudo_text.specs.declared.token.Token.{Token}
use Rattle.sudo_text.specs.declared.token.TokenKind.{TokenKind}
use Rattle.sudo_text.specs.declared.token.TokenKind.TheVariants as tokens
use Rattle.sudo_grammar.specs.declared.kind.Kind.{Kind}
use Rattle.sudo_grammar.specs.declared.kind.Kind.TheVariants as kinds
use Rattle.sudo_grammar.specs.declared.kind.Atom.{Atom}
use Rattle.sudo_grammar.specs.declared.kind.Member.{Member}
use Rattle.sudo_grammar.specs.declared.policy.Definition.{Definition}
use Rattle.sudo_grammar.specs.declared.policy.Runas.{Runas}
use Rattle.sudo_grammar.specs.declared.tag.Tag.{Tag}
use Rattle.sudo_grammar.specs.declared.policy.CommandSpec.{CommandSpec}
use Rattle.sudo_grammar.specs.declared.policy.Binding.{Binding}
use Rattle.sudo_grammar.specs.declared.policy.Operator.{Operator}
use Rattle.sudo_grammar.specs.declared.policy.Parameter.{Parameter}
use Rattle.sudo_grammar.specs.declared.fault.Refusal.{Refusal}
use Rattle.sudo_grammar.specs.Words.{name_of, plain_word, is_option_name}
use Rattle.sudo_grammar.specs.Members.{atom_of}
use Rattle.sudo_grammar.specs.Openings.{Opening, Keyword, DefaultsLine, Directive, BadDirective, Other, opening_of}
use Rattle.sudo_grammar.specs.Openings.{is_direct, kind_of_mark, operator_of, word_passes}
use Rattle.sudo_grammar.specs.Standing.{BeginsEntry, MembersStand}
use Rattle.sudo_grammar.specs.Refusals.{is_next, IsOption}
use Rattle.sudo_grammar.specs.Faults.{Room}
use Rattle.sudo_grammar.specs.Body.States.{Granting, Purpose, Defines, Users, Hosts, RunasUsers, RunasGroups, Binds}
use Rattle.sudo_grammar.specs.Body.States.{kind_for, bound_to, State, Start, AliasName, AfterName, Item, AfterItem}
use Rattle.sudo_grammar.specs.Body.States.{Command, AfterCommand, RunasStart, GroupsStart, DefaultsStart, AtParameter}
use Rattle.sudo_grammar.specs.Body.States.{AfterSwitch, AtValue, AfterValue, Included, member_state, at_item}
use Rattle.sudo_grammar.specs.Body.States.{after_item, after_list, after_name, at_alias_name, at_command}
use Rattle.sudo_grammar.specs.Body.States.{command_state, at_paren, after_command, after_colon, at_runas, at_groups}
use Rattle.sudo_grammar.specs.Body.States.{at_binding, after_defaults, at_parameter, at_operator, after_switch}
use Rattle.sudo_grammar.specs.Body.States.{at_value, after_value, at_start, step, state_after}
use Rattle.sudo_grammar.specs.Forms.{as_tag}
use Rattle.sudo_grammar.specs.Body.Refused.{is_option, last_command}
use Rattle.sudo_grammar.proofs.Complete.{at_item-takes, at_command-takes}
use Rattle.sudo_grammar.proofs.Stops.{begins, dead}
use Rattle.sudo_grammar.proofs.Steps.{state_after-step, Passes, passes, ends_in}

-- a command must stand there
abbrev pub WantsCommand : State → Type 0
WantsCommand (Item p n d) = kind_for p ≡ kinds.Cmnd
WantsCommand (Command g r tags n) = Unit {0}
WantsCommand _ = ⊥

-- how a token led to a state: to the start by none, and to a list or a command as its last token
abbrev Came : State → Token → State → Type 0
Came before t Start = ⊥
Came before t (AfterItem p d) = (ms : List Member) × ((m : Member)
    × ((d ≡ ms ++ m ∷ []) × ((m.token ≡ t) × (kind_for p ≡ kinds.Cmnd → WantsCommand before))))
Came before t (AfterCommand g s) = (s.command.token ≡ t) × WantsCommand before
Came before t _ = Unit {0}

to : (before next : State) (t : Token) (q : State) → Some q ≡ Some next → Came before t q → Came before t next
to before next t q h c = subst (λ x. Came before t x) (some_injective _ _ h) c

module _ (before next : State) (t : Token) where
  by-member : (p : Purpose) (n : ℕ) (d : List Member) (r : Result Atom Refusal) → (kind_for p ≡ kinds.Cmnd → WantsCommand before)
      → member_state p n d t r ≡ Some next → Came before t next
  by-member p n d (Err refusal) commands h = cc
  by-member p n d (Ok a) commands h =
      to before next t (AfterItem p (d ++ record { bangs = n; token = t; atom = a } ∷ [])) h
      (d, (record { bangs = n; token = t; atom = a }, (refl, (refl, commands))))

  by-item : (p : Purpose) (n : ℕ) (d : List Member) (k : TokenKind) → (kind_for p ≡ kinds.Cmnd → WantsCommand before)
      → at_item p n d t k ≡ Some next → Came before t next
  by-item p n d (tokens.Mark marks.Bang) commands h = to before next t (Item p (suc n) d) h tt
  by-item p n d _ commands h = by-member p n d (atom_of (kind_for p) t.kind) commands h

  by-parameter : (b : Option Binding) (d : List Parameter) (n : ℕ) (k : TokenKind) → at_parameter b d n t k ≡ Some next
      → Came before t next
  by-parameter b d n (tokens.Mark marks.Bang) h = to before next t (AtParameter b d (suc n)) h tt
  by-parameter b d n (tokens.Word quoted chars) h = to before next t (AfterSwitch b d n t) h tt
  by-parameter b d n _ h = cc

  by-name : (room : Room) (k : Kind) (d : List Definition) (w : Option (List ℕ)) → at_alias_name room k d w ≡ Some next
      → Came before t next
  by-name room k d None h = cc
  by-name room k d (Some w) h = go (ltb (length d) (room k)) h
    where
      go : (b : Bool) → cond b (Some (AfterName k d w)) None ≡ Some next → Came before t next
      go false h = cc
      go true h = to before next t (AfterName k d w) h tt

  by-equals : (k : Kind) (d : List Definition) (w : List ℕ) (kind : TokenKind) → after_name k d w kind ≡ Some next → Came before t next
  by-equals k d w (tokens.Mark marks.Equals) h = to before next t (Item (Defines k d w) 0 []) h tt
  by-equals k d w _ h = cc

  by-list : (p : Purpose) (d : List Member) (k : TokenKind) → after_list p d t k ≡ Some next → Came before t next
  by-list (Defines k done w) d (tokens.Mark marks.Colon) h =
      to before next t (AliasName k (done ++ record { name = w; members = d } ∷ [])) h tt
  by-list (Defines k done w) d _ h = cc
  by-list Users d k h = by-item (Hosts d []) 0 [] k (λ e. cc) h
  by-list (Hosts us ss) d (tokens.Mark marks.Equals) h =
      to before next t (Command (record { users = us; sections = ss; hosts = d; commands = [] }) None [] 0) h tt
  by-list (Hosts us ss) d _ h = cc
  by-list (RunasUsers g) d (tokens.Mark marks.Colon) h = to before next t (GroupsStart g (Some d)) h tt
  by-list (RunasUsers g) d (tokens.Mark marks.RightParen) h =
      to before next t (Command g (Some (record { users = Some d; groups = None })) [] 0) h tt
  by-list (RunasUsers g) d _ h = cc
  by-list (RunasGroups g us) d (tokens.Mark marks.RightParen) h =
      to before next t (Command g (Some (record { users = us; groups = Some d })) [] 0) h tt
  by-list (RunasGroups g us) d _ h = cc
  by-list (Binds k) d kind h = by-parameter (Some (bound_to k d)) [] 0 kind h

  by-after : (p : Purpose) (d : List Member) (k : TokenKind) → after_item p d t k ≡ Some next → Came before t next
  by-after p d (tokens.Mark marks.Comma) h = to before next t (Item p 0 d) h tt
  by-after p d k h = by-list p d k h

  by-named : (g : Granting) (r : Option Runas) (tags : List Tag) (n : ℕ) (o : Result Atom Refusal) → WantsCommand before
      → command_state g r tags n t o ≡ Some next → Came before t next
  by-named g r tags n (Err refusal) commands h = cc
  by-named g r tags n (Ok a) commands h =
      to before next t (AfterCommand g (record { runas = r; tags = tags; command = record { bangs = n; token = t; atom = a } })) h
      (refl, commands)

  by-paren : (g : Granting) (r : Option Runas) (tags : List Tag) (n : ℕ) → at_paren g r tags n ≡ Some next → Came before t next
  by-paren g None [] zero h = to before next t (RunasStart g) h tt
  by-paren g _ _ _ h = cc

  by-command : (g : Granting) (r : Option Runas) (tags : List Tag) (n : ℕ) (k : TokenKind) → WantsCommand before
      → at_command g r tags n t k ≡ Some next → Came before t next
  by-command g r tags n (tokens.Mark marks.Bang) commands h = to before next t (Command g r tags (suc n)) h tt
  by-command g r tags n (tokens.Mark marks.LeftParen) commands h = by-paren g r tags n h
  by-command g r tags n _ commands h = by-named g r tags n (atom_of kinds.Cmnd t.kind) commands h

  by-colon : (g : Granting) (s : CommandSpec) (x : Option Tag) → Some (after_colon g s x) ≡ Some next → Came before t next
  by-colon g s (Some x) h = to before next t (after_colon g s (Some x)) h tt
  by-colon g s None h = to before next t (after_colon g s None) h tt

  by-more : (g : Granting) (s : CommandSpec) (k : TokenKind) → after_command g s k ≡ Some next → Came before t next
  by-more g s (tokens.Mark marks.Comma) h =
      to before next t (Command (record g { commands = g.commands ++ s ∷ [] }) None [] 0) h tt
  by-more g s (tokens.Mark marks.Colon) h = by-colon g s (as_tag s.command) h
  by-more g s _ h = cc

  by-runas : (g : Granting) (k : TokenKind) → at_runas g t k ≡ Some next → Came before t next
  by-runas g (tokens.Mark marks.RightParen) h = to before next t (Command g (Some (record { users = None; groups = None })) [] 0) h tt
  by-runas g (tokens.Mark marks.Colon) h = to before next t (GroupsStart g None) h tt
  by-runas g k h = by-item (RunasUsers g) 0 [] k (λ e. cc) h

  by-groups : (g : Granting) (us : Option (List Member)) (k : TokenKind) → at_groups g us t k ≡ Some next → Came before t next
  by-groups g us (tokens.Mark marks.RightParen) h = to before next t (Command g (Some (record { users = us; groups = None })) [] 0) h tt
  by-groups g us k h = by-item (RunasGroups g us) 0 [] k (λ e. cc) h

  by-binding : (k : Option Kind) → at_binding k ≡ Some next → Came before t next
  by-binding None h = cc
  by-binding (Some k) h = to before next t (Item (Binds k) 0 []) h tt

  by-defaults : (direct : Bool) → after_defaults direct t ≡ Some next → Came before t next
  by-defaults true h = by-binding (kind_of_mark t.kind) h
  by-defaults false h = by-parameter None [] 0 t.kind h

  by-operator : (b : Option Binding) (d : List Parameter) (n : ℕ) (name : Token) (o : Option Operator)
      → at_operator b d n name o ≡ Some next → Came before t next
  by-operator b d zero name (Some o) h = to before next t (AtValue b d name o) h tt
  by-operator b d _ name _ h = cc

  by-switch : (b : Option Binding) (d : List Parameter) (n : ℕ) (name : Token) (k : TokenKind)
      → after_switch b d n name k ≡ Some next → Came before t next
  by-switch b d n name (tokens.Mark marks.Comma) h = to before next t (AtParameter b _ 0) h tt
  by-switch b d n name k h = by-operator b d n name (operator_of k) h

  by-value : (b : Option Binding) (d : List Parameter) (name : Token) (o : Operator) (k : TokenKind)
      → at_value b d name o t k ≡ Some next → Came before t next
  by-value b d name o (tokens.Word quoted chars) h = to before next t (AfterValue b _) h tt
  by-value b d name o _ h = cc

  by-further : (b : Option Binding) (d : List Parameter) (k : TokenKind) → after_value b d k ≡ Some next → Came before t next
  by-further b d (tokens.Mark marks.Comma) h = to before next t (AtParameter b d 0) h tt
  by-further b d _ h = cc

  by-start : (o : Opening) → at_start o t ≡ Some next → Came before t next
  by-start (Keyword k) h = to before next t (AliasName k []) h tt
  by-start DefaultsLine h = to before next t DefaultsStart h tt
  by-start (Directive folder hash path) h = to before next t (Included folder hash path) h tt
  by-start (BadDirective path) h = cc
  by-start Other h = by-item Users 0 [] t.kind (λ e. cc) h

came : (room : Room) (before next : State) (t : Token) → step room before t ≡ Some next → Came before t next
came room Start next t h = by-start Start next t (opening_of t.kind) h
came room (AliasName k d) next t h = by-name (AliasName k d) next t room k d (name_of t.kind) h
came room (AfterName k d w) next t h = by-equals (AfterName k d w) next t k d w t.kind h
came room (Item p n d) next t h = by-item (Item p n d) next t p n d t.kind (λ e. e) h
came room (AfterItem p d) next t h = by-after (AfterItem p d) next t p d t.kind h
came room (Command g r tags n) next t h = by-command (Command g r tags n) next t g r tags n t.kind tt h
came room (AfterCommand g s) next t h = by-more (AfterCommand g s) next t g s t.kind h
came room (RunasStart g) next t h = by-runas (RunasStart g) next t g t.kind h
came room (GroupsStart g us) next t h = by-groups (GroupsStart g us) next t g us t.kind h
came room DefaultsStart next t h = by-defaults DefaultsStart next t (is_direct t) h
came room (AtParameter b d n) next t h = by-parameter (AtParameter b d n) next t b d n t.kind h
came room (AfterSwitch b d n name) next t h = by-switch (AfterSwitch b d n name) next t b d n name t.kind h
came room (AtValue b d name o) next t h = by-value (AtValue b d name o) next t b d name o t.kind h
came room (AfterValue b d) next t h = by-further (AfterValue b d) next t b d t.kind h
came room (Included folder hash path) next t h = cc

-- no token leads to the start
pub start-only : (room : Room) (front : List Token) → state_after room Start front ≡ Some Start → front ≡ []
start-only room [] reached = refl
start-only room (t ∷ ts) reached = go (ends_in t ts)
  where
    go : (before : List Token) × ((last : Token) × (t ∷ ts ≡ before ++ last ∷ [])) → t ∷ ts ≡ []
    go (before, (last, e)) = absurd (came room p.from Start last (p.taken ∙ p.on))
      where
        p : Passes room Start before last [] Start
        p = passes room Start Start before last [] (subst (λ x. state_after room Start x ≡ Some Start) e reached)

-- the last command before a state
abbrev pub command_before : State → Option Member
command_before (AfterItem p d) = last_command (kind_for p) d
command_before (AfterCommand g s) = Some s.command
command_before _ = None

pub last-snoc : (d : List Member) (m : Member) → slice_get (d ++ m ∷ []) (length (d ++ m ∷ []) - 1) ≡ Some m
last-snoc d m =
    let longer : length (d ++ m ∷ []) ≡ suc (length d) = simp length-append (omega arith) in
    let at : length (d ++ m ∷ []) - 1 ≡ length d = omega (arith, longer) in
    ap (slice_get (d ++ m ∷ [])) at
    ∙ slice_get_read (d ++ m ∷ []) (length (d ++ m ∷ [])) (length d) m refl (omega (arith, longer)) (sym (get_or-append_seam d m [] m))

-- `/`
abbrev pub slash : Token
slash = record { kind = tokens.Command (record { byte = 47; escaped = false } ∷ []) None; start = 0; end = 1 }

-- where each command could stand a command must stand
module _ (room : Room) (front : List Token) where
  not-there : (q : State) → state_after room Start front ≡ Some q → MembersStand kinds.Cmnd front
      → ((wide : Room) → step wide q slash ≡ None) → WantsCommand q
  not-there q reached stands none = absurd (dead room q slash front reached (λ wide covers. none wide) (stands slash _ refl))

  in-item : (p : Purpose) (n : ℕ) (d : List Member) (k : Kind) → kind_for p ≡ k → state_after room Start front ≡ Some (Item p n d)
      → MembersStand kinds.Cmnd front → kind_for p ≡ kinds.Cmnd
  in-item p n d kinds.Cmnd is reached stands = is
  in-item p n d kinds.User is reached stands =
      not-there (Item p n d) reached stands (λ wide. ap (λ k. member_state p n d slash (atom_of k slash.kind)) is)
  in-item p n d kinds.Runas is reached stands =
      not-there (Item p n d) reached stands (λ wide. ap (λ k. member_state p n d slash (atom_of k slash.kind)) is)
  in-item p n d kinds.Host is reached stands =
      not-there (Item p n d) reached stands (λ wide. ap (λ k. member_state p n d slash (atom_of k slash.kind)) is)

  in-list : (p : Purpose) (d : List Member) → state_after room Start front ≡ Some (AfterItem p d)
      → MembersStand kinds.Cmnd front → WantsCommand (AfterItem p d)
  in-list (Defines k done w) d reached stands = not-there (AfterItem (Defines k done w) d) reached stands (λ wide. refl)
  in-list Users d reached stands = not-there (AfterItem Users d) reached stands (λ wide. refl)
  in-list (Hosts us ss) d reached stands = not-there (AfterItem (Hosts us ss) d) reached stands (λ wide. refl)
  in-list (RunasUsers g) d reached stands = not-there (AfterItem (RunasUsers g) d) reached stands (λ wide. refl)
  in-list (RunasGroups g us) d reached stands = not-there (AfterItem (RunasGroups g us) d) reached stands (λ wide. refl)
  in-list (Binds k) d reached stands = not-there (AfterItem (Binds k) d) reached stands (λ wide. refl)

  after-switch : (b : Option Binding) (d : List Parameter) (n : ℕ) (name : Token)
      → state_after room Start front ≡ Some (AfterSwitch b d n name) → MembersStand kinds.Cmnd front → WantsCommand (AfterSwitch b d n name)
  after-switch b d zero name reached stands = not-there (AfterSwitch b d zero name) reached stands (λ wide. refl)
  after-switch b d (suc n) name reached stands = not-there (AfterSwitch b d (suc n) name) reached stands (λ wide. refl)

  wants-command : (q : State) → state_after room Start front ≡ Some q → MembersStand kinds.Cmnd front → WantsCommand q
  wants-command Start reached stands = not-there Start reached stands (λ wide. refl)
  wants-command (AliasName k d) reached stands = not-there (AliasName k d) reached stands (λ wide. refl)
  wants-command (AfterName k d w) reached stands = not-there (AfterName k d w) reached stands (λ wide. refl)
  wants-command (Item p n d) reached stands = in-item p n d (kind_for p) refl reached stands
  wants-command (AfterItem p d) reached stands = in-list p d reached stands
  wants-command (Command g r tags n) reached stands = tt
  wants-command (AfterCommand g s) reached stands = not-there (AfterCommand g s) reached stands (λ wide. refl)
  wants-command (RunasStart g) reached stands = not-there (RunasStart g) reached stands (λ wide. refl)
  wants-command (GroupsStart g us) reached stands = not-there (GroupsStart g us) reached stands (λ wide. refl)
  wants-command DefaultsStart reached stands = not-there DefaultsStart reached stands (λ wide. refl)
  wants-command (AtParameter b d n) reached stands = not-there (AtParameter b d n) reached stands (λ wide. refl)
  wants-command (AfterSwitch b d n name) reached stands = after-switch b d n name reached stands
  wants-command (AtValue b d name o) reached stands = not-there (AtValue b d name o) reached stands (λ wide. refl)
  wants-command (AfterValue b d) reached stands = not-there (AfterValue b d) reached stands (λ wide. refl)
  wants-command (Included folder hash path) reached stands = not-there (Included folder hash path) reached stands (λ wide. refl)

  -- and where a command must stand each could
  commands-stand : (q : State) (t : Token) (a : Atom) → state_after room Start front ≡ Some q → WantsCommand q
      → atom_of kinds.Cmnd t.kind ≡ Ok a → BeginsEntry (front ++ t ∷ [])
  commands-stand (Item p n d) t a reached is h = begins room (front ++ t ∷ []) _
      (state_after-step room Start (Item p n d) _ front t reached (at_item-takes p n d t a (ap (λ k. atom_of k t.kind) is ∙ h)))
  commands-stand (Command g r tags n) t a reached is h = begins room (front ++ t ∷ []) _
      (state_after-step room Start (Command g r tags n) _ front t reached (at_command-takes g r tags n t a h))
  commands-stand _ t a reached is h = absurd is

-- the token spells the name of an option, before `=`
abbrev pub names_option : Token → List Token → Bool
names_option t ts = word_passes is_option_name (plain_word t.kind) && is_next marks.Equals ts

no-word : (t : Token) (ts : List Token) (k : TokenKind) → t.kind ≡ k → word_passes is_option_name (plain_word k) ≡ false
    → names_option t ts ≡ true → ⊥
no-word t ts k is other named = nothing (sym (ap (λ k. word_passes is_option_name (plain_word k) && is_next marks.Equals ts) is
    ∙ ap (λ b. b && is_next marks.Equals ts) other) ∙ named)
  where
    nothing : false ≡ true → ⊥
    nothing h = cc

module _ (room : Room) (ts : List Token) where
  -- after a word where a command must stand, that word is the last command
  word-item : (p : Purpose) (n : ℕ) (d : List Member) (t : Token) (q : State) (k : TokenKind) → t.kind ≡ k → kind_for p ≡ kinds.Cmnd
      → at_item p n d t k ≡ Some q → names_option t ts ≡ true → is_option (command_before q) ts ≡ true
  word-item p n d t q (tokens.Word quoted chars) is commands h named = go (atom_of (kind_for p) t.kind) h
    where
      go : (o : Result Atom Refusal) → member_state p n d t o ≡ Some q → is_option (command_before q) ts ≡ true
      go (Err refusal) h = cc
      go (Ok a) h = subst (λ x. is_option (command_before x) ts ≡ true) (some_injective _ _ h)
          (ap (λ k. is_option (last_command k (d ++ record { bangs = n; token = t; atom = a } ∷ [])) ts) commands
          ∙ ap (λ o. is_option o ts) (last-snoc d (record { bangs = n; token = t; atom = a })) ∙ named)
  word-item p n d t q (tokens.Mark m) is commands h named = absurd (no-word t ts (tokens.Mark m) is refl named)
  word-item p n d t q (tokens.Command path args) is commands h named = absurd (no-word t ts (tokens.Command path args) is refl named)
  word-item p n d t q (tokens.Include folder hash path) is commands h named =
      absurd (no-word t ts (tokens.Include folder hash path) is refl named)

  word-command : (g : Granting) (r : Option Runas) (tags : List Tag) (n : ℕ) (t : Token) (q : State) (k : TokenKind) → t.kind ≡ k
      → at_command g r tags n t k ≡ Some q → names_option t ts ≡ true → is_option (command_before q) ts ≡ true
  word-command g r tags n t q (tokens.Word quoted chars) is h named = go (atom_of kinds.Cmnd t.kind) h
    where
      go : (o : Result Atom Refusal) → command_state g r tags n t o ≡ Some q → is_option (command_before q) ts ≡ true
      go (Err refusal) h = cc
      go (Ok a) h = subst (λ x. is_option (command_before x) ts ≡ true) (some_injective _ _ h) named
  word-command g r tags n t q (tokens.Mark m) is h named = absurd (no-word t ts (tokens.Mark m) is refl named)
  word-command g r tags n t q (tokens.Command path args) is h named = absurd (no-word t ts (tokens.Command path args) is refl named)
  word-command g r tags n t q (tokens.Include folder hash path) is h named =
      absurd (no-word t ts (tokens.Include folder hash path) is refl named)

  word-last : (p q : State) (t : Token) → WantsCommand p → step room p t ≡ Some q → names_option t ts ≡ true
      → is_option (command_before q) ts ≡ true
  word-last (Item p n d) q t commands h named = word-item p n d t q t.kind refl commands h named
  word-last (Command g r tags n) q t commands h named = word-command g r tags n t q t.kind refl h named
  word-last _ q t commands h named = absurd commands

  -- an option by the tokens is one by the state
  pub option-there : (front : List Token) (q : State) → state_after room Start front ≡ Some q → IsOption front ts
      → is_option (command_before q) ts ≡ true
  option-there front q reached (before, t, e, stands, named) =
      word-last p.from q t (wants-command room before p.from p.reached stands) (p.taken ∙ p.on) named
    where
      p : Passes room Start before t [] q
      p = passes room Start q before t [] (subst (λ x. state_after room Start x ≡ Some q) e reached)

  -- the last command before a state is the last token, and commands could stand there
  last-there : (before : List Token) (last : Token) (p q : State) → state_after room Start before ≡ Some p → Came p last q
      → is_option (command_before q) ts ≡ true → MembersStand kinds.Cmnd before × (names_option last ts ≡ true)
  last-there before last p (AfterItem purpose d) reached (ms, (m, (e, (same, commands)))) h = go (kind_for purpose) refl h
    where
      go : (k : Kind) → kind_for purpose ≡ k → is_option (last_command k d) ts ≡ true
          → MembersStand kinds.Cmnd before × (names_option last ts ≡ true)
      go kinds.Cmnd is h = (
        λ t a. commands-stand room before p t a reached (commands is),
        subst (λ x. names_option x ts ≡ true) same
            (sym (ap (λ o. is_option o ts) (ap (λ x. slice_get x (length x - 1)) e ∙ last-snoc ms m)) ∙ h),
      )
      go kinds.User is h = cc
      go kinds.Runas is h = cc
      go kinds.Host is h = cc
  last-there before last p (AfterCommand g s) reached (same, commands) h =
      ((λ t a. commands-stand room before p t a reached commands), subst (λ x. names_option x ts ≡ true) same h)
  last-there before last p _ reached came h = cc

  -- an option by the state is one by the tokens
  pub option-here : (front : List Token) (q : State) → state_after room Start front ≡ Some q
      → is_option (command_before q) ts ≡ true → IsOption front ts
  option-here [] q reached h =
      absurd (none-first (subst (λ x. is_option (command_before x) ts ≡ true) (sym (some_injective _ _ reached)) h))
    where
      none-first : is_option (command_before Start) ts ≡ true → ⊥
      none-first h = cc
  option-here (t ∷ us) q reached h = go (ends_in t us)
    where
      go : (before : List Token) × ((last : Token) × (t ∷ us ≡ before ++ last ∷ [])) → IsOption (t ∷ us) ts
      go (before, (last, e)) = found (last-there before last p.from q p.reached (came room p.from q last (p.taken ∙ p.on)) h)
        where
          p : Passes room Start before last [] q
          p = passes room Start q before last [] (subst (λ x. state_after room Start x ≡ Some q) e reached)

          found : MembersStand kinds.Cmnd before × (names_option last ts ≡ true) → IsOption (t ∷ us) ts
          found (stands, named) = (before, last, e, stands, named)
