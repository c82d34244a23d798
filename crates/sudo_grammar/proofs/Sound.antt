-- Tokens that are read as an entry are a written form of it: from each state on they have the forms that are left
-- there. One lemma for each step, from the state after a token back to the state before it.
use Rattle.std.proofs.Common.{inl, inr, cond, ◌≡◌, ℕ, zero, suc, ◌+◌, List, [], ◌∷◌, ◌++◌, length, refl, zero-add}
use Rattle.std.proofs.Common.{add-zero, ap, sym, ◌∙◌, subst, append_assoc, append-nil, arith, ltb, Option, None, Some}
use Rattle.std.proofs.Common.{Result, Ok, Err, true, false, Bool}
use Rattle.std.proofs.Math.Dec.{eqb-suc-zero}
use Rattle.sudo_base.proofs.Options.{some_injective, none_some}
use Rattle.sudo_text.specs.declared.token.Mark.TheVariants as marks
use Rattle.sudo_text.specs.declared.token.Token.{Token}
use Rattle.sudo_text.specs.declared.token.TokenKind.{TokenKind}
use Rattle.sudo_text.specs.declared.token.TokenKind.TheVariants as tokens
use Rattle.sudo_grammar.specs.declared.kind.Kind.{Kind}
use Rattle.sudo_grammar.specs.declared.kind.Kind.TheVariants as kinds
use Rattle.sudo_grammar.specs.declared.kind.Atom.{Atom}
use Rattle.sudo_grammar.specs.declared.kind.Member.{Member}
use Rattle.sudo_grammar.specs.declared.policy.Definition.{Definition}
use Rattle.sudo_grammar.specs.declared.policy.Runas.{Runas}
use Rattle.sudo_grammar.specs.declared.tag.Tag.{Tag}
use Rattle.sudo_grammar.specs.declared.policy.CommandSpec.{CommandSpec}
use Rattle.sudo_grammar.specs.declared.policy.Binding.{Binding}
use Rattle.sudo_grammar.specs.declared.policy.Operator.{Operator}
use Rattle.sudo_grammar.specs.declared.policy.Parameter.{Parameter}
use Rattle.sudo_grammar.specs.declared.policy.Parameter.TheVariants as parameters
use Rattle.sudo_grammar.specs.declared.policy.EntryBody.{EntryBody}
use Rattle.sudo_grammar.specs.declared.fault.Refusal.{Refusal}
use Rattle.sudo_grammar.specs.Words.{name_of, tag_of}
use Rattle.sudo_grammar.specs.Members.{atom_of}
use Rattle.sudo_grammar.specs.Openings.{Opening, Keyword, DefaultsLine, Directive, BadDirective, Other, opening_of}
use Rattle.sudo_grammar.specs.Openings.{is_direct, kind_of_mark, is_word, operator_of}
use Rattle.sudo_grammar.specs.Forms.{mark, bangs, list, spec, binding, parameter, as_tag, last_as_tag, Writes}
use Rattle.sudo_grammar.specs.Body.States.{Granting, Purpose, Defines, Users, Hosts, RunasUsers, RunasGroups, Binds}
use Rattle.sudo_grammar.specs.Body.States.{kind_for, bound_to, closed_section, State, Start, AliasName, AfterName}
use Rattle.sudo_grammar.specs.Body.States.{Item, AfterItem, Command, AfterCommand, RunasStart, GroupsStart}
use Rattle.sudo_grammar.specs.Body.States.{DefaultsStart, AtParameter, AfterSwitch, AtValue, AfterValue, Included}
use Rattle.sudo_grammar.specs.Body.States.{at_item, member_state, after_item, after_list, after_name, at_alias_name}
use Rattle.sudo_grammar.specs.Body.States.{at_command, command_state, at_paren, after_command, after_colon, at_runas}
use Rattle.sudo_grammar.specs.Body.States.{at_groups, at_binding, after_defaults, at_parameter, at_operator}
use Rattle.sudo_grammar.specs.Body.States.{after_switch, at_value, after_value, at_start, step, entry_after_list}
use Rattle.sudo_grammar.specs.Faults.{Room, Stop}
use Rattle.sudo_grammar.specs.Body.Reading.{entry_or_stop, reading, stop_at}
use Rattle.sudo_grammar.specs.Body.Remaining.{AfterSpec, AtCommand, AtTags, AtSpec, AtGroups, AfterList, InList}
use Rattle.sudo_grammar.specs.Body.Remaining.{AtItem, parameter_left, Completes}

pub ok_injective : {A B : Type 0} {x y : A} → ◌≡◌ {A = Result A B} (Ok x) (Ok y) → x ≡ y
ok_injective h = cc

-- what goes on from the next state
on : (state next : State) (e : EntryBody) (ts : List Token) → Some state ≡ Some next → Completes next e ts → Completes state e ts
on state next e ts h g = subst (λ x. Completes x e ts) (sym (some_injective _ _ h)) g

-- where a line may end, it goes on with no token
ends : (state : State) (e : EntryBody) → entry_after_list state ≡ Some e → Completes state e []
ends (AfterItem (Defines k done w) d) e h = ([], ([], (refl, ([], (refl, rw append-nil (sym (some_injective _ _ h)))))))
ends (AfterCommand g s) e h = inl ([], ([], (([], (refl, refl)), sym (some_injective _ _ h))))
ends (AfterSwitch b d n name) e h = inl ([], (refl, sym (some_injective _ _ h)))
ends (AfterValue b d) e h = ([], (refl, rw append-nil (sym (some_injective _ _ h))))
ends (Included folder hash path) e h = (refl, sym (some_injective _ _ h))
ends _ e h = cc

-- Lists.

-- an item of which nothing was read has all its signs
all-signs : (n more : ℕ) (ts rest : List Token) → n ≡ 0 + more → bangs more ts rest → bangs n ts rest
all-signs n more ts rest counted signs = subst (λ b. bangs b ts rest) (sym (counted ∙ zero-add more)) signs

back-bang : (p : Purpose) (n : ℕ) (d : List Member) (t : Token) (ts : List Token) (e : EntryBody)
    → t.kind ≡ tokens.Mark marks.Bang → AtItem p (suc n) d e ts → AtItem p n d e (t ∷ ts)
back-bang p n d t ts e is (m, (more, (after, (counted, ((middle, (signs, stands)), rest))))) =
    (m, (suc more, (after, (omega (arith, counted), ((middle, ((ts, ((is, refl), signs)), stands)), rest)))))

back-member : (p : Purpose) (n : ℕ) (d : List Member) (t : Token) (ts : List Token) (e : EntryBody) (next : State)
    (r : Result Atom Refusal) → atom_of (kind_for p) t.kind ≡ r → member_state p n d t r ≡ Some next
    → Completes next e ts → AtItem p n d e (t ∷ ts)
back-member p n d t ts e next (Err r) is h g = cc
back-member p n d t ts e next (Ok a) is h g = (
  record { bangs = n; token = t; atom = a },
  (
    0,
    (
      ts,
      (
        sym (add-zero n),
        (
          (t ∷ ts, (refl, ((refl, is), refl))),
          on (AfterItem p (d ++ record { bangs = n; token = t; atom = a } ∷ [])) next e ts h g,
        ),
      ),
    ),
  ),
)

back-item : (p : Purpose) (n : ℕ) (d : List Member) (t : Token) (ts : List Token) (e : EntryBody) (next : State)
    (kind : TokenKind) → t.kind ≡ kind → at_item p n d t kind ≡ Some next
    → Completes next e ts → AtItem p n d e (t ∷ ts)
back-item p n d t ts e next (tokens.Mark marks.Bang) is h g = back-bang p n d t ts e is (on (Item p (suc n) d) next e ts h g)
back-item p n d t ts e next _ is h g = back-member p n d t ts e next (atom_of (kind_for p) t.kind) refl h g

back-comma : (p : Purpose) (d : List Member) (t : Token) (ts : List Token) (e : EntryBody)
    → t.kind ≡ tokens.Mark marks.Comma → AtItem p 0 d e ts → InList p d e (t ∷ ts)
back-comma p d t ts e is (m, (more, (after, (counted, ((middle, (signs, stands)), (ms, (last, (further, follows)))))))) = (
  m ∷ ms,
  (
    last,
    (
      (ts, ((is, refl), (after, ((middle, (all-signs m.bangs more ts middle counted signs, stands)), further)))),
      rw append_assoc at follows,
    ),
  ),
)

-- the end of a list
leave : (p : Purpose) (d : List Member) (e : EntryBody) (ts : List Token) → AfterList p d e ts → InList p d e ts
leave p d e ts f = ([], (ts, (refl, subst (λ x. AfterList p x e ts) (sym (append-nil d)) f)))

-- a whole list, and what follows it
whole_list : (p : Purpose) (e : EntryBody) (ts : List Token) → AtItem p 0 [] e ts
    → (ms : List Member) × ((after : List Token) × (list (kind_for p) ms ts after × AfterList p ms e after))
whole_list p e ts (m, (more, (after, (counted, ((middle, (signs, stands)), (ms, (last, (further, follows)))))))) =
    (m ∷ ms, (last, ((after, ((middle, (all-signs m.bangs more ts middle counted signs, stands)), further)), follows)))

-- Commands.

-- a whole command with what stands before it, and what follows
whole_spec : (g : Granting) (e : EntryBody) (ts : List Token) → AtSpec g e ts
    → (s : CommandSpec) × ((after : List Token) × (spec s ts after × AfterSpec g s e after))
whole_spec g e ts (r, (a, (granted, (xs, (b, (tagged, (m, (more, (after, (counted, ((middle, (signs, stands)), rest))))))))))) = (
  record { runas = r; tags = xs; command = m },
  (after, ((a, (granted, (b, (tagged, (middle, (all-signs m.bangs more b middle counted signs, stands)))))), rest)),
)

-- no tag, and no runas
lift-tags : (g : Granting) (r : Option Runas) (d : List Tag) (e : EntryBody) (ts : List Token)
    → AtTags g r d e ts → Completes (Command g r d 0) e ts
lift-tags g (Some r) d e ts h = h
lift-tags g None (x ∷ d) e ts h = h
lift-tags g None [] e ts h = (None, (ts, (refl, h)))

lift-command : (g : Granting) (r : Option Runas) (d : List Tag) (n : ℕ) (e : EntryBody) (ts : List Token)
    → AtCommand g r d n e ts → Completes (Command g r d n) e ts
lift-command g r d (suc n) e ts h = h
lift-command g r d zero e ts h =
    lift-tags g r d e ts ([], (ts, (refl, subst (λ x. AtCommand g r x 0 e ts) (sym (append-nil d)) h)))

-- after a tag no runas may stand
after-tag : (g : Granting) (r : Option Runas) (d : List Tag) (x : Tag) (e : EntryBody) (ts : List Token)
    → Completes (Command g r (d ++ x ∷ []) 0) e ts → AtTags g r (d ++ x ∷ []) e ts
after-tag g (Some r) d x e ts h = h
after-tag g None [] x e ts h = h
after-tag g None (y ∷ d) x e ts h = h

back-command_bang : (g : Granting) (r : Option Runas) (d : List Tag) (n : ℕ) (t : Token) (ts : List Token) (e : EntryBody)
    → t.kind ≡ tokens.Mark marks.Bang → AtCommand g r d (suc n) e ts → AtCommand g r d n e (t ∷ ts)
back-command_bang g r d n t ts e is (m, (more, (after, (counted, ((middle, (signs, stands)), rest))))) =
    (m, (suc more, (after, (omega (arith, counted), ((middle, ((ts, ((is, refl), signs)), stands)), rest)))))

-- no tag has exclamation marks before it
signed-no-tag : (n : ℕ) (t : Token) (a : Atom) (x : Tag) → as_tag (record { bangs = suc n; token = t; atom = a }) ≡ Some x → ⊥
signed-no-tag n t a x h =
    let none : as_tag (record { bangs = suc n; token = t; atom = a }) ≡ None = ap (λ b. cond b (tag_of t.kind) None) (eqb-suc-zero n) in
    let same : ◌≡◌ {A = Option Tag} None (Some x) = sym none ∙ h in
    none_some _ same

-- a name before a colon was a tag
back-tag : (g : Granting) (r : Option Runas) (d : List Tag) (n : ℕ) (t : Token) (a : Atom) (ts : List Token) (e : EntryBody)
    → (x : Tag) × ((as_tag (record { bangs = n; token = t; atom = a }) ≡ Some x) × ((after : List Token)
    × (mark marks.Colon ts after × AtTags g r (d ++ x ∷ []) e after)))
    → Completes (Command g r d n) e (t ∷ ts)
back-tag g r d (suc n) t a ts e (x, (tagged, rest)) = absurd (signed-no-tag n t a x tagged)
back-tag g r d zero t a ts e (x, (tagged, (after, (colon, (xs, (b, (further, rest))))))) =
    lift-tags g r d e (t ∷ ts)
    (x ∷ xs, (b, ((after, ((ts, ((tagged, refl), colon)), further)), rw append_assoc at rest)))

back-named : (g : Granting) (r : Option Runas) (d : List Tag) (n : ℕ) (t : Token) (ts : List Token) (e : EntryBody) (next : State)
    (o : Result Atom Refusal) → atom_of kinds.Cmnd t.kind ≡ o → command_state g r d n t o ≡ Some next
    → Completes next e ts → Completes (Command g r d n) e (t ∷ ts)
back-named g r d n t ts e next (Err refusal) is h g' = cc
back-named g r d n t ts e next (Ok a) is h g' =
    go (on (AfterCommand g (record { runas = r; tags = d; command = record { bangs = n; token = t; atom = a } })) next e ts h g')
  where
    go : Completes (AfterCommand g (record { runas = r; tags = d; command = record { bangs = n; token = t; atom = a } })) e ts
        → Completes (Command g r d n) e (t ∷ ts)
    go (inl rest) = lift-command g r d n e (t ∷ ts)
        (record { bangs = n; token = t; atom = a }, (0, (ts, (sym (add-zero n), ((t ∷ ts, (refl, ((refl, is), refl))), rest)))))
    go (inr tagged) = back-tag g r d n t a ts e tagged

back-paren : (g : Granting) (r : Option Runas) (d : List Tag) (n : ℕ) (t : Token) (ts : List Token) (e : EntryBody) (next : State)
    → t.kind ≡ tokens.Mark marks.LeftParen → at_paren g r d n ≡ Some next
    → Completes next e ts → Completes (Command g r d n) e (t ∷ ts)
back-paren g None [] zero t ts e next is h g' = go (on (RunasStart g) next e ts h g')
  where
    go : Completes (RunasStart g) e ts → AtSpec g e (t ∷ ts)
    go (us, (a, (users, (gs, (after, ((b, (grouped, close)), rest)))))) = (
      Some (record { users = us; groups = gs }),
      (after, ((ts, ((is, refl), (a, (users, (b, (grouped, close)))))), rest)),
    )
back-paren g _ _ _ t ts e next is h g' = cc

back-command : (g : Granting) (r : Option Runas) (d : List Tag) (n : ℕ) (t : Token) (ts : List Token) (e : EntryBody) (next : State)
    (kind : TokenKind) → t.kind ≡ kind → at_command g r d n t kind ≡ Some next
    → Completes next e ts → Completes (Command g r d n) e (t ∷ ts)
back-command g r d n t ts e next (tokens.Mark marks.Bang) is h g' =
    lift-command g r d n e (t ∷ ts) (back-command_bang g r d n t ts e is (on (Command g r d (suc n)) next e ts h g'))
back-command g r d n t ts e next (tokens.Mark marks.LeftParen) is h g' = back-paren g r d n t ts e next is h g'
back-command g r d n t ts e next _ is h g' = back-named g r d n t ts e next (atom_of kinds.Cmnd t.kind) refl h g'

-- the last command of a section
last-tag : (cs : List CommandSpec) (s : CommandSpec) → last_as_tag (cs ++ s ∷ []) ≡ as_tag s.command
last-tag [] s = refl
last-tag (c ∷ []) s = refl
last-tag (c ∷ d ∷ cs) s = last-tag (d ∷ cs) s

back-next_spec : (g : Granting) (s : CommandSpec) (t : Token) (ts : List Token) (e : EntryBody)
    → t.kind ≡ tokens.Mark marks.Comma → AtSpec (record g { commands = g.commands ++ s ∷ [] }) e ts
    → AfterSpec g s e (t ∷ ts)
back-next_spec g s t ts e is h = go (whole_spec (record g { commands = g.commands ++ s ∷ [] }) e ts h)
  where
    go : (c : CommandSpec) × ((after : List Token) × (spec c ts after × AfterSpec (record g { commands = g.commands ++ s ∷ [] }) c e after))
        → AfterSpec g s e (t ∷ ts)
    go (c, (after, (one_spec, (cs, (ss, ((b, (further, sections)), is_e)))))) = (
      c ∷ cs,
      (
        ss,
        ((b, ((ts, ((is, refl), (after, (one_spec, further)))), rw append_assoc at sections)), rw append_assoc at is_e),
      ),
    )

back-next_section : (g : Granting) (s : CommandSpec) (t : Token) (ts : List Token) (e : EntryBody)
    → t.kind ≡ tokens.Mark marks.Colon → as_tag s.command ≡ None
    → AtItem (Hosts g.users (g.sections ++ closed_section g s ∷ [])) 0 [] e ts → AfterSpec g s e (t ∷ ts)
back-next_section g s t ts e is none h = go (whole_list (Hosts g.users (g.sections ++ closed_section g s ∷ [])) e ts h)
  where
    go : (hosts : List Member) × ((after : List Token)
        × (list kinds.Host hosts ts after × AfterList (Hosts g.users (g.sections ++ closed_section g s ∷ [])) hosts e after))
        → AfterSpec g s e (t ∷ ts)
    go (hosts, (after, (listed, (cs, (ss, ((a, (equals, (b, (commands, further)))), is_e)))))) = (
      [],
      (
        record { hosts = hosts; commands = cs } ∷ ss,
        (
          (
            t ∷ ts,
            (
              refl,
              (
                t ∷ ts,
                ((last-tag g.commands s ∙ none, refl), (ts, ((is, refl), (b, ((after, (listed, (a, (equals, commands)))), further))))),
              ),
            ),
          ),
          rw append_assoc at is_e,
        ),
      ),
    )

back-after_command : (g : Granting) (s : CommandSpec) (t : Token) (ts : List Token) (e : EntryBody) (next : State)
    (kind : TokenKind) → t.kind ≡ kind → after_command g s kind ≡ Some next
    → Completes next e ts → Completes (AfterCommand g s) e (t ∷ ts)
back-after_command g s t ts e next (tokens.Mark marks.Comma) is h g' =
    inl (back-next_spec g s t ts e is (on (Command (record g { commands = g.commands ++ s ∷ [] }) None [] 0) next e ts h g'))
back-after_command g s t ts e next (tokens.Mark marks.Colon) is h g' = go (as_tag s.command) refl h
  where
    go : (o : Option Tag) → as_tag s.command ≡ o → Some (after_colon g s o) ≡ Some next → Completes (AfterCommand g s) e (t ∷ ts)
    go None none h = inl (back-next_section g s t ts e is none (on (after_colon g s None) next e ts h g'))
    go (Some x) tagged h =
        inr (x, (tagged, (ts, ((is, refl), after-tag g s.runas s.tags x e ts (on (after_colon g s (Some x)) next e ts h g')))))
back-after_command g s t ts e next _ is h g' = cc

-- Parentheses.

back-close : (g : Granting) (us : Option (List Member)) (t : Token) (ts : List Token) (e : EntryBody)
    → t.kind ≡ tokens.Mark marks.RightParen
    → AtTags g (Some (record { users = us; groups = None })) [] e ts → AtGroups g us e (t ∷ ts)
back-close g us t ts e is rest = (None, (ts, ((t ∷ ts, (inl refl, (is, refl))), rest)))

back-groups : (g : Granting) (us : Option (List Member)) (t : Token) (ts : List Token) (e : EntryBody)
    → t.kind ≡ tokens.Mark marks.Colon → Completes (GroupsStart g us) e ts → AtGroups g us e (t ∷ ts)
back-groups g us t ts e is (None, (after, ((middle, (none, close)), rest))) =
    (None, (after, ((middle, (inr (is, none), close)), rest)))
back-groups g us t ts e is (Some gs, (after, ((middle, (listed, close)), rest))) =
    (Some gs, (after, ((middle, ((ts, ((is, refl), listed)), close)), rest)))

back-runas : (g : Granting) (t : Token) (ts : List Token) (e : EntryBody) (next : State)
    (kind : TokenKind) → t.kind ≡ kind → at_runas g t kind ≡ Some next
    → Completes next e ts → Completes (RunasStart g) e (t ∷ ts)
back-runas g t ts e next (tokens.Mark marks.RightParen) is h g' = (
  None,
  (
    t ∷ ts,
    (
      refl,
      back-close g None t ts e is
          (on (Command g (Some (record { users = None; groups = None })) [] 0) next e ts h g'),
    ),
  ),
)
back-runas g t ts e next (tokens.Mark marks.Colon) is h g' =
    (None, (t ∷ ts, (refl, back-groups g None t ts e is (on (GroupsStart g None) next e ts h g'))))
back-runas g t ts e next kind is h g' = go (whole_list (RunasUsers g) e (t ∷ ts) (back-item (RunasUsers g) 0 [] t ts e next kind is h g'))
  where
    go : (us : List Member) × ((after : List Token) × (list kinds.Runas us (t ∷ ts) after × AtGroups g (Some us) e after))
        → Completes (RunasStart g) e (t ∷ ts)
    go (us, rest) = (Some us, rest)

back-groups_start : (g : Granting) (us : Option (List Member)) (t : Token) (ts : List Token) (e : EntryBody) (next : State)
    (kind : TokenKind) → t.kind ≡ kind → at_groups g us t kind ≡ Some next
    → Completes next e ts → Completes (GroupsStart g us) e (t ∷ ts)
back-groups_start g us t ts e next (tokens.Mark marks.RightParen) is h g' = (
  None,
  (ts, ((t ∷ ts, (refl, (is, refl))), on (Command g (Some (record { users = us; groups = None })) [] 0) next e ts h g')),
)
back-groups_start g us t ts e next kind is h g' =
    go (whole_list (RunasGroups g us) e (t ∷ ts) (back-item (RunasGroups g us) 0 [] t ts e next kind is h g'))
  where
    go : (gs : List Member) × ((after : List Token) × (list kinds.Runas gs (t ∷ ts) after × AfterList (RunasGroups g us) gs e after))
        → Completes (GroupsStart g us) e (t ∷ ts)
    go (gs, (after, (listed, (b, (close, rest))))) = (Some gs, (b, ((after, (listed, close)), rest)))

-- Defaults.

-- a parameter of which nothing was read
whole_parameter : (x : Parameter) (ts rest : List Token) → parameter_left x 0 ts rest → parameter x ts rest
whole_parameter (parameters.Switch all name) ts rest (more, (counted, (middle, (signs, named)))) =
    (middle, (all-signs all more ts middle counted signs, named))
whole_parameter (parameters.Assign name operator value) ts rest h = h

back-parameter_bang : (x : Parameter) (n : ℕ) (t : Token) (ts rest : List Token) → t.kind ≡ tokens.Mark marks.Bang
    → parameter_left x (suc n) ts rest → parameter_left x n (t ∷ ts) rest
back-parameter_bang (parameters.Switch all name) n t ts rest is (more, (counted, (middle, (signs, named)))) =
    (suc more, (omega (arith, counted), (middle, ((ts, ((is, refl), signs)), named))))
back-parameter_bang (parameters.Assign name operator value) n t ts rest is h = absurd h

-- a word was the name of a switch, or of a parameter with a value
back-word : (b : Option Binding) (d : List Parameter) (n : ℕ) (t : Token) (ts : List Token) (e : EntryBody)
    → is_word t.kind ≡ true → Completes (AfterSwitch b d n t) e ts → Completes (AtParameter b d n) e (t ∷ ts)
back-word b d n t ts e is (inl (xs, (further, is_e))) = (
  parameters.Switch n t,
  (xs, ((ts, ((0, (sym (add-zero n), (t ∷ ts, (refl, ((refl, is), refl))))), further)), is_e)),
)
back-word b d (suc n) t ts e is (inr (none, rest)) = cc
back-word b d zero t ts e is (inr (none, (operator, (after, (assigned, (value, (xs, ((middle, (valued, further)), is_e)))))))) = (
  parameters.Assign t operator value,
  (xs, ((middle, ((ts, (((refl, is), refl), (after, (assigned, valued)))), further)), is_e)),
)

back-parameter : (b : Option Binding) (d : List Parameter) (n : ℕ) (t : Token) (ts : List Token) (e : EntryBody) (next : State)
    (kind : TokenKind) → t.kind ≡ kind → at_parameter b d n t kind ≡ Some next
    → Completes next e ts → Completes (AtParameter b d n) e (t ∷ ts)
back-parameter b d n t ts e next (tokens.Mark marks.Bang) is h g = go (on (AtParameter b d (suc n)) next e ts h g)
  where
    go : Completes (AtParameter b d (suc n)) e ts → Completes (AtParameter b d n) e (t ∷ ts)
    go (x, (xs, ((middle, (left, further)), is_e))) =
        (x, (xs, ((middle, (back-parameter_bang x n t ts middle is left, further)), is_e)))
back-parameter b d n t ts e next (tokens.Word quoted chars) is h g =
    back-word b d n t ts e (ap is_word is) (on (AfterSwitch b d n t) next e ts h g)
back-parameter b d n t ts e next _ is h g = cc

back-switch : (b : Option Binding) (d : List Parameter) (n : ℕ) (name t : Token) (ts : List Token) (e : EntryBody) (next : State)
    (kind : TokenKind) → t.kind ≡ kind → after_switch b d n name kind ≡ Some next
    → Completes next e ts → Completes (AfterSwitch b d n name) e (t ∷ ts)
back-switch b d n name t ts e next (tokens.Mark marks.Comma) is h g =
    go (on (AtParameter b (d ++ parameters.Switch n name ∷ []) 0) next e ts h g)
  where
    go : Completes (AtParameter b (d ++ parameters.Switch n name ∷ []) 0) e ts → Completes (AfterSwitch b d n name) e (t ∷ ts)
    go (x, (xs, ((middle, (left, further)), is_e))) =
        inl (x ∷ xs, ((ts, ((is, refl), (middle, (whole_parameter x ts middle left, further)))), rw append_assoc at is_e))
back-switch b d n name t ts e next kind is h g = go n (operator_of kind) (ap operator_of is) h
  where
    go : (n : ℕ) (o : Option Operator) → operator_of t.kind ≡ o → at_operator b d n name o ≡ Some next
        → Completes (AfterSwitch b d n name) e (t ∷ ts)
    go zero (Some operator) is h = inr (refl, (operator, (ts, ((is, refl), on (AtValue b d name operator) next e ts h g))))
    go zero None is h = cc
    go (suc n) o is h = cc

back-value : (b : Option Binding) (d : List Parameter) (name : Token) (operator : Operator) (t : Token) (ts : List Token)
    (e : EntryBody) (next : State) (kind : TokenKind) → t.kind ≡ kind → at_value b d name operator t kind ≡ Some next
    → Completes next e ts → Completes (AtValue b d name operator) e (t ∷ ts)
back-value b d name operator t ts e next (tokens.Word quoted chars) is h g =
    go (on (AfterValue b (d ++ parameters.Assign name operator t ∷ [])) next e ts h g)
  where
    go : Completes (AfterValue b (d ++ parameters.Assign name operator t ∷ [])) e ts → Completes (AtValue b d name operator) e (t ∷ ts)
    go (xs, (further, is_e)) = (t, (xs, ((ts, (((refl, ap is_word is), refl), further)), rw append_assoc at is_e)))
back-value b d name operator t ts e next _ is h g = cc

back-after_value : (b : Option Binding) (d : List Parameter) (t : Token) (ts : List Token) (e : EntryBody) (next : State)
    (kind : TokenKind) → t.kind ≡ kind → after_value b d kind ≡ Some next
    → Completes next e ts → Completes (AfterValue b d) e (t ∷ ts)
back-after_value b d t ts e next (tokens.Mark marks.Comma) is h g = go (on (AtParameter b d 0) next e ts h g)
  where
    go : Completes (AtParameter b d 0) e ts → Completes (AfterValue b d) e (t ∷ ts)
    go (x, (xs, ((middle, (left, further)), is_e))) =
        (x ∷ xs, ((ts, ((is, refl), (middle, (whole_parameter x ts middle left, further)))), is_e))
back-after_value b d t ts e next _ is h g = cc

bound : (k : Kind) (ms : List Member) (t : Token) (ts after : List Token) → is_direct t ≡ true → kind_of_mark t.kind ≡ Some k
    → list k ms ts after → binding (Some (bound_to k ms)) (t ∷ ts) after
bound kinds.User ms t ts after direct is listed = (ts, (((direct, is), refl), listed))
bound kinds.Runas ms t ts after direct is listed = (ts, (((direct, is), refl), listed))
bound kinds.Host ms t ts after direct is listed = (ts, (((direct, is), refl), listed))
bound kinds.Cmnd ms t ts after direct is listed = (ts, (((direct, is), refl), listed))

back-binding : (t : Token) (ts : List Token) (e : EntryBody) (next : State) (k : Option Kind)
    → is_direct t ≡ true → kind_of_mark t.kind ≡ k → at_binding k ≡ Some next
    → Completes next e ts → Completes DefaultsStart e (t ∷ ts)
back-binding t ts e next None direct is h g = cc
back-binding t ts e next (Some k) direct is h g = go (whole_list (Binds k) e ts (on (Item (Binds k) 0 []) next e ts h g))
  where
    go : (ms : List Member) × ((after : List Token) × (list k ms ts after × AfterList (Binds k) ms e after))
        → Completes DefaultsStart e (t ∷ ts)
    go (ms, (after, (listed, (xs, (further, is_e))))) =
        (Some (bound_to k ms), (xs, ((after, (bound k ms t ts after direct is listed, further)), is_e)))

back-defaults : (t : Token) (ts : List Token) (e : EntryBody) (next : State) (direct : Bool)
    → is_direct t ≡ direct → after_defaults direct t ≡ Some next → Completes next e ts → Completes DefaultsStart e (t ∷ ts)
back-defaults t ts e next true is h g = back-binding t ts e next (kind_of_mark t.kind) is refl h g
back-defaults t ts e next false is h g = go (back-parameter None [] 0 t ts e next t.kind refl h g)
  where
    go : Completes (AtParameter None [] 0) e (t ∷ ts) → Completes DefaultsStart e (t ∷ ts)
    go (x, (xs, ((middle, (left, further)), is_e))) =
        (None, (x ∷ xs, ((t ∷ ts, ((is, refl), (middle, (whole_parameter x (t ∷ ts) middle left, further)))), is_e)))

-- After a list.

back-list : (p : Purpose) (d : List Member) (t : Token) (ts : List Token) (e : EntryBody) (next : State)
    (kind : TokenKind) → t.kind ≡ kind → after_list p d t kind ≡ Some next
    → Completes next e ts → AfterList p d e (t ∷ ts)
back-list (Defines k done w) d t ts e next (tokens.Mark marks.Colon) is h g =
    go (on (AliasName k (done ++ record { name = w; members = d } ∷ [])) next e ts h g)
  where
    go : Completes (AliasName k (done ++ record { name = w; members = d } ∷ [])) e ts → AfterList (Defines k done w) d e (t ∷ ts)
    go ([], (none, h)) = absurd none
    go (x ∷ xs, (forms, is_e)) = (x ∷ xs, ((ts, ((is, refl), forms)), rw append_assoc at is_e))
back-list (Defines k done w) d t ts e next _ is h g = cc
back-list Users d t ts e next kind is h g =
    go (whole_list (Hosts d []) e (t ∷ ts) (back-item (Hosts d []) 0 [] t ts e next kind is h g))
  where
    go : (hosts : List Member) × ((after : List Token) × (list kinds.Host hosts (t ∷ ts) after × AfterList (Hosts d []) hosts e after))
        → AfterList Users d e (t ∷ ts)
    go (hosts, (after, (listed, (cs, (ss, ((a, (equals, (b, (commands, further)))), is_e)))))) = (
      record { hosts = hosts; commands = cs } ∷ ss,
      ((b, ((after, (listed, (a, (equals, commands)))), further)), is_e),
    )
back-list (Hosts us done) d t ts e next (tokens.Mark marks.Equals) is h g =
    go (whole_spec (record { users = us; sections = done; hosts = d; commands = [] }) e ts
    (on (Command (record { users = us; sections = done; hosts = d; commands = [] }) None [] 0) next e ts h g))
  where
    go : (s : CommandSpec) × ((after : List Token)
        × (spec s ts after × AfterSpec (record { users = us; sections = done; hosts = d; commands = [] }) s e after))
        → AfterList (Hosts us done) d e (t ∷ ts)
    go (s, (after, (one_spec, (cs, (ss, ((b, (further, sections)), is_e)))))) =
        (s ∷ cs, (ss, ((ts, ((is, refl), (b, ((after, (one_spec, further)), sections)))), is_e)))
back-list (Hosts us done) d t ts e next _ is h g = cc
back-list (RunasUsers g) d t ts e next (tokens.Mark marks.Colon) is h g' =
    back-groups g (Some d) t ts e is (on (GroupsStart g (Some d)) next e ts h g')
back-list (RunasUsers g) d t ts e next (tokens.Mark marks.RightParen) is h g' =
    back-close g (Some d) t ts e is (on (Command g (Some (record { users = Some d; groups = None })) [] 0) next e ts h g')
back-list (RunasUsers g) d t ts e next _ is h g' = cc
back-list (RunasGroups g us) d t ts e next (tokens.Mark marks.RightParen) is h g' =
    (ts, ((is, refl), on (Command g (Some (record { users = us; groups = Some d })) [] 0) next e ts h g'))
back-list (RunasGroups g us) d t ts e next _ is h g' = cc
back-list (Binds k) d t ts e next kind is h g = go (back-parameter (Some (bound_to k d)) [] 0 t ts e next kind is h g)
  where
    go : Completes (AtParameter (Some (bound_to k d)) [] 0) e (t ∷ ts) → AfterList (Binds k) d e (t ∷ ts)
    go (x, (xs, ((middle, (left, further)), is_e))) =
        (x ∷ xs, ((middle, (whole_parameter x (t ∷ ts) middle left, further)), is_e))

back-after : (p : Purpose) (d : List Member) (t : Token) (ts : List Token) (e : EntryBody) (next : State)
    (kind : TokenKind) → t.kind ≡ kind → after_item p d t kind ≡ Some next
    → Completes next e ts → InList p d e (t ∷ ts)
back-after p d t ts e next (tokens.Mark marks.Comma) is h g = back-comma p d t ts e is (on (Item p 0 d) next e ts h g)
back-after p d t ts e next kind is h g = leave p d e (t ∷ ts) (back-list p d t ts e next kind is h g)

-- Aliases, and the first token.

back-name : (room : Room) (k : Kind) (d : List Definition) (t : Token) (ts : List Token) (e : EntryBody) (next : State)
    (w : Option (List ℕ)) → name_of t.kind ≡ w → at_alias_name room k d w ≡ Some next
    → Completes next e ts → Completes (AliasName k d) e (t ∷ ts)
back-name room k d t ts e next None is h g = cc
back-name room k d t ts e next (Some w) is h g = go (ltb (length d) (room k)) h
  where
    named : Completes (AfterName k d w) e ts → Completes (AliasName k d) e (t ∷ ts)
    named (ms, (ds, ((a, (equals, (b, (listed, further)))), is_e))) =
        (record { name = w; members = ms } ∷ ds, ((b, ((ts, ((is, refl), (a, (equals, listed)))), further)), is_e))

    go : (b : Bool) → cond b (Some (AfterName k d w)) None ≡ Some next → Completes (AliasName k d) e (t ∷ ts)
    go false h = cc
    go true h = named (on (AfterName k d w) next e ts h g)

back-equals : (k : Kind) (d : List Definition) (w : List ℕ) (t : Token) (ts : List Token) (e : EntryBody) (next : State)
    (kind : TokenKind) → t.kind ≡ kind → after_name k d w kind ≡ Some next
    → Completes next e ts → Completes (AfterName k d w) e (t ∷ ts)
back-equals k d w t ts e next (tokens.Mark marks.Equals) is h g =
    go (whole_list (Defines k d w) e ts (on (Item (Defines k d w) 0 []) next e ts h g))
  where
    go : (ms : List Member) × ((after : List Token) × (list k ms ts after × AfterList (Defines k d w) ms e after))
        → Completes (AfterName k d w) e (t ∷ ts)
    go (ms, (after, (listed, (ds, (further, is_e))))) = (ms, (ds, ((ts, ((is, refl), (after, (listed, further)))), is_e)))
back-equals k d w t ts e next _ is h g = cc

back-start : (t : Token) (ts : List Token) (e : EntryBody) (next : State)
    (o : Opening) → opening_of t.kind ≡ o → at_start o t ≡ Some next
    → Completes next e ts → Writes e (t ∷ ts)
back-start t ts e next (Keyword k) is h g = go (on (AliasName k []) next e ts h g)
  where
    go : Completes (AliasName k []) e ts → Writes e (t ∷ ts)
    go (xs, (forms, is_e)) = subst (λ x. Writes x (t ∷ ts)) (sym is_e) (ts, ((is, refl), forms))
back-start t ts e next DefaultsLine is h g = go (on DefaultsStart next e ts h g)
  where
    go : Completes DefaultsStart e ts → Writes e (t ∷ ts)
    go (b, (xs, (forms, is_e))) = subst (λ x. Writes x (t ∷ ts)) (sym is_e) (ts, ((is, refl), forms))
back-start t ts e next (Directive folder hash path) is h g = go (on (Included folder hash path) next e ts h g)
  where
    go : Completes (Included folder hash path) e ts → Writes e (t ∷ ts)
    go (none, is_e) = subst (λ x. Writes x (t ∷ ts)) (sym is_e) (is, none)
back-start t ts e next (BadDirective path) is h g = cc
back-start t ts e next Other is h g = go (whole_list Users e (t ∷ ts) (back-item Users 0 [] t ts e next t.kind refl h g))
  where
    go : (us : List Member) × ((after : List Token) × (list kinds.User us (t ∷ ts) after × AfterList Users us e after))
        → Writes e (t ∷ ts)
    go (us, (after, (listed, (ss, (sections, is_e))))) =
        subst (λ x. Writes x (t ∷ ts)) (sym is_e) (t ∷ ts, ((is, refl), (after, (listed, sections))))

pub backward : (room : Room) (state next : State) (t : Token) (ts : List Token) (e : EntryBody)
    → step room state t ≡ Some next → Completes next e ts → Completes state e (t ∷ ts)
backward room Start next t ts e h g = back-start t ts e next (opening_of t.kind) refl h g
backward room (AliasName k d) next t ts e h g = back-name room k d t ts e next (name_of t.kind) refl h g
backward room (AfterName k d w) next t ts e h g = back-equals k d w t ts e next t.kind refl h g
backward room (Item p n d) next t ts e h g = back-item p n d t ts e next t.kind refl h g
backward room (AfterItem p d) next t ts e h g = back-after p d t ts e next t.kind refl h g
backward room (Command granting r d n) next t ts e h g = back-command granting r d n t ts e next t.kind refl h g
backward room (AfterCommand granting s) next t ts e h g = back-after_command granting s t ts e next t.kind refl h g
backward room (RunasStart granting) next t ts e h g = back-runas granting t ts e next t.kind refl h g
backward room (GroupsStart granting us) next t ts e h g = back-groups_start granting us t ts e next t.kind refl h g
backward room DefaultsStart next t ts e h g = back-defaults t ts e next (is_direct t) refl h g
backward room (AtParameter b d n) next t ts e h g = back-parameter b d n t ts e next t.kind refl h g
backward room (AfterSwitch b d n name) next t ts e h g = back-switch b d n name t ts e next t.kind refl h g
backward room (AtValue b d name operator) next t ts e h g = back-value b d name operator t ts e next t.kind refl h g
backward room (AfterValue b d) next t ts e h g = back-after_value b d t ts e next t.kind refl h g
backward room (Included folder hash path) next t ts e h g = cc

-- from a state on, what is read goes on so
pub sound : (room : Room) (state : State) (ts : List Token) (e : EntryBody) → reading room state ts ≡ Ok e → Completes state e ts
sound room state [] e h = go (entry_after_list state) refl h
  where
    go : (r : Option EntryBody) → entry_after_list state ≡ r → entry_or_stop state r ≡ Ok e → Completes state e []
    go (Some x) is h = ends state e (is ∙ ap Some (ok_injective h))
    go None is h = cc
sound room state (t ∷ ts) e h = go (step room state t) refl h (λ next. sound room next ts e)
  where
    go : (r : Option State) → step room state t ≡ r
        → elim r as (λ _. Result EntryBody Stop) [ Some next ↦ reading room next ts | None ↦ Err (stop_at state (t ∷ ts)) ] ≡ Ok e
        → ((next : State) → reading room next ts ≡ Ok e → Completes next e ts)
        → Completes state e (t ∷ ts)
    go (Some next) is h hyp = backward room state next t ts e is (hyp next h)
    go None is h hyp = cc
