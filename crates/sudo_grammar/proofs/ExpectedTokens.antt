-- The token that a state expects could stand there.
use Rattle.std.proofs.Common.{cond, inl, inr, ◌⊎◌, ◌≡◌, ℕ, suc, ◌+◌, ◌<◌, List, [], ◌∷◌, ◌++◌, length, refl, ap, sym, ◌∙◌, subst}
use Rattle.std.proofs.Common.{append-nil, arith, lt-ltb, Option, None, Some, Result, Ok, Err, true, false, Bool}
use Rattle.std.specs.Prelude.{codes, is_some, ◌&&◌}
use Rattle.std.specs.Str.{bytes_eq}
use Rattle.sudo_text.specs.declared.token.Ch.{Ch}
use Rattle.sudo_text.specs.declared.token.Mark.TheVariants as marks
use Rattle.sudo_text.specs.declared.token.Token.{Token}
use Rattle.sudo_text.specs.declared.token.TokenKind.{TokenKind}
use Rattle.sudo_text.specs.declared.token.TokenKind.TheVariants as tokens
use Rattle.sudo_grammar.specs.declared.kind.Kind.{Kind}
use Rattle.sudo_grammar.specs.declared.kind.Kind.TheVariants as kinds
use Rattle.sudo_grammar.specs.declared.kind.Atom.{Atom}
use Rattle.sudo_grammar.specs.declared.kind.Member.{Member}
use Rattle.sudo_grammar.specs.declared.policy.Definition.{Definition}
use Rattle.sudo_grammar.specs.declared.policy.Binding.{Binding}
use Rattle.sudo_grammar.specs.declared.policy.Parameter.{Parameter}
use Rattle.sudo_grammar.specs.declared.policy.EntryBody.{EntryBody}
use Rattle.sudo_grammar.specs.declared.fault.Expected.{Expected}
use Rattle.sudo_grammar.specs.declared.fault.Expected.TheVariants as wants
use Rattle.sudo_grammar.specs.declared.fault.Refusal.{Refusal}
use Rattle.sudo_grammar.specs.declared.fault.Refusal.TheVariants as refusals
use Rattle.sudo_grammar.specs.declared.fault.Unsupported.TheVariants as forms
use Rattle.sudo_grammar.specs.Words.{name_of, plain_word, kind_of_keyword, is_digest_name}
use Rattle.sudo_grammar.specs.Members.{atom_of, expected_in}
use Rattle.sudo_grammar.specs.Openings.{Opening, Keyword, DefaultsLine, Directive, BadDirective, Other, opening_of}
use Rattle.sudo_grammar.specs.Openings.{plain_opening, is_word, is_percent, word_passes}
use Rattle.sudo_grammar.specs.Body.States.{Purpose, Defines, Users, Hosts, RunasUsers, RunasGroups, Binds, kind_for}
use Rattle.sudo_grammar.specs.Body.States.{bound_to, State, Start, AliasName, AfterName, Item, AfterItem, Command}
use Rattle.sudo_grammar.specs.Body.States.{AfterCommand, RunasStart, GroupsStart, DefaultsStart, AtParameter}
use Rattle.sudo_grammar.specs.Body.States.{AfterSwitch, AtValue, AfterValue, Included, at_start, after_item}
use Rattle.sudo_grammar.specs.Body.States.{after_name, after_defaults, at_alias_name, at_parameter, step}
use Rattle.sudo_grammar.specs.Body.States.{entry_after_list, state_after}
use Rattle.sudo_grammar.specs.Faults.{Room}
use Rattle.sudo_grammar.specs.Refusals.{is_next, is_next_at, with_next, refused_atom, refused_member, refused_name}
use Rattle.sudo_grammar.specs.Refusals.{refused_start}
use Rattle.sudo_grammar.specs.Body.Refused.{is_option, or_option, last_command, refusal_after_list, refused_at}
use Rattle.sudo_grammar.specs.Body.Reading.{entry_or_stop, reading}
use Rattle.sudo_grammar.specs.Standing.{BeginsEntry, MembersStand, CanStand}
use Rattle.sudo_grammar.proofs.Complete.{at_item-takes, at_command-takes, hosts-first, runas-first, groups-first}
use Rattle.sudo_grammar.proofs.Complete.{binds-first, word-parameter, word-value}
use Rattle.sudo_grammar.proofs.Sound.{sound}
use Rattle.sudo_grammar.proofs.Stops.{Covers, state_after-wide, begins, reading-front}
use Rattle.sudo_grammar.proofs.Steps.{state_after-step}
use Rattle.sudo_grammar.proofs.SyntaxWords.{syntax_word}

-- which word a refusal has

pub syntax_injective : (x y : Expected) → refusals.Syntax x ≡ refusals.Syntax y → x ≡ y
syntax_injective x y h = cc

with-next-word : (kind : Kind) (t : Token) (ts : List Token) (r : Refusal) (x : Expected)
    → with_next kind t ts r ≡ refusals.Syntax x → r ≡ refusals.Syntax x
with-next-word kinds.Host t ts r x h = h
with-next-word kinds.Cmnd t ts r x h = go (word_passes is_digest_name (plain_word t.kind) && is_next marks.Colon ts) h
  where
    go : (b : Bool) → cond b (refusals.Unsupported forms.Digest) r ≡ refusals.Syntax x → r ≡ refusals.Syntax x
    go true h = cc
    go false h = h
with-next-word kinds.User t ts r x h = go (is_percent t.kind && is_next_at t.end marks.Colon ts) h
  where
    go : (b : Bool) → cond b (refusals.Unsupported forms.NonUnixGroup) r ≡ refusals.Syntax x → r ≡ refusals.Syntax x
    go true h = cc
    go false h = h
with-next-word kinds.Runas t ts r x h = go (is_percent t.kind && is_next_at t.end marks.Colon ts) h
  where
    go : (b : Bool) → cond b (refusals.Unsupported forms.NonUnixGroup) r ≡ refusals.Syntax x → r ≡ refusals.Syntax x
    go true h = cc
    go false h = h

pub member-word : (kind : Kind) (ts : List Token) (x : Expected) → refused_member kind ts ≡ refusals.Syntax x → x ≡ expected_in kind
member-word kind [] x h = sym (syntax_injective (expected_in kind) x h)
member-word kind (t ∷ ts) x h = go (atom_of kind t.kind) refl h
  where
    go : (o : Result Atom Refusal) → atom_of kind t.kind ≡ o → refused_atom kind t ts o ≡ refusals.Syntax x → x ≡ expected_in kind
    go (Ok a) is h = sym (syntax_injective (expected_in kind) x h)
    go (Err r) is h = syntax_word kind t.kind r is x (with-next-word kind t ts r x h)

no-option : (m : Option Member) (ts : List Token) (r : Refusal) (x : Expected)
    → or_option m ts r ≡ refusals.Syntax x → r ≡ refusals.Syntax x
no-option m ts r x h = go (is_option m ts) h
  where
    go : (b : Bool) → cond b (refusals.Unsupported forms.CommandOption) r ≡ refusals.Syntax x → r ≡ refusals.Syntax x
    go true h = cc
    go false h = h

pub name-word : (ts : List Token) (x : Expected) → refused_name ts ≡ refusals.Syntax x → wants.AliasName ≡ x
name-word [] x h = syntax_injective wants.AliasName x h
name-word (t ∷ ts) x h = go (is_some (name_of t.kind)) h
  where
    go : (b : Bool) → cond b refusals.TooMany (refusals.Syntax wants.AliasName) ≡ refusals.Syntax x → wants.AliasName ≡ x
    go true h = cc
    go false h = syntax_injective wants.AliasName x h

-- what may stand

pub members-stand : (kind : Kind) (front : List Token) → MembersStand kind front → CanStand (expected_in kind) front
members-stand kinds.User front h = (kinds.User, ((λ is. cc), h))
members-stand kinds.Runas front h = (kinds.Runas, ((λ is. cc), h))
members-stand kinds.Host front h = (kinds.Host, ((λ is. cc), h))
members-stand kinds.Cmnd front h = h

-- a token that stands for a user begins a line
user-first : (k : TokenKind) (a : Atom) (path : List Ch) → atom_of kinds.User k ≡ Ok a → opening_of k ≡ BadDirective path → ⊥
user-first (tokens.Include folder hash path) a bad h is = cc
user-first (tokens.Mark m) a bad h is = cc
user-first (tokens.Command path args) a bad h is = cc
user-first (tokens.Word quoted cs) a bad h is = go (plain_word (tokens.Word quoted cs)) is
  where
    go : (o : Option (List ℕ)) → plain_opening o ≡ BadDirective bad → ⊥
    go None is = cc
    go (Some w) is = keyword (kind_of_keyword w) is
      where
        keyword : (o : Option Kind) → Rattle.sudo_grammar.specs.Openings.word_opening o w ≡ BadDirective bad → ⊥
        keyword (Some k) is = cc
        keyword None is = last (bytes_eq w (codes "Defaults")) is
          where
            last : (b : Bool) → cond b DefaultsLine Other ≡ BadDirective bad → ⊥
            last true is = cc
            last false is = cc

start-takes : (t : Token) (a : Atom) (o : Opening) → opening_of t.kind ≡ o → atom_of kinds.User t.kind ≡ Ok a
    → (next : State) × (at_start o t ≡ Some next)
start-takes t a (Keyword k) is h = (AliasName k [], refl)
start-takes t a DefaultsLine is h = (DefaultsStart, refl)
start-takes t a (Directive folder hash path) is h = (Included folder hash path, refl)
start-takes t a (BadDirective path) is h = absurd (user-first t.kind a path h is)
start-takes t a Other is h = (AfterItem Users (record { bangs = 0; token = t; atom = a } ∷ []), at_item-takes Users 0 [] t a h)

-- a word or an exclamation mark begins a parameter
parameter-begins : (b : Option Binding) (d : List Parameter) (n : ℕ) (t : Token)
    → (is_word t.kind ≡ true) ⊎ (t.kind ≡ tokens.Mark marks.Bang) → (next : State) × (at_parameter b d n t t.kind ≡ Some next)
parameter-begins b d n t (inl word) = (AfterSwitch b d n t, word-parameter b d n t t.kind word)
parameter-begins b d n t (inr bang) = (AtParameter b d (suc n), ap (at_parameter b d n t) bang)

module _ (room : Room) (front : List Token) where
  pub step-begins : (state next : State) (t : Token) → state_after room Start front ≡ Some state → step room state t ≡ Some next
      → BeginsEntry (front ++ t ∷ [])
  step-begins state next t reached is = begins room (front ++ t ∷ []) next (state_after-step room Start state next front t reached is)

  pub may-end : (state : State) (e : EntryBody) → state_after room Start front ≡ Some state → entry_after_list state ≡ Some e
      → CanStand wants.EndOfLine front
  may-end state e reached is = (
    e,
    sound room Start front e
        (ap (reading room Start) (sym (append-nil front)) ∙ reading-front room Start state front [] reached ∙ ap (entry_or_stop state) is),
  )

  pub name-stands : (k : Kind) (d : List Definition) → state_after room Start front ≡ Some (AliasName k d)
      → CanStand wants.AliasName front
  name-stands k d reached t w named =
      let wide : Room = λ k. room k + suc (length d) in
      let covers : Covers room wide = λ k. omega arith in
      let fits : length d < wide k = omega arith in
      let taken : step wide (AliasName k d) t ≡ Some (AfterName k d w) =
      ap (at_alias_name wide k d) named ∙ ap (λ b. cond b (Some (AfterName k d w)) None) (lt-ltb (length d) (wide k) fits) in
      begins wide (front ++ t ∷ []) (AfterName k d w)
      (state_after-step wide Start (AliasName k d) (AfterName k d w) front t (state_after-wide room wide covers Start
      (AliasName k d) front reached) taken)

  pub start-stands : (ts : List Token) (o : Opening) (x : Expected) → state_after room Start front ≡ Some Start
      → refused_start ts o ≡ refusals.Syntax x → CanStand x front
  start-stands ts o x reached h = go o h
    where
      users : MembersStand kinds.User front
      users t a is = taken (start-takes t a (opening_of t.kind) refl is)
        where
          taken : (next : State) × (at_start (opening_of t.kind) t ≡ Some next) → BeginsEntry (front ++ t ∷ [])
          taken (next, e) = step-begins Start next t reached e

      member : refused_member kinds.User ts ≡ refusals.Syntax x → CanStand x front
      member h = subst (λ y. CanStand y front) (sym (member-word kinds.User ts x h)) (members-stand kinds.User front users)

      directive : CanStand wants.Path front
      directive t folder hash path is = step-begins Start (Included folder hash path) t reached (ap (λ o. at_start o t) is)

      go : (o : Opening) → refused_start ts o ≡ refusals.Syntax x → CanStand x front
      go (BadDirective []) h = subst (λ y. CanStand y front) (syntax_injective wants.Path x h) directive
      go (BadDirective (c ∷ cs)) h = cc
      go _ h = member h

  -- where a member of lists of the kind must stand
  member-stands : (kind : Kind) (ts : List Token) (x : Expected) → refused_member kind ts ≡ refusals.Syntax x
      → MembersStand kind front → CanStand x front
  member-stands kind ts x h all = subst (λ y. CanStand y front) (sym (member-word kind ts x h)) (members-stand kind front all)

  -- where a word is always the same
  fixed : (w x : Expected) → refusals.Syntax w ≡ refusals.Syntax x → CanStand w front → CanStand x front
  fixed w x h stands = subst (λ y. CanStand y front) (syntax_injective w x h) stands

  pub after-stands : (p : Purpose) (d : List Member) (ts : List Token) (x : Expected)
      → state_after room Start front ≡ Some (AfterItem p d) → refusal_after_list p ts ≡ refusals.Syntax x → CanStand x front
  after-stands (Defines k done w) d ts x reached h = fixed wants.EndOfLine x h (may-end (AfterItem (Defines k done w) d) _ reached refl)
  after-stands Users d ts x reached h = member-stands kinds.Host ts x h
      (λ t a is. step-begins (AfterItem Users d) _ t reached (hosts-first room d t _ t.kind refl (at_item-takes (Hosts d []) 0 [] t a is)))
  after-stands (Hosts us ss) d ts x reached h = fixed wants.Equals x h
      (λ t is. step-begins (AfterItem (Hosts us ss) d) _ t reached (ap (after_item (Hosts us ss) d t) is))
  after-stands (RunasUsers g) d ts x reached h = fixed wants.RightParen x h
      (λ t is. step-begins (AfterItem (RunasUsers g) d) _ t reached (ap (after_item (RunasUsers g) d t) is))
  after-stands (RunasGroups g us) d ts x reached h = fixed wants.RightParen x h
      (λ t is. step-begins (AfterItem (RunasGroups g us) d) _ t reached (ap (after_item (RunasGroups g us) d t) is))
  after-stands (Binds k) d ts x reached h = fixed wants.Parameter x h stands
    where
      stands : CanStand wants.Parameter front
      stands t begun apart = go (parameter-begins (Some (bound_to k d)) [] 0 t begun)
        where
          go : (next : State) × (at_parameter (Some (bound_to k d)) [] 0 t t.kind ≡ Some next) → BeginsEntry (front ++ t ∷ [])
          go (next, is) = step-begins (AfterItem (Binds k) d) next t reached (binds-first k d t next t.kind is)

  pub state-stands : (state : State) (ts : List Token) (x : Expected) → state_after room Start front ≡ Some state
      → refused_at state ts ≡ refusals.Syntax x → CanStand x front
  state-stands Start [] x reached h = start-stands [] Other x reached h
  state-stands Start (t ∷ ts) x reached h = start-stands (t ∷ ts) (opening_of t.kind) x reached h
  state-stands (AliasName k d) ts x reached h = subst (λ y. CanStand y front) (name-word ts x h) (name-stands k d reached)
  state-stands (AfterName k d w) ts x reached h = fixed wants.Equals x h
      (λ t is. step-begins (AfterName k d w) _ t reached (ap (after_name k d w) is))
  state-stands (Item p n d) ts x reached h = member-stands (kind_for p) ts x h
      (λ t a is. step-begins (Item p n d) _ t reached (at_item-takes p n d t a is))
  state-stands (AfterItem p d) ts x reached h =
      after-stands p d ts x reached (no-option (last_command (kind_for p) d) ts (refusal_after_list p ts) x h)
  state-stands (Command g r d n) ts x reached h = member-stands kinds.Cmnd ts x h
      (λ t a is. step-begins (Command g r d n) _ t reached (at_command-takes g r d n t a is))
  state-stands (AfterCommand g s) ts x reached h =
      fixed wants.EndOfLine x (no-option (Some s.command) ts (refusals.Syntax wants.EndOfLine) x h)
      (may-end (AfterCommand g s) _ reached refl)
  state-stands (RunasStart g) ts x reached h = member-stands kinds.Runas ts x h
      (λ t a is. step-begins (RunasStart g) _ t reached (runas-first room g t _ t.kind refl (at_item-takes (RunasUsers g) 0 [] t a is)))
  state-stands (GroupsStart g us) ts x reached h = member-stands kinds.Runas ts x h
      (λ t a is. step-begins (GroupsStart g us) _ t reached
      (groups-first room g us t _ t.kind refl (at_item-takes (RunasGroups g us) 0 [] t a is)))
  state-stands DefaultsStart ts x reached h = fixed wants.Parameter x h stands
    where
      stands : CanStand wants.Parameter front
      stands t begun apart = go (parameter-begins None [] 0 t begun)
        where
          go : (next : State) × (at_parameter None [] 0 t t.kind ≡ Some next) → BeginsEntry (front ++ t ∷ [])
          go (next, is) = step-begins DefaultsStart next t reached (ap (λ b. after_defaults b t) apart ∙ is)
  state-stands (AtParameter b d n) ts x reached h = fixed wants.Parameter x h stands
    where
      stands : CanStand wants.Parameter front
      stands t begun apart = go (parameter-begins b d n t begun)
        where
          go : (next : State) × (at_parameter b d n t t.kind ≡ Some next) → BeginsEntry (front ++ t ∷ [])
          go (next, is) = step-begins (AtParameter b d n) next t reached is
  state-stands (AfterSwitch b d n name) ts x reached h =
      fixed wants.EndOfLine x h (may-end (AfterSwitch b d n name) _ reached refl)
  state-stands (AtValue b d name operator) ts x reached h = fixed wants.Value x h
      (λ t word. step-begins (AtValue b d name operator) _ t reached (word-value b d name operator t t.kind word))
  state-stands (AfterValue b d) ts x reached h = fixed wants.EndOfLine x h (may-end (AfterValue b d) _ reached refl)
  state-stands (Included folder hash path) ts x reached h =
      fixed wants.EndOfLine x h (may-end (Included folder hash path) _ reached refl)
