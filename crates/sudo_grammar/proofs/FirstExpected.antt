-- What is expected at a state, by the tokens before it: the sort that the state's refusal names could stand there, and
-- none before it in the order, since a token of each of these sorts is refused.
use Rattle.std.proofs.Common.{cond, inl, inr, ◌⊎◌, ◌≡◌, ℕ, List, [], ◌∷◌, ◌++◌, refl, ap, sym, ◌∙◌}
use Rattle.std.proofs.Common.{Option, None, Some, Result, Ok, Err, true, false, Bool}
use Rattle.std.specs.Prelude.{codes}
use Rattle.std.specs.Str.{bytes_eq}
use Rattle.sudo_base.proofs.Options.{some_injective}
use Rattle.sudo_text.specs.declared.token.Mark.TheVariants as marks
use Rattle.sudo_text.specs.declared.token.Token.{Token}
use Rattle.sudo_text.specs.declared.token.TokenKind.{TokenKind}
use Rattle.sudo_text.specs.declared.token.TokenKind.TheVariants as tokens
use Rattle.sudo_grammar.specs.declared.kind.Kind.TheVariants as kinds
use Rattle.sudo_grammar.specs.declared.kind.Atom.{Atom}
use Rattle.sudo_grammar.specs.declared.kind.Atom.TheVariants as atoms
use Rattle.sudo_grammar.specs.declared.fault.Expected.{Expected}
use Rattle.sudo_grammar.specs.declared.fault.Expected.TheVariants as wants
use Rattle.sudo_grammar.specs.declared.fault.Refusal.{Refusal}
use Rattle.sudo_grammar.specs.declared.fault.Refusal.TheVariants as refusals
use Rattle.sudo_grammar.specs.declared.fault.Unsupported.TheVariants as forms
use Rattle.sudo_grammar.specs.Words.{plain_word, is_name}
use Rattle.sudo_grammar.specs.Members.{atom_of, other_atom, plain_atom}
use Rattle.sudo_grammar.specs.Standing.{BeginsEntry, MembersStand, CanStand, IsExpected}
use Rattle.sudo_grammar.specs.Refusals.{refused_atom, refused_member, IsOption, IsRefusal}
use Rattle.sudo_grammar.specs.Faults.{Room}
use Rattle.sudo_grammar.specs.Body.States.{State, Start}
use Rattle.sudo_grammar.specs.Body.States.{step}
use Rattle.sudo_grammar.specs.Body.States.{entry_after_list, state_after}
use Rattle.sudo_grammar.specs.Body.Refused.{is_option}
use Rattle.sudo_grammar.proofs.Stops.{all, the_mark, dead, dead_end}
use Rattle.sudo_grammar.proofs.LastTokens.{slash, command_before, option-here, option-there}

-- a word of no character, and the word `/`, which is a user but no host
abbrev pub empty : Token
empty = record { kind = tokens.Word false []; start = 0; end = 0 }

abbrev pub user : Token
user = record { kind = tokens.Word false (record { byte = 47; escaped = false } ∷ []); start = 0; end = 1 }

-- users to run as are users
same-word : (o : Option (List ℕ)) (k : TokenKind) → other_atom kinds.User k ≡ other_atom kinds.Runas k
    → elim o as (λ _. Result Atom Refusal) [ Some w ↦ plain_atom kinds.User k w | None ↦ other_atom kinds.User k ]
    ≡ elim o as (λ _. Result Atom Refusal) [ Some w ↦ plain_atom kinds.Runas k w | None ↦ other_atom kinds.Runas k ]
same-word None k e = e
same-word (Some w) k e =
    ap (λ r. cond (bytes_eq w (codes "ALL")) (Ok atoms.All) (cond (is_name w) (Ok (atoms.Alias w)) r)) e

pub same-atom : (k : TokenKind) → atom_of kinds.User k ≡ atom_of kinds.Runas k
same-atom (tokens.Word quoted chars) = same-word (plain_word (tokens.Word quoted chars)) (tokens.Word quoted chars) refl
same-atom (tokens.Mark m) = refl
same-atom (tokens.Command path args) = refl
same-atom (tokens.Include folder hash path) = refl

same-refused : (t : Token) (ts : List Token) (r : Result Atom Refusal) → refused_atom kinds.Runas t ts r ≡ refused_atom kinds.User t ts r
same-refused t ts (Ok a) = refl
same-refused t ts (Err r) = refl

pub same-refusal : (ts : List Token) → refused_member kinds.Runas ts ≡ refused_member kinds.User ts
same-refusal [] = refl
same-refusal (t ∷ ts) = same-refused t ts (atom_of kinds.Runas t.kind) ∙ ap (refused_atom kinds.User t ts) (sym (same-atom t.kind))

-- What is expected at a state.

module _ (room : Room) (front : List Token) (q : State) (reached : state_after room Start front ≡ Some q) where
  -- no token is taken there
  abbrev Refuses : Token → Type 0
  Refuses t = (wide : Room) → step wide q t ≡ None

  gone : (t : Token) → Refuses t → BeginsEntry (front ++ t ∷ []) → ⊥
  gone t none = dead room q t front reached (λ wide covers. none wide)

  pub is-end : CanStand wants.EndOfLine front → IsExpected wants.EndOfLine front
  is-end h = inl (refl, h)

  module _ (open_end : entry_after_list q ≡ None) where
    no-end : CanStand wants.EndOfLine front → ⊥
    no-end (e, w) = dead_end room q front reached open_end e w

    pub is-equals : CanStand wants.Equals front → IsExpected wants.Equals front
    is-equals h = inr (no-end, inl (refl, h))

    module _ (equals : Refuses (the_mark marks.Equals)) where
      no-equals : CanStand wants.Equals front → ⊥
      no-equals h = gone (the_mark marks.Equals) equals (h (the_mark marks.Equals) refl)

      pub is-command : CanStand wants.Command front → IsExpected wants.Command front
      is-command h = inr (no-end, inr (no-equals, inl (refl, h)))

      module _ (command : Refuses slash) where
        no-command : CanStand wants.Command front → ⊥
        no-command h = gone slash command (h slash _ refl)

        pub is-parameter : CanStand wants.Parameter front → IsExpected wants.Parameter front
        is-parameter h = inr (no-end, inr (no-equals, inr (no-command, inl (refl, h))))

        pub is-value : Refuses (the_mark marks.Bang) → CanStand wants.Value front → IsExpected wants.Value front
        is-value bang h = inr (no-end, inr (no-equals, inr (no-command, inr (no-parameter, inl (refl, h)))))
          where
            no-parameter : CanStand wants.Parameter front → ⊥
            no-parameter h = gone (the_mark marks.Bang) bang (h (the_mark marks.Bang) (inr refl) refl)

        module _ (word : Refuses empty) where
          no-parameter : CanStand wants.Parameter front → ⊥
          no-parameter h = gone empty word (h empty (inl refl) refl)

          no-value : CanStand wants.Value front → ⊥
          no-value h = gone empty word (h empty refl)

          pub is-member : CanStand wants.Member front → IsExpected wants.Member front
          is-member h = inr (no-end, inr (no-equals, inr (no-command, inr (no-parameter, inr (no-value, inl (refl, h))))))

          module _ (member : Refuses all) where
            no-member : CanStand wants.Member front → ⊥
            no-member (kind, (other, h)) = gone all member (h all _ refl)

            pub is-paren : CanStand wants.RightParen front → IsExpected wants.RightParen front
            is-paren h = inr (no-end, inr (no-equals, inr (no-command, inr (no-parameter, inr (no-value, inr (no-member, inl (refl, h)))))))

            pub is-name : Refuses (the_mark marks.RightParen) → CanStand wants.AliasName front → IsExpected wants.AliasName front
            is-name paren h =
                inr (no-end, inr (no-equals, inr (no-command, inr (no-parameter, inr (no-value, inr (no-member, inr (no-paren, first)))))))
              where
                first : (wants.AliasName ≡ wants.AliasName) × CanStand wants.AliasName front ⊎ ((CanStand wants.AliasName front → ⊥) × ⊥)
                first = inl (refl, h)

                no-paren : CanStand wants.RightParen front → ⊥
                no-paren h = gone (the_mark marks.RightParen) paren (h (the_mark marks.RightParen) refl)

  -- the refusal where no member and no name is expected
  abbrev option_or : Bool → Expected → Refusal
  option_or b x = cond b (refusals.Unsupported forms.CommandOption) (refusals.Syntax x)

  pub is-refusal : (ts : List Token) (x : Expected) (b : Bool) → is_option (command_before q) ts ≡ b
      → (IsOption front ts × (option_or b x ≡ refusals.Unsupported forms.CommandOption))
      ⊎ ((IsOption front ts → ⊥) × (option_or b x ≡ refusals.Syntax x))
  is-refusal ts x true is = inl (option-here room ts front q reached is, refl)
  is-refusal ts x false is = inr ((λ h. no_option (sym is ∙ option-there room ts front q reached h)), refl)
    where
      no_option : false ≡ true → ⊥
      no_option h = cc

-- The refusal, with what is expected.
abbrev pub IsRefused : List Token → List Token → Refusal → Type 0
IsRefused front ts refusal = (x : Expected) × (IsExpected x front × IsRefusal x front ts refusal)

-- where users could stand
pub by-users : (room : Room) (front ts : List Token) (q : State) → (q ≡ Start → ⊥) → state_after room Start front ≡ Some q
    → MembersStand kinds.User front → IsRefusal wants.Member front ts (refused_member kinds.User ts)
by-users room [] ts q other reached stands = absurd (other (sym (some_injective _ _ reached)))
by-users room (t ∷ us) ts q other reached stands = inl (stands, refl)

-- and where hosts could
pub by-hosts : (room : Room) (front ts : List Token) (q : State) → (q ≡ Start → ⊥) → state_after room Start front ≡ Some q
    → ((wide : Room) → step wide q user ≡ None) → IsRefusal wants.Member front ts (refused_member kinds.Host ts)
by-hosts room [] ts q other reached none = absurd (other (sym (some_injective _ _ reached)))
by-hosts room (t ∷ us) ts q other reached none =
    inr ((λ h. dead room q user (t ∷ us) reached (λ wide covers. none wide) (h user _ refl)), refl)
