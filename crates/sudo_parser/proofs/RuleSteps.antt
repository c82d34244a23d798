-- The steps of a rule, as the parser takes them.
use Rattle.std.proofs.Common.{◌≡◌, ℕ, zero, suc, List, [], ◌∷◌, refl, ap, ◌∙◌, subst, cond, true, false, Option, None}
use Rattle.std.proofs.Common.{Some, Ok, Err, arith, inl, inr}
use Rattle.std.specs.Prelude.{◌==◌}
use Rattle.std.proofs.lemmas.Bool.Decides.{nat_tests}
use Rattle.sudo_text.specs.declared.token.Mark.TheVariants as marks
use Rattle.sudo_text.specs.declared.token.Token.{Token}
use Rattle.sudo_text.specs.declared.token.TokenKind.{TokenKind}
use Rattle.sudo_text.specs.declared.token.TokenKind.TheVariants as tokens
use Rattle.sudo_grammar.specs.declared.kind.Kind.TheVariants as kinds
use Rattle.sudo_grammar.specs.declared.kind.Member.{Member}
use Rattle.sudo_grammar.specs.declared.policy.Runas.{Runas}
use Rattle.sudo_grammar.specs.declared.tag.Tag.{Tag}
use Rattle.sudo_grammar.specs.declared.policy.CommandSpec.{CommandSpec}
use Rattle.sudo_grammar.specs.declared.policy.Section.{Section}
use Rattle.sudo_grammar.specs.declared.policy.EntryBody.TheVariants as entries
use Rattle.sudo_grammar.specs.declared.fault.Expected.TheVariants as wants
use Rattle.sudo_grammar.specs.declared.fault.Refusal.{Refusal}
use Rattle.sudo_grammar.specs.declared.fault.Refusal.TheVariants as refusals
use Rattle.sudo_grammar.specs.declared.fault.Unsupported.TheVariants as forms
use Rattle.sudo_parser.specs.declared.stops.ParserStop.{ParserStop}
use Rattle.sudo_parser.specs.Body.Stops.{Stops, IsNext, IsNotNext}
use Rattle.sudo_grammar.specs.Body.Reading.{reading}
use Rattle.sudo_parser.proofs.Steps.{reading-same, stops_same, not_head}
use Rattle.sudo_grammar.specs.Words.{tag_of}
use Rattle.sudo_grammar.specs.Members.{atom_of}
use Rattle.sudo_grammar.specs.Forms.{as_tag}
use Rattle.sudo_grammar.specs.Faults.{Room}
use Rattle.sudo_grammar.specs.Body.States.{Granting, Users, Hosts, Item, AfterItem, Command, AfterCommand, at_item}
use Rattle.sudo_grammar.specs.Body.States.{after_item, at_command, command_state, at_paren, after_command}
use Rattle.sudo_grammar.specs.Body.Refused.{is_option}
use Rattle.sudo_parser.specs.Body.Lists.{Takes, IsShut, ReadsItem, StopsInItem, ReadsItems}
use Rattle.sudo_parser.specs.Body.Runas.{ReadsRunas}
use Rattle.sudo_parser.specs.Body.Rules.{IsNoTagNext, ReadsTags, ReadsSpec, StopsInSpec, ReadsSections, StopsInSections}
use Rattle.sudo_parser.proofs.ListSteps.{option-equals, option-some}
use Rattle.sudo_grammar.proofs.Complete.{at_command-member}
use Rattle.sudo_grammar.proofs.Limits.{reading-stops}

command-none : (g : Granting) (r : Option Runas) (d : List Tag) (n : ℕ) (t : Token) (e : Refusal) (kind : TokenKind)
    → (kind ≡ tokens.Mark marks.Bang → ⊥) → (kind ≡ tokens.Mark marks.LeftParen → at_command g r d n t kind ≡ None)
    → atom_of kinds.Cmnd t.kind ≡ Err e → at_command g r d n t kind ≡ None
command-none g r d n t e (tokens.Mark marks.Bang) other shut h = absurd (other refl)
command-none g r d n t e (tokens.Mark marks.LeftParen) other shut h = shut refl
command-none g r d n t e _ other shut h = ap (command_state g r d n t) h

paren_none : (g : Granting) (r : Option Runas) (d : List Tag) (n : ℕ) → at_paren g r d (suc n) ≡ None
paren_none g None [] n = refl
paren_none g None (x ∷ xs) n = refl
paren_none g (Some r) d n = refl

command-option : (room : Room) (g : Granting) (s : CommandSpec) (ts : List Token) → is_option (Some s.command) ts ≡ true
    → reading room (AfterCommand g s) ts ≡ Err (record { rest = ts; refusal = refusals.Unsupported forms.CommandOption })
command-option room g s [] h = absurd (option-some s.command h)
command-option room g s (t ∷ ts) h =
    reading-stops room (AfterCommand g s) t ts (ap (after_command g s) (option-equals s.command t ts h))
    ∙ ap (λ b. Err (record {
      rest = t ∷ ts;
      refusal = cond b (refusals.Unsupported forms.CommandOption)
          (refusals.Syntax wants.EndOfLine);
    })) h

-- the states of a command
pub command-takes : (room : Room) (g : Granting) (r : Option Runas) (d : List Tag)
    → Takes kinds.Cmnd room (λ n. Command g r d n) (λ m. AfterCommand g (record { runas = r; tags = d; command = m }))
command-takes room g r d = record {
  counts = λ n t is. ap (at_command g r d n t) is;
  takes = λ m h. at_command-member g r d m.bangs m.token m.token.kind m.atom h ∙ ap (command_state g r d m.bangs m.token) h;
  refuses = λ n t e other shut h. command-none g r d n t e t.kind other shut h;
  shut = λ n t is. ap (at_command g r d (suc n) t) is ∙ paren_none g r d n;
  unfinished = λ n. refl;
  refusal = λ n ts. refl;
  option = λ m ts h. command-option room g (record { runas = r; tags = d; command = m }) ts h;
}

-- after what was read before a command no parenthesis leads on
command-shut : (room : Room) (g : Granting) (r : Option Runas) (d : List Tag) (tagged rest : List Token)
    → (r ≡ None → IsNotNext marks.LeftParen tagged) → (d ≡ [] → tagged ≡ rest) → IsShut room (Command g r d 0) rest
command-shut room g r d tagged [] closed none = tt
command-shut room g (Some r) d tagged (t ∷ rest) closed none = λ is. ap (at_command g (Some r) d 0 t) is
command-shut room g None (x ∷ xs) tagged (t ∷ rest) closed none = λ is. ap (at_command g None (x ∷ xs) 0 t) is
command-shut room g None [] tagged (t ∷ rest) closed none = λ is. absurd (subst (IsNotNext marks.LeftParen) (none refl) (closed refl) is)

colon-clash : (ts after : List Token) → IsNotNext marks.Colon ts → IsNext marks.Colon ts after → ⊥
colon-clash [] after other h = h
colon-clash (t ∷ ts) after other h = other h.0

no-tag : (t : Token) (ts after : List Token) → IsNoTagNext (t ∷ ts) → IsNext marks.Colon ts after → tag_of t.kind ≡ None
no-tag t ts after (inl h) colon = h
no-tag t ts after (inr h) colon = absurd (colon-clash ts after h colon)

suc_not_zero : (n : ℕ) → (suc n == 0) ≡ false
suc_not_zero n = grind (arith, nat_tests)

-- a command that a colon follows is no tag
command-no_tag : (m : Member) (listed rest after : List Token) → IsNoTagNext listed → (m.bangs ≡ 0 → listed ≡ m.token ∷ rest)
    → IsNext marks.Colon rest after → as_tag m ≡ None
command-no_tag m listed rest after none bare colon = go m.bangs refl
  where
    go : (n : ℕ) → m.bangs ≡ n → as_tag m ≡ None
    go zero is = rw is (no-tag m.token rest after (subst IsNoTagNext (bare is) none) colon)
    go (suc n) is = ap (λ k. cond (k == 0) (tag_of m.token.kind) None) is
        ∙ ap (λ b. cond b (tag_of m.token.kind) None) (suc_not_zero n)

pub spec-reads : (ts tagged listed rest : List Token) (r : Option Runas) (d : List Tag) (m : Member) → ReadsRunas ts r tagged
    → ReadsTags tagged d listed → ReadsItem kinds.Cmnd listed m rest
    → ReadsSpec ts (record { runas = r; tags = d; command = m }) rest
spec-reads ts tagged listed rest r d m ran tags item = record {
  less = omega (arith, ran.no_longer, tags.read.no_longer, item.less);
  no_option = item.no_option;
  no_tag = λ after colon. command-no_tag m listed rest after tags.no_more item.bare colon;
  reads = λ room g. ran.reads room g ∙ tags.read.reads room g r
      ∙ item.reads room (λ n. Command g r d n) (λ x. AfterCommand g (record { runas = r; tags = d; command = x }))
      (command-takes room g r d);
}

pub spec-stops : (ts tagged listed : List Token) (r : Option Runas) (d : List Tag) (e : ParserStop) → ReadsRunas ts r tagged
    → ReadsTags tagged d listed → StopsInItem kinds.Cmnd listed e → StopsInSpec ts e
spec-stops ts tagged listed r d e ran tags h = λ room g.
    stops_same e _ _ (ran.reads room g ∙ tags.read.reads room g r)
    (h room (λ n. Command g r d n) (λ x. AfterCommand g (record { runas = r; tags = d; command = x })) (command-takes room g r d)
    (command-shut room g r d tagged listed ran.closed tags.read.none))

hosts_first : (us : List Member) (t : Token) (k : TokenKind) → (k ≡ tokens.Mark marks.Comma → ⊥)
    → after_item Users us t k ≡ at_item (Hosts us []) 0 [] t k
hosts_first us t (tokens.Mark marks.Comma) comma = absurd (comma refl)
hosts_first us t _ comma = refl

users-read : (ts : List Token) (us : List Member) (rest : List Token) → ReadsItems kinds.User ts us rest → (room : Room)
    → reading room (Item Users 0 []) ts ≡ reading room (Item (Hosts us []) 0 []) rest
users-read ts us rest r room = r.reads room Users refl
    ∙ reading-same room (AfterItem Users us) (Item (Hosts us []) 0 []) rest refl refl
    (λ t more is. hosts_first us t t.kind (not_head marks.Comma rest t more is r.no_more))

pub rule-reads : (ts : List Token) (us : List Member) (rest : List Token) (ss : List Section) → ReadsItems kinds.User ts us rest
    → ReadsSections rest ss → (room : Room) → reading room (Item Users 0 []) ts ≡ Ok (entries.Rule us ss)
rule-reads ts us rest ss r h room = users-read ts us rest r room ∙ h room us

pub rule-stops : (ts : List Token) (us : List Member) (rest : List Token) (e : ParserStop) → ReadsItems kinds.User ts us rest
    → StopsInSections rest e → (room : Room) → Stops e (reading room (Item Users 0 []) ts)
rule-stops ts us rest e r h room = stops_same e _ _ (users-read ts us rest r room) (h room us)
