-- The steps between parentheses, as the parser takes them.
use Rattle.std.proofs.Common.{◌≡◌, List, [], length, refl, ap, ◌∙◌, Option, None, Some, arith}
use Rattle.sudo_text.specs.declared.token.Mark.TheVariants as marks
use Rattle.sudo_text.specs.declared.token.Token.{Token}
use Rattle.sudo_text.specs.declared.token.TokenKind.{TokenKind}
use Rattle.sudo_text.specs.declared.token.TokenKind.TheVariants as tokens
use Rattle.sudo_grammar.specs.declared.kind.Kind.TheVariants as kinds
use Rattle.sudo_grammar.specs.declared.kind.Member.{Member}
use Rattle.sudo_grammar.specs.declared.fault.Expected.TheVariants as wants
use Rattle.sudo_grammar.specs.declared.fault.Refusal.TheVariants as refusals
use Rattle.sudo_parser.specs.declared.stops.ParserStop.{ParserStop}
use Rattle.sudo_parser.specs.declared.stops.ParserStop.TheVariants as stops
use Rattle.sudo_parser.specs.Body.Stops.{Stops, IsMark, IsNext, IsNotNext}
use Rattle.sudo_grammar.specs.Body.Reading.{reading}
use Rattle.sudo_parser.proofs.Steps.{reading-mark, reading-same, stops_same, stops_always, not_head, IsNext-less}
use Rattle.sudo_grammar.specs.Body.States.{Granting, RunasUsers, RunasGroups, RunasStart, GroupsStart, Item}
use Rattle.sudo_grammar.specs.Body.States.{AfterItem, after_runas, at_runas, at_groups, at_item, after_item, step}
use Rattle.sudo_grammar.specs.Faults.{Room}
use Rattle.sudo_parser.specs.Body.Lists.{StopsInItems}
use Rattle.sudo_parser.specs.Body.Runas.{users_state, EndsUsers, ReadsUsers, StopsInUsers, groups_state, EndsGroups}
use Rattle.sudo_parser.specs.Body.Runas.{ReadsGroups, StopsInGroups, ReadsLists}

users-first : (g : Granting) (t : Token) (k : TokenKind) → (k ≡ tokens.Mark marks.Colon → ⊥)
    → (k ≡ tokens.Mark marks.RightParen → ⊥) → at_runas g t k ≡ at_item (RunasUsers g) 0 [] t k
users-first g t (tokens.Mark marks.Colon) colon paren = absurd (colon refl)
users-first g t (tokens.Mark marks.RightParen) colon paren = absurd (paren refl)
users-first g t _ colon paren = refl

pub users_stop : (ts : List Token) (e : ParserStop) → IsNotNext marks.Colon ts → IsNotNext marks.RightParen ts
    → StopsInItems kinds.Runas ts e → StopsInUsers ts e
users_stop ts e colon paren h = λ room g.
    stops_same e _ _ (reading-same room (RunasStart g) (Item (RunasUsers g) 0 []) ts refl refl
    (λ t us is. users-first g t t.kind (not_head marks.Colon ts t us is colon) (not_head marks.RightParen ts t us is paren)))
    (h room (RunasUsers g) refl)

groups-first : (g : Granting) (us : Option (List Member)) (t : Token) (k : TokenKind)
    → (k ≡ tokens.Mark marks.RightParen → ⊥) → at_groups g us t k ≡ at_item (RunasGroups g us) 0 [] t k
groups-first g us t (tokens.Mark marks.RightParen) paren = absurd (paren refl)
groups-first g us t _ paren = refl

pub groups-stop : (ts : List Token) (e : ParserStop) → IsNotNext marks.RightParen ts → StopsInItems kinds.Runas ts e
    → StopsInGroups ts e
groups-stop ts e paren h = λ room g us.
    stops_same e _ _ (reading-same room (GroupsStart g us) (Item (RunasGroups g us) 0 []) ts refl refl
    (λ t rest is. groups-first g us t t.kind (not_head marks.RightParen ts t rest is paren)))
    (h room (RunasGroups g us) refl)

users-close : (room : Room) (g : Granting) (us : Option (List Member)) (t : Token) → IsMark marks.RightParen t
    → step room (users_state g us) t ≡ Some (after_runas g us None)
users-close room g None t is = ap (at_runas g t) is
users-close room g (Some ms) t is = ap (after_item (RunasUsers g) ms t) is

users-colon : (room : Room) (g : Granting) (us : Option (List Member)) (t : Token) → IsMark marks.Colon t
    → step room (users_state g us) t ≡ Some (GroupsStart g us)
users-colon room g None t is = ap (at_runas g t) is
users-colon room g (Some ms) t is = ap (after_item (RunasUsers g) ms t) is

users-stuck : (g : Granting) (ms : List Member) (t : Token) (k : TokenKind) → (k ≡ tokens.Mark marks.Comma → ⊥)
    → (k ≡ tokens.Mark marks.Colon → ⊥) → (k ≡ tokens.Mark marks.RightParen → ⊥) → after_item (RunasUsers g) ms t k ≡ None
users-stuck g ms t (tokens.Mark marks.Comma) comma colon paren = absurd (comma refl)
users-stuck g ms t (tokens.Mark marks.Colon) comma colon paren = absurd (colon refl)
users-stuck g ms t (tokens.Mark marks.RightParen) comma colon paren = absurd (paren refl)
users-stuck g ms t _ comma colon paren = refl

users-unclosed : (room : Room) (g : Granting) (us : Option (List Member)) (rest : List Token) → EndsUsers us rest
    → IsNotNext marks.Colon rest → IsNotNext marks.RightParen rest
    → Stops (stops.At (refusals.Syntax wants.RightParen) (length rest)) (reading room (users_state g us) rest)
users-unclosed room g None rest ends colon paren = absurd (ends colon paren)
users-unclosed room g (Some ms) rest ends colon paren = stops_always room (AfterItem (RunasUsers g) ms) rest _ refl
    (λ t us is. users-stuck g ms t t.kind (not_head marks.Comma rest t us is ends) (not_head marks.Colon rest t us is colon)
    (not_head marks.RightParen rest t us is paren)) refl

-- users without groups
pub lists-users : (ts : List Token) (us : Option (List Member)) (rest : List Token) → ReadsUsers ts us rest
    → IsNotNext marks.Colon rest → ReadsLists ts (record { users = us; groups = None }) rest
lists-users ts us rest r colon = record {
  no_longer = r.no_longer;
  closes = λ after h room g. r.reads room g
      ∙ reading-mark room (users_state g us) (after_runas g us None) marks.RightParen rest after (λ t is. users-close room g us t is) h;
  unclosed = λ paren room g. stops_same (stops.At (refusals.Syntax wants.RightParen) (length rest)) _ _ (r.reads room g)
      (users-unclosed room g us rest r.ends colon paren);
}

groups-close : (room : Room) (g : Granting) (us gs : Option (List Member)) (t : Token) → IsMark marks.RightParen t
    → step room (groups_state g us gs) t ≡ Some (after_runas g us gs)
groups-close room g us None t is = ap (at_groups g us t) is
groups-close room g us (Some ms) t is = ap (after_item (RunasGroups g us) ms t) is

groups-stuck : (g : Granting) (us : Option (List Member)) (ms : List Member) (t : Token) (k : TokenKind)
    → (k ≡ tokens.Mark marks.Comma → ⊥) → (k ≡ tokens.Mark marks.RightParen → ⊥) → after_item (RunasGroups g us) ms t k ≡ None
groups-stuck g us ms t (tokens.Mark marks.Comma) comma paren = absurd (comma refl)
groups-stuck g us ms t (tokens.Mark marks.RightParen) comma paren = absurd (paren refl)
groups-stuck g us ms t _ comma paren = refl

groups-unclosed : (room : Room) (g : Granting) (us gs : Option (List Member)) (rest : List Token) → EndsGroups gs rest
    → IsNotNext marks.RightParen rest
    → Stops (stops.At (refusals.Syntax wants.RightParen) (length rest)) (reading room (groups_state g us gs) rest)
groups-unclosed room g us None rest ends paren = absurd (ends paren)
groups-unclosed room g us (Some ms) rest ends paren = stops_always room (AfterItem (RunasGroups g us) ms) rest _ refl
    (λ t more is. groups-stuck g us ms t t.kind (not_head marks.Comma rest t more is ends)
    (not_head marks.RightParen rest t more is paren)) refl

-- the users and the colon after them
users-read : (ts : List Token) (us : Option (List Member)) (rest listed : List Token) → ReadsUsers ts us rest
    → IsNext marks.Colon rest listed → (room : Room) (g : Granting)
    → reading room (RunasStart g) ts ≡ reading room (GroupsStart g us) listed
users-read ts us rest listed r colon room g = r.reads room g
    ∙ reading-mark room (users_state g us) (GroupsStart g us) marks.Colon rest listed (λ t is. users-colon room g us t is) colon

-- users, a colon and groups
pub lists-groups : (ts : List Token) (us gs : Option (List Member)) (rest listed after : List Token) → ReadsUsers ts us rest
    → IsNext marks.Colon rest listed → ReadsGroups listed gs after → ReadsLists ts (record { users = us; groups = gs }) after
lists-groups ts us gs rest listed after r colon s = record {
  no_longer = omega (arith, r.no_longer, IsNext-less marks.Colon rest listed colon, s.no_longer);
  closes = λ end h room g. users-read ts us rest listed r colon room g ∙ s.reads room g us
      ∙ reading-mark room (groups_state g us gs) (after_runas g us gs) marks.RightParen after end
      (λ t is. groups-close room g us gs t is) h;
  unclosed = λ paren room g. stops_same (stops.At (refusals.Syntax wants.RightParen) (length after)) _ _
      (users-read ts us rest listed r colon room g ∙ s.reads room g us) (groups-unclosed room g us gs after s.ends paren);
}

pub lists-stop : (ts : List Token) (us : Option (List Member)) (rest listed : List Token) (e : ParserStop) → ReadsUsers ts us rest
    → IsNext marks.Colon rest listed → StopsInGroups listed e → StopsInUsers ts e
lists-stop ts us rest listed e r colon h = λ room g.
    stops_same e _ _ (users-read ts us rest listed r colon room g) (h room g us)
