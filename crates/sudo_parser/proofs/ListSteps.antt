-- The steps of a list, as the parser takes them.
use Rattle.std.proofs.Common.{◌≡◌, ℕ, zero, suc, ◌-◌, ◌≤◌, ◌<◌, List, [], ◌∷◌, ◌++◌, length, refl, ap, sym, ◌∙◌}
use Rattle.std.proofs.Common.{subst, cond, Bool, true, false, None, Some, Ok, Err, arith}
use Rattle.std.specs.Prelude.{◌&&◌}
use Rattle.sudo_text.specs.declared.token.Mark.{Mark}
use Rattle.sudo_text.specs.declared.token.Mark.TheVariants as marks
use Rattle.sudo_text.specs.declared.token.Token.{Token}
use Rattle.sudo_text.specs.declared.token.TokenKind.{TokenKind}
use Rattle.sudo_text.specs.declared.token.TokenKind.TheVariants as tokens
use Rattle.sudo_grammar.specs.declared.kind.Kind.{Kind}
use Rattle.sudo_grammar.specs.declared.kind.Kind.TheVariants as kinds
use Rattle.sudo_grammar.specs.declared.kind.Atom.{Atom}
use Rattle.sudo_grammar.specs.declared.kind.Member.{Member}
use Rattle.sudo_grammar.specs.declared.fault.Refusal.{Refusal}
use Rattle.sudo_grammar.specs.declared.fault.Refusal.TheVariants as refusals
use Rattle.sudo_grammar.specs.declared.fault.Unsupported.TheVariants as forms
use Rattle.sudo_parser.specs.declared.members.MemberFault.{MemberFault}
use Rattle.sudo_parser.specs.declared.members.MemberFault.TheVariants as declines
use Rattle.sudo_parser.specs.declared.stops.ParserStop.{ParserStop}
use Rattle.sudo_parser.specs.declared.stops.ParserStop.TheVariants as stops
use Rattle.sudo_grammar.specs.Words.{plain_word, is_option_name}
use Rattle.sudo_grammar.specs.Members.{atom_of}
use Rattle.sudo_grammar.specs.Openings.{is_mark, is_equal_mark, word_passes}
use Rattle.sudo_grammar.specs.Body.States.{Purpose, Defines, Users, Hosts, RunasUsers, RunasGroups, Binds, kind_for}
use Rattle.sudo_grammar.specs.Body.States.{State, Item, AfterItem, at_item, after_item, member_state}
use Rattle.sudo_grammar.specs.Faults.{Room}
use Rattle.sudo_grammar.specs.Refusals.{refused_atom}
use Rattle.sudo_grammar.specs.Body.Refused.{is_option, or_option, last_command, refusal_after_list}
use Rattle.sudo_grammar.specs.Body.Reading.{reading}
use Rattle.sudo_parser.specs.Body.Gives.{Declines}
use Rattle.sudo_parser.specs.Body.Stops.{IsMark, IsNext, IsNotNext}
use Rattle.sudo_parser.specs.Body.Lists.{ReadsBangs, command_in, IsShut, Takes, stop_of_member, option_begins}
use Rattle.sudo_parser.specs.Body.Lists.{StopsAtMember, StopsInItem, ReadsItem, ReadsToItem, ReadsItems, StopsInItems}
use Rattle.sudo_parser.proofs.Steps.{reading-mark, stops_here, stops_same, IsNext-less}
use Rattle.sudo_grammar.proofs.Complete.{at_item-member, reading-step}
use Rattle.sudo_grammar.proofs.LastTokens.{last-snoc}
use Rattle.sudo_grammar.proofs.Limits.{reading-stops}

member_stop_here : (kind : Kind) (bangs : ℕ) (t : Token) (ts : List Token) (e : MemberFault) → (IsMark marks.Bang t → ⊥)
    → Declines e (atom_of kind t.kind) → StopsAtMember kind bangs (t ∷ ts) (stop_of_member kind t ts e (length (t ∷ ts)))
member_stop_here kind bangs t ts (declines.Refused r) other h = λ room before after takes shut.
    stops_here room (before bangs) (t ∷ ts) _
    (reading-stops room (before bangs) t ts (takes.refuses bangs t r other shut h))
    (takes.refusal bangs (t ∷ ts) ∙ ap (refused_atom kind t ts) h)
member_stop_here kind bangs t ts declines.Memory other h = λ room before after takes shut. tt

-- a token that is refused as a member stops the reading
pub member-member_stop : (kind : Kind) (bangs : ℕ) (whole : List Token) (t : Token) (ts : List Token) (e : MemberFault)
    → whole ≡ t ∷ ts → IsNotNext marks.Bang whole → Declines e (atom_of kind t.kind)
    → StopsAtMember kind bangs whole (stop_of_member kind t ts e (length whole))
member-member_stop kind bangs whole t ts e is other h =
    subst (λ x. StopsAtMember kind bangs x (stop_of_member kind t ts e (length x))) (sym is)
    (member_stop_here kind bangs t ts e (subst (IsNotNext marks.Bang) is other) h)

option-same : (kind : Kind) (m : Member) (ts : List Token) → is_option (command_in kind m) ts ≡ option_begins kind m.token ts
option-same kinds.User m ts = refl
option-same kinds.Runas m ts = refl
option-same kinds.Host m ts = refl
option-same kinds.Cmnd m ts = refl

option-here : (kind : Kind) (bangs : ℕ) (t : Token) (ts : List Token) (a : Atom) → atom_of kind t.kind ≡ Ok a
    → option_begins kind t ts ≡ true
    → StopsAtMember kind bangs (t ∷ ts) (stops.At (refusals.Unsupported forms.CommandOption) (length ts))
option-here kind bangs t ts a h is = λ room before after takes shut.
    let m : Member = record { bangs = bangs; token = t; atom = a } in (
      record { rest = ts; refusal = refusals.Unsupported forms.CommandOption },
      (
        reading-step room (before bangs) (after m) t ts (takes.takes m h)
            ∙ takes.option m ts (option-same kind m ts ∙ is),
        (refl, refl),
      ),
    )

-- an option stops the reading after its name
pub member-option : (kind : Kind) (bangs : ℕ) (whole : List Token) (t : Token) (ts : List Token) (a : Atom) → whole ≡ t ∷ ts
    → atom_of kind t.kind ≡ Ok a → option_begins kind t ts ≡ true
    → StopsAtMember kind bangs whole (stops.At (refusals.Unsupported forms.CommandOption) (length ts))
member-option kind bangs whole t ts a is h begins =
    subst (λ x. StopsAtMember kind bangs x (stops.At (refusals.Unsupported forms.CommandOption) (length ts))) (sym is)
    (option-here kind bangs t ts a h begins)

shut-after : (kind : Kind) (room : Room) (before : ℕ → State) (after : Member → State) (ts : List Token) (count : ℕ)
    (rest : List Token) → Takes kind room before after → (count ≡ 0 → ts ≡ rest) → IsShut room (before 0) ts
    → IsShut room (before count) rest
shut-after kind room before after ts zero rest takes none shut = subst (IsShut room (before 0)) (none refl) shut
shut-after kind room before after ts (suc n) [] takes none shut = tt
shut-after kind room before after ts (suc n) (t ∷ rest) takes none shut = λ is. takes.shut n t is

-- the stop at a member is the stop in its item
pub item-stops : (kind : Kind) (ts : List Token) (count : ℕ) (rest : List Token) (e : ParserStop)
    → ReadsBangs ts count rest → StopsAtMember kind count rest e → StopsInItem kind ts e
item-stops kind ts count rest e r h = λ room before after takes shut.
    stops_same e _ _ (r.reads room before takes.counts)
    (h room before after takes (shut-after kind room before after ts count rest takes r.none shut))

-- what stands there is no exclamation mark and no member
at_item-none : (p : Purpose) (n : ℕ) (d : List Member) (t : Token) (r : Refusal) (kind : TokenKind)
    → (kind ≡ tokens.Mark marks.Bang → ⊥) → atom_of (kind_for p) t.kind ≡ Err r → at_item p n d t kind ≡ None
at_item-none p n d t r (tokens.Mark marks.Bang) other h = absurd (other refl)
at_item-none p n d t r _ other h = ap (member_state p n d t) h

item-taken : (p : Purpose) (d : List Member) (m : Member) → atom_of (kind_for p) m.token.kind ≡ Ok m.atom
    → at_item p m.bangs d m.token m.token.kind ≡ Some (AfterItem p (d ++ m ∷ []))
item-taken p d m h = at_item-member p m.bangs d m.token m.token.kind m.atom h ∙ ap (member_state p m.bangs d m.token) h

item-shut : (p : Purpose) (n : ℕ) (d : List Member) (t : Token) → IsMark marks.LeftParen t → at_item p n d t t.kind ≡ None
item-shut p n d t is = ap (at_item p n d t) is ∙ ap (λ k. member_state p n d t (atom_of (kind_for p) k)) is

-- the last command of a list
pub last_command-snoc : (kind : Kind) (d : List Member) (m : Member) → last_command kind (d ++ m ∷ []) ≡ command_in kind m
last_command-snoc kinds.User d m = refl
last_command-snoc kinds.Runas d m = refl
last_command-snoc kinds.Host d m = refl
last_command-snoc kinds.Cmnd d m = last-snoc d m

and-false : (a : Bool) → a && false ≡ true → ⊥
and-false true h = cc
and-false false h = cc

and-right : (a b : Bool) → a && b ≡ true → b ≡ true
and-right true b h = h
and-right false b h = cc

equal_mark_is : (m : Mark) → is_equal_mark marks.Equals m ≡ true → m ≡ marks.Equals
equal_mark_is marks.Equals h = refl
equal_mark_is _ h = cc

mark-is : (k : TokenKind) → is_mark marks.Equals k ≡ true → k ≡ tokens.Mark marks.Equals
mark-is (tokens.Mark m) h = ap tokens.Mark (equal_mark_is m h)
mark-is _ h = cc

-- what follows the name of an option is an equals sign
pub option-equals : (m : Member) (t : Token) (ts : List Token) → is_option (Some m) (t ∷ ts) ≡ true → IsMark marks.Equals t
option-equals m t ts h = mark-is t.kind (and-right (word_passes is_option_name (plain_word m.token.kind)) _ h)

pub option-some : (m : Member) → is_option (Some m) [] ≡ true → ⊥
option-some m h = and-false (word_passes is_option_name (plain_word m.token.kind)) h

-- no list of commands goes on with an equals sign
commands_stuck : (p : Purpose) (ms : List Member) (t : Token) → kind_for p ≡ kinds.Cmnd
    → after_item p ms t (tokens.Mark marks.Equals) ≡ None
commands_stuck (Defines kind done name) ms t h = refl
commands_stuck Users ms t h = cc
commands_stuck (Hosts users sections) ms t h = cc
commands_stuck (RunasUsers granting) ms t h = cc
commands_stuck (RunasGroups granting users) ms t h = cc
commands_stuck (Binds kind) ms t h = refl

option-kind : (kind : Kind) (m : Member) (ts : List Token) → is_option (command_in kind m) ts ≡ true → kind ≡ kinds.Cmnd
option-kind kinds.User m ts h = cc
option-kind kinds.Runas m ts h = cc
option-kind kinds.Host m ts h = cc
option-kind kinds.Cmnd m ts h = refl

option-in : (kind : Kind) (m : Member) (ts : List Token) → is_option (command_in kind m) ts ≡ true → is_option (Some m) ts ≡ true
option-in kinds.User m ts h = cc
option-in kinds.Runas m ts h = cc
option-in kinds.Host m ts h = cc
option-in kinds.Cmnd m ts h = h

option-stuck : (room : Room) (p : Purpose) (d : List Member) (m : Member) (ts : List Token)
    → is_option (command_in (kind_for p) m) ts ≡ true
    → reading room (AfterItem p (d ++ m ∷ [])) ts
    ≡ Err (record { rest = ts; refusal = refusals.Unsupported forms.CommandOption })
option-stuck room p d m [] h = absurd (option-some m (option-in (kind_for p) m [] h))
option-stuck room p d m (t ∷ ts) h =
    let equals : IsMark marks.Equals t = option-equals m t ts (option-in (kind_for p) m (t ∷ ts) h) in
    reading-stops room (AfterItem p (d ++ m ∷ [])) t ts
    (ap (after_item p (d ++ m ∷ []) t) equals ∙ commands_stuck p (d ++ m ∷ []) t (option-kind (kind_for p) m (t ∷ ts) h))
    ∙ ap (λ o. Err (record { rest = t ∷ ts; refusal = or_option o (t ∷ ts) (refusal_after_list p (t ∷ ts)) }))
    (last_command-snoc (kind_for p) d m)
    ∙ ap (λ b. Err (record {
      rest = t ∷ ts;
      refusal = cond b (refusals.Unsupported forms.CommandOption)
          (refusal_after_list p (t ∷ ts));
    })) h

-- the states of a list's item
pub item-takes : (room : Room) (p : Purpose) (d : List Member) (kind : Kind) → kind_for p ≡ kind
    → Takes kind room (λ n. Item p n d) (λ m. AfterItem p (d ++ m ∷ []))
item-takes room p d kind same = subst (λ k. Takes k room (λ n. Item p n d) (λ m. AfterItem p (d ++ m ∷ []))) same (record {
  counts = λ n t is. ap (at_item p n d t) is;
  takes = λ m h. item-taken p d m h;
  refuses = λ n t r other shut h. at_item-none p n d t r t.kind other h;
  shut = λ n t is. item-shut p (suc n) d t is;
  unfinished = λ n. refl;
  refusal = λ n ts. refl;
  option = λ m ts h. option-stuck room p d m ts h;
})

-- an item of a list
item-reads : (kind : Kind) (ts : List Token) (m : Member) (rest : List Token) → ReadsItem kind ts m rest
    → (room : Room) (p : Purpose) (d : List Member) → kind_for p ≡ kind
    → reading room (Item p 0 d) ts ≡ reading room (AfterItem p (d ++ m ∷ [])) rest
item-reads kind ts m rest r room p d same = r.reads room (λ n. Item p n d) (λ m. AfterItem p (d ++ m ∷ [])) (item-takes room p d kind same)

list-shut : (room : Room) (p : Purpose) (d : List Member) (ts : List Token) → IsShut room (Item p 0 d) ts
list-shut room p d [] = tt
list-shut room p d (t ∷ ts) = λ is. item-shut p 0 d t is

comma-reads : (room : Room) (p : Purpose) (ms : List Member) (ts rest : List Token) → IsNext marks.Comma ts rest
    → reading room (AfterItem p ms) ts ≡ reading room (Item p 0 ms) rest
comma-reads room p ms ts rest h =
    reading-mark room (AfterItem p ms) (Item p 0 ms) marks.Comma ts rest (λ t is. ap (after_item p ms t) is) h

pub items-more : (kind : Kind) (ts : List Token) (ms : List Member) (rest : List Token) (m : Member) (after next : List Token)
    → ReadsToItem kind ts ms rest → ReadsItem kind rest m after → IsNext marks.Comma after next
    → ReadsToItem kind ts (ms ++ m ∷ []) next
items-more kind ts ms rest m after next so_far r comma = λ room p same.
    so_far room p same ∙ item-reads kind rest m after r room p ms same ∙ comma-reads room p (ms ++ m ∷ []) after next comma

pub items-end : (kind : Kind) (ts : List Token) (ms : List Member) (rest : List Token) (m : Member) (after : List Token)
    → ReadsToItem kind ts ms rest → ReadsItem kind rest m after → length rest ≤ length ts → IsNotNext marks.Comma after
    → ReadsItems kind ts (ms ++ m ∷ []) after
items-end kind ts ms rest m after so_far r no_longer other = record {
  less = omega (arith, r.less);
  no_more = other;
  no_option = ap (λ o. is_option o after) (last_command-snoc kind ms m) ∙ r.no_option;
  reads = λ room p same. so_far room p same ∙ item-reads kind rest m after r room p ms same;
}

pub items-stop : (kind : Kind) (ts : List Token) (ms : List Member) (rest : List Token) (e : ParserStop)
    → ReadsToItem kind ts ms rest → StopsInItem kind rest e → StopsInItems kind ts e
items-stop kind ts ms rest e so_far h = λ room p same.
    stops_same e _ _ (so_far room p same)
    (h room (λ n. Item p n ms) (λ m. AfterItem p (ms ++ m ∷ [])) (item-takes room p ms kind same) (list-shut room p ms rest))

pub next-less : (kind : Kind) (ts : List Token) (m : Member) (after next : List Token) (k : Mark)
    → ReadsItem kind ts m after → IsNext k after next → length next < length ts
next-less kind ts m after next k r h = omega (arith, r.less, IsNext-less k after next h)
