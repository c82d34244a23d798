-- The name of a definition over the limit: it stands where the parser expects the name of an alias, and is not taken.
use Rattle.std.proofs.Common.{cond, inl, inr, ◌⊎◌, ◌≡◌, ℕ, zero, suc, ◌≤◌, List, [], ◌∷◌, ◌++◌, length, refl, ap, sym, ◌∙◌}
use Rattle.std.proofs.Common.{le-ltb, ltb, Option, None, Some, Result, Ok, Err, true, false, Bool}
use Rattle.std.proofs.lemmas.List.{append_cancel_right}
use Rattle.sudo_text.specs.declared.token.Mark.TheVariants as marks
use Rattle.sudo_text.specs.declared.token.Token.{Token}
use Rattle.sudo_grammar.specs.declared.kind.Kind.{Kind}
use Rattle.sudo_grammar.specs.declared.kind.Atom.TheVariants as atoms
use Rattle.sudo_grammar.specs.declared.kind.Member.{Member}
use Rattle.sudo_grammar.specs.declared.policy.Definition.{Definition}
use Rattle.sudo_grammar.specs.declared.policy.Section.{Section}
use Rattle.sudo_grammar.specs.declared.policy.Binding.{Binding}
use Rattle.sudo_grammar.specs.declared.policy.Parameter.{Parameter}
use Rattle.sudo_grammar.specs.declared.policy.EntryBody.{EntryBody}
use Rattle.sudo_grammar.specs.declared.policy.EntryBody.TheVariants as entries
use Rattle.sudo_grammar.specs.Words.{name_of}
use Rattle.sudo_grammar.specs.Forms.{definition_list}
use Rattle.sudo_grammar.specs.Faults.{Room, Stop, DefinitionsFollow, IsOneTooMany, IsStuck}
use Rattle.sudo_grammar.specs.Body.States.{Purpose, Defines, Users, Hosts, RunasUsers, RunasGroups, Binds, State}
use Rattle.sudo_grammar.specs.Body.States.{Start, AliasName, AfterName, Item, AfterItem, Command, AfterCommand}
use Rattle.sudo_grammar.specs.Body.States.{RunasStart, GroupsStart, DefaultsStart, AtParameter, AfterSwitch, AtValue}
use Rattle.sudo_grammar.specs.Body.States.{AfterValue, Included, at_alias_name, step, state_after}
use Rattle.sudo_grammar.specs.Body.Reading.{reading}
use Rattle.sudo_grammar.proofs.Complete.{reading-step}
use Rattle.sudo_grammar.proofs.Limits.{reading-stops}
use Rattle.sudo_grammar.proofs.Stops.{all, a, the_mark, Covers, dead, name-none, form-front, with_room}
use Rattle.sudo_grammar.proofs.Steps.{state-whole}

-- `A = ALL`
abbrev sample : Definition
sample = record { name = 65 ∷ []; members = record { bangs = 0; token = all; atom = atoms.All } ∷ [] }

abbrev sample_tokens : List Token
sample_tokens = a ∷ the_mark marks.Equals ∷ all ∷ []

sample-form : (k : Kind) → definition_list k (sample ∷ []) sample_tokens []
sample-form k = (
  [],
  (
    (
      the_mark marks.Equals ∷ all ∷ [],
      ((refl, refl), (all ∷ [], ((refl, refl), ([], ((all ∷ [], (refl, ((refl, refl), refl))), refl))))),
    ),
    refl,
  ),
)

err_ok : {A B : Type 0} {x : B} {y : A} → ◌≡◌ {A = Result A B} (Err x) (Ok y) → ⊥
err_ok h = cc

rule-aliases : {us : List Member} {ss : List Section} {k : Kind} {ds : List Definition}
    → ◌≡◌ {A = Result EntryBody Stop} (Ok (entries.Rule us ss)) (Ok (entries.Aliases k ds)) → ⊥
rule-aliases h = cc

defaults-aliases : {b : Option Binding} {xs : List Parameter} {k : Kind} {ds : List Definition}
    → ◌≡◌ {A = Result EntryBody Stop} (Ok (entries.Defaults b xs)) (Ok (entries.Aliases k ds)) → ⊥
defaults-aliases h = cc

same-kind : {k l : Kind} {ds es : List Definition}
    → ◌≡◌ {A = Result EntryBody Stop} (Ok (entries.Aliases k ds)) (Ok (entries.Aliases l es)) → k ≡ l
same-kind h = cc

same-definitions : {k l : Kind} {ds es : List Definition}
    → ◌≡◌ {A = Result EntryBody Stop} (Ok (entries.Aliases k ds)) (Ok (entries.Aliases l es)) → ds ≡ es
same-definitions h = cc

module _ (room : Room) (k : Kind) (d : List Definition) where
  -- only where the name of an alias is expected `A = ALL` is read as a further definition
  in-list : (p : Purpose) (n : ℕ) (ms : List Member) → reading room (Item p n ms) sample_tokens ≡ Ok (entries.Aliases k (d ++ sample ∷ []))
      → ⊥
  in-list (Defines l done w) n ms h = err_ok h
  in-list Users n ms h = err_ok h
  in-list (Hosts us ss) n ms h = rule-aliases h
  in-list (RunasUsers g) n ms h = err_ok h
  in-list (RunasGroups g us) n ms h = err_ok h
  in-list (Binds l) n ms h = err_ok h

  after-list : (p : Purpose) (ms : List Member) → reading room (AfterItem p ms) sample_tokens ≡ Ok (entries.Aliases k (d ++ sample ∷ []))
      → ⊥
  after-list (Defines l done w) ms h = err_ok h
  after-list Users ms h = rule-aliases h
  after-list (Hosts us ss) ms h = err_ok h
  after-list (RunasUsers g) ms h = err_ok h
  after-list (RunasGroups g us) ms h = err_ok h
  after-list (Binds l) ms h = defaults-aliases h

  at-name : (l : Kind) (done : List Definition) → reading room (AliasName l done) sample_tokens ≡ Ok (entries.Aliases k (d ++ sample ∷ []))
      → AliasName l done ≡ AliasName k d
  at-name l done h = go (ltb (length done) (room l)) refl
    where
      go : (b : Bool) → ltb (length done) (room l) ≡ b → AliasName l done ≡ AliasName k d
      go true is =
          let read : ◌≡◌ {A = Result EntryBody Stop} (Ok (entries.Aliases l (done ++ sample ∷ [])))
          (Ok (entries.Aliases k (d ++ sample ∷ []))) =
          sym (reading-step room (AliasName l done) (AfterName l done (65 ∷ [])) a (the_mark marks.Equals ∷ all ∷ [])
          (ap (λ b. cond b (Some (AfterName l done (65 ∷ []))) None) is)) ∙ h in
          let kind : l ≡ k = same-kind read in
          let same : done ≡ d = append_cancel_right done d (sample ∷ []) (same-definitions read) in
          ap (λ x. AliasName x done) kind ∙ ap (AliasName k) same
      go false is =
          let none : step room (AliasName l done) a ≡ None = ap (λ b. cond b (Some (AfterName l done (65 ∷ []))) None) is in
          absurd (err_ok (sym (reading-stops room (AliasName l done) a (the_mark marks.Equals ∷ all ∷ []) none) ∙ h))

  named-here : (q : State) → reading room q sample_tokens ≡ Ok (entries.Aliases k (d ++ sample ∷ [])) → q ≡ AliasName k d
  named-here Start h = absurd (err_ok h)
  named-here (AliasName l done) h = at-name l done h
  named-here (AfterName l done w) h = absurd (err_ok h)
  named-here (Item p n ms) h = absurd (in-list p n ms h)
  named-here (AfterItem p ms) h = absurd (after-list p ms h)
  named-here (Command g r tags n) h = absurd (err_ok h)
  named-here (AfterCommand g s) h = absurd (err_ok h)
  named-here (RunasStart g) h = absurd (err_ok h)
  named-here (GroupsStart g us) h = absurd (err_ok h)
  named-here DefaultsStart h = absurd (defaults-aliases h)
  named-here (AtParameter b xs n) h = at-parameter n h
    where
      at-parameter : (n : ℕ) → reading room (AtParameter b xs n) sample_tokens ≡ Ok (entries.Aliases k (d ++ sample ∷ []))
          → AtParameter b xs n ≡ AliasName k d
      at-parameter zero h = absurd (defaults-aliases h)
      at-parameter (suc n) h = absurd (err_ok h)
  named-here (AfterSwitch b xs n name) h = after-switch n h
    where
      after-switch : (n : ℕ) → reading room (AfterSwitch b xs n name) sample_tokens ≡ Ok (entries.Aliases k (d ++ sample ∷ []))
          → AfterSwitch b xs n name ≡ AliasName k d
      after-switch zero h = absurd (err_ok h)
      after-switch (suc n) h = absurd (err_ok h)
  named-here (AtValue b xs name operator) h = absurd (err_ok h)
  named-here (AfterValue b xs) h = absurd (err_ok h)
  named-here (Included folder hash path) h = absurd (err_ok h)

-- where the name of an alias is expected a further definition could follow, and nowhere else
name-follows : (room : Room) (front : List Token) (k : Kind) (d : List Definition)
    → state_after room Start front ≡ Some (AliasName k d) → DefinitionsFollow k d front
name-follows room front k d reached ds ts h =
    state-whole room front (AliasName k d) (entries.Aliases k (d ++ ds)) ts reached (ds, (h, refl))

name-expected : (room : Room) (q : State) (front : List Token) (k : Kind) (d : List Definition)
    → state_after room Start front ≡ Some q → DefinitionsFollow k d front → q ≡ AliasName k d
name-expected room q front k d reached follows =
    let e : EntryBody = entries.Aliases k (d ++ sample ∷ []) in
    named-here (with_room room e) k d q
    (form-front room q front sample_tokens e reached (follows (sample ∷ []) sample_tokens (sample-form k)))

-- a name one too many is not taken
pub full-stops : (room : Room) (state : State) (front : List Token) (t : Token) → state_after room Start front ≡ Some state
    → IsOneTooMany room front t → step room state t ≡ None
full-stops room state front t reached (k, d, w, follows, is, full) =
    let here : state ≡ AliasName k d = name-expected room state front k d reached follows in
    let over : ltb (length d) (room k) ≡ false = le-ltb (length d) (room k) full in
    ap (λ p. step room p t) here ∙ ap (at_alias_name room k d) is ∙ ap (λ b. cond b (Some (AfterName k d w)) None) over

-- where no step leads on, the line is stuck
pub stuck : (room : Room) (state : State) (t : Token) (front ts : List Token) → state_after room Start front ≡ Some state
    → step room state t ≡ None → IsStuck room front (t ∷ ts)
stuck room (AliasName k d) t front ts reached none = go (name-none room k d (name_of t.kind) none)
  where
    go : ((wide : Room) → Covers room wide → at_alias_name wide k d (name_of t.kind) ≡ None)
        ⊎ ((v : List ℕ) × ((name_of t.kind ≡ Some v) × (room k ≤ length d)))
        → IsStuck room front (t ∷ ts)
    go (inl all) = inl (dead room (AliasName k d) t front reached all)
    go (inr (v, (is, full))) = inr (k, d, v, name-follows room front k d reached, is, full)
stuck room state t front ts reached none = inl (dead room state t front reached (λ wide covers. none))
