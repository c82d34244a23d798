-- An entry that is read is within the limits of definitions.
use Rattle.std.proofs.Common.{cond, ◌≡◌, ℕ, suc, ◌+◌, ◌≤◌, ◌<◌, List, [], ◌∷◌, ◌++◌, length, refl, ap, sym, ◌∙◌}
use Rattle.std.proofs.Common.{arith, length-append, ltb, ltb-true, None, Some, Result, Ok, Err, true, false, Bool}
use Rattle.sudo_text.specs.declared.token.Token.{Token}
use Rattle.sudo_grammar.specs.declared.kind.Kind.{Kind}
use Rattle.sudo_grammar.specs.declared.policy.Definition.{Definition}
use Rattle.sudo_grammar.specs.declared.policy.EntryBody.{EntryBody}
use Rattle.sudo_grammar.specs.declared.policy.EntryBody.TheVariants as entries
use Rattle.sudo_grammar.specs.Forms.{◌▸◌, name, definition, more_definitions, Writes}
use Rattle.sudo_grammar.specs.Faults.{Room, Stop, HasRoom}
use Rattle.sudo_grammar.specs.Body.States.{State, Start, AliasName, AfterName, at_alias_name, step}
use Rattle.sudo_grammar.specs.Body.Reading.{reading, stop_at}
use Rattle.sudo_grammar.proofs.Complete.{definition-read, colon-read, keyword-read}

-- where no step leads on, reading stops
pub reading-stops : (room : Room) (state : State) (t : Token) (ts : List Token) → step room state t ≡ None
    → reading room state (t ∷ ts) ≡ Err (stop_at state (t ∷ ts))
reading-stops room state t ts h = rw (h, reading) refl

module _ (room : Room) where
  -- a name that was read was not one too many
  name-fits : (k : Kind) (d : List Definition) (w : List ℕ) (ts rest : List Token) (e : EntryBody) → name w ts rest
      → reading room (AliasName k d) ts ≡ Ok e → length d < room k
  name-fits k d w [] rest e h read = absurd h
  name-fits k d w (t ∷ ts) rest e h read = go (ltb (length d) (room k)) refl
    where
      go : (b : Bool) → ltb (length d) (room k) ≡ b → length d < room k
      go true is = ltb-true (length d) (room k) is
      go false is =
          let none : step room (AliasName k d) t ≡ None = ap (at_alias_name room k d) h.0
          ∙ ap (λ b. cond b (Some (AfterName k d w)) None) is in
          let stops : ◌≡◌ {A = Result EntryBody Stop} (Ok e) (Err (stop_at (AliasName k d) (t ∷ ts))) =
          sym read ∙ reading-stops room (AliasName k d) t ts none in
          cc

  definitions-fit : (k : Kind) (d : List Definition) (x : Definition) (xs : List Definition) (ts : List Token) (e : EntryBody)
      → (definition k x ▸ more_definitions k xs) ts [] → reading room (AliasName k d) ts ≡ Ok e
      → suc (length d + length xs) ≤ room k
  definitions-fit k d x [] ts e (a, ((b, (named, rest)), further)) h =
      let fits : length d < room k = name-fits k d x.name ts b e named h in omega (arith, fits)
  definitions-fit k d x (y ∷ ys) ts e (a, ((b, (named, rest)), (c, (colon, more)))) h =
      let fits : length d < room k = name-fits k d x.name ts b e named h in
      let on : reading room (AliasName k (d ++ x ∷ [])) c ≡ Ok e =
      sym (definition-read room k d x ts a fits (b, (named, rest)) ∙ colon-read room k d x.name x.members a c colon) ∙ h in
      let longer : length (d ++ x ∷ []) ≡ suc (length d) = simp length-append (omega arith) in
      let again : suc (length (d ++ x ∷ []) + length ys) ≤ room k = definitions-fit k (d ++ x ∷ []) y ys c e more on in
      omega (arith, longer, again)

  pub room-kept : (e f : EntryBody) (ts : List Token) → Writes e ts → reading room Start ts ≡ Ok f → HasRoom room e
  room-kept (entries.Aliases k []) f ts (a, (opens, none)) h = absurd none
  room-kept (entries.Aliases k (x ∷ xs)) f ts (a, (opens, defined)) h =
      let fits : suc (0 + length xs) ≤ room k = definitions-fit k [] x xs a f defined (sym (keyword-read room k ts a opens) ∙ h) in
      omega (arith, fits)
  room-kept _ f ts w h = tt
