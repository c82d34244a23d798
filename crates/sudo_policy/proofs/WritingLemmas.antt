-- The output of a loop that writes a list out.
use Rattle.std.proofs.Common.{◌≡◌, ℕ, ◌+◌, ◌≤◌, ◌<◌, List, [], ◌∷◌, ◌++◌, Option, None, Some, Bool, true, false, map}
use Rattle.std.proofs.Common.{sym, ◌∙◌, ap, subst, arith, append_assoc, append-nil, drop, length, get_or}
use Rattle.std.specs.Prelude.{option_and_then}
use Rattle.std.proofs.lemmas.List.{map-append, drop_more}
use Rattle.std.proofs.Math.ListN.{drop_of_length-le}
use Rattle.sudo_grammar.specs.declared.kind.Kind.{Kind}
use Rattle.sudo_grammar.specs.declared.kind.Member.{Member}
use Rattle.sudo_grammar.specs.declared.kind.Signed.{Signed}
use Rattle.sudo_grammar.specs.declared.policy.Policy.{Policy}
use Rattle.sudo_policy.specs.Definitions.{in_force, alias_named}
use Rattle.sudo_policy.specs.Following.{definition_of_member}
use Rattle.sudo_policy.specs.Resolving.{resolves}
use Rattle.sudo_policy.specs.Body.Resolving.{rank}
use Rattle.sudo_policy.specs.Written.{written_form, negated_if, differ, is_negated}
use Rattle.sudo_policy.proofs.Laws.{resolves_cons, written_cons, written_none, rank_cons, alone_stands}
use Rattle.sudo_policy.proofs.Laws.{inner_resolves, inner_written, inner_rank, undefined_fails, negated_twice}

-- the members ds of an alias's definition, and the members after the alias
pub record Opened (kind : Kind) (p : Policy) (m : Member) (ds rest : List Member) : Type 0 where
  pub inner : resolves kind p ds ≡ true
  pub lower : rank kind p ds < rank kind p (m ∷ rest)
  pub atoms : written_form kind p (m ∷ rest) ≡ map (negated_if (is_negated m)) (written_form kind p ds) ++ written_form kind p rest

module _ (kind : Kind) (p : Policy) (m : Member) (rest : List Member) (h : resolves kind p (m ∷ rest) ≡ true) where
  pub rank_rest : rank kind p rest ≤ rank kind p (m ∷ rest)
  rank_rest = let whole = rank_cons kind p m rest in omega (arith, whole)

  pub opened : (ds : List Member) → definition_of_member kind p m ≡ Some ds → Opened kind p m ds rest
  opened ds is =
      let one = (resolves_cons kind p m rest h).0 in
      let whole = rank_cons kind p m rest in
      let less = inner_rank kind p m ds is one in
      record {
        inner = inner_resolves kind p m ds is one;
        lower = omega (arith, whole, less);
        atoms = written_cons kind p m rest ∙ ap (λ ws. ws ++ written_form kind p rest) (inner_written kind p m ds is one);
      }

  pub written_alone : alias_named m.atom ≡ None → written_form kind p (m ∷ rest) ≡ record {
    negated = is_negated m;
    atom = m.atom;
  } ∷ written_form kind p rest
  written_alone no_alias = written_cons kind p m rest ∙ ap (λ ws. ws ++ written_form kind p rest) (alone_stands kind p m no_alias)

  -- an alias among the members has a definition
  pub never_undefined : (name : List ℕ) → alias_named m.atom ≡ Some name → in_force kind p name ≡ None → ⊥
  never_undefined name is none =
      let holds = (resolves_cons kind p m rest h).0 in
      let fails = undefined_fails kind p m name is none in
      let e : true ≡ false = sym holds ∙ fails in
      cc

-- what a loop over a list has written, with what is left of the list
pub record Along (kind : Kind) (p : Policy) (negate : Bool) (start done : List Signed) (ms rest : List Member) : Type 0 where
  pub resolves_rest : resolves kind p rest ≡ true
  pub lower : rank kind p rest ≤ rank kind p ms
  pub atoms : done ++ map (negated_if negate) (written_form kind p rest) ≡ start ++ map (negated_if negate) (written_form kind p ms)

module _ (kind : Kind) (p : Policy) (negate : Bool) (start done : List Signed) (ms : List Member) (m : Member)
    (rest : List Member) (along : Along kind p negate start done ms (m ∷ rest)) where
  -- a member that is no alias was written
  pub Along-alone : alias_named m.atom ≡ None
      → Along kind p negate start (done ++ record { negated = differ negate (is_negated m); atom = m.atom } ∷ []) ms rest
  Along-alone no_alias =
      let one = written_alone kind p m rest along.resolves_rest no_alias in
      let down = rank_rest kind p m rest along.resolves_rest in
      let below = along.lower in
      record {
        resolves_rest = (resolves_cons kind p m rest along.resolves_rest).1;
        lower = omega (arith, down, below);
        atoms = append_assoc done _ _ ∙ ap (λ ws. done ++ map (negated_if negate) ws) (sym one) ∙ along.atoms;
      }

  -- an alias was written
  pub Along-alias : (ds : List Member) → Opened kind p m ds rest
      → Along kind p negate start (done ++ map (negated_if (differ negate (is_negated m))) (written_form kind p ds)) ms rest
  Along-alias ds open_m =
      let down = rank_rest kind p m rest along.resolves_rest in
      let below = along.lower in
      let twice = negated_twice negate (is_negated m) (written_form kind p ds) in
      let both = map-append (negated_if negate) (map (negated_if (is_negated m)) (written_form kind p ds)) (written_form kind p rest) in
      record {
        resolves_rest = (resolves_cons kind p m rest along.resolves_rest).1;
        lower = omega (arith, down, below);
        atoms =
            append_assoc done _ _
            ∙ ap (λ ws. done ++ (ws ++ map (negated_if negate) (written_form kind p rest))) (sym twice)
            ∙ ap (λ ws. done ++ ws) (sym both)
            ∙ ap (λ ws. done ++ map (negated_if negate) ws) (sym open_m.atoms)
            ∙ along.atoms;
      }

-- the first of what is left of a list
pub Along-split : (kind : Kind) (p : Policy) (negate : Bool) (start done : List Signed) (ms : List Member) (i : ℕ)
    (m : Member) → Along kind p negate start done ms (drop i ms) → i < length ms → m ≡ get_or ms i m
    → Along kind p negate start done ms (m ∷ drop (i + 1) ms)
Along-split kind p negate start done ms i m along within is =
    let split : drop i ms ≡ m ∷ drop (i + 1) ms = drop_more ms i m within ∙ ap (λ x. x ∷ drop (i + 1) ms) (sym is) in
    subst (λ rest. Along kind p negate start done ms rest) split along

-- nothing is left of the list
pub Along-end : (kind : Kind) (p : Policy) (negate : Bool) (start done : List Signed) (ms : List Member) (i : ℕ)
    → Along kind p negate start done ms (drop i ms) → length ms ≤ i → done ≡ start ++ map (negated_if negate) (written_form kind p ms)
Along-end kind p negate start done ms i along past =
    let none : drop i ms ≡ [] = drop_of_length-le ms past in
    let empty : written_form kind p (drop i ms) ≡ [] = ap (written_form kind p) none ∙ written_none kind p in
    sym (append-nil done) ∙ ap (λ ws. done ++ map (negated_if negate) ws) (sym empty) ∙ along.atoms

-- the definition of a member that is an alias
pub definition_from : (kind : Kind) (p : Policy) (m : Member) (name : List ℕ) (ds : List Member)
    → alias_named m.atom ≡ Some name → in_force kind p name ≡ Some ds → definition_of_member kind p m ≡ Some ds
definition_from kind p m name ds named is = ap (λ (o : Option (List ℕ)). option_and_then (in_force kind p) o) named ∙ is
