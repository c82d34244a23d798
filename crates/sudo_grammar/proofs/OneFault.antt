-- A line has one fault or is one entry: the reading stops at the line's fault, and nowhere else.
use Rattle.std.proofs.Common.{inl, inr, ◌⊎◌, ◌≡◌, List, [], ◌∷◌, ◌++◌, refl, ap, sym, ◌∙◌, subst, append-nil, append_assoc}
use Rattle.std.proofs.Common.{None, Some, Result, Ok, Err}
use Rattle.sudo_text.specs.declared.token.Token.{Token}
use Rattle.sudo_grammar.specs.declared.kind.Kind.TheVariants as kinds
use Rattle.sudo_grammar.specs.declared.policy.EntryBody.{EntryBody}
use Rattle.sudo_grammar.specs.declared.fault.Expected.{Expected}
use Rattle.sudo_grammar.specs.declared.fault.Expected.TheVariants as wants
use Rattle.sudo_grammar.specs.declared.fault.Refusal.{Refusal}
use Rattle.sudo_grammar.specs.declared.fault.Refusal.TheVariants as refusals
use Rattle.sudo_grammar.specs.declared.fault.Unsupported.TheVariants as forms
use Rattle.sudo_grammar.specs.Forms.{Writes}
use Rattle.sudo_grammar.specs.Standing.{BeginsEntry, MembersStand, CanStand, IsFirst, IsExpected, sorts}
use Rattle.sudo_grammar.specs.Refusals.{refused_member, IsOption, IsRefusal}
use Rattle.sudo_grammar.specs.Faults.{Room, Stop, IsOneTooMany, IsStuck, IsGrammarFault, WritesWithin}
use Rattle.sudo_grammar.specs.Body.States.{Start, State, state_after}
use Rattle.sudo_grammar.specs.Body.Refused.{refused_at}
use Rattle.sudo_grammar.specs.Body.Reading.{reading}
use Rattle.sudo_grammar.proofs.Complete.{entry-read}
use Rattle.sudo_grammar.proofs.Limits.{room-kept}
use Rattle.sudo_grammar.proofs.Sound.{sound}
use Rattle.sudo_grammar.proofs.Stops.{begins, dead_end, Halts, halts, IsHalted}
use Rattle.sudo_grammar.proofs.Steps.{Passes, passes, read-reaches}
use Rattle.sudo_grammar.proofs.TooMany.{full-stops, stuck}
use Rattle.sudo_grammar.proofs.ExpectedTokens.{state-stands, member-word, name-word, syntax_injective}
use Rattle.sudo_grammar.proofs.FirstExpected.{IsRefused}
use Rattle.sudo_grammar.proofs.RefusedStates.{refused-state}

-- What is expected, and the refusal, are one.

one-first : (front : List Token) (xs : List Expected) (x y : Expected) → IsFirst x xs front → IsFirst y xs front → x ≡ y
one-first front [] x y h g = absurd h
one-first front (z ∷ zs) x y (inl (is, h)) (inl (same, g)) = is ∙ sym same
one-first front (z ∷ zs) x y (inl (is, h)) (inr (none, g)) = absurd (none h)
one-first front (z ∷ zs) x y (inr (none, h)) (inl (same, g)) = absurd (none g)
one-first front (z ∷ zs) x y (inr (none, h)) (inr (other, g)) = one-first front zs x y h g

first-stands : (front : List Token) (xs : List Expected) (x : Expected) → IsFirst x xs front → CanStand x front
first-stands front [] x h = absurd h
first-stands front (z ∷ zs) x (inl (is, h)) = subst (λ y. CanStand y front) (sym is) h
first-stands front (z ∷ zs) x (inr (none, h)) = first-stands front zs x h

-- one of two refusals, by a proposition
one-way : (P : Type 0) (r s a b : Refusal) → (P × (r ≡ a)) ⊎ ((P → ⊥) × (r ≡ b)) → (P × (s ≡ a)) ⊎ ((P → ⊥) × (s ≡ b)) → r ≡ s
one-way P r s a b (inl (p, h)) (inl (q, g)) = h ∙ sym g
one-way P r s a b (inl (p, h)) (inr (not, g)) = absurd (not p)
one-way P r s a b (inr (not, h)) (inl (q, g)) = absurd (not q)
one-way P r s a b (inr (not, h)) (inr (none, g)) = h ∙ sym g

one-member : (front ts : List Token) (r s : Refusal) → IsRefusal wants.Member front ts r → IsRefusal wants.Member front ts s → r ≡ s
one-member [] ts r s h g = h ∙ sym g
one-member (t ∷ front) ts r s h g =
    one-way (MembersStand kinds.User (t ∷ front)) r s (refused_member kinds.User ts) (refused_member kinds.Host ts) h g

one-refusal : (x : Expected) (front ts : List Token) (r s : Refusal) → IsRefusal x front ts r → IsRefusal x front ts s → r ≡ s
one-refusal wants.AliasName front ts r s h g = h ∙ sym g
one-refusal wants.Command front ts r s h g = h ∙ sym g
one-refusal wants.Member front ts r s h g = one-member front ts r s h g
one-refusal x front ts r s h g =
    one-way (IsOption front ts) r s (refusals.Unsupported forms.CommandOption) (refusals.Syntax x) h g

-- The place of a fault is one.

-- a front goes on to another, by the first token after it
Goes : List Token → List Token → List Token → Type 0
Goes front rest longer = (t : Token) × ((more : List Token) × ((after : List Token) × ((longer ≡ front ++ t ∷ more) × (rest ≡ t ∷ after))))

fronts : (f g r s : List Token) → f ++ r ≡ g ++ s → ((f ≡ g) × (r ≡ s)) ⊎ (Goes f r g ⊎ Goes g s f)
unfolding Goes
fronts [] [] r s e = inl (refl, e)
fronts [] (t ∷ g) r s e = inr (inl (t, (g, (g ++ s, (refl, e)))))
fronts (t ∷ f) [] r s e = inr (inr (t, (f, (f ++ r, (refl, sym e)))))
fronts (t ∷ f) (u ∷ g) r s e = go (fronts f g r s (tails e))
  where
    tails : t ∷ f ++ r ≡ u ∷ g ++ s → f ++ r ≡ g ++ s
    tails h = cc

    heads : t ∷ f ++ r ≡ u ∷ g ++ s → t ≡ u
    heads h = cc

    both : {x : Token} (xs ys : List Token) → t ≡ x → xs ≡ ys → t ∷ xs ≡ x ∷ ys
    both xs ys a b = cc

    go : ((f ≡ g) × (r ≡ s)) ⊎ (Goes f r g ⊎ Goes g s f)
        → ((t ∷ f ≡ u ∷ g) × (r ≡ s)) ⊎ (Goes (t ∷ f) r (u ∷ g) ⊎ Goes (u ∷ g) s (t ∷ f))
    go (inl (a, b)) = inl (both f g (heads e) a, b)
    go (inr (inl (x, (more, (after, (a, b)))))) = inr (inl (x, (more, (after, (sym (both (f ++ x ∷ more) g (heads e) (sym a)), b)))))
    go (inr (inr (x, (more, (after, (a, b)))))) = inr (inr (x, (more, (after, (both f (g ++ x ∷ more) (heads e) a, b)))))

-- what begins with more tokens begins with these
begins-front : (front more : List Token) (t : Token) → BeginsEntry (front ++ t ∷ more) → BeginsEntry (front ++ t ∷ [])
begins-front front more t (e, rest, w) = (e, more ++ rest, subst (Writes e) whole w)
  where
    whole : (front ++ t ∷ more) ++ rest ≡ (front ++ t ∷ []) ++ (more ++ rest)
    whole = rw (append_assoc, append_assoc) refl

-- no fault is before a fault
none-before : (room : Room) (ts front : List Token) (stop : Stop) (rest : List Token) (f : IsGrammarFault room ts stop)
    → IsStuck room front rest → Goes front rest f.front → ⊥
unfolding Goes
none-before room ts front stop rest f stuck (t, (more, (after, (longer, is)))) = go (subst (IsStuck room front) is stuck)
  where
    go : IsStuck room front (t ∷ after) → ⊥
    go (inl dead) = dead (begins-front front more t (subst BeginsEntry longer f.begins))
    go (inr many) = f.within front t more longer many

pub one-fault : (room : Room) (ts : List Token) (x y : Stop) → IsGrammarFault room ts x → IsGrammarFault room ts y → x ≡ y
one-fault room ts x y f g = go (fronts f.front g.front x.rest y.rest (sym f.whole ∙ g.whole))
  where
    same : (f.front ≡ g.front) × (x.rest ≡ y.rest) → x ≡ y
    same (front, rest) =
        let wanted : IsExpected f.expected g.front = subst (IsExpected f.expected) front f.wanted in
        let word : f.expected ≡ g.expected = one-first g.front sorts f.expected g.expected wanted g.wanted in
        let there : IsRefusal f.expected f.front y.rest x.refusal =
        subst (λ l. IsRefusal f.expected f.front l x.refusal) rest f.refused in
        let refused : IsRefusal g.expected g.front y.rest x.refusal =
        subst (λ e. IsRefusal e g.front y.rest x.refusal) word
        (subst (λ l. IsRefusal f.expected l y.rest x.refusal) front there) in
        let why : x.refusal ≡ y.refusal = one-refusal g.expected g.front y.rest x.refusal y.refusal refused g.refused in
        λ i. record { rest = rest i; refusal = why i }

    go : ((f.front ≡ g.front) × (x.rest ≡ y.rest)) ⊎ (Goes f.front x.rest g.front ⊎ Goes g.front y.rest f.front) → x ≡ y
    go (inl both) = same both
    go (inr (inl before)) = absurd (none-before room ts f.front y x.rest g f.stuck before)
    go (inr (inr before)) = absurd (none-before room ts g.front x y.rest f g.stuck before)

-- The reading stops at the fault.

halted-stuck : (room : Room) (front rest : List Token) (state : State) → state_after room Start front ≡ Some state
    → IsHalted room state rest → IsStuck room front rest
halted-stuck room front [] state reached none = dead_end room state front reached none
halted-stuck room front (t ∷ ts) state reached none = stuck room state t front ts reached none

-- tokens that lead to a state have no name of a definition over the limit
within : (room : Room) (front : List Token) (state : State) → state_after room Start front ≡ Some state
    → (before : List Token) (t : Token) (more : List Token) → front ≡ before ++ t ∷ more → IsOneTooMany room before t → ⊥
within room front state reached before t more whole many = none_taken (sym (full-stops room p.from before t p.reached many) ∙ p.taken)
  where
    p : Passes room Start before t more state
    p = passes room Start state before t more (subst (λ l. state_after room Start l ≡ Some state) whole reached)

    none_taken : None ≡ Some p.to → ⊥
    none_taken h = cc

pub leftmost : (room : Room) (ts : List Token) (stop : Stop) → reading room Start ts ≡ Err stop
    → IsGrammarFault room ts stop
leftmost room ts stop h = go (halts room Start ts stop h)
  where
    go : Halts room Start ts stop → IsGrammarFault room ts stop
    go x = fault (refused-state room x.front stop.rest x.last x.reached)
      where
        fault : IsRefused x.front stop.rest (refused_at x.last stop.rest) → IsGrammarFault room ts stop
        fault (expected, (wanted, refused)) = record {
          front = x.front;
          whole = x.whole;
          begins = begins room x.front x.last x.reached;
          within = within room x.front x.last x.reached;
          stuck = halted-stuck room x.front stop.rest x.last x.reached x.halted;
          expected = expected;
          wanted = wanted;
          refused = subst (IsRefusal expected x.front stop.rest) (sym x.refusal) refused;
        }

-- a faulty line is no entry within the limits
pub faulty_unwritten : (room : Room) (ts : List Token) (stop : Stop) (e : EntryBody) → IsGrammarFault room ts stop
    → WritesWithin room e ts → ⊥
faulty_unwritten room ts stop e f w = go stop.rest f.whole f.stuck
  where
    go : (rest : List Token) → ts ≡ f.front ++ rest → IsStuck room f.front rest → ⊥
    go [] whole stuck = stuck e (subst (Writes e) (whole ∙ append-nil f.front) w.0)
    go (t ∷ us) whole (inl dead) = dead (e, us, subst (Writes e) (whole ∙ sym (append_assoc f.front (t ∷ []) us)) w.0)
    go (t ∷ us) whole (inr many) = reached (read-reaches room Start ts e (entry-read room e ts w.0 w.1))
      where
        reached : (q : State) × (state_after room Start ts ≡ Some q) → ⊥
        reached (q, is) = within room ts q is f.front t us whole many

-- what is read is written within the limits
pub read-within : (room : Room) (ts : List Token) (e : EntryBody) → reading room Start ts ≡ Ok e → WritesWithin room e ts
read-within room ts e h = (sound room Start ts e h, room-kept room e e ts (sound room Start ts e h) h)

-- a line without a fault is an entry within the limits
pub faulty_or_written : (room : Room) (ts : List Token)
    → ((e : EntryBody) × WritesWithin room e ts) ⊎ ((stop : Stop) × IsGrammarFault room ts stop)
faulty_or_written room ts = go (reading room Start ts) refl
  where
    go : (r : Result EntryBody Stop) → reading room Start ts ≡ r
        → ((e : EntryBody) × WritesWithin room e ts) ⊎ ((stop : Stop) × IsGrammarFault room ts stop)
    go (Ok e) is = inl (e, read-within room ts e is)
    go (Err stop) is = inr (stop, leftmost room ts stop is)

-- at a line's fault the reading stops
pub fault_read : (room : Room) (ts : List Token) (stop : Stop) → IsGrammarFault room ts stop → reading room Start ts ≡ Err stop
fault_read room ts stop f = go (reading room Start ts) refl
  where
    go : (r : Result EntryBody Stop) → reading room Start ts ≡ r → reading room Start ts ≡ Err stop
    go (Ok e) is = absurd (faulty_unwritten room ts stop e f (read-within room ts e is))
    go (Err other) is = is ∙ ap Err (one-fault room ts other stop (leftmost room ts other is) f)

-- The expected token could have stood at the fault.

word-stands : (room : Room) (y : Expected) (front ts : List Token) (r : Refusal) (x : Expected) → CanStand y front
    → IsRefusal y front ts r → r ≡ refusals.Syntax x → CanStand x front
word-stands room wants.AliasName front ts r x stands h word = subst (λ z. CanStand z front) (name-word ts x (sym h ∙ word)) stands
word-stands room wants.Command front ts r x stands h word =
    subst (λ z. CanStand z front) (sym (member-word kinds.Cmnd ts x (sym h ∙ word))) stands
word-stands room wants.Member [] ts r x stands h word = state-stands room [] Start ts x refl (sym h ∙ word)
word-stands room wants.Member (t ∷ front) ts r x stands (inl (users, h)) word =
    subst (λ z. CanStand z (t ∷ front)) (sym (member-word kinds.User ts x (sym h ∙ word))) stands
word-stands room wants.Member (t ∷ front) ts r x stands (inr (none, h)) word =
    subst (λ z. CanStand z (t ∷ front)) (sym (member-word kinds.Host ts x (sym h ∙ word))) stands
word-stands room y front ts r x stands h word = go h
  where
    no_word : refusals.Unsupported forms.CommandOption ≡ refusals.Syntax x → ⊥
    no_word h = cc

    go : (IsOption front ts × (r ≡ refusals.Unsupported forms.CommandOption)) ⊎ ((IsOption front ts → ⊥) × (r ≡ refusals.Syntax y))
        → CanStand x front
    go (inl (option, h)) = absurd (no_word (sym h ∙ word))
    go (inr (none, h)) = subst (λ z. CanStand z front) (syntax_injective y x (sym h ∙ word)) stands

pub stands : (room : Room) (ts : List Token) (stop : Stop) (f : IsGrammarFault room ts stop) (x : Expected)
    → stop.refusal ≡ refusals.Syntax x → CanStand x f.front
stands room ts stop f x h =
    word-stands room f.expected f.front stop.rest stop.refusal x (first-stands f.front sorts f.expected f.wanted) f.refused h
