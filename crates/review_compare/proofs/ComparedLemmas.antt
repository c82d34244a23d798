-- Policies whose rulings agree say the same.
use Rattle.std.proofs.Common.{◌≡◌, ℕ, Bool, true, false, cond, List, [], ◌∷◌, Option, Some, None, refl, sym, ◌∙◌, ap}
use Rattle.std.specs.Prelude.{option_map}
use Rattle.std.proofs.lemmas.Bool.{and_parts}
use Rattle.sudo_text.specs.declared.line.Place.{Place}
use Rattle.sudo_grammar.specs.declared.policy.Policy.{Policy}
use Rattle.sudo_match.specs.declared.request.Tags.{Tags}
use Rattle.sudo_match.specs.Matching.{command_fits}
use Rattle.sudo_verdict.specs.Last.{last_that}
use Rattle.sudo_verdict.specs.Tagged.{tags_given}
use Rattle.sudo_verdict.specs.Values.{is_all}
use Rattle.sudo_verdict.specs.Questions.{Question}
use Rattle.sudo_verdict.specs.Grants.{Grant}
use Rattle.sudo_verdict.specs.Verdicts.{decided_by, verdict_if_any, verdict_on}
use Rattle.sudo_verdict.proofs.Lasts.{last_that-map}
use Rattle.review_grants.specs.Targets.{target_rows, with_command}
use Rattle.review_compare.specs.Agreement.{answer_of}
use Rattle.review_compare.specs.Compared.{said, ruling_of, rulings, same_choice, same_choices, same_answer, PoliciesAgree}
use Rattle.review_grants.proofs.TargetLemmas.{fitting, target_decides}
use Rattle.review_compare.proofs.CoveringLemmas.{commands_agree}

choice_same : (c d : Option Bool) → same_choice c d ≡ true → c ≡ d
choice_same None None e = refl
choice_same None (Some b) e = cc
choice_same (Some true) (Some true) e = refl
choice_same (Some false) (Some false) e = refl
choice_same (Some true) (Some false) e = cc
choice_same (Some false) (Some true) e = cc
choice_same (Some true) None e = cc
choice_same (Some false) None e = cc

choices_same : (cs ds : List (Option Bool)) → same_choices cs ds ≡ true → cs ≡ ds
choices_same [] [] e = refl
choices_same [] (d ∷ ds) e = cc
choices_same (c ∷ cs) [] e = cc
choices_same (c ∷ cs) (d ∷ ds) e =
    let both = and_parts (same_choice c d) (same_choices cs ds) e in
    ap (λ x. x ∷ cs) (choice_same c d both.0) ∙ ap (λ xs. d ∷ xs) (choices_same cs ds both.1)

pub answer_same : (a b : Option Tags) → same_answer a b ≡ true → a ≡ b
answer_same None None e = refl
answer_same None (Some u) e = cc
answer_same (Some t) None e = cc
answer_same (Some t) (Some u) e = ap (λ cs. Some (record { choices = cs })) (choices_same t.choices u.choices e)

decided_said : (place : Place) (t : Tags) (n a : Bool) → said (decided_by place t n a) ≡ Some (cond n None (Some (tags_given a t)))
decided_said place t true a = refl
decided_said place t false a = refl

said_by : (o : Option Grant) → said (verdict_if_any o) ≡ option_map (λ r. r.answer) (option_map ruling_of o)
said_by None = refl
said_by (Some g) = decided_said g.place g.tags g.negated (is_all g.atom)

answered : (p : Policy) (q : Question) (c x : List ℕ) → said (verdict_on p (with_command q c x)) ≡ answer_of (λ a. command_fits a c x)
    (rulings p q)
answered p q c x =
    ap said (target_decides p q c x) ∙ said_by (last_that (fitting c x) (target_rows p q))
    ∙ ap (option_map (λ r. r.answer))
    (sym (last_that-map true (fitting c x) (λ r. command_fits r.atom c x) ruling_of (λ g. refl) (target_rows p q)))

pub policies_agree : PoliciesAgree
policies_agree old new q r e c x =
    answered old q c x
    ∙ (commands_agree (Option Tags)).holds same_answer answer_same (rulings old q) (rulings new r) e c x
    ∙ sym (answered new r c x)
