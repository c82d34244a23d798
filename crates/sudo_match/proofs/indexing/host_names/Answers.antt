use Rattle.std.proofs.Common.{◌≡◌, ℕ, true, false, sym, ap, ◌∙◌, ◌++◌, ◌∷◌, [], refl, length, subst, arith}
use Rattle.std.specs.Prelude.{is_some, slice_get, Some, Option, option_map}
use Rattle.std.proofs.lemmas.Option.{slice_get_read}
use Rattle.sudo_match.specs.declared.people.Machine.{Machine}
use Rattle.sudo_base.specs.Body.Indexes.{IndexesRows}
use Rattle.sudo_base.specs.NameIndices.{index_of}
use Rattle.sudo_base.proofs.IndexLemmas.{IndexesRows-none, IndexesRows-more, index_of-empty, index_of-append}
use Rattle.sudo_base.proofs.Options.{none_of}
use Rattle.sudo_match.specs.declared.fault.DirFault.{DirFault}
use Rattle.sudo_match.specs.declared.fault.DirFault.TheVariants.{HostTwice}
use Rattle.sudo_match.specs.Class.{lower_text}
use Rattle.sudo_match.specs.KnownRows.{same_host, first_clash, clashes_at, IsDirectoryFault}
use Rattle.sudo_match.proofs.ClashLemmas.{none-first, none-more, key-clash, clash-is, clash-none}
use Rattle.sudo_match.proofs.indexing.host_names.Goals as goal

pub loop-at-init : goal.loop-at-init
loop-at-init c = record {
  indexed = IndexesRows-none (λ m. lower_text m.name) c.args.machines.now (index_of c.new-names.result)
      (λ name. ap (λ es. index_of es name) c.new-names.ensures ∙ index_of-empty name);
  none = none-first same_host c.args.machines.now;
}

pub returns-then-is_some-clause-fault : goal.returns-then-is_some-clause-fault
returns-then-is_some-clause-fault c =
    let row : slice_get c.args.machines.now c.loop-at.at ≡ Some c.index-machines-at.result =
    slice_get_read c.args.machines.now (length c.args.machines.now) c.loop-at.at c.index-machines-at.result refl
    c.loop-at-test.true c.index-machines-at.is in
    let key : c.as_slice-in-loop-at.result.now ≡ lower_text c.index-machines-at.result.name =
    c.as_slice-in-loop-at.ensures.value ∙ c.in_ok-name.ensures ∙ ap lower_text c.as_slice.ensures in
    let there : is_some (index_of c.loop-at.names (lower_text c.index-machines-at.result.name)) ≡ true =
    ap (λ n. is_some (index_of c.loop-at.names n)) (sym key) ∙ ap is_some (sym c.get.ensures) ∙ sym c.is_some.ensures ∙ c.if-is_some.true in
    let clashes : clashes_at same_host c.args.machines.now c.loop-at.at ≡ true =
    key-clash (λ m. lower_text m.name) c.args.machines.now c.loop-at.at c.index-machines-at.result
    (index_of c.loop-at.names) c.loop-at.invariant.indexed row ∙ there in
    let fault : option_map (λ (m : Machine). HostTwice m.name) (first_clash same_host c.args.machines.now) ≡ Some
    (HostTwice c.as_slice-then-is_some.result.now) =
    ap (option_map (λ (m : Machine). HostTwice m.name))
    (clash-is same_host c.args.machines.now c.loop-at.at c.index-machines-at.result c.loop-at.invariant.none row clashes)
    ∙ ap (λ n. Some (HostTwice n)) (sym c.as_slice-then-is_some.ensures) in
    let P : Option DirFault → Type 0 = λ o. IsDirectoryFault o c.host_twice.result in
    subst P (sym fault) c.host_twice.ensures

pub loop-at-preserved : goal.loop-at-preserved
loop-at-preserved c =
    let row : slice_get c.args.machines.now c.loop-at.at ≡ Some c.index-machines-at.result =
    slice_get_read c.args.machines.now (length c.args.machines.now) c.loop-at.at c.index-machines-at.result refl
    c.loop-at-test.true c.index-machines-at.is in
    let key : c.as_slice-in-loop-at.result.now ≡ lower_text c.index-machines-at.result.name =
    c.as_slice-in-loop-at.ensures.value ∙ c.in_ok-name.ensures ∙ ap lower_text c.as_slice.ensures in
    let fresh : is_some (index_of c.loop-at.names (lower_text c.index-machines-at.result.name)) ≡ false =
    ap (λ n. is_some (index_of c.loop-at.names n)) (sym key) ∙ ap is_some (sym c.get.ensures) ∙ sym c.is_some.ensures
    ∙ c.if-is_some.false in
    let added : c.insert.new.self ≡ c.loop-at.names ++ (lower_text c.index-machines-at.result.name, c.loop-at.at) ∷ [] =
    c.in_ok-insert.ensures.ok ∙ ap (λ n. c.loop-at.names ++ (n, c.loop-at.at) ∷ [])
    (c.as_slice-in-loop-at-2.ensures.value ∙ c.in_ok-name.ensures ∙ ap lower_text c.as_slice.ensures) in
    record {
      indexed = IndexesRows-more (λ m. lower_text m.name) c.args.machines.now c.loop-at.at c.index-machines-at.result
          (index_of c.loop-at.names) (index_of c.insert.new.self)
          c.loop-at.invariant.indexed row (none_of _ fresh)
          (λ other. ap (λ es. index_of es other) added
          ∙ index_of-append c.loop-at.names (lower_text c.index-machines-at.result.name) c.loop-at.at other (none_of _ fresh));
      none = none-more same_host c.args.machines.now c.loop-at.at c.loop-at.invariant.none
          (key-clash (λ m. lower_text m.name) c.args.machines.now c.loop-at.at c.index-machines-at.result
          (index_of c.loop-at.names) c.loop-at.invariant.indexed row ∙ fresh);
    }

pub returns-clause-names : goal.returns-clause-names
returns-clause-names c =
    let end : c.loop-at.at ≡ length c.args.machines.now = omega (arith, c.loop-at-test.false, c.loop-at.auto.at-end) in
    let P : ℕ → Type 0 = λ n. IndexesRows (λ (m : Machine). lower_text m.name) c.args.machines.now n (index_of c.loop-at.names) in
    record {
      apart = clash-none same_host c.args.machines.now c.loop-at.at c.loop-at.invariant.none c.loop-at-test.false;
      indexed = subst P end c.loop-at.invariant.indexed;
    }
