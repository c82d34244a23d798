use Rattle.std.proofs.Common.{◌≡◌, Err, rules, subst}
use Rattle.sudo_load.specs.declared.fault.LoadFault.TheVariants as load_faults
use Rattle.sudo_load.specs.Load.{IsLoad}
use Rattle.run_base.specs.Holding.{AreHeld}
use Rattle.run_base.specs.Loading.{EndsIn, text_at_fault}
use Rattle.run_base.specs.Body.Loading.{IsNotHanded}
use Rattle.run_base.proofs.Steps.{unloaded, wanted_unread}
use Rattle.run_base.proofs.loading.load_files.Goals as goal

pub returns-in-Err-hand_in-clause-fault : goal.returns-in-Err-hand_in-clause-fault
returns-in-Err-hand_in-clause-fault g c =
    let held = g.F.Files.held c.args.files.now in
    let ends : EndsIn held c.args.path.now c.in-Err.read (load_faults.Wanted c.in-Wanted.want) = search rules in
    let fault = c.in-Err-hand_in.fault in
    wanted_unread held c.args.path.now c.in-Wanted.want c.in-Err.read fault ends
    (subst (λ files. IsNotHanded (g.F.Files.held files) c.in-Wanted.want fault) c.loop-call.invariant.same c.in-Err-hand_in.ensures.fault)

pub returns-in_default-clause-fault : goal.returns-in_default-clause-fault
returns-in_default-clause-fault g c =
    let held = g.F.Files.held c.args.files.now in
    let handed = c.loop-call.supplies.items in
    let ended = Err (c.in-Err.read, c.in-Err.fault) in
    let load : IsLoad c.args.path.now c.loop-call.text handed ended =
    subst (λ t. IsLoad c.args.path.now t handed ended) c.as_slice.ensures
    (subst (λ s. IsLoad c.args.path.now c.as_slice.result.now s ended) c.deref.ensures.value
    (c.in-Err.ensures.load c.in_default.not-Memory)) in
    let faulty : c.faulty_text-text.result ≡ text_at_fault c.loop-call.text handed c.in-Err.read c.in-Err.fault = search rules in
    unloaded held c.args.path.now c.loop-call.text handed c.in-Err.read c.in-Err.fault c.faulty_text-text.result
    c.in_default.not-Wanted c.in_default.not-Memory c.loop-call.invariant.main
    (subst (λ files. AreHeld (g.F.Files.held files) handed) c.loop-call.invariant.same c.loop-call.invariant.held) load faulty
