use Rattle.std.proofs.Common.{rules, ◌≡◌, ◌∙◌, ℕ, length, map, ap, sym, subst, arith, IsTrue, true, false, vec_len, replicate, []}
use Rattle.std.proofs.lemmas.List.{length-map}
use Rattle.audit_run.specs.Names.{names_under}
use Rattle.audit_run.specs.Body.Work.{AreParts, joined_sources, joined_workers, part_ahead}
use Rattle.audit_run.specs.Body.FreshPasses.{with_messages}
use Rattle.audit_run.specs.declared.message.Job.TheVariants.{Stop}
use Rattle.audit_run.proofs.Joins.{ran}
use Rattle.audit_run.proofs.auditing.run.Goals.{else-all_workers, then-all_workers}
use Rattle.audit_run.proofs.auditing.run.Goals as goal

pub returns : goal.returns
returns g c = elim c.if-all_workers.branch [
  | then-all_workers w ↦ λ started.
      let (parts, put, read, pass, have_put, faults) = c.join_readers.ensures in
      let (jobs, worked) = c.join_workers.ensures in
      let gathered = c.gather_all.ensures in
      let all = w.start_readers-all_started.ensures.all (subst IsTrue w.all_started-is started) in
      let same : map (λ h. part_ahead h.promise.owner (g.F.Feed.ahead h.promise.reader.value))
      c.if-all_workers.readers.items ≡ map (λ p. part_ahead p.owner (g.F.Feed.ahead p.reader))
      c.args.parts.items = ap (λ v. map (λ h. part_ahead h.promise.owner (g.F.Feed.ahead h.promise.reader.value))
      v.items) w.readers-is ∙ all in
      let handles_long = length-map c.if-all_workers.readers.items
      (λ h. part_ahead h.promise.owner (g.F.Feed.ahead h.promise.reader.value)) in
      let parts_long = length-map c.args.parts.items (λ p. part_ahead p.owner (g.F.Feed.ahead p.reader)) in
      let handles : length c.if-all_workers.readers.items ≡ vec_len c.if-all_workers.readers = search rules in
      let given : length c.args.parts.items ≡ vec_len c.args.parts = search rules in
      let as_long = ap length same in
      let sources : vec_len c.if-all_workers.readers ≡ vec_len c.args.parts =
      omega (arith, handles_long, parts_long, handles, given, as_long) in
      let workers : vec_len c.start_workers-all_workers.new.handles ≡ vec_len c.args.prepared.worker_passes =
      omega (arith, w.if-all_workers.ensures.all, c.requires.ready.no_workers) in
      record {
        parts = parts;
        read = subst (λ t. AreParts t parts) same read;
        put = put;
        have_put = have_put;
        taken = jobs;
        gathered = gathered.outcomes;
        pass = ran (names_under c.args.shared.policy.now c.args.shared.directory.now) c.args.prepared.pass
            c.gather_all.new.pass c.join_readers.new.pass c.join_workers.new.pass
            (vec_len c.args.parts) (vec_len c.args.prepared.worker_passes) put jobs gathered.outcomes
            (gathered.pass ∙ ap (λ (n : ℕ). with_messages c.args.prepared.pass (replicate n Stop) [] []
            gathered.outcomes) (c.len-2.ensures ∙ workers))
            (pass ∙ ap (λ (n : ℕ). joined_sources c.gather_all.new.pass n put) sources)
            (worked ∙ ap (λ (n : ℕ). joined_workers (names_under c.args.shared.policy.now c.args.shared.directory.now)
            c.join_readers.new.pass n jobs) workers);
        gathers = gathered.gathered;
        faults = faults;
      }
  | else-all_workers w ↦ λ started.
      let both : false ≡ true = sym w.if-all_workers.false ∙ subst IsTrue w.all_started-is started in
      cc
]
