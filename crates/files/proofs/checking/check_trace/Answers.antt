use Rattle.std.proofs.Common.{length, ap, ◌∙◌, subst}
use Rattle.reconstruction.specs.Meanings.{saved}
use Rattle.session.specs.Meanings.{checking_variables}
use Rattle.trace.specs.Sessions.{progress}
use Rattle.files.specs.Outcomes.{Whole, written, traced}
use Rattle.files.specs.Reports.{Answers}
use Rattle.files.proofs.checking.check_trace.Goals as goal

pub returns : goal.returns
returns g c =
    let e = c.in_ok-read_trace.ensures in
    let n = length c.args.buffer.now in
    let last = c.read_trace.new in
    let s = g.D.ClauseDatabase.standing last.db in
    let saves = saved last.stack in
    let p' = progress last.session s saves in
    record {
      outcome = subst (λ (o : Whole). Answers o c.finish_and_write.result s saves c.args.buffer.now c.finish_and_write.new.buffer)
          (ap (λ v. written n v p') e.variables ∙ ap (traced n (checking_variables c.args.session)) e.outcome) (c.finish_and_write.ensures.outcome saves);
      limits = e.limits;
      room = e.room;
      marks = e.marks;
    }
