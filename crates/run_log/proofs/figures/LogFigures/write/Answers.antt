use Rattle.std.proofs.Common.{ℕ, List, ◌≡◌, ◌++◌, length, drop, Ok, ap, ◌∙◌, arith}
use Rattle.std.proofs.lemmas.Grind.{common_steps}
use Rattle.run_log.specs.Log.{log_bytes}
use Rattle.run_log.proofs.Overwrites.{length-written}
use Rattle.run_log.proofs.Joins.{first_lines, next_length, next_room, next_written, all_written}
use Rattle.run_log.proofs.figures.LogFigures.write.Goals as goal

pub put_line-requires : goal.put_line-requires
put_line-requires c =
    let l = c.loop-name in
    let f = c.args.self.now in
    let room = next_room f c.lines-lines.result c.lines-lines.ensures l.name-index c.loop-name-test.true in
    let whole = ap length c.new-log.ensures.text in
    let long = length-written (first_lines f l.name-index) c.new-log.result.buffer.now l.log.buffer.now 0 (omega arith) l.invariant.text in
    omega arith

pub loop-name-preserved : goal.loop-name-preserved
loop-name-preserved c =
    let l = c.loop-name in
    let f = c.args.self.now in
    let lines = c.lines-lines in
    record {
      same_buffer = cc;
      text = c.put_line.ensures.text ∙ next_written f lines.result lines.ensures c.new-log.result.buffer.now l.log.buffer.now l.log.filled l.name-index c.loop-name-test.true l.invariant.filled l.invariant.text;
      filled = omega (arith, next_length f lines.result lines.ensures l.name-index c.loop-name-test.true);
    }

pub returns : goal.returns
returns c =
    let l = c.loop-name in
    let f = c.args.self.now in
    let same = l.invariant.same_buffer ∙ c.new-log.ensures.same_buffer in
    let text : l.log.buffer.now ≡ log_bytes f ++ drop (length (log_bytes f)) c.args.buffer.now = l.invariant.text ∙ all_written f c.new-log.result.buffer.now l.name-index c.loop-name-test.false ∙ ap (λ (l : List ℕ). log_bytes f ++ drop (length (log_bytes f)) l) c.new-log.ensures.text in
    record {
      fits = λ h. (ap (λ (n : ℕ). Ok n) c.length-needed.ensures, grind (arith, common_steps));
      short = λ h. absurd (omega arith);
    }
