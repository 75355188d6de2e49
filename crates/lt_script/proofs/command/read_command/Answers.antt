use Rattle.std.proofs.Common.{sym}
use Rattle.lt_script.proofs.LineLaws.{other_read}
use Rattle.lt_script.proofs.command.read_command.Goals as goal

pub returns-in_default-first : goal.returns-in_default-first
returns-in_default-first c =
    let w = c.in_default-first in
    sym (other_read c.args.line.now c.in-Some.first.now c.in-Some.rest.now c.in-Some.ensures.parted (record {
      schema = w.not-schema;
      retire = w.not-retire;
      pump = w.not-pump;
      flush = w.not-flush;
      compact = w.not-compact;
      job = w.not-job;
      split = w.not-split;
      retain = w.not-retain;
      scan = w.not-scan;
      page = w.not-page;
      deltas = w.not-deltas;
    }))
