-- What commands and queries stand for in the definitions.
use Rattle.std.specs.Prelude.{option_map}
use Rattle.lt_tables.specs.Query as asked
use Rattle.lt_pred.specs.View.{view_literals, view_pred}
use Rattle.lt_command.specs.declared.command.Command.{Command}
use Rattle.lt_command.specs.declared.command.Command.TheVariants as commands
use Rattle.lt_command.specs.declared.command.Mode.{Mode}
use Rattle.lt_command.specs.declared.command.Mode.TheVariants as modes
use Rattle.lt_command.specs.declared.command.Query.{Query}

abbrev pub view_query : Query → asked.Query
view_query q = record {
  table = q.table;
  version = q.version;
  at = q.at;
  columns = q.columns;
  from = option_map view_literals q.from;
  to = option_map view_literals q.to;
  after = option_map view_literals q.after;
  limit = q.limit;
  filter = view_pred q.filter;
}

abbrev pub view_mode : Mode → asked.Mode
view_mode (modes.Minor ids) = asked.minor ids
view_mode modes.Major = asked.major

abbrev pub view_command : Command → asked.Command
view_command (commands.Schema text) = asked.do_schema text
view_command (commands.Retire table version) = asked.do_retire table version
view_command (commands.Pump stream count) = asked.do_pump stream count
view_command (commands.Flush part) = asked.do_flush part
view_command (commands.Compact part mode) = asked.do_compact part (view_mode mode)
view_command (commands.JobBegin part mode) = asked.do_job_begin part (view_mode mode)
view_command (commands.JobStep keys) = asked.do_job_step keys
view_command commands.JobFinish = asked.do_job_finish
view_command commands.JobDrop = asked.do_job_drop
view_command (commands.Split table key) = asked.do_split table (view_literals key)
view_command (commands.Retain at) = asked.do_retain at
view_command (commands.Scan query) = asked.do_scan (view_query query)
view_command (commands.Page query) = asked.do_page (view_query query)
view_command commands.Status = asked.do_status
view_command (commands.Deltas part) = asked.do_deltas part
view_command commands.Reopen = asked.do_reopen
