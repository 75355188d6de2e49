-- The commands that a step takes: those that are built, and of queries those without options.
use Rattle.std.proofs.Common.{List, ap, refl, subst, sym, ℕ, ◌∙◌, ◌≡◌}
use Rattle.std.proofs.lemmas.Bool.{and_parts, false≢true}
use Rattle.std.specs.Prelude.{IsTrue, None, Option, Some, is_none, ◌&&◌}
use Rattle.lt_command.specs.View.{view_command, view_query}
use Rattle.lt_command.specs.declared.command.Command as commands
use Rattle.lt_command.specs.declared.command.Command.TheVariants as command
use Rattle.lt_command.specs.declared.command.Query as queries
use Rattle.lt_words.specs.Lines.{asks_all, is_all_rows, is_built}
use Rattle.lt_machine.specs.Outside.{is_command}
use Rattle.lt_tables.specs.Query.{Literal, Pred, Query, all_rows, both, compares, either, is_null, negated}
use Rattle.lt_tables.specs.Query.{do_scan}
use Rattle.lt_words.specs.Script.{plain_query}
use Rattle.lt_replica.specs.Scans.{plain}

abbrev IsTaken : commands.Command → Type 0
IsTaken c = IsTrue (is_command (view_command c) && is_built (view_command c))

is_plain : (q : Query) (columns : Option (List (List ℕ))) (from to after : Option (List Literal)) (limit : Option ℕ) (p : Pred)
    → IsTrue (is_none columns && is_none from && is_none to && is_none after && is_none limit && is_all_rows p)
    → record q { columns = columns; from = from; to = to; after = after; limit = limit; filter = p } ≡ plain_query q.table q.version q.at None
is_plain q None None None None None all_rows h = refl
is_plain q (Some x) from to after limit p h = absurd (false≢true h)
is_plain q None (Some x) to after limit p h = absurd (false≢true h)
is_plain q None None (Some x) after limit p h = absurd (false≢true h)
is_plain q None None None (Some x) limit p h = absurd (false≢true h)
is_plain q None None None None (Some x) p h = absurd (false≢true h)
is_plain q None None None None None (both a b) h = absurd (false≢true h)
is_plain q None None None None None (either a b) h = absurd (false≢true h)
is_plain q None None None None None (negated a) h = absurd (false≢true h)
is_plain q None None None None None (is_null name) h = absurd (false≢true h)
is_plain q None None None None None (compares op name l) h = absurd (false≢true h)

asks_plain : (q : Query) → IsTrue (asks_all q) → q ≡ plain_query q.table q.version q.at None
asks_plain q h = is_plain q q.columns q.from q.to q.after q.limit q.filter h

-- a scan that a step takes has no options
pub scans_plain : (q : queries.Query) {c : commands.Command} → c ≡ command.Scan q → IsTaken c → do_scan (plain q) ≡ view_command c
scans_plain q {c} is h =
    let taken : IsTaken (command.Scan q) = subst IsTaken is h in
    sym (ap view_command is ∙ ap do_scan (asks_plain (view_query q) (and_parts (is_command (view_command (command.Scan q))) (asks_all (view_query q)) taken).1))
