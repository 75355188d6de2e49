-- The lines of a script that the program answers today.
use Rattle.std.specs.Prelude.{Bool, List, false, if◌then◌else◌, is_none, length, nat_lt, not, true, ℕ, ◌&&◌}
use Rattle.lt_tables.specs.Query.{Command, Pred, Query, all_rows, both, compares, do_page, do_pump, do_retire, do_scan, do_schema, do_split, do_status, either, is_null, negated}
use Rattle.lt_words.specs.Script.{Line, bad_line, line_of, skipped, spells_command, words}

-- ---- lines

abbrev pub is_all_rows : Pred → Bool
is_all_rows all_rows = true
is_all_rows (both p q) = false
is_all_rows (either p q) = false
is_all_rows (negated p) = false
is_all_rows (is_null name) = false
is_all_rows (compares op name l) = false

abbrev pub asks_all : Query → Bool
asks_all q = is_none q.columns && is_none q.from && is_none q.to && is_none q.after && is_none q.limit && is_all_rows q.filter

-- The commands that this program answers. All others are planned; their lines are bad ones until they are built.
abbrev pub is_built : Command → Bool
is_built (do_schema t) = true
is_built (do_retire t v) = true
is_built (do_pump n k) = true
is_built (do_split t k) = true
is_built do_status = true
is_built (do_scan q) = asks_all q
is_built c = false

-- a scan or a page whose line goes on behind its plain words
abbrev pub has_options : List ℕ → Command → Bool
has_options line (do_scan q) = nat_lt 4 (length (words line))
has_options line (do_page q) = nat_lt 5 (length (words line))
has_options line c = false

-- options are not read yet, also where there are none in them
abbrev pub only_built : List ℕ → Line → Line
only_built line skipped = skipped
only_built line bad_line = bad_line
only_built line (spells_command c) = if is_built c && not (has_options line c) then spells_command c else bad_line

-- what a line is read as: one that spells no command that is built is a bad one
unfoldable pub line_read : List ℕ → Line
line_read line = only_built line (line_of line)
