-- What lines stand for, and what is read of a line that is text.
use Rattle.std.specs.Prelude.{List, None, Option, [], false, not, option_and_then, option_map, take, ℕ, ◌+◌, ◌++◌, ◌==◌, ◌∷◌, ◌≡◌}
use Rattle.std.specs.List.{AllByRecursion}
use Rattle.lt_tables.specs.Query.{Query}
use Rattle.lt_tables.specs.Schema.{when}
use Rattle.lt_tables.specs.Query as script_tables
use Rattle.lt_words.specs.Script as script
use Rattle.lt_words.specs.Lines.{has_options}
use Rattle.lt_command.specs.View.{view_command, view_mode}
use Rattle.lt_command.specs.declared.command.Mode.{Mode}
use Rattle.lt_script.specs.declared.line.Line.{Line}
use Rattle.lt_script.specs.declared.line.Line.TheVariants as lines

abbrev pub view_line : Line → script.Line
view_line lines.Skipped = script.skipped
view_line lines.Bad = script.bad_line
view_line (lines.Command c) = script.spells_command (view_command c)

-- the command, where its line goes on with no options
abbrev pub without_options : List ℕ → Option script_tables.Command → Option script_tables.Command
without_options line o = option_and_then (λ c. when (not (has_options line c)) c) o

-- the command that a line spells, where it has no options
abbrev pub command_read : List ℕ → Option script_tables.Command
command_read line = without_options line (script.command_in line (script.words line))

-- the query of all rows, at most so many, where its three words are known
abbrev pub asked : Option (List ℕ) → Option ℕ → Option ℕ → Option ℕ → Option Query
asked table version at limit = option_and_then (λ t. option_and_then (λ v. option_map (λ a. script.plain_query t v a limit) at) version) table

-- a partition and a mode
abbrev pub part_and_mode : List (List ℕ) → Option (ℕ × script_tables.Mode)
part_and_mode [] = None
part_and_mode (p ∷ ws) = option_and_then (λ p. option_map (λ m. (p, m)) (script.mode_words ws)) (script.small_word p)

abbrev pub view_part_mode : ℕ × Mode → ℕ × script_tables.Mode
view_part_mode x = (x.0, view_mode x.1)

-- one word
abbrev pub NoSpace : List ℕ → Type 0
NoSpace w = AllByRecursion (λ b. (b == 32) ≡ false) w

-- a line's first word, and what stands behind the space after it
pub record IsParted (line word rest : List ℕ) : Type 0 where
  pub is : line ≡ word ++ 32 ∷ rest
  pub one : NoSpace word

-- the first bytes of a line: as many as tell whether it is too long
abbrev pub kept_of : List ℕ → List ℕ
kept_of line = take (script.max_line + 1) line
