-- Lines of planned commands, computed. The program answers none of them yet.
use Rattle.std.specs.Str.{chars, is_utf8}
use Rattle.std.specs.Fmt.{digits}
use lib.Utf8.{encode}
use Rattle.std.proofs.Common.{[], refl, ◌∷◌, ◌≡◌}
use Rattle.std.specs.Prelude.{Some, codes, map}
use Rattle.lt_tables.specs.Query.{do_compact, do_deltas, do_flush, do_job_begin, do_job_drop, do_job_finish, do_job_step, do_page, do_reopen, do_retain, major, minor}
use Rattle.lt_words.specs.Script.{bad_line, line_of, number_word, plain_query, spells_command}

computes : Unit {0}
unfolding is_utf8 chars encode digits number_word line_of
computes = tt

flush_line : line_of (codes "flush 4294967295") ≡ spells_command (do_flush 4294967295)
unfolding computes
flush_line = refl

compact_minor_line : line_of (codes "compact 0 minor 0 2") ≡ spells_command (do_compact 0 (minor (0 ∷ 2 ∷ [])))
unfolding computes
compact_minor_line = refl

compact_major_line : line_of (codes "compact 3 major") ≡ spells_command (do_compact 3 major)
unfolding computes
compact_major_line = refl

job_begin_minor_line : line_of (codes "job begin 0 minor 1 7 18446744073709551615") ≡ spells_command (do_job_begin 0 (minor (1 ∷ 7 ∷ 18446744073709551615 ∷ [])))
unfolding computes
job_begin_minor_line = refl

job_begin_major_line : line_of (codes "job begin 1 major") ≡ spells_command (do_job_begin 1 major)
unfolding computes
job_begin_major_line = refl

job_step_line : line_of (codes "job step 4294967295") ≡ spells_command (do_job_step 4294967295)
unfolding computes
job_step_line = refl

job_finish_line : line_of (codes "job finish") ≡ spells_command (do_job_finish)
unfolding computes
job_finish_line = refl

job_drop_line : line_of (codes "job drop") ≡ spells_command (do_job_drop)
unfolding computes
job_drop_line = refl

retain_line : line_of (codes "retain 18446744073709551615") ≡ spells_command (do_retain 18446744073709551615)
unfolding computes
retain_line = refl

page_line : line_of (codes "page t 1 5 9") ≡ spells_command (do_page (plain_query (codes "t") 1 5 (Some 9)))
unfolding computes
page_line = refl

deltas_line : line_of (codes "deltas 7") ≡ spells_command (do_deltas 7)
unfolding computes
deltas_line = refl

reopen_line : line_of (codes "reopen") ≡ spells_command (do_reopen)
unfolding computes
reopen_line = refl

bad_parts : map line_of (codes "flush" ∷ codes "flush 0 1" ∷ codes "retain" ∷ codes "retain -1" ∷ codes "retain 18446744073709551616" ∷ codes "deltas x" ∷ codes "reopen 1" ∷ [])
    ≡ bad_line ∷ bad_line ∷ bad_line ∷ bad_line ∷ bad_line ∷ bad_line ∷ bad_line ∷ []
unfolding computes
bad_parts = refl

bad_pages : map line_of (codes "page t 1 5" ∷ codes "page t 1 5 0" ∷ codes "page t 1 5 4294967296" ∷ [])
    ≡ bad_line ∷ bad_line ∷ bad_line ∷ []
unfolding computes
bad_pages = refl

bad_compactions : map line_of (codes "compact 0" ∷ codes "compact 0 minor" ∷ codes "compact 0 minor 0" ∷ codes "compact 0 minor 1" ∷ codes "compact 0 minor 2 2" ∷ codes "compact 0 minor 0 3 2" ∷ codes "compact 0 minor 0 1 " ∷ codes "compact 0 minor 0 01" ∷ codes "compact 0 minors 0 1" ∷ codes "compact 0 major 1" ∷ codes "compact minor 0 1" ∷ codes "compact x major" ∷ [])
    ≡ bad_line ∷ bad_line ∷ bad_line ∷ bad_line ∷ bad_line ∷ bad_line ∷ bad_line ∷ bad_line ∷ bad_line ∷ bad_line ∷ bad_line ∷ bad_line ∷ []
unfolding computes
bad_compactions = refl

bad_jobs : map line_of (codes "job" ∷ codes "job begin" ∷ codes "job begin 0" ∷ codes "job begin 0 minor 1" ∷ codes "job step" ∷ codes "job step 0" ∷ codes "job step 1 1" ∷ codes "job finish " ∷ codes "job  drop" ∷ codes "job stop" ∷ [])
    ≡ bad_line ∷ bad_line ∷ bad_line ∷ bad_line ∷ bad_line ∷ bad_line ∷ bad_line ∷ bad_line ∷ bad_line ∷ bad_line ∷ []
unfolding computes
bad_jobs = refl

-- A minor compaction takes at most 64 deltas.
most_deltas : line_of (codes "compact 0 minor 0 1 2 3 4 5 6 7 8 9 10 11 12 13 14 15 16 17 18 19 20 21 22 23 24 25 26 27 28 29 30 31 32 33 34 35 36 37 38 39 40 41 42 43 44 45 46 47 48 49 50 51 52 53 54 55 56 57 58 59 60 61 62 63")
    ≡ spells_command (do_compact 0 (minor (0 ∷ 1 ∷ 2 ∷ 3 ∷ 4 ∷ 5 ∷ 6 ∷ 7 ∷ 8 ∷ 9 ∷ 10 ∷ 11 ∷ 12 ∷ 13 ∷ 14 ∷ 15 ∷ 16 ∷ 17 ∷ 18 ∷ 19 ∷ 20 ∷ 21 ∷ 22 ∷ 23 ∷ 24 ∷ 25 ∷ 26 ∷ 27 ∷ 28 ∷ 29 ∷ 30 ∷ 31 ∷ 32 ∷ 33 ∷ 34 ∷ 35 ∷ 36 ∷ 37 ∷ 38 ∷ 39 ∷ 40 ∷ 41 ∷ 42 ∷ 43 ∷ 44 ∷ 45 ∷ 46 ∷ 47 ∷ 48 ∷ 49 ∷ 50 ∷ 51 ∷ 52 ∷ 53 ∷ 54 ∷ 55 ∷ 56 ∷ 57 ∷ 58 ∷ 59 ∷ 60 ∷ 61 ∷ 62 ∷ 63 ∷ [])))
unfolding computes
most_deltas = refl

more_deltas : line_of (codes "compact 0 minor 0 1 2 3 4 5 6 7 8 9 10 11 12 13 14 15 16 17 18 19 20 21 22 23 24 25 26 27 28 29 30 31 32 33 34 35 36 37 38 39 40 41 42 43 44 45 46 47 48 49 50 51 52 53 54 55 56 57 58 59 60 61 62 63 64") ≡ bad_line
unfolding computes
more_deltas = refl
