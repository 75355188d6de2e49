-- No refusal that the state decides is a fault: of the commands that are built.
use Rattle.std.proofs.Common.{◌≡◌, Bool, true, false, List, [], ◌∷◌, refl, subst}
use Rattle.std.proofs.lemmas.Bool.{false≢true}
use Rattle.std.specs.Prelude.{None, Option, Some, codes, is_none, is_some, length, nat_le, nat_lt, not, option_and_then, option_map, slice_get, ◌&&◌, ◌==◌}
use Rattle.std.specs.List.{AllByRecursion, list_any}
use Rattle.std.specs.Option.{option_map_or, option_or}
use Rattle.lt_words.specs.Lines.{is_built}
use Rattle.lt_machine.specs.Machine.{State, added_text, adds_delta, asks_for_job, cat_of, columns_fault, compaction_asked, count_fault, edge_of, error_of, first_below, is_broken, is_worn, is_write, last_version_retired, literals_fault, not_done_yet, of_query, of_split, part_asked, part_misfit, query_interval, query_of, refused, registered_named, retain_fault, schema_refused, split_key, table_asked, unknown_in, unknown_stream, version_asked}
use Rattle.lt_terms.specs.Key.{max_key}
use Rattle.lt_tables.specs.Query.{Literal, Query}
use Rattle.lt_session_laws.proofs.StepLaws.{refusals}
use Rattle.lt_words.specs.Reply.{Refusal, at_edge, bad_column, bad_schema, is_last_version, job_open, key_too_long, needs_reopen, no_job, no_partition, no_stream, no_such_delta, no_such_table, no_such_version, not_safe, too_many_deltas, too_many_parts, too_old, version_retired, worn, wrong_literal}
use Rattle.lt_machine.specs.Run.{is_fault}
use Rattle.lt_tables.specs.Schema.{Column, Table, first_of, registered, table_named, when}
use Rattle.lt_tables.specs.Query.{Command, do_compact, do_deltas, do_flush, do_job_begin, do_job_drop, do_job_finish, do_job_step, do_page, do_pump, do_reopen, do_retain, do_retire, do_scan, do_schema, do_split, do_status}

abbrev NoFault : Option Refusal → Type 0
NoFault o = (r : Refusal) → o ≡ Some r → is_fault r ≡ false

none_no : NoFault None
none_no r e = absurd cc

one_no : (x : Refusal) → is_fault x ≡ false → NoFault (Some x)
one_no x h r e = let same : x ≡ r = cc in subst (λ (y : Refusal). is_fault y ≡ false) same h

when_no : (b : Bool) (x : Refusal) → is_fault x ≡ false → NoFault (when b x)
when_no true x h = one_no x h
when_no false x h = none_no

map_no : {A : Type 0} (make : A → Refusal) → ((x : A) → is_fault (make x) ≡ false) → (o : Option A) → NoFault (option_map make o)
map_no make h None = none_no
map_no make h (Some x) = one_no (make x) (h x)

then_no : {A : Type 0} (f : A → Option Refusal) → ((x : A) → NoFault (f x)) → (o : Option A) → NoFault (option_and_then f o)
then_no f h None = none_no
then_no f h (Some x) = h x

or_no : (o p : Option Refusal) → NoFault o → NoFault p → NoFault (option_or o p)
or_no None p h k = k
or_no (Some x) p h k = h

first_no : (os : List (Option Refusal)) → AllByRecursion NoFault os → NoFault (first_of os)
first_no [] h = none_no
first_no (None ∷ os) h = first_no os h.1
first_no (Some x ∷ os) h = h.0

of_query_no : (s : State) (c : Command) (f : Table → List Column → Query → Option Refusal) → ((t : Table) (cs : List Column) (q : Query) → NoFault (f t cs q)) → NoFault (of_query s c f)
of_query_no s c f h = then_no (λ q. option_and_then (λ t. option_and_then (λ r. f t r.columns q) (registered t q.version)) (table_named (cat_of s) q.table))
    (λ q. then_no (λ t. option_and_then (λ r. f t r.columns q) (registered t q.version)) (λ t. then_no (λ r. f t r.columns q) (λ r. h t r.columns q) (registered t q.version)) (table_named (cat_of s) q.table)) (query_of c)

-- what the refusals that go by the command's kind owe
record ByKind (s : State) (c : Command) : Type 0 where
  last : NoFault (last_version_retired s c)
  schema : NoFault (schema_refused s c)
  stream : NoFault (unknown_stream s c)
  retain : NoFault (retain_fault s c)
  split : (f : Table → List Literal → Option Refusal) → ((t : Table) (ls : List Literal) → NoFault (f t ls)) → NoFault (of_split s c f)
  finish : NoFault (not_done_yet s c)

by_kind : (s : State) (c : Command) → ByKind s c → NoFault (refused s c)
unfolding refused
by_kind s c k = first_no (refusals s c) (
  when_no (is_broken s && is_write c) needs_reopen refl,
  (
    when_no (is_worn s.durable && is_write c) worn refl,
    (
      then_no (λ t. when (is_none (table_named (cat_of s) t)) (no_such_table t)) (λ t. when_no (is_none (table_named (cat_of s) t)) (no_such_table t) refl) (table_asked c),
      (
        then_no (λ a. when (is_none (registered_named (cat_of s) a.0 a.1)) (no_such_version a.1)) (λ a. when_no (is_none (registered_named (cat_of s) a.0 a.1)) (no_such_version a.1) refl) (version_asked c),
        (
          then_no (λ a. when (option_map_or (λ r. not r.live) (registered_named (cat_of s) a.0 a.1) false) (version_retired a.1))
              (λ a. when_no (option_map_or (λ r. not r.live) (registered_named (cat_of s) a.0 a.1) false) (version_retired a.1) refl) (version_asked c),
          (
            k.last,
            (
              k.schema,
              (
                k.stream,
                (
                  then_no (λ n. when (nat_le (length s.durable.parts) n) (no_partition n)) (λ n. when_no (nat_le (length s.durable.parts) n) (no_partition n) refl) (part_asked c),
                  (
                    then_no (λ a. option_map no_such_delta (option_and_then (λ p. unknown_in p.ids a.1) (slice_get s.durable.parts a.0)))
                        (λ a. map_no no_such_delta (λ x. refl) (option_and_then (λ p. unknown_in p.ids a.1) (slice_get s.durable.parts a.0))) (compaction_asked c),
                    (
                      map_no bad_column (λ x. refl) (option_or (of_query s c columns_fault) (of_split s c (λ t ls. count_fault (codes "key") (λ n. n == length t.key) (Some ls)))),
                      (
                        map_no wrong_literal (λ x. refl) (option_or (of_query s c literals_fault) (of_split s c (λ t ls. part_misfit t.key ls))),
                        (
                          k.split (λ t ls. when (nat_lt max_key (length (split_key t ls))) (key_too_long (length (split_key t ls)))) (λ t ls. when_no (nat_lt max_key (length (split_key t ls))) (key_too_long (length (split_key t ls))) refl),
                          (
                            of_query_no s c (λ t cs q. when (nat_lt q.at s.durable.minimum) (too_old s.durable.minimum)) (λ t cs q. when_no (nat_lt q.at s.durable.minimum) (too_old s.durable.minimum) refl),
                            (
                              of_query_no s c (λ t cs q. option_map (λ x. not_safe x.0 x.1) (first_below s (query_interval t q) q.at)) (λ t cs q. map_no (λ x. not_safe x.0 x.1) (λ x. refl) (first_below s (query_interval t q) q.at)),
                              (
                                k.retain,
                                (
                                  k.split (λ t ls. option_or (option_map at_edge (edge_of s (split_key t ls))) (when (nat_le 1024 (length s.durable.parts)) too_many_parts))
                                      (λ t ls. or_no (option_map at_edge (edge_of s (split_key t ls))) (when (nat_le 1024 (length s.durable.parts)) too_many_parts) (map_no at_edge (λ x. refl) (edge_of s (split_key t ls))) (when_no (nat_le 1024 (length s.durable.parts)) too_many_parts refl)),
                                  (
                                    when_no (nat_le 4096 (length s.durable.shelf) && adds_delta s c) too_many_deltas refl,
                                    (
                                      when_no (is_some (compaction_asked c) && is_some s.job) job_open refl,
                                      (
                                        when_no (asks_for_job c && is_none s.job) no_job refl,
                                        (
                                          k.finish,
                                          tt,
                                        ),
                                      ),
                                    ),
                                  ),
                                ),
                              ),
                            ),
                          ),
                        ),
                      ),
                    ),
                  ),
                ),
              ),
            ),
          ),
        ),
      ),
    ),
  ),
)

pub refused_no_fault : (s : State) (c : Command) → is_built c ≡ true → NoFault (refused s c)
refused_no_fault s (do_schema t) b = by_kind s (do_schema t) (record { last = none_no; schema = map_no bad_schema (λ x. refl) (error_of (added_text (cat_of s) t)); stream = none_no; retain = none_no; split = λ f h. none_no; finish = none_no })
refused_no_fault s (do_retire t v) b = by_kind s (do_retire t v) (record { last = then_no (λ x. when (v == length x.versions) (is_last_version v)) (λ x. when_no (v == length x.versions) (is_last_version v) refl) (table_named (cat_of s) t); schema = none_no; stream = none_no; retain = none_no; split = λ f h. none_no; finish = none_no })
refused_no_fault s (do_pump n k) b = by_kind s (do_pump n k) (record { last = none_no; schema = none_no; stream = when_no (not (list_any (λ x. x.header.stream == n) s.streams)) (no_stream n) refl; retain = none_no; split = λ f h. none_no; finish = none_no })
refused_no_fault s (do_split t ls) b = by_kind s (do_split t ls) (record { last = none_no; schema = none_no; stream = none_no; retain = none_no; split = λ f h. then_no (λ x. f x ls) (λ x. h x ls) (table_named (cat_of s) t); finish = none_no })
refused_no_fault s do_status b = by_kind s do_status (record { last = none_no; schema = none_no; stream = none_no; retain = none_no; split = λ f h. none_no; finish = none_no })
refused_no_fault s (do_scan q) b = by_kind s (do_scan q) (record { last = none_no; schema = none_no; stream = none_no; retain = none_no; split = λ f h. none_no; finish = none_no })
refused_no_fault s (do_flush p) b = absurd (false≢true b)
refused_no_fault s (do_compact p m) b = absurd (false≢true b)
refused_no_fault s (do_job_begin p m) b = absurd (false≢true b)
refused_no_fault s (do_job_step n) b = absurd (false≢true b)
refused_no_fault s do_job_finish b = absurd (false≢true b)
refused_no_fault s do_job_drop b = absurd (false≢true b)
refused_no_fault s (do_retain t) b = absurd (false≢true b)
refused_no_fault s (do_page q) b = absurd (false≢true b)
refused_no_fault s (do_deltas p) b = absurd (false≢true b)
refused_no_fault s do_reopen b = absurd (false≢true b)
