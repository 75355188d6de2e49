-- A good session that holds something is reached by steps: the machine's premises can be met.
use Rattle.std.specs.Fmt.{digits}
use Rattle.std.specs.Str.{chars, is_utf8}
use lib.Utf8.{encode}
use Rattle.serde_json.proofs.OnLiterals.{serde_json_on_literals}
use Rattle.std.proofs.Common.{List, [], arith, length, refl, ℕ, ◌++◌, ◌<◌, ◌∷◌}
use Rattle.std.specs.Prelude.{Contains, Some, codes, ◌^◌}
use Rattle.lt_terms.specs.Conversion.{at_rank, number_of_text}
use Rattle.lt_terms.specs.Layout.{cell_to, coerce, unflatten}
use Rattle.lt_terms.specs.Log.{Header, Item, change_item, checkpoint_item, header_item, spelled}
use Rattle.lt_world.specs.Feed.{AreShort, Feed}
use Rattle.lt_tables.specs.Fair.{HasHeader, breaks, breaks_at, point_of}
use Rattle.lt_tables.specs.Schema.{carrier, carrier_layout, nothing_yet, schema_fault}
use Rattle.lt_tables.specs.Version.{merge, seen}
use Rattle.lt_tables.specs.Query.{do_flush, do_pump, do_schema}
use Rattle.lt_tables.specs.Pump.{Takes, at_end, behind_header}
use Rattle.lt_words.specs.SchemaText.{version_of_text}
use Rattle.lt_words.specs.Reply.{flush_done, pump_done, schema_done}
use Rattle.lt_storage.specs.Store.{manifest_bytes}
use Rattle.lt_machine.specs.Machine.{State, Step, flushed, fresh, opened, refused, replies, with_catalogue, with_items, with_streams}
use Rattle.lt_machine.specs.Sound.{Fronts, IsGood, source_of}
use Rattle.lt_machine.specs.Laws.{SessionIsReached, goes, stays}
use Rattle.lt_examples.specs.Examples.{head, inserted, one_table}
use Rattle.lt_laws.proofs.FrontStands.{one_stream}
use Rattle.lt_laws.proofs.SoundLaws.{opening_is_good}
use Rattle.lt_session_laws.proofs.AllSteps.{step_keeps}

computes : Unit {0}
unfolding serde_json_on_literals version_of_text is_utf8 chars encode digits at_rank number_of_text carrier carrier_layout schema_fault spelled breaks breaks_at point_of unflatten cell_to coerce seen merge manifest_bytes refused
computes = tt

-- ---- a schema text, and a feed of one change and a checkpoint behind it

abbrev text : List ℕ
text = codes "{\"table\":\"t\",\"number\":1,\"version\":1,\"key\":[[\"id\",\"int64\"]],\"columns\":[{\"number\":1,\"name\":\"a\",\"kind\":\"int64\"},{\"number\":2,\"name\":\"b\",\"kind\":\"text\"}]}"

abbrev items : List Item
items = change_item inserted ∷ checkpoint_item 6 ∷ []

abbrev bytes : List ℕ
bytes = spelled (header_item head) ++ (spelled (change_item inserted) ++ spelled (checkpoint_item 6))

abbrev feed : Feed
feed = bytes ∷ []

is_short : AreShort feed
unfolding computes
is_short = (omega arith, tt)

headed : HasHeader feed 0 head
unfolding computes
headed = record { number = refl; lawful = refl; rest = spelled (change_item inserted) ++ spelled (checkpoint_item 6); spells = refl }

-- ---- the fresh store, opened

abbrev s0 : State
s0 = opened (fresh (2 ^ 20) (head ∷ [])) (head ∷ [])

front0 : (is : List Item) × Fronts feed [] ((head, is) ∷ [])
front0 = one_stream bytes [] head headed refl refl

none_within : {A : Type 0} (x : A) → Contains [] x → ⊥
none_within x c = absurd (omega (arith, c.1))

good0 : (fs : List (Header × List Item)) × Fronts feed [] fs × IsGood feed s0 fs
unfolding computes
good0 = let fs : List (Header × List Item) = (head, front0.0) ∷ [] in (
  fs,
  front0.1,
  opening_is_good feed fs (fresh (2 ^ 20) (head ∷ [])) is_short
      (record { generation = refl; manifest = record { limit = refl; numbers = refl; catalogue = nothing_yet; streams = refl; parts = refl; deltas = refl }; shelf = tt }) front0.1
      (record {
        parts = (
          record {
            only_changes = λ table v c above. absurd (none_within v c);
            all_changes = λ c has inside above upto. absurd (omega (arith, above, upto));
            rows = λ t key known inside has. cc;
            agree = λ x y table v w cx cy cv cw same. absurd (none_within x cx);
            minimum = omega arith;
            resume = ((λ m. omega arith), tt);
          },
          tt,
        );
        points = (refl, tt, tt);
      }),
)

-- ---- a schema

abbrev s1 : State
s1 = with_catalogue s0 one_table

adds : (fs : List (Header × List Item)) → Step feed (source_of fs) s0 (do_schema text) (replies (schema_done (codes "t") 1)) s1
unfolding computes
adds fs = (one_table, refl, refl, refl)

good1 : (fs : List (Header × List Item)) × IsGood feed s1 fs
good1 = (step_keeps (do_schema text) feed good0.0 s0 s1 _ good0.2 tt (adds good0.0)).0

-- ---- a pump

abbrev s2 : State
s2 = with_streams [] (with_items 0 items s1)

takes : Takes feed one_table (behind_header head) items []
unfolding computes
takes = (refl, (spelled (checkpoint_item 6), refl), refl, tt, (refl, ([], refl), refl, tt, refl))

pumps : (fs : List (Header × List Item)) → Step feed (source_of fs) s1 (do_pump 0 9) (replies (pump_done 0 2 84 6 at_end)) s2
unfolding computes
pumps fs = (items, at_end, [], record { stands = behind_header head; known = refl; few = omega arith; rest = []; takes = takes; stops = (omega arith, refl) }, refl, tt, refl, (_, refl, refl))

good2 : (fs : List (Header × List Item)) × IsGood feed s2 fs
good2 = (step_keeps (do_pump 0 9) feed good1.0 s1 s2 _ good1.1 tt (pumps good1.0)).0

-- ---- a flush

abbrev s3 : State
s3 = flushed (source_of good2.0) s2 0

flushes : Step feed (source_of good2.0) s2 (do_flush 0) (replies (flush_done 0 6 (Some 0))) s3
unfolding computes
flushes = (refl, refl)

good3 : (fs : List (Header × List Item)) × IsGood feed s3 fs
good3 = (step_keeps (do_flush 0) feed good2.0 s2 s3 _ good2.1 tt flushes).0

on_shelf : 0 < length s3.durable.shelf
unfolding computes
on_shelf = omega arith

pub session_is_reached : SessionIsReached
session_is_reached = (
  feed,
  head ∷ [],
  text,
  s3,
  good3.0,
  goes s0 s1 s3 (do_schema text) (do_pump 0 9 ∷ do_flush 0 ∷ []) good0.0 [] (schema_done (codes "t") 1) good0.1 (adds good0.0)
      (goes s1 s2 s3 (do_pump 0 9) (do_flush 0 ∷ []) good1.0 [] (pump_done 0 2 84 6 at_end) good1.1.fronts (pumps good1.0)
      (goes s2 s3 s3 (do_flush 0) [] good2.0 [] (flush_done 0 6 (Some 0)) good2.1.fronts flushes (stays s3))),
  good3.1,
  on_shelf,
)
