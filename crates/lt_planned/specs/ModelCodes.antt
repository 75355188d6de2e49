-- Codes of the records and data that a type's model may have as its value.
use Rattle.std.specs.Prelude.{Bool, List, Option, refl, suc, zero, ℕ, ◌≡◌}
use Rattle.std.specs.Coded.{Coded, code_by, coded_bool, coded_list, coded_option, coded_ℕ, coded×}
use Rattle.lt_terms.specs.declared.Rank.{Rank}
use Rattle.lt_terms.specs.Kind.{rank_number}
use Rattle.lt_terms.specs.Codes.{rank_numbered}
use Rattle.lt_terms.specs.Key.{Range}
use Rattle.lt_terms.specs.declared.Format.{Format}
use Rattle.lt_terms.specs.Log.{Header}
use Rattle.lt_terms.specs.Layout.{Leaf}
use Rattle.lt_terms.specs.declared.Extent.{Extent}
use Rattle.lt_tables.specs.Coded.{coded_bytes, coded_catalogue, coded_column, coded_key_column, coded_row_version}
use Rattle.lt_tables.specs.Schema.{Catalogue, Column, KeyColumn, SchemaVersion}
use Rattle.lt_tables.specs.Fair.{Point}
use Rattle.lt_tables.specs.Version.{RowVersion}
use Rattle.lt_tables.specs.Pump.{Part, StreamAt}
use Rattle.lt_storage.specs.Store.{Delta, Durable, Manifest, Stream, TableDelta}
use Rattle.lt_machine.specs.Machine.{Job, State}
use Rattle.lt_terms.specs.declared.Rank.TheVariants as rank
use Rattle.lt_terms.specs.declared.Format.TheVariants as format

-- ---- plain types, by numbers

abbrev pub coded_rank : Coded Rank
coded_rank = code_by ℕ coded_ℕ rank_number rank_numbered by
  where
    by : (r : Rank) → rank_numbered (rank_number r) ≡ r
    by rank.Bool = refl
    by rank.Int32 = refl
    by rank.Int64 = refl
    by rank.Text = refl
    by rank.Bytes = refl

-- ---- schema versions and catalogues

abbrev pub coded_version : Coded SchemaVersion
coded_version = code_by (List ℕ × (ℕ × (ℕ × (List KeyColumn × List Column)))) (coded× coded_bytes (coded× coded_ℕ (coded× coded_ℕ (coded× (coded_list coded_key_column) (coded_list coded_column)))))
    (λ v. (v.table, (v.number, (v.version, (v.key, v.columns))))) (λ p. record { table = p.0; number = p.1.0; version = p.1.1.0; key = p.1.1.1.0; columns = p.1.1.1.1 }) (λ _. refl)

-- ---- streams

abbrev pub coded_range : Coded Range
coded_range = code_by (List ℕ × Option (List ℕ)) (coded× coded_bytes (coded_option coded_bytes)) (λ r. (r.low, r.high)) (λ p. record { low = p.0; high = p.1 }) (λ _. refl)

abbrev pub format_number : Format → ℕ
format_number format.One = 0
format_number format.Two = 1

abbrev pub format_numbered : ℕ → Format
format_numbered zero = format.One
format_numbered (suc n) = format.Two

abbrev pub coded_format : Coded Format
coded_format = code_by ℕ coded_ℕ format_number format_numbered by
  where
    by : (f : Format) → format_numbered (format_number f) ≡ f
    by format.One = refl
    by format.Two = refl

abbrev pub coded_header : Coded Header
coded_header = code_by (Format × (ℕ × (Range × (Option ℕ × ℕ)))) (coded× coded_format (coded× coded_ℕ (coded× coded_range (coded× (coded_option coded_ℕ) coded_ℕ))))
    (λ h. (h.format, (h.stream, (h.range, (h.predecessor, h.from))))) (λ p. record { format = p.0; stream = p.1.0; range = p.1.1.0; predecessor = p.1.1.1.0; from = p.1.1.1.1 }) (λ _. refl)

abbrev pub coded_point : Coded Point
coded_point = code_by (ℕ × (ℕ × List (List ℕ × ℕ))) (coded× coded_ℕ (coded× coded_ℕ (coded_list (coded× coded_bytes coded_ℕ))))
    (λ x. (x.checkpoint, (x.greatest, x.window))) (λ p. record { checkpoint = p.0; greatest = p.1.0; window = p.1.1 }) (λ _. refl)

-- ---- versions and deltas

abbrev pub coded_leaf : Coded Leaf
coded_leaf = code_by (ℕ × (List ℕ × (Rank × Bool))) (coded× coded_ℕ (coded× coded_bytes (coded× coded_rank coded_bool)))
    (λ l. (l.column, (l.path, (l.rank, l.presence)))) (λ p. record { column = p.0; path = p.1.0; rank = p.1.1.0; presence = p.1.1.1 }) (λ _. refl)

abbrev pub coded_table_delta : Coded TableDelta
coded_table_delta = code_by (ℕ × (List Leaf × List (List RowVersion))) (coded× coded_ℕ (coded× (coded_list coded_leaf) (coded_list (coded_list coded_row_version))))
    (λ t. (t.table, (t.layout, t.bundles))) (λ p. record { table = p.0; layout = p.1.0; bundles = p.1.1 }) (λ _. refl)

abbrev pub coded_delta : Coded Delta
coded_delta = code_by (ℕ × List TableDelta) (coded× coded_ℕ (coded_list coded_table_delta)) (λ d. (d.id, d.tables)) (λ p. record { id = p.0; tables = p.1 }) (λ _. refl)

-- ---- the store and the machine

abbrev pub coded_part : Coded Part
coded_part = code_by (List ℕ × (ℕ × List ℕ)) (coded× coded_bytes (coded× coded_ℕ coded_bytes)) (λ x. (x.low, (x.resume, x.ids))) (λ p. record { low = p.0; resume = p.1.0; ids = p.1.1 }) (λ _. refl)

abbrev pub coded_stream : Coded Stream
coded_stream = code_by (List ℕ × List (ℕ × Point)) (coded× coded_bytes (coded_list (coded× coded_ℕ coded_point))) (λ s. (s.low, s.points)) (λ p. record { low = p.0; points = p.1 }) (λ _. refl)

abbrev pub coded_extent : Coded Extent
coded_extent = code_by (ℕ × ℕ) (coded× coded_ℕ coded_ℕ) (λ e. (e.place, e.length)) (λ p. record { place = p.0; length = p.1 }) (λ _. refl)

abbrev pub coded_manifest : Coded Manifest
coded_manifest = code_by (ℕ × (ℕ × (ℕ × (Catalogue × (List Stream × (List Part × List (ℕ × Extent)))))))
    (coded× coded_ℕ (coded× coded_ℕ (coded× coded_ℕ (coded× coded_catalogue (coded× (coded_list coded_stream) (coded× (coded_list coded_part) (coded_list (coded× coded_ℕ coded_extent))))))))
    (λ m. (m.limit, (m.minimum, (m.next_id, (m.catalogue, (m.streams, (m.parts, m.deltas)))))))
    (λ p. record { limit = p.0; minimum = p.1.0; next_id = p.1.1.0; catalogue = p.1.1.1.0; streams = p.1.1.1.1.0; parts = p.1.1.1.1.1.0; deltas = p.1.1.1.1.1.1 }) (λ _. refl)

abbrev pub coded_durable : Coded Durable
coded_durable = code_by (ℕ × (ℕ × (Catalogue × (ℕ × (ℕ × (List Part × (List Stream × List Delta)))))))
    (coded× coded_ℕ (coded× coded_ℕ (coded× coded_catalogue (coded× coded_ℕ (coded× coded_ℕ (coded× (coded_list coded_part) (coded× (coded_list coded_stream) (coded_list coded_delta))))))))
    (λ d. (d.limit, (d.generation, (d.catalogue, (d.minimum, (d.next_id, (d.parts, (d.streams, d.shelf))))))))
    (λ p. record { limit = p.0; generation = p.1.0; catalogue = p.1.1.0; minimum = p.1.1.1.0; next_id = p.1.1.1.1.0; parts = p.1.1.1.1.1.0; streams = p.1.1.1.1.1.1.0; shelf = p.1.1.1.1.1.1.1 }) (λ _. refl)

abbrev pub coded_stream_at : Coded StreamAt
coded_stream_at = code_by (Header × (ℕ × (Point × Bool))) (coded× coded_header (coded× coded_ℕ (coded× coded_point coded_bool)))
    (λ s. (s.header, (s.offset, (s.point, s.closed)))) (λ p. record { header = p.0; offset = p.1.0; point = p.1.1.0; closed = p.1.1.1 }) (λ _. refl)

abbrev pub coded_job : Coded Job
coded_job = code_by (Range × (List ℕ × (Bool × (ℕ × (Catalogue × ℕ))))) (coded× coded_range (coded× coded_bytes (coded× coded_bool (coded× coded_ℕ (coded× coded_catalogue coded_ℕ)))))
    (λ j. (j.range, (j.inputs, (j.is_major, (j.minimum, (j.catalogue, j.taken)))))) (λ p. record { range = p.0; inputs = p.1.0; is_major = p.1.1.0; minimum = p.1.1.1.0; catalogue = p.1.1.1.1.0; taken = p.1.1.1.1.1 }) (λ _. refl)

abbrev pub coded_state : Coded State
coded_state = code_by (Durable × (List StreamAt × (List (List (List ℕ × ℕ)) × (Option Job × Option Durable))))
    (coded× coded_durable (coded× (coded_list coded_stream_at) (coded× (coded_list (coded_list (coded× coded_bytes coded_ℕ))) (coded× (coded_option coded_job) (coded_option coded_durable)))))
    (λ s. (s.durable, (s.streams, (s.pending, (s.job, s.broken))))) (λ p. record { durable = p.0; streams = p.1.0; pending = p.1.1.0; job = p.1.1.1.0; broken = p.1.1.1.1 }) (λ _. refl)
