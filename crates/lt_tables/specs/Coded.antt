-- Catalogues and row versions as bytes, so that two of them can be compared.
use Rattle.std.specs.Prelude.{Bool, List, Option, [], false, pos, refl, suc, true, zero, ℕ, ℤ, ◌≡◌}
use Rattle.std.specs.Coded.{Coded, code_by, coded_bool, coded_list, coded_option, coded_ℕ, coded_ℤ, coded×}
use Rattle.lt_terms.specs.declared.KeyKind.{KeyKind}
use Rattle.lt_terms.specs.declared.Op.{Op}
use Rattle.lt_terms.specs.Log.{op_byte}
use Rattle.lt_terms.specs.Value.{Value}
use Rattle.lt_terms.specs.Kind.{Kind}
use Rattle.lt_terms.specs.Codes.{bit_in, bit_out, coded_kind, coded_value}
use Rattle.lt_terms.specs.Layout.{Cell, bool_cell, bytes_cell, int_cell, null_cell, unset}
use Rattle.lt_tables.specs.Schema.{Catalogue, Column, KeyColumn, Registered, Table, key_kind_byte}
use Rattle.lt_tables.specs.Version.{RowVersion}
use Rattle.lt_terms.specs.declared.KeyKind.TheVariants as key_kind
use Rattle.lt_terms.specs.declared.Op.TheVariants as ops

-- ---- plain types, by numbers

abbrev pub key_kind_numbered : ℕ → KeyKind
key_kind_numbered zero = key_kind.Int64
key_kind_numbered (suc zero) = key_kind.Int64
key_kind_numbered (suc (suc n)) = key_kind.Text

abbrev pub coded_key_kind : Coded KeyKind
coded_key_kind = code_by ℕ coded_ℕ key_kind_byte key_kind_numbered by
  where
    by : (k : KeyKind) → key_kind_numbered (key_kind_byte k) ≡ k
    by key_kind.Int64 = refl
    by key_kind.Text = refl

abbrev pub op_numbered : ℕ → Op
op_numbered zero = ops.Insert
op_numbered (suc zero) = ops.Insert
op_numbered (suc (suc zero)) = ops.Update
op_numbered (suc (suc (suc n))) = ops.Delete

abbrev pub coded_op : Coded Op
coded_op = code_by ℕ coded_ℕ op_byte op_numbered by
  where
    by : (o : Op) → op_numbered (op_byte o) ≡ o
    by ops.Insert = refl
    by ops.Update = refl
    by ops.Delete = refl

abbrev pub coded_bytes : Coded (List ℕ)
coded_bytes = coded_list coded_ℕ

-- ---- schema versions and catalogues

abbrev pub coded_key_column : Coded KeyColumn
coded_key_column = code_by (List ℕ × KeyKind) (coded× coded_bytes coded_key_kind) (λ k. (k.name, k.kind)) (λ p. record { name = p.0; kind = p.1 }) (λ _. refl)

abbrev pub coded_column : Coded Column
coded_column = code_by (ℕ × (List ℕ × (Kind × Option Value))) (coded× coded_ℕ (coded× coded_bytes (coded× coded_kind (coded_option coded_value))))
    (λ c. (c.number, (c.name, (c.kind, c.fallback)))) (λ p. record { number = p.0; name = p.1.0; kind = p.1.1.0; fallback = p.1.1.1 }) (λ _. refl)

abbrev pub coded_registered : Coded Registered
coded_registered = code_by (Bool × List Column) (coded× coded_bool (coded_list coded_column)) (λ r. (r.live, r.columns)) (λ p. record { live = p.0; columns = p.1 }) (λ _. refl)

abbrev pub coded_table : Coded Table
coded_table = code_by (ℕ × (List ℕ × (List KeyColumn × List Registered))) (coded× coded_ℕ (coded× coded_bytes (coded× (coded_list coded_key_column) (coded_list coded_registered))))
    (λ t. (t.number, (t.name, (t.key, t.versions)))) (λ p. record { number = p.0; name = p.1.0; key = p.1.1.0; versions = p.1.1.1 }) (λ _. refl)

abbrev pub coded_catalogue : Coded Catalogue
coded_catalogue = coded_list coded_table

-- ---- versions and deltas

abbrev pub cell_number_of : Cell → ℕ × (ℤ × List ℕ)
cell_number_of unset = (0, (pos 0, []))
cell_number_of null_cell = (1, (pos 0, []))
cell_number_of (bool_cell b) = (2, (bit_out b, []))
cell_number_of (int_cell z) = (3, (z, []))
cell_number_of (bytes_cell b) = (4, (pos 0, b))

abbrev pub cell_numbered : ℕ → ℤ → List ℕ → Cell
cell_numbered zero z b = unset
cell_numbered (suc zero) z b = null_cell
cell_numbered (suc (suc zero)) z b = bool_cell (bit_in z)
cell_numbered (suc (suc (suc zero))) z b = int_cell z
cell_numbered (suc (suc (suc (suc n)))) z b = bytes_cell b

abbrev pub coded_cell : Coded Cell
coded_cell = code_by (ℕ × (ℤ × List ℕ)) (coded× coded_ℕ (coded× coded_ℤ coded_bytes)) cell_number_of (λ p. cell_numbered p.0 p.1.0 p.1.1) by
  where
    by : (c : Cell) → cell_numbered (cell_number_of c).0 (cell_number_of c).1.0 (cell_number_of c).1.1 ≡ c
    by unset = refl
    by null_cell = refl
    by (bool_cell false) = refl
    by (bool_cell true) = refl
    by (int_cell z) = refl
    by (bytes_cell b) = refl

abbrev pub coded_row_version : Coded RowVersion
coded_row_version = code_by (List ℕ × (ℕ × (Op × List Cell))) (coded× coded_bytes (coded× coded_ℕ (coded× coded_op (coded_list coded_cell))))
    (λ v. (v.key, (v.ts, (v.op, v.cells)))) (λ p. record { key = p.0; ts = p.1.0; op = p.1.1.0; cells = p.1.1.1 }) (λ _. refl)
