-- Parts of a schema text, as the definition writes them.
use Rattle.std.specs.Prelude.{List, pos, ℕ, ℤ}
use Rattle.serde_json.specs.Data.{Data}
use Rattle.serde_json.specs.Data as json
use Rattle.lt_terms.specs.Kind.{Kind}
use Rattle.lt_tables.specs.Schema.{KeyColumn}
use Rattle.lt_words.specs.SchemaText.{items_from, key_kind_name, kind_data, number_data, plain_data, three, two}
use Rattle.lt_terms.specs.Value.{Value}

abbrev pub list_data : List Data → Data
list_data ds = json.array (items_from ds)

-- a number of an enum, and its name
abbrev pub name_data : ℤ × List ℕ → Data
name_data n = two (number_data n.0) (json.string n.1)

-- a field of a struct's kind
abbrev pub field_data : ℕ × List ℕ × Kind → Data
field_data f = three (number_data (pos f.0)) (json.string f.1) (kind_data f.2)

abbrev pub key_data : KeyColumn → Data
key_data k = two (json.string k.name) (json.string (key_kind_name k.kind))

-- the value of a struct's field
abbrev pub item_data : ℕ × Value → Data
item_data s = plain_data s.1
