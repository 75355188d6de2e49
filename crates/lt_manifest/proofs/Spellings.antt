-- The spellings of a manifest's parts, one behind the other, as the writers put them.
use Rattle.std.proofs.Common.{Bool, List, [], append-nil, append_assoc, ap, arith, flat_map, length, ltb-true, map, refl, subst, suc, sym, zero, ℕ, ℤ, ◌++◌, ◌-◌, ◌<◌, ◌^◌, ◌∙◌, ◌∷◌, ◌≡◌}
use Rattle.std.specs.Prelude.{IsTrue, codes, nat_lt, ◌&&◌}
use Rattle.std.specs.List.{AllByRecursion, list_all}
use Rattle.std.proofs.lemmas.Bool.{and_parts}
use Rattle.std.proofs.lemmas.List.Concat.{flat_map-cons}
use Rattle.std.proofs.lemmas.List.Elements.{All-from_recursion}
use Rattle.lt_terms.specs.declared.Extent.{Extent}
use Rattle.lt_terms.specs.declared.Rank.{Rank}
use Rattle.lt_terms.specs.declared.Rank.TheVariants as ranks
use Rattle.lt_tables.specs.Fair.{Point}
use Rattle.lt_terms.specs.Kind.{enumeration, field_kinds_of, plain, rank_number, structured}
use Rattle.lt_terms.specs.Value.{fits_32}
use Rattle.lt_tables.specs.Schema.{Column, Registered, Table, field_numbers}
use Rattle.lt_tables.specs.Pump.{Part}
use Rattle.lt_storage.specs.Store.{Manifest, Stream, field_kind_bytes, kind_bytes, manifest_bytes}
use Rattle.lt_terms.specs.Log as log
use Rattle.lt_codecs.specs.Codec.{IsBytes, byte, bytes16, i32, optional, u16, u32, u64, u8, ◌then◌}
use Rattle.lt_codecs.specs.LogCodec.{flag, log_value, value}
use Rattle.lt_store_codecs.specs.StoreCodec.{catalogue, column, delta, enum_names, key_column, key_kind, kind, kind_fits, kinds_fit, partition, point, stream, table, version}
use Rattle.lt_codecs.proofs.ListFacts.{all_hold, all_map}
use Rattle.lt_core.proofs.ViewLaws.{view_enum, view_plain, view_structured}
use Rattle.lt_core.specs.View.{view_kind}
use Rattle.lt_core.specs.declared.kind.Kind.{Kind}
use Rattle.lt_core.specs.declared.kind.Kind.TheVariants as kinds
use Rattle.lt_schema.specs.View.{view_column, view_field}
use Rattle.lt_schema.specs.declared.version.Column as code
use Rattle.lt_manifest.specs.Writing.{AreFields, HasSpelling, field_bytes, fields_bytes}
use Rattle.lt_codecs.proofs.Codecs.{u8_again, u8_is}
use Rattle.lt_codecs.proofs.ValueCodecs.{optional_spells}

abbrev pub delta_parts : ℕ × Extent → List ℕ
delta_parts d = u64.spell d.0 ++ (u64.spell d.1.place ++ u64.spell d.1.length)

pub delta_spells : (d : ℕ × Extent) → delta.spell d ≡ delta_parts d
unfolding delta u64
delta_spells d = refl

abbrev pub partition_parts : Part → List ℕ
partition_parts p = bytes16.spell p.low ++ (u64.spell p.resume ++ (u32.spell (length p.ids) ++ flat_map u64.spell p.ids))

pub partition_spells : (p : Part) → partition.spell p ≡ partition_parts p
unfolding partition bytes16 u16 u64 u32
partition_spells p = refl

abbrev pub point_parts : ℕ × Point → List ℕ
point_parts p = u64.spell p.0 ++ (u64.spell p.1.checkpoint ++ (u64.spell p.1.greatest ++ (u32.spell (length p.1.window) ++ flat_map (bytes16 then u64).spell p.1.window)))

pub point_spells : (p : ℕ × Point) → point.spell p ≡ point_parts p
unfolding point u64 u32 bytes16 u16
point_spells p = refl

abbrev pub stream_parts : Stream → List ℕ
stream_parts s = bytes16.spell s.low ++ (byte.spell (length s.points) ++ flat_map point.spell s.points)

pub stream_spells : (s : Stream) → stream.spell s ≡ stream_parts s
unfolding stream bytes16 u16 byte point
stream_spells s = refl

abbrev pub column_parts : Column → List ℕ
column_parts c = u16.spell c.number ++ (bytes16.spell c.name ++ (kind_bytes c.kind ++ (optional log_value).spell c.fallback))

pub column_spells : (c : Column) → column.spell c ≡ column_parts c
unfolding column u16 bytes16 kind log_value value
column_spells c = ap (λ (t : List ℕ). log.u16 c.number ++ (log.bytes16 c.name ++ (kind_bytes c.kind ++ t))) (sym (optional_spells log.value_bytes c.fallback))

abbrev pub version_parts : Registered → List ℕ
version_parts r = flag.spell r.live ++ (u16.spell (length r.columns) ++ flat_map column.spell r.columns)

pub version_spells : (r : Registered) → version.spell r ≡ version_parts r
unfolding version flag u16 column
version_spells r = refl

abbrev pub table_parts : Table → List ℕ
table_parts t = u32.spell t.number ++ (bytes16.spell t.name ++ ((byte.spell (length t.key) ++ flat_map key_column.spell t.key) ++ (u16.spell (length t.versions) ++ flat_map version.spell t.versions)))

pub table_spells : (t : Table) → table.spell t ≡ table_parts t
unfolding table u32 bytes16 u16 byte key_column key_kind version
table_spells t = refl

abbrev pub manifest_parts : Manifest → List ℕ
manifest_parts m = codes "LTM1" ++ (u64.spell m.limit ++ (u64.spell m.minimum ++ (u64.spell m.next_id ++ (catalogue.spell m.catalogue
    ++ ((u32.spell (length m.streams) ++ flat_map stream.spell m.streams) ++ ((u32.spell (length m.parts) ++ flat_map partition.spell m.parts) ++ (u32.spell (length m.deltas) ++ flat_map delta.spell m.deltas)))))))

pub manifest_spells : (m : Manifest) → manifest_bytes m ≡ manifest_parts m
unfolding manifest_bytes u64 u32 catalogue table stream partition delta
manifest_spells m = refl

-- one behind the other
pub chain : (old mid new x y : List ℕ) → mid ≡ old ++ x → new ≡ mid ++ y → new ≡ old ++ (x ++ y)
chain old mid new x y first behind = behind ∙ ap (λ (t : List ℕ). t ++ y) first ∙ append_assoc old x y

-- what is put in parts is put whole
pub put_whole : (old new parts all : List ℕ) → new ≡ old ++ parts → all ≡ parts → new ≡ old ++ all
put_whole old new parts all put is = put ∙ ap (λ (t : List ℕ). old ++ t) (sym is)

-- ---- counts

small : (n : ℕ) → n < 256 → IsBytes (n ∷ [])
small n lt zero = lt
small n lt (suc i) = omega arith

pub byte_spells : (n : ℕ) → n < 256 → u8.spell n ≡ byte.spell n
unfolding byte
byte_spells n lt = sym (append-nil (u8.spell n)) ∙ sym (u8_is.takes (n ∷ []) n [] (small n lt) (u8_again n [] lt)).0.parts

pub below32 : (n : ℕ) → u32.Lawful n → n < 2 ^ 32
unfolding u32
below32 n h = h

pub below16 : (n : ℕ) → u16.Lawful n → n < 2 ^ 16
unfolding u16
below16 n h = h

pub below8 : (n : ℕ) → byte.Lawful n → n < 256
unfolding byte
below8 n h = h

pub rank_spells : (r : Rank) → u8.spell (rank_number r) ≡ kind_bytes (plain r)
unfolding u8
rank_spells ranks.Bool = refl
rank_spells ranks.Int32 = refl
rank_spells ranks.Int64 = refl
rank_spells ranks.Text = refl
rank_spells ranks.Bytes = refl

pub count8 : (old new : List ℕ) (n m : ℕ) → new ≡ old ++ u8.spell n → n ≡ m → byte.Lawful m → new ≡ old ++ byte.spell m
count8 old new n m put same fits = put ∙ ap (λ (n : ℕ). old ++ u8.spell n) same ∙ ap (λ (t : List ℕ). old ++ t) (byte_spells m (below8 m fits))

-- ---- kinds

pub kind_held : (c : code.Column) → column.Lawful (view_column c) → HasSpelling c.kind
unfolding column kind
kind_held c h = (4, h.1.1.0)

numbers_long : (fs : List (ℕ × List ℕ × Kind)) → length (field_numbers (field_kinds_of (map view_field fs))) ≡ length fs
numbers_long [] = refl
numbers_long (f ∷ fs) = ap suc (numbers_long fs)

fields_flat : (fs : List (ℕ × List ℕ × Kind)) → field_kind_bytes (field_kinds_of (map view_field fs)) ≡ flat_map field_bytes fs
unfolding u16 bytes16
fields_flat [] = refl
fields_flat (f ∷ fs) =
    ap (λ (t : List ℕ). log.u16 f.0 ++ (log.bytes16 f.1 ++ (kind_bytes (view_kind f.2) ++ t))) (fields_flat fs)
    ∙ ap (λ (t : List ℕ). log.u16 f.0 ++ t) (sym (append_assoc (log.bytes16 f.1) (kind_bytes (view_kind f.2)) (flat_map field_bytes fs)))
    ∙ sym (append_assoc (log.u16 f.0) (log.bytes16 f.1 ++ kind_bytes (view_kind f.2)) (flat_map field_bytes fs))
    ∙ sym (flat_map-cons field_bytes f fs)

struct_spells : (fs : List (ℕ × List ℕ × Kind)) → kind_bytes (structured (field_kinds_of (map view_field fs))) ≡ u8.spell 7 ++ fields_bytes fs
unfolding u8 u16 bytes16
struct_spells fs =
    ap (λ (n : ℕ). 7 ∷ (log.u16 n ++ field_kind_bytes (field_kinds_of (map view_field fs)))) (numbers_long fs)
    ∙ ap (λ (t : List ℕ). 7 ∷ (log.u16 (length fs) ++ t)) (fields_flat fs)

enum_spells : (names : List (ℤ × List ℕ)) → kind_bytes (enumeration names) ≡ u8.spell 6 ++ enum_names.spell names
unfolding u8 enum_names u16 u32 i32 bytes16
enum_spells names = refl

pub plain_put : (old new : List ℕ) (n : ℕ) (r : Rank) (k : Kind) → new ≡ old ++ u8.spell n → n ≡ rank_number r → k ≡ kinds.Plain r → new ≡ old ++ kind_bytes (view_kind k)
plain_put old new n r k put same is = put ∙ ap (λ (n : ℕ). old ++ u8.spell n) same ∙ ap (λ (t : List ℕ). old ++ t) (rank_spells r ∙ sym (ap kind_bytes (ap view_kind is ∙ view_plain r)))

pub enum_put : (old mid new : List ℕ) (names : List (ℤ × List ℕ)) (k : Kind) → mid ≡ old ++ u8.spell 6 → new ≡ mid ++ enum_names.spell names → k ≡ kinds.Enum names → new ≡ old ++ kind_bytes (view_kind k)
enum_put old mid new names k tag put is = put_whole old new (u8.spell 6 ++ enum_names.spell names) (kind_bytes (view_kind k)) (chain old mid new (u8.spell 6) (enum_names.spell names) tag put) (ap kind_bytes (ap view_kind is ∙ view_enum names) ∙ enum_spells names)

pub struct_put : (old mid new : List ℕ) (fs : List (ℕ × List ℕ × Kind)) (k : Kind) → mid ≡ old ++ u8.spell 7 → new ≡ mid ++ fields_bytes fs → k ≡ kinds.Struct fs → new ≡ old ++ kind_bytes (view_kind k)
struct_put old mid new fs k tag put is = put_whole old new (u8.spell 7 ++ fields_bytes fs) (kind_bytes (view_kind k)) (chain old mid new (u8.spell 7) (fields_bytes fs) tag put) (ap kind_bytes (ap view_kind is ∙ view_structured fs) ∙ struct_spells fs)

abbrev is_named : ℤ × List ℕ → Bool
is_named n = fits_32 n.0 && nat_lt (length n.1) (2 ^ 16)

pub enum_lawful : (k : Kind) (names : List (ℤ × List ℕ)) → k ≡ kinds.Enum names → HasSpelling k → enum_names.Lawful names
unfolding enum_names u16 u32 i32 bytes16
enum_lawful k names is h =
    let at : IsTrue (kind_fits h.0 (enumeration names)) = subst (λ m. IsTrue (kind_fits h.0 m)) (ap view_kind is ∙ view_enum names) h.1 in
    let p = and_parts (nat_lt (length names) (2 ^ 16)) (list_all is_named names) at in
    (ltb-true (length names) (2 ^ 16) p.0, all_hold is_named (λ n. IsTrue (fits_32 n.0) × (length n.1 < 2 ^ 16)) (λ n t. let q = and_parts (fits_32 n.0) (nat_lt (length n.1) (2 ^ 16)) t in (q.0, ltb-true (length n.1) (2 ^ 16) q.1)) names p.1)

abbrev IsHeld : ℕ × List ℕ × Kind → Type 0
IsHeld f = bytes16.Lawful f.1 × HasSpelling f.2

fields_each : (depth : ℕ) (fs : List (ℕ × List ℕ × Kind)) → IsTrue (kinds_fit depth (field_kinds_of (map view_field fs))) → AllByRecursion IsHeld fs
unfolding bytes16 u16
fields_each depth [] h = tt
fields_each depth (f ∷ fs) h =
    let ks = field_kinds_of (map view_field fs) in
    let u = and_parts (nat_lt f.0 (2 ^ 16) && nat_lt (length f.1) (2 ^ 16) && kind_fits depth (view_kind f.2)) (kinds_fit depth ks) h in
    let w = and_parts (nat_lt f.0 (2 ^ 16) && nat_lt (length f.1) (2 ^ 16)) (kind_fits depth (view_kind f.2)) u.0 in
    let v = and_parts (nat_lt f.0 (2 ^ 16)) (nat_lt (length f.1) (2 ^ 16)) w.0 in
    ((ltb-true (length f.1) (2 ^ 16) v.1, (depth, w.1)), fields_each depth fs u.1)

pub struct_fields : (k : Kind) (fs : List (ℕ × List ℕ × Kind)) → k ≡ kinds.Struct fs → HasSpelling k → AreFields fs
struct_fields k fs is h =
    let ks = field_kinds_of (map view_field fs) in
    let at : IsTrue (kind_fits h.0 (structured ks)) = subst (λ m. IsTrue (kind_fits h.0 m)) (ap view_kind is ∙ view_structured fs) h.1 in
    let u = and_parts (nat_lt 0 h.0 && nat_lt (length (field_numbers ks)) (2 ^ 16)) (kinds_fit (h.0 - 1) ks) at in
    let few = ltb-true (length (field_numbers ks)) (2 ^ 16) (and_parts (nat_lt 0 h.0) (nat_lt (length (field_numbers ks)) (2 ^ 16)) u.0).1 in
    let each = fields_each (h.0 - 1) fs u.1 in
    record {
      few = omega (arith, few, numbers_long fs);
      named = All-from_recursion (λ f. bytes16.Lawful f.1) fs (all_map IsHeld (λ f. bytes16.Lawful f.1) fs (λ f p. p.0) each);
      spelled = All-from_recursion (λ f. HasSpelling f.2) fs (all_map IsHeld (λ f. HasSpelling f.2) fs (λ f p. p.1) each);
    }
