-- A change that breaks nothing where a stream stands: what that says of it.
use Rattle.std.proofs.Common.{Bool, false, sym, true, ℕ, ◌<◌, ◌∙◌, ◌≡◌}
use Rattle.std.specs.Prelude.{IsTrue, None, Option, Some, is_none, length, nat_le, not, option_and_then, ◌&&◌}
use Rattle.std.specs.Option.{option_map_or}
use Rattle.std.proofs.lemmas.Bool.{and_from, and_parts, leb-false, not-false}
use Rattle.lt_terms.specs.Key.{in_range, max_key}
use Rattle.lt_terms.specs.Value.{is_timestamp}
use Rattle.lt_terms.specs.declared.Format.TheVariants as format
use Rattle.lt_terms.specs.Log.{Change, Header, change_item, change_key, is_change, is_item}
use Rattle.lt_tables.specs.Fair.{Point, bad_shape, breaks_at, has_change_shape, late, out_of_order, out_of_range, unknown_table_number, unknown_version_number, window_ts}
use Rattle.lt_tables.specs.Pump.{is_deliverable}
use Rattle.lt_tables.specs.Schema.{Catalogue, Table, registered, table_numbered, when}
use Rattle.lt_codecs.proofs.ListFacts.{or_left, or_right}
use Rattle.lt_lemmas.proofs.ListFacts.{when_none}
use Rattle.lt_fair.proofs.FaultParts.{fault_parts, not_shut}
use Rattle.lt_fair.specs.Faults.{shape_fault, time_fault}

-- a change lies in the stream's range, has the shape of its version, and is above the checkpoint and the last one of its key
pub record Passes (h : Header) (cat : Catalogue) (p : Point) (c : Change) : Type 0 where
  pub within : in_range (change_key c) h.range ≡ true
  pub shaped : shape_fault cat c ≡ None
  pub above : p.checkpoint < c.ts
  pub later : window_ts (change_key c) p.window < c.ts

time_passes : (t checkpoint last : ℕ) → time_fault t checkpoint last ≡ None → (checkpoint < t) × (last < t)
time_passes t checkpoint last h = (
  leb-false t checkpoint (when_none (nat_le t checkpoint) (late checkpoint) (or_left _ _ h)),
  leb-false t last (when_none (nat_le t last) (out_of_order last) (or_left _ _ (or_right (when (nat_le t checkpoint) (late checkpoint)) _ h))),
)

pub passes : (h : Header) (cat : Catalogue) (p : Point) (c : Change) → breaks_at h cat false p (change_item c) ≡ None → Passes h cat p c
passes h cat p c e =
    let f = sym (fault_parts h cat p c) ∙ (sym (not_shut h cat p (change_item c)) ∙ e) in
    let outside = when (not (in_range (change_key c) h.range)) out_of_range in
    let time = time_fault c.ts p.checkpoint (window_ts (change_key c) p.window) in
    let rest = or_right outside _ f in
    let times = time_passes c.ts p.checkpoint (window_ts (change_key c) p.window) (or_right (shape_fault cat c) time rest) in
    record {
      within = not-false _ (when_none (not (in_range (change_key c) h.range)) out_of_range (or_left outside _ f));
      shaped = or_left (shape_fault cat c) time rest;
      above = times.0;
      later = times.1;
    }

-- ---- it may be delivered

shape_by : (t : Option Table) (c : Change) → option_map_or (λ t'. option_map_or (λ r. has_change_shape t' r c) (option_and_then (λ t. registered t c.version) t) false) t false ≡ true
    → option_map_or (λ t. option_map_or (λ r. has_change_shape t r c) (registered t c.version) false) t false ≡ true
shape_by None c h = h
shape_by (Some t) c h = h

shape_holds : (cat : Catalogue) (c : Change) → shape_fault cat c ≡ None → option_map_or (λ t. option_map_or (λ r. has_change_shape t r c) (registered t c.version) false) (table_numbered cat c.table) false ≡ true
shape_holds cat c e =
    let t = table_numbered cat c.table in
    let r = option_and_then (λ (t : Table). registered t c.version) t in
    shape_by t c (not-false _ (when_none _ bad_shape (or_left _ _ (or_right (when (is_none r) (unknown_version_number c.version)) _ (or_right (when (is_none t) (unknown_table_number c.table)) _ e)))))

left : (a b : Bool) → IsTrue (a && b) → IsTrue a
left a b h = (and_parts a b h).0

pub deliverable : (cat : Catalogue) (c : Change) → IsTrue (is_item format.One (change_item c)) → shape_fault cat c ≡ None → IsTrue (is_deliverable cat c)
deliverable cat c l e = and_from (is_change c) _ (left (is_change c) _ l) (shape_holds cat c e)
