-- The index that whole bytes spell.
use Rattle.std.proofs.Common.{Bool, List, [], ap, arith, false, length, refl, sym, ℕ, ◌<◌, ◌^◌, ◌∙◌, ◌≡◌}
use Rattle.std.specs.Prelude.{IsTrue, None, Some}
use Rattle.std.specs.List.{AllByRecursion, list_all}
use Rattle.std.proofs.lemmas.Bool.{false≢true}
use Rattle.lt_storage.specs.Store.{IsIndex, IsLayout, TableIndex, index_bytes}
use Rattle.lt_codecs.specs.Codec.{IsBytes, u32, whole}
use Rattle.lt_store_codecs.specs.StoreCodec.{index, leaf, table_index}
use Rattle.lt_codecs.proofs.Codecs.{some_is, whole_again, whole_takes}
use Rattle.lt_store_codecs.proofs.IndexCodecs.{index_is}
use Rattle.lt_store_codecs.proofs.IndexLaws.{decides, index_spells}
use Rattle.lt_codecs.proofs.ListFacts.{all_both, all_hold, all_map, all_pass}
use Rattle.lt_delta.specs.declared.stop.Stop.{Stop}
use Rattle.lt_delta.specs.declared.stop.Stop.TheVariants as stops
use Rattle.lt_delta.specs.Reading.{IsLawful, IsNoIndex, Stops, StopsIndex}
use Rattle.lt_delta.specs.Layouts.{are_in_order, have_order}
use Rattle.lt_delta.proofs.LayoutOrder.{IsSmall, in_order, is_layout, small_leaf}

-- ---- lawful indexes

pub few_tables : (ts : List TableIndex) → IsLawful ts → length ts < 2 ^ 32
unfolding index u32
few_tables ts h = ((decides ts).0 h).0.0.1.0

pub lawful_tables : (ts : List TableIndex) → IsLawful ts → AllByRecursion table_index.Lawful ts
unfolding index
lawful_tables ts h = ((decides ts).0 h).0.0.1.1

pub has_bytes : (ts : List TableIndex) → 0 < length (index_bytes ts)
unfolding index_bytes
has_bytes ts = omega arith

-- ---- layouts

abbrev has_order : TableIndex → Bool
has_order t = are_in_order 0 [] t.layout

small_layout : (t : TableIndex) → table_index.Lawful t → AllByRecursion IsSmall t.layout
unfolding table_index
small_layout t h = all_map leaf.Lawful IsSmall t.layout small_leaf h.0.1.0.1

each_layout : (ts : List TableIndex) → AllByRecursion table_index.Lawful ts → IsTrue (list_all has_order ts) → AllByRecursion (λ t. IsLayout t.layout) ts
each_layout ts lawful order = all_both table_index.Lawful (λ t. IsTrue (has_order t)) (λ t. IsLayout t.layout) ts (λ t l o. is_layout t.layout (small_layout t l) o) lawful (all_hold has_order (λ t. IsTrue (has_order t)) (λ t o. o) ts order)

-- ---- what bytes spell

-- bytes that spell an index are read as it
spelled : (ts : List TableIndex) (bytes : List ℕ) → IsIndex ts bytes → whole index bytes ≡ Some ts
spelled ts bytes h =
    let lawful : IsLawful ts = record { tables = h.tables; each = h.each; spells = refl } in
    ap (whole index) (h.spells ∙ sym (index_spells ts)) ∙ whole_again index index_is ts ((decides ts).0 lawful).0

pub unread : (bytes : List ℕ) (stop : Stop) → Stops (whole index bytes) stop → StopsIndex bytes stop
unread bytes stops.Unlike none = λ ts h. let e : None ≡ Some ts = sym none ∙ spelled ts bytes h in absurd cc
unread bytes stops.Memory none = tt

pub read_index : (bytes : List ℕ) (ts : List TableIndex) → IsBytes bytes → whole index bytes ≡ Some ts → IsTrue (have_order ts) → IsIndex ts bytes
unfolding index
read_index bytes ts fits read order =
    let spells = whole_takes index index_is bytes ts fits read in
    let lawful = (decides ts).1 (spells.1, each_layout ts spells.1.0.1.1 order) in
    record { tables = lawful.tables; each = lawful.each; spells = spells.0 ∙ index_spells ts }

pub other_layouts : (bytes : List ℕ) (ts : List TableIndex) → whole index bytes ≡ Some ts → have_order ts ≡ false → IsNoIndex bytes
other_layouts bytes ts read order us h =
    let same : ts ≡ us = some_is ts us (sym read ∙ spelled us bytes h) in
    let lawful : IsLawful us = record { tables = h.tables; each = h.each; spells = refl } in
    let each = all_pass has_order (λ t. IsLayout t.layout) (λ t l. in_order t.layout l) us ((decides us).0 lawful).1 in
    false≢true (sym order ∙ ap have_order same ∙ each)
