use Rattle.std.proofs.Common.{◌++◌, ◌≡◌, ap, flat_map, length, map, sym, ◌∙◌}
use Rattle.std.proofs.lemmas.List.{length-map}
use Rattle.lt_codecs.specs.Codec.{u32, u64}
use Rattle.lt_store_codecs.specs.StoreCodec.{entry, leaf}
use Rattle.lt_core.specs.View.{view_layout, view_leaf}
use Rattle.lt_delta.specs.View.{view_entries, view_entry, view_table}
use Rattle.lt_delta.proofs.Items.{behind}
use Rattle.lt_delta.proofs.Spellings.{table_spells}
use Rattle.lt_delta.proofs.parts.TableIndexCoded.put.Goals as goal

pub returns : goal.returns
returns c =
    let t = c.args.self.now in
    let end = c.put_all-2.new.to in
    let leaves = flat_map leaf.spell (view_layout t.layout) in
    let entries = flat_map entry.spell (view_entries t.entries) in
    let bundles = u64.spell (length (view_entries t.entries)) ++ entries in
    let few : c.u32-2.new.self ≡ c.u32.new.self ++ u32.spell (length (view_layout t.layout)) = c.in_ok-u32-2.ensures.ok ∙ ap (λ n. c.u32.new.self ++ u32.spell n) (c.len.ensures ∙ sym (length-map t.layout view_leaf)) in
    let layout : c.put_all.new.to ≡ c.u32-2.new.self ++ leaves = c.in_ok-put_all.ensures ∙ ap (λ ls. c.u32-2.new.self ++ flat_map leaf.spell (map view_leaf ls)) c.as_slice.ensures in
    let many : c.u64.new.self ≡ c.put_all.new.to ++ u64.spell (length (view_entries t.entries)) = c.in_ok-u64.ensures.ok ∙ ap (λ n. c.put_all.new.to ++ u64.spell n) (c.len-2.ensures ∙ sym (length-map t.entries view_entry)) in
    let each : end ≡ c.u64.new.self ++ entries = c.in_ok-put_all-2.ensures ∙ ap (λ es. c.u64.new.self ++ flat_map entry.spell (map view_entry es)) c.as_slice-2.ensures in
    behind c.args.to.now c.u32.new.self end (u32.spell t.table) (u32.spell (length (view_layout t.layout)) ++ (leaves ++ bundles)) c.in_ok-u32.ensures.ok
    (behind c.u32.new.self c.u32-2.new.self end (u32.spell (length (view_layout t.layout))) (leaves ++ bundles) few
    (behind c.u32-2.new.self c.put_all.new.to end leaves bundles layout
    (behind c.put_all.new.to c.u64.new.self end (u64.spell (length (view_entries t.entries))) entries many each)))
    ∙ ap (λ s. c.args.to.now ++ s) (table_spells (view_table t))
