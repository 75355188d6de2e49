-- The codecs of indexes keep the laws, and what they read and spell is the store's grammar.
use Rattle.std.proofs.Common.{List, [], arith, map, refl, ℕ, ◌∷◌}
use Rattle.std.specs.Prelude.{codes}
use Rattle.lt_terms.specs.declared.Rank.{Rank}
use Rattle.lt_terms.specs.Kind.{rank_number}
use Rattle.lt_terms.specs.Value.{rises_strictly}
use Rattle.lt_storage.specs.Store.{entry_bytes, index_bytes, leaf_entry_bytes, table_index_bytes}
use Rattle.lt_codecs.specs.CodecLaws.{IsAgain, IsTagged}
use Rattle.lt_codecs.specs.Codec.{IsCodec, byte, bytes16, empty, u16, u32, u64}
use Rattle.lt_codecs.proofs.Codecs.{byte_is, bytes16_is, counted_is, empty_is, literal_is, of_parts_is, on_tag_is, tagged_is, then_is, u16_is, u32_is, u64_is, where_true_is}
use Rattle.lt_codecs.specs.LogCodec.{flag}
use Rattle.lt_codecs.proofs.ValueCodecs.{flag_is}
use Rattle.lt_store_codecs.specs.StoreCodec.{as_entry, as_leaf, entry, has_lawful_entries, index, leaf, parts_of_entry, parts_of_leaf, rank, rank_behind, table_index}
use Rattle.lt_terms.specs.declared.Rank.TheVariants as ranks
use Rattle.lt_codecs.specs.Codec as codec

-- ---- ranks

abbrev pub rank_bytes : Rank → List ℕ
rank_bytes r = rank_number r ∷ []

pub rank_again : (r : Rank) (rest : List ℕ) → IsAgain rank_bytes rank_behind r rest
rank_again ranks.Bool rest = record { tag = 1; text = []; small = omega arith; spells = refl; reads = refl }
rank_again ranks.Int32 rest = record { tag = 2; text = []; small = omega arith; spells = refl; reads = refl }
rank_again ranks.Int64 rest = record { tag = 3; text = []; small = omega arith; spells = refl; reads = refl }
rank_again ranks.Text rest = record { tag = 4; text = []; small = omega arith; spells = refl; reads = refl }
rank_again ranks.Bytes rest = record { tag = 5; text = []; small = omega arith; spells = refl; reads = refl }

pub rank_tagged : IsTagged rank_bytes (λ _. Unit {0}) rank_behind
rank_tagged = record {
  takes = λ tag bytes x rest fits e.
      on_tag_is 1 tag empty (λ _. ranks.Bool) bytes _ x rest empty_is fits (λ y l. (refl, tt))
      (on_tag_is 2 tag empty (λ _. ranks.Int32) bytes _ x rest empty_is fits (λ y l. (refl, tt))
      (on_tag_is 3 tag empty (λ _. ranks.Int64) bytes _ x rest empty_is fits (λ y l. (refl, tt))
      (on_tag_is 4 tag empty (λ _. ranks.Text) bytes _ x rest empty_is fits (λ y l. (refl, tt))
      (on_tag_is 5 tag empty (λ _. ranks.Bytes) bytes _ x rest empty_is fits (λ y l. (refl, tt))
      (λ none. absurd cc))))) e;
  again = λ x rest h. rank_again x rest;
}

pub rank_is : IsCodec rank
unfolding rank
rank_is = tagged_is rank_bytes (λ _. Unit {0}) rank_behind rank_tagged

-- ---- layouts and entries

pub leaf_is : IsCodec leaf
unfolding leaf u16 byte rank flag
leaf_is = of_parts_is as_leaf parts_of_leaf leaf_entry_bytes (codec.◌then◌ u16 (codec.◌then◌ (codec.counted byte u16) (codec.◌then◌ rank flag))) (λ l. refl) (λ p. refl) (λ p h. refl)
    (then_is u16 (codec.◌then◌ (codec.counted byte u16) (codec.◌then◌ rank flag)) u16_is
    (then_is (codec.counted byte u16) (codec.◌then◌ rank flag) (counted_is byte u16 byte_is u16_is) (then_is rank flag rank_is flag_is)))

pub entry_is : IsCodec entry
unfolding entry u64 bytes16 u16
entry_is = of_parts_is as_entry parts_of_entry entry_bytes _ (λ e. refl) (λ p. refl) (λ p h. refl)
    (then_is u64 _ u64_is (then_is u64 _ u64_is (then_is u64 _ u64_is (then_is bytes16 _ bytes16_is (then_is bytes16 _ bytes16_is (then_is u64 u64 u64_is u64_is))))))

pub table_index_is : IsCodec table_index
unfolding table_index u32 u64 leaf entry
table_index_is = where_true_is has_lawful_entries _
    (of_parts_is _ _ table_index_bytes _ (λ t. refl) (λ p. refl) (λ p h. refl)
    (then_is u32 _ u32_is (then_is (codec.counted u32 leaf) _ (counted_is u32 leaf u32_is leaf_is) (counted_is u64 entry u64_is entry_is))))

pub index_is : IsCodec index
unfolding index u32 table_index index_bytes
index_is = where_true_is (λ ts. rises_strictly (map (λ t. t.table) ts)) _
    (of_parts_is _ _ index_bytes _ (λ ts. refl) (λ p. refl) (λ p h. refl)
    (then_is (codec.literal (codes "LTI1")) (codec.counted u32 table_index) (literal_is (codes "LTI1")) (counted_is u32 table_index u32_is table_index_is)))
