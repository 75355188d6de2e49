-- The keys in a range have the versions whose key is in the range.
use Rattle.std.proofs.Common.{◌≡◌, ℕ, List, [], ◌∷◌, ◌++◌, refl, sym, ap, ◌∙◌, true, false, Ordering, Less, Equal, Greater}
use Rattle.std.specs.Prelude.{Bool, None, Option, Some, cond, filter, not, ◌&&◌}
use Rattle.std.specs.Ordering.{is_gt, is_le, is_lt, ordering_reverse}
use Rattle.std.specs.declared.cmp.Reverse.{Reverse}
use Rattle.std.specs.declared.ops.Bound.TheVariants.{Excluded, Included, Unbounded}
use Rattle.std.specs.BTreeMap.Range.{entries_between, range_contains}
use Rattle.std.proofs.lemmas.Cmp.{nat_list_cmp_total}
use Rattle.lt_terms.specs.Key.{Range, below, bytes_cmp, in_range}
use Rattle.lt_tables.specs.Version.{RowVersion, clip}
use Rattle.lt_lemmas.proofs.ClipLaws.{key-trans}
use Rattle.lt_memdelta.specs.Groups.{rows_from}
use Rattle.lt_memdelta.specs.Stamps.{rows_of, version_at, versions_at}
use Rattle.lt_memdelta.specs.declared.change.Change.{Change}
use Rattle.lt_memdelta.proofs.Puts.{Held, key-itself}

-- the versions whose key passes a test
module _ (q : List ℕ → Bool) where
  abbrev pub tested : List RowVersion → List RowVersion
  tested vs = filter (λ v. q v.key) vs

  pub test-own : (k : List ℕ) (ss : List (Reverse ℕ × Change)) (ws : List RowVersion) (b : Bool) → q k ≡ b → tested (versions_at k ss ++ ws) ≡ cond b (versions_at k ss ++ tested ws) (tested ws)
  test-own k [] ws true h = refl
  test-own k [] ws false h = refl
  test-own k (s ∷ ss) ws true h = ap (λ b. cond b (version_at k s ∷ tested (versions_at k ss ++ ws)) (tested (versions_at k ss ++ ws))) h ∙ ap (λ vs. version_at k s ∷ vs) (test-own k ss ws true h)
  test-own k (s ∷ ss) ws false h = ap (λ b. cond b (version_at k s ∷ tested (versions_at k ss ++ ws)) (tested (versions_at k ss ++ ws))) h ∙ test-own k ss ws false h

  test-by : (e : Held) (es fs : List Held) (b : Bool) → q e.0 ≡ b → rows_of fs ≡ tested (rows_of es) → rows_of (cond b (e ∷ fs) fs) ≡ tested (rows_of (e ∷ es))
  test-by e es fs true h i = ap (λ vs. versions_at e.0 e.1.entries ++ vs) i ∙ sym (test-own e.0 e.1.entries (rows_of es) true h)
  test-by e es fs false h i = i ∙ sym (test-own e.0 e.1.entries (rows_of es) false h)

  pub test-keys : (p : List ℕ → Bool) (es : List Held) → ((k : List ℕ) → q k ≡ p k) → rows_of (filter (λ e. p e.0) es) ≡ tested (rows_of es)
  test-keys p [] h = refl
  test-keys p (e ∷ es) h = test-by e es (filter (λ e. p e.0) es) (p e.0) (h e.0) (test-keys p es h)

clip-keys : (p : List ℕ → Bool) (r : Range) (es : List Held) → ((k : List ℕ) → in_range k r ≡ p k) → rows_of (filter (λ e. p e.0) es) ≡ clip r (rows_of es)
clip-keys p r es h = test-keys (λ k. in_range k r) p es h

-- ---- the bounds

from-low : (o : Ordering) → not (is_lt o) ≡ is_le (ordering_reverse o)
from-low Less = refl
from-low Equal = refl
from-low Greater = refl

under-high : (o : Ordering) → is_lt o ≡ not (is_le (ordering_reverse o))
under-high Less = refl
under-high Equal = refl
under-high Greater = refl

low-is : (low k : List ℕ) → not (below k low) ≡ is_le (bytes_cmp low k)
low-is low k = from-low (bytes_cmp k low) ∙ ap is_le (sym (nat_list_cmp_total.antisymm low k))

high-is : (high k : List ℕ) → below k high ≡ not (is_le (bytes_cmp high k))
high-is high k = under-high (bytes_cmp k high) ∙ ap (λ o. not (is_le o)) (sym (nat_list_cmp_total.antisymm high k))

and-true : (b : Bool) → (b && true) ≡ b
and-true true = refl
and-true false = refl

pub from-on : (low : List ℕ) (es : List Held) → rows_of (entries_between bytes_cmp (Included low) Unbounded es) ≡ clip (record { low = low; high = None }) (rows_of es)
from-on low es = clip-keys (range_contains bytes_cmp (Included low) Unbounded) (record { low = low; high = None }) es (λ k. ap (λ b. b && true) (low-is low k))

-- the keys from this one on
pub at-or-above : (low : List ℕ) (es : List Held) → rows_of (entries_between bytes_cmp (Included low) Unbounded es) ≡ rows_from low (rows_of es)
at-or-above low es = test-keys (λ k. not (below k low)) (range_contains bytes_cmp (Included low) Unbounded) es (λ k. low-is low k ∙ sym (and-true (is_le (bytes_cmp low k))))

pub between : (low high : List ℕ) (es : List Held) → rows_of (entries_between bytes_cmp (Included low) (Excluded high) es) ≡ clip (record { low = low; high = Some high }) (rows_of es)
between low high es = clip-keys (range_contains bytes_cmp (Included low) (Excluded high)) (record { low = low; high = Some high }) es
    (λ k. ap (λ b. b && below k high) (low-is low k) ∙ ap (λ b. is_le (bytes_cmp low k) && b) (high-is high k))

nothing-by : (low high k : List ℕ) (b c : Bool) → below k low ≡ b → below k high ≡ c → below high low ≡ true → (not b && c) ≡ false
nothing-by low high k true c h i j = refl
nothing-by low high k false false h i j = refl
nothing-by low high k false true h i j = sym (key-trans k high low i j) ∙ h

never : (b : Bool) → false ≡ (b && not b)
never true = refl
never false = refl

-- a high bound that is below the low one leaves nothing
pub nothing : (low high : List ℕ) (es : List Held) → below high low ≡ true → rows_of (entries_between bytes_cmp (Included low) (Excluded low) es) ≡ clip (record { low = low; high = Some high }) (rows_of es)
nothing low high es h = clip-keys (range_contains bytes_cmp (Included low) (Excluded low)) (record { low = low; high = Some high }) es
    (λ k. nothing-by low high k (below k low) (below k high) refl refl h ∙ never (is_le (bytes_cmp low k)))

not-greater : (o : Ordering) → is_lt o ≡ false → is_gt (ordering_reverse o) ≡ false
not-greater Less h = h
not-greater Equal h = refl
not-greater Greater h = refl

pub low-first : (low high : List ℕ) → below high low ≡ false → is_gt (bytes_cmp low high) ≡ false
low-first low high h = ap is_gt (nat_list_cmp_total.antisymm low high) ∙ not-greater (bytes_cmp high low) h

pub low-itself : (low : List ℕ) → is_gt (bytes_cmp low low) ≡ false
low-itself low = ap is_gt (key-itself low)

pub all-of : (es : List Held) → rows_of (entries_between bytes_cmp Unbounded Unbounded es) ≡ rows_of es
all-of [] = refl
all-of (e ∷ es) = ap (λ vs. versions_at e.0 e.1.entries ++ vs) (all-of es)

pub some-key : (o : Option (List ℕ)) (a b : List ℕ) → o ≡ Some a → o ≡ Some b → a ≡ b
some-key o a b h i = cc
