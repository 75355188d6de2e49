-- Which ranges meet an interval.
use Rattle.std.proofs.Common.{List, None, Option, Some, ap, arith, false, inl, inr, length, lt-ltb, ltb-true, refl, subst, suc, sym, true, ℕ, ◌<◌, ◌∙◌, ◌≡◌, ◌≤◌}
use Rattle.std.specs.Prelude.{IsTrue, nat_lt, not, slice_get, ◌↔◌}
use Rattle.std.proofs.lemmas.Bool.{and_from, and_parts, cases_lt, false≢true}
use Rattle.lt_terms.specs.Key.{Range, below, is_below_high, meets, rise}
use Rattle.lt_lemmas.proofs.SoundLaws.{meets-by, not-true, pick}
use Rattle.lt_lemmas.proofs.SplitLaws.{meets_some, not_below_itself}
use Rattle.lt_parts.specs.declared.entry.PartEntry.{PartEntry}
use Rattle.lt_parts.specs.Parts.{HasKey, Meeting, lows_of}
use Rattle.lt_parts.proofs.Bounds.{lows_rise, not_above, up_to_below}
use Rattle.lt_parts.proofs.Ranges.{below_by, below_ends, below_later, entry_of, key_between, high_at, range_with}

-- ---- two ranges

high_after : (a k : List ℕ) (o : Option (List ℕ)) → below k a ≡ false → is_below_high k o ≡ true → is_below_high a o ≡ true
high_after a k None h b = refl
high_after a k (Some c) h b = up_to_below a k c h b

abbrev Full : Range → Type 0
Full r = is_below_high r.low r.high ≡ true

meets_of : (r q : Range) → Full r → Full q → is_below_high r.low q.high ≡ true → is_below_high q.low r.high ≡ true → meets r q ≡ true
meets_of r q f g a b = pick (below r.low q.low)
    (λ e. meets-by q.low r q (and_from _ _ (ap not (not_above r.low q.low e)) b) (and_from _ _ (ap not (not_below_itself q.low)) g))
    (λ e. meets-by r.low r q (and_from _ _ (ap not (not_below_itself r.low)) f) (and_from _ _ (ap not e) a))

-- what a key in both says of their bounds
record Overlaps (r q : Range) : Type 0 where
  full : Full q
  left : is_below_high r.low q.high ≡ true
  right : is_below_high q.low r.high ≡ true

overlaps : (r q : Range) → meets r q ≡ true → Overlaps r q
overlaps r q h =
    let k = meets_some r q h in
    let i = and_parts (not (below k.0 r.low)) (is_below_high k.0 r.high) k.1 in
    let j = and_parts (not (below k.0 q.low)) (is_below_high k.0 q.high) k.2 in record {
      full = high_after q.low k.0 q.high (not-true (below k.0 q.low) j.0) j.1;
      left = high_after r.low k.0 q.high (not-true (below k.0 r.low) i.0) j.1;
      right = high_after q.low k.0 r.high (not-true (below k.0 q.low) j.0) i.1;
    }

-- ---- the partitions and an interval

pub meeting_none : (es : List PartEntry) (q : Range) → is_below_high q.low q.high ≡ false → Meeting es q 0 0
meeting_none es q e = record {
  exact = λ n r h. ((λ m. absurd (false≢true (sym e ∙ (overlaps r q m).full))), (λ l. absurd (omega (arith, l.1))));
  within = omega arith;
  none = inr (refl, refl);
}

abbrev pub CountsBelow : List PartEntry → Option (List ℕ) → ℕ → Type 0
CountsBelow es high last = (n : ℕ) (e : PartEntry) → slice_get es n ≡ Some e → is_below_high e.low high ≡ nat_lt n last

pub record Bounded (es : List PartEntry) (q : Range) (first last : ℕ) : Type 0 where
  pub rises : IsTrue (rise (lows_of es))
  pub full : is_below_high q.low q.high ≡ true
  pub has : HasKey es q.low first
  pub within : last ≤ length es
  pub counts : CountsBelow es q.high last

met_between : (es : List PartEntry) (q : Range) (first last n : ℕ) (e : PartEntry) → Bounded es q first last → slice_get es n ≡ Some e → meets (range_with e.low (high_at es n)) q ≡ true → (first ≤ n) × (n < last)
met_between es q first last n e b h m =
    let o = overlaps (range_with e.low (high_at es n)) q m in
    let y = key_between es q.low first b.has in (
      elim (cases_lt n first) [
        | inl l ↦ absurd (false≢true (sym y.2 ∙ below_later es q.low n first y.0 b.rises y.1 l o.right))
        | inr g ↦ g
      ],
      ltb-true n last (sym (b.counts n e h) ∙ o.left),
    )

between_met : (es : List PartEntry) (q : Range) (first last n : ℕ) (e : PartEntry) → Bounded es q first last → slice_get es n ≡ Some e → first ≤ n → n < last → meets (range_with e.low (high_at es n)) q ≡ true
between_met es q first last n e b h f l =
    let y = key_between es q.low first b.has in
    meets_of (range_with e.low (high_at es n)) q (below_by e.low (slice_get es (suc n)) (λ x i. lows_rise es b.rises n (suc n) e x h i (omega arith))) b.full (b.counts n e h ∙ lt-ltb n last l)
    (below_ends es q.low first n b.rises f y.3)

pub meeting_of : (es : List PartEntry) (q : Range) (first last : ℕ) → Bounded es q first last → Meeting es q first last
meeting_of es q first last b = record {
  exact = λ n r h. let e = entry_of es n r h in
      subst (λ (r : Range). IsTrue (meets r q) ↔ ((first ≤ n) × (n < last))) e.2 ((λ m. met_between es q first last n e.0 b e.1 m), (λ l. between_met es q first last n e.0 b e.1 l.0 l.1));
  within = b.within;
  none = let y = key_between es q.low first b.has in inl (ltb-true first last (sym (b.counts first y.0 y.1) ∙ high_after y.0.low q.low q.high y.2 b.full));
}
