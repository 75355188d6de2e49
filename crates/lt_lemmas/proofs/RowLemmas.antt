-- Where a key's changes rise in the list, a row takes them in the list's order.
use Rattle.std.proofs.Common.{List, [], ap, arith, false, le-leb, lt-ltb, ltb-true, refl, true, ℕ, ◌∙◌, ◌∷◌, ◌≡◌}
use Rattle.std.specs.Prelude.{Bool, IsTrue, cond, filter, map, nat_le, nat_lt, ◌&&◌, ◌≤◌}
use Rattle.lt_terms.specs.Log.{Change}
use Rattle.lt_terms.specs.Value.{rises_above, rises_strictly}
use Rattle.lt_tables.specs.Row.{ReadsInOrder, in_time, put_by_ts, row_after}
use Rattle.lt_tables.specs.Fair.{changes_to}
use Rattle.lt_codecs.proofs.ListFacts.{first, second}

abbrev times : List Change → List ℕ
times cs = map (λ c. c.ts) cs

both : (a b : Bool) → IsTrue a → IsTrue b → IsTrue (a && b)
both true b h i = i
both false b h i = h

-- what rises above a number rises above each lower one
lower : (low high : ℕ) → low ≤ high → (ns : List ℕ) → IsTrue (rises_above high ns) → IsTrue (rises_above low ns)
lower low high at [] h = refl
lower low high at (n ∷ ns) h = both (nat_lt low n) (rises_above n ns) (lt-ltb low n (omega (arith, at, ltb-true high n (first (nat_lt high n) _ h)))) (second (nat_lt high n) _ h)

kept_by : (p : Change → Bool) (low : ℕ) (c : Change) (cs : List Change) (b : Bool) → IsTrue (rises_above low (c.ts ∷ times cs)) → IsTrue (rises_above c.ts (times (filter p cs)))
    → IsTrue (rises_above low (times (cond b (c ∷ filter p cs) (filter p cs))))
kept_by p low c cs true h rest = both (nat_lt low c.ts) _ (first (nat_lt low c.ts) _ h) rest
kept_by p low c cs false h rest = lower low c.ts (omega (arith, ltb-true low c.ts (first (nat_lt low c.ts) _ h))) _ rest

-- what is left of a rising list rises
pub rises_filtered : (p : Change → Bool) (low : ℕ) (cs : List Change) → IsTrue (rises_above low (times cs)) → IsTrue (rises_above low (times (filter p cs)))
rises_filtered p low [] h = refl
rises_filtered p low (c ∷ cs) h = kept_by p low c cs (p c) h (rises_filtered p c.ts cs (second (nat_lt low c.ts) _ h))

in_order_from : (c : Change) (cs : List Change) → IsTrue (rises_above c.ts (times cs)) → in_time (c ∷ cs) ≡ c ∷ cs
in_order_from c [] h = refl
in_order_from c (d ∷ cs) h = ap (put_by_ts c) (in_order_from d cs (second (nat_lt c.ts d.ts) _ h))
    ∙ ap (λ t. cond t (c ∷ d ∷ cs) (d ∷ put_by_ts c cs)) (le-leb c.ts d.ts (omega (arith, ltb-true c.ts d.ts (first (nat_lt c.ts d.ts) _ h))))

in_order_above : (low : ℕ) (cs : List Change) → IsTrue (rises_above low (times cs)) → in_time cs ≡ cs
in_order_above low [] h = refl
in_order_above low (c ∷ cs) h = in_order_from c cs (second (nat_lt low c.ts) _ h)

in_order_by : (p : Change → Bool) (c : Change) (cs : List Change) (b : Bool) → IsTrue (rises_above c.ts (times cs)) → in_time (cond b (c ∷ filter p cs) (filter p cs)) ≡ cond b (c ∷ filter p cs) (filter p cs)
in_order_by p c cs true h = in_order_from c (filter p cs) (rises_filtered p c.ts cs h)
in_order_by p c cs false h = in_order_above c.ts (filter p cs) (rises_filtered p c.ts cs h)

in_order : (p : Change → Bool) (cs : List Change) → IsTrue (rises_strictly (times cs)) → in_time (filter p cs) ≡ filter p cs
in_order p [] h = refl
in_order p (c ∷ cs) h = in_order_by p c cs (p c) h

pub reads_in_order : ReadsInOrder
reads_in_order source key t h = ap row_after (in_order (λ c. nat_le c.ts t) (changes_to key source) h)
